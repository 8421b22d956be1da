-- Which bytes spell which record.
use Rattle.std.specs.Prelude.{◌≡◌, ℕ, ◌+◌, ◌*◌, false, List, [], ◌∷◌, ◌++◌, length, Some}
use Rattle.std.specs.List.{slice_get}
use Rattle.records.specs.Instance.{Instance, Recordable}
use Rattle.trace.specs.Layouts.{Fields, byte_of, if_set}

-- bytes hold cells, two bytes to a cell, the low byte first; bytes are below 256, so cells are below 65,536
abbrev pub Hold : List ℕ → List ℕ → Type 0
Hold [] [] = Unit {0}
Hold (b ∷ bs) [] = ⊥
Hold [] (c ∷ cs) = ⊥
Hold (l ∷ []) (c ∷ cs) = ⊥
Hold (l ∷ (h ∷ bs)) (c ∷ cs) = (c ≡ l + 256 * h) × Hold bs cs

-- the bytes are a map byte, the operator where its bit stands, and the cells whose bits stand; an operator that
-- is left out is 0, and a written cell that is left out is the first that is read
pub record Spells (bs : List ℕ) (i : Instance) : Type 0 where
  pub fields : Fields
  pub cells : List ℕ
  pub whole : bs ≡ byte_of fields ∷ (if_set fields.operator i.operator ++ cells)
  pub held : Hold cells (if_set fields.written i.written ++ i.reads)
  pub reads : fields.reads ≡ length i.reads
  pub operator : fields.operator ≡ false → i.operator ≡ 0
  pub written : fields.written ≡ false → slice_get i.reads 0 ≡ Some i.written
  pub sound : Recordable i

-- no bytes begin with the spellings of two records
abbrev pub Unambiguous : Type 0
Unambiguous = (s t s' t' : List ℕ) (i i' : Instance) → s ++ t ≡ s' ++ t' → Spells s i → Spells s' i' → (s ≡ s') × (i ≡ i')
