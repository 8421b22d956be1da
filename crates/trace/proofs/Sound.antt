-- What is read is spelled.
use Rattle.std.proofs.Common.{◌≡◌, ℕ, ◌+◌, ◌*◌, ◌<◌, ◌≤◌, Bool, false, if◌then◌else◌, List, [], ◌∷◌, ◌++◌, length, get_or, take, drop, Some, None, Ok, Result, sym, refl, ap, ◌∙◌, arith}
use Rattle.std.proofs.lemmas.Option.{same_Some}
use Rattle.std.proofs.lemmas.List.{length-drop}
use Rattle.std.proofs.lemmas.Bool.Decides.{nat_tests}
use Rattle.std.proofs.lemmas.Grind.{common_steps}
use Rattle.std.specs.List.{slice_get}
use Rattle.std.specs.Result.{result_map_both}
use Rattle.records.specs.Instance.{Instance}
use Rattle.records.specs.Making.{result_map}
use Rattle.trace.proofs.Found.{length_cells}
use Rattle.trace.proofs.Bytes.{Told, byte_from}
use Rattle.trace.proofs.Held.{held_cells}
use Rattle.trace.specs.Layouts.{Fields, bit, cells_of, size_of, if_set}
use Rattle.trace.specs.Reading.{Piece, and_then, cells_in, found, layout_at, read_at, record_at}
use Rattle.trace.specs.Spelling.{Spells}

then_ok : {A B E F : Type 0} (g : E → F) (r : Result A E) (f : A → Result B E) (x : B) → result_map_both (λ y. y) g (and_then r f) ≡ Ok x → (a : A) × (r ≡ Ok a) × (f a ≡ Ok x)
then_ok g r f x e = grind arith

map_ok : {A B E : Type 0} (f : A → B) (r : Result A E) (x : B) → result_map f r ≡ Ok x → (a : A) × (r ≡ Ok a) × (f a ≡ x)
map_ok f r x e = grind arith

-- what a record that was found is
within : (bs : List ℕ) (y : Fields) (i : Instance) → record_at bs y ≡ Ok i → (size_of y ≤ length bs) × (found y bs ≡ i) × ((found y bs).operator ≤ 15)
within bs y i e = grind (arith, nat_tests)

-- the cells that stand are the written cell, where its bit does, and the reads
rejoined : (w : Bool) (cs : List ℕ) → 0 < length cs → if_set w (get_or cs 0 0) ++ drop (bit w) cs ≡ cs
rejoined w cs h = grind (arith, common_steps)

written_out : (w : Bool) (cs : List ℕ) → 0 < length cs → w ≡ false → slice_get (drop (bit w) cs) 0 ≡ Some (get_or cs 0 0)
written_out w cs h e = grind (arith, common_steps)

operator_out : (o : Bool) (c : ℕ) → o ≡ false → (if o then c else 0) ≡ 0
operator_out o c e = grind arith

-- the bytes of a record, field by field
cut : (o : Bool) (n b : ℕ) (bs : List ℕ) → bit o + n ≤ length bs → take (1 + (bit o + n)) (b ∷ bs) ≡ b ∷ (if_set o (if o then get_or (b ∷ bs) 1 0 else 0) ++ take n (drop (1 + bit o) (b ∷ bs)))
cut o n b bs h = grind (arith, common_steps)

module _ (b : ℕ) (bs : List ℕ) (y : Fields) (told : Told b y) (fits : size_of y ≤ length (b ∷ bs)) (small : (found y (b ∷ bs)).operator ≤ 15) where
  rest : List ℕ
  rest = drop (1 + bit y.operator) (b ∷ bs)

  enough : 2 * cells_of y ≤ length rest
  unfolding rest
  enough = omega (arith, length-drop (1 + bit y.operator) (b ∷ bs))

  stands : 0 < length (cells_in (cells_of y) rest)
  stands = omega (arith, length_cells (cells_of y) rest, told.some)

  count : y.reads ≡ length (found y (b ∷ bs)).reads
  unfolding rest
  count = sym (length-drop (bit y.written) (cells_in (cells_of y) rest) ∙ omega (arith, length_cells (cells_of y) rest))

  cut_spells : Spells (take (size_of y) (b ∷ bs)) (found y (b ∷ bs))
  unfolding rest
  cut_spells = record {
    fields = y;
    cells = take (2 * cells_of y) rest;
    whole = cut y.operator (2 * cells_of y) b bs (omega arith) ∙ ap (λ (k : ℕ). k ∷ (if_set y.operator (found y (b ∷ bs)).operator ++ take (2 * cells_of y) rest)) told.byte;
    held = rw (rejoined y.written (cells_in (cells_of y) rest) stands) (held_cells (cells_of y) rest enough);
    reads = count;
    operator = operator_out y.operator (get_or (b ∷ bs) 1 0);
    written = written_out y.written (cells_in (cells_of y) rest) stands;
    sound = record { small = small; few = omega (arith, count, told.few) };
  }

-- the record that is read is spelled by the bytes that it takes
pub read_spelled : (p : ℕ) (bs : List ℕ) (x : Piece) → read_at p bs ≡ Ok (Some x) → Spells (take x.size bs) x.meaning × (x.size ≤ length bs)
read_spelled p [] x e = cc
read_spelled p (b ∷ bs) x e =
    let (y, tells, more) = then_ok _ (layout_at b) _ (Some x) e in
    let (i, at, made) = map_ok _ (record_at (b ∷ bs) y) (Some x) more in
    let (fits, found_is, small) = within (b ∷ bs) y i at in
    rw (sym (same_Some _ x made), sym found_is) (cut_spells b bs y (byte_from b y tells) fits small, fits)

-- none is read only where nothing is left
pub none_left : (p : ℕ) (bs : List ℕ) → read_at p bs ≡ Ok None → bs ≡ []
none_left p [] e = refl
none_left p (b ∷ bs) e =
    let (y, tells, more) = then_ok _ (layout_at b) _ None e in
    let (i, at, made) = map_ok _ (record_at (b ∷ bs) y) None more in
    cc
