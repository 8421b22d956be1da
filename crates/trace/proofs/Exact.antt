-- Reading finds exactly what is spelled.
use Rattle.std.proofs.Common.{◌≡◌, ℕ, ◌+◌, ◌<◌, ◌≤◌, Bool, false, if◌then◌else◌, List, ◌∷◌, ◌++◌, length, get_or, take, drop, Some, Ok, Option, Result, sym, refl, ap, ◌∙◌, append_assoc, arith, length-append}
use Rattle.std.proofs.lemmas.Bool.Decides.{nat_tests}
use Rattle.std.proofs.lemmas.Grind.{common_steps}
use Rattle.std.proofs.lemmas.List.{take_at}
use Rattle.std.specs.List.{slice_get}
use Rattle.records.proofs.Parts.{same_parts}
use Rattle.records.specs.Instance.{Instance}
use Rattle.trace.proofs.Bytes.{byte_tells}
use Rattle.trace.proofs.Held.{length_held, cells_held}
use Rattle.trace.specs.Layouts.{Fields, bit, byte_of, cells_of, size_of, if_set}
use Rattle.trace.specs.Reading.{Piece, cells_in, found, layout_at, read_at, record_at}
use Rattle.trace.specs.Spelling.{Spells, Unambiguous}
use Rattle.trace.specs.declared.fault.ReadFault.{ReadFault}

-- the written cell is the first of the cells that stand
first_is : (w : Bool) (c : ℕ) (rs : List ℕ) → (w ≡ false → slice_get rs 0 ≡ Some c) → get_or (if_set w c ++ rs) 0 0 ≡ c
first_is w c rs h = grind (arith, common_steps)

rest_is : (w : Bool) (c : ℕ) (rs : List ℕ) → drop (bit w) (if_set w c ++ rs) ≡ rs
rest_is w c rs = grind (arith, common_steps)

count_is : (w : Bool) (c : ℕ) (rs : List ℕ) (n : ℕ) → n ≡ length rs → bit w + n ≡ length (if_set w c ++ rs)
count_is w c rs n e = grind (arith, common_steps)

some_is : (w : Bool) (c : ℕ) (rs : List ℕ) → (w ≡ false → slice_get rs 0 ≡ Some c) → 0 < length (if_set w c ++ rs)
some_is w c rs h = grind (arith, common_steps)

operator_is : (o : Bool) (c b : ℕ) (xs : List ℕ) → (o ≡ false → c ≡ 0) → (if o then get_or (b ∷ (if_set o c ++ xs)) 1 0 else 0) ≡ c
operator_is o c b xs h = grind arith

past_operator : (o : Bool) (c b : ℕ) (xs : List ℕ) → drop (1 + bit o) (b ∷ (if_set o c ++ xs)) ≡ xs
past_operator o c b xs = grind arith

length_fields : (o : Bool) (c b : ℕ) (xs : List ℕ) → length (b ∷ (if_set o c ++ xs)) ≡ 1 + (bit o + length xs)
length_fields o c b xs = grind arith

record_is : (bs : List ℕ) (y : Fields) (i : Instance) → size_of y ≤ length bs → found y bs ≡ i → i.operator ≤ 15 → record_at bs y ≡ Ok i
record_is bs y i fits is small = grind (arith, nat_tests)

module _ (s t : List ℕ) (i : Instance) (h : Spells s i) where
  count : cells_of h.fields ≡ length (if_set h.fields.written i.written ++ i.reads)
  count = count_is h.fields.written i.written i.reads h.fields.reads h.reads

  pub size_is : length s ≡ size_of h.fields
  size_is =
      omega (
        arith,
        ap length h.whole,
        length_fields h.fields.operator i.operator (byte_of h.fields) h.cells,
        length_held h.cells (if_set h.fields.written i.written ++ i.reads) h.held,
        count,
      )

  laid : List ℕ
  laid = byte_of h.fields ∷ (if_set h.fields.operator i.operator ++ (h.cells ++ t))

  laid_is : s ++ t ≡ laid
  unfolding laid
  laid_is =
      ap (λ (l : List ℕ). l ++ t) h.whole
      ∙ ap (λ (l : List ℕ). byte_of h.fields ∷ l) (append_assoc (if_set h.fields.operator i.operator) h.cells t)

  cells_are : cells_in (cells_of h.fields) (drop (1 + bit h.fields.operator) laid) ≡ if_set h.fields.written i.written ++ i.reads
  unfolding laid
  cells_are =
      ap (cells_in (cells_of h.fields)) (past_operator h.fields.operator i.operator (byte_of h.fields) (h.cells ++ t))
      ∙ (ap (λ (n : ℕ). cells_in n (h.cells ++ t)) count
      ∙ cells_held h.cells (if_set h.fields.written i.written ++ i.reads) t h.held)

  laid_found : found h.fields laid ≡ i
  unfolding laid
  laid_found =
      same_parts (found h.fields laid) i
      (operator_is h.fields.operator i.operator (byte_of h.fields) (h.cells ++ t) h.operator)
      (ap (λ (l : List ℕ). get_or l 0 0) cells_are ∙ first_is h.fields.written i.written i.reads h.written)
      (ap (λ (l : List ℕ). drop (bit h.fields.written) l) cells_are ∙ rest_is h.fields.written i.written i.reads)

  laid_record : record_at laid h.fields ≡ Ok i
  laid_record =
      record_is laid h.fields i (omega (arith, size_is, ap length laid_is, length-append s t)) laid_found h.sound.small

  laid_layout : layout_at (byte_of h.fields) ≡ Ok h.fields
  laid_layout =
      byte_tells h.fields (omega (arith, h.reads, h.sound.few))
      (omega (arith, count, some_is h.fields.written i.written i.reads h.written))

  -- a record is read wherever its spelling begins the bytes
  pub spelled_read : (p : ℕ) → read_at p (s ++ t) ≡ Ok (Some (record { meaning = i; size = length s }))
  unfolding laid
  spelled_read p = rw (laid_is, laid_layout, laid_record, size_is) refl

same_front : (i j : Instance) (m n : ℕ) → ◌≡◌ {A = Result (Option Piece) ReadFault} (Ok (Some (record { meaning = i; size = m }))) (Ok (Some (record { meaning = j; size = n }))) → (m ≡ n) × (i ≡ j)
same_front i j m n e = grind arith

-- two spellings that begin the same bytes are one
pub unambiguous : Unambiguous
unambiguous s t s' t' i i' e h h' =
    let (n, same) = same_front i i' (length s) (length s') (sym (spelled_read s t i h 0) ∙ (ap (read_at 0) e ∙ spelled_read s' t' i' h' 0)) in
    (sym (take_at s t (length s) refl) ∙ ((λ k. take (n k) (e k)) ∙ take_at s' t' (length s') refl), same)
