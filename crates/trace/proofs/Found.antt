-- The record that reading finds.
use Rattle.std.proofs.Common.{◌≡◌, ℕ, zero, suc, ◌+◌, ◌*◌, ◌<◌, ◌≤◌, Bool, true, false, if◌then◌else◌, List, ◌++◌, length, get_or, take, drop, sym, refl, ap, ◌∙◌, zero-add, one-add, arith}
use Rattle.std.proofs.lemmas.Bool.Decides.{nat_tests}
use Rattle.std.proofs.lemmas.List.{drop-drop, take_at}
use Rattle.std.specs.Result.{result_map_both}
use Rattle.records.proofs.Parts.{same_parts}
use Rattle.records.specs.Instance.{Instance}
use Rattle.records.specs.Making.{judged_row}
use Rattle.records.specs.Meaning.{row_instance}
use Rattle.records.specs.declared.row.Row.{Row}
use Rattle.trace.specs.Layouts.{Fields, bit, cells_of, size_of}
use Rattle.trace.specs.Reading.{cell_in, cells_in, found, record_at}
use Rattle.trace.specs.declared.fault.ReadCause.TheVariants.{Operator}

-- the written cell is the first that stands, and the reads are the rest, or all
first_cell : (n : ℕ) (bs : List ℕ) → 0 < n → get_or (cells_in n bs) 0 0 ≡ cell_in bs
first_cell zero bs h = omega arith
first_cell (suc n) bs h = refl

other_cells : (w : Bool) (n : ℕ) (bs : List ℕ) → drop (bit w) (cells_in (bit w + n) bs) ≡ cells_in n (drop (2 * bit w) bs)
other_cells true n bs = rw one-add
other_cells false n bs = rw zero-add

pub length_cells : (n : ℕ) (bs : List ℕ) → length (cells_in n bs) ≡ n
length_cells zero bs = refl
length_cells (suc n) bs = ap suc (length_cells n (drop 2 bs))

-- cells that were read into the front of others
pub cells_kept : (n : ℕ) (cells others bs : List ℕ) → cells ≡ cells_in n bs → take n (cells ++ drop n others) ≡ cells_in n bs
cells_kept n cells others bs e = take_at cells (drop n others) n (ap length e ∙ length_cells n bs) ∙ e

-- a row whose parts lie in bytes as their fields say means the record in them
pub row_found : (bs : List ℕ) (y : Fields) (r : Row) → 0 < cells_of y → r.operator ≡ (if y.operator then get_or bs 1 0 else 0) → r.written ≡ cell_in (drop (1 + bit y.operator) bs) → take r.count r.reads ≡ cells_in y.reads (drop (1 + bit y.operator + 2 * bit y.written) bs) → row_instance r ≡ found y bs
row_found bs y r some o w cells =
    let at : ℕ = 1 + bit y.operator in
    same_parts (row_instance r) (found y bs) o
    (w ∙ sym (first_cell (cells_of y) (drop at bs) some))
    (cells ∙ sym (other_cells y.written y.reads (drop at bs) ∙ ap (cells_in y.reads) (drop-drop (2 * bit y.written) at bs)))

-- and what is made of such a row is what reading answers
pub row_made : (bs : List ℕ) (y : Fields) (r : Row) → size_of y ≤ length bs → r.count ≤ 5 → row_instance r ≡ found y bs → result_map_both (λ i. i) (λ _. Operator) (judged_row r) ≡ record_at bs y
row_made bs y r fits few e = grind (arith, nat_tests, ap (λ (i : Instance). i.operator) e)
