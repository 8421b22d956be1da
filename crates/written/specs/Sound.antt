-- A written list is sound.
use Rattle.std.specs.Prelude.{◌≡◌, ℕ, ◌<◌, ◌&&◌, All, Bool, Err, List, Ok, false, if◌then◌else◌, refl, map, nat_lt, true}
use Rattle.std.proofs.Common.{arith, length-take}
use Rattle.std.proofs.lemmas.List.{length-map}
use Rattle.std.proofs.lemmas.List.Elements.{All-map}
use Rattle.std.proofs.lemmas.List.Sums.{AllPass-from_list_all}
use Rattle.std.proofs.lemmas.Bool.{and_parts, ltb-false, ltb-true}
use Rattle.std.specs.List.{AllPass}
use Rattle.records.specs.Meaning.{row_instance}
use Rattle.records.specs.Instance.{Instance}
use Rattle.records.specs.declared.fault.RecordFault.TheVariants.{Operator, Reads}
use Rattle.records.specs.declared.row.Row.{Row}
use Rattle.sources.specs.Sound.{Fitting, Sound}
use Rattle.written.specs.Rows.{all_below, judged_fits, row_fits}
use Rattle.written.specs.Meaning.{cells_of, rows_list}
use Rattle.written.specs.declared.list.WrittenList.{WrittenList}

-- cells that pass the test are below C
below_all : (C : ℕ) (cs : List ℕ) → all_below C cs ≡ true → All (λ c. c < C) cs
below_all C cs e = λ k d l. grind (arith, AllPass-from_list_all)

-- what a row that fits passed
pub record Passed (C : ℕ) (r : Row) : Type 0 where
  pub small : nat_lt 15 r.operator ≡ false
  pub few : nat_lt 5 r.count ≡ false
  pub cells : (nat_lt r.written C && all_below C (row_instance r).reads) ≡ true

passed_by : (C : ℕ) (i : Instance) (a b : Bool) → judged_fits C (if a then Err Operator else (if b then Err Reads else Ok i)) ≡ true → (a ≡ false) × (b ≡ false) × ((nat_lt i.written C && all_below C i.reads) ≡ true)
passed_by C i true b e = absurd (cc)
passed_by C i false true e = absurd (cc)
passed_by C i false false e = (refl, refl, e)

pub passed : (C : ℕ) (r : Row) → row_fits C r ≡ true → Passed C r
passed C r e =
    let (a, b, c) = passed_by C (row_instance r) (nat_lt 15 r.operator) (nat_lt 5 r.count) e in
    record { small = a; few = b; cells = c }

fitting : (C : ℕ) (r : Row) → row_fits C r ≡ true → Fitting C (row_instance r)
fitting C r e =
    let p = passed C r e in
    let (w, cs) = and_parts (nat_lt r.written C) (all_below C (row_instance r).reads) p.cells in
    record {
      recordable = record {
        small = ltb-false 15 r.operator p.small;
        few = omega (arith, length-take r.count r.reads, ltb-false 5 r.count p.few);
      };
      written_below = ltb-true r.written C w;
      reads_below = below_all C (row_instance r).reads cs;
    }

-- where all rows fit, so do the instances that they mean
pub all_passed : (C : ℕ) (rs : List Row) → AllPass (row_fits C) rs → All (Fitting C) (map row_instance rs)
all_passed C rs h = All-map (Fitting C) row_instance rs (λ k d l. fitting C _ (h k d l))

pub rows_sound : (w : WrittenList) → Sound (cells_of w) (rows_list w)
rows_sound w =
    record {
      some_cells = w.some_cells;
      few_cells = w.few_cells;
      short = omega (arith, length-map w.rows.now row_instance, w.few_rows);
      fitting = all_passed w.cells w.rows.now w.fit;
    }
