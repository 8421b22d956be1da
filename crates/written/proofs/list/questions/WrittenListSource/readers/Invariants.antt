use Rattle.std.proofs.Common.{◌≡◌, ℕ, ◌*◌, ◌≤◌, eqb, List, map, take, count_by}
use Rattle.records.specs.Meaning.{row_instance}
use Rattle.records.specs.declared.row.Row.{Row}
use Rattle.sources.proofs.Readers.{version_slots}
use Rattle.sources.specs.Numbers.{total}
use Rattle.written.proofs.list.questions.WrittenListSource.readers.Given as goal

-- what the first i rows count
pub record Counts (cell version : ℕ) (rows : List Row) (i seen readers : ℕ) : Type 0 where
  pub writes : seen ≡ count_by (λ (r : Row). eqb r.written cell) (take i rows)
  pub slots : readers ≡ total (version_slots cell version (map row_instance rows)) i
  pub few_writes : seen ≤ i
  pub few_slots : readers ≤ 5 * i

abbrev pub invariant-loop-row : goal.invariant-loop-row
invariant-loop-row l = Counts l.cell l.version l.self.rows.now l.row-index l.seen l.readers
