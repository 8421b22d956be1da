use Rattle.std.proofs.Common.{◌≡◌, ℕ, ◌+◌, ◌*◌, ◌<◌, ◌≤◌, if◌then◌else◌, List, [], ◌∷◌, ◌++◌, length, get_or, take, drop, ap, ◌∙◌, arith, rules}
use Rattle.std.proofs.lemmas.List.{length-take-le, take_rest}
use Rattle.std.specs.Result.{result_map_both}
use Rattle.records.specs.Making.{result_map}
use Rattle.records.specs.Meaning.{instance}
use Rattle.trace.proofs.Found.{cells_kept, row_found, row_made}
use Rattle.trace.specs.Layouts.{Fields, bit, cells_of, size_of}
use Rattle.trace.specs.Reading.{cell_in, cells_in}
use Rattle.trace.specs.declared.fault.ReadCause.TheVariants.{Operator}
use Rattle.trace.proofs.layout.Layout.record.Goals as goal

pub returns : goal.returns
returns c =
    let bs : List ℕ = c.args.bytes.now in
    let y : Fields = c.args.self.now in
    let fits : size_of y ≤ length bs = omega (arith, c.size.ensures, c.if-bytes-size.false) in
    let some : 0 < cells_of y = rw (← c.self.view_is) c.self.invariant.1 in
    let operator : c.if-self.operator ≡ (if y.operator then get_or bs 1 0 else 0) = search rules in
    let shown : result_map instance c.map_err.result ≡ result_map_both (λ i. i) (λ _. Operator) (result_map instance c.try_from.result) = search rules in
    let zeros : List ℕ = 0 ∷ 0 ∷ 0 ∷ 0 ∷ 0 ∷ [] in
    let few : c.self.inside.reads ≤ 5 = c.self.invariant.0 in
    let count : c.self.inside.reads ≡ y.reads = ap (λ (f : Fields). f.reads) c.self.view_is in
    let first : c.first_cell-first.result ≡ 1 + bit y.operator = c.first_cell-first.ensures in
    let second : c.from.result ≡ bit y.written = search rules in
    let at : ℕ = c.first_cell-first.result + 2 * c.from.result in
    let cells : c.read_cells.new.cells ≡ cells_in c.self.inside.reads (drop at bs) =
    c.read_cells.ensures ∙ (λ j. cells_in (length-take-le c.self.inside.reads zeros few j) (take_rest bs at j)) in
    let reads : take c.self.inside.reads (c.read_cells.new.cells ++ drop c.self.inside.reads zeros) ≡ cells_in y.reads (drop (1 + bit y.operator + 2 * bit y.written) bs) =
    cells_kept c.self.inside.reads c.read_cells.new.cells zeros (drop at bs) cells ∙ (λ j. cells_in (count j) (drop (first j + 2 * second j) bs)) in
    let written = c.read_cell-written.ensures ∙ (ap cell_in (take_rest bs c.first_cell-first.result) ∙ ap (λ (n : ℕ). cell_in (drop n bs)) first) in
    shown ∙ (ap (result_map_both (λ i. i) (λ _. Operator)) c.try_from.ensures.0
    ∙ row_made bs y _ fits few
    (row_found bs y _ some operator written reads))
