use Rattle.std.proofs.Common.{eqb, false, true, ◌≡◌, ◌∙◌, arith, rules, tests}
use Rattle.std.proofs.lemmas.Iterator.{IsFirst-from_position, YieldsList-from_slice}
use Rattle.std.proofs.lemmas.Iterator.Consumers.{YieldsList-at, YieldsList-from_scan}
use Rattle.records.specs.declared.row.Row.{Row}
use Rattle.written.proofs.Rows.{found_at, left_after, writer_scanned}
use Rattle.written.proofs.list.questions.WrittenListSource.writer.Goals as goal

pub returns : goal.returns
returns c =
    let rows = c.args.self.now.rows.now in
    let q = λ (row : Row). eqb row.written c.args.cell in
    let shown : c.map.result ≡ c.position.result = search (rules, tests) in
    shown
    ∙ writer_scanned c.args.cell c.args.count rows c.position.result
    (IsFirst-from_position _ _ _ (λ b. b ≡ true) (λ b. b ≡ false) c.position.ensures.ran (YieldsList-from_scan _ (left_after q) (found_at q) c.args.count (YieldsList-at c.scan.ensures.source (YieldsList-from_slice rows c.iter.ensures.rest)) (omega (arith, c.scan.ensures.state)) c.scan.ensures.closure (λ b x r h d k. search (rules, tests))) (λ x h k. search (rules, tests)) (λ x h k. search (rules, tests)))
