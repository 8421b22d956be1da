use Rattle.std.proofs.Common.{arith, map, Some, None, vec_items}
use Rattle.std.proofs.lemmas.List.{map_push}
use Rattle.std.proofs.lemmas.Result.{err_from_is_err_and}
use Rattle.records.specs.Meaning.{instance}
use Rattle.trace.proofs.Walks.{ahead_more, ends_at_reader, same_bytes, stepped_on}
use Rattle.trace.specs.Reader.{cursor}
use Rattle.trace.proofs.whole.read_trace.Goals as goal

pub returns-in_err-record-clause-spelled : goal.returns-in_err-record-clause-spelled
returns-in_err-record-clause-spelled c =
    let p = err_from_is_err_and c.from_residual.result c.from_residual.ensures.1 in
    let at = cursor c.loop-records.reader in
    let go = stepped_on at _ _ c.in_err-record.ensures.answer c.next_record.ensures.after in
    rw (p.1, p.2) (_, ends_at_reader c.args.bytes.now (map instance (vec_items c.loop-records.records)) at (Some _) c.loop-records.invariant.1 go)

pub loop-records-preserved : goal.loop-records-preserved
loop-records-preserved c =
    let at = cursor c.loop-records.reader in
    let to = cursor c.next_record.new.self in
    let go = stepped_on at to _ (rw c.in-Some.is at c.in_ok-record.ensures.answer) c.next_record.ensures.after in
    grind (arith, ahead_more, same_bytes, go, c.in_ok-push.ensures.items, map_push)

pub returns-clause-spelled : goal.returns-clause-spelled
returns-clause-spelled c =
    let at = cursor c.loop-records.reader in
    let go = stepped_on at (cursor c.next_record.new.self) _ (rw c.in_default.is at c.in_ok-record.ensures.answer) c.next_record.ensures.after in
    ends_at_reader c.args.bytes.now (map instance (vec_items c.loop-records.records)) at None c.loop-records.invariant.1 go
