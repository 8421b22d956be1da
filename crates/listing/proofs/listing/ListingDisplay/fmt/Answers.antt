use Rattle.std.proofs.Common.{◌+◌, ◌++◌, refl, ◌∙◌, arith}
use Rattle.std.proofs.Output.{has_written_of_eq, has_written_append}
use Rattle.records.specs.Meaning.{instance}
use Rattle.trace.proofs.Walks.{rest_of, same_bytes, stepped_on}
use Rattle.trace.specs.Reader.{cursor}
use Rattle.listing.proofs.Texts.{told_more, told_to_the_end}
use Rattle.listing.specs.Lines.{line}
use Rattle.listing.proofs.listing.ListingDisplay.fmt.Goals as goal

pub returns-in-Err-clause-writes : goal.returns-in-Err-clause-writes
returns-in-Err-clause-writes g c =
    λ p ok. let (bs, put, eq) = c.loop-record.invariant.2 p in
    let go = stepped_on (cursor c.loop-record.reader) (cursor c.next_record.new.self) _ c.in-Err.ensures.answer c.next_record.ensures.after in
    has_written_of_eq g.W.Write.write_str_gives _ _ _ _ (told_to_the_end c.args.self.now.bytes.now bs c.loop-record.count _ _ (omega arith) go eq)
    (has_written_append g.W.Write.write_str_gives _ _ _ _ _ put (c.writeln-in-Err.ensures.writes put.plain ok))

pub returns-in-Ok-None-clause-writes : goal.returns-in-Ok-None-clause-writes
returns-in-Ok-None-clause-writes g c =
    λ p ok. let (bs, put, eq) = c.loop-record.invariant.2 p in
    let go = stepped_on (cursor c.loop-record.reader) (cursor c.next_record.new.self) _ (rw c.in-Ok-None.field-0-is at c.in-Ok-None.ensures.answer) c.next_record.ensures.after in
    has_written_of_eq g.W.Write.write_str_gives _ _ _ _ (told_to_the_end c.args.self.now.bytes.now bs c.loop-record.count _ _ (omega arith) go eq)
    (has_written_append g.W.Write.write_str_gives _ _ _ _ _ put (c.writeln-in-Ok-None.ensures.writes put.plain ok))

pub loop-record-preserved : goal.loop-record-preserved
loop-record-preserved g c =
    let at = cursor c.loop-record.reader in
    let to = cursor c.next_record.new.self in
    let new = instance c.in-Ok-Some.«record» in
    let go = stepped_on at to _ (rw c.in-Ok-Some.field-0-is at c.in-Ok-Some.ensures.answer) c.next_record.ensures.after in (
      same_bytes at to c.next_record.ensures.after ∙ c.loop-record.invariant.0,
      omega (arith, go.1, c.loop-record.invariant.1),
      λ p. let (bs, put, eq) = c.loop-record.invariant.2 p in
          let more = c.in_ok-writeln-in-Ok-Some.ensures.writes put.plain refl in
          (bs ++ line (c.loop-record.count + 1) new, has_written_append g.W.Write.write_str_gives _ _ _ _ _ put more, told_more bs _ _ c.loop-record.count new (rest_of at) (rest_of to) go.0 eq refl),
    )
