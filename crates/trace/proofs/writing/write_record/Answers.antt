use Rattle.std.proofs.Common.{◌∙◌, arith}
use Rattle.trace.proofs.Short.{is_shortest, no_room, reads_back, room}
use Rattle.trace.proofs.writing.write_record.Goals as goal

pub returns-then-out-size : goal.returns-then-out-size
returns-then-out-size c =
    let h = c.shortest-layout.ensures in
    let r = no_room _ h.recordable c.args.out.now _ _ c.size-size.ensures h.layout (omega arith) in
    record { answer = r.0; after = r.1; shortest = is_shortest _ h.recordable; reads_back = reads_back _ h.recordable }

pub returns : goal.returns
returns c =
    let h = c.shortest-layout.ensures in
    let r = room _ h.recordable c.args.out.now _ _ c.size-size.ensures h.layout (omega arith) in
    record { answer = r.0; after = c.write.ensures ∙ r.1; shortest = is_shortest _ h.recordable; reads_back = reads_back _ h.recordable }
