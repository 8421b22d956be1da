use Rattle.std.proofs.Common.{Some, Ok, Err}
use Rattle.std.proofs.lemmas.Result.{err_from_is_err_and}
use Rattle.trace.proofs.Exact.{unambiguous}
use Rattle.trace.proofs.Steps.{step_finds}
use Rattle.trace.specs.Reader.{cursor}
use Rattle.trace.specs.Reading.{piece}
use Rattle.trace.proofs.reader.TraceReader.next_record.Goals as goal

pub returns-in_err-front-clause-finds : goal.returns-in_err-front-clause-finds
returns-in_err-front-clause-finds c =
    let p = err_from_is_err_and c.from_residual.result c.from_residual.ensures.1 in
    rw (p.1, p.2) (step_finds (cursor c.args.self.now) (Err _) c.in_err-front.ensures)

pub returns-in_err-front-clause-unambiguous : goal.returns-in_err-front-clause-unambiguous
returns-in_err-front-clause-unambiguous c = unambiguous

pub returns-in_default-clause-unambiguous : goal.returns-in_default-clause-unambiguous
returns-in_default-clause-unambiguous c = unambiguous

pub returns-clause-finds : goal.returns-clause-finds
returns-clause-finds c =
    step_finds (cursor c.args.self.now) (Ok (Some (piece c.in-Some.front))) (rw c.in-Some.is at c.in_ok-front.ensures)

pub returns-clause-unambiguous : goal.returns-clause-unambiguous
returns-clause-unambiguous c = unambiguous
