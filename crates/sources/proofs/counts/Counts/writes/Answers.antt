use Rattle.sources.proofs.Writers.{writer_counted}
use Rattle.sources.proofs.counts.Counts.writes.Goals as goal

pub returns-clause-law : goal.returns-clause-law
returns-clause-law g c = writer_counted
