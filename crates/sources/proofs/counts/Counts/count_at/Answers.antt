use Rattle.sources.proofs.Writers.{writer_exact}
use Rattle.sources.proofs.counts.Counts.count_at.Goals as goal

pub returns-clause-law : goal.returns-clause-law
returns-clause-law g c = writer_exact
