use Rattle.day.proofs.Refused.{refused_alters_nothing}
use Rattle.day.proofs.laws.refusals_alter_nothing.Goals as goal

pub returns : goal.returns
returns c = refused_alters_nothing
