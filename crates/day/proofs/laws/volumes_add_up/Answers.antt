use Rattle.day.proofs.Volumes.{volumes_add_up}
use Rattle.day.proofs.laws.volumes_add_up.Goals as goal

pub returns : goal.returns
returns c = volumes_add_up
