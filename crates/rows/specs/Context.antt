-- What the rows may look at besides the frame and the code book.
use Rattle.std.specs.Prelude.{Bool, true, false}
use Rattle.rows.specs.declared.context.Phase.{Phase}
use Rattle.rows.specs.declared.context.Phase.TheVariants.{Fresh, Open, Closed}

abbrev pub is_open : Phase → Bool
is_open Fresh = false
is_open Open = true
is_open Closed = false
