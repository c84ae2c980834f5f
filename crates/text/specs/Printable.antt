-- Printable ASCII: the bytes from 32, the space, to 126.
use Rattle.std.specs.Prelude.{ℕ, Bool, ◌&&◌, List, nat_le}
use Rattle.std.specs.List.{list_all}

abbrev pub printable : ℕ → Bool
printable b = nat_le 32 b && nat_le b 126

abbrev pub all_printable : List ℕ → Bool
all_printable part = list_all printable part
