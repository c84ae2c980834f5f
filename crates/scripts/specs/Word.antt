-- The words of a line: its parts at single spaces (32).
use Rattle.std.specs.Prelude.{ℕ, List, length}
use Rattle.cuts.specs.Cut.{parts, part_at}

-- counted from 0, the name of the call
abbrev pub word_of : ℕ → List ℕ → List ℕ
word_of number line = part_at 32 number line

abbrev pub word_count : List ℕ → ℕ
word_count line = length (parts 32 line)
