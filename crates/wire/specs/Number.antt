-- Numbers on the wire: unsigned, the highest byte first.
use Rattle.std.specs.Prelude.{ℕ, zero, suc, ◌+◌, ◌*◌, ◌/◌, ◌%◌, cond, List, [], ◌∷◌, ◌++◌, length, Some, None, Option, ◌==◌}

-- the number that some bytes write, after the number that those before them write
unfoldable pub value_after : ℕ → List ℕ → ℕ
value_after n [] = n
value_after n (b ∷ bs) = value_after (n * 256 + b) bs

unfoldable pub value_of : List ℕ → ℕ
value_of bs = value_after 0 bs

-- the lowest bytes of a number, as many as its field is wide
unfoldable pub bytes_of : ℕ → ℕ → List ℕ
bytes_of zero n = []
bytes_of (suc width) n = bytes_of width (n / 256) ++ (n % 256 ∷ [])

-- the number in a part, where the part is as wide as the number's field
abbrev pub number_in : ℕ → List ℕ → Option ℕ
number_in width part = cond (length part == width) (Some (value_of part)) None
