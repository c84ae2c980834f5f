-- Decimal numbers without leading zeros, below 2^64.
use Rattle.std.specs.Prelude.{ℕ, ◌+◌, ◌-◌, ◌*◌, ◌^◌, Bool, cond, not, ◌&&◌, List, [], ◌∷◌, length, Some, None, Option, ◌==◌, nat_le, nat_lt, slice_index}
use Rattle.std.specs.Str.{all_ascii_digits}

-- the number that digits write, after the number so far; 0 is the byte 48
abbrev pub read_on : ℕ → List ℕ → ℕ
read_on n [] = n
read_on n (digit ∷ digits) = read_on (10 * n + (digit - 48)) digits

abbrev pub leading_zero : List ℕ → Bool
leading_zero word = slice_index word 0 == 48 && nat_lt 1 (length word)

abbrev pub is_number : List ℕ → Bool
is_number word = nat_le 1 (length word) && all_ascii_digits word && not (leading_zero word) && nat_lt (read_on 0 word) (2 ^ 64)

unfoldable pub number_in : List ℕ → Option ℕ
number_in word = cond (is_number word) (Some (read_on 0 word)) None
