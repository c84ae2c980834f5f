-- A frame as a word: two hex digits to a byte, or `-` (45) for no byte at all.
use Rattle.std.specs.Prelude.{ℕ, ◌+◌, ◌-◌, ◌*◌, ◌%◌, Bool, cond, ◌&&◌, ◌||◌, List, [], ◌∷◌, ◌++◌, length, drop, Some, None, codes, Option, ◌==◌, nat_le}
use Rattle.std.specs.List.{list_all}
use Rattle.std.specs.Str.{bytes_eq}

abbrev pub between : ℕ → ℕ → ℕ → Bool
between low high b = nat_le low b && nat_le b high

-- 0 to 9, A to F, a to f
abbrev pub hex_digit : ℕ → Bool
hex_digit b = between 48 57 b || between 65 70 b || between 97 102 b

-- what a digit stands for; 0 for any other byte
abbrev pub digit_value : ℕ → ℕ
digit_value b = cond (between 48 57 b) (b - 48) (cond (between 65 70 b) (b - 55) (cond (between 97 102 b) (b - 87) 0))

abbrev pub all_hex : List ℕ → Bool
all_hex word = list_all hex_digit word

-- the bytes that pairs of digits stand for, the high digit first
unfoldable pub pairs : List ℕ → List ℕ
pairs [] = []
pairs (b ∷ []) = []
pairs (high ∷ low ∷ bs) = (digit_value high * 16 + digit_value low) ∷ pairs bs

-- `-`, or an even number of digits, at least two
abbrev pub is_frame : List ℕ → Bool
is_frame word = bytes_eq word (codes "-") || (nat_le 2 (length word) && length word % 2 == 0 && all_hex word)

-- how many bytes are put into a buffer
abbrev pub decoded : List ℕ → List ℕ → Option ℕ
decoded word buffer = cond (is_frame word && nat_le (length (pairs word)) (length buffer)) (Some (length (pairs word))) None

-- what the buffer then holds: the bytes in front, or all as it was
abbrev pub frame_after : List ℕ → List ℕ → List ℕ
frame_after word buffer = cond (is_frame word && nat_le (length (pairs word)) (length buffer)) (pairs word ++ drop (length (pairs word)) buffer) buffer
