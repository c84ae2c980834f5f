-- Bytes as text that a terminal can show.
use Rattle.std.specs.Prelude.{ℕ, ◌+◌, ◌/◌, ◌%◌, Bool, cond, not, ◌&&◌, List, [], ◌∷◌, ◌++◌, codes, ◌==◌, nat_lt}
use Rattle.std.specs.List.{flat_map}
use Rattle.text.specs.Printable.{printable}

-- a byte that stands for itself: printable, and neither a double quote nor a backslash
abbrev pub plain : ℕ → Bool
plain b = printable b && not (b == 34) && not (b == 92)

abbrev pub hex_digit : ℕ → ℕ
hex_digit n = cond (nat_lt n 10) (48 + n) (87 + n)

-- any other byte is a backslash, an x, and two hexadecimal digits
abbrev pub escaped : ℕ → List ℕ
escaped b = cond (plain b) (b ∷ []) (codes "\\x" ++ (hex_digit (b / 16) ∷ []) ++ (hex_digit (b % 16) ∷ []))

abbrev pub quoted_text : List ℕ → List ℕ
quoted_text bs = codes "\"" ++ flat_map escaped bs ++ codes "\""
