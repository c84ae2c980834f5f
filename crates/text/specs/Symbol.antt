-- A symbol is the eleven bytes that name a security: 1 to 11 bytes of text, padded on the right with spaces.
use Rattle.std.specs.Prelude.{ℕ, ◌-◌, Bool, true, false, cond, ◌&&◌, List, [], ◌∷◌, ◌++◌, length, replicate, Some, None, Option, ◌==◌, nat_le, nat_lt}

-- a text as a symbol, where it is not empty and not too long
abbrev pub symbol_of : List ℕ → Option (List ℕ)
symbol_of text = cond (nat_le 1 (length text) && nat_le (length text) 11) (Some (text ++ replicate (11 - length text) 32)) None

abbrev pub all_spaces : List ℕ → Bool
all_spaces [] = true
all_spaces (b ∷ bs) = b == 32 && all_spaces bs

-- the bytes up to the last that is no space
abbrev pub text_of : List ℕ → List ℕ
text_of [] = []
text_of (b ∷ bs) = cond (all_spaces (b ∷ bs)) [] (b ∷ text_of bs)

-- the order of symbols: by the first byte in which they differ
abbrev pub precedes : List ℕ → List ℕ → Bool
precedes [] [] = false
precedes [] (y ∷ ys) = true
precedes (x ∷ xs) [] = false
precedes (x ∷ xs) (y ∷ ys) = cond (x == y) (precedes xs ys) (nat_lt x y)
