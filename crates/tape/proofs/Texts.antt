-- The text of a symbol is its front: no longer, and free of what the symbol is free of.
use Rattle.std.proofs.Common.{◌≡◌, ℕ, suc, ◌≤◌, Bool, true, false, cond, eqb, List, [], ◌∷◌, length, refl, arith}
use Rattle.std.proofs.lemmas.Bool.{or_from, or_parts}
use Rattle.cuts.specs.Cut.{has}
use Rattle.text.specs.Symbol.{all_spaces, text_of}

short_by : (b : Bool) (x n : ℕ) (ys : List ℕ) → length ys ≤ n → length (cond b [] (x ∷ ys)) ≤ suc n
short_by true x n ys h = omega arith
short_by false x n ys h = omega arith

pub text_short : (xs : List ℕ) → length (text_of xs) ≤ length xs
text_short [] = omega arith
text_short (x ∷ xs) = short_by (all_spaces (x ∷ xs)) x (length xs) (text_of xs) (text_short xs)

free_by : (b : Bool) (sep x : ℕ) (ys : List ℕ) → eqb x sep ≡ false → has sep ys ≡ false → has sep (cond b [] (x ∷ ys)) ≡ false
free_by true sep x ys here there = refl
free_by false sep x ys here there = or_from (eqb x sep) (has sep ys) here there

pub text_free : (sep : ℕ) (xs : List ℕ) → has sep xs ≡ false → has sep (text_of xs) ≡ false
text_free sep [] free = refl
text_free sep (x ∷ xs) free =
    let apart = or_parts (eqb x sep) (has sep xs) free in
    free_by (all_spaces (x ∷ xs)) sep x (text_of xs) apart.0 (text_free sep xs apart.1)
