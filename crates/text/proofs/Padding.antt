-- The spaces that pad a symbol on the right.
use Rattle.std.proofs.Common.{◌≡◌, ℕ, ◌-◌, ◌<◌, ◌≤◌, true, false, cond, ◌&&◌, eqb, List, [], ◌∷◌, ◌++◌, length, get_or, take, sym, ap, ◌∙◌, arith}
use Rattle.std.proofs.lemmas.List.{take_more}
use Rattle.std.proofs.lemmas.Bool.{and_right, eq-eqb, ne_eqb}
use Rattle.text.specs.Symbol.{all_spaces, text_of}

-- whether a list is all spaces does not hang on one more space
pub spaces_more : (xs : List ℕ) (b : ℕ) → eqb b 32 ≡ true → all_spaces (xs ++ (b ∷ [])) ≡ all_spaces xs
spaces_more [] b e = ap (λ t. t && true) e
spaces_more (x ∷ xs) b e = ap (λ t. eqb x 32 && t) (spaces_more xs b e)

spaces_not : (xs : List ℕ) (b : ℕ) → eqb b 32 ≡ false → all_spaces (xs ++ (b ∷ [])) ≡ false
spaces_not [] b e = ap (λ t. t && true) e
spaces_not (x ∷ xs) b e = and_right (eqb x 32) (all_spaces (xs ++ (b ∷ []))) (spaces_not xs b e)

-- one more space is padding
pub text_space : (xs : List ℕ) (b : ℕ) → eqb b 32 ≡ true → text_of (xs ++ (b ∷ [])) ≡ text_of xs
text_space [] b e = ap (λ t. cond (t && true) [] (b ∷ [])) e
text_space (x ∷ xs) b e =
    ap (λ t. cond (eqb x 32 && t) [] (x ∷ text_of (xs ++ (b ∷ [])))) (spaces_more xs b e)
    ∙ ap (λ ys. cond (eqb x 32 && all_spaces xs) [] (x ∷ ys)) (text_space xs b e)

-- where the last byte is no space there is no padding
pub text_whole : (xs : List ℕ) (b : ℕ) → eqb b 32 ≡ false → text_of (xs ++ (b ∷ [])) ≡ xs ++ (b ∷ [])
text_whole [] b e = ap (λ t. cond (t && true) [] (b ∷ [])) e
text_whole (x ∷ xs) b e =
    ap (λ t. cond t [] (x ∷ text_of (xs ++ (b ∷ [])))) (and_right (eqb x 32) (all_spaces (xs ++ (b ∷ []))) (spaces_not xs b e))
    ∙ ap (λ ys. x ∷ ys) (text_whole xs b e)

-- the last of the bytes that are left, and those before it
last_apart : (xs : List ℕ) (n : ℕ) → 0 < n → n ≤ length xs → take n xs ≡ take (n - 1) xs ++ (get_or xs (n - 1) 0 ∷ [])
last_apart xs n some within =
    ap (λ k. take k xs) (omega arith) ∙ take_more xs (n - 1) 0 (omega arith)

pub text_shorter : (xs : List ℕ) (n : ℕ) → 0 < n → n ≤ length xs → get_or xs (n - 1) 0 ≡ 32 → text_of (take (n - 1) xs) ≡ text_of (take n xs)
text_shorter xs n some within e =
    sym (ap text_of (last_apart xs n some within) ∙ text_space (take (n - 1) xs) (get_or xs (n - 1) 0) (eq-eqb _ _ e))

pub text_kept : (xs : List ℕ) (n : ℕ) → 0 < n → n ≤ length xs → (get_or xs (n - 1) 0 ≡ 32 → ⊥) → text_of (take n xs) ≡ take n xs
text_kept xs n some within e =
    let apart = last_apart xs n some within in
    ap text_of apart ∙ text_whole (take (n - 1) xs) (get_or xs (n - 1) 0) (ne_eqb _ _ e) ∙ sym apart
