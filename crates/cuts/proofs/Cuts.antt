-- Laws of a text and its parts.
use Rattle.std.proofs.Common.{◌≡◌, ℕ, suc, ◌+◌, ◌<◌, ◌≤◌, Bool, true, false, ◌||◌, not, cond, eqb, ltb, List, [], ◌∷◌, length, get_or, drop, sym, refl, ap, ◌∙◌, inl, inr, arith, length-drop}
use Rattle.std.specs.List.{onto_first, position_or_len}
use Rattle.std.proofs.lemmas.List.{drop_all, take_all}
use Rattle.std.proofs.lemmas.List.Splits.{slice_split_first}
use Rattle.std.proofs.lemmas.Bool.{cases_Bool}
use Rattle.std.proofs.lemmas.Bool.Decides.{nat_tests}
use Rattle.cuts.specs.Cut.{parts, has, first_part, past}

-- how many bytes stand before the first separator
abbrev reach : ℕ → List ℕ → ℕ
reach sep xs = position_or_len (λ b. eqb b sep) xs

has_by : (b h : Bool) (r n : ℕ) → h ≡ ltb r n → (b || h) ≡ ltb (cond (not b) (1 + r) 0) (suc n)
has_by true h r n e = grind (arith, nat_tests)
has_by false h r n e = grind (arith, nat_tests)

pub has_reach : (sep : ℕ) (xs : List ℕ) → has sep xs ≡ ltb (reach sep xs) (length xs)
has_reach sep [] = refl
has_reach sep (x ∷ xs) = has_by (eqb x sep) (has sep xs) (reach sep xs) (length xs) (has_reach sep xs)

reach_below : (sep : ℕ) (xs : List ℕ) → has sep xs ≡ true → reach sep xs < length xs
reach_below sep xs e = let h = has_reach sep xs in grind (arith, nat_tests)

reach_all : (sep : ℕ) (xs : List ℕ) → has sep xs ≡ false → length xs ≤ reach sep xs
reach_all sep xs e = let h = has_reach sep xs in grind (arith, nat_tests)

-- the parts are the first, and those of what stands past it
pub parts_next : (sep : ℕ) (xs : List ℕ) → has sep xs ≡ true → parts sep xs ≡ first_part sep xs ∷ parts sep (past sep xs)
parts_next sep xs e = slice_split_first (λ b. eqb b sep) xs 0 (reach_below sep xs e)

none_by : (b h : Bool) (x : ℕ) (xs : List ℕ) (qs ps : List (List ℕ)) → (b || h) ≡ false → (h ≡ false → ps ≡ xs ∷ []) → cond b qs (onto_first x ps) ≡ (x ∷ xs) ∷ []
none_by true h x xs qs ps e k = let z : ◌≡◌ {A = ℕ} 0 1 = cc in absurd (omega arith)
none_by false h x xs qs ps e k = ap (onto_first x) (k e)

pub parts_none : (sep : ℕ) (xs : List ℕ) → has sep xs ≡ false → parts sep xs ≡ xs ∷ []
parts_none sep [] e = refl
parts_none sep (x ∷ xs) e = none_by (eqb x sep) (has sep xs) x xs ([] ∷ parts sep xs) (parts sep xs) e (parts_none sep xs)

-- there is always a part
pub parts_some : (sep : ℕ) (xs : List ℕ) → (p : List ℕ) × (ps : List (List ℕ)) × (parts sep xs ≡ p ∷ ps)
parts_some sep xs = elim (cases_Bool (has sep xs)) [
  | inl e ↦ (first_part sep xs, parts sep (past sep xs), parts_next sep xs e)
  | inr e ↦ (xs, [], parts_none sep xs e)
]

-- a byte that is no separator does not alter what stands past the first
pub past_other : (sep x : ℕ) (xs : List ℕ) → eqb x sep ≡ false → past sep (x ∷ xs) ≡ past sep xs
past_other sep x xs e =
    let one : 1 + reach sep xs + 1 ≡ suc (reach sep xs + 1) = omega arith in
    ap (λ b. drop (cond (not b) (1 + reach sep xs) 0 + 1) (x ∷ xs)) e ∙ ap (λ k. drop k (x ∷ xs)) one

-- past a separator the text is shorter
pub past_shorter : (sep : ℕ) (xs : List ℕ) → has sep xs ≡ true → length (past sep xs) < length xs
past_shorter sep xs e =
    let h = reach_below sep xs e in
    simp length-drop (omega arith)

-- with no separator nothing stands past the first part
pub past_none : (sep : ℕ) (xs : List ℕ) → has sep xs ≡ false → past sep xs ≡ []
past_none sep xs e = let h = reach_all sep xs e in drop_all (reach sep xs + 1) xs (omega arith)

pub first_none : (sep : ℕ) (xs : List ℕ) → has sep xs ≡ false → first_part sep xs ≡ xs
first_none sep xs e = take_all (reach sep xs) xs (reach_all sep xs e)

pub part_zero : (sep : ℕ) (xs : List ℕ) → get_or (parts sep xs) 0 [] ≡ first_part sep xs
part_zero sep xs = elim (cases_Bool (has sep xs)) [
  | inl e ↦ ap (λ ps. get_or ps 0 []) (parts_next sep xs e)
  | inr e ↦ ap (λ ps. get_or ps 0 []) (parts_none sep xs e) ∙ sym (first_none sep xs e)
]
