-- Symbols of a list: the same text, the same place.
use Rattle.std.proofs.Common.{◌≡◌, ℕ, zero, suc, ◌-◌, ◌<◌, Bool, true, false, cond, eqb, List, [], ◌∷◌, ◌++◌, length, get_or, replicate, Some, None, Option, sym, refl, ap, ◌∙◌, subst, arith}
use Rattle.std.specs.Option.{option_map}
use Rattle.std.specs.Str.{bytes_eq}
use Rattle.std.proofs.lemmas.Slice.Eq.{bytes_eq-Decides}
use Rattle.std.proofs.lemmas.Bool.{and_parts, eq-eqb, eqb-true}
use Rattle.std.proofs.lemmas.Bool.Decides.{same_from_decides}
use Rattle.lists.specs.Market.{all_long}
use Rattle.search.specs.Place.{place_of}
use Rattle.text.specs.Symbol.{all_spaces, text_of}

placed_by : (x : List ℕ) (xs : List (List ℕ)) (s : List ℕ) (p : ℕ) (b : Bool) (o : Option ℕ) → bytes_eq x s ≡ b → cond b (Some 0) (option_map (λ n. suc n) o) ≡ Some p →
    ((k : ℕ) → o ≡ Some k → (get_or xs k [] ≡ s) × (k < length xs)) → (get_or (x ∷ xs) p [] ≡ s) × (p < suc (length xs))
placed_by x xs s p true o e is more =
    let first : zero ≡ p = cc in
    subst (λ (i : ℕ). (get_or (x ∷ xs) i [] ≡ s) × (i < suc (length xs))) first ((bytes_eq-Decides x s).0 e, omega arith)
placed_by x xs s p false None e is more = let z : ◌≡◌ {A = ℕ} 0 1 = cc in absurd (omega arith)
placed_by x xs s p false (Some k) e is more =
    let next : suc k ≡ p = cc in
    let r = more k refl in
    subst (λ (i : ℕ). (get_or (x ∷ xs) i [] ≡ s) × (i < suc (length xs))) next (r.0, omega (arith, r.1))

-- what stands at a symbol's place is the symbol
pub placed : (symbols : List (List ℕ)) (s : List ℕ) (p : ℕ) → place_of symbols s ≡ Some p → (get_or symbols p [] ≡ s) × (p < length symbols)
unfolding place_of
placed [] s p e = let z : ◌≡◌ {A = ℕ} 0 1 = cc in absurd (omega arith)
placed (x ∷ xs) s p e = placed_by x xs s p (bytes_eq x s) (place_of xs s) refl e (λ k is. placed xs s k is)

long_at : (size : ℕ) (texts : List (List ℕ)) (i : ℕ) → all_long size texts ≡ true → i < length texts → length (get_or texts i []) ≡ size
long_at size [] i long h = absurd (omega arith)
long_at size (text ∷ texts) zero long h = eqb-true (length text) size (and_parts (eqb (length text) size) (all_long size texts) long).0
long_at size (text ∷ texts) (suc i) long h = long_at size texts i (and_parts (eqb (length text) size) (all_long size texts) long).1 (omega arith)

-- a symbol is its text and its padding

spaces : (xs : List ℕ) → all_spaces xs ≡ true → xs ≡ replicate (length xs) 32
spaces [] e = refl
spaces (x ∷ xs) e =
    let both = and_parts (eqb x 32) (all_spaces xs) e in
    let first : x ≡ 32 = eqb-true x 32 both.0 in
    let rest = spaces xs both.1 in
    λ i. first i ∷ rest i

padded_by : (x : ℕ) (xs : List ℕ) (b : Bool) → all_spaces (x ∷ xs) ≡ b → xs ≡ text_of xs ++ replicate (length xs - length (text_of xs)) 32 →
    x ∷ xs ≡ cond b [] (x ∷ text_of xs) ++ replicate (suc (length xs) - length (cond b [] (x ∷ text_of xs))) 32
padded_by x xs true e more =
    let all : suc (length xs) ≡ suc (length xs) - 0 = omega arith in
    spaces (x ∷ xs) e ∙ ap (λ n. replicate n 32) all
padded_by x xs false e more =
    let less : length xs - length (text_of xs) ≡ suc (length xs) - suc (length (text_of xs)) = omega arith in
    ap (λ ys. x ∷ ys) (more ∙ ap (λ n. text_of xs ++ replicate n 32) less)

padded_again : (xs : List ℕ) → xs ≡ text_of xs ++ replicate (length xs - length (text_of xs)) 32
padded_again [] = refl
padded_again (x ∷ xs) = padded_by x xs (all_spaces (x ∷ xs)) refl (padded_again xs)

same_text : (x y : List ℕ) → length x ≡ length y → text_of x ≡ text_of y → x ≡ y
same_text x y long e = padded_again x ∙ (λ i. e i ++ replicate (long i - length (e i)) 32) ∙ sym (padded_again y)

some_same : (p q : ℕ) → ◌≡◌ {A = Option ℕ} (Some p) (Some q) → p ≡ q
some_same p q e = cc

pub same_place : (symbols : List (List ℕ)) (x y : List ℕ) (p q : ℕ) → all_long 11 symbols ≡ true → place_of symbols x ≡ Some p → place_of symbols y ≡ Some q → bytes_eq (text_of x) (text_of y) ≡ eqb p q
same_place symbols x y p q long at_x at_y =
    let px = placed symbols x p at_x in
    let py = placed symbols y q at_y in
    let wide : length x ≡ length y =
    ap length (sym px.0) ∙ long_at 11 symbols p long px.1 ∙ sym (long_at 11 symbols q long py.1) ∙ ap length py.0 in
    same_from_decides (bytes_eq (text_of x) (text_of y)) (eqb p q) (bytes_eq-Decides (text_of x) (text_of y)) (
      (λ e. ap text_of (sym px.0 ∙ ap (λ k. get_or symbols k []) (eqb-true p q e) ∙ py.0)),
      (λ e. eq-eqb p q (some_same p q (sym at_x ∙ ap (place_of symbols) (same_text x y wide e) ∙ at_y))),
    )
