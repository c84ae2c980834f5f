-- What a search among ascending symbols finds.
use Rattle.std.proofs.Common.{◌≡◌, ℕ, zero, suc, ◌<◌, ◌≤◌, true, false, cond, ltb, List, [], ◌∷◌, length, get_or, IfOk, Some, None, Option, Result, Ok, Err, Ordering, Less, Equal, Greater, sym, refl, ap, ◌∙◌, subst, inl, inr, arith}
use Rattle.std.specs.Cmp.Lexicographic.{slice_cmp}
use Rattle.std.specs.List.Sorted.{IsBinarySearchResult, IsNonDecreasingBy, IsSearchInRange}
use Rattle.std.specs.Option.{option_map}
use Rattle.std.specs.Ordering.{is_eq, is_lt, nat_cmp, ordering_index}
use Rattle.std.specs.Result.{result_ok}
use Rattle.std.specs.Str.{bytes_eq}
use Rattle.std.proofs.lemmas.Bool.{and_parts, both_ways, cases_Bool, ltb-true, ltb-false}
use Rattle.std.proofs.lemmas.Bool.Decides.{nat_tests}
use Rattle.std.proofs.lemmas.Cmp.{same_from_slice_cmp}
use Rattle.std.proofs.lemmas.List.Sorted.{IsNonDecreasingBy-from_default}
use Rattle.std.proofs.lemmas.Map.Lookups.{exact_bytes}
use Rattle.std.proofs.lemmas.Map.Text.{is_eq-slice_cmp}
use Rattle.std.proofs.lemmas.Slice.Eq.{bytes_eq-Decides}
use Rattle.text.specs.Symbol.{precedes}
use Rattle.lists.specs.ListRows.{ascends}
use Rattle.lists.specs.Market.{ascend_from}
use Rattle.search.specs.Place.{place_of}
use Rattle.search.proofs.Order.{precedes_all, precedes_self}

-- how a symbol stands to another, as the library compares them
abbrev pub against : List ℕ → List ℕ → Ordering
against symbol other = slice_cmp nat_cmp other symbol

less_precedes : (xs ys : List ℕ) → is_lt (slice_cmp nat_cmp xs ys) ≡ precedes xs ys
less_precedes xs ys =
    same_from_slice_cmp nat_cmp is_lt precedes refl (λ _ _. refl) (λ _ _. refl) (λ x y xs ys o h. grind (arith, nat_tests)) xs ys (slice_cmp nat_cmp xs ys) refl

-- a symbol stands before each that comes after it
first_before : (x : List ℕ) (xs : List (List ℕ)) (j : ℕ) → ascend_from (Some x) xs ≡ true → j < length xs → precedes x (get_or xs j []) ≡ true
first_before x [] j up h = absurd (omega arith)
first_before x (y ∷ ys) zero up h = (and_parts (precedes x y) (ascend_from (Some y) ys) up).0
first_before x (y ∷ ys) (suc j) up h =
    let p = and_parts (precedes x y) (ascend_from (Some y) ys) up in
    precedes_all x y (get_or ys j []) p.0 (first_before y ys j p.1 (omega arith))

earlier_before : (o : Option (List ℕ)) (xs : List (List ℕ)) (i j : ℕ) → ascend_from o xs ≡ true → i < j → j < length xs → precedes (get_or xs i []) (get_or xs j []) ≡ true
earlier_before o [] i j up lt h = absurd (omega arith)
earlier_before o (x ∷ xs) i zero up lt h = absurd (omega arith)
earlier_before o (x ∷ xs) zero (suc j) up lt h = first_before x xs j (and_parts (ascends o x) (ascend_from (Some x) xs) up).1 (omega arith)
earlier_before o (x ∷ xs) (suc i) (suc j) up lt h =
    earlier_before (Some x) xs i j (and_parts (ascends o x) (ascend_from (Some x) xs) up).1 (omega arith) (omega arith)

-- so how they stand to a symbol rises
less_index : (o : Ordering) → is_lt o ≡ true → ordering_index o ≡ 0
less_index Less e = refl
less_index Equal e = let z : ◌≡◌ {A = ℕ} 0 1 = cc in absurd (omega arith)
less_index Greater e = let z : ◌≡◌ {A = ℕ} 0 1 = cc in absurd (omega arith)

highest : (o : Ordering) → ordering_index o ≤ 2
highest Less = omega arith
highest Equal = omega arith
highest Greater = omega arith

rises_by : (x y symbol : List ℕ) → precedes x y ≡ true → (o : Ordering) → against symbol y ≡ o → ordering_index (against symbol x) ≤ ordering_index o
rises_by x y symbol up Less e =
    omega (arith, less_index (against symbol x) (less_precedes x symbol ∙ precedes_all x y symbol up (sym (less_precedes y symbol) ∙ ap is_lt e)))
rises_by x y symbol up Equal e =
    omega (arith, less_index (against symbol x) (less_precedes x symbol ∙ subst (λ u. precedes x u ≡ true) (exact_bytes y symbol e) up))
rises_by x y symbol up Greater e = highest (against symbol x)

rises : (xs : List (List ℕ)) (symbol : List ℕ) → ascend_from None xs ≡ true → IsNonDecreasingBy (λ y. ordering_index (against symbol y)) xs
rises xs symbol up = IsNonDecreasingBy-from_default (λ y. ordering_index (against symbol y)) xs [] (λ i j le lt. elim (cases_Bool (ltb i j)) [
  | inl e ↦ rises_by (get_or xs i []) (get_or xs j []) symbol (earlier_before None xs i j up (ltb-true i j e) lt) (against symbol (get_or xs j [])) refl
  | inr e ↦
      let same : i ≡ j = omega (arith, ltb-false i j e) in
      omega (arith, ap (λ k. ordering_index (against symbol (get_or xs k []))) same)
])

unlike : (x symbol : List ℕ) → precedes x symbol ≡ true → bytes_eq x symbol ≡ false
unlike x symbol e = elim (cases_Bool (bytes_eq x symbol)) [
  | inl f ↦ absurd (both_ways (precedes symbol symbol) (precedes_self symbol) (subst (λ u. precedes u symbol ≡ true) ((bytes_eq-Decides x symbol).0 f) e))
  | inr f ↦ f
]

-- the place of a symbol that stands at an index
place_at : (o : Option (List ℕ)) (xs : List (List ℕ)) (i : ℕ) (symbol : List ℕ) → ascend_from o xs ≡ true → i < length xs → get_or xs i [] ≡ symbol → place_of xs symbol ≡ Some i
unfolding place_of
place_at o [] i symbol up h e = absurd (omega arith)
place_at o (x ∷ xs) zero symbol up h e = ap (λ b. cond b (Some 0) (option_map (λ n. suc n) (place_of xs symbol))) ((bytes_eq-Decides x symbol).1 e)
place_at o (x ∷ xs) (suc i) symbol up h e =
    let rest = (and_parts (ascends o x) (ascend_from (Some x) xs) up).1 in
    let before = subst (λ u. precedes x u ≡ true) e (first_before x xs i rest (omega arith)) in
    ap (λ b. cond b (Some 0) (option_map (λ n. suc n) (place_of xs symbol))) (unlike x symbol before)
    ∙ ap (option_map (λ n. suc n)) (place_at (Some x) xs i symbol rest (omega arith) e)

-- a symbol that stands nowhere has none
place_none : (xs : List (List ℕ)) (symbol : List ℕ) → ((i : ℕ) → i < length xs → bytes_eq (get_or xs i []) symbol ≡ false) → place_of xs symbol ≡ None
unfolding place_of
place_none [] symbol apart = refl
place_none (x ∷ xs) symbol apart =
    ap (λ b. cond b (Some 0) (option_map (λ n. suc n) (place_of xs symbol))) (apart 0 (omega arith))
    ∙ ap (option_map (λ n. suc n)) (place_none xs symbol (λ i lt. apart (suc i) (omega arith)))

-- what a binary search answers is the symbol's place
pub found : (xs : List (List ℕ)) (symbol : List ℕ) (r : Result ℕ ℕ) → ascend_from None xs ≡ true → IsSearchInRange r (length xs) → IsBinarySearchResult (against symbol) xs r → result_ok r ≡ place_of xs symbol
found xs symbol (Ok i) up within here = sym (place_at None xs i symbol up within (exact_bytes _ _ (here [])))
found xs symbol (Err i) up within parted = sym (place_none xs symbol (λ k lt.
    let other = get_or xs k [] in
    sym (is_eq-slice_cmp other symbol) ∙ elim (cases_Bool (ltb k i)) as (λ _. is_eq (against symbol other) ≡ false) [
      | inl e ↦ ap is_eq ((parted (rises xs symbol up)).0 k [] (omega arith) (ltb-true k i e))
      | inr e ↦ ap is_eq ((parted (rises xs symbol up)).1 k [] (ltb-false k i e) lt)
    ]))

pub within_ok : (r : Result ℕ ℕ) (n : ℕ) → IsSearchInRange r n → IfOk r (λ i. i < n)
within_ok (Ok i) n h = h
within_ok (Err i) n h = tt
