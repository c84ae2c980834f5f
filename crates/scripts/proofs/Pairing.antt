-- The bytes of pairs of hex digits, put one after the other into a buffer.
use Rattle.std.proofs.Common.{◌≡◌, ℕ, ◌+◌, ◌*◌, ◌/◌, ◌<◌, ◌≤◌, List, [], ◌∷◌, ◌++◌, length, get_or, take, drop, set, sym, refl, ap, ◌∙◌, arith}
use Rattle.std.proofs.lemmas.List.{append_assoc, append-nil, at_drop_more, drop-drop, drop-set-lt, length-drop, take-append-drop, take_more_set}
use Rattle.scripts.specs.Hex.{digit_value, pairs}

-- two digits to a byte
pub length_pairs : (word : List ℕ) → length (pairs word) ≡ length word / 2
unfolding pairs
length_pairs [] = refl
length_pairs (b ∷ []) = refl
length_pairs (high ∷ low ∷ bs) = omega (arith, length_pairs bs)

abbrev pub byte_at : ℕ → List ℕ → ℕ
byte_at i word = digit_value (get_or word (2 * i) 0) * 16 + digit_value (get_or word (2 * i + 1) 0)

pairs_more : (word : List ℕ) (i : ℕ) → 2 * i + 1 < length word → pairs (drop (2 * i) word) ≡ byte_at i word ∷ pairs (drop (2 * (i + 1)) word)
unfolding pairs
pairs_more word i h =
    let next : 2 * i + 1 + 1 ≡ 2 * (i + 1) = omega arith in
    at_drop_more pairs word (2 * i) 0 (omega arith)
    ∙ at_drop_more (λ bs. pairs (get_or word (2 * i) 0 ∷ bs)) word (2 * i + 1) 0 h
    ∙ ap (λ k. byte_at i word ∷ pairs (drop k word)) next

pairs_last : (bs : List ℕ) → length bs ≤ 1 → pairs bs ≡ []
unfolding pairs
pairs_last [] h = refl
pairs_last (b ∷ []) h = refl
pairs_last (a ∷ b ∷ bs) h = absurd (omega arith)

-- a buffer that has the first bytes, and past them is as it was
pub record Placed (word old new : List ℕ) (i : ℕ) : Type 0 where
  pub front : take i new ++ pairs (drop (2 * i) word) ≡ pairs word
  pub rest : drop i new ≡ drop i old

pub placed_more : {word old new : List ℕ} {i : ℕ} (b : ℕ) → Placed word old new i → 2 * i + 1 < length word → i < length new → b ≡ byte_at i word → Placed word old (set new i b) (i + 1)
placed_more {word} {old} {new} {i} b p h room e =
    let left = pairs (drop (2 * (i + 1)) word) in
    record {
      front = ap (λ bs. bs ++ left) (take_more_set new i b room)
          ∙ append_assoc (take i new) (b ∷ []) left
          ∙ ap (λ x. take i new ++ (x ∷ left)) e
          ∙ ap (λ bs. take i new ++ bs) (sym (pairs_more word i h))
          ∙ p.front;
      rest = drop-set-lt (i + 1) new i b (omega arith) ∙ sym (drop-drop 1 i new) ∙ ap (drop 1) p.rest ∙ drop-drop 1 i old;
    }

pub placed_all : {word old new : List ℕ} {i : ℕ} → Placed word old new i → length word ≤ 2 * i + 1 → i ≡ length (pairs word) → new ≡ pairs word ++ drop (length (pairs word)) old
placed_all {word} {old} {new} {i} p h e =
    let none : pairs (drop (2 * i) word) ≡ [] = pairs_last (drop (2 * i) word) (simp length-drop (omega arith)) in
    sym (take-append-drop i new)
    ∙ ap (λ bs. bs ++ drop i new) (sym (append-nil (take i new)) ∙ ap (λ bs. take i new ++ bs) (sym none) ∙ p.front)
    ∙ ap (λ bs. pairs word ++ bs) p.rest
    ∙ ap (λ k. pairs word ++ drop k old) e
