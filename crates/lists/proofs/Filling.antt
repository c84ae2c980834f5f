-- Texts that are pushed one after the other.
use Rattle.std.proofs.Common.{◌≡◌, ℕ, ◌<◌, ◌≤◌, List, [], ◌∷◌, ◌++◌, length, sym, ap, ◌∙◌, arith}
use Rattle.std.proofs.lemmas.List.{append-nil, length-append}

-- one more fits where the texts are few
pub room_for : {texts left : List (List ℕ)} (pushed : List (List ℕ)) (text : List ℕ) (rest : List (List ℕ)) (size : ℕ) → pushed ++ left ≡ texts → left ≡ text ∷ rest → length texts ≤ size → length pushed < size
room_for {texts} {left} pushed text rest size whole next few =
    omega (arith, few, ap length whole, length-append pushed left, ap length next)

-- where nothing is left they are all there
pub all_pushed : {texts left : List (List ℕ)} (pushed : List (List ℕ)) → pushed ++ left ≡ texts → left ≡ [] → pushed ≡ texts
all_pushed pushed whole none = sym (append-nil pushed) ∙ ap (λ u. pushed ++ u) (sym none) ∙ whole
