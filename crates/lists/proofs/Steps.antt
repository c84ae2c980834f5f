-- One step of a loop over a list.
use Rattle.std.proofs.Common.{◌≡◌, ℕ, ◌+◌, ◌<◌, List, ◌∷◌, length, get_or, drop, ap, ◌∙◌}
use Rattle.std.proofs.lemmas.List.{at_drop_more}

-- a function of what is left, where the next element is known
pub at_known : {X Y : Type 0} (F : List X → Y) (xs : List X) (i : ℕ) (d x : X) → i < length xs → get_or xs i d ≡ x → F (drop i xs) ≡ F (x ∷ drop (i + 1) xs)
at_known F xs i d x h e = at_drop_more F xs i d h ∙ ap (λ y. F (y ∷ drop (i + 1) xs)) e
