-- An answer that stands at the front of a buffer.
use Rattle.std.proofs.Common.{◌≡◌, ℕ, List, ◌++◌, drop, sym, ap, ◌∙◌}
use Rattle.text.proofs.Overwriting.{Written}

pub in_front_lem : {buffer text so_far : List ℕ} (bytes : List ℕ) (size : ℕ) → Written buffer 0 size text so_far → text ≡ bytes → so_far ≡ bytes ++ drop size buffer
in_front_lem {buffer} {text} bytes size w e = w.is ∙ ap (λ k. text ++ drop k buffer) (sym w.long) ∙ ap (λ u. u ++ drop size buffer) e
