-- The rule of a table of numbers, shown for the whole table by one test that computes.
use Rattle.std.proofs.Common.{◌≡◌, ℕ, zero, suc, ◌+◌, ◌<◌, Bool, true, ◌&&◌, eqb, List, [], ◌∷◌, length, get_or, sym, ap, ◌∙◌, add-zero, zero-add, arith}
use Rattle.std.proofs.lemmas.Bool.{and_parts, eqb-true}

-- each number is what the rule says of its place, where the first stands at the place i
abbrev pub follows : (ℕ → ℕ) → ℕ → List ℕ → Bool
follows rule i [] = true
follows rule i (x ∷ xs) = eqb x (rule i) && follows rule (suc i) xs

from : (rule : ℕ → ℕ) (xs : List ℕ) (i k : ℕ) → follows rule i xs ≡ true → k < length xs → get_or xs k 0 ≡ rule (i + k)
from rule [] i k t h = absurd (omega arith)
from rule (x ∷ xs) i zero t h = eqb-true x (rule i) (and_parts _ _ t).0 ∙ ap rule (sym (add-zero i))
from rule (x ∷ xs) i (suc k) t h = from rule xs (suc i) k (and_parts _ _ t).1 (omega arith) ∙ ap rule (omega arith)

pub by_table : (rule : ℕ → ℕ) (xs : List ℕ) → follows rule 0 xs ≡ true → (k : ℕ) → k < length xs → get_or xs k 0 ≡ rule k
by_table rule xs t k h = from rule xs 0 k t h ∙ ap rule (zero-add k)
