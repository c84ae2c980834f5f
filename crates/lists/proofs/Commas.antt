-- No symbol and no originator has a comma: commas part the fields of a row.
use Rattle.std.proofs.Common.{◌≡◌, ℕ, zero, suc, true, false, not, eqb, List, [], ◌∷◌, ◌++◌, replicate, refl}
use Rattle.std.proofs.lemmas.Bool.{and_parts, not-true, or_from, or_parts}
use Rattle.cuts.specs.Cut.{has}
use Rattle.lists.specs.Market.{at_index, Commaless, none_has}

spaces_lack : (n : ℕ) → has 44 (replicate n 32) ≡ false
spaces_lack zero = refl
spaces_lack (suc n) = spaces_lack n

-- nor do the spaces behind a symbol's text
pub padding_lacks : (text : List ℕ) (n : ℕ) → has 44 text ≡ false → has 44 (text ++ replicate n 32) ≡ false
padding_lacks [] n h = spaces_lack n
padding_lacks (b ∷ bs) n h =
    let p = or_parts (eqb b 44) (has 44 bs) h in
    or_from (eqb b 44) (has 44 (bs ++ replicate n 32)) p.0 (padding_lacks bs n p.1)

-- so none that is told has one
pub at_plain : (xs : List (List ℕ)) (i : ℕ) → none_has 44 xs ≡ true → Commaless (at_index xs i)
at_plain [] i h = tt
at_plain (x ∷ xs) zero h = not-true (has 44 x) (and_parts (not (has 44 x)) (none_has 44 xs) h).0
at_plain (x ∷ xs) (suc i) h = at_plain xs i (and_parts (not (has 44 x)) (none_has 44 xs) h).1
