-- What the library's range of symbols contains.
use Rattle.std.proofs.Common.{◌≡◌, Some, Bool, List, ℕ, not, ◌&&◌, refl, ◌∙◌, arith}
use Rattle.std.specs.Ordering.{is_le, nat_cmp, is_some_and}
use Rattle.std.specs.Cmp.Lexicographic.{slice_partial_cmp}
use Rattle.std.proofs.lemmas.Cmp.{same_from_slice_cmp_tested}
use Rattle.std.proofs.lemmas.Bool.Decides.{nat_tests}
use Rattle.text.specs.Symbol.{precedes}
use Rattle.marks.specs.Range.{in_range}
use Rattle.marks.specs.declared.range.SymbolRange.{SymbolRange}

-- one symbol is at most another in the library's order where the other does not precede it
at_most : (a b : List ℕ) (r : Bool) → r ≡ is_some_and is_le (slice_partial_cmp (λ x y. Some (nat_cmp x y)) a b) → r ≡ not (precedes b a)
at_most = same_from_slice_cmp_tested nat_cmp is_le (λ a b. not (precedes b a)) refl (λ _ _. refl) (λ _ _. refl) (λ x y xs ys o h. grind (arith, nat_tests))

-- the library's range from a first to a last symbol, both included, contains the symbols that the range reaches
pub contained : (range : SymbolRange) (symbol : List ℕ) (r : Bool) → r ≡ (is_some_and is_le (slice_partial_cmp (λ x y. Some (nat_cmp x y)) range.first symbol) && is_some_and is_le (slice_partial_cmp (λ x y. Some (nat_cmp x y)) symbol range.last)) → r ≡ in_range range symbol
contained range symbol r told = told ∙ (λ i. at_most range.first symbol _ refl i && at_most symbol range.last _ refl i)
