use Rattle.std.proofs.Common.{◌≡◌, ◌==◌, ℕ, zero, suc, List, [], ◌∷◌, Bor, Option, Some, None, option_map, slice_get, slice_index_or, refl, ap, ◌∙◌, rules, tests}
use Rattle.std.specs.Option.{unwrap_or}
use Rattle.std.proofs.lemmas.Iterator.Consumers.{nth_from_yields_List}
use Rattle.std.proofs.lemmas.Iterator.Splits.{YieldsList-from_slice_split}
use Rattle.cuts.specs.Cut.{parts}
use Rattle.cuts.proofs.cut.part.Goals as goal

-- what is read at an index, and where there is none, the empty text
or_empty : (texts : List (List ℕ)) (i : ℕ) (found : Option (Bor (List ℕ))) (other : Bor (List ℕ)) → other.now ≡ [] → option_map (λ text. text.now) found ≡ slice_get texts i → (unwrap_or found other).now ≡ slice_index_or texts i []
or_empty [] i None other e h = e
or_empty [] i (Some text) other e h = cc
or_empty (first ∷ texts) zero None other e h = cc
or_empty (first ∷ texts) zero (Some text) other e h = cc
or_empty (first ∷ texts) (suc i) found other e h = or_empty texts i found other e h

pub returns : goal.returns
returns c =
    let sep = c.args.separator in
    let found = nth_from_yields_List _ _ c.args.index c.nth.ensures.ran (YieldsList-from_slice_split _ (λ b. b == sep) c.args.text.now c.split.ensures.rest c.split.ensures.done c.split.ensures.closure (λ x r q k. search (rules, tests))) in
    ap (λ text. text.now) c.unwrap_or.ensures ∙ or_empty (parts sep c.args.text.now) c.args.index c.nth.result _ refl found
