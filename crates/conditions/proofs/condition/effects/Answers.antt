use Rattle.std.proofs.Common.{◌≡◌, ℕ, not, ◌||◌, slice_index, refl, ap, ◌∙◌, rules}
use Rattle.conditions.specs.declared.matrix.Effects.{Effects}
use Rattle.conditions.specs.declared.matrix.Says.{Says}
use Rattle.conditions.specs.declared.matrix.Says.TheVariants.{Yes, First, No}
use Rattle.conditions.specs.Condition.{beats, is_no, condition_effects, four_effects}
use Rattle.conditions.specs.Matrix.{byte_effects}
use Rattle.conditions.proofs.condition.effects.Goals as goal

no_of_two : (a b : Says) → is_no (beats a b) ≡ (is_no a || is_no b)
no_of_two Yes b = refl
no_of_two First Yes = refl
no_of_two First First = refl
no_of_two First No = refl
no_of_two No b = refl

no_of_four : (a b c d : Says) → is_no (beats (beats a b) (beats c d)) ≡ ((is_no a || is_no b) || (is_no c || is_no d))
no_of_four a b c d = no_of_two (beats a b) (beats c d) ∙ (λ i. no_of_two a b i || no_of_two c d i)

pub returns : goal.returns
unfolding four_effects
returns c =
    let e : c.combined.result ≡ condition_effects c.args.condition = search rules in
    let v = λ (k : ℕ). (byte_effects (slice_index c.args.condition k)).volume in
    record {
      value = e;
      volume = ap (λ (f : Effects). not (is_no f.volume)) e ∙ ap not (no_of_four (v 0) (v 1) (v 2) (v 3));
    }
