use Rattle.std.proofs.Common.{refl, ◌≡◌, ap, ◌∙◌}
use Rattle.std.proofs.lemmas.Result.{err_from_is_err_and}
use Rattle.books.specs.Sets.{Sets}
use Rattle.day.specs.Call.{open_day, of_operator}
use Rattle.day.specs.Operator.{operated}
use Rattle.day.specs.Step.{market_after, refusing, step}
use Rattle.processor.specs.Held.{day_of}
use Rattle.processor.proofs.Calls.{operator_goes, operator_refused}
use Rattle.processor.proofs.floor.Floor.open.Goals as goal

pub returns-in_err-check_phase : goal.returns-in_err-check_phase
returns-in_err-check_phase c =
    let d = day_of c.args.self.now in
    let same : (sets : Sets) → refusing d c.in_err-check_phase.field-0.0 ≡ step sets d (of_operator open_day) =
    λ sets. operator_refused sets d open_day c.in_err-check_phase.field-0.0 (c.in_err-check_phase.ensures.opening refl) in
    let p = err_from_is_err_and c.from_residual.result c.from_residual.ensures.1 in
    rw (p.1, p.2) (record { said = λ sets. ap (λ s. s.said) (same sets); leaves = λ sets. ap (λ s. s.day) (same sets) })

pub returns : goal.returns
unfolding operated
returns c =
    let d = day_of c.args.self.now in
    let same : (sets : Sets) → market_after d (operated d.market open_day) ≡ step sets d (of_operator open_day) =
    λ sets. operator_goes sets d open_day (c.in_ok-check_phase.ensures.opening refl) in
    record { said = λ sets. ap (λ s. s.said) (same sets); leaves = λ sets. c.set_phase.ensures ∙ ap (λ s. s.day) (same sets) }
