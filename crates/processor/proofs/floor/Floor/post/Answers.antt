use Rattle.std.proofs.Common.{◌≡◌, ap, ◌∙◌}
use Rattle.std.proofs.lemmas.Result.{err_from_is_err_and}
use Rattle.books.specs.Sets.{Sets}
use Rattle.day.specs.Call.{of_operator, post}
use Rattle.day.specs.Operator.{operated}
use Rattle.day.specs.Step.{market_after, refusing, step}
use Rattle.processor.specs.Held.{day_of}
use Rattle.processor.proofs.Calls.{operator_goes, operator_refused}
use Rattle.processor.proofs.floor.Floor.post.Goals as goal

pub returns-in_err-check_post : goal.returns-in_err-check_post
returns-in_err-check_post c =
    let d = day_of c.args.self.now in
    let call = post c.args.symbol.now c.args.action in
    let same : (sets : Sets) → refusing d c.in_err-check_post.field-0.0 ≡ step sets d (of_operator call) =
    λ sets. operator_refused sets d call c.in_err-check_post.field-0.0 c.in_err-check_post.ensures in
    let p = err_from_is_err_and c.from_residual.result c.from_residual.ensures.1 in
    rw (p.1, p.2) (record { said = λ sets. ap (λ s. s.said) (same sets); leaves = λ sets. ap (λ s. s.day) (same sets) })

pub returns : goal.returns
returns c =
    let d = day_of c.args.self.now in
    let call = post c.args.symbol.now c.args.action in
    let same : (sets : Sets) → market_after d (operated d.market call) ≡ step sets d (of_operator call) =
    λ sets. operator_goes sets d call c.in_ok-check_post.ensures in
    record { said = λ sets. ap (λ s. s.said) (same sets); leaves = λ sets. c.post_open.ensures ∙ ap (λ s. s.day) (same sets) }
