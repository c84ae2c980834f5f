use Rattle.std.proofs.Common.{◌≡◌, ◌+◌, Some, sym, ap, ◌∙◌}
use Rattle.states.specs.SecurityStatus.{leads_to}
use Rattle.day.specs.Operator.{destination, in_state, operated}
use Rattle.processor.specs.Held.{day_of, with_market, with_security}
use Rattle.processor.proofs.floor.Floor.post_open.Goals as goal

pub returns-in-Some-next_state : goal.returns-in-Some-next_state
unfolding operated
returns-in-Some-next_state c =
    let d = day_of c.args.self.now in
    let m = d.market in
    let place = c.in-Some.security in
    let state = c.in-Some-next_state.state in
    let leads : destination m (Some place) c.args.action ≡ Some state =
    ap (λ s. leads_to s.state c.args.action) (sym c.security-status.ensures) ∙ sym c.next_state.ensures ∙ c.in-Some-next_state.is in
    c.set_security.ensures
    ∙ ap (λ s. with_market d (with_security m place (record { state = state; posted = s.posted + 1 }))) c.security-status.ensures
    ∙ ap (λ o. with_market d (in_state m (Some place) o)) (sym leads)
    ∙ ap (λ p. with_market d (in_state m p (destination m p c.args.action))) (sym c.in-Some.is ∙ c.find.ensures.place)
