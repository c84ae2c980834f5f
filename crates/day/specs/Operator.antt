-- What the operator's calls are answered and what they make of the market. They look at the market alone.
use Rattle.std.specs.Prelude.{ℕ, ◌+◌, Bool, true, false, not, List, [], ◌∷◌, Some, None, Option, nat_le, slice_index_or, slice_set}
use Rattle.std.specs.Option.{is_some}
use Rattle.inquiry.specs.declared.security_state.SecurityState.{SecurityState}
use Rattle.rows.specs.Context.{is_open}
use Rattle.rows.specs.declared.context.Phase.{Phase}
use Rattle.rows.specs.declared.context.Phase.TheVariants.{Fresh, Open, Closed}
use Rattle.search.specs.Place.{place_of}
use Rattle.states.specs.SecurityStatus.{fresh_security, leads_to}
use Rattle.states.specs.declared.refusal.Refusal.{Refusal}
use Rattle.states.specs.declared.refusal.Refusal.TheVariants.{NotListed, WrongPhase, NoTransition, ActionsSpent}
use Rattle.states.specs.declared.security_status.PostedAction.{PostedAction}
use Rattle.states.specs.declared.security_status.SecurityStatus.{SecurityStatus}
use Rattle.day.specs.Call.{OperatorCall, open_day, post, close_day}
use Rattle.day.specs.Refusing.{Bar, bar_if, first_bar}
use Rattle.day.specs.State.{Market}

-- actions that may be posted on a security
abbrev pub action_limit : ℕ
action_limit = 1000000

abbrev pub is_fresh : Phase → Bool
is_fresh Fresh = true
is_fresh Open = false
is_fresh Closed = false

abbrev pub status_at : Market → ℕ → SecurityStatus
status_at market place = slice_index_or market.securities place fresh_security

-- where the action leads, and the place of the symbol where it is listed
abbrev pub destination : Market → Option ℕ → PostedAction → Option SecurityState
destination market None action = None
destination market (Some place) action = leads_to (status_at market place).state action

abbrev pub posted_at : Market → Option ℕ → ℕ
posted_at market None = 0
posted_at market (Some place) = (status_at market place).posted

-- the refusals of each call, in their order
abbrev pub operator_bars : Market → OperatorCall → List Bar
operator_bars market open_day = bar_if (not (is_fresh market.phase)) WrongPhase ∷ []
operator_bars market (post symbol action) =
    bar_if (not (is_some (place_of market.symbols symbol))) NotListed
    ∷ bar_if (not (is_some (destination market (place_of market.symbols symbol) action))) NoTransition
    ∷ bar_if (nat_le action_limit (posted_at market (place_of market.symbols symbol))) ActionsSpent
    ∷ []
operator_bars market close_day = bar_if (not (is_open market.phase)) WrongPhase ∷ []

unfoldable pub operator_refusal : Market → OperatorCall → Option Refusal
operator_refusal market call = first_bar (operator_bars market call)

abbrev pub in_phase : Phase → Market → Market
in_phase phase market = record { symbols = market.symbols; originators = market.originators; start = market.start; phase = phase; securities = market.securities }

abbrev pub in_state : Market → Option ℕ → Option SecurityState → Market
in_state market None state = market
in_state market (Some place) None = market
in_state market (Some place) (Some state) = record {
  symbols = market.symbols;
  originators = market.originators;
  start = market.start;
  phase = market.phase;
  securities = slice_set market.securities place (record { state = state; posted = (status_at market place).posted + 1 });
}

-- the market after a call that is not refused
unfoldable pub operated : Market → OperatorCall → Market
operated market open_day = in_phase Open market
operated market (post symbol action) =
    in_state market (place_of market.symbols symbol) (destination market (place_of market.symbols symbol) action)
operated market close_day = in_phase Closed market
