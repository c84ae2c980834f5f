-- Why a call is refused.
use Rattle.std.specs.Prelude.{ℕ}
use Rattle.states.specs.declared.refusal.Refusal.{Refusal}
use Rattle.states.specs.declared.refusal.Refusal.TheVariants.{NoSuchLine, AlreadyLoggedIn, NotLoggedIn, LineCut, FramesSpent, ShortBuffer, NotListed, WrongPhase, NoTransition, ActionsSpent, TooFewRecords}

abbrev pub refusal_number : Refusal → ℕ
refusal_number NoSuchLine = 1
refusal_number AlreadyLoggedIn = 2
refusal_number NotLoggedIn = 3
refusal_number LineCut = 4
refusal_number FramesSpent = 5
refusal_number ShortBuffer = 6
refusal_number NotListed = 7
refusal_number WrongPhase = 8
refusal_number NoTransition = 9
refusal_number ActionsSpent = 10
refusal_number TooFewRecords = 11
