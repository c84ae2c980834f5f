-- The states of a security, by their letters.
use Rattle.std.specs.Prelude.{ℕ}
use Rattle.inquiry.specs.declared.security_state.SecurityState.{SecurityState}
use Rattle.inquiry.specs.declared.security_state.SecurityState.TheVariants.{Trading, Quoting, Paused, Halted}

-- T, Q, P and H
abbrev pub state_letter : SecurityState → ℕ
state_letter Trading = 84
state_letter Quoting = 81
state_letter Paused = 80
state_letter Halted = 72
