-- Refusals: of those that may be given, the first that applies.
use Rattle.std.specs.Prelude.{Bool, cond, List, [], ◌∷◌, Some, None, Option}
use Rattle.states.specs.declared.refusal.Refusal.{Refusal}

pub record Bar : Type 0 where
  pub applies : Bool
  pub refusal : Refusal

abbrev pub bar_if : Bool → Refusal → Bar
bar_if applies refusal = record { applies = applies; refusal = refusal }

abbrev pub first_bar : List Bar → Option Refusal
first_bar [] = None
first_bar (bar ∷ rest) = cond bar.applies (Some bar.refusal) (first_bar rest)
