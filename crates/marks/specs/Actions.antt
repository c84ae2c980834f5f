-- The letters of the mass trading actions.
use Rattle.std.specs.Prelude.{ℕ, cond, Some, None, Option, ◌==◌}
use Rattle.marks.specs.declared.trading_action.TradingAction.{TradingAction}
use Rattle.marks.specs.declared.trading_action.TradingAction.TheVariants.{Resume, WipeOut, Emergency}

-- Q, W and E
abbrev pub action_letter : TradingAction → ℕ
action_letter Resume = 81
action_letter WipeOut = 87
action_letter Emergency = 69

abbrev pub action_of : ℕ → Option TradingAction
action_of letter =
    cond (letter == action_letter Resume) (Some Resume)
    (cond (letter == action_letter WipeOut) (Some WipeOut)
    (cond (letter == action_letter Emergency) (Some Emergency)
    None))
