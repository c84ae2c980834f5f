-- The quote marks, and what mass trading actions make of them.
use Rattle.std.specs.Prelude.{Bool, true, false, cond}
use Rattle.stats.specs.declared.record.QuoteMark.{QuoteMark}
use Rattle.stats.specs.declared.record.QuoteMark.TheVariants.{Welcome, Barred}
use Rattle.marks.specs.declared.trading_action.TradingAction.{TradingAction}
use Rattle.marks.specs.declared.trading_action.TradingAction.TheVariants.{Resume, WipeOut, Emergency}

-- an emergency bars what is welcome, a resume welcomes what is barred, a wipe-out is for both
abbrev pub is_applied : TradingAction → QuoteMark → Bool
is_applied Emergency Welcome = true
is_applied Emergency Barred = false
is_applied Resume Welcome = false
is_applied Resume Barred = true
is_applied WipeOut Welcome = true
is_applied WipeOut Barred = true

-- the mark that an action leaves where it is applied
abbrev pub applied_mark : TradingAction → QuoteMark → QuoteMark
applied_mark Emergency mark = Barred
applied_mark Resume mark = Welcome
applied_mark WipeOut mark = mark

-- where it is not applied, the mark stays
abbrev pub mark_after : TradingAction → QuoteMark → QuoteMark
mark_after action mark = cond (is_applied action mark) (applied_mark action mark) mark
