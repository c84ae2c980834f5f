-- The rows of a market center mass trading action.
use Rattle.std.specs.Prelude.{ℕ, Bool, ◌&&◌, List, [], ◌∷◌, map, nat_le}
use Rattle.std.specs.Option.{is_some}
use Rattle.books.specs.Sets.{Sets}
use Rattle.marks.specs.Actions.{action_of}
use Rattle.rows.specs.Asked.{Asked, cut_unless, reject_unless}
use Rattle.rows.specs.Context.{is_open}
use Rattle.rows.specs.declared.context.Context.{Context}
use Rattle.text.specs.Printable.{all_printable, printable}
use Rattle.verdicts.specs.declared.code.Code.TheVariants as code
use Rattle.verdicts.specs.declared.row.MassActionRow.{MassActionRow}
use Rattle.verdicts.specs.declared.row.MassActionRow.TheVariants.{FirstPrintable, LastPrintable, ActionPrintable, ActionAccepted, TimeInDay, DayOpen}
use Rattle.verdicts.specs.declared.row.Row.TheVariants.{MassAction}
use Rattle.wire.specs.MassAction.{action_fields}

-- from the day's start to the processor's time, both included
abbrev pub in_day : ℕ → Context → Bool
in_day time context = nat_le context.start time && nat_le time context.sip_time

-- what each row asks, and what the processor does otherwise; the code book is not asked
abbrev pub action_asked : Sets → Context → List ℕ → MassActionRow → Asked
action_asked sets context frame FirstPrintable = cut_unless (all_printable (action_fields frame).first) code.SecurityIdentifier (MassAction FirstPrintable)
action_asked sets context frame LastPrintable = cut_unless (all_printable (action_fields frame).last) code.SecurityIdentifier (MassAction LastPrintable)
action_asked sets context frame ActionPrintable = cut_unless (printable (action_fields frame).action) code.TradingAction (MassAction ActionPrintable)
action_asked sets context frame ActionAccepted = reject_unless (is_some (action_of (action_fields frame).action)) code.TradingAction (MassAction ActionAccepted)
action_asked sets context frame TimeInDay = reject_unless (in_day (action_fields frame).action_time context) code.ActionTime (MassAction TimeInDay)
action_asked sets context frame DayOpen = reject_unless (is_open context.phase) code.NotOpen (MassAction DayOpen)

-- top to bottom
abbrev pub action_order : List MassActionRow
action_order = FirstPrintable ∷ LastPrintable ∷ ActionPrintable ∷ ActionAccepted ∷ TimeInDay ∷ DayOpen ∷ []

abbrev pub action_rows : Sets → Context → List ℕ → List Asked
action_rows sets context frame = map (action_asked sets context frame) action_order
