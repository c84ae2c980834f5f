-- What becomes of a frame: it is judged as the kind that its letters name.
use Rattle.std.specs.Prelude.{ℕ, Bool, cond, ◌&&◌, List, ◌++◌, length, Ok, Err, codes, Result, ◌==◌, nat_le, slice_index}
use Rattle.actions.specs.ActionRows.{action_rows}
use Rattle.books.specs.Sets.{Sets}
use Rattle.rows.specs.Asked.{first_failing}
use Rattle.rows.specs.HeaderRows.{header_rows}
use Rattle.rows.specs.Judged.{judgement}
use Rattle.rows.specs.declared.context.Context.{Context}
use Rattle.trades.specs.TradeRows.{trade_rows}
use Rattle.verdicts.specs.declared.answer.Verdict.{Verdict}
use Rattle.verdicts.specs.declared.answer.Verdict.TheVariants.{Cut}
use Rattle.verdicts.specs.declared.code.Code.TheVariants as code
use Rattle.verdicts.specs.declared.row.Row.TheVariants as row
use Rattle.wire.specs.MassAction.{action_fields}
use Rattle.wire.specs.TradeReport.{fields_of}
use Rattle.wire.specs.declared.header.HeaderRow.TheVariants.{Version, Kind}
use Rattle.wire.specs.declared.mass_action.MassAction.{MassAction}
use Rattle.wire.specs.declared.trade_report.TradeReport.{TradeReport}
use Rattle.lines.specs.declared.judge.Message.{Message}
use Rattle.lines.specs.declared.judge.Message.TheVariants.{Trade, Mass}

-- the two letters after the version
abbrev pub names : List ℕ → List ℕ → Bool
names letters frame = nat_le 3 (length frame) && (slice_index frame 1 == slice_index letters 0 && slice_index frame 2 == slice_index letters 1)

abbrev pub judged_trade : Sets → Context → List ℕ → Result TradeReport Verdict
judged_trade sets context frame = judgement (first_failing (header_rows (codes "TE") 72 context frame ++ trade_rows sets context frame)) (fields_of frame)

abbrev pub judged_mass : Sets → Context → List ℕ → Result MassAction Verdict
judged_mass sets context frame = judgement (first_failing (header_rows (codes "AU") 60 context frame ++ action_rows sets context frame)) (action_fields frame)

abbrev pub as_trade : Result TradeReport Verdict → Result Message Verdict
as_trade (Ok report) = Ok (Trade report)
as_trade (Err verdict) = Err verdict

abbrev pub as_mass : Result MassAction Verdict → Result Message Verdict
as_mass (Ok action) = Ok (Mass action)
as_mass (Err verdict) = Err verdict

-- a frame of no kind is judged as a trade report, whose letters it lacks
unfoldable pub judged : Sets → Context → List ℕ → Result Message Verdict
judged sets context frame = cond (names (codes "AU") frame) (as_mass (judged_mass sets context frame)) (as_trade (judged_trade sets context frame))

-- the letters are asked for once the version stands
abbrev pub cut_as_unknown : List ℕ → Verdict
cut_as_unknown frame = Cut (record { code = code.Header; row = row.Header (cond (nat_le 3 (length frame) && slice_index frame 0 == 49) Kind Version) })
