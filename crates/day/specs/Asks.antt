-- What is asked of a day: a market center's sheet, and a consolidated one. Asking alters nothing.
use Rattle.std.specs.Prelude.{ℕ, not, List, [], ◌∷◌, Some, None, Ok, Err, Option, Result, nat_le, slice_index_or}
use Rattle.std.specs.Option.{is_some}
use Rattle.search.specs.Place.{place_of}
use Rattle.states.specs.declared.refusal.Refusal.{Refusal}
use Rattle.states.specs.declared.refusal.Refusal.TheVariants.{NoSuchLine, NotListed}
use Rattle.stats.specs.declared.plain_sheet.PlainSheet.{PlainSheet}
use Rattle.stats.specs.declared.sale.LastSale.{LastSale}
use Rattle.day.specs.LineCalls.{place_or0, record_at}
use Rattle.day.specs.Refusing.{bar_if, first_bar}
use Rattle.day.specs.State.{Day, line_count, line_of, no_sheet}

abbrev pub unless_refused : {A : Type 0} → Option Refusal → A → Result A Refusal
unless_refused None a = Ok a
unless_refused (Some refusal) a = Err refusal

abbrev pub listed_at : Day → List ℕ → ℕ
listed_at day symbol = place_or0 (place_of day.market.symbols symbol)

-- by line and symbol
abbrev pub center_sheet : Day → ℕ → List ℕ → Result (PlainSheet ℕ) Refusal
center_sheet day line symbol =
    unless_refused
    (first_bar (bar_if (nat_le (line_count day.market) line) NoSuchLine ∷ bar_if (not (is_some (place_of day.market.symbols symbol))) NotListed ∷ []))
    (record_at (line_of line day).records (listed_at day symbol)).sheet

-- by symbol
abbrev pub consolidated_sheet : Day → List ℕ → Result (PlainSheet LastSale) Refusal
consolidated_sheet day symbol =
    unless_refused (first_bar (bar_if (not (is_some (place_of day.market.symbols symbol))) NotListed ∷ [])) (slice_index_or day.sheets (listed_at day symbol) no_sheet)
