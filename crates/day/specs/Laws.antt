-- The laws over whole runs of a practice day.
use Rattle.std.specs.Prelude.{◌≡◌, ℕ, zero, suc, ◌+◌, ◌*◌, ◌<◌, ◌≤◌, Bool, true, false, cond, ◌&&◌, List, [], ◌∷◌, ◌++◌, map, length, get_or, take, Some, None, Option, ◌==◌, slice_index_or}
use Rattle.std.specs.List.{AllByRecursion}
use Rattle.std.specs.Str.{bytes_eq}
use Rattle.books.specs.Sets.{Sets}
use Rattle.conditions.specs.Condition.{counted}
use Rattle.cuts.specs.Cut.{past}
use Rattle.lists.specs.Market.{PlainOriginatorList, PlainSymbolList}
use Rattle.search.specs.Place.{place_of}
use Rattle.states.specs.SecurityStatus.{fresh_security}
use Rattle.states.specs.declared.refusal.Refusal.{Refusal}
use Rattle.stats.specs.Entries.{center_entry, consolidated_entry}
use Rattle.stats.specs.Reports.{SameTotals, sheet_of}
use Rattle.stats.specs.declared.plain_sheet.PlainSheet.{PlainSheet}
use Rattle.stats.specs.declared.record.MarketCenterRecord.{MarketCenterRecord}
use Rattle.stats.specs.declared.sale.LastSale.{LastSale}
use Rattle.stats.specs.declared.sale.Sale.{Sale}
use Rattle.tape.specs.TapeReading.{tape_condition, tape_symbol, tape_volume}
use Rattle.text.specs.Symbol.{text_of}
use Rattle.verdicts.specs.declared.answer.Reason.{Reason}
use Rattle.day.specs.Asks.{center_sheet}
use Rattle.day.specs.Call.{Call, of_line, of_operator, log_in, send, inquire, hang_up, Reply, refused, Taken}
use Rattle.day.specs.LineCalls.{frame_limit, record_at, sale_of}
use Rattle.day.specs.Operator.{action_limit}
use Rattle.day.specs.State.{Day, fresh_day, line_count, line_of, no_sheet, security_count}
use Rattle.day.specs.Step.{Told, line_sale_of, run, step, tells}

abbrev pub kept_if : {X : Type 0} → Bool → X → List X → List X
kept_if keep x xs = cond keep (x ∷ xs) xs

-- A LINE SEES ONLY ITSELF AND THE OPERATOR

abbrev pub is_of : ℕ → Call → Bool
is_of line (of_line number call) = line == number
is_of line (of_operator call) = false

abbrev pub concerns : ℕ → Call → Bool
concerns line (of_line number call) = line == number
concerns line (of_operator call) = true

-- a line's calls and the operator's, in their order
unfoldable pub calls_for : ℕ → List Call → List Call
calls_for line [] = []
calls_for line (call ∷ calls) = kept_if (concerns line call) call (calls_for line calls)

-- what a line can tell of one of its calls: the answer, the bytes of an inquiry, a tape line without its serial
pub record Heard : Type 0 where
  pub said : Reply
  pub text : List ℕ

-- a send writes nothing or a tape line, and its serial is what stands before the first comma
abbrev pub text_heard : Call → List ℕ → List ℕ
text_heard (of_line number log_in) wrote = wrote
text_heard (of_line number (send time frame room)) wrote = past 44 wrote
text_heard (of_line number (inquire time symbol room)) wrote = wrote
text_heard (of_line number hang_up) wrote = wrote
text_heard (of_operator call) wrote = wrote

abbrev pub heard_of : Told → Heard
heard_of told = record { said = told.said; text = text_heard told.call told.wrote }

unfoldable pub heard : ℕ → List Told → List Heard
heard line [] = []
heard line (told ∷ rest) = kept_if (is_of line told.call) (heard_of told) (heard line rest)

-- what a line's record of a security says, where the security is listed
abbrev pub read_at : {X : Type 0} → (MarketCenterRecord → X) → List MarketCenterRecord → Option ℕ → Option X
read_at read records None = None
read_at read records (Some place) = Some (read (record_at records place))

abbrev pub of_record : {X : Type 0} → (MarketCenterRecord → X) → ℕ → List ℕ → Day → Option X
of_record read line symbol day = read_at read (line_of line day).records (place_of day.market.symbols symbol)

-- one line, after some calls on one day and after some calls on another
pub record SameFor (sets : Sets) (line : ℕ) (day other : Day) (calls others : List Call) : Type 0 where
  pub answers : heard line (tells sets day calls) ≡ heard line (tells sets other others)
  pub feed_sequence : (line_of line (run sets day calls)).status.expected_sequence ≡ (line_of line (run sets other others)).status.expected_sequence
  pub trade_ids : (symbol : List ℕ) → of_record (λ r. r.next_trade_id) line symbol (run sets day calls) ≡ of_record (λ r. r.next_trade_id) line symbol (run sets other others)
  pub quote_marks : (symbol : List ℕ) → of_record (λ r. r.quote_mark) line symbol (run sets day calls) ≡ of_record (λ r. r.quote_mark) line symbol (run sets other others)
  pub sheets : (symbol : List ℕ) → center_sheet (run sets day calls) line symbol ≡ center_sheet (run sets other others) line symbol

-- Where a line's calls and the operator's are the same in two lists of calls, the line cannot tell the two days apart, whatever the
-- other lines did, at the start and after each answer: after the first `so_far` calls of the one and the first `till` of the other.
abbrev pub LinesApart : Sets → List (List ℕ) → List (List ℕ) → ℕ → Type 0
LinesApart sets symbols originators start =
    (records others_records : List MarketCenterRecord) (calls others : List Call) (so_far till line : ℕ) → line < length originators →
    calls_for line (take so_far calls) ≡ calls_for line (take till others) →
    SameFor sets line (fresh_day symbols originators start records) (fresh_day symbols originators start others_records) (take so_far calls) (take till others)

-- VOLUMES ADD UP

-- the sum over the lines with numbers below a bound
unfoldable pub over_lines : ℕ → (ℕ → ℕ) → ℕ
over_lines zero volume = 0
over_lines (suc n) volume = volume n + over_lines n volume

abbrev pub sheet_at : Day → ℕ → PlainSheet LastSale
sheet_at day place = slice_index_or day.sheets place no_sheet

abbrev pub center_at : Day → ℕ → ℕ → PlainSheet ℕ
center_at day place line = (record_at (line_of line day).records place).sheet

abbrev pub is_send : Call → Bool
is_send (of_line number log_in) = false
is_send (of_line number (send time frame room)) = true
is_send (of_line number (inquire time symbol room)) = false
is_send (of_line number hang_up) = false
is_send (of_operator call) = false

-- what a send wrote, where it wrote something, is a tape line
abbrev pub tape_in : Told → List ℕ → List (List ℕ) → List (List ℕ)
tape_in told [] rest = rest
tape_in told (byte ∷ bytes) rest = kept_if (is_send told.call) (byte ∷ bytes) rest

unfoldable pub tape_lines : List Told → List (List ℕ)
tape_lines [] = []
tape_lines (told ∷ rest) = tape_in told told.wrote (tape_lines rest)

-- what a tape line adds to a security's volume, read off its bytes
abbrev pub added_by_line : List ℕ → List ℕ → ℕ
added_by_line symbol line = cond (bytes_eq (tape_symbol line) (text_of symbol) && counted (tape_condition line)) (tape_volume line) 0

unfoldable pub tape_volumes : List ℕ → List (List ℕ) → ℕ
tape_volumes symbol [] = 0
tape_volumes symbol (line ∷ lines) = added_by_line symbol line + tape_volumes symbol lines

-- frames come as bytes
abbrev pub IsBytes : Call → Type 0
IsBytes (of_line number log_in) = Unit {0}
IsBytes (of_line number (send time frame room)) = AllByRecursion (λ b. b < 256) frame
IsBytes (of_line number (inquire time symbol room)) = Unit {0}
IsBytes (of_line number hang_up) = Unit {0}
IsBytes (of_operator call) = Unit {0}

-- A security's consolidated volume is the sum of its market center volumes, and the sum of the volumes over its tape lines whose
-- conditions count.
abbrev pub VolumesAddUp : Sets → List (List ℕ) → List (List ℕ) → ℕ → Type 0
VolumesAddUp sets symbols originators start =
    (records : List MarketCenterRecord) (calls : List Call) (symbol : List ℕ) (place : ℕ) → place_of symbols symbol ≡ Some place →
    let day = fresh_day symbols originators start records in
    ((sheet_at (run sets day calls) place).volume ≡ over_lines (length originators) (λ line. (center_at (run sets day calls) place line).volume))
    × (AllByRecursion IsBytes calls → (sheet_at (run sets day calls) place).volume ≡ tape_volumes symbol (tape_lines (tells sets day calls)))

-- INTERLEAVING IS HARMLESS

-- Where for each line its calls with the operator's are the same in both lists, all consolidated highs, lows and volumes agree.
abbrev pub InterleavingHarmless : Sets → List (List ℕ) → List (List ℕ) → ℕ → Type 0
InterleavingHarmless sets symbols originators start =
    (records others_records : List MarketCenterRecord) (calls others : List Call) →
    ((line : ℕ) → line < length originators → calls_for line calls ≡ calls_for line others) →
    (place : ℕ) → place < length symbols →
    SameTotals (sheet_at (run sets (fresh_day symbols originators start records) calls) place) (sheet_at (run sets (fresh_day symbols originators start others_records) others) place)

-- A SHEET IS WHAT ITS REPORTS SAY

abbrev pub taken_if : Bool → Option Taken → List Taken → List Taken
taken_if keep None rest = rest
taken_if keep (Some report) rest = kept_if keep report rest

-- the reports that were taken of certain calls, in their order
unfoldable pub taken_in : (Call → Bool) → Sets → Day → List Call → List Taken
taken_in which sets day [] = []
taken_in which sets day (call ∷ calls) = taken_if (which call) (step sets day call).taken (taken_in which sets (step sets day call).day calls)

abbrev pub anyone : Call → Bool
anyone call = true

-- those of one security
unfoldable pub at_place : ℕ → List Taken → List Taken
at_place place [] = []
at_place place (t ∷ rest) = kept_if (t.place == place) t (at_place place rest)

abbrev pub center_sale_of : Taken → Sale
center_sale_of t = sale_of t.report

-- At every point of a run the consolidated sheet of a security is that of all its taken reports, and a market center's sheet that of
-- those which its line brought.
abbrev pub SheetsOfReports : Sets → List (List ℕ) → List (List ℕ) → ℕ → Type 0
SheetsOfReports sets symbols originators start =
    (records : List MarketCenterRecord) (calls : List Call) (place : ℕ) → place < length symbols →
    let day = fresh_day symbols originators start records in
    (sheet_at (run sets day calls) place ≡ sheet_of consolidated_entry (map line_sale_of (at_place place (taken_in anyone sets day calls))))
    × ((line : ℕ) → line < length originators → center_at (run sets day calls) place line ≡ sheet_of center_entry (map center_sale_of (at_place place (taken_in (is_of line) sets day calls))))

-- REFUSED CALLS, CUTS AND NUMBERS

-- a refused call alters nothing and writes nothing
abbrev pub RefusedAltersNothing : Type 0
RefusedAltersNothing =
    (sets : Sets) (day : Day) (call : Call) (refusal : Refusal) → (step sets day call).said ≡ refused refusal →
    ((step sets day call).day ≡ day) × ((step sets day call).wrote ≡ [])

abbrev pub is_hang_up : ℕ → Call → Bool
is_hang_up line (of_line number log_in) = false
is_hang_up line (of_line number (send time frame room)) = false
is_hang_up line (of_line number (inquire time symbol room)) = false
is_hang_up line (of_line number hang_up) = line == number
is_hang_up line (of_operator call) = false

-- a line that is cut stays cut, with the same code and row, until it hangs up
abbrev pub CutLasts : Sets → List (List ℕ) → List (List ℕ) → ℕ → Type 0
CutLasts sets symbols originators start =
    (records : List MarketCenterRecord) (calls more : List Call) (line : ℕ) (reason : Reason) →
    let day = fresh_day symbols originators start records in
    (line_of line (run sets day calls)).status.cut ≡ Some reason → AllByRecursion (λ call. is_hang_up line call ≡ false) more →
    (line_of line (run sets day (calls ++ more))).status.cut ≡ Some reason

-- the highest volume of one report
abbrev pub highest_volume : ℕ
highest_volume = 4294967295

-- what the numbers of a day stay below: a line's next feed sequence and trade ids are at most one more than the frames it consumed,
-- and no volume is more than the reports that were taken could bring
pub record Bounded (day : Day) : Type 0 where
  pub consumed : (line : ℕ) → (line_of line day).status.consumed ≤ frame_limit
  pub feed_sequence : (line : ℕ) → (line_of line day).status.expected_sequence ≡ (line_of line day).status.consumed + 1
  pub trade_id : (line place : ℕ) → line < line_count day.market → place < security_count day.market → (record_at (line_of line day).records place).next_trade_id ≤ (line_of line day).status.consumed + 1
  pub posted : (place : ℕ) → (get_or day.market.securities place fresh_security).posted ≤ action_limit
  pub serial : day.serial ≤ line_count day.market * frame_limit
  pub consolidated : (place : ℕ) → (sheet_at day place).volume ≤ day.serial * highest_volume
  pub center : (line place : ℕ) → line < line_count day.market → place < security_count day.market → (center_at day place line).volume ≤ (line_of line day).status.consumed * highest_volume

-- numbers never wrap
abbrev pub NeverWraps : Sets → List (List ℕ) → List (List ℕ) → ℕ → Type 0
NeverWraps sets symbols originators start =
    (records : List MarketCenterRecord) (calls : List Call) → AllByRecursion IsBytes calls → Bounded (run sets (fresh_day symbols originators start records) calls)

-- a law of every book, every list of a market and every start
abbrev pub Always : (Sets → List (List ℕ) → List (List ℕ) → ℕ → Type 0) → Type 0
Always Law = (sets : Sets) (symbols originators : List (List ℕ)) (start : ℕ) → PlainSymbolList symbols → PlainOriginatorList originators → Law sets symbols originators start
