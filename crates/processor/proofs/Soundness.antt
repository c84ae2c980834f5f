-- Sheets stay sound.
use Rattle.std.proofs.Common.{◌≡◌, ℕ, zero, suc, min, max, Bool, true, false, cond, List, [], ◌∷◌, get_or, Some, None, Ok, Err, Option, Result, refl, arith}
use Rattle.std.proofs.lemmas.Bool.{le-leb, leb-true}
use Rattle.books.specs.Sets.{Sets}
use Rattle.lines.specs.Judgement.{judged}
use Rattle.lines.specs.declared.judge.Message.{Message}
use Rattle.lines.specs.declared.judge.Message.TheVariants.{Trade, Mass}
use Rattle.marks.specs.Actions.{action_of}
use Rattle.marks.specs.Range.{in_range}
use Rattle.marks.specs.Sweep.{swept}
use Rattle.marks.specs.declared.range.SymbolRange.{SymbolRange}
use Rattle.marks.specs.declared.trading_action.TradingAction.{TradingAction}
use Rattle.states.specs.declared.refusal.Refusal.{Refusal}
use Rattle.stats.specs.Entries.{center_entry, consolidated_entry}
use Rattle.stats.specs.Plain.{higher, lower, noted, sound}
use Rattle.stats.specs.Records.{no_record}
use Rattle.stats.specs.Spans.{spans}
use Rattle.stats.specs.declared.entry.Entry.{Entry}
use Rattle.stats.specs.declared.plain_sheet.PlainSheet.{PlainSheet}
use Rattle.stats.specs.declared.record.MarketCenterRecord.{MarketCenterRecord}
use Rattle.stats.specs.declared.sale.LastSale.{LastSale}
use Rattle.verdicts.specs.declared.answer.Verdict.{Verdict}
use Rattle.verdicts.specs.declared.answer.Verdict.TheVariants.{PassedOver, Rejected, Cut}
use Rattle.day.specs.Call.{LineCall, Taken, hang_up, inquire, log_in, send}
use Rattle.day.specs.LineCalls.{after_reject, after_verdict, changed_at, consumes_id, context_of, frame_place, id_consumed, line_turn, marked_by, range_of, record_at, report_taken, sale_of, send_turn}
use Rattle.day.specs.State.{Line, Market, no_sheet}
use Rattle.day.specs.Step.{line_sale_of, sheets_after}
use Rattle.day.proofs.Bounds.{at_set}
use Rattle.day.proofs.Steps.{line_by}

spanned : (high low spanned : Option ℕ) → spans high low ≡ true → spans (higher high spanned) (lower low spanned) ≡ true
spanned None None None e = refl
spanned None None (Some p) e = le-leb p p (omega arith)
spanned None (Some low) p e = let z : ◌≡◌ {A = ℕ} 0 1 = cc in absurd (omega arith)
spanned (Some high) None p e = let z : ◌≡◌ {A = ℕ} 0 1 = cc in absurd (omega arith)
spanned (Some high) (Some low) None e = e
spanned (Some high) (Some low) (Some p) e = le-leb (min low p) (max high p) (omega (arith, leb-true low high e))

pub noted_sound : {L : Type 0} (s : PlainSheet L) (entry : Entry L) → sound s ≡ true → sound (noted s entry) ≡ true
noted_sound s entry e = spanned s.high s.low entry.spanned e

-- A LINE'S RECORDS

abbrev SoundRecord : MarketCenterRecord → Type 0
SoundRecord r = sound r.sheet ≡ true

abbrev pub AllSound : List MarketCenterRecord → Type 0
AllSound records = (place : ℕ) → SoundRecord (record_at records place)

changed_sound : (change : MarketCenterRecord → MarketCenterRecord) (place : ℕ) (records : List MarketCenterRecord) → ((r : MarketCenterRecord) → SoundRecord r → SoundRecord (change r)) → AllSound records → AllSound (changed_at change place records)
changed_sound change place records keeps h other = at_set SoundRecord records place other (change (record_at records place)) no_record (keeps (record_at records place) (h place)) (h other)

reject_sound : (consumes : Bool) (place : Option ℕ) (records : List MarketCenterRecord) → AllSound records → AllSound (after_reject consumes place records)
reject_sound consumes None records h = h
reject_sound false (Some place) records h = h
reject_sound true (Some place) records h = changed_sound id_consumed place records (λ r e. e) h

verdict_sound : (line : Line) (place : Option ℕ) (verdict : Verdict) → AllSound line.records → AllSound (after_verdict line place verdict).records
verdict_sound line place PassedOver h = h
verdict_sound line place (Rejected reason) h = reject_sound (consumes_id reason.row) place line.records h
verdict_sound line place (Cut reason) h = h

swept_by : (b : Bool) (changed r : MarketCenterRecord) → SoundRecord changed → SoundRecord r → SoundRecord (cond b changed r)
swept_by true changed r e h = e
swept_by false changed r e h = h

swept_sound : (action : TradingAction) (range : SymbolRange) (symbols : List (List ℕ)) (records : List MarketCenterRecord) → AllSound records → AllSound (swept action range symbols records)
unfolding swept
swept_sound action range [] records h place = h place
swept_sound action range (symbol ∷ symbols) [] h place = h place
swept_sound action range (symbol ∷ symbols) (r ∷ records) h zero = swept_by (in_range range symbol) _ r (h 0) (h 0)
swept_sound action range (symbol ∷ symbols) (r ∷ records) h (suc place) = swept_sound action range symbols records (λ other. h (suc other)) place

marked_sound : (action : Option TradingAction) (range : SymbolRange) (symbols : List (List ℕ)) (records : List MarketCenterRecord) → AllSound records → AllSound (marked_by action range symbols records)
marked_sound None range symbols records h = h
marked_sound (Some action) range symbols records h = swept_sound action range symbols records h

send_sound : (market : Market) (number : ℕ) (line : Line) (time : ℕ) (place : Option ℕ) (judgement : Result Message Verdict) → AllSound line.records → AllSound (send_turn market number line time place judgement).line.records
unfolding send_turn
send_sound market number line time place (Err verdict) h = verdict_sound line place verdict h
send_sound market number line time None (Ok (Trade report)) h = h
send_sound market number line time (Some place) (Ok (Trade report)) h = changed_sound (report_taken report) place line.records (λ r e. noted_sound r.sheet (center_entry (sale_of report)) e) h
send_sound market number line time place (Ok (Mass action)) h = marked_sound (action_of action.action) (range_of action) market.symbols line.records h

pub line_sound : (sets : Sets) (market : Market) (number : ℕ) (line : Line) (call : LineCall) (refusal : Option Refusal) → AllSound line.records → AllSound (line_by refusal line (line_turn sets market number line call)).records
unfolding line_turn
line_sound sets market number line call (Some refusal) h = h
line_sound sets market number line log_in None h = h
line_sound sets market number line (send time frame room) None h = send_sound market number line time (frame_place market frame) (judged sets (context_of market number line time (frame_place market frame)) frame) h
line_sound sets market number line (inquire time symbol room) None h = h
line_sound sets market number line hang_up None h = h

-- THE CONSOLIDATED SHEETS

abbrev pub SheetsSound : List (PlainSheet LastSale) → Type 0
SheetsSound sheets = (place : ℕ) → sound (get_or sheets place no_sheet) ≡ true

pub sheets_sound : (taken : Option Taken) (sheets : List (PlainSheet LastSale)) → SheetsSound sheets → SheetsSound (sheets_after taken sheets)
sheets_sound None sheets h place = h place
sheets_sound (Some t) sheets h place =
    at_set (λ s. sound s ≡ true) sheets t.place place (noted (get_or sheets t.place no_sheet) (consolidated_entry (line_sale_of t))) no_sheet (noted_sound (get_or sheets t.place no_sheet) (consolidated_entry (line_sale_of t)) (h t.place)) (h place)
