-- A sheet is what its reports say, at every point of a run.
use Rattle.std.proofs.Common.{◌≡◌, ℕ, zero, suc, ◌+◌, ◌*◌, ◌<◌, Bool, true, false, cond, eqb, List, [], ◌∷◌, ◌++◌, map, length, get_or, drop, set, replicate, Some, None, Ok, Err, Option, Result, sym, refl, ap, ◌∙◌, subst, append_assoc, append-nil, arith, get_or-drop, get_or-set_other, get_or-take, get_or-set_same, eqb-true}
use mathlib.Core.List.{map-append}
use borrow.Author.Tests.{eqb-false}
use lib.ListN.{get_or-replicate, length-replicate, get_or-append}
use Rattle.books.specs.Sets.{Sets}
use Rattle.lines.specs.Judgement.{judged}
use Rattle.lines.specs.declared.judge.Message.{Message}
use Rattle.lines.specs.declared.judge.Message.TheVariants.{Trade, Mass}
use Rattle.marks.specs.Sweep.{swept}
use Rattle.marks.specs.Range.{in_range}
use Rattle.marks.specs.declared.range.SymbolRange.{SymbolRange}
use Rattle.marks.specs.declared.trading_action.TradingAction.{TradingAction}
use Rattle.states.specs.declared.refusal.Refusal.{Refusal}
use Rattle.stats.specs.Entries.{center_entry, consolidated_entry}
use Rattle.stats.specs.Plain.{empty_sheet, noted}
use Rattle.stats.specs.Records.{fresh_record, no_record}
use Rattle.stats.specs.Reports.{joined, sheet_of, latest_yes, earliest_first}
use Rattle.stats.specs.declared.entry.Entry.{Entry}
use Rattle.stats.specs.declared.plain_sheet.PlainSheet.{PlainSheet}
use Rattle.stats.specs.declared.record.MarketCenterRecord.{MarketCenterRecord}
use Rattle.stats.specs.declared.sale.LastSale.{LastSale}
use Rattle.stats.proofs.Noting.{sheet-push}
use Rattle.verdicts.specs.declared.answer.Verdict.{Verdict}
use Rattle.verdicts.specs.declared.answer.Verdict.TheVariants.{PassedOver, Rejected, Cut}
use Rattle.day.specs.Call.{Call, of_line, of_operator, LineCall, log_in, send, inquire, hang_up, Taken}
use Rattle.day.specs.LineCalls.{Turn, after_reject, after_verdict, changed_at, context_of, frame_place, id_consumed, line_refusal, line_turn, marked_by, record_at, report_taken, send_turn}
use Rattle.day.specs.Laws.{SheetsOfReports, anyone, at_place, center_at, center_sale_of, is_of, kept_if, sheet_at, taken_if, taken_in}
use Rattle.day.specs.State.{Day, Line, Market, fresh_day, line_count, line_of, no_sheet, security_count}
use Rattle.day.specs.Step.{line_sale_of, run, sheets_after, step}
use Rattle.day.proofs.Apart.{fresh_sound, step_sound}
use Rattle.day.proofs.Parts.{ends_before}
use Rattle.day.proofs.Steps.{Sound, line_by, line_length, operates, operator_list, taken_after, taken_by, visited}

-- the one report of a call that is of a place, if there is one
abbrev pub report_at : ℕ → Option Taken → List Taken
report_at place taken = at_place place (taken_if true taken [])

at_by : (place : ℕ) (b : Bool) (t : Taken) (rest : List Taken) → kept_if b t rest ≡ kept_if b t [] ++ rest
at_by place true t rest = refl
at_by place false t rest = refl

-- of the reports with one more in front
pub more_at : (place : ℕ) (taken : Option Taken) (rest : List Taken) → at_place place (taken_if true taken rest) ≡ report_at place taken ++ at_place place rest
unfolding at_place
more_at place None rest = refl
more_at place (Some t) rest = at_by place (eqb t.place place) t (at_place place rest)

-- ONE REPORT MORE ON A SHEET

module _ {R L : Type 0} (enter : R → Entry L) (read : Taken → R) where
  -- a sheet that has the reports so far has the call's too
  abbrev pub Fed : PlainSheet L → PlainSheet L → List Taken → Type 0
  Fed before after reports = (so_far : List R) → before ≡ sheet_of enter so_far → after ≡ sheet_of enter (so_far ++ map read reports)

  pub fed-none : (sheet after : PlainSheet L) → after ≡ sheet → Fed sheet after []
  fed-none sheet after e so_far is = e ∙ is ∙ ap (sheet_of enter) (sym (append-nil so_far))

  pub fed-one : (sheet : PlainSheet L) (t : Taken) → Fed sheet (noted sheet (enter (read t))) (t ∷ [])
  fed-one sheet t so_far is = ap (λ s. noted s (enter (read t))) is ∙ sym (sheet-push enter so_far (read t))

  pub fed_then : {before between after : PlainSheet L} (one two : List Taken) → Fed before between one → Fed between after two → Fed before after (one ++ two)
  fed_then one two f g so_far is =
      g (so_far ++ map read one) (f so_far is) ∙ ap (sheet_of enter) (append_assoc so_far (map read one) (map read two) ∙ ap (λ xs. so_far ++ xs) (sym (map-append read one two)))

-- THE CONSOLIDATED SHEETS

consolidated_by : (place : ℕ) (t : Taken) (sheets : List (PlainSheet LastSale)) → place < length sheets → (b : Bool) → eqb t.place place ≡ b →
    Fed consolidated_entry line_sale_of (get_or sheets place no_sheet) (get_or (sheets_after (Some t) sheets) place no_sheet) (kept_if b t [])
consolidated_by place t sheets h true e =
    let same : t.place ≡ place = eqb-true t.place place e in
    let new = noted (get_or sheets t.place no_sheet) (consolidated_entry (line_sale_of t)) in
    let here : get_or (sheets_after (Some t) sheets) place no_sheet ≡ noted (get_or sheets place no_sheet) (consolidated_entry (line_sale_of t)) =
    ap (λ k. get_or (set sheets k new) place no_sheet) same ∙ get_or-set_same sheets place new no_sheet h ∙ ap (λ k. noted (get_or sheets k no_sheet) (consolidated_entry (line_sale_of t))) same in
    λ so_far is. here ∙ fed-one consolidated_entry line_sale_of (get_or sheets place no_sheet) t so_far is
consolidated_by place t sheets h false e =
    fed-none consolidated_entry line_sale_of (get_or sheets place no_sheet) (get_or (sheets_after (Some t) sheets) place no_sheet)
    (get_or-set_other sheets t.place place _ no_sheet (λ z. eqb-false t.place place e (sym z)))

consolidated_fed : (place : ℕ) (taken : Option Taken) (sheets : List (PlainSheet LastSale)) → place < length sheets →
    Fed consolidated_entry line_sale_of (get_or sheets place no_sheet) (get_or (sheets_after taken sheets) place no_sheet) (report_at place taken)
unfolding at_place
consolidated_fed place None sheets h = fed-none consolidated_entry line_sale_of (get_or sheets place no_sheet) (get_or sheets place no_sheet) refl
consolidated_fed place (Some t) sheets h = consolidated_by place t sheets h (eqb t.place place) refl

step_fed : (sets : Sets) (place : ℕ) (day : Day) (call : Call) → Sound day → place < security_count day.market →
    Fed consolidated_entry line_sale_of (sheet_at day place) (sheet_at (step sets day call).day place) (report_at place (step sets day call).taken)
step_fed sets place day (of_line number call) S h =
    let v = visited sets day number call S in
    let inside : place < length day.sheets = rw S.sheets h in
    λ so_far is.
    ap (λ sheets. get_or sheets place no_sheet) v.sheets
    ∙ consolidated_fed place (taken_after sets day.market number (line_of number day) call) day.sheets inside so_far is
    ∙ ap (λ taken. sheet_of consolidated_entry (so_far ++ map line_sale_of (report_at place taken))) (sym v.taken)
step_fed sets place day (of_operator call) S h =
    let v = operates sets day call S in
    let inside : place < length day.sheets = rw S.sheets h in
    λ so_far is.
    ap (λ sheets. get_or sheets place no_sheet) v.sheets
    ∙ consolidated_fed place None day.sheets inside so_far is
    ∙ ap (λ taken. sheet_of consolidated_entry (so_far ++ map line_sale_of (report_at place taken))) (sym v.taken)

-- the list of a market stays, so a place of it stays one
pub step_securities : (sets : Sets) (day : Day) (call : Call) → Sound day → security_count (step sets day call).day.market ≡ security_count day.market
step_securities sets day (of_line number call) S = ap security_count (visited sets day number call S).market
step_securities sets day (of_operator call) S = ap security_count (operates sets day call S).market ∙ ap length (operator_list day.market call).symbols

pub step_lines : (sets : Sets) (day : Day) (call : Call) → Sound day → line_count (step sets day call).day.market ≡ line_count day.market
step_lines sets day (of_line number call) S = ap line_count (visited sets day number call S).market
step_lines sets day (of_operator call) S = ap line_count (operates sets day call S).market ∙ ap length (operator_list day.market call).originators

run_fed : (sets : Sets) (place : ℕ) (calls : List Call) (day : Day) → Sound day → place < security_count day.market →
    Fed consolidated_entry line_sale_of (sheet_at day place) (sheet_at (run sets day calls) place) (at_place place (taken_in anyone sets day calls))
unfolding run taken_in at_place
run_fed sets place [] day S h = fed-none consolidated_entry line_sale_of (sheet_at day place) (sheet_at day place) refl
run_fed sets place (call ∷ calls) day S h =
    let next = (step sets day call).day in
    let still : place < security_count next.market = rw (step_securities sets day call S) h in
    let rest = taken_in anyone sets next calls in
    let both = fed_then consolidated_entry line_sale_of (report_at place (step sets day call).taken) (at_place place rest) (step_fed sets place day call S h) (run_fed sets place calls next (step_sound sets day call S) still) in
    λ so_far is. both so_far is ∙ ap (λ ts. sheet_of consolidated_entry (so_far ++ map line_sale_of ts)) (sym (more_at place (step sets day call).taken rest))

-- THE MARKET CENTERS' SHEETS

abbrev Center : ℕ → List MarketCenterRecord → PlainSheet ℕ
Center place records = (record_at records place).sheet

-- a change of records that leaves their sheets
set-sheet : (place at : ℕ) (r : MarketCenterRecord) (records : List MarketCenterRecord) → r.sheet ≡ Center at records → (b : Bool) → eqb at place ≡ b → place < length records → Center place (set records at r) ≡ Center place records
set-sheet place at r records e true b h =
    let same : at ≡ place = eqb-true at place b in
    ap (λ k. Center place (set records k r)) same ∙ ap (λ x. x.sheet) (get_or-set_same records place r no_record h) ∙ e ∙ ap (λ k. Center k records) same
set-sheet place at r records e false b h = ap (λ x. x.sheet) (get_or-set_other records at place r no_record (λ z. eqb-false at place b (sym z)))

reject_sheet : (place : ℕ) (consumes : Bool) (at : Option ℕ) (records : List MarketCenterRecord) → place < length records → Center place (after_reject consumes at records) ≡ Center place records
reject_sheet place consumes None records h = refl
reject_sheet place false (Some at) records h = refl
reject_sheet place true (Some at) records h = set-sheet place at (id_consumed (record_at records at)) records refl (eqb at place) refl h

verdict_sheet : (place : ℕ) (line : Line) (at : Option ℕ) (verdict : Verdict) → place < length line.records → Center place (after_verdict line at verdict).records ≡ Center place line.records
verdict_sheet place line at PassedOver h = refl
verdict_sheet place line at (Rejected reason) h = reject_sheet place _ at line.records h
verdict_sheet place line at (Cut reason) h = refl

swept_by : (b : Bool) (changed r : MarketCenterRecord) → changed.sheet ≡ r.sheet → (cond b changed r).sheet ≡ r.sheet
swept_by true changed r e = e
swept_by false changed r e = refl

swept_sheet : (place : ℕ) (action : TradingAction) (range : SymbolRange) (symbols : List (List ℕ)) (records : List MarketCenterRecord) → Center place (swept action range symbols records) ≡ Center place records
unfolding swept
swept_sheet place action range [] records = refl
swept_sheet place action range (symbol ∷ symbols) [] = refl
swept_sheet zero action range (symbol ∷ symbols) (r ∷ records) = swept_by (in_range range symbol) _ r refl
swept_sheet (suc place) action range (symbol ∷ symbols) (r ∷ records) = swept_sheet place action range symbols records

marked_sheet : (place : ℕ) (action : Option TradingAction) (range : SymbolRange) (symbols : List (List ℕ)) (records : List MarketCenterRecord) → Center place (marked_by action range symbols records) ≡ Center place records
marked_sheet place None range symbols records = refl
marked_sheet place (Some action) range symbols records = swept_sheet place action range symbols records

trade_by : (place : ℕ) (t : Taken) (records : List MarketCenterRecord) → place < length records → (b : Bool) → eqb t.place place ≡ b →
    Fed center_entry center_sale_of (Center place records) (Center place (changed_at (report_taken t.report) t.place records)) (kept_if b t [])
trade_by place t records h true e =
    let same : t.place ≡ place = eqb-true t.place place e in
    let new = report_taken t.report (record_at records t.place) in
    let here : Center place (changed_at (report_taken t.report) t.place records) ≡ noted (Center place records) (center_entry (center_sale_of t)) =
    ap (λ k. Center place (set records k new)) same ∙ ap (λ x. x.sheet) (get_or-set_same records place new no_record h) ∙ ap (λ k. noted (Center k records) (center_entry (center_sale_of t))) same in
    λ so_far is. here ∙ fed-one center_entry center_sale_of (Center place records) t so_far is
trade_by place t records h false e =
    fed-none center_entry center_sale_of (Center place records) (Center place (changed_at (report_taken t.report) t.place records))
    (ap (λ x. x.sheet) (get_or-set_other records t.place place _ no_record (λ z. eqb-false t.place place e (sym z))))

send_fed : (market : Market) (number : ℕ) (line : Line) (time : ℕ) (at : Option ℕ) (judgement : Result Message Verdict) (place : ℕ) → place < length line.records →
    Fed center_entry center_sale_of (Center place line.records) (Center place (send_turn market number line time at judgement).line.records) (report_at place (send_turn market number line time at judgement).taken)
unfolding send_turn at_place
send_fed market number line time at (Err verdict) place h =
    fed-none center_entry center_sale_of (Center place line.records) (Center place (after_verdict line at verdict).records) (verdict_sheet place line at verdict h)
send_fed market number line time None (Ok (Trade report)) place h = fed-none center_entry center_sale_of (Center place line.records) (Center place line.records) refl
send_fed market number line time (Some at) (Ok (Trade report)) place h =
    trade_by place (record { line = number; place = at; time = time; report = report }) line.records h (eqb at place) refl
send_fed market number line time at (Ok (Mass action)) place h =
    fed-none center_entry center_sale_of (Center place line.records) _ (marked_sheet place _ _ market.symbols line.records)

turn_fed : (sets : Sets) (market : Market) (number : ℕ) (line : Line) (call : LineCall) (place : ℕ) → place < length line.records →
    Fed center_entry center_sale_of (Center place line.records) (Center place (line_turn sets market number line call).line.records) (report_at place (line_turn sets market number line call).taken)
unfolding line_turn at_place
turn_fed sets market number line log_in place h = fed-none center_entry center_sale_of (Center place line.records) (Center place line.records) refl
turn_fed sets market number line (send time frame room) place h =
    send_fed market number line time (frame_place market frame) (judged sets (context_of market number line time (frame_place market frame)) frame) place h
turn_fed sets market number line (inquire time symbol room) place h = fed-none center_entry center_sale_of (Center place line.records) (Center place line.records) refl
turn_fed sets market number line hang_up place h = fed-none center_entry center_sale_of (Center place line.records) (Center place line.records) refl

line_fed_by : (line : Line) (turn : Turn) (refusal : Option Refusal) (place : ℕ) → Fed center_entry center_sale_of (Center place line.records) (Center place turn.line.records) (report_at place turn.taken) →
    Fed center_entry center_sale_of (Center place line.records) (Center place (line_by refusal line turn).records) (report_at place (taken_by refusal turn))
unfolding at_place
line_fed_by line turn (Some refusal) place f = fed-none center_entry center_sale_of (Center place line.records) (Center place line.records) refl
line_fed_by line turn None place f = f

-- the reports of a call that count for a line
abbrev report_for : ℕ → ℕ → Call → Option Taken → List Taken
report_for line place call taken = at_place place (taken_if (is_of line call) taken [])

more_by : (place : ℕ) (b : Bool) (taken : Option Taken) (rest : List Taken) → at_place place (taken_if b taken rest) ≡ at_place place (taken_if b taken []) ++ at_place place rest
unfolding at_place
more_by place true taken rest = more_at place taken rest
more_by place false None rest = refl
more_by place false (Some t) rest = refl

center_mine : (sets : Sets) (place : ℕ) (day : Day) (number : ℕ) (call : LineCall) → Sound day → number < line_count day.market → place < security_count day.market →
    Fed center_entry center_sale_of (center_at day place number) (center_at (step sets day (of_line number call)).day place number) (report_at place (step sets day (of_line number call)).taken)
center_mine sets place day number call S k h =
    let v = visited sets day number call S in
    let line = line_of number day in
    let inside : place < length line.records = rw (line_length day S number k) h in
    let f = line_fed_by line (line_turn sets day.market number line call) (line_refusal day.market number line call) place (turn_fed sets day.market number line call place inside) in
    λ so_far is.
    ap (λ l. Center place l.records) v.mine
    ∙ f so_far is
    ∙ ap (λ taken. sheet_of center_entry (so_far ++ map center_sale_of (report_at place taken))) (sym v.taken)

nothing_kept : (place : ℕ) (taken : Option Taken) → at_place place (taken_if false taken []) ≡ []
unfolding at_place
nothing_kept place None = refl
nothing_kept place (Some t) = refl

center_by : (sets : Sets) (place line : ℕ) (day : Day) (number : ℕ) (call : LineCall) → Sound day → line < line_count day.market → place < security_count day.market → (b : Bool) → eqb line number ≡ b →
    Fed center_entry center_sale_of (center_at day place line) (center_at (step sets day (of_line number call)).day place line) (at_place place (taken_if b (step sets day (of_line number call)).taken []))
center_by sets place line day number call S k h true e =
    let same : line ≡ number = eqb-true line number e in
    subst (λ n. Fed center_entry center_sale_of (center_at day place line) (center_at (step sets day (of_line n call)).day place line) (report_at place (step sets day (of_line n call)).taken)) same (center_mine sets place day line call S k h)
center_by sets place line day number call S k h false e =
    let v = visited sets day number call S in
    let f = fed-none center_entry center_sale_of (center_at day place line) (center_at (step sets day (of_line number call)).day place line)
    (ap (λ l. Center place l.records) (v.others line (λ z. eqb-false line number e (sym z)))) in
    λ so_far is. f so_far is ∙ ap (λ ts. sheet_of center_entry (so_far ++ map center_sale_of ts)) (sym (nothing_kept place (step sets day (of_line number call)).taken))

center_step : (sets : Sets) (place line : ℕ) (day : Day) (call : Call) → Sound day → line < line_count day.market → place < security_count day.market →
    Fed center_entry center_sale_of (center_at day place line) (center_at (step sets day call).day place line) (report_for line place call (step sets day call).taken)
center_step sets place line day (of_line number call) S k h = center_by sets place line day number call S k h (eqb line number) refl
center_step sets place line day (of_operator call) S k h =
    let v = operates sets day call S in
    let f = fed-none center_entry center_sale_of (center_at day place line) (center_at (step sets day (of_operator call)).day place line) (ap (λ l. Center place l.records) (v.lines line)) in
    λ so_far is. f so_far is ∙ ap (λ ts. sheet_of center_entry (so_far ++ map center_sale_of ts)) (sym (nothing_kept place (step sets day (of_operator call)).taken))

center_run : (sets : Sets) (place line : ℕ) (calls : List Call) (day : Day) → Sound day → line < line_count day.market → place < security_count day.market →
    Fed center_entry center_sale_of (center_at day place line) (center_at (run sets day calls) place line) (at_place place (taken_in (is_of line) sets day calls))
unfolding run taken_in at_place
center_run sets place line [] day S k h = fed-none center_entry center_sale_of (center_at day place line) (center_at day place line) refl
center_run sets place line (call ∷ calls) day S k h =
    let next = (step sets day call).day in
    let still : place < security_count next.market = rw (step_securities sets day call S) h in
    let there : line < line_count next.market = rw (step_lines sets day call S) k in
    let rest = taken_in (is_of line) sets next calls in
    let both = fed_then center_entry center_sale_of (report_for line place call (step sets day call).taken) (at_place place rest) (center_step sets place line day call S k h) (center_run sets place line calls next (step_sound sets day call S) there still) in
    λ so_far is. both so_far is ∙ ap (λ ts. sheet_of center_entry (so_far ++ map center_sale_of ts)) (sym (more_by place (is_of line call) (step sets day call).taken rest))

-- FROM A FRESH DAY

fresh_center : (symbols originators : List (List ℕ)) (start : ℕ) (records : List MarketCenterRecord) (place line : ℕ) → line < length originators → place < length symbols → center_at (fresh_day symbols originators start records) place line ≡ empty_sheet
fresh_center symbols originators start records place line k h =
    let width = length symbols in
    let total = length originators * width in
    let inside : line * width + place < total = omega (arith, ends_before line (length originators) width k) in
    ap (λ x. x.sheet)
    (get_or-take width (drop (line * width) (replicate total fresh_record ++ drop total records)) place no_record h
    ∙ get_or-drop (line * width) (replicate total fresh_record ++ drop total records) place no_record
    ∙ get_or-append (replicate total fresh_record) (drop total records) no_record (line * width + place) (rw length-replicate inside)
    ∙ get_or-replicate total (line * width + place) fresh_record no_record inside)

none_entered : {R L : Type 0} (enter : R → Entry L) → empty_sheet ≡ sheet_of enter []
unfolding joined latest_yes earliest_first
none_entered enter = refl

pub sheets_of_reports : (sets : Sets) (symbols originators : List (List ℕ)) (start : ℕ) → SheetsOfReports sets symbols originators start
sheets_of_reports sets symbols originators start records calls place h =
    let day = fresh_day symbols originators start records in
    let S = fresh_sound symbols originators start records in (
      run_fed sets place calls day S h [] (get_or-replicate (length symbols) place no_sheet no_sheet h ∙ none_entered consolidated_entry),
      λ line k. center_run sets place line calls day S k h [] (fresh_center symbols originators start records place line k h ∙ none_entered center_entry),
    )
