-- The numbers of a day stay within bounds.
use Rattle.std.proofs.Common.{◌≡◌, ℕ, zero, suc, ◌+◌, ◌*◌, ◌^◌, ◌<◌, ◌≤◌, Bool, true, false, cond, not, ◌||◌, leb, ◌≢◌, List, [], ◌∷◌, ◌++◌, length, get_or, drop, set, replicate, Some, None, Ok, Err, Option, Result, sym, refl, ap, subst, inl, inr, arith}
use lib.ListN.{length-replicate}
use Rattle.std.specs.List.{AllByRecursion as All}
use Rattle.std.specs.Option.{is_some}
use Rattle.std.proofs.ByRecursion.{All-drop, All-take}
use Rattle.std.proofs.lemmas.List.{get_or_past}
use Rattle.std.proofs.lemmas.Bool.{cases_eq, cases_lt, leb-false}
use Rattle.books.specs.Sets.{Sets}
use Rattle.conditions.specs.Condition.{counted}
use Rattle.inquiry.specs.declared.security_state.SecurityState.{SecurityState}
use Rattle.lines.specs.Judgement.{judged}
use Rattle.lines.specs.declared.judge.Message.{Message}
use Rattle.lines.specs.declared.judge.Message.TheVariants.{Trade, Mass}
use Rattle.marks.specs.Actions.{action_of}
use Rattle.marks.specs.Marks.{mark_after}
use Rattle.marks.specs.Range.{in_range}
use Rattle.marks.specs.Sweep.{swept}
use Rattle.marks.specs.declared.range.SymbolRange.{SymbolRange}
use Rattle.marks.specs.declared.trading_action.TradingAction.{TradingAction}
use Rattle.search.specs.Place.{place_of}
use Rattle.states.specs.LineStatus.{fresh_line}
use Rattle.states.specs.SecurityStatus.{fresh_security}
use Rattle.states.specs.declared.line_status.LineStatus.{LineStatus}
use Rattle.states.specs.declared.refusal.Refusal.{Refusal}
use Rattle.states.specs.declared.refusal.Refusal.TheVariants.{ActionsSpent, FramesSpent, LineCut, NoTransition, NotListed, NotLoggedIn}
use Rattle.states.specs.declared.security_status.SecurityStatus.{SecurityStatus}
use Rattle.stats.specs.Entries.{consolidated_entry}
use Rattle.stats.specs.Plain.{noted}
use Rattle.stats.specs.Records.{fresh_record, no_record}
use Rattle.stats.specs.declared.plain_sheet.PlainSheet.{PlainSheet}
use Rattle.stats.specs.declared.record.MarketCenterRecord.{MarketCenterRecord}
use Rattle.stats.specs.declared.record.QuoteMark.{QuoteMark}
use Rattle.stats.specs.declared.sale.LastSale.{LastSale}
use Rattle.verdicts.specs.declared.answer.Reason.{Reason}
use Rattle.verdicts.specs.declared.answer.Verdict.{Verdict}
use Rattle.verdicts.specs.declared.answer.Verdict.TheVariants.{PassedOver, Rejected, Cut}
use Rattle.wire.specs.declared.trade_report.TradeReport.{TradeReport}
use Rattle.day.specs.Call.{Call, of_line, of_operator, LineCall, log_in, send, inquire, hang_up, OperatorCall, open_day, post, close_day, Taken}
use Rattle.day.specs.Laws.{Bounded, IsBytes, NeverWraps, highest_volume, over_lines, sheet_at}
use Rattle.day.specs.LineCalls.{after_reject, after_verdict, changed_at, consumes_id, context_of, frame_consumed, frame_limit, frame_place, id_consumed, line_refusal, line_turn, marked_by, range_of, record_at, report_taken, send_turn}
use Rattle.day.specs.Operator.{action_limit, destination, in_state, operated, operator_refusal, posted_at, status_at}
use Rattle.day.specs.State.{Day, Line, Market, fresh_day, line_count, line_of, no_sheet, part_of}
use Rattle.day.specs.Step.{line_sale_of, run, serial_after, sheets_after, step}
use Rattle.day.proofs.Apart.{fresh_sound}
use Rattle.day.proofs.Cuts.{at_fresh, line_kept, past_bar}
use Rattle.day.proofs.Genuine.{volume_bounded}
use Rattle.day.proofs.Parts.{ends_before, part-front}
use Rattle.day.proofs.Sheets.{step_lines}
use Rattle.day.proofs.Steps.{Sound, line_by, market_by, on_list, operates, taken_after, taken_by, visited}

-- what holds at an index, and of a new element, holds at that index once the new one is set anywhere
pub at_set : {X : Type 0} (P : X → Type 0) (xs : List X) (i j : ℕ) (x d : X) → P x → P (get_or xs j d) → P (get_or (set xs i x) j d)
at_set P [] i j x d p h = h
at_set P (y ∷ ys) zero zero x d p h = p
at_set P (y ∷ ys) zero (suc j) x d p h = h
at_set P (y ∷ ys) (suc i) zero x d p h = h
at_set P (y ∷ ys) (suc i) (suc j) x d p h = at_set P ys i j x d p h

-- A LINE'S RECORDS

-- a record of a line that consumed some frames
pub record Within (frames : ℕ) (r : MarketCenterRecord) : Type 0 where
  pub trade_id : r.next_trade_id ≤ frames + 1
  pub center : r.sheet.volume ≤ frames * highest_volume

abbrev pub AllWithin : ℕ → List MarketCenterRecord → Type 0
AllWithin frames records = (place : ℕ) → Within frames (record_at records place)

later : (frames : ℕ) (r : MarketCenterRecord) → Within frames r → Within (frames + 1) r
later frames r h = omega arith

id_within : (frames : ℕ) (r : MarketCenterRecord) → Within frames r → Within (frames + 1) (id_consumed r)
id_within frames r h = omega arith

counted_le : (b : Bool) (volume : ℕ) → cond b volume 0 ≤ volume
counted_le true volume = omega arith
counted_le false volume = omega arith

report_within : (frames : ℕ) (report : TradeReport) (r : MarketCenterRecord) → report.volume < 2 ^ 32 → Within frames r → Within (frames + 1) (report_taken report r)
report_within frames report r small h =
    let added : cond (counted report.condition) report.volume 0 ≤ report.volume = counted_le (counted report.condition) report.volume in
    omega arith

changed_within : (frames : ℕ) (change : MarketCenterRecord → MarketCenterRecord) (place : ℕ) (records : List MarketCenterRecord) → ((r : MarketCenterRecord) → Within frames r → Within (frames + 1) (change r)) → AllWithin frames records →
    AllWithin (frames + 1) (changed_at change place records)
changed_within frames change place records keeps h other =
    at_set (Within (frames + 1)) records place other (change (record_at records place)) no_record (keeps (record_at records place) (h place)) (later frames (record_at records other) (h other))

reject_within : (frames : ℕ) (consumes : Bool) (place : Option ℕ) (records : List MarketCenterRecord) → AllWithin frames records → AllWithin (frames + 1) (after_reject consumes place records)
reject_within frames consumes None records h = λ other. later frames (record_at records other) (h other)
reject_within frames false (Some place) records h = λ other. later frames (record_at records other) (h other)
reject_within frames true (Some place) records h = changed_within frames id_consumed place records (id_within frames) h

swept_by : (b : Bool) (frames : ℕ) (mark : QuoteMark) (r : MarketCenterRecord) → Within frames r → Within frames (cond b (record { next_trade_id = r.next_trade_id; quote_mark = mark; sheet = r.sheet }) r)
swept_by true frames mark r h = record { trade_id = h.trade_id; center = h.center }
swept_by false frames mark r h = h

swept_within : (frames : ℕ) (action : TradingAction) (range : SymbolRange) (symbols : List (List ℕ)) (records : List MarketCenterRecord) → AllWithin frames records → AllWithin frames (swept action range symbols records)
unfolding swept
swept_within frames action range [] records h place = h place
swept_within frames action range (symbol ∷ symbols) [] h place = h place
swept_within frames action range (symbol ∷ symbols) (r ∷ records) h zero = swept_by (in_range range symbol) frames (mark_after action r.quote_mark) r (h 0)
swept_within frames action range (symbol ∷ symbols) (r ∷ records) h (suc place) = swept_within frames action range symbols records (λ other. h (suc other)) place

marked_within : (frames : ℕ) (action : Option TradingAction) (range : SymbolRange) (symbols : List (List ℕ)) (records : List MarketCenterRecord) → AllWithin frames records → AllWithin frames (marked_by action range symbols records)
marked_within frames None range symbols records h = h
marked_within frames (Some action) range symbols records h = swept_within frames action range symbols records h

-- A LINE

pub record Fits (line : Line) : Type 0 where
  pub consumed : line.status.consumed ≤ frame_limit
  pub feed_sequence : line.status.expected_sequence ≡ line.status.consumed + 1
  pub records : AllWithin line.status.consumed line.records

-- a line whose counts and records stay, as after a log_in, a hang_up or a cut
seated_fits : (line : Line) (inside : Bool) (cut : Option Reason) → Fits line →
    Fits (record { status = record { logged_in = inside; cut = cut; expected_sequence = line.status.expected_sequence; consumed = line.status.consumed }; records = line.records })
seated_fits line inside cut h = record { consumed = h.consumed; feed_sequence = h.feed_sequence; records = h.records }

consumed_fits : (line : Line) (records : List MarketCenterRecord) → line.status.consumed < frame_limit → Fits line → AllWithin (line.status.consumed + 1) records → Fits (record { status = frame_consumed line.status; records = records })
consumed_fits line records room h w = record { consumed = omega arith; feed_sequence = ap (λ n. n + 1) h.feed_sequence; records = w }

verdict_fits : (line : Line) (place : Option ℕ) (verdict : Verdict) → line.status.consumed < frame_limit → Fits line → Fits (after_verdict line place verdict)
verdict_fits line place PassedOver room h = h
verdict_fits line place (Rejected reason) room h = consumed_fits line (after_reject (consumes_id reason.row) place line.records) room h (reject_within line.status.consumed (consumes_id reason.row) place line.records h.records)
verdict_fits line place (Cut reason) room h = seated_fits line line.status.logged_in (Some reason) h

-- no report that a turn takes has a volume that does not fit
abbrev SmallVolume : Option Taken → Type 0
SmallVolume taken = (t : Taken) → taken ≡ Some t → t.report.volume < 2 ^ 32

send_fits : (market : Market) (number : ℕ) (line : Line) (time : ℕ) (place : Option ℕ) (verdict : Result Message Verdict) → line.status.consumed < frame_limit → Fits line → SmallVolume (send_turn market number line time place verdict).taken →
    Fits (send_turn market number line time place verdict).line
unfolding send_turn
send_fits market number line time place (Err verdict) room h small = verdict_fits line place verdict room h
send_fits market number line time None (Ok (Trade report)) room h small = h
send_fits market number line time (Some place) (Ok (Trade report)) room h small =
    let fits : report.volume < 2 ^ 32 = small (record { line = number; place = place; time = time; report = report }) refl in
    consumed_fits line (changed_at (report_taken report) place line.records) room h
    (changed_within line.status.consumed (report_taken report) place line.records (λ r w. report_within line.status.consumed report r fits w) h.records)
send_fits market number line time place (Ok (Mass action)) room h small =
    consumed_fits line (marked_by (action_of action.action) (range_of action) market.symbols line.records) room h
    (λ other. later line.status.consumed (record_at (marked_by (action_of action.action) (range_of action) market.symbols line.records) other)
    (marked_within line.status.consumed (action_of action.action) (range_of action) market.symbols line.records h.records other))

-- what is sent and not refused finds the line with frames left
frames_left : (market : Market) (number : ℕ) (line : Line) (time : ℕ) (frame : List ℕ) (room : ℕ) → line_refusal market number line (send time frame room) ≡ None → line.status.consumed < frame_limit
unfolding line_refusal
frames_left market number line time frame room e =
    let inside = past_bar (leb (line_count market) number || not line.status.logged_in) NotLoggedIn _ e in
    let uncut = past_bar (is_some line.status.cut) LineCut _ inside.1 in
    leb-false frame_limit line.status.consumed (past_bar (leb frame_limit line.status.consumed) FramesSpent _ uncut.1).0

fits_by : (sets : Sets) (market : Market) (number : ℕ) (line : Line) (call : LineCall) (refusal : Option Refusal) → line_refusal market number line call ≡ refusal → Fits line →
    SmallVolume (taken_by refusal (line_turn sets market number line call)) → Fits (line_by refusal line (line_turn sets market number line call))
unfolding line_turn
fits_by sets market number line call (Some refusal) e h small = h
fits_by sets market number line log_in None e h small = seated_fits line true None h
fits_by sets market number line (send time frame room) None e h small =
    send_fits market number line time (frame_place market frame) (judged sets (context_of market number line time (frame_place market frame)) frame) (frames_left market number line time frame room e) h small
fits_by sets market number line (inquire time symbol room) None e h small = h
fits_by sets market number line hang_up None e h small = seated_fits line false None h

-- HOW MANY FRAMES A LINE CONSUMED

verdict_grows : (line : Line) (place : Option ℕ) (verdict : Verdict) → line.status.consumed ≤ (after_verdict line place verdict).status.consumed
verdict_grows line place PassedOver = omega arith
verdict_grows line place (Rejected reason) = omega arith
verdict_grows line place (Cut reason) = omega arith

send_grows : (market : Market) (number : ℕ) (line : Line) (time : ℕ) (place : Option ℕ) (verdict : Result Message Verdict) →
    serial_after (send_turn market number line time place verdict).taken line.status.consumed ≤ (send_turn market number line time place verdict).line.status.consumed
unfolding send_turn
send_grows market number line time place (Err verdict) = verdict_grows line place verdict
send_grows market number line time None (Ok (Trade report)) = omega arith
send_grows market number line time (Some place) (Ok (Trade report)) = omega arith
send_grows market number line time place (Ok (Mass action)) = omega arith

-- a report that is taken is a frame that is consumed
grows_by : (sets : Sets) (market : Market) (number : ℕ) (line : Line) (call : LineCall) (refusal : Option Refusal) →
    serial_after (taken_by refusal (line_turn sets market number line call)) line.status.consumed ≤ (line_by refusal line (line_turn sets market number line call)).status.consumed
unfolding line_turn
grows_by sets market number line call (Some refusal) = omega arith
grows_by sets market number line log_in None = omega arith
grows_by sets market number line (send time frame room) None = send_grows market number line time (frame_place market frame) (judged sets (context_of market number line time (frame_place market frame)) frame)
grows_by sets market number line (inquire time symbol room) None = omega arith
grows_by sets market number line hang_up None = omega arith

-- SUMS OVER LINES

sums_le : (n : ℕ) (f g : ℕ → ℕ) → ((i : ℕ) → f i ≤ g i) → over_lines n f ≤ over_lines n g
unfolding over_lines
sums_le zero f g h = omega arith
sums_le (suc n) f g h = omega (arith, sums_le n f g h, h n)

sums_grow : (n number : ℕ) (f g : ℕ → ℕ) → number < n → ((i : ℕ) → f i ≤ g i) → f number + 1 ≤ g number → over_lines n f + 1 ≤ over_lines n g
unfolding over_lines
sums_grow zero number f g below h more = absurd (omega arith)
sums_grow (suc n) number f g below h more = elim (cases_lt number n) [
  | inl lt ↦ omega (arith, sums_grow n number f g lt h more, h n)
  | inr le ↦
      let same : number ≡ n = omega arith in
      omega (arith, sums_le n f g h, subst (λ k. f k + 1 ≤ g k) same more)
]

sums_bound : (n : ℕ) (f : ℕ → ℕ) → ((i : ℕ) → f i ≤ frame_limit) → over_lines n f ≤ n * frame_limit
unfolding over_lines
sums_bound zero f h = omega arith
sums_bound (suc n) f h = omega (arith, sums_bound n f h, h n)

-- where one line has more and the others have as many
no_less : (number : ℕ) (f g : ℕ → ℕ) → f number ≤ g number → ((i : ℕ) → number ≢ i → f i ≡ g i) → (i : ℕ) → f i ≤ g i
no_less number f g h others i = elim (cases_eq number i) [
  | inl same ↦ subst (λ k. f k ≤ g k) same h
  | inr ne ↦ omega (arith, others i ne)
]

serial_by : (n number : ℕ) (f g : ℕ → ℕ) (taken : Option Taken) (serial : ℕ) → ((t : Taken) → taken ≡ Some t → number < n) → serial_after taken (f number) ≤ g number → ((i : ℕ) → number ≢ i → f i ≡ g i) → serial ≤ over_lines n f →
    serial_after taken serial ≤ over_lines n g
serial_by n number f g None serial listed h others s = omega (arith, sums_le n f g (no_less number f g h others))
serial_by n number f g (Some t) serial listed h others s = omega (arith, sums_grow n number f g (listed t refl) (no_less number f g (omega arith) others) h)

-- SHEETS AND SECURITIES

sheets_by : (taken : Option Taken) (sheets : List (PlainSheet LastSale)) (serial : ℕ) → SmallVolume taken → ((place : ℕ) → (get_or sheets place no_sheet).volume ≤ serial * highest_volume) →
    (place : ℕ) → (get_or (sheets_after taken sheets) place no_sheet).volume ≤ serial_after taken serial * highest_volume
sheets_by None sheets serial small h place = h place
sheets_by (Some t) sheets serial small h place =
    let fits : t.report.volume < 2 ^ 32 = small t refl in
    let added : cond (counted t.report.condition) t.report.volume 0 ≤ t.report.volume = counted_le (counted t.report.condition) t.report.volume in
    at_set (λ s. s.volume ≤ (serial + 1) * highest_volume) sheets t.place place (noted (get_or sheets t.place no_sheet) (consolidated_entry (line_sale_of t))) no_sheet
    (omega (arith, h t.place)) (omega (arith, h place))

abbrev pub Posted : Market → Type 0
Posted market = (place : ℕ) → (get_or market.securities place fresh_security).posted ≤ action_limit

state_posted : (market : Market) (place : Option ℕ) (state : Option SecurityState) → posted_at market place < action_limit → Posted market → Posted (in_state market place state)
state_posted market None state room h other = h other
state_posted market (Some place) None room h other = h other
state_posted market (Some place) (Some state) room h other =
    at_set (λ s. s.posted ≤ action_limit) market.securities place other (record { state = state; posted = (status_at market place).posted + 1 }) fresh_security (omega arith) (h other)

posted_by : (market : Market) (call : OperatorCall) (refusal : Option Refusal) → operator_refusal market call ≡ refusal → Posted market → Posted (market_by refusal market (operated market call))
unfolding operated operator_refusal
posted_by market call (Some refusal) e h = h
posted_by market open_day None e h = h
posted_by market (post symbol action) None e h =
    let place = place_of market.symbols symbol in
    let listed = past_bar (not (is_some place)) NotListed _ e in
    let leads = past_bar (not (is_some (destination market place action))) NoTransition _ listed.1 in
    let spent = past_bar (leb action_limit (posted_at market place)) ActionsSpent _ leads.1 in
    state_posted market place (destination market place action) (leb-false action_limit (posted_at market place) spent.0) h
posted_by market close_day None e h = h

-- A DAY

pub record Kept (day : Day) : Type 0 where
  pub sound : Sound day
  pub lines : (line : ℕ) → line < line_count day.market → Fits (line_of line day)
  pub posted : Posted day.market
  pub serial : day.serial ≤ over_lines (line_count day.market) (λ line. (line_of line day).status.consumed)
  pub consolidated : (place : ℕ) → (sheet_at day place).volume ≤ day.serial * highest_volume

lines_kept : (sets : Sets) (day : Day) (call : Call) → IsBytes call → Kept day → (line : ℕ) → line < line_count day.market → Fits (line_of line (step sets day call).day)
lines_kept sets day call bytes K line below =
    let now = line_of line day in
    line_kept Fits sets line day K.sound (K.lines line below) call
    (λ own e. fits_by sets day.market line now own (line_refusal day.market line now own) refl (K.lines line below)
    (λ t f. volume_bounded sets day.market line now own t (subst IsBytes e bytes) f))

listed_by : (sets : Sets) (market : Market) (number : ℕ) (line : Line) (call : LineCall) (refusal : Option Refusal) (t : Taken) → line_refusal market number line call ≡ refusal → taken_by refusal (line_turn sets market number line call) ≡ Some t → number < line_count market
listed_by sets market number line call (Some refusal) t e f = let z : ◌≡◌ {A = ℕ} 0 1 = cc in absurd (omega arith)
listed_by sets market number line call None t e f = on_list market number line call e

pub line_step : (sets : Sets) (day : Day) (number : ℕ) (call : LineCall) → IsBytes (of_line number call) → Kept day → Kept (step sets day (of_line number call)).day
line_step sets day number call bytes K =
    let v = visited sets day number call K.sound in
    let after = (step sets day (of_line number call)).day in
    let now = line_of number day in
    let taken = taken_after sets day.market number now call in
    let same = step_lines sets day (of_line number call) K.sound in
    let grows : serial_after taken now.status.consumed ≤ (line_of number after).status.consumed =
    subst (λ (l : Line). serial_after taken now.status.consumed ≤ l.status.consumed) (sym v.mine) (grows_by sets day.market number now call (line_refusal day.market number now call)) in
    let serial : serial_after taken day.serial ≤ over_lines (line_count day.market) (λ line. (line_of line after).status.consumed) =
    serial_by (line_count day.market) number (λ line. (line_of line day).status.consumed) (λ line. (line_of line after).status.consumed) taken day.serial
    (λ t f. listed_by sets day.market number now call (line_refusal day.market number now call) t refl f) grows
    (λ other ne. ap (λ l. l.status.consumed) (sym (v.others other ne))) K.serial in
    let sheets = sheets_by taken day.sheets day.serial (λ t f. volume_bounded sets day.market number now call t bytes f) K.consolidated in
    record {
      sound = v.sound;
      lines = λ line below. lines_kept sets day (of_line number call) bytes K line (subst (λ n. line < n) same below);
      posted = subst Posted (sym v.market) K.posted;
      serial = subst (λ n. after.serial ≤ over_lines n (λ line. (line_of line after).status.consumed)) (sym same) (subst (λ n. n ≤ over_lines (line_count day.market) (λ line. (line_of line after).status.consumed)) (sym v.serial) serial);
      consolidated = λ place. subst (λ (n : ℕ). (sheet_at after place).volume ≤ n * highest_volume) (sym v.serial) (subst (λ s. (get_or s place no_sheet).volume ≤ serial_after taken day.serial * highest_volume) (sym v.sheets) (sheets place));
    }

pub operator_step : (sets : Sets) (day : Day) (call : OperatorCall) → Kept day → Kept (step sets day (of_operator call)).day
operator_step sets day call K =
    let v = operates sets day call K.sound in
    let after = (step sets day (of_operator call)).day in
    let same = step_lines sets day (of_operator call) K.sound in
    let serial : day.serial ≤ over_lines (line_count day.market) (λ line. (line_of line after).status.consumed) =
    omega (
      arith,
      K.serial,
      sums_le (line_count day.market) (λ line. (line_of line day).status.consumed) (λ line. (line_of line after).status.consumed)
          (λ line. subst (λ (l : Line). (line_of line day).status.consumed ≤ l.status.consumed) (sym (v.lines line)) (omega arith)),
    ) in
    record {
      sound = v.sound;
      lines = λ line below. lines_kept sets day (of_operator call) tt K line (subst (λ n. line < n) same below);
      posted = subst Posted (sym v.market) (posted_by day.market call (operator_refusal day.market call) refl K.posted);
      serial = subst (λ n. after.serial ≤ over_lines n (λ line. (line_of line after).status.consumed)) (sym same) (subst (λ n. n ≤ over_lines (line_count day.market) (λ line. (line_of line after).status.consumed)) (sym v.serial) serial);
      consolidated = λ place. subst (λ (n : ℕ). (sheet_at after place).volume ≤ n * highest_volume) (sym v.serial) (subst (λ s. (get_or s place no_sheet).volume ≤ day.serial * highest_volume) (sym v.sheets) (K.consolidated place));
    }

run_kept : (sets : Sets) (day : Day) (calls : List Call) → All IsBytes calls → Kept day → Kept (run sets day calls)
unfolding run
run_kept sets day [] bytes K = K
run_kept sets day (of_line number call ∷ calls) bytes K = run_kept sets (step sets day (of_line number call)).day calls bytes.1 (line_step sets day number call bytes.0 K)
run_kept sets day (of_operator call ∷ calls) bytes K = run_kept sets (step sets day (of_operator call)).day calls bytes.1 (operator_step sets day call K)

-- FRESH DAYS

within_all : (frames : ℕ) (records : List MarketCenterRecord) → All (Within frames) records → AllWithin frames records
within_all frames [] h place = record { trade_id = omega arith; center = omega arith }
within_all frames (r ∷ records) h zero = h.0
within_all frames (r ∷ records) h (suc place) = within_all frames records h.1 place

fresh_within : (n : ℕ) → All (Within 0) (replicate n fresh_record)
fresh_within zero = tt
fresh_within (suc n) = (record { trade_id = omega arith; center = omega arith }, fresh_within n)

fresh_fits : (symbols originators : List (List ℕ)) (start : ℕ) (records : List MarketCenterRecord) (line : ℕ) → line < length originators → Fits (line_of line (fresh_day symbols originators start records))
fresh_fits symbols originators start records line below =
    let width = length symbols in
    let cleared = replicate (length originators * width) fresh_record in
    let inside : line * width + width ≤ length cleared = rw length-replicate (ends_before line (length originators) width below) in
    let part : All (Within 0) (part_of width line cleared) = All-take (Within 0) width (drop (line * width) cleared) (All-drop (Within 0) (line * width) cleared (fresh_within (length originators * width))) in
    let mine : AllWithin 0 (part_of width line (cleared ++ drop (length originators * width) records)) =
    subst (AllWithin 0) (sym (part-front width line cleared (drop (length originators * width) records) inside)) (within_all 0 (part_of width line cleared) part) in
    subst (λ (s : LineStatus). Fits (record { status = s; records = part_of width line (cleared ++ drop (length originators * width) records) })) (sym (at_fresh (length originators) line fresh_line))
    (record { consumed = omega arith; feed_sequence = refl; records = mine })

pub fresh_kept : (symbols originators : List (List ℕ)) (start : ℕ) (records : List MarketCenterRecord) → Kept (fresh_day symbols originators start records)
fresh_kept symbols originators start records = record {
  sound = fresh_sound symbols originators start records;
  lines = fresh_fits symbols originators start records;
  posted = λ place. subst (λ (s : SecurityStatus). s.posted ≤ action_limit) (sym (at_fresh (length symbols) place fresh_security)) (omega arith);
  serial = omega arith;
  consolidated = λ place. subst (λ (s : PlainSheet LastSale). s.volume ≤ 0 * highest_volume) (sym (at_fresh (length symbols) place no_sheet)) (omega arith);
}

-- a line past the end of the list is as fresh
abbrev CountsFit : LineStatus → Type 0
CountsFit status = (status.consumed ≤ frame_limit) × (status.expected_sequence ≡ status.consumed + 1)

any_line : (day : Day) → Kept day → (line : ℕ) → CountsFit (line_of line day).status
any_line day K line = elim (cases_lt line (line_count day.market)) [
  | inl below ↦ ((K.lines line below).consumed, (K.lines line below).feed_sequence)
  | inr beyond ↦ subst CountsFit (sym (get_or_past day.statuses line fresh_line (rw K.sound.statuses beyond))) (omega arith, refl)
]

pub bounded : (day : Day) → Kept day → Bounded day
bounded day K = record {
  consumed = λ line. (any_line day K line).0;
  feed_sequence = λ line. (any_line day K line).1;
  trade_id = λ line place below listed. ((K.lines line below).records place).trade_id;
  posted = K.posted;
  serial = omega (arith, K.serial, sums_bound (line_count day.market) (λ line. (line_of line day).status.consumed) (λ line. (any_line day K line).0));
  consolidated = K.consolidated;
  center = λ line place below listed. ((K.lines line below).records place).center;
}

pub never_wraps : (sets : Sets) (symbols originators : List (List ℕ)) (start : ℕ) → NeverWraps sets symbols originators start
never_wraps sets symbols originators start records calls bytes =
    bounded (run sets (fresh_day symbols originators start records) calls) (run_kept sets (fresh_day symbols originators start records) calls bytes (fresh_kept symbols originators start records))
