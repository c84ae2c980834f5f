-- What one call does to a day, seen from the market and from each line.
use Rattle.std.proofs.Common.{◌≡◌, ℕ, suc, ◌+◌, ◌*◌, ◌<◌, ◌≤◌, Bool, true, false, cond, ◌||◌, ◌≢◌, List, [], ◌∷◌, length, get_or, Some, None, Ok, Err, Option, Result, sym, refl, ap, ◌∙◌, subst, arith, length-set, get_or-set_other, get_or-set_same, leb-false}
use Rattle.books.specs.Sets.{Sets}
use Rattle.inquiry.specs.declared.security_state.SecurityState.{SecurityState}
use Rattle.lines.specs.Judgement.{judged}
use Rattle.lines.specs.declared.judge.Message.{Message}
use Rattle.lines.specs.declared.judge.Message.TheVariants.{Trade, Mass}
use Rattle.marks.specs.Sweep.{swept}
use Rattle.marks.specs.declared.range.SymbolRange.{SymbolRange}
use Rattle.marks.specs.declared.trading_action.TradingAction.{TradingAction}
use Rattle.search.specs.Place.{place_of}
use Rattle.states.specs.LineStatus.{fresh_line}
use Rattle.states.specs.declared.refusal.Refusal.{Refusal}
use Rattle.stats.specs.declared.plain_sheet.PlainSheet.{PlainSheet}
use Rattle.stats.specs.declared.record.MarketCenterRecord.{MarketCenterRecord}
use Rattle.stats.specs.declared.sale.LastSale.{LastSale}
use Rattle.verdicts.specs.declared.answer.Verdict.{Verdict}
use Rattle.verdicts.specs.declared.answer.Verdict.TheVariants.{PassedOver, Rejected, Cut}
use Rattle.day.specs.Call.{of_line, of_operator, LineCall, log_in, send, inquire, hang_up, OperatorCall, open_day, post, close_day, Reply, refused, done, Taken}
use Rattle.day.specs.LineCalls.{Turn, after_reject, after_verdict, context_of, frame_place, line_refusal, line_turn, marked_by, send_turn}
use Rattle.day.specs.Operator.{destination, in_state, operated, operator_refusal}
use Rattle.day.specs.State.{Day, Line, Market, line_count, line_of, part_of, security_count}
use Rattle.day.specs.Step.{market_after, serial_after, sheets_after, step, turned, unless_barred, writing}
use Rattle.day.proofs.Parts.{ends_before, length_part, length-with, part-again, part-other}

-- a status for each line, a record for each line and security, a sheet for each security
pub record Sound (day : Day) : Type 0 where
  pub statuses : length day.statuses ≡ line_count day.market
  pub records : line_count day.market * security_count day.market ≤ length day.records
  pub sheets : length day.sheets ≡ security_count day.market

pub within : (day : Day) → Sound day → (number : ℕ) → number < line_count day.market → number * security_count day.market + security_count day.market ≤ length day.records
within day S number h =
    let end : number * security_count day.market + security_count day.market ≤ line_count day.market * security_count day.market = ends_before number (line_count day.market) (security_count day.market) h in
    let room = S.records in
    omega arith

pub line_length : (day : Day) → Sound day → (number : ℕ) → number < line_count day.market → length (line_of number day).records ≡ security_count day.market
line_length day S number h = length_part (security_count day.market) number day.records (within day S number h)

-- A TURN KEEPS A LINE'S RECORDS IN NUMBER

swept_length : (action : TradingAction) (range : SymbolRange) (symbols : List (List ℕ)) (records : List MarketCenterRecord) → length (swept action range symbols records) ≡ length records
unfolding swept
swept_length action range [] records = refl
swept_length action range (symbol ∷ symbols) [] = refl
swept_length action range (symbol ∷ symbols) (r ∷ records) = ap suc (swept_length action range symbols records)

marked_length : (action : Option TradingAction) (range : SymbolRange) (symbols : List (List ℕ)) (records : List MarketCenterRecord) → length (marked_by action range symbols records) ≡ length records
marked_length None range symbols records = refl
marked_length (Some action) range symbols records = swept_length action range symbols records

reject_length : (consumes : Bool) (place : Option ℕ) (records : List MarketCenterRecord) → length (after_reject consumes place records) ≡ length records
reject_length consumes None records = refl
reject_length false (Some place) records = refl
reject_length true (Some place) records = length-set records place _

verdict_length : (line : Line) (place : Option ℕ) (verdict : Verdict) → length (after_verdict line place verdict).records ≡ length line.records
verdict_length line place PassedOver = refl
verdict_length line place (Rejected reason) = reject_length _ place line.records
verdict_length line place (Cut reason) = refl

send_length : (market : Market) (number : ℕ) (line : Line) (time : ℕ) (place : Option ℕ) (judgement : Result Message Verdict) → length (send_turn market number line time place judgement).line.records ≡ length line.records
unfolding send_turn
send_length market number line time place (Err verdict) = verdict_length line place verdict
send_length market number line time None (Ok (Trade report)) = refl
send_length market number line time (Some place) (Ok (Trade report)) = length-set line.records place _
send_length market number line time place (Ok (Mass action)) = marked_length _ _ market.symbols line.records

pub turn_length : (sets : Sets) (market : Market) (number : ℕ) (line : Line) (call : LineCall) → length (line_turn sets market number line call).line.records ≡ length line.records
unfolding line_turn
turn_length sets market number line log_in = refl
turn_length sets market number line (send time frame room) =
    send_length market number line time (frame_place market frame) (judged sets (context_of market number line time (frame_place market frame)) frame)
turn_length sets market number line (inquire time symbol room) = refl
turn_length sets market number line hang_up = refl

-- ONLY A LINE OF THE LIST IS NOT REFUSED

pub not_barred : (applies : Bool) (refusal : Refusal) (rest : Option Refusal) → cond applies (Some refusal) rest ≡ None → applies ≡ false
not_barred false refusal rest e = refl
not_barred true refusal rest e = let z : ◌≡◌ {A = ℕ} 0 1 = cc in absurd (omega arith)

neither : (a b : Bool) → (a || b) ≡ false → a ≡ false
neither false b e = refl
neither true b e = e

pub on_list : (market : Market) (number : ℕ) (line : Line) (call : LineCall) → line_refusal market number line call ≡ None → number < line_count market
unfolding line_refusal
on_list market number line log_in e = omega (arith, leb-false (line_count market) number (not_barred _ _ _ e))
on_list market number line (send time frame room) e = omega (arith, leb-false (line_count market) number (neither _ _ (not_barred _ _ _ e)))
on_list market number line (inquire time symbol room) e = omega (arith, leb-false (line_count market) number (neither _ _ (not_barred _ _ _ e)))
on_list market number line hang_up e = omega (arith, leb-false (line_count market) number (neither _ _ (not_barred _ _ _ e)))

-- A LINE'S CALL

abbrev pub line_by : Option Refusal → Line → Turn → Line
line_by (Some refusal) line turn = line
line_by None line turn = turn.line

abbrev pub said_by : Option Refusal → Turn → Reply
said_by (Some refusal) turn = refused refusal
said_by None turn = turn.said

abbrev pub taken_by : Option Refusal → Turn → Option Taken
taken_by (Some refusal) turn = None
taken_by None turn = turn.taken

abbrev pub bytes_by : Option Refusal → Turn → List ℕ
bytes_by (Some refusal) turn = []
bytes_by None turn = turn.bytes

-- what a line's call comes to, as a function of the market and the line
abbrev pub line_after : Sets → Market → ℕ → Line → LineCall → Line
line_after sets market number line call = line_by (line_refusal market number line call) line (line_turn sets market number line call)

abbrev pub said_after : Sets → Market → ℕ → Line → LineCall → Reply
said_after sets market number line call = said_by (line_refusal market number line call) (line_turn sets market number line call)

abbrev pub taken_after : Sets → Market → ℕ → Line → LineCall → Option Taken
taken_after sets market number line call = taken_by (line_refusal market number line call) (line_turn sets market number line call)

abbrev pub bytes_after : Sets → Market → ℕ → Line → LineCall → List ℕ
bytes_after sets market number line call = bytes_by (line_refusal market number line call) (line_turn sets market number line call)

pub record Visited (sets : Sets) (day : Day) (number : ℕ) (call : LineCall) : Type 0 where
  pub market : (step sets day (of_line number call)).day.market ≡ day.market
  pub mine : line_of number (step sets day (of_line number call)).day ≡ line_after sets day.market number (line_of number day) call
  pub others : (other : ℕ) → number ≢ other → line_of other (step sets day (of_line number call)).day ≡ line_of other day
  pub said : (step sets day (of_line number call)).said ≡ said_after sets day.market number (line_of number day) call
  pub taken : (step sets day (of_line number call)).taken ≡ taken_after sets day.market number (line_of number day) call
  pub wrote : (step sets day (of_line number call)).wrote ≡ writing day.serial (taken_after sets day.market number (line_of number day) call) (bytes_after sets day.market number (line_of number day) call)
  pub sheets : (step sets day (of_line number call)).day.sheets ≡ sheets_after (taken_after sets day.market number (line_of number day) call) day.sheets
  pub serial : (step sets day (of_line number call)).day.serial ≡ serial_after (taken_after sets day.market number (line_of number day) call) day.serial
  pub sound : Sound (step sets day (of_line number call)).day

sheets_length : (taken : Option Taken) (sheets : List (PlainSheet LastSale)) → length (sheets_after taken sheets) ≡ length sheets
sheets_length None sheets = refl
sheets_length (Some t) sheets = length-set sheets t.place _

mine_by : (day : Day) (number : ℕ) (turn : Turn) → Sound day → number < line_count day.market → length turn.line.records ≡ security_count day.market → line_of number (turned day number turn).day ≡ turn.line
mine_by day number turn S h long =
    let in-statuses : number < length day.statuses = rw S.statuses h in
    let in-records : number * security_count day.market ≤ length day.records = omega (arith, within day S number h) in
    λ i. record {
      status = get_or-set_same day.statuses number turn.line.status fresh_line in-statuses i;
      records = part-again (security_count day.market) number turn.line.records day.records long in-records i;
    }

others_by : (day : Day) (number other : ℕ) (turn : Turn) → Sound day → number < line_count day.market → length turn.line.records ≡ security_count day.market → number ≢ other → line_of other (turned day number turn).day ≡ line_of other day
others_by day number other turn S h long ne =
    λ i. record {
      status = get_or-set_other day.statuses number other turn.line.status fresh_line (λ e. ne (sym e)) i;
      records = part-other (security_count day.market) number other turn.line.records day.records ne long (within day S number h) i;
    }

sound_by : (day : Day) (number : ℕ) (turn : Turn) → Sound day → number < line_count day.market → length turn.line.records ≡ security_count day.market → Sound (turned day number turn).day
sound_by day number turn S h long = record {
  statuses = length-set day.statuses number _ ∙ S.statuses;
  records = rw (length-with (security_count day.market) number turn.line.records day.records long (within day S number h)) S.records;
  sheets = sheets_length turn.taken day.sheets ∙ S.sheets;
}

-- what holds of each way that a call may go
pub record Went (sets : Sets) (day : Day) (number : ℕ) (call : LineCall) (refusal : Option Refusal) : Type 0 where
  pub mine : line_of number (unless_barred refusal day (turned day number (line_turn sets day.market number (line_of number day) call))).day ≡ line_by refusal (line_of number day) (line_turn sets day.market number (line_of number day) call)
  pub others : (other : ℕ) → number ≢ other → line_of other (unless_barred refusal day (turned day number (line_turn sets day.market number (line_of number day) call))).day ≡ line_of other day
  pub sound : Sound (unless_barred refusal day (turned day number (line_turn sets day.market number (line_of number day) call))).day

went : (sets : Sets) (day : Day) (number : ℕ) (call : LineCall) (refusal : Option Refusal) → Sound day → line_refusal day.market number (line_of number day) call ≡ refusal → Went sets day number call refusal
went sets day number call (Some refusal) S e = record { mine = refl; others = λ other ne. refl; sound = S }
went sets day number call None S e =
    let turn = line_turn sets day.market number (line_of number day) call in
    let h = on_list day.market number (line_of number day) call e in
    let long = turn_length sets day.market number (line_of number day) call ∙ line_length day S number h in
    record {
      mine = mine_by day number turn S h long;
      others = λ other ne. others_by day number other turn S h long ne;
      sound = sound_by day number turn S h long;
    }

barred_market : (refusal : Option Refusal) (day : Day) (number : ℕ) (turn : Turn) → (unless_barred refusal day (turned day number turn)).day.market ≡ day.market
barred_market (Some refusal) day number turn = refl
barred_market None day number turn = refl

barred_said : (refusal : Option Refusal) (day : Day) (number : ℕ) (turn : Turn) → (unless_barred refusal day (turned day number turn)).said ≡ said_by refusal turn
barred_said (Some refusal) day number turn = refl
barred_said None day number turn = refl

barred_taken : (refusal : Option Refusal) (day : Day) (number : ℕ) (turn : Turn) → (unless_barred refusal day (turned day number turn)).taken ≡ taken_by refusal turn
barred_taken (Some refusal) day number turn = refl
barred_taken None day number turn = refl

barred_wrote : (refusal : Option Refusal) (day : Day) (number : ℕ) (turn : Turn) → (unless_barred refusal day (turned day number turn)).wrote ≡ writing day.serial (taken_by refusal turn) (bytes_by refusal turn)
barred_wrote (Some refusal) day number turn = refl
barred_wrote None day number turn = refl

barred_sheets : (refusal : Option Refusal) (day : Day) (number : ℕ) (turn : Turn) → (unless_barred refusal day (turned day number turn)).day.sheets ≡ sheets_after (taken_by refusal turn) day.sheets
barred_sheets (Some refusal) day number turn = refl
barred_sheets None day number turn = refl

barred_serial : (refusal : Option Refusal) (day : Day) (number : ℕ) (turn : Turn) → (unless_barred refusal day (turned day number turn)).day.serial ≡ serial_after (taken_by refusal turn) day.serial
barred_serial (Some refusal) day number turn = refl
barred_serial None day number turn = refl

pub visited : (sets : Sets) (day : Day) (number : ℕ) (call : LineCall) → Sound day → Visited sets day number call
unfolding step
visited sets day number call S =
    let refusal = line_refusal day.market number (line_of number day) call in
    let turn = line_turn sets day.market number (line_of number day) call in
    let w = went sets day number call refusal S refl in
    record {
      market = barred_market refusal day number turn;
      mine = w.mine;
      others = w.others;
      said = barred_said refusal day number turn;
      taken = barred_taken refusal day number turn;
      wrote = barred_wrote refusal day number turn;
      sheets = barred_sheets refusal day number turn;
      serial = barred_serial refusal day number turn;
      sound = w.sound;
    }

-- AN OPERATOR'S CALL

abbrev pub market_by : Option Refusal → Market → Market → Market
market_by (Some refusal) market other = market
market_by None market other = other

abbrev pub operator_said : Option Refusal → Reply
operator_said (Some refusal) = refused refusal
operator_said None = done

abbrev pub operator_after : Market → OperatorCall → Market
operator_after market call = market_by (operator_refusal market call) market (operated market call)

-- the operator does not alter the list
pub record SameList (one other : Market) : Type 0 where
  pub symbols : one.symbols ≡ other.symbols
  pub originators : one.originators ≡ other.originators

state_list : (market : Market) (place : Option ℕ) (state : Option SecurityState) → SameList (in_state market place state) market
state_list market None state = record { symbols = refl; originators = refl }
state_list market (Some place) None = record { symbols = refl; originators = refl }
state_list market (Some place) (Some state) = record { symbols = refl; originators = refl }

operated_list : (market : Market) (call : OperatorCall) → SameList (operated market call) market
unfolding operated
operated_list market open_day = record { symbols = refl; originators = refl }
operated_list market (post symbol action) = state_list market (place_of market.symbols symbol) (destination market (place_of market.symbols symbol) action)
operated_list market close_day = record { symbols = refl; originators = refl }

by_list : (refusal : Option Refusal) (market other : Market) → SameList other market → SameList (market_by refusal market other) market
by_list (Some refusal) market other s = record { symbols = refl; originators = refl }
by_list None market other s = s

pub operator_list : (market : Market) (call : OperatorCall) → SameList (operator_after market call) market
operator_list market call = by_list (operator_refusal market call) market (operated market call) (operated_list market call)

pub record Operated (sets : Sets) (day : Day) (call : OperatorCall) : Type 0 where
  pub market : (step sets day (of_operator call)).day.market ≡ operator_after day.market call
  pub lines : (number : ℕ) → line_of number (step sets day (of_operator call)).day ≡ line_of number day
  pub said : (step sets day (of_operator call)).said ≡ operator_said (operator_refusal day.market call)
  pub taken : (step sets day (of_operator call)).taken ≡ None
  pub wrote : (step sets day (of_operator call)).wrote ≡ []
  pub sheets : (step sets day (of_operator call)).day.sheets ≡ day.sheets
  pub serial : (step sets day (of_operator call)).day.serial ≡ day.serial
  pub sound : Sound (step sets day (of_operator call)).day

sound_market : (day : Day) (market : Market) → SameList market day.market → Sound day → Sound (market_after day market).day
sound_market day market s S = record {
  statuses = S.statuses ∙ ap length (sym s.originators);
  records = subst (λ l. length l * length market.symbols ≤ length day.records) (sym s.originators) (subst (λ l. length day.market.originators * length l ≤ length day.records) (sym s.symbols) S.records);
  sheets = S.sheets ∙ ap length (sym s.symbols);
}

operated_by : (day : Day) (refusal : Option Refusal) (market : Market) → SameList market day.market → Sound day →
    ((unless_barred refusal day (market_after day market)).day.market ≡ market_by refusal day.market market)
    × ((number : ℕ) → line_of number (unless_barred refusal day (market_after day market)).day ≡ line_of number day)
    × Sound (unless_barred refusal day (market_after day market)).day
operated_by day (Some refusal) market s S = (refl, (λ number. refl), S)
operated_by day None market s S =
    (refl, (λ number i. record { status = get_or day.statuses number fresh_line; records = part_of (length (s.symbols i)) number day.records }), sound_market day market s S)

quiet_by : (day : Day) (refusal : Option Refusal) (market : Market) →
    ((unless_barred refusal day (market_after day market)).said ≡ operator_said refusal)
    × ((unless_barred refusal day (market_after day market)).taken ≡ None)
    × ((unless_barred refusal day (market_after day market)).wrote ≡ [])
    × ((unless_barred refusal day (market_after day market)).day.sheets ≡ day.sheets)
    × ((unless_barred refusal day (market_after day market)).day.serial ≡ day.serial)
quiet_by day (Some refusal) market = (refl, refl, refl, refl, refl)
quiet_by day None market = (refl, refl, refl, refl, refl)

pub operates : (sets : Sets) (day : Day) (call : OperatorCall) → Sound day → Operated sets day call
unfolding step
operates sets day call S =
    let refusal = operator_refusal day.market call in
    let b = operated_by day refusal (operated day.market call) (operated_list day.market call) S in
    let q = quiet_by day refusal (operated day.market call) in
    record {
      market = b.0;
      lines = b.1;
      sound = b.2;
      said = q.0;
      taken = q.1;
      wrote = q.2;
      sheets = q.3;
      serial = q.4;
    }
