-- What a line sees is made of its own calls and the operator's.
use Rattle.std.proofs.Common.{◌≡◌, ℕ, ◌+◌, ◌*◌, ◌<◌, ◌≤◌, Bool, true, false, not, eqb, leb, ◌≢◌, List, [], ◌∷◌, ◌++◌, length, get_or, take, drop, replicate, Some, None, decimal, Option, sym, refl, ap, ◌∙◌, subst, arith, length-append, eqb-true}
use borrow.Author.Tests.{eqb-false}
use lib.ListN.{length-replicate}
use Rattle.std.specs.Option.{is_some}
use Rattle.std.proofs.lemmas.Bool.{or_parts}
use Rattle.books.specs.Sets.{Sets}
use Rattle.cuts.specs.Cut.{has, past}
use Rattle.search.specs.Place.{place_of}
use Rattle.states.specs.LineStatus.{fresh_line}
use Rattle.states.specs.declared.refusal.Refusal.{Refusal}
use Rattle.states.specs.declared.refusal.Refusal.TheVariants.{NoSuchLine, NotListed}
use Rattle.stats.specs.Records.{fresh_record}
use Rattle.stats.specs.declared.record.MarketCenterRecord.{MarketCenterRecord}
use Rattle.tape.specs.TapeLine.{behind, body_fields, tape_body, tape_line}
use Rattle.tape.proofs.Reading.{decimal_free}
use Rattle.wire.specs.declared.trade_report.TradeReport.{TradeReport}
use Rattle.day.specs.Asks.{center_sheet, unless_refused}
use Rattle.day.specs.Call.{Call, of_line, of_operator, LineCall, log_in, send, inquire, hang_up, OperatorCall, Taken}
use Rattle.day.specs.LineCalls.{Turn, line_refusal, line_turn, place_or0, record_at}
use Rattle.day.specs.Laws.{LinesApart, calls_for, heard, heard_of, is_of, kept_if, of_record, read_at, taken_if, taken_in, text_heard}
use Rattle.day.specs.Refusing.{bar_if, first_bar}
use Rattle.day.specs.State.{Day, Line, Market, fresh_day, line_count, line_of}
use Rattle.day.specs.Step.{run, step, tells, told_of, writing}
use Rattle.cuts.proofs.Cuts.{past_other}
use Rattle.day.proofs.Parts.{ends_before, part-front}
use Rattle.day.proofs.Steps.{Sound, bytes_after, bytes_by, line_after, operates, operator_after, said_after, taken_after, taken_by, visited}

-- THE SERIAL IS NOT HEARD

-- what stands behind the first comma does not hang on what stands before it
past_front : (front rest : List ℕ) → has 44 front ≡ false → past 44 (front ++ (44 ∷ rest)) ≡ rest
past_front [] rest free = refl
past_front (x ∷ front) rest free =
    let apart = or_parts (eqb x 44) (has 44 front) free in
    past_other 44 x (front ++ (44 ∷ rest)) apart.0 ∙ past_front front rest apart.1

serial_apart : (serial other time : ℕ) (report : TradeReport) → past 44 (tape_line serial time report) ≡ past 44 (tape_line other time report)
unfolding tape_line tape_body body_fields behind
serial_apart serial other time report = past_front (decimal serial) _ (decimal_free serial) ∙ sym (past_front (decimal other) _ (decimal_free other))

sent_text : (serial other : ℕ) (taken : Option Taken) (bytes : List ℕ) → past 44 (writing serial taken bytes) ≡ past 44 (writing other taken bytes)
sent_text serial other None bytes = refl
sent_text serial other (Some t) bytes = serial_apart (serial + 1) (other + 1) t.time t.report

silent_text : (serial other : ℕ) (refusal : Option Refusal) (turn : Turn) → turn.taken ≡ None → writing serial (taken_by refusal turn) (bytes_by refusal turn) ≡ writing other (taken_by refusal turn) (bytes_by refusal turn)
silent_text serial other (Some refusal) turn e = refl
silent_text serial other None turn e = ap (λ t. writing serial t turn.bytes) e ∙ sym (ap (λ t. writing other t turn.bytes) e)

heard_text : (sets : Sets) (market : Market) (number : ℕ) (line : Line) (call : LineCall) (serial other : ℕ) →
    text_heard (of_line number call) (writing serial (taken_after sets market number line call) (bytes_after sets market number line call))
    ≡ text_heard (of_line number call) (writing other (taken_after sets market number line call) (bytes_after sets market number line call))
unfolding line_turn
heard_text sets market number line log_in serial other = silent_text serial other (line_refusal market number line log_in) (line_turn sets market number line log_in) refl
heard_text sets market number line (send time frame room) serial other =
    sent_text serial other (taken_after sets market number line (send time frame room)) (bytes_after sets market number line (send time frame room))
heard_text sets market number line (inquire time symbol room) serial other = silent_text serial other (line_refusal market number line (inquire time symbol room)) (line_turn sets market number line (inquire time symbol room)) refl
heard_text sets market number line hang_up serial other = silent_text serial other (line_refusal market number line hang_up) (line_turn sets market number line hang_up) refl

-- TWO DAYS, AS ONE LINE SEES THEM

pub record Same (number : ℕ) (day other : Day) : Type 0 where
  pub market : day.market ≡ other.market
  pub line : line_of number day ≡ line_of number other

same_mine : (sets : Sets) (number : ℕ) (call : LineCall) (day other : Day) → Sound day → Sound other → Same number day other → Same number (step sets day (of_line number call)).day (step sets other (of_line number call)).day
same_mine sets number call day other S T m =
    let v = visited sets day number call S in
    let w = visited sets other number call T in
    record {
      market = v.market ∙ m.market ∙ sym w.market;
      line = v.mine ∙ (λ i. line_after sets (m.market i) number (m.line i) call) ∙ sym w.mine;
    }

heard_mine : (sets : Sets) (number : ℕ) (call : LineCall) (day other : Day) → Sound day → Sound other → Same number day other →
    heard_of (told_of (of_line number call) (step sets day (of_line number call))) ≡ heard_of (told_of (of_line number call) (step sets other (of_line number call)))
heard_mine sets number call day other S T m =
    let v = visited sets day number call S in
    let w = visited sets other number call T in
    let said = v.said ∙ (λ i. said_after sets (m.market i) number (m.line i) call) ∙ sym w.said in
    let text =
    ap (text_heard (of_line number call)) v.wrote
    ∙ heard_text sets day.market number (line_of number day) call day.serial other.serial
    ∙ (λ i. text_heard (of_line number call) (writing other.serial (taken_after sets (m.market i) number (m.line i) call) (bytes_after sets (m.market i) number (m.line i) call)))
    ∙ ap (text_heard (of_line number call)) (sym w.wrote) in
    λ i. record { said = said i; text = text i }

taken_mine : (sets : Sets) (number : ℕ) (call : LineCall) (day other : Day) → Sound day → Sound other → Same number day other →
    (step sets day (of_line number call)).taken ≡ (step sets other (of_line number call)).taken
taken_mine sets number call day other S T m =
    (visited sets day number call S).taken ∙ (λ i. taken_after sets (m.market i) number (m.line i) call) ∙ sym (visited sets other number call T).taken

same_other : (sets : Sets) (number stranger : ℕ) (call : LineCall) (day other : Day) → Sound day → stranger ≢ number → Same number day other → Same number (step sets day (of_line stranger call)).day other
same_other sets number stranger call day other S ne m =
    let v = visited sets day stranger call S in
    record { market = v.market ∙ m.market; line = v.others number ne ∙ m.line }

same_operator : (sets : Sets) (number : ℕ) (call : OperatorCall) (day other : Day) → Sound day → Sound other → Same number day other → Same number (step sets day (of_operator call)).day (step sets other (of_operator call)).day
same_operator sets number call day other S T m =
    let v = operates sets day call S in
    let w = operates sets other call T in
    record {
      market = v.market ∙ ap (λ market. operator_after market call) m.market ∙ sym w.market;
      line = v.lines number ∙ m.line ∙ sym (w.lines number);
    }

pub step_sound : (sets : Sets) (day : Day) (call : Call) → Sound day → Sound (step sets day call).day
step_sound sets day (of_line number call) S = (visited sets day number call S).sound
step_sound sets day (of_operator call) S = (operates sets day call S).sound

-- THE OTHER LINES' CALLS LEFT OUT

pub record Alone (sets : Sets) (number : ℕ) (day other : Day) (calls others : List Call) : Type 0 where
  pub state : Same number (run sets day calls) (run sets other others)
  pub words : heard number (tells sets day calls) ≡ heard number (tells sets other others)
  pub takes : taken_in (is_of number) sets day calls ≡ taken_in (is_of number) sets other others

abbrev AloneAfter : Sets → ℕ → List Call → Type 0
AloneAfter sets number calls = (day other : Day) → Sound day → Sound other → Same number day other → Alone sets number day other calls (calls_for number calls)

none_kept : (taken : Option Taken) (rest : List Taken) → taken_if false taken rest ≡ rest
none_kept None rest = refl
none_kept (Some t) rest = refl

alone_by : (sets : Sets) (number caller : ℕ) (call : LineCall) (calls : List Call) (day other : Day) → Sound day → Sound other → Same number day other → AloneAfter sets number calls →
    (mine : Bool) → eqb number caller ≡ mine → Alone sets number day other (of_line caller call ∷ calls) (kept_if mine (of_line caller call) (calls_for number calls))
unfolding run tells heard taken_in
alone_by sets number caller call calls day other S T m more true e =
    let same : number ≡ caller = eqb-true number caller e in
    let next : Same number (step sets day (of_line caller call)).day (step sets other (of_line caller call)).day =
    subst (λ k. Same number (step sets day (of_line k call)).day (step sets other (of_line k call)).day) same (same_mine sets number call day other S T m) in
    let word : heard_of (told_of (of_line caller call) (step sets day (of_line caller call))) ≡ heard_of (told_of (of_line caller call) (step sets other (of_line caller call))) =
    subst (λ k. heard_of (told_of (of_line k call) (step sets day (of_line k call))) ≡ heard_of (told_of (of_line k call) (step sets other (of_line k call)))) same (heard_mine sets number call day other S T m) in
    let take-up : (step sets day (of_line caller call)).taken ≡ (step sets other (of_line caller call)).taken =
    subst (λ k. (step sets day (of_line k call)).taken ≡ (step sets other (of_line k call)).taken) same (taken_mine sets number call day other S T m) in
    let r = more (step sets day (of_line caller call)).day (step sets other (of_line caller call)).day (step_sound sets day (of_line caller call) S) (step_sound sets other (of_line caller call) T) next in
    record {
      state = r.state;
      words = λ i. kept_if (eqb number caller) (word i) (r.words i);
      takes = λ i. taken_if (eqb number caller) (take-up i) (r.takes i);
    }
alone_by sets number caller call calls day other S T m more false e =
    let next = same_other sets number caller call day other S (λ z. eqb-false number caller e (sym z)) m in
    let r = more (step sets day (of_line caller call)).day other (step_sound sets day (of_line caller call) S) T next in
    record {
      state = r.state;
      words = ap (λ b. kept_if b (heard_of (told_of (of_line caller call) (step sets day (of_line caller call)))) (heard number (tells sets (step sets day (of_line caller call)).day calls))) e ∙ r.words;
      takes = ap (λ b. taken_if b (step sets day (of_line caller call)).taken (taken_in (is_of number) sets (step sets day (of_line caller call)).day calls)) e ∙ none_kept _ _ ∙ r.takes;
    }

-- the operator's call brings no report and is no answer to a line
operator_alone : (sets : Sets) (number : ℕ) (call : OperatorCall) (calls others : List Call) (day other : Day) → Sound day → Sound other →
    Alone sets number (step sets day (of_operator call)).day (step sets other (of_operator call)).day calls others →
    Alone sets number day other (of_operator call ∷ calls) (of_operator call ∷ others)
unfolding run tells heard taken_in
operator_alone sets number call calls others day other S T r = record {
  state = r.state;
  words = r.words;
  takes = none_kept _ _ ∙ r.takes ∙ sym (none_kept _ _);
}

pub alone : (sets : Sets) (number : ℕ) (calls : List Call) → AloneAfter sets number calls
unfolding run tells heard taken_in calls_for
alone sets number [] day other S T m = record { state = m; words = refl; takes = refl }
alone sets number (of_line caller call ∷ calls) day other S T m = alone_by sets number caller call calls day other S T m (alone sets number calls) (eqb number caller) refl
alone sets number (of_operator call ∷ calls) day other S T m =
    operator_alone sets number call calls (calls_for number calls) day other S T
    (alone sets number calls (step sets day (of_operator call)).day (step sets other (of_operator call)).day (step_sound sets day (of_operator call) S) (step_sound sets other (of_operator call) T) (same_operator sets number call day other S T m))

-- two lists that have the same calls of the line and the operator
pub alike : (sets : Sets) (number : ℕ) (day other : Day) → Sound day → Sound other → Same number day other → (calls others : List Call) → calls_for number calls ≡ calls_for number others → Alone sets number day other calls others
alike sets number day other S T m calls others e =
    let a = alone sets number calls day other S T m in
    let b = alone sets number others other other T T (record { market = refl; line = refl }) in
    record {
      state = record {
        market = a.state.market ∙ ap (λ cs. (run sets other cs).market) e ∙ sym b.state.market;
        line = a.state.line ∙ ap (λ cs. line_of number (run sets other cs)) e ∙ sym b.state.line;
      };
      words = a.words ∙ ap (λ cs. heard number (tells sets other cs)) e ∙ sym b.words;
      takes = a.takes ∙ ap (λ cs. taken_in (is_of number) sets other cs) e ∙ sym b.takes;
    }

-- FRESH DAYS

pub fresh_sound : (symbols originators : List (List ℕ)) (start : ℕ) (records : List MarketCenterRecord) → Sound (fresh_day symbols originators start records)
fresh_sound symbols originators start records = record {
  statuses = length-replicate (length originators) _;
  records = simp (length-append, length-replicate) (omega arith);
  sheets = length-replicate (length symbols) _;
}

-- whatever the spare records are
fresh_same : (symbols originators : List (List ℕ)) (start : ℕ) (records others : List MarketCenterRecord) (number : ℕ) → number < length originators → Same number (fresh_day symbols originators start records) (fresh_day symbols originators start others)
fresh_same symbols originators start records others number h =
    let width = length symbols in
    let cleared = replicate (length originators * width) fresh_record in
    let inside : number * width + width ≤ length cleared = rw length-replicate (ends_before number (length originators) width h) in
    record {
      market = refl;
      line = λ i. record {
        status = get_or (replicate (length originators) fresh_line) number fresh_line;
        records = (part-front width number cleared (drop (length originators * width) records) inside ∙ sym (part-front width number cleared (drop (length originators * width) others) inside)) i;
      };
    }

pub fresh_alike : (sets : Sets) (symbols originators : List (List ℕ)) (start : ℕ) (records other-records : List MarketCenterRecord) (number : ℕ) → number < length originators → (calls others : List Call) → calls_for number calls ≡ calls_for number others →
    Alone sets number (fresh_day symbols originators start records) (fresh_day symbols originators start other-records) calls others
fresh_alike sets symbols originators start records other-records number h calls others e =
    alike sets number (fresh_day symbols originators start records) (fresh_day symbols originators start other-records) (fresh_sound symbols originators start records) (fresh_sound symbols originators start other-records) (fresh_same symbols originators start records other-records number h) calls others e

-- what is read of a line's records
read_same : {X : Type 0} (read : MarketCenterRecord → X) (number : ℕ) (symbol : List ℕ) (day other : Day) → Same number day other → of_record read number symbol day ≡ of_record read number symbol other
read_same read number symbol day other m = λ i. read_at read (m.line i).records (place_of (m.market i).symbols symbol)

sheet_same : (number : ℕ) (symbol : List ℕ) (day other : Day) → Same number day other → center_sheet day number symbol ≡ center_sheet other number symbol
sheet_same number symbol day other m = λ i.
    unless_refused
    (first_bar (bar_if (leb (line_count (m.market i)) number) NoSuchLine ∷ bar_if (not (is_some (place_of (m.market i).symbols symbol))) NotListed ∷ []))
    (record_at (m.line i).records (place_or0 (place_of (m.market i).symbols symbol))).sheet

pub lines_apart : (sets : Sets) (symbols originators : List (List ℕ)) (start : ℕ) → LinesApart sets symbols originators start
lines_apart sets symbols originators start records other-records calls others so_far till number h e =
    let r = fresh_alike sets symbols originators start records other-records number h (take so_far calls) (take till others) e in
    let day = run sets (fresh_day symbols originators start records) (take so_far calls) in
    let other = run sets (fresh_day symbols originators start other-records) (take till others) in
    record {
      answers = r.words;
      feed_sequence = ap (λ line. line.status.expected_sequence) r.state.line;
      trade_ids = λ symbol. read_same (λ x. x.next_trade_id) number symbol day other r.state;
      quote_marks = λ symbol. read_same (λ x. x.quote_mark) number symbol day other r.state;
      sheets = λ symbol. sheet_same number symbol day other r.state;
    }
