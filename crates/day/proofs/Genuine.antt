-- What a taken report is: its security is listed, and no text of it has a comma.
use Rattle.std.proofs.Common.{◌≡◌, ℕ, zero, suc, ◌^◌, ◌<◌, Bool, true, false, cond, not, ◌&&◌, eqb, List, [], ◌∷◌, ◌++◌, get_or, take, drop, Some, None, Ok, Err, codes, Option, Result, sym, refl, ap, ◌∙◌, subst, arith}
use Rattle.std.specs.Option.{option_map}
use Rattle.std.specs.List.{AllByRecursion as All}
use Rattle.std.specs.Str.{bytes_eq}
use Rattle.std.proofs.ByRecursion.{All-drop}
use Rattle.std.proofs.lemmas.Slice.Eq.{bytes_eq-Decides}
use Rattle.std.proofs.lemmas.Bool.{and_parts, eqb-true, not-true, or_from}
use Rattle.books.specs.Sets.{Sets}
use Rattle.cuts.specs.Cut.{has}
use Rattle.lines.specs.Judgement.{as_mass, as_trade, judged, judged_mass, judged_trade, names}
use Rattle.lines.specs.declared.judge.Message.{Message}
use Rattle.lines.specs.declared.judge.Message.TheVariants.{Trade, Mass}
use Rattle.lists.specs.Market.{PlainOriginatorList, PlainSymbolList, none_has}
use Rattle.rows.specs.Asked.{Asked, first_failing, pass_unless}
use Rattle.rows.specs.HeaderRows.{header_rows}
use Rattle.rows.specs.Judged.{judgement}
use Rattle.search.specs.Place.{place_of}
use Rattle.sheets.specs.declared.bucket.Bucket.TheVariants.{One, Two, Three, Four}
use Rattle.states.specs.declared.refusal.Refusal.{Refusal}
use Rattle.tape.specs.TapeReading.{CommaFree}
use Rattle.trades.specs.TradeRows.{each_in_own_bucket, trade_rows}
use Rattle.verdicts.specs.declared.answer.Verdict.{Verdict}
use Rattle.wire.specs.Number.{value_after, value_of}
use Rattle.wire.specs.Part.{part}
use Rattle.wire.specs.TradeReport.{fields_of}
use Rattle.wire.specs.declared.mass_action.MassAction.{MassAction}
use Rattle.wire.specs.declared.trade_report.TradeReport.{TradeReport}
use Rattle.day.specs.Call.{of_line, LineCall, log_in, send, inquire, hang_up, Taken}
use Rattle.day.specs.Laws.{IsBytes, is_send}
use Rattle.day.specs.LineCalls.{Turn, context_of, frame_place, line_refusal, line_turn, send_turn}
use Rattle.day.specs.State.{Line, Market}
use Rattle.day.proofs.Steps.{bytes_after, bytes_by, taken_after, taken_by}

-- WHERE A TAKEN REPORT COMES FROM

taken_by_lem : (refusal : Option Refusal) (turn : Turn) (t : Taken) → taken_by refusal turn ≡ Some t → turn.taken ≡ Some t
taken_by_lem (Some refusal) turn t e = let z : ◌≡◌ {A = ℕ} 0 1 = cc in absurd (omega arith)
taken_by_lem None turn t e = e

-- a frame is judged to be a trade report, of a security that has a place
sent_by : (market : Market) (number : ℕ) (line : Line) (time : ℕ) (place : Option ℕ) (verdict : Result Message Verdict) (t : Taken) →
    (send_turn market number line time place verdict).taken ≡ Some t → (place ≡ Some t.place) × (verdict ≡ Ok (Trade t.report))
unfolding send_turn
sent_by market number line time place (Err verdict) t e = let z : ◌≡◌ {A = ℕ} 0 1 = cc in absurd (omega arith)
sent_by market number line time None (Ok (Trade report)) t e = let z : ◌≡◌ {A = ℕ} 0 1 = cc in absurd (omega arith)
sent_by market number line time (Some place) (Ok (Trade report)) t e =
    let same : record { line = number; place = place; time = time; report = report } ≡ t = cc in
    (ap (λ u. Some u.place) same, ap (λ u. Ok (Trade u.report)) same)
sent_by market number line time place (Ok (Mass action)) t e = let z : ◌≡◌ {A = ℕ} 0 1 = cc in absurd (omega arith)

as_trade_lem : (mass : Result MassAction Verdict) (trade : Result TradeReport Verdict) (b : Bool) (report : TradeReport) → cond b (as_mass mass) (as_trade trade) ≡ Ok (Trade report) → trade ≡ Ok report
as_trade_lem (Ok action) trade true report e = let z : ◌≡◌ {A = ℕ} 0 1 = cc in absurd (omega arith)
as_trade_lem (Err verdict) trade true report e = let z : ◌≡◌ {A = ℕ} 0 1 = cc in absurd (omega arith)
as_trade_lem mass (Ok other) false report e = let same : other ≡ report = cc in ap (λ r. Ok r) same
as_trade_lem mass (Err verdict) false report e = let z : ◌≡◌ {A = ℕ} 0 1 = cc in absurd (omega arith)

passed : (failing : Option Verdict) (fields report : TradeReport) → judgement failing fields ≡ Ok report → (failing ≡ None) × (fields ≡ report)
passed None fields report e = (refl, cc)
passed (Some verdict) fields report e = let z : ◌≡◌ {A = ℕ} 0 1 = cc in absurd (omega arith)

-- the rows of a trade report on a line
abbrev rows_on : Sets → Market → ℕ → Line → ℕ → List ℕ → List Asked
rows_on sets market number line time frame =
    let context = context_of market number line time (frame_place market frame) in
    header_rows (codes "TE") 72 context frame ++ trade_rows sets context frame

record Came (sets : Sets) (market : Market) (number : ℕ) (line : Line) (time : ℕ) (frame : List ℕ) (t : Taken) : Type 0 where
  pub place : frame_place market frame ≡ Some t.place
  pub rows : first_failing (rows_on sets market number line time frame) ≡ None
  pub report : fields_of frame ≡ t.report

came : (sets : Sets) (market : Market) (number : ℕ) (line : Line) (time : ℕ) (frame : List ℕ) (room : ℕ) (t : Taken) →
    taken_after sets market number line (send time frame room) ≡ Some t → Came sets market number line time frame t
unfolding line_turn judged
came sets market number line time frame room t e =
    let place = frame_place market frame in
    let context = context_of market number line time place in
    let sent = sent_by market number line time place (judged sets context frame) t (taken_by_lem (line_refusal market number line (send time frame room)) (line_turn sets market number line (send time frame room)) t e) in
    let trade = as_trade_lem (judged_mass sets context frame) (judged_trade sets context frame) (names (codes "AU") frame) t.report sent.1 in
    let p = passed (first_failing (rows_on sets market number line time frame)) (fields_of frame) t.report trade in
    record { place = sent.0; rows = p.0; report = p.1 }

-- ITS ROWS HOLD

held_by : (b : Bool) (rest : Option Verdict) (verdict : Verdict) → cond b rest (Some verdict) ≡ None → (b ≡ true) × (rest ≡ None)
held_by true rest verdict e = (refl, e)
held_by false rest verdict e = let z : ◌≡◌ {A = ℕ} 0 1 = cc in absurd (omega arith)

-- where no row fails, the row at any index holds
holding : (rows : List Asked) (i : ℕ) → first_failing rows ≡ None → (get_or rows i (pass_unless true)).holds ≡ true
holding [] i e = refl
holding (row ∷ rows) zero e = (held_by row.holds (first_failing rows) row.otherwise e).0
holding (row ∷ rows) (suc i) e = holding rows i (held_by row.holds (first_failing rows) row.otherwise e).1

-- COMMAS

none_at : (texts : List (List ℕ)) (i : ℕ) → none_has 44 texts ≡ true → has 44 (get_or texts i []) ≡ false
none_at [] i h = refl
none_at (text ∷ texts) zero h = not-true (has 44 text) (and_parts (not (has 44 text)) (none_has 44 texts) h).0
none_at (text ∷ texts) (suc i) h = none_at texts i (and_parts (not (has 44 text)) (none_has 44 texts) h).1

-- a symbol that has a place is one of the list
listed_by : (text symbol : List ℕ) (b : Bool) (o : Option ℕ) (place : ℕ) → bytes_eq text symbol ≡ b → has 44 text ≡ false → (found : (n : ℕ) → o ≡ Some n → has 44 symbol ≡ false) →
    cond b (Some 0) (option_map (λ n. suc n) o) ≡ Some place → has 44 symbol ≡ false
listed_by text symbol true o place same plain found e = ap (has 44) (sym ((bytes_eq-Decides text symbol).0 same)) ∙ plain
listed_by text symbol false (Some n) place same plain found e = found n refl
listed_by text symbol false None place same plain found e = let z : ◌≡◌ {A = ℕ} 0 1 = cc in absurd (omega arith)

listed_plain : (texts : List (List ℕ)) (symbol : List ℕ) (place : ℕ) → none_has 44 texts ≡ true → place_of texts symbol ≡ Some place → has 44 symbol ≡ false
unfolding place_of
listed_plain [] symbol place h e = let z : ◌≡◌ {A = ℕ} 0 1 = cc in absurd (omega arith)
listed_plain (text ∷ texts) symbol place h e =
    let p = and_parts (not (has 44 text)) (none_has 44 texts) h in
    listed_by text symbol (bytes_eq text symbol) (place_of texts symbol) place refl (not-true (has 44 text) p.0) (λ n f. listed_plain texts symbol n p.1 f) e

-- a byte that is accepted is no comma, where a comma is not
plain_by : (test : ℕ → Bool) (byte : ℕ) (b : Bool) → eqb byte 44 ≡ b → test byte ≡ true → test 44 ≡ false → b ≡ false
plain_by test byte false same e comma = refl
plain_by test byte true same e comma = sym e ∙ ap test (eqb-true byte 44 same) ∙ comma

plain : (test : ℕ → Bool) (byte : ℕ) → test byte ≡ true → test 44 ≡ false → eqb byte 44 ≡ false
plain test byte e comma = plain_by test byte (eqb byte 44) refl e comma

plain_byte : (test : ℕ → Bool) (byte : ℕ) → test byte ≡ true → test 44 ≡ false → has 44 (byte ∷ []) ≡ false
plain_byte test byte e comma = or_from (eqb byte 44) false (plain test byte e comma) refl

four_plain : (bytes : List ℕ) → eqb (get_or (take 4 bytes) 0 0) 44 ≡ false → eqb (get_or (take 4 bytes) 1 0) 44 ≡ false → eqb (get_or (take 4 bytes) 2 0) 44 ≡ false → eqb (get_or (take 4 bytes) 3 0) 44 ≡ false → has 44 (take 4 bytes) ≡ false
four_plain [] p q r s = refl
four_plain (a ∷ []) p q r s = or_from (eqb a 44) false p refl
four_plain (a ∷ b ∷ []) p q r s = or_from (eqb a 44) (has 44 (b ∷ [])) p (or_from (eqb b 44) false q refl)
four_plain (a ∷ b ∷ c ∷ []) p q r s = or_from (eqb a 44) (has 44 (b ∷ c ∷ [])) p (or_from (eqb b 44) (has 44 (c ∷ [])) q (or_from (eqb c 44) false r refl))
four_plain (a ∷ b ∷ c ∷ d ∷ rest) p q r s =
    or_from (eqb a 44) (has 44 (b ∷ c ∷ d ∷ [])) p (or_from (eqb b 44) (has 44 (c ∷ d ∷ [])) q (or_from (eqb c 44) (has 44 (d ∷ [])) r (or_from (eqb d 44) false s refl)))

condition_plain : (sets : Sets) (bytes : List ℕ) → each_in_own_bucket sets (take 4 bytes) ≡ true → has 44 (take 4 bytes) ≡ false
condition_plain sets bytes e =
    let one = λ (i : ℕ). get_or (take 4 bytes) i 0 in
    let p = and_parts (sets.values One (one 0)) (sets.values Two (one 1) && (sets.values Three (one 2) && sets.values Four (one 3))) e in
    let q = and_parts (sets.values Two (one 1)) (sets.values Three (one 2) && sets.values Four (one 3)) p.1 in
    let r = and_parts (sets.values Three (one 2)) (sets.values Four (one 3)) q.1 in
    four_plain bytes
    (plain (sets.values One) (one 0) p.0 (sets.no_comma_value One))
    (plain (sets.values Two) (one 1) q.0 (sets.no_comma_value Two))
    (plain (sets.values Three) (one 2) r.0 (sets.no_comma_value Three))
    (plain (sets.values Four) (one 3) r.1 (sets.no_comma_value Four))

-- WHAT A TAKEN REPORT IS

pub record Genuine (market : Market) (t : Taken) : Type 0 where
  pub place : place_of market.symbols t.report.symbol ≡ Some t.place
  pub commas : CommaFree t.report

commas_of : (sets : Sets) (market : Market) (number : ℕ) (line : Line) (time : ℕ) (frame : List ℕ) (t : Taken) → PlainSymbolList market.symbols → PlainOriginatorList market.originators → Came sets market number line time frame t → CommaFree (fields_of frame)
commas_of sets market number line time frame t symbols originators c =
    let rows = rows_on sets market number line time frame in
    let same : bytes_eq (part 3 5 frame) (get_or market.originators number []) ≡ true = holding rows 3 c.rows in
    let flag : sets.flags (fields_of frame).exempt_flag ≡ true = holding rows 11 c.rows in
    let buckets : each_in_own_bucket sets (fields_of frame).condition ≡ true = holding rows 14 c.rows in
    let side : sets.sides (fields_of frame).side ≡ true = holding rows 18 c.rows in
    record {
      originator = ap (has 44) ((bytes_eq-Decides (part 3 5 frame) (get_or market.originators number [])).0 same) ∙ none_at market.originators number originators.1;
      symbol = listed_plain market.symbols (fields_of frame).symbol t.place symbols.1 c.place;
      exempt_flag = plain_byte sets.flags (fields_of frame).exempt_flag flag sets.no_comma_flag;
      condition = condition_plain sets (drop 53 frame) buckets;
      side = plain_byte sets.sides (fields_of frame).side side sets.no_comma_side;
    }

sent_genuine : (sets : Sets) (market : Market) (number : ℕ) (line : Line) (time : ℕ) (frame : List ℕ) (t : Taken) → PlainSymbolList market.symbols → PlainOriginatorList market.originators → Came sets market number line time frame t → Genuine market t
sent_genuine sets market number line time frame t symbols originators c = record {
  place = subst (λ r. place_of market.symbols r.symbol ≡ Some t.place) c.report c.place;
  commas = subst CommaFree c.report (commas_of sets market number line time frame t symbols originators c);
}

-- only a send brings a report: what holds of a send whose frame is such a report holds of the call that brought one
silent : (refusal : Option Refusal) (turn : Turn) (t : Taken) → turn.taken ≡ None → taken_by refusal turn ≡ Some t → ⊥
silent refusal turn t quiet e = let f = taken_by_lem refusal turn t e in let z : ◌≡◌ {A = ℕ} 0 1 = cc in omega arith

from_send : (sets : Sets) (market : Market) (number : ℕ) (line : Line) (call : LineCall) (t : Taken) → taken_after sets market number line call ≡ Some t →
    (P : LineCall → Type 0) → ((time : ℕ) (frame : List ℕ) (room : ℕ) → Came sets market number line time frame t → P (send time frame room)) → P call
unfolding line_turn
from_send sets market number line log_in t e P sent = absurd (silent (line_refusal market number line log_in) (line_turn sets market number line log_in) t refl e)
from_send sets market number line (send time frame room) t e P sent = sent time frame room (came sets market number line time frame room t e)
from_send sets market number line (inquire time symbol room) t e P sent = absurd (silent (line_refusal market number line (inquire time symbol room)) (line_turn sets market number line (inquire time symbol room)) t refl e)
from_send sets market number line hang_up t e P sent = absurd (silent (line_refusal market number line hang_up) (line_turn sets market number line hang_up) t refl e)

pub genuine : (sets : Sets) (market : Market) (number : ℕ) (line : Line) (call : LineCall) (t : Taken) → PlainSymbolList market.symbols → PlainOriginatorList market.originators → taken_after sets market number line call ≡ Some t → Genuine market t
genuine sets market number line call t symbols originators e =
    from_send sets market number line call t e (λ _. Genuine market t) (λ time frame room c. sent_genuine sets market number line time frame t symbols originators c)

pub only_sends : (sets : Sets) (market : Market) (number : ℕ) (line : Line) (call : LineCall) (t : Taken) → taken_after sets market number line call ≡ Some t → is_send (of_line number call) ≡ true
only_sends sets market number line call t e = from_send sets market number line call t e (λ sent. is_send (of_line number sent) ≡ true) (λ time frame room c. refl)

-- four bytes write a number below two to the thirty-second
four_bound : (bytes : List ℕ) → All (λ b. b < 256) bytes → value_of (take 4 bytes) < 2 ^ 32
unfolding value_of value_after
four_bound [] h = omega arith
four_bound (a ∷ []) h = omega arith
four_bound (a ∷ b ∷ []) h = omega arith
four_bound (a ∷ b ∷ c ∷ []) h = omega arith
four_bound (a ∷ b ∷ c ∷ d ∷ rest) h = omega arith

pub volume_bounded : (sets : Sets) (market : Market) (number : ℕ) (line : Line) (call : LineCall) (t : Taken) → IsBytes (of_line number call) → taken_after sets market number line call ≡ Some t → t.report.volume < 2 ^ 32
volume_bounded sets market number line call t bytes e =
    from_send sets market number line call t e (λ sent. IsBytes (of_line number sent) → t.report.volume < 2 ^ 32)
    (λ time frame room c of-bytes. subst (λ r. r.volume < 2 ^ 32) c.report (four_bound (drop 68 frame) (All-drop (λ b. b < 256) 68 frame of-bytes))) bytes

-- a send has no bytes of an inquiry
quiet_by : (market : Market) (number : ℕ) (line : Line) (time : ℕ) (place : Option ℕ) (verdict : Result Message Verdict) → (send_turn market number line time place verdict).bytes ≡ []
unfolding send_turn
quiet_by market number line time place (Err verdict) = refl
quiet_by market number line time None (Ok (Trade report)) = refl
quiet_by market number line time (Some place) (Ok (Trade report)) = refl
quiet_by market number line time place (Ok (Mass action)) = refl

bytes_by_lem : (refusal : Option Refusal) (turn : Turn) → turn.bytes ≡ [] → bytes_by refusal turn ≡ []
bytes_by_lem (Some refusal) turn e = refl
bytes_by_lem None turn e = e

pub sends_quietly : (sets : Sets) (market : Market) (number : ℕ) (line : Line) (time : ℕ) (frame : List ℕ) (room : ℕ) → bytes_after sets market number line (send time frame room) ≡ []
unfolding line_turn
sends_quietly sets market number line time frame room =
    bytes_by_lem (line_refusal market number line (send time frame room)) (line_turn sets market number line (send time frame room))
    (quiet_by market number line time (frame_place market frame) (judged sets (context_of market number line time (frame_place market frame)) frame))
