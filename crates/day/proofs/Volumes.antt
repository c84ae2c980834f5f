-- A security's consolidated volume, over the market centers and over the tape.
use Rattle.std.proofs.Common.{◌≡◌, ℕ, zero, suc, ◌+◌, ◌^◌, ◌<◌, Bool, true, false, cond, ◌&&◌, eqb, List, [], ◌∷◌, length, Some, None, Option, sym, refl, ap, ◌∙◌, subst, add-zero, zero-add, arith, length-append}
use Rattle.std.specs.List.{AllByRecursion as All}
use Rattle.std.specs.Str.{bytes_eq}
use Rattle.books.specs.Sets.{Sets}
use Rattle.conditions.specs.Condition.{counted}
use Rattle.lists.specs.Market.{PlainOriginatorList, PlainSymbolList}
use Rattle.search.specs.Place.{place_of}
use Rattle.stats.specs.Entries.{center_entry, consolidated_entry}
use Rattle.stats.specs.Reports.{joined}
use Rattle.stats.specs.declared.record.MarketCenterRecord.{MarketCenterRecord}
use Rattle.stats.proofs.Joins.{sums}
use Rattle.tape.specs.TapeLine.{tape_body, tape_line}
use Rattle.tape.specs.TapeReading.{tape_symbol}
use Rattle.tape.proofs.Reading.{condition_again, symbol_again, volume_again}
use Rattle.text.specs.Symbol.{text_of}
use Rattle.day.specs.Call.{Call, of_line, of_operator, LineCall, log_in, send, inquire, hang_up, Taken}
use Rattle.day.specs.Laws.{IsBytes, VolumesAddUp, added_by_line, anyone, center_at, center_sale_of, is_of, is_send, kept_if, over_lines, sheet_at, taken_if, taken_in, tape_in, tape_lines, tape_volumes}
use Rattle.day.specs.State.{Day, Line, Market, fresh_day, line_of}
use Rattle.day.specs.Step.{Told, line_sale_of, run, step, tells, told_of, writing}
use Rattle.day.proofs.Apart.{fresh_sound}
use Rattle.day.proofs.Genuine.{Genuine, genuine, only_sends, sends_quietly, volume_bounded}
use Rattle.day.proofs.Places.{placed, same_place}
use Rattle.day.proofs.Shares.{all_shares, joined_at, over}
use Rattle.day.proofs.Sheets.{sheets_of_reports}
use Rattle.day.proofs.Steps.{Sound, bytes_after, operates, operator_list, taken_after, visited}

-- OVER THE MARKET CENTERS

-- what a report adds to the volume at a place
abbrev adds : ℕ → Taken → ℕ
adds place t = cond (eqb t.place place) (consolidated_entry (line_sale_of t)).adds 0

over_lines_lem : (n : ℕ) (f g : ℕ → ℕ) → ((line : ℕ) → line < n → f line ≡ g line) → over 0 ◌+◌ n f ≡ over_lines n g
unfolding over_lines
over_lines_lem zero f g h = refl
over_lines_lem (suc n) f g h =
    let here : f n ≡ g n = h n (omega arith) in
    let below = over_lines_lem n f g (λ line k. h line (omega arith)) in
    λ i. here i + below i

all_volume : (sets : Sets) (symbols originators : List (List ℕ)) (start : ℕ) (records : List MarketCenterRecord) (calls : List Call) (place : ℕ) → place < length symbols →
    (sheet_at (run sets (fresh_day symbols originators start records) calls) place).volume ≡ joined 0 ◌+◌ (adds place) (taken_in anyone sets (fresh_day symbols originators start records) calls)
all_volume sets symbols originators start records calls place h =
    ap (λ s. s.volume) (sheets_of_reports sets symbols originators start records calls place h).0
    ∙ joined_at sums (λ r. (consolidated_entry r).adds) line_sale_of place (taken_in anyone sets (fresh_day symbols originators start records) calls)

center_volume : (sets : Sets) (symbols originators : List (List ℕ)) (start : ℕ) (records : List MarketCenterRecord) (calls : List Call) (place : ℕ) → place < length symbols → (line : ℕ) → line < length originators →
    (center_at (run sets (fresh_day symbols originators start records) calls) place line).volume ≡ joined 0 ◌+◌ (adds place) (taken_in (is_of line) sets (fresh_day symbols originators start records) calls)
center_volume sets symbols originators start records calls place h line k =
    ap (λ s. s.volume) ((sheets_of_reports sets symbols originators start records calls place h).1 line k)
    ∙ joined_at sums (λ r. (center_entry r).adds) center_sale_of place (taken_in (is_of line) sets (fresh_day symbols originators start records) calls)

over_centers : (sets : Sets) (symbols originators : List (List ℕ)) (start : ℕ) (records : List MarketCenterRecord) (calls : List Call) (place : ℕ) → place < length symbols →
    (sheet_at (run sets (fresh_day symbols originators start records) calls) place).volume ≡ over_lines (length originators) (λ line. (center_at (run sets (fresh_day symbols originators start records) calls) place line).volume)
over_centers sets symbols originators start records calls place h =
    all_volume sets symbols originators start records calls place h
    ∙ all_shares sums (adds place) sets calls (fresh_day symbols originators start records) (fresh_sound symbols originators start records)
    ∙ over_lines_lem (length originators) _ _ (λ line k. sym (center_volume sets symbols originators start records calls place h line k))

-- OVER THE TAPE

added_by : (same counts : Bool) (volume : ℕ) → cond (same && counts) volume 0 ≡ cond same (cond counts volume 0) 0
added_by true counts volume = refl
added_by false counts volume = refl

-- what the tape line of a taken report adds, read off its bytes
line_adds : (market : Market) (serial place : ℕ) (symbol : List ℕ) (t : Taken) → PlainSymbolList market.symbols → place_of market.symbols symbol ≡ Some place → Genuine market t → t.report.volume < 2 ^ 32 →
    added_by_line symbol (tape_line serial t.time t.report) ≡ adds place t
line_adds market serial place symbol t listed at g small =
    let line = tape_line serial t.time t.report in
    let s : bytes_eq (tape_symbol line) (text_of symbol) ≡ eqb t.place place =
    ap (λ x. bytes_eq x (text_of symbol)) (symbol_again serial t.time t.report g.commas) ∙ same_place market.symbols t.report.symbol symbol t.place place listed.0.3 g.place at in
    let c = condition_again serial t.time t.report g.commas in
    let v = volume_again serial t.time t.report g.commas (omega arith) in
    (λ i. cond (s i && counted (c i)) (v i) 0) ∙ added_by (eqb t.place place) (counted t.report.condition) t.report.volume

line_long : (serial time : ℕ) (t : Taken) → 0 < length (tape_line serial time t.report)
unfolding tape_line tape_body
line_long serial time t = simp (length-append, length-append) (omega arith)

tape_kept : (told : Told) (bytes : List ℕ) (rest : List (List ℕ)) → 0 < length bytes → tape_in told bytes rest ≡ kept_if (is_send told.call) bytes rest
tape_kept told [] rest h = absurd (omega arith)
tape_kept told (b ∷ bytes) rest h = refl

tape_none : (told : Told) (bytes : List ℕ) (rest : List (List ℕ)) → is_send told.call ≡ false → tape_in told bytes rest ≡ rest
tape_none told [] rest e = refl
tape_none told (b ∷ bytes) rest e = ap (λ x. kept_if x (b ∷ bytes) rest) e

-- what a call adds to the tape's volumes is what its report adds
taken_adds : (sets : Sets) (market : Market) (number : ℕ) (line : Line) (call : LineCall) (serial place : ℕ) (symbol : List ℕ) (rest : List (List ℕ)) (told : Told) → told.call ≡ of_line number call →
    PlainSymbolList market.symbols → PlainOriginatorList market.originators → place_of market.symbols symbol ≡ Some place → IsBytes (of_line number call) →
    (taken : Option Taken) → taken_after sets market number line call ≡ taken →
    tape_volumes symbol (tape_in told (writing serial taken (bytes_after sets market number line call)) rest) ≡ joined 0 ◌+◌ (adds place) (taken_if true taken []) + tape_volumes symbol rest
unfolding tape_volumes joined
taken_adds sets market number line call serial place symbol rest told is listed connected at bytes (Some t) e =
    let tape = tape_line (serial + 1) t.time t.report in
    let sent : is_send told.call ≡ true = ap is_send is ∙ only_sends sets market number line call t e in
    let added = line_adds market (serial + 1) place symbol t listed at (genuine sets market number line call t listed connected e) (volume_bounded sets market number line call t bytes e) in
    ap (tape_volumes symbol) (tape_kept told tape rest (line_long (serial + 1) t.time t) ∙ ap (λ b. kept_if b tape rest) sent)
    ∙ ap (λ n. n + tape_volumes symbol rest) (added ∙ sym (add-zero (adds place t)))
taken_adds sets market number line log_in serial place symbol rest told is listed connected at bytes None e =
    ap (tape_volumes symbol) (tape_none told _ rest (ap is_send is)) ∙ sym (zero-add (tape_volumes symbol rest))
taken_adds sets market number line (send time frame room) serial place symbol rest told is listed connected at bytes None e =
    ap (λ bs. tape_volumes symbol (tape_in told bs rest)) (sends_quietly sets market number line time frame room) ∙ sym (zero-add (tape_volumes symbol rest))
taken_adds sets market number line (inquire time other room) serial place symbol rest told is listed connected at bytes None e =
    ap (tape_volumes symbol) (tape_none told _ rest (ap is_send is)) ∙ sym (zero-add (tape_volumes symbol rest))
taken_adds sets market number line hang_up serial place symbol rest told is listed connected at bytes None e =
    ap (tape_volumes symbol) (tape_none told _ rest (ap is_send is)) ∙ sym (zero-add (tape_volumes symbol rest))

joined_more : (place : ℕ) (taken : Option Taken) (rest : List Taken) → joined 0 ◌+◌ (adds place) (taken_if true taken rest) ≡ joined 0 ◌+◌ (adds place) (taken_if true taken []) + joined 0 ◌+◌ (adds place) rest
unfolding joined
joined_more place None rest = sym (zero-add (joined 0 ◌+◌ (adds place) rest))
joined_more place (Some t) rest = ap (λ n. n + joined 0 ◌+◌ (adds place) rest) (sym (add-zero (adds place t)))

abbrev TapeSums : Sets → ℕ → List ℕ → List Call → Day → Type 0
TapeSums sets place symbol calls day = tape_volumes symbol (tape_lines (tells sets day calls)) ≡ joined 0 ◌+◌ (adds place) (taken_in anyone sets day calls)

over_tape : (sets : Sets) (place : ℕ) (symbol : List ℕ) (calls : List Call) (day : Day) → Sound day → PlainSymbolList day.market.symbols → PlainOriginatorList day.market.originators →
    place_of day.market.symbols symbol ≡ Some place → All IsBytes calls → TapeSums sets place symbol calls day
unfolding tape_volumes tape_lines tells taken_in joined
over_tape sets place symbol [] day S listed connected at bytes = refl
over_tape sets place symbol (of_line number call ∷ calls) day S listed connected at bytes =
    let v = visited sets day number call S in
    let next = (step sets day (of_line number call)).day in
    let told = told_of (of_line number call) (step sets day (of_line number call)) in
    let rest = tape_lines (tells sets next calls) in
    let line = line_of number day in
    let taken = taken_after sets day.market number line call in
    let more : TapeSums sets place symbol calls next =
    over_tape sets place symbol calls next v.sound (subst (λ m. PlainSymbolList m.symbols) (sym v.market) listed) (subst (λ m. PlainOriginatorList m.originators) (sym v.market) connected)
    (subst (λ m. place_of m.symbols symbol ≡ Some place) (sym v.market) at) bytes.1 in
    ap (λ w. tape_volumes symbol (tape_in told w rest)) v.wrote
    ∙ taken_adds sets day.market number line call day.serial place symbol rest told refl listed connected at bytes.0 taken refl
    ∙ ap (λ n. joined 0 ◌+◌ (adds place) (taken_if true taken []) + n) more
    ∙ sym (joined_more place taken (taken_in anyone sets next calls))
    ∙ ap (λ t. joined 0 ◌+◌ (adds place) (taken_if true t (taken_in anyone sets next calls))) (sym v.taken)
over_tape sets place symbol (of_operator call ∷ calls) day S listed connected at bytes =
    let v = operates sets day call S in
    let next = (step sets day (of_operator call)).day in
    let told = told_of (of_operator call) (step sets day (of_operator call)) in
    let rest = tape_lines (tells sets next calls) in
    let list = operator_list day.market call in
    let symbols : next.market.symbols ≡ day.market.symbols = ap (λ m. m.symbols) v.market ∙ list.symbols in
    let originators : next.market.originators ≡ day.market.originators = ap (λ m. m.originators) v.market ∙ list.originators in
    let more : TapeSums sets place symbol calls next =
    over_tape sets place symbol calls next v.sound (subst PlainSymbolList (sym symbols) listed) (subst PlainOriginatorList (sym originators) connected)
    (subst (λ s. place_of s symbol ≡ Some place) (sym symbols) at) bytes.1 in
    ap (λ w. tape_volumes symbol (tape_in told w rest)) v.wrote
    ∙ more
    ∙ ap (λ t. joined 0 ◌+◌ (adds place) (taken_if true t (taken_in anyone sets next calls))) (sym v.taken)

pub volumes_add_up : (sets : Sets) (symbols originators : List (List ℕ)) (start : ℕ) → PlainSymbolList symbols → PlainOriginatorList originators → VolumesAddUp sets symbols originators start
volumes_add_up sets symbols originators start listed connected records calls symbol place at =
    let h = (placed symbols symbol place at).1 in (
      over_centers sets symbols originators start records calls place h,
      λ bytes. all_volume sets symbols originators start records calls place h ∙ sym (over_tape sets place symbol calls (fresh_day symbols originators start records) (fresh_sound symbols originators start records) listed connected at bytes),
    )
