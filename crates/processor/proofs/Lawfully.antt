-- What holds of a day holds after each call.
use Rattle.std.proofs.Common.{◌≡◌, ℕ, zero, suc, ◌+◌, ◌*◌, ◌<◌, ◌≤◌, true, List, [], ◌∷◌, length, drop, replicate, Some, None, Option, sym, refl, ap, ◌∙◌, subst, length-set}
use lib.ListN.{length-replicate}
use Rattle.std.specs.List.{AllByRecursion as All}
use Rattle.std.proofs.ByRecursion.{All-drop, All-take}
use Rattle.books.specs.Sets.{Sets}
use Rattle.inquiry.specs.declared.security_state.SecurityState.{SecurityState}
use Rattle.search.specs.Place.{place_of}
use Rattle.states.specs.declared.refusal.Refusal.{Refusal}
use Rattle.stats.specs.Plain.{sound}
use Rattle.stats.specs.Records.{fresh_record}
use Rattle.stats.specs.declared.plain_sheet.PlainSheet.{PlainSheet}
use Rattle.stats.specs.declared.record.MarketCenterRecord.{MarketCenterRecord}
use Rattle.stats.specs.declared.sale.LastSale.{LastSale}
use Rattle.day.specs.Call.{LineCall, OperatorCall, close_day, of_line, of_operator, open_day, post}
use Rattle.day.specs.Laws.{IsBytes}
use Rattle.day.specs.LineCalls.{line_refusal}
use Rattle.day.specs.Operator.{destination, in_state, operated, operator_refusal}
use Rattle.day.specs.State.{Day, Line, Market, fresh_day, line_count, line_of, no_sheet, part_of, security_count}
use Rattle.day.specs.Step.{step}
use Rattle.day.proofs.Bounds.{bounded, fresh_kept, line_step, operator_step}
use Rattle.day.proofs.Bounds.{Kept as Numbered}
use Rattle.day.proofs.Cuts.{at_fresh, line_kept}
use Rattle.day.proofs.Parts.{ends_before, part-front}
use Rattle.day.proofs.Sheets.{step_lines, step_securities}
use Rattle.day.proofs.Steps.{market_by, operates, taken_after, visited}
use Rattle.processor.specs.Kept.{Kept}
use Rattle.processor.specs.Lawful.{Lawful}
use Rattle.processor.proofs.Soundness.{AllSound, SheetsSound, line_sound, sheets_sound}

numbered : (d : Day) → Lawful d → Numbered d
numbered d l = record {
  sound = record { statuses = l.filled.0; records = l.filled.3; sheets = l.filled.2 };
  lines = λ line h. record {
    consumed = (l.frames line h).0;
    feed_sequence = (l.frames line h).1;
    records = λ place. record { trade_id = l.ids line place h; center = l.centers line place h };
  };
  posted = l.posted;
  serial = l.serial;
  consolidated = l.sheets;
}

-- with the lengths of the securities' statuses, and sound sheets
lawful : (d : Day) → Numbered d → length d.market.securities ≡ security_count d.market → ((line : ℕ) → line < line_count d.market → AllSound (line_of line d).records) → SheetsSound d.sheets → Lawful d
lawful d n securities centers sheets = record {
  filled = (n.sound.statuses, securities, n.sound.sheets, n.sound.records);
  frames = λ line h. ((n.lines line h).consumed, (n.lines line h).feed_sequence);
  ids = λ line place h. ((n.lines line h).records place).trade_id;
  centers = λ line place h. ((n.lines line h).records place).center;
  sound_centers = λ line place h. centers line h place;
  posted = n.posted;
  serial = n.serial;
  sheets = n.consolidated;
  sound_sheets = sheets;
}

pub kept : (d : Day) → Lawful d → Kept d
kept d l = record {
  bounded = bounded d (numbered d l);
  centers = λ line place h k. l.sound_centers line place h;
  sheets = λ place h. l.sound_sheets place;
}

-- AFTER A LINE'S CALL

pub line_lawful : (sets : Sets) (d : Day) (number : ℕ) (call : LineCall) → IsBytes (of_line number call) → Lawful d → Lawful (step sets d (of_line number call)).day
line_lawful sets d number call bytes l =
    let n = numbered d l in
    let S = n.sound in
    let v = visited sets d number call S in
    let after = (step sets d (of_line number call)).day in
    let lines = step_lines sets d (of_line number call) S in
    lawful after (line_step sets d number call bytes n)
    (ap (λ m. length m.securities) v.market ∙ l.filled.1 ∙ sym (ap security_count v.market))
    (λ line h.
    line_kept (λ (x : Line). AllSound x.records) sets line d S (λ place. l.sound_centers line place (subst (λ k. line < k) lines h)) (of_line number call)
    (λ own e. line_sound sets d.market line (line_of line d) own (line_refusal d.market line (line_of line d) own) (λ place. l.sound_centers line place (subst (λ k. line < k) lines h))))
    (subst SheetsSound (sym v.sheets) (sheets_sound (taken_after sets d.market number (line_of number d) call) d.sheets l.sound_sheets))

-- AFTER AN OPERATOR'S CALL

state_length : (market : Market) (place : Option ℕ) (state : Option SecurityState) → length (in_state market place state).securities ≡ length market.securities
state_length market None state = refl
state_length market (Some place) None = refl
state_length market (Some place) (Some state) = length-set market.securities place _

operated_length : (market : Market) (call : OperatorCall) → length (operated market call).securities ≡ length market.securities
unfolding operated
operated_length market open_day = refl
operated_length market (post symbol action) = state_length market (place_of market.symbols symbol) (destination market (place_of market.symbols symbol) action)
operated_length market close_day = refl

by_length : (refusal : Option Refusal) (market other : Market) → length other.securities ≡ length market.securities → length (market_by refusal market other).securities ≡ length market.securities
by_length (Some refusal) market other e = refl
by_length None market other e = e

pub operator_lawful : (sets : Sets) (d : Day) (call : OperatorCall) → Lawful d → Lawful (step sets d (of_operator call)).day
operator_lawful sets d call l =
    let n = numbered d l in
    let S = n.sound in
    let v = operates sets d call S in
    let after = (step sets d (of_operator call)).day in
    let lines = step_lines sets d (of_operator call) S in
    lawful after (operator_step sets d call n)
    (ap (λ m. length m.securities) v.market ∙ by_length (operator_refusal d.market call) d.market (operated d.market call) (operated_length d.market call) ∙ l.filled.1 ∙ sym (step_securities sets d (of_operator call) S))
    (λ line h place. subst (λ (x : Line). AllSound x.records) (sym (v.lines line)) (λ k. l.sound_centers line k (subst (λ m. line < m) lines h)) place)
    (subst SheetsSound (sym v.sheets) l.sound_sheets)

-- OF A FRESH DAY

sound_all : (records : List MarketCenterRecord) → All (λ r. sound r.sheet ≡ true) records → AllSound records
sound_all [] h place = refl
sound_all (r ∷ records) h zero = h.0
sound_all (r ∷ records) h (suc place) = sound_all records h.1 place

fresh_all : (n : ℕ) → All (λ r. sound r.sheet ≡ true) (replicate n fresh_record)
fresh_all zero = tt
fresh_all (suc n) = (refl, fresh_all n)

pub fresh_lawful : (symbols originators : List (List ℕ)) (start : ℕ) (records : List MarketCenterRecord) → Lawful (fresh_day symbols originators start records)
fresh_lawful symbols originators start records =
    let width = length symbols in
    let total = length originators * width in
    let cleared = replicate total fresh_record in
    lawful (fresh_day symbols originators start records) (fresh_kept symbols originators start records) (length-replicate width _)
    (λ line h.
    let inside : line * width + width ≤ length cleared = rw length-replicate (ends_before line (length originators) width h) in
    subst AllSound (sym (part-front width line cleared (drop total records) inside))
    (sound_all (part_of width line cleared) (All-take (λ r. sound r.sheet ≡ true) width (drop (line * width) cleared) (All-drop (λ r. sound r.sheet ≡ true) (line * width) cleared (fresh_all total)))))
    (λ place. subst (λ (s : PlainSheet LastSale). sound s ≡ true) (sym (at_fresh width place no_sheet)) refl)
