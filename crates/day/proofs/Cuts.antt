-- A line that is cut stays cut until it hangs up.
use Rattle.std.proofs.Common.{◌≡◌, ℕ, zero, suc, Bool, true, false, cond, not, ◌||◌, eqb, leb, List, [], ◌∷◌, ◌++◌, length, get_or, replicate, Some, None, Ok, Err, Option, Result, sym, refl, ap, ◌∙◌, subst, arith}
use Rattle.std.specs.List.{AllByRecursion as All}
use Rattle.std.specs.Option.{is_some}
use Rattle.std.proofs.lemmas.Bool.{both_ways, eqb-true, eqb-false, eq-eqb, not-false, or_parts}
use Rattle.books.specs.Sets.{Sets}
use Rattle.lines.specs.Judgement.{judged}
use Rattle.lines.specs.declared.judge.Message.{Message}
use Rattle.lines.specs.declared.judge.Message.TheVariants.{Trade, Mass}
use Rattle.states.specs.LineStatus.{fresh_line}
use Rattle.states.specs.declared.refusal.Refusal.{Refusal}
use Rattle.states.specs.declared.refusal.Refusal.TheVariants.{NoSuchLine, AlreadyLoggedIn, NotLoggedIn, LineCut}
use Rattle.stats.specs.declared.record.MarketCenterRecord.{MarketCenterRecord}
use Rattle.verdicts.specs.declared.answer.Reason.{Reason}
use Rattle.verdicts.specs.declared.answer.Verdict.{Verdict}
use Rattle.verdicts.specs.declared.answer.Verdict.TheVariants.{PassedOver, Rejected, Cut}
use Rattle.day.specs.Call.{Call, of_line, of_operator, LineCall, log_in, send, inquire, hang_up}
use Rattle.day.specs.Laws.{CutLasts, is_hang_up}
use Rattle.day.specs.LineCalls.{after_verdict, context_of, frame_place, line_refusal, line_turn, send_turn}
use Rattle.day.specs.State.{Day, Line, Market, fresh_day, line_count, line_of}
use Rattle.day.specs.Step.{run, step}
use Rattle.day.proofs.Apart.{fresh_sound, step_sound}
use Rattle.day.proofs.Steps.{Sound, line_after, line_by, operates, visited}

-- a line that is cut is logged in
abbrev CutInside : Line → Type 0
CutInside line = is_some line.status.cut ≡ true → line.status.logged_in ≡ true

-- a bar that is passed does not apply, and the rest is passed too
pub past_bar : (applies : Bool) (refusal : Refusal) (rest : Option Refusal) → cond applies (Some refusal) rest ≡ None → (applies ≡ false) × (rest ≡ None)
past_bar false refusal rest e = (refl, e)
past_bar true refusal rest e = let z : ◌≡◌ {A = ℕ} 0 1 = cc in absurd (omega arith)

-- WHAT A CALL OF THE LINE LEAVES

-- no frame logs a line in or out
verdict_inside : (line : Line) (place : Option ℕ) (verdict : Verdict) → (after_verdict line place verdict).status.logged_in ≡ line.status.logged_in
verdict_inside line place PassedOver = refl
verdict_inside line place (Rejected reason) = refl
verdict_inside line place (Cut reason) = refl

send_inside : (market : Market) (number : ℕ) (line : Line) (time : ℕ) (place : Option ℕ) (verdict : Result Message Verdict) → (send_turn market number line time place verdict).line.status.logged_in ≡ line.status.logged_in
unfolding send_turn
send_inside market number line time place (Err verdict) = verdict_inside line place verdict
send_inside market number line time None (Ok (Trade report)) = refl
send_inside market number line time (Some place) (Ok (Trade report)) = refl
send_inside market number line time place (Ok (Mass action)) = refl

inside_by : (sets : Sets) (market : Market) (number : ℕ) (line : Line) (call : LineCall) (refusal : Option Refusal) → line_refusal market number line call ≡ refusal → CutInside line →
    CutInside (line_by refusal line (line_turn sets market number line call))
unfolding line_refusal line_turn
inside_by sets market number line call (Some refusal) e h = h
inside_by sets market number line log_in None e h = λ cut. refl
inside_by sets market number line (send time frame room) None e h =
    let absent = (past_bar (leb (line_count market) number || not line.status.logged_in) NotLoggedIn _ e).0 in
    let inside = not-false line.status.logged_in (or_parts (leb (line_count market) number) (not line.status.logged_in) absent).1 in
    λ cut. send_inside market number line time (frame_place market frame) (judged sets (context_of market number line time (frame_place market frame)) frame) ∙ inside
inside_by sets market number line (inquire time symbol room) None e h = h
inside_by sets market number line hang_up None e h = λ cut. absurd (both_ways true (sym cut) refl)

-- a cut line's call is refused, unless it hangs up
cut_by : (sets : Sets) (market : Market) (number : ℕ) (line : Line) (call : LineCall) (reason : Reason) (refusal : Option Refusal) → line_refusal market number line call ≡ refusal → CutInside line →
    line.status.cut ≡ Some reason → is_hang_up number (of_line number call) ≡ false → (line_by refusal line (line_turn sets market number line call)).status.cut ≡ Some reason
unfolding line_refusal
cut_by sets market number line call reason (Some refusal) e h cut stays = cut
cut_by sets market number line log_in reason None e h cut stays =
    let free = past_bar (leb (line_count market) number) NoSuchLine _ e in
    let outside = (past_bar line.status.logged_in AlreadyLoggedIn _ free.1).0 in
    absurd (both_ways line.status.logged_in outside (h (ap is_some cut)))
cut_by sets market number line (send time frame room) reason None e h cut stays =
    let uncut = (past_bar (is_some line.status.cut) LineCut _ (past_bar (leb (line_count market) number || not line.status.logged_in) NotLoggedIn _ e).1).0 in
    absurd (both_ways (is_some line.status.cut) uncut (ap is_some cut))
cut_by sets market number line (inquire time symbol room) reason None e h cut stays =
    let uncut = (past_bar (is_some line.status.cut) LineCut _ (past_bar (leb (line_count market) number || not line.status.logged_in) NotLoggedIn _ e).1).0 in
    absurd (both_ways (is_some line.status.cut) uncut (ap is_some cut))
cut_by sets market number line hang_up reason None e h cut stays = absurd (both_ways (eqb number number) stays (eq-eqb number number refl))

-- WHAT A CALL LEAVES OF A LINE

module _ (P : Line → Type 0) (sets : Sets) (line : ℕ) (day : Day) (S : Sound day) (h : P (line_of line day)) where
  kept_by : (number : ℕ) (call : LineCall) (mine : Bool) → eqb line number ≡ mine → ((own : LineCall) → of_line number call ≡ of_line line own → P (line_after sets day.market line (line_of line day) own)) →
      P (line_of line (step sets day (of_line number call)).day)
  kept_by number call true e own =
      let same : line ≡ number = eqb-true line number e in
      subst (λ k. P (line_of line (step sets day (of_line k call)).day)) same (subst P (sym (visited sets day line call S).mine) (own call (ap (λ k. of_line k call) (sym same))))
  kept_by number call false e own = subst P (sym ((visited sets day number call S).others line (λ z. eqb-false line number e (sym z)))) h

  -- what a line's own calls leave true of it, every call does
  pub line_kept : (call : Call) → ((own : LineCall) → call ≡ of_line line own → P (line_after sets day.market line (line_of line day) own)) → P (line_of line (step sets day call).day)
  line_kept (of_line number call) own = kept_by number call (eqb line number) refl own
  line_kept (of_operator call) own = subst P (sym ((operates sets day call S).lines line)) h

-- RUNS

record Inside (line : ℕ) (day : Day) : Type 0 where
  pub sound : Sound day
  pub inside : CutInside (line_of line day)

step_inside : (sets : Sets) (line : ℕ) (day : Day) (call : Call) → Inside line day → Inside line (step sets day call).day
step_inside sets line day call h = record {
  sound = step_sound sets day call h.sound;
  inside = line_kept CutInside sets line day h.sound h.inside call
      (λ own e. inside_by sets day.market line (line_of line day) own (line_refusal day.market line (line_of line day) own) refl h.inside);
}

run_inside : (sets : Sets) (line : ℕ) (day : Day) (calls : List Call) → Inside line day → Inside line (run sets day calls)
unfolding run
run_inside sets line day [] h = h
run_inside sets line day (call ∷ calls) h = run_inside sets line (step sets day call).day calls (step_inside sets line day call h)

step_cut : (sets : Sets) (line : ℕ) (reason : Reason) (day : Day) (call : Call) → Inside line day → is_hang_up line call ≡ false → (line_of line day).status.cut ≡ Some reason → (line_of line (step sets day call).day).status.cut ≡ Some reason
step_cut sets line reason day call h stays cut =
    line_kept (λ l. l.status.cut ≡ Some reason) sets line day h.sound cut call
    (λ own e. cut_by sets day.market line (line_of line day) own reason (line_refusal day.market line (line_of line day) own) refl h.inside cut (subst (λ c. is_hang_up line c ≡ false) e stays))

run_cut : (sets : Sets) (line : ℕ) (reason : Reason) (day : Day) (calls : List Call) → Inside line day → All (λ call. is_hang_up line call ≡ false) calls → (line_of line day).status.cut ≡ Some reason → (line_of line (run sets day calls)).status.cut ≡ Some reason
unfolding run
run_cut sets line reason day [] h stay cut = cut
run_cut sets line reason day (call ∷ calls) h stay cut =
    run_cut sets line reason (step sets day call).day calls (step_inside sets line day call h) stay.1 (step_cut sets line reason day call h stay.0 cut)

run_append : (sets : Sets) (day : Day) (calls more : List Call) → run sets day (calls ++ more) ≡ run sets (run sets day calls) more
unfolding run
run_append sets day [] more = refl
run_append sets day (call ∷ calls) more = run_append sets (step sets day call).day calls more

-- a list of one thing has it at every index, where that is also what stands past the end
pub at_fresh : {X : Type 0} (n i : ℕ) (x : X) → get_or (replicate n x) i x ≡ x
at_fresh zero i x = refl
at_fresh (suc n) zero x = refl
at_fresh (suc n) (suc i) x = at_fresh n i x

fresh_inside : (symbols originators : List (List ℕ)) (start : ℕ) (records : List MarketCenterRecord) (line : ℕ) → Inside line (fresh_day symbols originators start records)
fresh_inside symbols originators start records line = record {
  sound = fresh_sound symbols originators start records;
  inside = subst (λ s. is_some s.cut ≡ true → s.logged_in ≡ true) (sym (at_fresh (length originators) line fresh_line)) (λ cut. absurd (both_ways true (sym cut) refl));
}

pub cut_lasts : (sets : Sets) (symbols originators : List (List ℕ)) (start : ℕ) → CutLasts sets symbols originators start
cut_lasts sets symbols originators start records calls more line reason cut stay =
    let day = fresh_day symbols originators start records in
    ap (λ d. (line_of line d).status.cut) (run_append sets day calls more)
    ∙ run_cut sets line reason (run sets day calls) more (run_inside sets line day calls (fresh_inside symbols originators start records line)) stay cut
