use Rattle.std.proofs.Common.{◌≡◌, ℕ, ◌+◌, ◌<◌, true, false, length, Result, Ok, Err, MatchResult, IsErrAnd, sym, refl, ap, ◌∙◌, subst, rules, arith}
use Rattle.std.proofs.lemmas.List.{length-take-le}
use Rattle.std.proofs.lemmas.Bool.{eqb-true, eqb-false}
use Rattle.cuts.proofs.Cuts.{past_shorter}
use Rattle.sheets.specs.Told.{told_of}
use Rattle.sheets.proofs.Sofar.{sofar_more, ends_at, ends_whole}
use Rattle.sheets.proofs.reader.read.Goals as goal

-- what a mapped outcome says of the one before
ok_before : {T E D : Type 0} (Q : E → D → Type 0) (r : Result T E) (m : Result T D) (x : T) → MatchResult r (λ y. m ≡ Ok y) (λ e. IsErrAnd m (Q e)) → m ≡ Ok x → r ≡ Ok x
ok_before Q (Ok y) m x met e = cc
ok_before Q (Err f) (Ok y) x met e = absurd met
ok_before Q (Err f) (Err d) x met e = cc

err_before : {T E D : Type 0} (Q : E → D → Type 0) (r : Result T E) (m : Result T D) (d : D) → MatchResult r (λ y. m ≡ Ok y) (λ e. IsErrAnd m (Q e)) → m ≡ Err d → (f : E) × (r ≡ Err f) × Q f d
err_before Q (Ok y) m d met e = let z : ◌≡◌ {A = ℕ} 0 1 = cc in absurd (omega arith)
err_before Q (Err f) (Ok y) d met e = absurd met
err_before Q (Err f) (Err g) d met e = let same : g ≡ d = cc in (f, refl, subst (Q f) same met)

pub loop-rest-smaller : goal.loop-rest-smaller
loop-rest-smaller g c =
    let ok = ok_before _ c.next_placed.result c.map_err.result c.in_ok-row.row c.map_err.ensures.cases c.in_ok-row.was in
    let w = rw ok at c.next_placed.ensures.ended in
    omega (arith, past_shorter 10 c.loop-rest.rest.now w.0, ap length c.after_first-rest.ensures)

pub loop-rest-preserved : goal.loop-rest-preserved
loop-rest-preserved g c =
    let table = c.loop-rest.table in
    let s = c.loop-rest.invariant in
    let ok = ok_before _ c.next_placed.result c.map_err.result c.in_ok-row.row c.map_err.ensures.cases c.in_ok-row.was in
    let w = rw ok at c.next_placed.ensures.ended in
    let h : c.loop-rest.count < length table = omega (arith, w.1, s.long, length-take-le c.loop-rest.count table s.within) in
    sofar_more s c.in_ok-row.row _ h c.after_first-rest.ensures w.0 (sym c.next_placed.ensures.value ∙ ok)

pub returns-in_err-row : goal.returns-in_err-row
returns-in_err-row g c =
    let some : 0 < length c.loop-rest.rest.now = omega (arith, eqb-false (length c.loop-rest.rest.now) 0 (sym c.loop-rest-test.ensures)) in
    let told : c.from_residual.result ≡ Err c.in_err-row.field-0.0 = search rules in
    let err = err_before _ c.next_placed.result c.map_err.result c.in_err-row.field-0.0 c.map_err.ensures.cases c.in_err-row.was in
    let e = ends_at c.loop-rest.invariant err.0 some (sym c.next_placed.ensures.value ∙ err.1) in
    let line : c.in_err-row.field-0.0 ≡ told_of err.0 (c.loop-rest.count + 1) = search (rules, err.2) in
    record { answer = told ∙ ap (λ t. Err t) line ∙ e.answer; rows = e.rows; within = rw told tt }

pub returns-then-not-are_whole : goal.returns-then-not-are_whole
returns-then-not-are_whole g c =
    let none : length c.loop-rest.rest.now ≡ 0 = eqb-true (length c.loop-rest.rest.now) 0 (sym c.loop-rest-test.ensures) in
    let e = ends_whole c.loop-rest.invariant none false (sym c.if-not-are_whole.ensures) in
    record { answer = ap (λ t. Err t) c.past_rows.ensures ∙ e.answer; rows = e.rows; within = tt }

pub returns : goal.returns
returns g c =
    let none : length c.loop-rest.rest.now ≡ 0 = eqb-true (length c.loop-rest.rest.now) 0 (sym c.loop-rest-test.ensures) in
    let e = ends_whole c.loop-rest.invariant none true (sym c.if-not-are_whole.ensures) in
    record { answer = e.answer; rows = e.rows; within = omega (arith, c.loop-rest.invariant.within, c.loop-rest.invariant.long) }
