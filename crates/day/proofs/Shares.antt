-- What all lines bring together is what each brings.
use Rattle.std.proofs.Common.{◌≡◌, ℕ, zero, suc, ◌<◌, ◌≤◌, Bool, true, false, cond, eqb, ltb, ◌≢◌, List, [], ◌∷◌, map, Some, None, Option, sym, refl, ap, ◌∙◌, arith, ltb-false, ltb-true, eq-eqb, ne_eqb}
use native.Mathlib.Decide.{ℕ_discrete}
use Rattle.books.specs.Sets.{Sets}
use Rattle.states.specs.declared.refusal.Refusal.{Refusal}
use Rattle.stats.specs.Reports.{joined}
use Rattle.stats.proofs.Joins.{Joins}
use Rattle.day.specs.Call.{Call, of_line, of_operator, LineCall, Taken}
use Rattle.day.specs.LineCalls.{Turn, line_refusal, line_turn}
use Rattle.day.specs.Laws.{anyone, at_place, is_of, kept_if, taken_if, taken_in}
use Rattle.day.specs.State.{Day, Line, Market, line_count, line_of}
use Rattle.day.specs.Step.{step}
use Rattle.day.proofs.Apart.{step_sound}
use Rattle.day.proofs.Sheets.{step_lines}
use Rattle.day.proofs.Steps.{Sound, on_list, operates, taken_by, visited}

-- joined over the lines with numbers below a bound
abbrev pub over : {M : Type 0} → M → (M → M → M) → ℕ → (ℕ → M) → M
over none op zero share = none
over none op (suc n) share = op (share n) (over none op n share)

-- a line that is not on the list brings nothing
stranger_by : (market : Market) (number : ℕ) (line : Line) (call : LineCall) (turn : Turn) (refusal : Option Refusal) → line_refusal market number line call ≡ refusal → line_count market ≤ number → taken_by refusal turn ≡ None
stranger_by market number line call turn (Some refusal) e h = refl
stranger_by market number line call turn None e h = absurd (omega (arith, on_list market number line call e))

stranger_brings : (sets : Sets) (day : Day) (number : ℕ) (call : LineCall) → Sound day → line_count day.market ≤ number → (step sets day (of_line number call)).taken ≡ None
stranger_brings sets day number call S h =
    (visited sets day number call S).taken
    ∙ stranger_by day.market number (line_of number day) call (line_turn sets day.market number (line_of number day) call) (line_refusal day.market number (line_of number day) call) refl h

module _ {M : Type 0} {none : M} {op : M → M → M} (J : Joins none op) where
  pub over_same : (n : ℕ) (f g : ℕ → M) → ((line : ℕ) → line < n → f line ≡ g line) → over none op n f ≡ over none op n g
  over_same zero f g h = refl
  over_same (suc n) f g h =
      let here : f n ≡ g n = h n (omega arith) in
      let below = over_same n f g (λ line k. h line (omega arith)) in
      λ i. op (here i) (below i)

  -- where one line brings more and the others nothing, all together bring that more
  pub over-more : (n number : ℕ) (more : M) (f g : ℕ → M) → number < n → g number ≡ op more (f number) → ((line : ℕ) → line ≢ number → g line ≡ f line) → over none op n g ≡ op more (over none op n f)
  over-more zero number more f g h mine others = absurd (omega arith)
  over-more (suc n) number more f g h mine others = go (ℕ_discrete n number) (λ k. over-more n number more f g k mine others)
    where
      go : Dec (n ≡ number) → (number < n → over none op n g ≡ op more (over none op n f)) → op (g n) (over none op n g) ≡ op more (op (f n) (over none op n f))
      go (yes e) below =
          let rest : over none op n g ≡ over none op n f = over_same n g f (λ line k. others line (omega arith)) in
          let here : g n ≡ op more (f n) = ap g e ∙ mine ∙ ap (λ k. op more (f k)) (sym e) in
          (λ i. op (here i) (rest i)) ∙ J.assoc more (f n) (over none op n f)
      go (no ne) below =
          let rest : over none op n g ≡ op more (over none op n f) = below (omega arith) in
          let here : g n ≡ f n = others n ne in
          (λ i. op (here i) (rest i))
          ∙ sym (J.assoc (f n) more (over none op n f))
          ∙ ap (λ x. op x (over none op n f)) (J.comm (f n) more)
          ∙ J.assoc more (f n) (over none op n f)

  over_none : (n : ℕ) → none ≡ over none op n (λ line. none)
  over_none zero = refl
  over_none (suc n) = over_none n ∙ sym (J.left (over none op n (λ line. none)))

  module _ (give : Taken → M) where
    abbrev pub share : List Taken → M
    share reports = joined none op give reports

    -- what a call brings
    abbrev gives : Option Taken → M
    gives None = none
    gives (Some t) = give t

    share_more : (taken : Option Taken) (rest : List Taken) → share (taken_if true taken rest) ≡ op (gives taken) (share rest)
    unfolding joined
    share_more None rest = sym (J.left (share rest))
    share_more (Some t) rest = refl

    share_same : (taken : Option Taken) (rest : List Taken) → share (taken_if false taken rest) ≡ share rest
    share_same None rest = refl
    share_same (Some t) rest = refl

    -- one more call of a line, before the shares of the rest
    shares_by : (sets : Sets) (day : Day) (number : ℕ) (call : LineCall) (rest : ℕ → List Taken) → Sound day → (b : Bool) → ltb number (line_count day.market) ≡ b →
        over none op (line_count day.market) (λ line. share (taken_if (eqb line number) (step sets day (of_line number call)).taken (rest line)))
        ≡ op (gives (step sets day (of_line number call)).taken) (over none op (line_count day.market) (λ line. share (rest line)))
    shares_by sets day number call rest S true e =
        let taken = (step sets day (of_line number call)).taken in
        over-more (line_count day.market) number (gives taken) (λ line. share (rest line)) (λ line. share (taken_if (eqb line number) taken (rest line)))
        (ltb-true number (line_count day.market) e)
        (ap (λ b. share (taken_if b taken (rest number))) (eq-eqb number number refl) ∙ share_more taken (rest number))
        (λ line ne. ap (λ b. share (taken_if b taken (rest line))) (ne_eqb line number ne) ∙ share_same taken (rest line))
    shares_by sets day number call rest S false e =
        let taken = (step sets day (of_line number call)).taken in
        let beyond = ltb-false number (line_count day.market) e in
        over_same (line_count day.market) (λ line. share (taken_if (eqb line number) taken (rest line))) (λ line. share (rest line))
        (λ line k. ap (λ b. share (taken_if b taken (rest line))) (ne_eqb line number (omega arith)) ∙ share_same taken (rest line))
        ∙ sym (ap (λ t. op (gives t) (over none op (line_count day.market) (λ line. share (rest line)))) (stranger_brings sets day number call S (omega arith)) ∙ J.left (over none op (line_count day.market) (λ line. share (rest line))))

    pub all_shares : (sets : Sets) (calls : List Call) (day : Day) → Sound day → share (taken_in anyone sets day calls) ≡ over none op (line_count day.market) (λ line. share (taken_in (is_of line) sets day calls))
    unfolding taken_in joined
    all_shares sets [] day S = over_none (line_count day.market)
    all_shares sets (of_line number call ∷ calls) day S =
        let next = (step sets day (of_line number call)).day in
        let taken = (step sets day (of_line number call)).taken in
        share_more taken (taken_in anyone sets next calls)
        ∙ ap (op (gives taken)) (all_shares sets calls next (step_sound sets day (of_line number call) S) ∙ ap (λ n. over none op n (λ line. share (taken_in (is_of line) sets next calls))) (step_lines sets day (of_line number call) S))
        ∙ sym (shares_by sets day number call (λ line. taken_in (is_of line) sets next calls) S (ltb number (line_count day.market)) refl)
    all_shares sets (of_operator call ∷ calls) day S =
        let next = (step sets day (of_operator call)).day in
        let taken = (step sets day (of_operator call)).taken in
        share_more taken (taken_in anyone sets next calls)
        ∙ ap (λ t. op (gives t) (share (taken_in anyone sets next calls))) (operates sets day call S).taken
        ∙ J.left (share (taken_in anyone sets next calls))
        ∙ all_shares sets calls next (step_sound sets day (of_operator call) S)
        ∙ ap (λ n. over none op n (λ line. share (taken_in (is_of line) sets next calls))) (step_lines sets day (of_operator call) S)
        ∙ over_same (line_count day.market) (λ line. share (taken_in (is_of line) sets next calls)) (λ line. share (taken_if false taken (taken_in (is_of line) sets next calls))) (λ line k. sym (share_same taken (taken_in (is_of line) sets next calls)))

  -- what the reports of one place bring
  module _ {R : Type 0} (f : R → M) (read : Taken → R) (place : ℕ) where
    abbrev pub given_at : Taken → M
    given_at t = cond (eqb t.place place) (f (read t)) none

    at_by : (b : Bool) (t : Taken) (rest : List Taken) → joined none op f (map read (kept_if b t rest)) ≡ op (cond b (f (read t)) none) (joined none op f (map read rest))
    unfolding joined
    at_by true t rest = refl
    at_by false t rest = sym (J.left (joined none op f (map read rest)))

    pub joined_at : (reports : List Taken) → joined none op f (map read (at_place place reports)) ≡ joined none op given_at reports
    unfolding joined at_place
    joined_at [] = refl
    joined_at (t ∷ rest) = at_by (eqb t.place place) t (at_place place rest) ∙ ap (op (given_at t)) (joined_at rest)
