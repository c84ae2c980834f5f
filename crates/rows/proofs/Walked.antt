-- The first failing row of lists put together.
use Rattle.std.proofs.Common.{◌≡◌, Bool, true, false, cond, List, [], ◌∷◌, ◌++◌, Some, None, Ok, Err, Option, Result, refl, ap, ◌∙◌}
use Rattle.verdicts.specs.declared.answer.Verdict.{Verdict}
use Rattle.rows.specs.Asked.{Asked, first_failing}
use Rattle.rows.specs.Judged.{judgement}

-- what rows come to where a frame has no fields yet
abbrev told : Option Verdict → Result (Unit {0}) Verdict
told o = judgement o tt

none_by : (b : Bool) (x : Option Verdict) (v : Verdict) → Ok tt ≡ told (cond b x (Some v)) → (b ≡ true) × (Ok tt ≡ told x)
none_by true x v e = (refl, e)
none_by false x v e = cc

-- where no row of the first list fails, those of the second answer
pub second_answers : (xs ys : List Asked) → Ok tt ≡ told (first_failing xs) → first_failing (xs ++ ys) ≡ first_failing ys
second_answers [] ys e = refl
second_answers (x ∷ xs) ys e =
    let p = none_by x.holds (first_failing xs) x.otherwise e in
    ap (λ b. cond b (first_failing (xs ++ ys)) (Some x.otherwise)) p.0 ∙ second_answers xs ys p.1

told_by : (b : Bool) (x y : Option Verdict) (v w : Verdict) → Err w ≡ told (cond b x (Some v)) → (Err w ≡ told x → y ≡ Some w) → cond b y (Some v) ≡ Some w
told_by true x y v w e k = k e
told_by false x y v w e k = cc

-- a row of the first list that fails answers for both
pub first_answers : (xs ys : List Asked) (v : Verdict) → Err v ≡ told (first_failing xs) → first_failing (xs ++ ys) ≡ Some v
first_answers [] ys v e = cc
first_answers (x ∷ xs) ys v e = told_by x.holds (first_failing xs) (first_failing (xs ++ ys)) x.otherwise v e (first_answers xs ys v)

pub failed : (o : Option Verdict) (v : Verdict) → Err v ≡ told o → o ≡ Some v
failed None v e = cc
failed (Some w) v e = cc

pub passed : (o : Option Verdict) → Ok tt ≡ told o → o ≡ None
passed None e = refl
passed (Some w) e = cc
