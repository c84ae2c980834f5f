-- What holds of the rows of a sheet that is read to its end.
use Rattle.std.proofs.Common.{◌≡◌, ℕ, Bool, true, false, cond, ◌||◌, leb, List, [], ◌∷◌, ◌++◌, length, take, drop, IfOk, Some, None, Ok, Err, Option, Result, sym, refl, ap, ◌∙◌, subst, arith}
use Rattle.std.proofs.lemmas.List.{take_at}
use Rattle.sheets.specs.declared.fault.FieldFault.{FieldFault}
use Rattle.sheets.specs.declared.fault.Fault.{Fault}
use Rattle.sheets.specs.declared.fault.SheetFault.{SheetFault}
use Rattle.sheets.specs.declared.fault.SheetFault.TheVariants.{OutOfOrder, TooMany, Incomplete}
use Rattle.cuts.specs.Cut.{parts}
use Rattle.sheets.specs.Layers.{Rules, line_of, row_in, placed}
use Rattle.sheets.specs.Reading.{Faultless, Outcome, ended, step, reading, sheet_of, table_after}
use Rattle.sheets.specs.Told.{answer_by, answer_of}

-- a row that is placed is the line's, in order, and not one too many
pub record Stands {Row : Type 0} (rules : Rules Row) (seen : List Row) (r : Result Row FieldFault) (row : Row) : Type 0 where
  pub is : r ≡ Ok row
  pub ordered : rules.disordered seen row ≡ false
  pub fits : rules.beyond seen row ≡ false

stands_by : {Row : Type 0} (rules : Rules Row) (seen : List Row) (x row : Row) (d b s : Bool) → rules.disordered seen x ≡ d → rules.beyond seen x ≡ b → cond d (Err OutOfOrder) (cond (b || s) (Err TooMany) (Ok x)) ≡ Ok row → Stands rules seen (Ok x) row
stands_by rules seen x row true b s p q e = let z : ◌≡◌ {A = ℕ} 0 1 = cc in absurd (omega arith)
stands_by rules seen x row false true s p q e = let z : ◌≡◌ {A = ℕ} 0 1 = cc in absurd (omega arith)
stands_by rules seen x row false false true p q e = let z : ◌≡◌ {A = ℕ} 0 1 = cc in absurd (omega arith)
stands_by rules seen x row false false false p q e =
    let same : x ≡ row = cc in
    record { is = ap (λ u. Ok u) same; ordered = ap (λ u. rules.disordered seen u) (sym same) ∙ p; fits = ap (λ u. rules.beyond seen u) (sym same) ∙ q }

pub stands : {Row : Type 0} (rules : Rules Row) (slots : ℕ) (seen : List Row) (r : Result Row FieldFault) (row : Row) → placed rules slots seen r ≡ Ok row → Stands rules seen r row
stands rules slots seen (Ok x) row e =
    stands_by rules seen x row (rules.disordered seen x) (rules.beyond seen x) (leb slots (length seen)) refl refl e
stands rules slots seen (Err fault) row e = let z : ◌≡◌ {A = ℕ} 0 1 = cc in absurd (omega arith)

-- what holds of no rows, and of one row more wherever it holds of those before it, holds of the rows of an outcome; and an outcome
-- with no fault is a whole sheet
pub record Kept {Row : Type 0} (rules : Rules Row) (P : List Row → Type 0) (o : Outcome Row) : Type 0 where
  pub all : P o.rows
  pub whole : o.fault ≡ None → rules.whole o.rows ≡ true

whole_by : (b : Bool) → ◌≡◌ {A = Option SheetFault} (cond b None (Some Incomplete)) None → b ≡ true
whole_by true e = refl
whole_by false e = let z : ◌≡◌ {A = ℕ} 0 1 = cc in absurd (omega arith)

kept_ended : {Row : Type 0} (rules : Rules Row) (P : List Row → Type 0) (seen : List Row) (tail : List ℕ) → P seen → Kept rules P (ended rules seen tail)
kept_ended rules P seen [] p = record { all = p; whole = whole_by (rules.whole seen) }
kept_ended rules P seen (b ∷ bs) p = record { all = p; whole = λ e. let z : ◌≡◌ {A = ℕ} 0 1 = cc in absurd (omega arith) }

-- how a row more keeps what holds
abbrev pub Keeps : {Row : Type 0} → Rules Row → (List Row → Type 0) → Type 0
Keeps {Row} rules P = (seen : List Row) (line : List ℕ) (row : Row) → P seen → Stands rules seen (row_in rules (line_of line)) row → P (seen ++ (row ∷ []))

kept_step : {Row : Type 0} (rules : Rules Row) (P : List Row → Type 0) (seen : List Row) (r : Result Row SheetFault) (next : List Row → Outcome Row) → P seen → ((row : Row) → r ≡ Ok row → Kept rules P (next (seen ++ (row ∷ [])))) → Kept rules P (step r seen next)
kept_step rules P seen (Ok row) next p more = more row refl
kept_step rules P seen (Err fault) next p more = record { all = p; whole = λ e. let z : ◌≡◌ {A = ℕ} 0 1 = cc in absurd (omega arith) }

kept : {Row : Type 0} (rules : Rules Row) (P : List Row → Type 0) → Keeps rules P → (slots : ℕ) (seen : List Row) (ls : List (List ℕ)) → P seen → Kept rules P (reading rules slots seen ls)
unfolding reading
kept rules P keeps slots seen [] p = kept_ended rules P seen [] p
kept rules P keeps slots seen (tail ∷ []) p = kept_ended rules P seen tail p
kept rules P keeps slots seen (line ∷ next ∷ more) p =
    kept_step rules P seen (placed rules slots seen (row_in rules (line_of line))) (λ rows. reading rules slots rows (next ∷ more)) p
    (λ row e. kept rules P keeps slots (seen ++ (row ∷ [])) (next ∷ more) (keeps seen line row p (stands rules slots seen (row_in rules (line_of line)) row e)))

ok_by : (fault : Option SheetFault) (n m : ℕ) → Ok n ≡ answer_by fault m → (fault ≡ None) × (m ≡ n)
ok_by None n m e = (refl, cc)
ok_by (Some fault) n m e = let z : ◌≡◌ {A = ℕ} 0 1 = cc in absurd (omega arith)

-- the rows that a reader which passes a sheet leaves in the table are a faultless sheet's
pub faultless : {Row : Type 0} (rules : Rules Row) (text : List ℕ) (before table : List Row) (r : Result ℕ Fault) → r ≡ answer_of (sheet_of rules (length before) text) → table ≡ table_after (sheet_of rules (length before) text) before → IfOk r (λ n. Faultless rules (take n table))
faultless rules text before table (Err fault) e t = tt
faultless rules text before table (Ok n) e t =
    let o = sheet_of rules (length before) text in
    let ok = ok_by o.fault n (length o.rows) e in
    let front : take n table ≡ o.rows = ap (take n) t ∙ take_at o.rows (drop (length o.rows) before) n ok.1 in
    record { text = text; slots = length before; is = λ i. record { rows = sym front i; fault = ok.0 i } }

-- what holds of no rows, and of one row more, holds of a faultless sheet's; and they are a whole sheet
pub holds : {Row : Type 0} (rules : Rules Row) (P : List Row → Type 0) → P [] → Keeps rules P → (rows : List Row) → Faultless rules rows → P rows × (rules.whole rows ≡ true)
holds rules P none keeps rows f =
    let k = kept rules P keeps f.slots [] (parts 10 f.text) none in
    let same : (sheet_of rules f.slots f.text).rows ≡ rows = ap (λ o. o.rows) f.is in
    (subst P same k.all, sym (ap rules.whole same) ∙ k.whole (ap (λ o. o.fault) f.is))
