-- What a sheet holds of all the reports entered on it, in the order in which they came.
-- `enter` says what one report enters on that kind of sheet.
use Rattle.std.specs.Prelude.{◌≡◌, ℕ, ◌+◌, List, [], ◌∷◌, ◌++◌, Some, None, Option}
use Rattle.std.specs.List.Sorted.{IsPermutation}
use Rattle.stats.specs.declared.entry.Entry.{Entry}
use Rattle.conditions.specs.declared.matrix.Says.{Says}
use Rattle.conditions.specs.declared.matrix.Says.TheVariants.{Yes, First, No}
use Rattle.stats.specs.declared.plain_sheet.PlainSheet.{PlainSheet}
use Rattle.stats.specs.Plain.{higher, lower, or_else}

-- what each report brings, joined by an operation from what stands where there are none
unfoldable pub joined : {R M : Type 0} → M → (M → M → M) → (R → M) → List R → M
joined none op brings [] = none
joined none op brings (r ∷ rs) = op (brings r) (joined none op brings rs)

-- the highest and the lowest of the prices that are spanned
abbrev pub highest : {R L : Type 0} → (R → Entry L) → List R → Option ℕ
highest enter rs = joined None higher (λ r. (enter r).spanned) rs

abbrev pub lowest : {R L : Type 0} → (R → Entry L) → List R → Option ℕ
lowest enter rs = joined None lower (λ r. (enter r).spanned) rs

-- the volumes that count, added up
abbrev pub total : {R L : Type 0} → (R → Entry L) → List R → ℕ
total enter rs = joined 0 ◌+◌ (λ r. (enter r).adds) rs

abbrev pub if_yes : {L : Type 0} → Says → L → Option L
if_yes Yes l = Some l
if_yes First l = None
if_yes No l = None

abbrev pub if_first : {L : Type 0} → Says → L → Option L
if_first Yes l = None
if_first First l = Some l
if_first No l = None

-- of the last report that says Yes
unfoldable pub latest_yes : {R L : Type 0} → (R → Entry L) → List R → Option L
latest_yes enter [] = None
latest_yes enter (r ∷ rs) = or_else (latest_yes enter rs) (if_yes (enter r).says (enter r).last)

-- of the first report that says First
unfoldable pub earliest_first : {R L : Type 0} → (R → Entry L) → List R → Option L
earliest_first enter [] = None
earliest_first enter (r ∷ rs) = or_else (if_first (enter r).says (enter r).last) (earliest_first enter rs)

abbrev pub sheet_of : {R L : Type 0} → (R → Entry L) → List R → PlainSheet L
sheet_of enter rs = record {
  high = highest enter rs;
  low = lowest enter rs;
  last = or_else (latest_yes enter rs) (earliest_first enter rs);
  volume = total enter rs;
}

-- a sheet that held any list of reports holds that list and one more
abbrev pub Noted : {R L : Type 0} → (R → Entry L) → PlainSheet L → R → PlainSheet L → Type 0
Noted {R} enter before r after = (rs : List R) → before ≡ sheet_of enter rs → after ≡ sheet_of enter (rs ++ (r ∷ []))

pub record SameTotals {L : Type 0} (s t : PlainSheet L) : Type 0 where
  pub high : s.high ≡ t.high
  pub low : s.low ≡ t.low
  pub volume : s.volume ≡ t.volume

-- in whatever order the reports came, high, low and volume are those of the sheet
abbrev pub Unordered : {R L : Type 0} → (R → Entry L) → List R → PlainSheet L → Type 0
Unordered {R} enter rs s = (others : List R) → IsPermutation rs others → SameTotals (sheet_of enter others) s
