-- A sheet read whole: the rows before its first fault, and the fault.
use Rattle.std.specs.Prelude.{◌≡◌, ℕ, cond, List, [], ◌∷◌, ◌++◌, length, drop, Some, None, Ok, Err, Option, Result}
use Rattle.sheets.specs.declared.fault.LineFault.TheVariants.{Unended}
use Rattle.sheets.specs.declared.fault.FieldFault.TheVariants.{Line}
use Rattle.sheets.specs.declared.fault.SheetFault.{SheetFault}
use Rattle.sheets.specs.declared.fault.SheetFault.TheVariants.{Field, Incomplete}
use Rattle.cuts.specs.Cut.{parts}
use Rattle.sheets.specs.Layers.{Rules, line_of, row_in, placed}

pub record Outcome (Row : Type 0) : Type 0 where
  pub rows : List Row
  pub fault : Option SheetFault

-- past the last line: bytes with no end, or a sheet that is whole or not
abbrev pub ended : {Row : Type 0} → Rules Row → List Row → List ℕ → Outcome Row
ended rules seen [] = record { rows = seen; fault = cond (rules.whole seen) None (Some Incomplete) }
ended rules seen (b ∷ bs) = record { rows = seen; fault = Some (Field (Line Unended)) }

abbrev pub step : {Row : Type 0} → Result Row SheetFault → List Row → (List Row → Outcome Row) → Outcome Row
step (Ok row) seen next = next (seen ++ (row ∷ []))
step (Err fault) seen next = record { rows = seen; fault = Some fault }

-- the parts of a text at its bytes 10 are its lines, and then what stands past the last; every text has a part
unfoldable pub reading : {Row : Type 0} → Rules Row → ℕ → List Row → List (List ℕ) → Outcome Row
reading rules slots seen [] = ended rules seen []
reading rules slots seen (tail ∷ []) = ended rules seen tail
reading rules slots seen (line ∷ next ∷ more) =
    step (placed rules slots seen (row_in rules (line_of line))) seen (λ rows. reading rules slots rows (next ∷ more))

abbrev pub sheet_of : {Row : Type 0} → Rules Row → ℕ → List ℕ → Outcome Row
sheet_of rules slots text = reading rules slots [] (parts 10 text)

-- what a table of slots holds after a reading: the rows, a slot each in order, and every other slot as it was
abbrev pub table_after : {Row : Type 0} → Outcome Row → List Row → List Row
table_after outcome table = outcome.rows ++ drop (length outcome.rows) table

-- rows that are the whole of a faultless sheet: some text, with some number of slots, is read as them
pub record Faultless {Row : Type 0} (rules : Rules Row) (rows : List Row) : Type 0 where
  pub text : List ℕ
  pub slots : ℕ
  pub is : sheet_of rules slots text ≡ record { rows = rows; fault = None }
