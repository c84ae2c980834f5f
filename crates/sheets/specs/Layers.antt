-- The three layers of a sheet's reader: the lines of a text, the fields of a line, the rows of a sheet.
use Rattle.std.specs.Prelude.{ℕ, Bool, cond, ◌||◌, List, length, Ok, Err, Result, nat_le}
use Rattle.sheets.specs.declared.fault.LineFault.{LineFault}
use Rattle.sheets.specs.declared.fault.LineFault.TheVariants.{Unended, TooLong}
use Rattle.sheets.specs.declared.fault.FieldFault.{FieldFault}
use Rattle.sheets.specs.declared.fault.FieldFault.TheVariants.{Line}
use Rattle.sheets.specs.declared.fault.SheetFault.{SheetFault}
use Rattle.sheets.specs.declared.fault.SheetFault.TheVariants.{Field, OutOfOrder, TooMany}
use Rattle.cuts.specs.Cut.{first_part, has}

-- what makes one kind of sheet: the row of a line, whether a row is out of order after others, whether it is one too many after
-- them, and whether rows are a whole sheet
pub record Rules (Row : Type 0) : Type 0 where
  pub row_of : List ℕ → Result Row FieldFault
  pub disordered : List Row → Row → Bool
  pub beyond : List Row → Row → Bool
  pub whole : List Row → Bool

-- line layer: at most 64 bytes, and a byte 10 at the end
abbrev pub line_of : List ℕ → Result (List ℕ) LineFault
line_of line = cond (nat_le (length line) 64) (Ok line) (Err TooLong)

abbrev pub next_line : List ℕ → Result (List ℕ) LineFault
next_line rest = cond (has 10 rest) (line_of (first_part 10 rest)) (Err Unended)

-- field layer
abbrev pub row_in : {Row : Type 0} → Rules Row → Result (List ℕ) LineFault → Result Row FieldFault
row_in rules (Ok line) = rules.row_of line
row_in rules (Err fault) = Err (Line fault)

-- sheet layer
abbrev pub placed : {Row : Type 0} → Rules Row → ℕ → List Row → Result Row FieldFault → Result Row SheetFault
placed rules slots seen (Ok row) =
    cond (rules.disordered seen row) (Err OutOfOrder) (cond (rules.beyond seen row || nat_le slots (length seen)) (Err TooMany) (Ok row))
placed rules slots seen (Err fault) = Err (Field fault)
