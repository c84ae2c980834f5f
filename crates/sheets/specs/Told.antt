-- What a caller is told of a fault.
use Rattle.std.specs.Prelude.{ℕ, ◌+◌, length, Some, None, Ok, Err, Option, Result}
use Rattle.sheets.specs.declared.cause.Cause.{Cause}
use Rattle.sheets.specs.declared.cause.Cause.TheVariants as cause
use Rattle.sheets.specs.declared.fault.LineFault.TheVariants.{Unended, TooLong}
use Rattle.sheets.specs.declared.fault.FieldFault.TheVariants.{Line, UnknownRow, FieldCount, FieldForm}
use Rattle.sheets.specs.declared.fault.SheetFault.{SheetFault}
use Rattle.sheets.specs.declared.fault.SheetFault.TheVariants.{Field, OutOfOrder, TooMany, Incomplete}
use Rattle.sheets.specs.declared.fault.Layer.{Layer}
use Rattle.sheets.specs.declared.fault.Layer.TheVariants as layer
use Rattle.sheets.specs.declared.fault.Fault.{Fault}
use Rattle.sheets.specs.Reading.{Outcome}

abbrev pub layer_of : SheetFault → Layer
layer_of (Field (Line fault)) = layer.Line
layer_of (Field UnknownRow) = layer.Field
layer_of (Field FieldCount) = layer.Field
layer_of (Field (FieldForm number)) = layer.Field
layer_of OutOfOrder = layer.Sheet
layer_of TooMany = layer.Sheet
layer_of Incomplete = layer.Sheet

abbrev pub cause_of : SheetFault → Cause
cause_of (Field (Line Unended)) = cause.Unended
cause_of (Field (Line TooLong)) = cause.TooLong
cause_of (Field UnknownRow) = cause.UnknownRow
cause_of (Field FieldCount) = cause.FieldCount
cause_of (Field (FieldForm number)) = cause.FieldForm
cause_of OutOfOrder = cause.OutOfOrder
cause_of TooMany = cause.TooMany
cause_of Incomplete = cause.Incomplete

-- the field that is at fault, counted from 1; 0 where the fault is of no one field
abbrev pub field_at : SheetFault → ℕ
field_at (Field (Line fault)) = 0
field_at (Field UnknownRow) = 1
field_at (Field FieldCount) = 0
field_at (Field (FieldForm number)) = number
field_at OutOfOrder = 0
field_at TooMany = 0
field_at Incomplete = 0

abbrev pub told_of : SheetFault → ℕ → Fault
told_of fault number = record { layer = layer_of fault; cause = cause_of fault; line = number; field = field_at fault }

abbrev pub answer_by : Option SheetFault → ℕ → Result ℕ Fault
answer_by None rows = Ok rows
answer_by (Some fault) rows = Err (told_of fault (rows + 1))

-- the number of rows, or the fault at the line past them: each line before it is a row
abbrev pub answer_of : {Row : Type 0} → Outcome Row → Result ℕ Fault
answer_of outcome = answer_by outcome.fault (length outcome.rows)
