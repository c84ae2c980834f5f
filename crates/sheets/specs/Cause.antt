-- The number of each cause of a fault.
use Rattle.std.specs.Prelude.{ℕ}
use Rattle.sheets.specs.declared.cause.Cause.{Cause}
use Rattle.sheets.specs.declared.cause.Cause.TheVariants.{Unended, TooLong, UnknownRow, FieldCount, FieldForm, OutOfOrder, TooMany, Incomplete}

abbrev pub number_of : Cause → ℕ
number_of Unended = 201
number_of TooLong = 202
number_of UnknownRow = 203
number_of FieldCount = 204
number_of FieldForm = 205
number_of OutOfOrder = 206
number_of TooMany = 207
number_of Incomplete = 208
