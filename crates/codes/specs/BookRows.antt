-- The book sheet: rows `E,flag`, `D,side`, `C,bucket,value` and `N,flag,value`.
use Rattle.std.specs.Prelude.{ℕ, Bool, true, cond, List, [], ◌∷◌, length, Some, None, Ok, Err, Option, Result, ◌==◌, nat_le}
use Rattle.std.specs.List.{list_any}
use Rattle.std.specs.Str.{bytes_eq}
use Rattle.sheets.specs.declared.fault.FieldFault.{FieldFault}
use Rattle.sheets.specs.declared.fault.FieldFault.TheVariants.{UnknownRow}
use Rattle.codes.specs.declared.book_row.BookRow.{BookRow}
use Rattle.codes.specs.declared.book_row.BookRow.TheVariants.{Flag, Side, Value, Barred}
use Rattle.cuts.specs.Cut.{field_of, only_byte}
use Rattle.sheets.specs.Layers.{Rules}
use Rattle.sheets.specs.Forms.{digit_of, counted, and_then, printable_field, bucket_field}

-- a row of one code
abbrev pub code_row : (ℕ → BookRow) → List ℕ → Result BookRow FieldFault
code_row make line = counted 2 line (and_then (printable_field 2 line) (λ code. Ok (make code)))

abbrev pub flag_row : List ℕ → Result BookRow FieldFault
flag_row line = code_row (λ flag. Flag flag) line

abbrev pub side_row : List ℕ → Result BookRow FieldFault
side_row line = code_row (λ side. Side side) line

abbrev pub value_row : List ℕ → Result BookRow FieldFault
value_row line =
    counted 3 line (and_then (bucket_field 2 line) (λ bucket. and_then (printable_field 3 line) (λ value. Ok (Value bucket value))))

abbrev pub barred_row : List ℕ → Result BookRow FieldFault
barred_row line =
    counted 3 line (and_then (printable_field 2 line) (λ flag. and_then (printable_field 3 line) (λ value. Ok (Barred flag value))))

-- a row by its letter, E (69), D (68), C (67) or N (78)
abbrev pub book_row_by : Option ℕ → List ℕ → Result BookRow FieldFault
book_row_by None line = Err UnknownRow
book_row_by (Some letter) line =
    cond (letter == 69) (flag_row line)
    (cond (letter == 68) (side_row line)
    (cond (letter == 67) (value_row line)
    (cond (letter == 78) (barred_row line)
    (Err UnknownRow))))

abbrev pub book_row : List ℕ → Result BookRow FieldFault
book_row line = book_row_by (only_byte (field_of 1 line)) line

-- a row's fields, each a byte; 0, which no field is, in place of a third that it has not
abbrev pub fields_of : BookRow → List ℕ
fields_of (Flag flag) = 69 ∷ flag ∷ 0 ∷ []
fields_of (Side side) = 68 ∷ side ∷ 0 ∷ []
fields_of (Value bucket value) = 67 ∷ digit_of bucket ∷ value ∷ []
fields_of (Barred flag value) = 78 ∷ flag ∷ value ∷ []

abbrev pub same_row : BookRow → BookRow → Bool
same_row one other = bytes_eq (fields_of one) (fields_of other)

-- a row that is there already
abbrev pub among_rows : List BookRow → BookRow → Bool
among_rows others row = list_any (λ other. same_row other row) others

-- at most 256 rows
abbrev pub book_beyond : List BookRow → BookRow → Bool
book_beyond seen row = nat_le 256 (length seen)

-- a book of no rows is a book
abbrev pub book_whole : List BookRow → Bool
book_whole seen = true

abbrev pub book_rules : Rules BookRow
book_rules = record { row_of = book_row; disordered = among_rows; beyond = book_beyond; whole = book_whole }
