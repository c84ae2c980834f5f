-- The forms of a line's fields.
use Rattle.std.specs.Prelude.{ℕ, Bool, cond, ◌&&◌, List, length, Some, None, Ok, Err, Option, Result, ◌==◌, nat_le}
use Rattle.std.specs.List.{list_all}
use Rattle.text.specs.Printable.{printable}
use Rattle.text.specs.Symbol.{symbol_of}
use Rattle.sheets.specs.declared.fault.FieldFault.{FieldFault}
use Rattle.sheets.specs.declared.fault.FieldFault.TheVariants.{FieldCount, FieldForm}
use Rattle.sheets.specs.declared.bucket.Bucket.{Bucket}
use Rattle.sheets.specs.declared.bucket.Bucket.TheVariants.{One, Two, Three, Four}
use Rattle.cuts.specs.Cut.{field_of, field_count, only_byte}

-- a line of so many fields, and what it then is
abbrev pub counted : {Row : Type 0} → ℕ → List ℕ → Result Row FieldFault → Result Row FieldFault
counted number line row = cond (field_count line == number) row (Err FieldCount)

-- a field by its form: what it is, or that its form is at fault
abbrev pub formed : {X : Type 0} → ℕ → Option X → Result X FieldFault
formed number None = Err (FieldForm number)
formed number (Some x) = Ok x

-- what follows of a field that has its form
abbrev pub and_then : {X Row : Type 0} → Result X FieldFault → (X → Result Row FieldFault) → Result Row FieldFault
and_then (Ok x) next = next x
and_then (Err fault) next = Err fault

-- one printable byte
abbrev pub printable_by : Option ℕ → Option ℕ
printable_by None = None
printable_by (Some b) = cond (printable b) (Some b) None

abbrev pub printable_field : ℕ → List ℕ → Result ℕ FieldFault
printable_field number line = formed number (printable_by (only_byte (field_of number line)))

-- a bucket's digit, 1 (49) to 4 (52)
abbrev pub digit_of : Bucket → ℕ
digit_of One = 49
digit_of Two = 50
digit_of Three = 51
digit_of Four = 52

abbrev pub bucket_of : ℕ → Option Bucket
bucket_of b =
    cond (b == digit_of One) (Some One)
    (cond (b == digit_of Two) (Some Two)
    (cond (b == digit_of Three) (Some Three)
    (cond (b == digit_of Four) (Some Four)
    None)))

abbrev pub bucket_by : Option ℕ → Option Bucket
bucket_by None = None
bucket_by (Some b) = bucket_of b

abbrev pub bucket_field : ℕ → List ℕ → Result Bucket FieldFault
bucket_field number line = formed number (bucket_by (only_byte (field_of number line)))

-- bytes that can be seen: printable, and no space
abbrev pub visible : ℕ → Bool
visible b = nat_le 33 b && nat_le b 126

abbrev pub all_visible : List ℕ → Bool
all_visible text = list_all visible text

-- a symbol: 1 to 11 visible bytes
abbrev pub symbol_by : List ℕ → Option (List ℕ)
symbol_by text = cond (all_visible text) (symbol_of text) None

abbrev pub symbol_field : ℕ → List ℕ → Result (List ℕ) FieldFault
symbol_field number line = formed number (symbol_by (field_of number line))

-- an originator: 2 visible bytes
abbrev pub originator_by : List ℕ → Option (List ℕ)
originator_by text = cond (length text == 2 && all_visible text) (Some text) None

abbrev pub originator_field : ℕ → List ℕ → Result (List ℕ) FieldFault
originator_field number line = formed number (originator_by (field_of number line))
