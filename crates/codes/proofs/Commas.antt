-- No row of a book sheet names a comma: commas part its fields.
use Rattle.std.proofs.Common.{◌≡◌, ℕ, Bool, true, false, cond, ◌||◌, eqb, List, [], ◌∷◌, IfSome, IfOk, Some, None, Ok, Err, Option, Result, ap, ◌∙◌}
use Rattle.std.specs.List.{AllByRecursion as All}
use Rattle.std.proofs.ByRecursion.{All-push}
use Rattle.std.proofs.lemmas.Result.{IfOk-at_ok}
use Rattle.std.proofs.lemmas.Bool.{or_parts}
use Rattle.text.specs.Printable.{printable}
use Rattle.sheets.specs.declared.bucket.Bucket.{Bucket}
use Rattle.sheets.specs.declared.bucket.Bucket.TheVariants.{One, Two, Three, Four}
use Rattle.codes.specs.declared.book_row.BookRow.{BookRow}
use Rattle.codes.specs.declared.book_row.BookRow.TheVariants.{Flag, Side, Value, Barred}
use Rattle.sheets.specs.declared.fault.FieldFault.{FieldFault}
use Rattle.sheets.specs.declared.fault.FieldFault.TheVariants.{UnknownRow}
use Rattle.cuts.specs.Cut.{has, field_of, only_byte}
use Rattle.sheets.specs.Layers.{line_of}
use Rattle.sheets.specs.Forms.{printable_by, printable_field, bucket_field}
use Rattle.codes.specs.BookRows.{flag_row, side_row, value_row, barred_row, book_row_by, book_rules, fields_of}
use Rattle.sheets.proofs.Commas.{field_lacks}
use Rattle.sheets.proofs.Formed.{choice_made, counted_made, then_made, formed_made, line_made}
use Rattle.sheets.specs.Reading.{Faultless}
use Rattle.sheets.proofs.Passed.{holds, Keeps}

-- a row that names no comma (44)
abbrev pub CommaFree : BookRow → Type 0
CommaFree row = has 44 (fields_of row) ≡ false

only_lacks : (p : List ℕ) → has 44 p ≡ false → IfSome (only_byte p) (λ b. eqb b 44 ≡ false)
only_lacks [] h = tt
only_lacks (b ∷ []) h = (or_parts (eqb b 44) false h).0
only_lacks (b ∷ d ∷ bs) h = tt

printable_cases : (b : ℕ) (t : Bool) → eqb b 44 ≡ false → IfSome (cond t (Some b) None) (λ x. eqb x 44 ≡ false)
printable_cases b true h = h
printable_cases b false h = tt

printable_by_lem : (o : Option ℕ) → IfSome o (λ b. eqb b 44 ≡ false) → IfSome (printable_by o) (λ b. eqb b 44 ≡ false)
printable_by_lem None h = tt
printable_by_lem (Some b) h = printable_cases b (printable b) h

printable_lacks : (number : ℕ) (line : List ℕ) → IfOk (printable_field number line) (λ b. eqb b 44 ≡ false)
printable_lacks number line =
    formed_made (λ b. eqb b 44 ≡ false) number (printable_by (only_byte (field_of number line)))
    (printable_by_lem (only_byte (field_of number line)) (only_lacks (field_of number line) (field_lacks number line)))

-- a row is free of commas where its codes are
flag_free : (b : ℕ) → eqb b 44 ≡ false → CommaFree (Flag b)
flag_free b h = ap (λ t. t || false) h

side_free : (b : ℕ) → eqb b 44 ≡ false → CommaFree (Side b)
side_free b h = ap (λ t. t || false) h

value_free : (bucket : Bucket) (b : ℕ) → eqb b 44 ≡ false → CommaFree (Value bucket b)
value_free One b h = ap (λ t. t || false) h
value_free Two b h = ap (λ t. t || false) h
value_free Three b h = ap (λ t. t || false) h
value_free Four b h = ap (λ t. t || false) h

barred_free : (a b : ℕ) → eqb a 44 ≡ false → eqb b 44 ≡ false → CommaFree (Barred a b)
barred_free a b g h = ap (λ t. t || (eqb b 44 || false)) g ∙ ap (λ t. t || false) h

any : (r : Result Bucket FieldFault) → IfOk r (λ _. Unit {0})
any (Ok bucket) = tt
any (Err fault) = tt

flag_made : (line : List ℕ) → IfOk (flag_row line) CommaFree
flag_made line =
    counted_made CommaFree 2 line _ (then_made (λ b. eqb b 44 ≡ false) CommaFree (printable_field 2 line) (λ flag. Ok (Flag flag)) (printable_lacks 2 line) flag_free)

side_made : (line : List ℕ) → IfOk (side_row line) CommaFree
side_made line =
    counted_made CommaFree 2 line _ (then_made (λ b. eqb b 44 ≡ false) CommaFree (printable_field 2 line) (λ side. Ok (Side side)) (printable_lacks 2 line) side_free)

value_made : (line : List ℕ) → IfOk (value_row line) CommaFree
value_made line =
    counted_made CommaFree 3 line _
    (then_made (λ _. Unit {0}) CommaFree (bucket_field 2 line) _ (any (bucket_field 2 line))
    (λ bucket _. then_made (λ b. eqb b 44 ≡ false) CommaFree (printable_field 3 line) (λ value. Ok (Value bucket value)) (printable_lacks 3 line) (value_free bucket)))

barred_made : (line : List ℕ) → IfOk (barred_row line) CommaFree
barred_made line =
    counted_made CommaFree 3 line _
    (then_made (λ b. eqb b 44 ≡ false) CommaFree (printable_field 2 line) _ (printable_lacks 2 line)
    (λ flag g. then_made (λ b. eqb b 44 ≡ false) CommaFree (printable_field 3 line) (λ value. Ok (Barred flag value)) (printable_lacks 3 line) (λ value h. barred_free flag value g h)))

row_by : (o : Option ℕ) (line : List ℕ) → IfOk (book_row_by o line) CommaFree
row_by None line = tt
row_by (Some letter) line =
    choice_made CommaFree (eqb letter 69) _ _ (flag_made line)
    (choice_made CommaFree (eqb letter 68) _ _ (side_made line)
    (choice_made CommaFree (eqb letter 67) _ _ (value_made line)
    (choice_made CommaFree (eqb letter 78) _ (Err UnknownRow) (barred_made line) tt)))

book_keeps : Keeps book_rules (All CommaFree)
book_keeps seen line row held s =
    All-push CommaFree seen row held
    (IfOk-at_ok CommaFree s.is (line_made book_rules CommaFree (λ l. row_by (only_byte (field_of 1 l)) l) (line_of line)))

-- no row of a faultless book sheet names a comma
pub comma_free_lem : (rows : List BookRow) → Faultless book_rules rows → All CommaFree rows
comma_free_lem rows f = (holds book_rules (All CommaFree) tt book_keeps rows f).0
