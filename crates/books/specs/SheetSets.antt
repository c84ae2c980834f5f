-- The code book of a sheet's rows.
use Rattle.std.specs.Prelude.{◌≡◌, ℕ, Bool, true, false, not, List, refl}
use Rattle.std.specs.List.{list_any}
use Rattle.codes.specs.BookRows.{among_rows, fields_of}
use Rattle.cuts.specs.Cut.{has}
use Rattle.codes.specs.declared.book_row.BookRow.{BookRow}
use Rattle.codes.specs.declared.book_row.BookRow.TheVariants.{Flag, Side, Value, Barred}
use Rattle.sheets.specs.declared.bucket.Bucket.{Bucket}
use Rattle.sheets.specs.declared.bucket.Bucket.TheVariants.{One, Two, Three, Four}
use Rattle.books.specs.Sets.{Sets}

-- a row that names a comma is not among them
abbrev pub Clean : List BookRow → Type 0
Clean rows = (row : BookRow) → has 44 (fields_of row) ≡ true → among_rows rows row ≡ false

-- a condition fails with a flag if some row bars the flag with one of its bytes
abbrev pub any_barred : List BookRow → ℕ → List ℕ → Bool
any_barred rows flag condition = list_any (λ b. among_rows rows (Barred flag b)) condition

abbrev pub comma_free : (rows : List BookRow) → Clean rows → (bucket : Bucket) → among_rows rows (Value bucket 44) ≡ false
comma_free rows clean One = clean (Value One 44) refl
comma_free rows clean Two = clean (Value Two 44) refl
comma_free rows clean Three = clean (Value Three 44) refl
comma_free rows clean Four = clean (Value Four 44) refl

-- the flags, the sides and the values are exactly those that rows name
abbrev pub sheet_sets : (rows : List BookRow) → Clean rows → Sets
sheet_sets rows clean = record {
  flags = λ b. among_rows rows (Flag b);
  sides = λ b. among_rows rows (Side b);
  values = λ bucket b. among_rows rows (Value bucket b);
  pairs = λ flag c. not (any_barred rows flag c);
  no_comma_flag = clean (Flag 44) refl;
  no_comma_side = clean (Side 44) refl;
  no_comma_value = comma_free rows clean;
}
