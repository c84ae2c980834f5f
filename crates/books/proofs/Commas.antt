-- Rows that name no comma.
use Rattle.std.proofs.Common.{◌≡◌, ℕ, Bool, true, false, ◌||◌, List, [], ◌∷◌, Decides, sym, refl, ap, ◌∙◌}
use Rattle.std.specs.List.{AllByRecursion as All}
use Rattle.std.proofs.lemmas.Slice.Eq.{bytes_eq-Decides}
use Rattle.codes.specs.BookRows.{among_rows, fields_of, same_row}
use Rattle.codes.proofs.Commas.{CommaFree}
use Rattle.cuts.specs.Cut.{has}
use Rattle.codes.specs.declared.book_row.BookRow.{BookRow}
use Rattle.books.specs.SheetSets.{Clean}

-- texts of which only one has a comma are not the same
apart_by : (one other : List ℕ) (t : Bool) → Decides t (one ≡ other) → has 44 one ≡ false → has 44 other ≡ true → t ≡ false
apart_by one other false d h k = refl
apart_by one other true d h k = sym k ∙ sym (ap (has 44) (d.0 refl)) ∙ h

pub clean : (rows : List BookRow) → All CommaFree rows → Clean rows
clean [] h row e = refl
clean (r ∷ rows) h row e =
    ap (λ t. t || among_rows rows row) (apart_by (fields_of r) (fields_of row) (same_row r row) (bytes_eq-Decides (fields_of r) (fields_of row)) h.0 e)
    ∙ clean rows h.1 row e
