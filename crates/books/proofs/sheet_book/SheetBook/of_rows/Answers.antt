use Rattle.codes.proofs.Commas.{comma_free_lem}
use Rattle.books.proofs.Commas.{clean}
use Rattle.books.proofs.sheet_book.SheetBook.of_rows.Goals as goal

pub invariant_of-result : goal.invariant_of-result
invariant_of-result c = let rows = c.args.rows.now in record { clean = clean rows (comma_free_lem rows c.requires) }
