use Rattle.codes.specs.BookRows.{book_rules}
use Rattle.sheets.proofs.Passed.{faultless}
use Rattle.codes.proofs.book_sheet.read_book.Goals as goal

pub returns : goal.returns
returns c =
    let said = c.read.ensures in
    record {
      answer = said.answer;
      rows = said.rows;
      within = said.within;
      faultless = faultless book_rules c.args.text.now c.args.table.now c.read.new.table c.read.result said.answer said.rows;
    }
