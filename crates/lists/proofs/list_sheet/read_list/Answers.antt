use Rattle.lists.specs.ListRows.{list_rules}
use Rattle.sheets.proofs.Passed.{faultless}
use Rattle.lists.proofs.list_sheet.read_list.Goals as goal

pub returns : goal.returns
returns c =
    let said = c.read.ensures in
    record {
      answer = said.answer;
      rows = said.rows;
      within = said.within;
      faultless = faultless list_rules c.args.text.now c.args.table.now c.read.new.table c.read.result said.answer said.rows;
    }
