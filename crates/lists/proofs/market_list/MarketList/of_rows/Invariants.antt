use Rattle.std.proofs.Common.{◌≡◌, ◌++◌, drop}
use Rattle.lists.specs.ListRows.{lines, securities}
use Rattle.lists.proofs.market_list.MarketList.of_rows.Given as goal

-- what stands in them and what is left give the whole
abbrev pub invariant-loop-row : goal.invariant-loop-row
invariant-loop-row l = record {
  symbols : l.symbols.items ++ securities (drop l.row-index l.rows) ≡ securities l.rows;
  originators : l.originators.items ++ lines (drop l.row-index l.rows) ≡ lines l.rows;
}
