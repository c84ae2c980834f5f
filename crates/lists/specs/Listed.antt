-- What a market list holds.
use Rattle.std.specs.Prelude.{ℕ, List}
use Rattle.lists.specs.declared.market_list.MarketList.{MarketList}

-- the symbols of its securities, ascending
abbrev pub securities_of : MarketList → List (List ℕ)
securities_of market = market.symbols.items

-- the originators of its lines, in the order of the lines' numbers
abbrev pub lines_of : MarketList → List (List ℕ)
lines_of market = market.originators.items
