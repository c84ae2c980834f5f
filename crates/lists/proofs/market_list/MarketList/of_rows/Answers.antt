use Rattle.std.proofs.Common.{[], ap, ◌∙◌, sym, subst, arith}
use Rattle.std.proofs.lemmas.List.{at_drop_all}
use Rattle.lists.specs.declared.list_row.ListRow.TheVariants.{Security}
use Rattle.lists.specs.ListRows.{lines, securities}
use Rattle.lists.specs.Market.{none_has, OriginatorList, SymbolList}
use Rattle.lists.proofs.Filling.{all_pushed, room_for}
use Rattle.lists.proofs.Markets.{market_of}
use Rattle.lists.proofs.Steps.{at_known}
use Rattle.lists.proofs.market_list.MarketList.of_rows.Goals as goal

pub push-requires : goal.push-requires
push-requires c =
    let rows = c.args.rows.now in
    let next = at_known securities rows c.loop-row.row-index (Security []) _ c.loop-row-test.true c.in-Security.is in
    (omega arith, room_for c.loop-row.symbols.items _ _ 256 c.loop-row.invariant.symbols next (market_of rows c.requires).symbols.1)

pub push-requires-in-Line : goal.push-requires-in-Line
push-requires-in-Line c =
    let rows = c.args.rows.now in
    let next = at_known lines rows c.loop-row.row-index (Security []) _ c.loop-row-test.true c.in-Line.is in
    (omega arith, room_for c.loop-row.originators.items _ _ 16 c.loop-row.invariant.originators next (market_of rows c.requires).originators.1)

pub invariant_of-result : goal.invariant_of-result
invariant_of-result c =
    let rows = c.args.rows.now in
    let i = c.loop-row.row-index in
    let symbols = all_pushed c.loop-row.symbols.items c.loop-row.invariant.symbols (at_drop_all securities rows i c.loop-row-test.false) in
    let originators = all_pushed c.loop-row.originators.items c.loop-row.invariant.originators (at_drop_all lines rows i c.loop-row-test.false) in
    let m = market_of rows c.requires in
    record {
      listed = subst SymbolList (sym symbols) m.symbols;
      connected = subst OriginatorList (sym originators) m.originators;
      plain = (ap (none_has 44) symbols ∙ m.plain_symbols, ap (none_has 44) originators ∙ m.plain_originators);
    }
