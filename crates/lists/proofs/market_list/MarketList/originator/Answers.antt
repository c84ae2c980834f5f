use Rattle.std.proofs.Common.{◌∙◌, sym, ap, subst}
use Rattle.lists.specs.Market.{Commaless, none_has}
use Rattle.lists.proofs.Searched.{plain_up}
use Rattle.lists.proofs.market_list.MarketList.originator.Goals as goal

pub returns-clause-plain : goal.returns-clause-plain
returns-clause-plain c =
    let found = c.get.ensures.lookup in
    let plain = plain_up c.originators.result.now _ c.get.result found.0 found.1 (ap (none_has 44) c.originators.ensures ∙ c.args.self.now.plain.1) in
    subst Commaless (sym c.copied.ensures) plain
