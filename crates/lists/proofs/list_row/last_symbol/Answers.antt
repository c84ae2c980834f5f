use Rattle.std.proofs.Common.{◌∙◌, rules, tests}
use Rattle.std.proofs.lemmas.Iterator.Adapters.{YieldsList-from_rev_slice}
use Rattle.std.proofs.lemmas.Iterator.Consumers.{nth_from_yields_List, YieldsList-from_filter_map}
use Rattle.lists.specs.ListRows.{symbol_in}
use Rattle.lists.proofs.Searched.{last_found, unmapped}
use Rattle.lists.proofs.list_row.last_symbol.Goals as goal

pub returns : goal.returns
returns c =
    unmapped c.nth.result
    ∙ nth_from_yields_List c.nth.result _ 0 c.nth.ensures.ran
    (YieldsList-from_filter_map _ symbol_in (YieldsList-from_rev_slice c.args.rows.now (cc)) c.filter_map.ensures.closure (λ x r q k. search (rules, tests)))
    ∙ last_found c.args.rows.now
