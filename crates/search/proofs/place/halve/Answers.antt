use Rattle.std.proofs.Common.{rules, tests}
use Rattle.std.proofs.lemmas.Fn.{always_returns_same}
use Rattle.search.proofs.Found.{against, found, within_ok}
use Rattle.search.proofs.place.halve.Goals as goal

pub returns : goal.returns
returns c =
    let symbol = c.args.symbol.now in
    let searched = c.binary_search_by in
    let parted = searched.ensures.position (against symbol) (always_returns_same _ _ _ (λ a r f called. search (rules, tests))) in
    record {
      place = λ up. found c.args.symbols.now symbol searched.result up searched.ensures.bound parted;
      within = within_ok searched.result _ searched.ensures.bound;
    }
