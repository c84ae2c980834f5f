use Rattle.std.proofs.Common.{refl, sym, ap, ◌∙◌}
use Rattle.lists.specs.ListRows.{list_disordered}
use Rattle.lists.proofs.Searched.{line_found}
use Rattle.lists.proofs.list_row.ListRowSheetRow.is_disordered.Goals as goal

pub returns-in-Line : goal.returns-in-Line
returns-in-Line c =
    let said = rw c.in-Line.is at c.contains.ensures.value in
    said
    ∙ line_found _ c.in-Line.field-0 (λ s. refl) (λ p. refl) c.args.before.now
    ∙ ap (list_disordered c.args.before.now) (sym c.in-Line.is)
