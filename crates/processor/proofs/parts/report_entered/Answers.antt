use Rattle.std.proofs.Common.{sym, ap, ◌∙◌}
use Rattle.stats.specs.Entries.{consolidated_entry}
use Rattle.stats.specs.Plain.{noted}
use Rattle.processor.proofs.Notes.{noted_some}
use Rattle.processor.proofs.parts.report_entered.Goals as goal

pub returns : goal.returns
returns c =
    noted_some c.args.sheet c.in-Some.after (consolidated_entry (record { line = c.args.line; sale = c.sale_of.result })) (sym c.in-Some.is ∙ c.sheet_after.ensures.value)
    ∙ ap (λ s. noted c.args.sheet (consolidated_entry (record { line = c.args.line; sale = s }))) c.sale_of.ensures.value
