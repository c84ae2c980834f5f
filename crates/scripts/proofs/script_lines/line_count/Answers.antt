use Rattle.std.proofs.Common.{length, ap, ◌∙◌}
use Rattle.std.proofs.lemmas.Iterator.Consumers.{count_from_yields_List}
use Rattle.scripts.specs.Lines.{lines_of}
use Rattle.scripts.proofs.FirstLines.{gives_lines}
use Rattle.scripts.proofs.script_lines.line_count.Goals as goal

pub returns : goal.returns
returns c = count_from_yields_List _ _ c.count.ensures.ran (gives_lines c.new.result) ∙ ap (λ script. length (lines_of script)) c.new.ensures
