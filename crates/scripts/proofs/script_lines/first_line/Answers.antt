use Rattle.std.proofs.Common.{◌<◌, length, sym, arith, rules}
use Rattle.std.proofs.lemmas.List.{nil_from_length}
use Rattle.std.proofs.lemmas.Bool.{eqb-true, eqb-false}
use Rattle.scripts.proofs.FirstLines.{opens}
use Rattle.scripts.proofs.script_lines.first_line.Goals as goal

pub returns-then-is_empty : goal.returns-then-is_empty
returns-then-is_empty c = nil_from_length c.args.script.now (eqb-true _ _ (sym c.if-is_empty.ensures))

pub returns : goal.returns
returns c =
    let script = c.args.script.now in
    let ne = eqb-false (length script) 0 (sym c.if-is_empty.ensures) in
    let some : 0 < length script = omega arith in
    opens script c.first_part.result.now c.after_first.result.now some (search rules) (search rules)
