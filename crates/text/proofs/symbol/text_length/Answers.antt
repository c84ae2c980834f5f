use Rattle.std.proofs.Common.{length, sym, ap, ◌∙◌, arith}
use Rattle.std.proofs.lemmas.List.{take_all}
use Rattle.text.specs.Symbol.{text_of}
use Rattle.text.proofs.Padding.{text_shorter, text_kept}
use Rattle.text.proofs.symbol.text_length.Goals as goal

pub loop-n-init : goal.loop-n-init
loop-n-init c =
    let symbol = c.args.symbol.now in
    (omega arith, ap text_of (take_all (length symbol) symbol (omega arith)))

pub loop-n-preserved : goal.loop-n-preserved
loop-n-preserved c =
    let held = c.loop-n.invariant in
    (omega arith, text_shorter c.args.symbol.now c.loop-n.n c.loop-n-test.true held.0 c.if-symbol-n-eq32.true ∙ held.1)

pub returns-else-symbol-n-eq32 : goal.returns-else-symbol-n-eq32
returns-else-symbol-n-eq32 c =
    let held = c.loop-n.invariant in
    record {
      within = held.0;
      front = sym (text_kept c.args.symbol.now c.loop-n.n c.loop-n-test.true held.0 c.if-symbol-n-eq32.false) ∙ held.1;
    }
