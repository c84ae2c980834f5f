use Rattle.std.proofs.Common.{◌≡◌, ℕ, sym, ◌∙◌, arith}
use Rattle.lists.specs.Listed.{lines_of}
use Rattle.processor.proofs.Arrays.{at_index_lem}
use Rattle.processor.proofs.floor.Floor.originator.Goals as goal

pub unreachable-requires : goal.unreachable-requires
unreachable-requires c =
    let told = sym c.in-None.is ∙ c.originator.ensures.value ∙ at_index_lem (lines_of c.args.self.now.market) c.args.line c.requires in
    let z : ◌≡◌ {A = ℕ} 0 1 = cc in
    absurd (omega arith)

pub returns : goal.returns
returns c =
    let told = sym c.in-Some.is ∙ c.originator.ensures.value ∙ at_index_lem (lines_of c.args.self.now.market) c.args.line c.requires in
    cc
