use Rattle.std.proofs.Common.{sym, ap, ◌∙◌}
use Rattle.day.specs.Call.{answered}
use Rattle.day.specs.LineCalls.{send_turn}
use Rattle.day.specs.Step.{buffer_after, turned}
use Rattle.processor.specs.Held.{day_of}
use Rattle.processor.specs.Turns.{judged_turn}
use Rattle.processor.proofs.floor.Floor.settle.Goals as goal

pub returns-in-Err : goal.returns-in-Err
unfolding send_turn
returns-in-Err c =
    let d = day_of c.args.self.now in
    let is = sym c.in-Err.is in
    record {
      said = ap answered c.from.ensures ∙ ap (λ j. (judged_turn d c.args.line c.args.time c.args.place j).said) is;
      leaves = c.fail.ensures ∙ ap (λ j. (turned d c.args.line (judged_turn d c.args.line c.args.time c.args.place j)).day) is;
      wrote = ap (λ j. buffer_after (turned d c.args.line (judged_turn d c.args.line c.args.time c.args.place j)).wrote c.args.buffer.now) is;
    }
