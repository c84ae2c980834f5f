use Rattle.std.proofs.Common.{Ok, sym, ap, ◌∙◌}
use Rattle.lines.specs.declared.judge.Message.TheVariants.{Trade}
use Rattle.verdicts.specs.declared.answer.Answer.TheVariants.{Taken}
use Rattle.day.specs.Call.{answered}
use Rattle.day.specs.LineCalls.{send_turn}
use Rattle.day.specs.Step.{buffer_after, turned}
use Rattle.processor.specs.Held.{day_of}
use Rattle.processor.specs.Turns.{judged_turn}
use Rattle.processor.proofs.Turns.{same_turn}
use Rattle.processor.proofs.floor.Floor.obey.Goals as goal

pub returns-in-Some : goal.returns-in-Some
unfolding send_turn
returns-in-Some c =
    let d = day_of c.args.self.now in
    let at = sym c.in-Some.is in
    let is = sym c.in-Trade.is in
    let report = c.in-Trade.report in
    record {
      said =
          ap (λ p. (judged_turn d c.args.line c.args.time p (Ok (Trade report))).said) at
          ∙ ap (λ j. (judged_turn d c.args.line c.args.time c.args.place (Ok j)).said) is;
      leaves =
          c.take.ensures.leaves
          ∙ ap (λ p. (turned d c.args.line (judged_turn d c.args.line c.args.time p (Ok (Trade report)))).day) at
          ∙ ap (λ j. (turned d c.args.line (judged_turn d c.args.line c.args.time c.args.place (Ok j))).day) is;
      wrote =
          c.take.ensures.wrote
          ∙ ap (λ p. buffer_after (turned d c.args.line (judged_turn d c.args.line c.args.time p (Ok (Trade report)))).wrote c.args.buffer.now) at
          ∙ ap (λ j. buffer_after (turned d c.args.line (judged_turn d c.args.line c.args.time c.args.place (Ok j))).wrote c.args.buffer.now) is;
    }

pub returns-in_default : goal.returns-in_default
unfolding send_turn
returns-in_default c =
    let d = day_of c.args.self.now in
    let at = sym c.in_default.is in
    let is = sym c.in-Trade.is in
    let report = c.in-Trade.report in
    record {
      said =
          ap (λ p. (judged_turn d c.args.line c.args.time p (Ok (Trade report))).said) at
          ∙ ap (λ j. (judged_turn d c.args.line c.args.time c.args.place (Ok j)).said) is;
      leaves =
          same_turn d c.args.line (answered (Taken 0))
          ∙ ap (λ p. (turned d c.args.line (judged_turn d c.args.line c.args.time p (Ok (Trade report)))).day) at
          ∙ ap (λ j. (turned d c.args.line (judged_turn d c.args.line c.args.time c.args.place (Ok j))).day) is;
      wrote =
          ap (λ p. buffer_after (turned d c.args.line (judged_turn d c.args.line c.args.time p (Ok (Trade report)))).wrote c.args.buffer.now) at
          ∙ ap (λ j. buffer_after (turned d c.args.line (judged_turn d c.args.line c.args.time c.args.place (Ok j))).wrote c.args.buffer.now) is;
    }

pub returns-in-Mass : goal.returns-in-Mass
unfolding send_turn
returns-in-Mass c =
    let d = day_of c.args.self.now in
    let is = sym c.in-Mass.is in
    record {
      said = ap (λ n. answered (Taken n)) c.mark.ensures.count ∙ ap (λ j. (judged_turn d c.args.line c.args.time c.args.place (Ok j)).said) is;
      leaves = c.mark.ensures.leaves ∙ ap (λ j. (turned d c.args.line (judged_turn d c.args.line c.args.time c.args.place (Ok j))).day) is;
      wrote = ap (λ j. buffer_after (turned d c.args.line (judged_turn d c.args.line c.args.time c.args.place (Ok j))).wrote c.args.buffer.now) is;
    }
