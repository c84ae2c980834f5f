use Rattle.std.proofs.Common.{◌≡◌, length, drop, ◌∙◌, sym, subst, arith, ap}
use Rattle.std.proofs.lemmas.List.{take_at}
use Rattle.tape.specs.TapeLine.{tape_line}
use Rattle.tape.specs.TapeReading.{ReadsBack}
use Rattle.tape.proofs.Reading.{line_again}
use Rattle.tape.proofs.tape_line.write_tape_line.Goals as goal

pub returns-clause-again : goal.returns-clause-again
returns-clause-again c =
    let serial = c.args.serial in
    let time = c.args.sip_time in
    let r = c.args.report.now in
    let size = c.len-size.result in
    let front : c.copy_from_slice.new.self ≡ tape_line serial time r = c.copy_from_slice.ensures.after ∙ c.as_slice.ensures.value ∙ c.line_of-line.ensures.items in
    let long : length c.copy_from_slice.new.self ≡ size = ap length (c.copy_from_slice.ensures.after ∙ c.as_slice.ensures.value) ∙ sym c.len-size.ensures.value in
    let written = take_at c.copy_from_slice.new.self (drop size c.args.buffer.now) size long ∙ front in
    λ free. subst (λ bytes. ReadsBack serial time r bytes) (sym written) (line_again serial time r free (omega (arith, c.line_of-line.ensures.small)))
