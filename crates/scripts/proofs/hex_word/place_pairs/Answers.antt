use Rattle.std.proofs.Common.{◌≡◌, ◌+◌, ◌*◌, arith}
use Rattle.scripts.proofs.Pairing.{length_pairs, placed_more, placed_all, byte_at}
use Rattle.scripts.proofs.hex_word.place_pairs.Goals as goal

pub bounds-frame-i : goal.bounds-frame-i
bounds-frame-i c = omega (arith, length_pairs c.args.word.now)

pub loop-i-preserved : goal.loop-i-preserved
loop-i-preserved c =
    let word = c.args.word.now in
    let i = c.loop-i.i in
    let high = c.digit_value.result in
    let low = c.digit_value-in-loop-i.result in
    let is : high * 16 + low ≡ byte_at i word =
    omega (arith, c.digit_value.ensures.value, c.digit_value-in-loop-i.ensures.value) in
    placed_more (high * 16 + low) c.loop-i.invariant (omega arith) (omega (arith, length_pairs word)) is

pub returns : goal.returns
returns c =
    let word = c.args.word.now in
    placed_all c.loop-i.invariant (omega arith) (omega (arith, length_pairs word))
