use Rattle.std.proofs.Common.{◌≡◌, cond, ◌++◌, length, drop, ap, ◌∙◌, arith, length-append, length-drop, rules}
use Rattle.std.proofs.lemmas.Bool.{le-leb}
use Rattle.inquiry.specs.Inquiry.{inquiry_bytes}
use Rattle.processor.proofs.floor.calls.put_inquiry.Goals as goal

-- the buffer is as long as before, so the bytes in front are as many as those that they stand for
pub returns : goal.returns
returns c =
    let buffer = c.args.buffer.now in
    let bytes = inquiry_bytes c.args.inquiry.now in
    let after : c.write.new.buffer ≡ bytes ++ drop 33 buffer = c.write.ensures.after ∙ ap (λ b. cond b (bytes ++ drop 33 buffer) buffer) (le-leb 33 (length buffer) c.requires) in
    let kept : length c.write.new.buffer ≡ length buffer = search rules in
    let whole = ap length after ∙ length-append bytes (drop 33 buffer) in
    let rest = length-drop 33 buffer in
    let room = c.requires in
    let long : 33 ≡ length bytes = omega arith in
    after ∙ ap (λ k. bytes ++ drop k buffer) long
