use Rattle.std.proofs.Common.{◌≡◌, ◌-◌, length, take, drop, sym, ap, ◌∙◌, arith, length-drop}
use Rattle.std.proofs.lemmas.List.{drop_all, take_all}
use Rattle.processor.proofs.floor.frames.symbol_part.Goals as goal

pub returns-then-frame-lt37 : goal.returns-then-frame-lt37
returns-then-frame-lt37 c = sym (ap (take 11) (drop_all 37 c.args.frame.now (omega arith)))

pub returns-then-frame-lt48 : goal.returns-then-frame-lt48
returns-then-frame-lt48 c =
    let frame = c.args.frame.now in
    let long : length (drop 37 frame) ≡ length frame - 37 = length-drop 37 frame in
    take_all (length frame - 37) (drop 37 frame) (omega arith) ∙ sym (take_all 11 (drop 37 frame) (omega arith))
