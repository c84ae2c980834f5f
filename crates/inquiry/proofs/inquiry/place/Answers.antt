use Rattle.std.proofs.Common.{[], ◌∷◌, ◌++◌, codes, refl, ap, arith, rules}
use Rattle.text.proofs.Overwriting.{begun, then_byte, then_part}
use Rattle.wire.specs.Number.{bytes_of}
use Rattle.wire.proofs.Numbers.{length-bytes}
use Rattle.inquiry.specs.Inquiry.{inquiry_bytes}
use Rattle.inquiry.proofs.Written.{in_front_lem}
use Rattle.inquiry.proofs.inquiry.place.Goals as goal

pub returns : goal.returns
returns c =
    let q = c.args.inquiry.now in
    let old = c.args.buffer.now in
    let p1 = then_part 5 (codes "1cSSU") (begun old 0) (omega arith) c.copy_from_slice.ensures.after refl in
    let p2 = then_part 8 (bytes_of 8 q.sip_time) p1 (omega arith) c.put.ensures.after (length-bytes 8 q.sip_time) in
    let p3 = then_part 11 q.symbol p2 (omega arith) c.copy_from_slice-2.ensures.after (search rules) in
    let p4 = then_part 4 (bytes_of 4 q.next_trade_id) p3 (omega arith) c.put-2.ensures.after (length-bytes 4 q.next_trade_id) in
    let p5 = then_part 4 (bytes_of 4 q.action_number) p4 (omega arith) c.put-3.ensures.after (length-bytes 4 q.action_number) in
    let p6 = then_byte c.from.result p5 (omega arith) in
    let front = codes "1cSSU" ++ bytes_of 8 q.sip_time ++ q.symbol ++ bytes_of 4 q.next_trade_id ++ bytes_of 4 q.action_number in
    in_front_lem (inquiry_bytes q) 33 p6 (ap (λ b. front ++ (b ∷ [])) c.from.ensures)
