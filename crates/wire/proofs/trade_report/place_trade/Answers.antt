use Rattle.std.proofs.Common.{arith, rules}
use Rattle.wire.specs.Number.{bytes_of}
use Rattle.wire.proofs.Numbers.{length-bytes}
use Rattle.text.proofs.Overwriting.{begun, then_part, then_byte}
use Rattle.wire.proofs.trade_report.place_trade.Goals as goal

pub returns : goal.returns
returns c =
    let r = c.args.report.now in
    let p1 = then_part 8 (bytes_of 8 r.timestamp2) (begun c.args.buffer.now 29) (omega arith) c.put.ensures.after (length-bytes 8 r.timestamp2) in
    let p2 = then_part 11 r.symbol p1 (omega arith) c.copy_from_slice.ensures.after (search rules) in
    let p3 = then_part 4 (bytes_of 4 r.trade_id) p2 (omega arith) c.put-2.ensures.after (length-bytes 4 r.trade_id) in
    let p4 = then_byte r.exempt_flag p3 (omega arith) in
    let p5 = then_part 4 r.condition p4 (omega arith) c.copy_from_slice-2.ensures.after (search rules) in
    let p6 = then_part 2 (bytes_of 2 r.seller_days) p5 (omega arith) c.put-3.ensures.after (length-bytes 2 r.seller_days) in
    let p7 = then_byte r.side p6 (omega arith) in
    let p8 = then_part 8 (bytes_of 8 r.price) p7 (omega arith) c.put-4.ensures.after (length-bytes 8 r.price) in
    let p9 = then_part 4 (bytes_of 4 r.volume) p8 (omega arith) c.put-5.ensures.after (length-bytes 4 r.volume) in
    record { after = p9.is; typed = record { timestamp2 = c.put.ensures.fits; symbol = search rules; trade_id = c.put-2.ensures.fits; condition = search rules; seller_days = c.put-3.ensures.fits; price = c.put-4.ensures.fits; volume = c.put-5.ensures.fits } }
