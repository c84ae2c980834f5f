use Rattle.std.proofs.Common.{codes, refl, arith, rules}
use Rattle.wire.specs.Number.{bytes_of}
use Rattle.wire.proofs.Numbers.{length-bytes}
use Rattle.text.proofs.Overwriting.{begun, then_part}
use Rattle.wire.proofs.trade_report.place_header.Goals as goal

pub returns : goal.returns
returns c =
    let r = c.args.report.now in
    let p1 = then_part 3 (codes "1TE") (begun c.args.buffer.now 0) (omega arith) c.copy_from_slice.ensures.after refl in
    let p2 = then_part 2 r.originator p1 (omega arith) c.copy_from_slice-2.ensures.after (search rules) in
    let p3 = then_part 8 (bytes_of 8 r.timestamp1) p2 (omega arith) c.put.ensures.after (length-bytes 8 r.timestamp1) in
    let p4 = then_part 8 (bytes_of 8 r.feed_sequence) p3 (omega arith) c.put-2.ensures.after (length-bytes 8 r.feed_sequence) in
    let p9 = then_part 8 (bytes_of 8 r.participant_token) p4 (omega arith) c.put-3.ensures.after (length-bytes 8 r.participant_token) in
    record { after = p9.is; typed = record { originator = search rules; timestamp1 = c.put.ensures.fits; feed_sequence = c.put-2.ensures.fits; participant_token = c.put-3.ensures.fits } }
