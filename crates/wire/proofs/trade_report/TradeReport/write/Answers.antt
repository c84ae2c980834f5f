use Rattle.std.proofs.Common.{◌≡◌, cond, ◌++◌, take, drop, Ok, Err, sym, ap, ◌∙◌}
use Rattle.std.proofs.lemmas.Bool.{le-leb}
use Rattle.wire.specs.TradeReport.{frame_of, report_in}
use Rattle.wire.specs.declared.trade_report.WriteRefusal.TheVariants.{ShortBuffer}
use Rattle.wire.proofs.Again.{report_again, whole_written}
use Rattle.wire.proofs.trade_report.TradeReport.write.Goals as goal

pub returns : goal.returns
returns c =
    let r = c.args.self.now in
    let old = c.args.buffer.now in
    let h = c.place_header.ensures.typed in
    let t = c.place_trade.ensures.typed in
    let room = le-leb 72 _ c.if-buffer-lt-LENGTH.false in
    let whole : c.place_trade.new.buffer ≡ frame_of r ++ drop 72 old =
    whole_written r old _ _ h t c.place_header.ensures.after c.place_trade.ensures.after in
    record {
      answer = ap (λ b. cond b (Ok tt) (Err ShortBuffer)) (sym room);
      after = whole ∙ ap (λ b. cond b (frame_of r ++ drop 72 old) old) (sym room);
      again = ap (λ u. report_in (take 72 u)) whole ∙ report_again r (drop 72 old) h t;
    }
