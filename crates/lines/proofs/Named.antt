-- The kind that a frame's letters name, and a frame whose letters name none.
use Rattle.std.proofs.Common.{◌≡◌, ℕ, Bool, true, false, cond, ◌&&◌, eqb, leb, List, length, get_or, Some, Err, codes, Option, refl, ap, ◌∙◌, arith}
use Rattle.books.specs.Sets.{Sets}
use Rattle.rows.specs.Judged.{judgement}
use Rattle.rows.specs.declared.context.Context.{Context}
use Rattle.verdicts.specs.declared.answer.Verdict.{Verdict}
use Rattle.verdicts.specs.declared.answer.Verdict.TheVariants.{Cut}
use Rattle.verdicts.specs.declared.code.Code.TheVariants as code
use Rattle.verdicts.specs.declared.row.Row.TheVariants as row
use Rattle.wire.specs.declared.header.HeaderRow.{HeaderRow}
use Rattle.wire.specs.declared.header.HeaderRow.TheVariants.{Version, Kind}
use Rattle.wire.specs.declared.trade_report.TradeReport.{TradeReport}
use Rattle.lines.specs.Judgement.{as_mass, as_trade, cut_as_unknown, judged, judged_mass, judged_trade, names}

abbrev cut_at : HeaderRow → Verdict
cut_at r = Cut (record { code = code.Header; row = row.Header r })

-- by the length, the version, the letters and what the other rows would say
cut_by : (long version letters : Bool) (rest : Option Verdict) (report : TradeReport) → (long && letters) ≡ false →
    as_trade (judgement (cond (long && version) (cond letters rest (Some (cut_at Kind))) (Some (cut_at Version))) report) ≡ Err (cut_at (cond (long && version) Kind Version))
cut_by false version letters rest report e = refl
cut_by true false letters rest report e = refl
cut_by true true false rest report e = refl
cut_by true true true rest report e = let z : ◌≡◌ {A = ℕ} 0 1 = cc in absurd (omega arith)

pub unknown_cut : (sets : Sets) (context : Context) (frame : List ℕ) → names (codes "TE") frame ≡ false → names (codes "AU") frame ≡ false → judged sets context frame ≡ Err (cut_as_unknown frame)
unfolding judged
unknown_cut sets context frame trade mass =
    ap (λ b. cond b (as_mass (judged_mass sets context frame)) (as_trade (judged_trade sets context frame))) mass ∙ cut_by (leb 3 (length frame)) (eqb (get_or frame 0 0) 49) (eqb (get_or frame 1 0) 84 && eqb (get_or frame 2 0) 69) _ _ trade
