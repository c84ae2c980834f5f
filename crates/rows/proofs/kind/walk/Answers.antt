use Rattle.std.proofs.Common.{Ok, map, sym, ap, ◌∙◌}
use Rattle.std.proofs.lemmas.Result.{err_from_is_err_and}
use Rattle.rows.specs.Asked.{first_failing}
use Rattle.rows.specs.HeaderRows.{header_rows}
use Rattle.rows.specs.Judged.{judgement}
use Rattle.rows.proofs.Walked.{failed, first_answers, passed, second_answers}
use Rattle.rows.proofs.kind.walk.Goals as goal

pub returns-in_err-ask_shared : goal.returns-in_err-ask_shared
returns-in_err-ask_shared g c =
    let frame = c.args.frame.now in
    let header = header_rows g.K.Kind.LETTERS g.K.Kind.LENGTH c.args.context.now frame in
    let own = map (g.K.Kind.asked (g.B.CodeBook.sets c.args.book.now) c.args.context.now frame) g.K.Kind.order in
    let p = err_from_is_err_and c.from_residual.result c.from_residual.ensures.1 in
    rw (p.1, p.2) (sym (ap (λ o. judgement o (g.K.Kind.fields frame)) (first_answers header own _ c.in_err-ask_shared.ensures)))

pub returns-in_err-ask_own : goal.returns-in_err-ask_own
returns-in_err-ask_own g c =
    let frame = c.args.frame.now in
    let header = header_rows g.K.Kind.LETTERS g.K.Kind.LENGTH c.args.context.now frame in
    let own = map (g.K.Kind.asked (g.B.CodeBook.sets c.args.book.now) c.args.context.now frame) g.K.Kind.order in
    let p = err_from_is_err_and c.from_residual-in_err-ask_own.result c.from_residual-in_err-ask_own.ensures.1 in
    rw (p.1, p.2) (sym (ap (λ o. judgement o (g.K.Kind.fields frame)) (second_answers header own c.in_ok-ask_shared.ensures ∙ failed (first_failing own) _ c.in_err-ask_own.ensures)))

pub returns : goal.returns
returns g c =
    let frame = c.args.frame.now in
    let header = header_rows g.K.Kind.LETTERS g.K.Kind.LENGTH c.args.context.now frame in
    let own = map (g.K.Kind.asked (g.B.CodeBook.sets c.args.book.now) c.args.context.now frame) g.K.Kind.order in
    ap (λ fields. Ok fields) c.read.ensures
    ∙ sym (ap (λ o. judgement o (g.K.Kind.fields frame)) (second_answers header own c.in_ok-ask_shared.ensures ∙ passed (first_failing own) c.in_ok-ask_own.ensures))
