use Rattle.std.proofs.Common.{◌++◌, codes, get_or, take, refl, ap, sym, ◌∙◌}
use Rattle.std.proofs.Output.{has_written_append, has_written_of_eq}
use Rattle.std.proofs.lemmas.List.{flat_map_more, take_all, take_more}
use Rattle.std.specs.List.{flat_map}
use Rattle.show.specs.Quoted.{escaped}
use Rattle.show.proofs.quoted.QuotedDisplay.fmt.Goals as goal

pub loop-byte-preserved : goal.loop-byte-preserved
loop-byte-preserved g c = λ plain.
    let bytes = c.args.self.now.0.now in
    let i = c.loop-byte.byte-index in
    let so_far = c.loop-byte.invariant plain in
    let more = flat_map_more escaped (codes "\"") (take i bytes) (get_or bytes i 0) in
    let taken = take_more bytes i 0 c.loop-byte-test.true in
    has_written_of_eq _ _ _ _ _ (more ∙ ap (λ bs. codes "\"" ++ flat_map escaped bs) (sym taken))
    (has_written_append _ _ _ _ _ _ so_far (c.in_ok-write_escaped.ensures so_far.plain refl))

pub returns-clause-writes : goal.returns-clause-writes
returns-clause-writes g c = λ plain ok.
    let bytes = c.args.self.now.0.now in
    let i = c.loop-byte.byte-index in
    let so_far = c.loop-byte.invariant plain in
    let all = take_all i bytes c.loop-byte-test.false in
    has_written_of_eq _ _ _ _ _ (ap (λ bs. codes "\"" ++ flat_map escaped bs ++ codes "\"") all)
    (has_written_append _ _ _ _ _ _ so_far (c.write_str-2.ensures.writes so_far.plain ok))
