use Rattle.std.proofs.Common.{ℕ, false, List, [], Option, Some, codes, option_map, ap, subst, ◌∙◌}
use Rattle.std.specs.Fmt.{◌++?◌, DisplaysOnOk, format_spec, padded_integral, styled_digits_output}
use Rattle.show.proofs.Escapes.{hex_escape}
use Rattle.show.proofs.quoted.write_escaped.Goals as goal

pub returns-else-is_plain : goal.returns-else-is_plain
returns-else-is_plain g c =
    let took = g.W.Write.write_str_gives in
    let written = λ (text : Option (List ℕ)). DisplaysOnOk took c.args.f.now c.write.result text c.write.new.self in
    let styled = ap (styled_digits_output c.in_radix.result) c.laid_out.ensures in
    let shown = ap (option_map (padded_integral (format_spec 32 0 4 2 18446744073709551615) false [])) c.in_radix.ensures in
    subst written (ap (λ t. Some (codes "\\x") ++? t) (styled ∙ shown) ∙ hex_escape c.args.byte c.ranges.byte.fits c.if-is_plain.ensures) c.write.ensures.writes
