use Rattle.std.proofs.Common.{codes, sym, ap, rules, arith}
use Rattle.std.proofs.lemmas.Slice.Eq.{text_from_reads}
use Rattle.scripts.specs.CallName.{name_in}
use Rattle.scripts.specs.WordForm.{formed}
use Rattle.scripts.specs.declared.malformed.Malformed.TheVariants.{UnknownCall}
use Rattle.scripts.proofs.call_name.CallNameTryFromRefSliceU8.try_from.Goals as goal

pub returns-in-hangup : goal.returns-in-hangup
returns-in-hangup c = ap (λ word. formed UnknownCall (name_in word)) (sym (text_from_reads c.args.word.now (codes "hangup") (omega arith) (search rules)))

pub returns-in-inquire : goal.returns-in-inquire
returns-in-inquire c = ap (λ word. formed UnknownCall (name_in word)) (sym (text_from_reads c.args.word.now (codes "inquire") (omega arith) (search rules)))
