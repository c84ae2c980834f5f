use Rattle.std.proofs.Common.{◌≡◌, ℕ, List, codes, refl, ap, ◌∙◌, rules}
use Rattle.conditions.specs.Matrix.{row_of, row_lettered}
use Rattle.conditions.specs.declared.matrix.Row.{Row}
use Rattle.conditions.specs.declared.matrix.Row.TheVariants.{Regular, FirstLast, VolumeOnly, OfficialClose, OfficialOpen, CorrectedClose, Silent}
use Rattle.conditions.proofs.Table.{by_table}
use Rattle.conditions.proofs.matrix.row_of.Goals as goal

abbrev letter : Row → ℕ
letter Regular = 82
letter FirstLast = 70
letter VolumeOnly = 86
letter OfficialClose = 67
letter OfficialOpen = 79
letter CorrectedClose = 88
letter Silent = 46

again : (r : Row) → row_lettered (letter r) ≡ r
again Regular = refl
again FirstLast = refl
again VolumeOnly = refl
again OfficialClose = refl
again OfficialOpen = refl
again CorrectedClose = refl
again Silent = refl

-- the program's table
letters : List ℕ
letters = codes "................................R................R..FRRV.X......RRRVR.RFVV.RRCVRFOVRVVVVRRF....................................................................................................................................................................."

rule : ℕ → ℕ
rule b = letter (row_of b)

pub returns : goal.returns
unfolding row_of rule letters
returns c =
    c.row_lettered.ensures
    ∙ ap row_lettered (by_table rule letters refl c.args.byte (search rules))
    ∙ again (row_of c.args.byte)
