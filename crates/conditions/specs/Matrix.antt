-- The sale condition matrix: the bytes of each row, what they say, and a byte's row.
use Rattle.std.specs.Prelude.{ℕ, Bool, false, cond, ◌||◌, List, [], ◌∷◌, codes, ◌==◌}
use Rattle.conditions.specs.declared.matrix.Effects.{Effects}
use Rattle.conditions.specs.declared.matrix.Row.{Row}
use Rattle.conditions.specs.declared.matrix.Row.TheVariants.{Regular, FirstLast, VolumeOnly, OfficialClose, OfficialOpen, CorrectedClose, Silent}
use Rattle.conditions.specs.declared.matrix.Says.{Says}
use Rattle.conditions.specs.declared.matrix.Says.TheVariants.{Yes, First, No}

-- to the consolidated high and low, the consolidated last, the market center's high and low, its last, and the volume
abbrev pub in_columns : Says → Says → Says → Says → Says → Effects
in_columns a b c d e = record {
  consolidated_high_low = a;
  consolidated_last = b;
  center_high_low = c;
  center_last = d;
  volume = e;
}

abbrev pub bytes_in : Row → List ℕ
bytes_in Regular = codes "@ABDFKLOSXY156 "
bytes_in FirstLast = codes "GPZ4"
bytes_in VolumeOnly = codes "CHINRTUVW7"
bytes_in OfficialClose = codes "M"
bytes_in OfficialOpen = codes "Q"
bytes_in CorrectedClose = codes "9"
bytes_in Silent = codes "E8"

abbrev pub effects_in : Row → Effects
effects_in Regular = in_columns Yes Yes Yes Yes Yes
effects_in FirstLast = in_columns Yes First Yes First Yes
effects_in VolumeOnly = in_columns No No No No Yes
effects_in OfficialClose = in_columns No No Yes Yes No
effects_in OfficialOpen = in_columns No No Yes No No
effects_in CorrectedClose = in_columns Yes Yes No No No
effects_in Silent = in_columns No No No No No

abbrev pub rows : List Row
rows = Regular ∷ FirstLast ∷ VolumeOnly ∷ OfficialClose ∷ OfficialOpen ∷ CorrectedClose ∷ Silent ∷ []

abbrev pub among : ℕ → List ℕ → Bool
among b [] = false
among b (c ∷ cs) = b == c || among b cs

-- the first row that has the byte; a byte that no row has says No to everything
abbrev pub first_row : List Row → ℕ → Row
first_row [] b = Silent
first_row (r ∷ rs) b = cond (among b (bytes_in r)) r (first_row rs b)

unfoldable pub row_of : ℕ → Row
row_of b = first_row rows b

abbrev pub byte_effects : ℕ → Effects
byte_effects b = effects_in (row_of b)

-- the rows by their letters; the program keeps a letter for each byte
abbrev pub row_lettered : ℕ → Row
row_lettered l =
    cond (among l (codes "R")) Regular
    (cond (among l (codes "F")) FirstLast
    (cond (among l (codes "V")) VolumeOnly
    (cond (among l (codes "C")) OfficialClose
    (cond (among l (codes "O")) OfficialOpen
    (cond (among l (codes "X")) CorrectedClose Silent)))))
