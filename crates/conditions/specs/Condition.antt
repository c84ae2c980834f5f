-- A sale condition of four bytes.
use Rattle.std.specs.Prelude.{ℕ, Bool, true, false, not, ◌||◌, List, slice_index}
use Rattle.conditions.specs.declared.matrix.Effects.{Effects}
use Rattle.conditions.specs.declared.matrix.Says.{Says}
use Rattle.conditions.specs.declared.matrix.Says.TheVariants.{Yes, First, No}
use Rattle.conditions.specs.Matrix.{in_columns, byte_effects}

-- No beats First, and First beats Yes
abbrev pub beats : Says → Says → Says
beats Yes s = s
beats First Yes = First
beats First First = First
beats First No = No
beats No s = No

abbrev pub together : Effects → Effects → Effects
together a b =
    in_columns
    (beats a.consolidated_high_low b.consolidated_high_low)
    (beats a.consolidated_last b.consolidated_last)
    (beats a.center_high_low b.center_high_low)
    (beats a.center_last b.center_last)
    (beats a.volume b.volume)

-- what four bytes say together
unfoldable pub four_effects : ℕ → ℕ → ℕ → ℕ → Effects
four_effects a b c d = together (together (byte_effects a) (byte_effects b)) (together (byte_effects c) (byte_effects d))

abbrev pub condition_effects : List ℕ → Effects
condition_effects c = four_effects (slice_index c 0) (slice_index c 1) (slice_index c 2) (slice_index c 3)

abbrev pub is_yes : Says → Bool
is_yes Yes = true
is_yes First = false
is_yes No = false

abbrev pub is_no : Says → Bool
is_no Yes = false
is_no First = false
is_no No = true

abbrev pub bars_volume : ℕ → Bool
bars_volume b = is_no (byte_effects b).volume

-- a condition counts for volume if no byte of it says No to volume
abbrev pub none_bars : ℕ → ℕ → ℕ → ℕ → Bool
none_bars a b c d = not ((bars_volume a || bars_volume b) || (bars_volume c || bars_volume d))

abbrev pub counted : List ℕ → Bool
counted c = not (is_no (condition_effects c).volume)
