-- The lines of a script: its parts at bytes 10. Past the last byte 10, no bytes are no line.
use Rattle.std.specs.Prelude.{◌≡◌, ℕ, ◌<◌, cond, List, [], ◌∷◌, length, ◌==◌, Option, MatchOption}
use Rattle.std.specs.Borrow.{Bor}
use Rattle.cuts.specs.Cut.{parts, first_part, past}

unfoldable pub lines_by : List (List ℕ) → List (List ℕ)
lines_by [] = []
lines_by (tail ∷ []) = cond (length tail == 0) [] (tail ∷ [])
lines_by (line ∷ next ∷ more) = line ∷ lines_by (next ∷ more)

abbrev pub lines_of : List ℕ → List (List ℕ)
lines_of script = lines_by (parts 10 script)

-- a script that begins with a line, and goes on with the rest
pub record Opens (script line rest : List ℕ) : Type 0 where
  pub front : line ≡ first_part 10 script
  pub behind : rest ≡ past 10 script
  pub lines : lines_of script ≡ line ∷ lines_of rest
  pub shorter : length rest < length script

-- the next line of a script, and what is then left; none at the script's end
abbrev pub GivesLine : List ℕ → Option (Bor (List ℕ)) → List ℕ → Type 0
GivesLine script line rest = MatchOption line ((script ≡ []) × (rest ≡ [])) (λ first. Opens script first.now rest)
