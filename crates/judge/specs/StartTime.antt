-- A time as a word on the command line.
use Rattle.std.specs.Prelude.{◌≡◌, ℕ, ◌^◌, ◌<◌, List, Some, None, decimal, Option, ◌≢◌}

-- the number whose decimal text the word is; none where it is the text of no number of 64 bits
abbrev pub ReadsTime : List ℕ → Option ℕ → Type 0
ReadsTime word (Some n) = (n < 2 ^ 64) × (word ≡ decimal n)
ReadsTime word None = (n : ℕ) → n < 2 ^ 64 → word ≢ decimal n
