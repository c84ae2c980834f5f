-- What a code book means.
use Rattle.std.specs.Prelude.{◌≡◌, ℕ, Bool, false, ◌||◌, List}
use Rattle.sheets.specs.declared.bucket.Bucket.{Bucket}
use Rattle.sheets.specs.declared.bucket.Bucket.TheVariants.{One, Two, Three, Four}

-- the exempt flags, the sides, the values of each bucket, and the pairs of a flag and a condition; a comma (44) is no flag, no side
-- and no value
pub record Sets : Type 0 where
  pub flags : ℕ → Bool
  pub sides : ℕ → Bool
  pub values : Bucket → ℕ → Bool
  pub pairs : ℕ → List ℕ → Bool
  pub no_comma_flag : flags 44 ≡ false
  pub no_comma_side : sides 44 ≡ false
  pub no_comma_value : (bucket : Bucket) → values bucket 44 ≡ false

-- a byte that is a value of some bucket
abbrev pub in_some_bucket : Sets → ℕ → Bool
in_some_bucket s b = s.values One b || (s.values Two b || (s.values Three b || s.values Four b))

-- a byte that is a flag, a side, or a value of some bucket
abbrev pub anywhere : Sets → ℕ → Bool
anywhere s b = s.flags b || (s.sides b || in_some_bucket s b)
