-- What a high and a low say together.
use Rattle.std.specs.Prelude.{ℕ, Bool, true, false, Some, None, Option, nat_le}

-- both a high and a low, the low not above the high, or neither
abbrev pub spans : Option ℕ → Option ℕ → Bool
spans None None = true
spans None (Some low) = false
spans (Some high) None = false
spans (Some high) (Some low) = nat_le low high
