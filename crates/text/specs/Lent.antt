-- An answer that refers to a part of what was asked about, by what it refers to.
use Rattle.std.specs.Prelude.{ℕ, List, Ok, Err, Result}
use Rattle.std.specs.Borrow.{Bor}

abbrev pub lent : {E : Type 0} → Result (Bor (List ℕ)) E → Result (List ℕ) E
lent (Ok part) = Ok part.now
lent (Err e) = Err e
