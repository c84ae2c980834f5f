use Rattle.std.proofs.Common.{◌≡◌, ◌≤◌, length, take}
use Rattle.text.specs.Symbol.{text_of}
use Rattle.text.proofs.symbol.text_length.Given as goal

-- the bytes that were passed over are padding
abbrev pub invariant-loop-n : goal.invariant-loop-n
invariant-loop-n l = (l.n ≤ length l.symbol) × (text_of (take l.n l.symbol) ≡ text_of l.symbol)

abbrev pub decreases-loop-n : goal.decreases-loop-n
decreases-loop-n l = l.n
