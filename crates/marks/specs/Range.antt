-- A range of securities by their symbols.
use Rattle.std.specs.Prelude.{ℕ, Bool, not, ◌&&◌, List}
use Rattle.text.specs.Symbol.{precedes}
use Rattle.marks.specs.declared.range.SymbolRange.{SymbolRange}

-- from the first to the last, both included
abbrev pub in_range : SymbolRange → List ℕ → Bool
in_range range symbol = not (precedes symbol range.first) && not (precedes range.last symbol)
