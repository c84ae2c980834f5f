-- The market of a practice day: its securities and its lines.
use Rattle.std.specs.Prelude.{◌≡◌, ℕ, ◌≤◌, Bool, true, false, not, ◌&&◌, List, [], ◌∷◌, length, Some, None, Option, ◌==◌, slice_get}
use Rattle.std.specs.List.{list_all}
use Rattle.cuts.specs.Cut.{has}
use Rattle.lists.specs.ListRows.{ascends, among}

-- each symbol stands before the next
abbrev pub ascend_from : Option (List ℕ) → List (List ℕ) → Bool
ascend_from before [] = true
ascend_from before (symbol ∷ symbols) = ascends before symbol && ascend_from (Some symbol) symbols

abbrev pub distinct : List (List ℕ) → Bool
distinct [] = true
distinct (text ∷ texts) = not (among text texts) && distinct texts

-- every text has so many bytes
abbrev pub all_long : ℕ → List (List ℕ) → Bool
all_long size texts = list_all (λ text. length text == size) texts

-- no text has the byte
abbrev pub none_has : ℕ → List (List ℕ) → Bool
none_has byte texts = list_all (λ text. not (has byte text)) texts

-- the symbols of a market: 1 to 256, ascending, each of eleven bytes
abbrev pub SymbolList : List (List ℕ) → Type 0
SymbolList symbols = (1 ≤ length symbols) × (length symbols ≤ 256) × (ascend_from None symbols ≡ true) × (all_long 11 symbols ≡ true)

-- the originators of a market's lines: 1 to 16, none twice, each of two bytes
abbrev pub OriginatorList : List (List ℕ) → Type 0
OriginatorList originators = (1 ≤ length originators) × (length originators ≤ 16) × (distinct originators ≡ true) × (all_long 2 originators ≡ true)

-- the same of texts none of which has a comma (44), since a row is cut at its commas
abbrev pub PlainSymbolList : List (List ℕ) → Type 0
PlainSymbolList symbols = SymbolList symbols × (none_has 44 symbols ≡ true)

abbrev pub PlainOriginatorList : List (List ℕ) → Type 0
PlainOriginatorList originators = OriginatorList originators × (none_has 44 originators ≡ true)

-- what stands at an index, if anything does
abbrev pub at_index : List (List ℕ) → ℕ → Option (List ℕ)
at_index texts index = slice_get texts index

-- what is told has no comma
abbrev pub Commaless : Option (List ℕ) → Type 0
Commaless None = Unit {0}
Commaless (Some text) = has 44 text ≡ false
