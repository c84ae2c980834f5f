-- A text cut at a separator, as a sheet is cut into lines and a line into fields.
use Rattle.std.specs.Prelude.{ℕ, ◌-◌, Bool, List, [], ◌∷◌, length, Some, None, Option, ◌==◌, slice_index_or}
use Rattle.std.specs.List.{after_first, before_first, list_any, slice_split}

-- the parts of a text: one more than it has separators
abbrev pub parts : ℕ → List ℕ → List (List ℕ)
parts sep text = slice_split (λ b. b == sep) text

abbrev pub has : ℕ → List ℕ → Bool
has sep text = list_any (λ b. b == sep) text

-- the bytes before the first separator; all where there is none
abbrev pub first_part : ℕ → List ℕ → List ℕ
first_part sep text = before_first (λ b. b == sep) text

-- the bytes past the first separator; none where there is none
abbrev pub past : ℕ → List ℕ → List ℕ
past sep text = after_first (λ b. b == sep) text

-- a part of a text, counted from 0; empty where the text has fewer
abbrev pub part_at : ℕ → ℕ → List ℕ → List ℕ
part_at sep index text = slice_index_or (parts sep text) index []

-- a field of a line, counted from 1: fields are parted by commas (44)
abbrev pub field_of : ℕ → List ℕ → List ℕ
field_of number line = part_at 44 (number - 1) line

abbrev pub field_count : List ℕ → ℕ
field_count line = length (parts 44 line)

-- the byte of a field that is one byte long
abbrev pub only_byte : List ℕ → Option ℕ
only_byte [] = None
only_byte (b ∷ []) = Some b
only_byte (b ∷ c ∷ bs) = None
