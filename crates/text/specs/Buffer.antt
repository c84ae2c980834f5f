-- A text that is put into a buffer from an index on.
use Rattle.std.specs.Prelude.{ℕ, ◌+◌, cond, List, ◌++◌, length, take, drop, Some, None, Option, nat_le}

-- a buffer with a text over it from an index on
abbrev pub overwritten : List ℕ → ℕ → List ℕ → List ℕ
overwritten buffer at text = take at buffer ++ (text ++ drop (at + length text) buffer)

-- the index past a text, where the buffer has room for it
abbrev pub past_text : List ℕ → ℕ → List ℕ → Option ℕ
past_text buffer at text = cond (nat_le (at + length text) (length buffer)) (Some (at + length text)) None

-- the buffer after a text was put there, or as it was, where there is no room
abbrev pub with_text : List ℕ → ℕ → List ℕ → List ℕ
with_text buffer at text = cond (nat_le (at + length text) (length buffer)) (overwritten buffer at text) buffer
