-- A field is the part of a frame between two offsets.
use Rattle.std.specs.Prelude.{ℕ, ◌-◌, List, take, drop}

-- the bytes from one offset on, up to another
abbrev pub part : ℕ → ℕ → List ℕ → List ℕ
part from to frame = take (to - from) (drop from frame)
