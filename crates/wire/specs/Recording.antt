-- A recording holds frames one after the other, each after its length in two bytes.
use Rattle.std.specs.Prelude.{ℕ, ◌+◌, cond, List, length, Ok, Err, Result, nat_le}
use Rattle.wire.specs.Number.{value_of}
use Rattle.wire.specs.Part.{part}
use Rattle.wire.specs.declared.recording.Cut.{Cut}
use Rattle.wire.specs.declared.recording.Cut.TheVariants.{InLength, InFrame}

-- the length in front of a frame
abbrev pub frame_length : List ℕ → ℕ
frame_length rest = value_of (part 0 2 rest)

-- the frame at the front of what is left of a recording, or where the recording is cut
abbrev pub front_frame : List ℕ → Result (List ℕ) Cut
front_frame rest =
    cond (nat_le 2 (length rest))
    (cond (nat_le (2 + frame_length rest) (length rest)) (Ok (part 2 (2 + frame_length rest) rest)) (Err InFrame))
    (Err InLength)
