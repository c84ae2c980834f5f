-- The frames of a recording, one after the other.
use Rattle.std.specs.Prelude.{◌≡◌, ℕ, ◌+◌, ◌-◌, cond, List, length, drop, Some, None, Ok, Err, Option, Result, nat_lt}
use Rattle.std.specs.Borrow.{Bor}
use Rattle.std.specs.Option.{option_map}
use Rattle.text.specs.Lent.{lent}
use Rattle.wire.specs.Recording.{front_frame}
use Rattle.wire.specs.declared.frames.CutShort.{CutShort}
use Rattle.wire.specs.declared.frames.Frames.{Frames}
use Rattle.wire.specs.declared.recording.Cut.{Cut}

-- a recording of which the frames are given from a byte on
pub record StartsAt (frames : Frames) (bytes : List ℕ) (start : ℕ) : Type 0 where
  pub recording : frames.recording.now ≡ bytes
  pub at : frames.at ≡ start

abbrev pub told_at : ℕ → Result (List ℕ) Cut → Result (List ℕ) CutShort
told_at at (Ok frame) = Ok frame
told_at at (Err cut) = Err (record { cut = cut; at = at })

-- what a recording has at a byte: the frame whose length begins there, or how it is cut; nothing at its end
abbrev pub item_at : List ℕ → ℕ → Option (Result (List ℕ) CutShort)
item_at recording at = cond (nat_lt at (length recording)) (Some (told_at at (front_frame (drop at recording)))) None

-- the byte at which the next item begins: past the frame and its length; past a cut it is the end
abbrev pub past_item : List ℕ → ℕ → Option (Result (List ℕ) CutShort) → ℕ
past_item recording at None = at
past_item recording at (Some (Ok frame)) = at + (2 + length frame)
past_item recording at (Some (Err short)) = length recording

abbrev pub bytes_left : Frames → ℕ
bytes_left frames = length frames.recording.now - frames.at

-- one call of `next`: what the recording has there, and the frames from the next item on
pub record GivesFrame (before : Frames) (given : Option (Result (Bor (List ℕ)) CutShort)) (after : Frames) : Type 0 where
  pub item : option_map lent given ≡ item_at before.recording.now before.at
  pub next : StartsAt after before.recording.now (past_item before.recording.now before.at (option_map lent given))
