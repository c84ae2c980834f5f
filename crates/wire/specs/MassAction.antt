-- The market center mass trading action: 60 bytes, kind AU.
use Rattle.std.specs.Prelude.{ℕ, List, codes, Result, slice_index}
use Rattle.wire.specs.Header.{asked_of, first_failing, unless}
use Rattle.wire.specs.Number.{value_of}
use Rattle.wire.specs.Part.{part}
use Rattle.wire.specs.declared.header.HeaderRow.{HeaderRow}
use Rattle.wire.specs.declared.mass_action.MassAction.{MassAction}

-- the fields of a frame, each at its offset
abbrev pub action_fields : List ℕ → MassAction
action_fields frame = record {
  originator = part 3 5 frame;
  timestamp1 = value_of (part 5 13 frame);
  feed_sequence = value_of (part 13 21 frame);
  participant_token = value_of (part 21 29 frame);
  first = part 29 40 frame;
  last = part 40 51 frame;
  action = slice_index frame 51;
  action_time = value_of (part 52 60 frame);
}

-- the fields where the frame is a mass trading action, else the first row of the header that fails
abbrev pub action_in : List ℕ → Result MassAction HeaderRow
action_in frame = unless (first_failing (asked_of (codes "AU") 60 frame)) (action_fields frame)
