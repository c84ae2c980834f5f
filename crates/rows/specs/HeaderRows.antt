-- The rows that every kind of frame has before its own.
use Rattle.std.specs.Prelude.{ℕ, List, [], ◌∷◌, ◌++◌, map, nat_le}
use Rattle.std.specs.Str.{bytes_eq}
use Rattle.verdicts.specs.declared.code.Code.TheVariants.{Header}
use Rattle.verdicts.specs.declared.row.Row.TheVariants.{Originator, FeedSequence}
use Rattle.verdicts.specs.declared.row.Row.TheVariants as row
use Rattle.wire.specs.Header.{Asked as HeaderAsked, asked_of}
use Rattle.wire.specs.Number.{value_of}
use Rattle.wire.specs.Part.{part}
use Rattle.rows.specs.Asked.{Asked, cut_unless, pass_unless}
use Rattle.rows.specs.declared.context.Context.{Context}

-- a frame that cannot be read as its kind cuts the line
abbrev pub cutting : HeaderAsked → Asked
cutting asked = cut_unless asked.holds Header (row.Header asked.row)

-- the number of a frame on its line
abbrev pub sequence_of : List ℕ → ℕ
sequence_of frame = value_of (part 13 21 frame)

-- the originator is the line's, and the feed sequence is the expected one: a frame with a lower one was there before and is passed
-- over, a higher one cuts the line
abbrev pub line_rows : Context → List ℕ → List Asked
line_rows context frame =
    cut_unless (bytes_eq (part 3 5 frame) context.originator) Header Originator
    ∷ pass_unless (nat_le context.expected_sequence (sequence_of frame))
    ∷ cut_unless (nat_le (sequence_of frame) context.expected_sequence) Header FeedSequence
    ∷ []

-- top to bottom
abbrev pub header_rows : List ℕ → ℕ → Context → List ℕ → List Asked
header_rows letters size context frame = map cutting (asked_of letters size frame) ++ line_rows context frame
