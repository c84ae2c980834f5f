-- The head of every frame: a version, two letters that name the kind, and a length that the kind fixes.
use Rattle.std.specs.Prelude.{ℕ, Bool, cond, ◌&&◌, List, [], ◌∷◌, length, Some, None, Ok, Err, Option, Result, ◌==◌, nat_le, slice_index}
use Rattle.wire.specs.declared.header.HeaderRow.{HeaderRow}
use Rattle.wire.specs.declared.header.HeaderRow.TheVariants.{Version, Kind, Length}

-- a row's number in the table of header rows
abbrev pub header_number : HeaderRow → ℕ
header_number Version = 101
header_number Kind = 102
header_number Length = 103

-- one row: what has to hold, and the row that is told where it does not
pub record Asked : Type 0 where
  pub holds : Bool
  pub row : HeaderRow

abbrev pub first_failing : List Asked → Option HeaderRow
first_failing [] = None
first_failing (a ∷ rest) = cond a.holds (first_failing rest) (Some a.row)

-- what is asked of a frame of a kind, top to bottom: the version is the character 1, the kind's letters follow,
-- and the frame is as long as its kind
abbrev pub asked_of : List ℕ → ℕ → List ℕ → List Asked
asked_of letters size frame =
    record { holds = nat_le 3 (length frame) && (slice_index frame 0 == 49); row = Version }
    ∷ record { holds = slice_index frame 1 == slice_index letters 0 && (slice_index frame 2 == slice_index letters 1); row = Kind }
    ∷ record { holds = (length frame == size); row = Length }
    ∷ []

-- a value where no row fails, else the row
abbrev pub unless : {A : Type 0} → Option HeaderRow → A → Result A HeaderRow
unless None a = Ok a
unless (Some row) a = Err row
