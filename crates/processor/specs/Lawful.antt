-- What holds of a day at every point, as facts that have one proof at most: what a value's own invariant may be made of.
use Rattle.std.specs.Prelude.{◌≡◌, ℕ, ◌+◌, ◌*◌, ◌<◌, ◌≤◌, true, length, slice_index_or}
use Rattle.states.specs.SecurityStatus.{fresh_security}
use Rattle.stats.specs.Plain.{sound}
use Rattle.day.specs.Laws.{highest_volume, over_lines, sheet_at}
use Rattle.day.specs.LineCalls.{frame_limit, record_at}
use Rattle.day.specs.Operator.{action_limit}
use Rattle.day.specs.State.{Day, line_count, line_of, security_count}

-- a status for each line, a status and a sheet for each security, and a record for each line and security
abbrev pub Filled : Day → Type 0
Filled d =
    (length d.statuses ≡ line_count d.market)
    × (length d.market.securities ≡ security_count d.market)
    × (length d.sheets ≡ security_count d.market)
    × (line_count d.market * security_count d.market ≤ length d.records)

-- what each line of the list has consumed, and the feed sequence that follows
abbrev pub FewFrames : Day → Type 0
FewFrames d = (line : ℕ) → line < line_count d.market → ((line_of line d).status.consumed ≤ frame_limit) × ((line_of line d).status.expected_sequence ≡ (line_of line d).status.consumed + 1)

-- the records of each line of the list, by the frames that it consumed
abbrev pub FewIds : Day → Type 0
FewIds d = (line place : ℕ) → line < line_count d.market → (record_at (line_of line d).records place).next_trade_id ≤ (line_of line d).status.consumed + 1

abbrev pub SmallCenters : Day → Type 0
SmallCenters d = (line place : ℕ) → line < line_count d.market → (record_at (line_of line d).records place).sheet.volume ≤ (line_of line d).status.consumed * highest_volume

abbrev pub SoundCenters : Day → Type 0
SoundCenters d = (line place : ℕ) → line < line_count d.market → sound (record_at (line_of line d).records place).sheet ≡ true

abbrev pub FewPosted : Day → Type 0
FewPosted d = (place : ℕ) → (slice_index_or d.market.securities place fresh_security).posted ≤ action_limit

abbrev pub FewTaken : Day → Type 0
FewTaken d = d.serial ≤ over_lines (line_count d.market) (λ line. (line_of line d).status.consumed)

abbrev pub SmallSheets : Day → Type 0
SmallSheets d = (place : ℕ) → (sheet_at d place).volume ≤ d.serial * highest_volume

abbrev pub SoundSheets : Day → Type 0
SoundSheets d = (place : ℕ) → sound (sheet_at d place) ≡ true

pub record Lawful (d : Day) : Type 0 where
  pub filled : Filled d
  pub frames : FewFrames d
  pub ids : FewIds d
  pub centers : SmallCenters d
  pub sound_centers : SoundCenters d
  pub posted : FewPosted d
  pub serial : FewTaken d
  pub sheets : SmallSheets d
  pub sound_sheets : SoundSheets d
