-- What holds of the day that the processor holds, before and after each call.
use Rattle.std.specs.Prelude.{◌≡◌, ℕ, ◌<◌, true, IfSome, Option}
use Rattle.stats.specs.Plain.{sound}
use Rattle.day.specs.Laws.{Bounded, center_at, sheet_at}
use Rattle.day.specs.LineCalls.{frame_limit}
use Rattle.day.specs.State.{Day, line_count, line_of, security_count}

pub record Kept (d : Day) : Type 0 where
  pub bounded : Bounded d
  pub centers : (line place : ℕ) → line < line_count d.market → place < security_count d.market → sound (center_at d place line) ≡ true
  pub sheets : (place : ℕ) → place < security_count d.market → sound (sheet_at d place) ≡ true

-- a line and a security of the list
pub record AtPlace (d : Day) (line security : ℕ) : Type 0 where
  pub line_listed : line < line_count d.market
  pub security_listed : security < security_count d.market

-- a line of the list, on such a day
pub record OnLine (d : Day) (line : ℕ) : Type 0 where
  pub line_listed : line < line_count d.market
  pub kept : Kept d

-- with a security of the list
pub record OnSecurity (d : Day) (line security : ℕ) : Type 0 where
  pub line_listed : line < line_count d.market
  pub security_listed : security < security_count d.market
  pub kept : Kept d

-- with the place that a frame names, if it names one
pub record OnPlace (d : Day) (line : ℕ) (place : Option ℕ) : Type 0 where
  pub line_listed : line < line_count d.market
  pub place_listed : IfSome place (λ security. security < security_count d.market)
  pub kept : Kept d

-- the line may consume one more frame
abbrev pub FramesLeft : Day → ℕ → Type 0
FramesLeft d line = (line_of line d).status.consumed < frame_limit
