-- A sheet as a plain record, and what an entry makes of it.
use Rattle.std.specs.Prelude.{ℕ, ◌+◌, min, max, Bool, Some, None, Option}
use Rattle.stats.specs.declared.entry.Entry.{Entry}
use Rattle.conditions.specs.declared.matrix.Says.{Says}
use Rattle.conditions.specs.declared.matrix.Says.TheVariants.{Yes, First, No}
use Rattle.stats.specs.declared.plain_sheet.PlainSheet.{PlainSheet}
use Rattle.stats.specs.Spans.{spans}

abbrev pub sound : {L : Type 0} → PlainSheet L → Bool
sound s = spans s.high s.low

abbrev pub empty_sheet : {L : Type 0} → PlainSheet L
empty_sheet = record { high = None; low = None; last = None; volume = 0 }

-- the higher of two prices, either of which may be absent
abbrev pub higher : Option ℕ → Option ℕ → Option ℕ
higher None q = q
higher (Some p) None = Some p
higher (Some p) (Some q) = Some (max p q)

abbrev pub lower : Option ℕ → Option ℕ → Option ℕ
lower None q = q
lower (Some p) None = Some p
lower (Some p) (Some q) = Some (min p q)

-- the first of two that is there
abbrev pub or_else : {X : Type 0} → Option X → Option X → Option X
or_else (Some x) o = Some x
or_else None o = o

-- Yes sets the last; First sets it only where there is none
abbrev pub last_after : {L : Type 0} → Says → Option L → L → Option L
last_after Yes old new = Some new
last_after First old new = or_else old (Some new)
last_after No old new = old

abbrev pub noted : {L : Type 0} → PlainSheet L → Entry L → PlainSheet L
noted s e = record {
  high = higher s.high e.spanned;
  low = lower s.low e.spanned;
  last = last_after e.says s.last e.last;
  volume = s.volume + e.adds;
}
