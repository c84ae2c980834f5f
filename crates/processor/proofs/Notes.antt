-- A sheet that could be noted is the noted one.
use Rattle.std.proofs.Common.{◌≡◌, ℕ, Bool, true, false, cond, Some, None, arith}
use Rattle.noting.specs.Noting.{can_note, noted_if}
use Rattle.stats.specs.Plain.{noted}
use Rattle.stats.specs.declared.entry.Entry.{Entry}
use Rattle.stats.specs.declared.plain_sheet.PlainSheet.{PlainSheet}

some_by : {X : Type 0} (b : Bool) (x y : X) → Some x ≡ cond b (Some y) None → x ≡ y
some_by true x y e = cc
some_by false x y e = let z : ◌≡◌ {A = ℕ} 0 1 = cc in absurd (omega arith)

pub noted_some : {L : Type 0} (plain after : PlainSheet L) (entry : Entry L) → Some after ≡ noted_if plain entry → after ≡ noted plain entry
noted_some plain after entry e = some_by (can_note plain entry) after (noted plain entry) e
