-- A report entered on a sheet that is kept as a plain record.
use Rattle.std.specs.Prelude.{◌+◌, ◌^◌, Bool, cond, ◌&&◌, Some, None, Option, nat_lt}
use Rattle.stats.specs.Plain.{noted, sound}
use Rattle.stats.specs.declared.entry.Entry.{Entry}
use Rattle.stats.specs.declared.plain_sheet.PlainSheet.{PlainSheet}

-- whether the record is that of a sheet, and its volume has room for what is added
abbrev pub can_note : {L : Type 0} → PlainSheet L → Entry L → Bool
can_note plain entry = sound plain && nat_lt (plain.volume + entry.adds) (2 ^ 64)

abbrev pub noted_if : {L : Type 0} → PlainSheet L → Entry L → Option (PlainSheet L)
noted_if plain entry = cond (can_note plain entry) (Some (noted plain entry)) None
