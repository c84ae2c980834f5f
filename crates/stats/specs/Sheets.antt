-- A sheet's values.
use Rattle.stats.specs.declared.plain_sheet.PlainSheet.{PlainSheet}
use Rattle.stats.specs.declared.sheet.Sheet.{Sheet}

abbrev pub plain_of : {L : Type 0} → Sheet L → PlainSheet L
plain_of s = s.plain
