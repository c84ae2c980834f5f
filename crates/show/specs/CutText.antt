-- Where a recording stops short, in words for people.
use Rattle.std.specs.Prelude.{ℕ, List, ◌++◌, codes, decimal}
use Rattle.wire.specs.declared.frames.CutShort.{CutShort}
use Rattle.wire.specs.declared.recording.Cut.{Cut}
use Rattle.wire.specs.declared.recording.Cut.TheVariants.{InLength, InFrame}

-- what a recording ends inside; the byte at which that begins is told after it
abbrev pub cut_words : Cut → List ℕ
cut_words InLength = codes "the length that begins"
cut_words InFrame = codes "the frame whose length stands"

abbrev pub cut_text : CutShort → List ℕ
cut_text short = codes "the recording ends inside " ++ cut_words short.cut ++ codes " at byte " ++ decimal short.at
