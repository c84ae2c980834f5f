-- What is wrong with a line, in words for a person.
use Rattle.std.specs.Prelude.{ℕ, List, codes}
use Rattle.scripts.specs.declared.malformed.Malformed.{Malformed}
use Rattle.scripts.specs.declared.malformed.Malformed.TheVariants.{UnknownCall, WordCount, LineNumber, Time, Buffer, Hex, SymbolWord, Action}

abbrev pub words_of : Malformed → List ℕ
words_of UnknownCall = codes "no call has this name"
words_of WordCount = codes "this call has another number of words, parted by single spaces"
words_of LineNumber = codes "the line's number is no decimal number, or too large"
words_of Time = codes "the time is no decimal number below 2^64"
words_of Buffer = codes "the buffer is no decimal number up to 65535"
words_of Hex = codes "the frame is neither - nor an even number of hex digits"
words_of SymbolWord = codes "the symbol is not 1 to 11 visible bytes"
words_of Action = codes "the action is not halt, pause, quote or trade"
