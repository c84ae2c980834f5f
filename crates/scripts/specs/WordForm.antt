-- The forms of a call's words.
use Rattle.std.specs.Prelude.{ℕ, cond, List, Some, None, Ok, Err, codes, Option, Result, ◌==◌, nat_lt}
use Rattle.std.specs.Str.{bytes_eq}
use Rattle.sheets.specs.Forms.{symbol_by}
use Rattle.states.specs.declared.security_status.PostedAction.{PostedAction}
use Rattle.states.specs.declared.security_status.PostedAction.TheVariants.{Halt, Pause, Quote, Trade}
use Rattle.scripts.specs.declared.malformed.Malformed.{Malformed}
use Rattle.scripts.specs.declared.malformed.Malformed.TheVariants.{WordCount, LineNumber, Time, Buffer, Hex, SymbolWord, Action}
use Rattle.scripts.specs.Hex.{is_frame}
use Rattle.scripts.specs.Number.{number_in}
use Rattle.scripts.specs.Word.{word_count}

-- a line of so many words, and what it then is
abbrev pub counted : {X : Type 0} → ℕ → List ℕ → Result X Malformed → Result X Malformed
counted number line call = cond (word_count line == number) call (Err WordCount)

-- a word by its form: what it is, or what is wrong
abbrev pub formed : {X : Type 0} → Malformed → Option X → Result X Malformed
formed fault None = Err fault
formed fault (Some x) = Ok x

-- what follows of a word that has its form
abbrev pub and_then : {X Y : Type 0} → Result X Malformed → (X → Result Y Malformed) → Result Y Malformed
and_then (Ok x) next = next x
and_then (Err fault) next = Err fault

abbrev pub below : ℕ → Option ℕ → Option ℕ
below limit None = None
below limit (Some n) = cond (nat_lt n limit) (Some n) None

abbrev pub line_word : List ℕ → Result ℕ Malformed
line_word word = formed LineNumber (number_in word)

-- a ticket is of one of at most 16 lines
abbrev pub ticket_word : List ℕ → Result ℕ Malformed
ticket_word word = formed LineNumber (below 16 (number_in word))

abbrev pub time_word : List ℕ → Result ℕ Malformed
time_word word = formed Time (number_in word)

abbrev pub buffer_word : List ℕ → Result ℕ Malformed
buffer_word word = formed Buffer (below 65536 (number_in word))

-- a word that is a frame, and what then follows
abbrev pub frame_word : {X : Type 0} → List ℕ → Result X Malformed → Result X Malformed
frame_word word next = cond (is_frame word) next (Err Hex)

abbrev pub symbol_word : List ℕ → Result (List ℕ) Malformed
symbol_word word = formed SymbolWord (symbol_by word)

abbrev pub action_in : List ℕ → Option PostedAction
action_in word =
    cond (bytes_eq word (codes "halt")) (Some Halt)
    (cond (bytes_eq word (codes "pause")) (Some Pause)
    (cond (bytes_eq word (codes "quote")) (Some Quote)
    (cond (bytes_eq word (codes "trade")) (Some Trade)
    None)))

abbrev pub action_word : List ℕ → Result PostedAction Malformed
action_word word = formed Action (action_in word)
