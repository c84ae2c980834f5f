-- What a line of a script calls for.
use Rattle.std.specs.Prelude.{ℕ, Bool, cond, ◌||◌, List, length, Some, None, Ok, Err, Option, Result, ◌==◌, slice_index}
use Rattle.scripts.specs.declared.call_name.CallName.{CallName}
use Rattle.scripts.specs.declared.call_name.CallName.TheVariants as name
use Rattle.scripts.specs.declared.malformed.Malformed.{Malformed}
use Rattle.scripts.specs.declared.malformed.Malformed.TheVariants.{UnknownCall}
use Rattle.scripts.specs.declared.script_call.Request.{Request}
use Rattle.scripts.specs.Asked.{Asked, log_in, send, inquire, hang_up, open_day, close_day, post, center_sheet, consolidated_sheet}
use Rattle.scripts.specs.CallName.{name_in}
use Rattle.scripts.specs.Word.{word_of, word_count}
use Rattle.scripts.specs.WordForm.{counted, and_then, line_word, ticket_word, time_word, buffer_word, frame_word, symbol_word, action_word}

-- `login LINE`
abbrev pub log_in_of : List ℕ → Result Asked Malformed
log_in_of line = counted 2 line (and_then (line_word (word_of 1 line)) (λ number. Ok (log_in number)))

-- the words `LINE TIME BUFFER` past the name
abbrev pub request_of : List ℕ → Result Request Malformed
request_of line =
    and_then (ticket_word (word_of 1 line)) (λ number.
    and_then (time_word (word_of 2 line)) (λ time.
    and_then (buffer_word (word_of 3 line)) (λ buffer.
    Ok (record { line = number; time = time; buffer = buffer }))))

-- `send LINE TIME BUFFER HEX`
abbrev pub send_of : List ℕ → Result Asked Malformed
send_of line =
    counted 5 line
    (and_then (ticket_word (word_of 1 line)) (λ number.
    and_then (time_word (word_of 2 line)) (λ time.
    and_then (buffer_word (word_of 3 line)) (λ buffer.
    frame_word (word_of 4 line) (Ok (send number time buffer (word_of 4 line)))))))

-- `inquire LINE TIME BUFFER SYMBOL`
abbrev pub inquire_of : List ℕ → Result Asked Malformed
inquire_of line =
    counted 5 line
    (and_then (ticket_word (word_of 1 line)) (λ number.
    and_then (time_word (word_of 2 line)) (λ time.
    and_then (buffer_word (word_of 3 line)) (λ buffer.
    and_then (symbol_word (word_of 4 line)) (λ symbol.
    Ok (inquire number time buffer symbol))))))

-- `hangup LINE`
abbrev pub hang_up_of : List ℕ → Result Asked Malformed
hang_up_of line = counted 2 line (and_then (ticket_word (word_of 1 line)) (λ number. Ok (hang_up number)))

-- `open` and `close`
abbrev pub open_of : List ℕ → Result Asked Malformed
open_of line = counted 1 line (Ok open_day)

abbrev pub close_of : List ℕ → Result Asked Malformed
close_of line = counted 1 line (Ok close_day)

-- `post SYMBOL ACTION`
abbrev pub post_of : List ℕ → Result Asked Malformed
post_of line =
    counted 3 line
    (and_then (symbol_word (word_of 1 line)) (λ symbol.
    and_then (action_word (word_of 2 line)) (λ action.
    Ok (post symbol action))))

-- `sheet LINE SYMBOL` and `sheet SYMBOL`
abbrev pub center_sheet_of : List ℕ → Result Asked Malformed
center_sheet_of line =
    counted 3 line
    (and_then (line_word (word_of 1 line)) (λ number.
    and_then (symbol_word (word_of 2 line)) (λ symbol.
    Ok (center_sheet number symbol))))

abbrev pub sheet_of : List ℕ → Result Asked Malformed
sheet_of line =
    cond (word_count line == 2) (and_then (symbol_word (word_of 1 line)) (λ symbol. Ok (consolidated_sheet symbol))) (center_sheet_of line)

-- a call by its name
abbrev pub call_by : Option CallName → List ℕ → Result Asked Malformed
call_by None line = Err UnknownCall
call_by (Some name.LogIn) line = log_in_of line
call_by (Some name.Send) line = send_of line
call_by (Some name.Inquire) line = inquire_of line
call_by (Some name.HangUp) line = hang_up_of line
call_by (Some name.Open) line = open_of line
call_by (Some name.Close) line = close_of line
call_by (Some name.Post) line = post_of line
call_by (Some name.Sheet) line = sheet_of line

abbrev pub call_of : List ℕ → Result Asked Malformed
call_of line = call_by (name_in (word_of 0 line)) line

-- an empty line, and one that begins with # (35)
abbrev pub passed_over : List ℕ → Bool
passed_over line = length line == 0 || slice_index line 0 == 35

abbrev pub perhaps : {X : Type 0} → Result X Malformed → Result (Option X) Malformed
perhaps (Ok x) = Ok (Some x)
perhaps (Err fault) = Err fault

-- the call that a line is, or none where the line is passed over
abbrev pub call_in : List ℕ → Result (Option Asked) Malformed
call_in line = cond (passed_over line) (Ok None) (perhaps (call_of line))
