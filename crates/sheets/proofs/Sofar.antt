-- The loop over the lines of a sheet, of whatever kind.
use Rattle.std.proofs.Common.{◌≡◌, ℕ, ◌+◌, ◌<◌, ◌≤◌, Bool, true, false, cond, List, [], ◌∷◌, ◌++◌, length, take, drop, set, Some, None, Ok, Err, Option, Result, sym, refl, ap, ◌∙◌, arith}
use Rattle.std.proofs.lemmas.List.{take_more_set, drop-set-lt, drop-drop, length-set, length-take-le, take-append-drop, nil_from_length}
use Rattle.sheets.specs.declared.fault.LineFault.TheVariants.{Unended}
use Rattle.sheets.specs.declared.fault.FieldFault.TheVariants.{Line}
use Rattle.sheets.specs.declared.fault.SheetFault.{SheetFault}
use Rattle.sheets.specs.declared.fault.SheetFault.TheVariants.{Field, Incomplete}
use Rattle.cuts.specs.Cut.{parts, first_part, has, past}
use Rattle.sheets.specs.Layers.{Rules, line_of, next_line, row_in, placed}
use Rattle.sheets.specs.Reading.{Outcome, ended, step, reading, sheet_of, table_after}
use Rattle.sheets.specs.Told.{answer_by, answer_of}
use Rattle.cuts.proofs.Cuts.{parts_next, parts_none, parts_some, past_shorter}

-- what is left of the text gives the whole outcome, and the slots past the rows are as they were
pub record Sofar {Row : Type 0} (rules : Rules Row) (text rest : List ℕ) (before table : List Row) (n : ℕ) : Type 0 where
  pub is : reading rules (length before) (take n table) (parts 10 rest) ≡ sheet_of rules (length before) text
  pub within : n ≤ length table
  pub long : length table ≡ length before
  pub kept : drop n table ≡ drop n before
  -- each row took a byte at least
  pub short : n + length rest ≤ length text

-- at an ended line the reading goes by what that line adds
line_first : {Row : Type 0} (rules : Rules Row) (slots : ℕ) (seen : List Row) (rest : List ℕ) (r : Result Row SheetFault) → has 10 rest ≡ true → placed rules slots seen (row_in rules (next_line rest)) ≡ r → reading rules slots seen (parts 10 rest) ≡ step r seen (λ rows. reading rules slots rows (parts 10 (past 10 rest)))
unfolding reading
line_first rules slots seen rest r h e =
    let line = first_part 10 rest in
    let more = parts_some 10 (past 10 rest) in
    let said : placed rules slots seen (row_in rules (line_of line)) ≡ r =
    ap (λ b. placed rules slots seen (row_in rules (cond b (line_of line) (Err Unended)))) (sym h) ∙ e in
    ap (reading rules slots seen) (parts_next 10 rest h)
    ∙ ap (λ ps. reading rules slots seen (line ∷ ps)) more.2
    ∙ ap (λ x. step x seen (λ rows. reading rules slots rows (more.0 ∷ more.1))) said
    ∙ ap (λ ps. step r seen (λ rows. reading rules slots rows ps)) (sym more.2)

tail_left : {Row : Type 0} (rules : Rules Row) (seen : List Row) (rest : List ℕ) → 0 < length rest → ended rules seen rest ≡ record { rows = seen; fault = Some (Field (Line Unended)) }
tail_left rules seen [] h = absurd (omega arith)
tail_left rules seen (b ∷ bs) h = refl

stops : {Row : Type 0} (rules : Rules Row) (slots : ℕ) (seen : List Row) (rest : List ℕ) (f : SheetFault) (b : Bool) → has 10 rest ≡ b → 0 < length rest → placed rules slots seen (row_in rules (next_line rest)) ≡ Err f → reading rules slots seen (parts 10 rest) ≡ record { rows = seen; fault = Some f }
unfolding reading
stops rules slots seen rest f true h some e = line_first rules slots seen rest (Err f) h e
stops {Row} rules slots seen rest f false h some e =
    let none : ◌≡◌ {A = Result Row SheetFault} (Err (Field (Line Unended))) (Err f) =
    ap (λ b. placed rules slots seen (row_in rules (cond b (line_of (first_part 10 rest)) (Err Unended)))) (sym h) ∙ e in
    let same : Field (Line Unended) ≡ f = cc in
    ap (reading rules slots seen) (parts_none 10 rest h)
    ∙ tail_left rules seen rest some
    ∙ ap (λ x. record { rows = seen; fault = Some x }) same

-- one row more
pub sofar_more : {Row : Type 0} {rules : Rules Row} {text rest : List ℕ} {before table : List Row} {n : ℕ} → Sofar rules text rest before table n → (row : Row) (left : List ℕ) → n < length table → left ≡ past 10 rest → has 10 rest ≡ true → placed rules (length before) (take n table) (row_in rules (next_line rest)) ≡ Ok row → Sofar rules text left before (set table n row) (n + 1)
sofar_more {Row} {rules} {text} {rest} {before} {table} {n} s row left h l b said =
    record {
      is = ap (λ u. reading rules (length before) (take (n + 1) (set table n row)) (parts 10 u)) l
          ∙ ap (λ u. reading rules (length before) u (parts 10 (past 10 rest))) (take_more_set table n row h)
          ∙ sym (line_first rules (length before) (take n table) rest (Ok row) b said)
          ∙ s.is;
      within = simp length-set (omega arith);
      long = length-set table n row ∙ s.long;
      kept = drop-set-lt (n + 1) table n row (omega arith) ∙ sym (drop-drop 1 n table) ∙ ap (drop 1) s.kept ∙ drop-drop 1 n before;
      short = omega (arith, past_shorter 10 rest b, ap length l, s.short);
    }

-- what the caller gets where the reading ends
pub record Ends {Row : Type 0} (rules : Rules Row) (text : List ℕ) (before table : List Row) (n : ℕ) (fault : Option SheetFault) : Type 0 where
  pub answer : answer_by fault n ≡ answer_of (sheet_of rules (length before) text)
  pub rows : table ≡ table_after (sheet_of rules (length before) text) before

ends : {Row : Type 0} {rules : Rules Row} {text rest : List ℕ} {before table : List Row} {n : ℕ} → Sofar rules text rest before table n → (fault : Option SheetFault) → reading rules (length before) (take n table) (parts 10 rest) ≡ record { rows = take n table; fault = fault } → Ends rules text before table n fault
ends {Row} {rules} {text} {rest} {before} {table} {n} s fault e =
    let o : ◌≡◌ {A = Outcome Row} (record { rows = take n table; fault = fault }) (sheet_of rules (length before) text) = sym e ∙ s.is in
    let l : length (take n table) ≡ n = length-take-le n table s.within in
    record {
      answer = ap (answer_by fault) (sym l) ∙ ap answer_of o;
      rows = sym (take-append-drop n table) ∙ ap (λ u. take n table ++ u) s.kept ∙ ap (λ k. take n table ++ drop k before) (sym l) ∙ ap (λ u. table_after u before) o;
    }

-- at a fault of the next line
pub ends_at : {Row : Type 0} {rules : Rules Row} {text rest : List ℕ} {before table : List Row} {n : ℕ} → Sofar rules text rest before table n → (f : SheetFault) → 0 < length rest → placed rules (length before) (take n table) (row_in rules (next_line rest)) ≡ Err f → Ends rules text before table n (Some f)
ends_at {Row} {rules} {text} {rest} {before} {table} {n} s f some said =
    ends s (Some f) (stops rules (length before) (take n table) rest f (has 10 rest) refl some said)

-- where no byte is left
pub ends_whole : {Row : Type 0} {rules : Rules Row} {text rest : List ℕ} {before table : List Row} {n : ℕ} → Sofar rules text rest before table n → length rest ≡ 0 → (b : Bool) → rules.whole (take n table) ≡ b → Ends rules text before table n (cond b None (Some Incomplete))
unfolding reading
ends_whole {Row} {rules} {text} {rest} {before} {table} {n} s e b w =
    ends s (cond b None (Some Incomplete))
    (ap (λ u. reading rules (length before) (take n table) (parts 10 u)) (nil_from_length rest e)
    ∙ ap (λ x. record { rows = take n table; fault = cond x None (Some Incomplete) }) w)
