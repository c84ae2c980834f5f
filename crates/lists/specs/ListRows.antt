-- The list sheet: rows `S,symbol` and `L,originator`, in any mix.
use Rattle.std.specs.Prelude.{ℕ, Bool, true, cond, not, ◌&&◌, List, length, Some, None, Ok, Err, Option, Result, ◌==◌, nat_le}
use Rattle.std.specs.List.{filter_map, last_or, list_any}
use Rattle.std.specs.Str.{bytes_eq}
use Rattle.text.specs.Symbol.{precedes}
use Rattle.sheets.specs.declared.fault.FieldFault.{FieldFault}
use Rattle.sheets.specs.declared.fault.FieldFault.TheVariants.{UnknownRow}
use Rattle.lists.specs.declared.list_row.ListRow.{ListRow}
use Rattle.lists.specs.declared.list_row.ListRow.TheVariants.{Security, Line}
use Rattle.cuts.specs.Cut.{field_of, only_byte}
use Rattle.sheets.specs.Layers.{Rules}
use Rattle.sheets.specs.Forms.{counted, and_then, symbol_field, originator_field}

abbrev pub security_row : List ℕ → Result ListRow FieldFault
security_row line = counted 2 line (and_then (symbol_field 2 line) (λ symbol. Ok (Security symbol)))

abbrev pub line_row : List ℕ → Result ListRow FieldFault
line_row line = counted 2 line (and_then (originator_field 2 line) (λ originator. Ok (Line originator)))

-- a row by its letter, S (83) or L (76)
abbrev pub list_row_by : Option ℕ → List ℕ → Result ListRow FieldFault
list_row_by None line = Err UnknownRow
list_row_by (Some letter) line = cond (letter == 83) (security_row line) (cond (letter == 76) (line_row line) (Err UnknownRow))

abbrev pub list_row : List ℕ → Result ListRow FieldFault
list_row line = list_row_by (only_byte (field_of 1 line)) line

-- what one row names
abbrev pub symbol_in : ListRow → Option (List ℕ)
symbol_in (Security symbol) = Some symbol
symbol_in (Line originator) = None

abbrev pub originator_in : ListRow → Option (List ℕ)
originator_in (Security symbol) = None
originator_in (Line originator) = Some originator

-- the symbols of the S rows, and the originators of the L rows, in order
abbrev pub securities : List ListRow → List (List ℕ)
securities rows = filter_map symbol_in rows

abbrev pub lines : List ListRow → List (List ℕ)
lines rows = filter_map originator_in rows

-- the last of some texts, or else the one before them
abbrev pub latest : Option (List ℕ) → List (List ℕ) → Option (List ℕ)
latest before texts = last_or before texts

abbrev pub ascends : Option (List ℕ) → List ℕ → Bool
ascends None symbol = true
ascends (Some before) symbol = precedes before symbol

abbrev pub among : List ℕ → List (List ℕ) → Bool
among text others = list_any (λ other. bytes_eq other text) others

-- a symbol that does not ascend from the one before it, or an originator that is there already
abbrev pub list_disordered : List ListRow → ListRow → Bool
list_disordered seen (Security symbol) = not (ascends (latest None (securities seen)) symbol)
list_disordered seen (Line originator) = among originator (lines seen)

-- at most 256 securities and 16 lines
abbrev pub list_beyond : List ListRow → ListRow → Bool
list_beyond seen (Security symbol) = nat_le 256 (length (securities seen))
list_beyond seen (Line originator) = nat_le 16 (length (lines seen))

-- a list has a security and a line at least
abbrev pub list_whole : List ListRow → Bool
list_whole seen = nat_le 1 (length (securities seen)) && nat_le 1 (length (lines seen))

abbrev pub list_rules : Rules ListRow
list_rules = record { row_of = list_row; disordered = list_disordered; beyond = list_beyond; whole = list_whole }
