-- What searches among rows and texts find.
use Rattle.std.proofs.Common.{◌≡◌, ℕ, Bool, true, false, ◌||◌, ltb, List, [], ◌∷◌, get_or, length, ◌++◌, reverse, slice_get, IfSome, Some, None, Option, is_some, Bor, sym, refl, ap, subst, ◌∙◌}
use Rattle.std.specs.List.{filter_map, last_or, list_any}
use Rattle.std.specs.Option.{option_copied, option_map}
use Rattle.std.specs.Str.{bytes_eq}
use Rattle.std.proofs.lemmas.Bool.{ltb-true, ltb-false}
use Rattle.std.proofs.lemmas.List.{reverse-append}
use Rattle.std.proofs.lemmas.List.Elements.{filter_map-append}
use Rattle.std.proofs.lemmas.Option.{slice_get_past, slice_get_read}
use Rattle.lists.specs.declared.list_row.ListRow.{ListRow}
use Rattle.lists.specs.declared.list_row.ListRow.TheVariants.{Security, Line}
use Rattle.lists.specs.ListRows.{among, latest, lines, securities, symbol_in}
use Rattle.lists.specs.Market.{at_index, Commaless, none_has}
use Rattle.lists.proofs.Commas.{at_plain}

-- an originator's row is found exactly where its originator is
pub line_found : (found : ListRow → Bool) (originator : List ℕ) → ((symbol : List ℕ) → found (Security symbol) ≡ false) → ((other : List ℕ) → found (Line other) ≡ bytes_eq other originator) → (rows : List ListRow) → list_any found rows ≡ among originator (lines rows)
line_found found originator apart alike [] = refl
line_found found originator apart alike (Security symbol ∷ rows) = ap (λ b. b || list_any found rows) (apart symbol) ∙ line_found found originator apart alike rows
line_found found originator apart alike (Line other ∷ rows) =
    ap (λ b. b || list_any found rows) (alike other) ∙ ap (λ b. bytes_eq other originator || b) (line_found found originator apart alike rows)

-- the first of some texts, or else another
abbrev head_or : Option (List ℕ) → List (List ℕ) → Option (List ℕ)
head_or other [] = other
head_or other (text ∷ texts) = Some text

head_append : (other : Option (List ℕ)) (some more : List (List ℕ)) → head_or other (some ++ more) ≡ head_or (head_or other more) some
head_append other [] more = refl
head_append other (text ∷ some) more = refl

head_got : (texts : List (List ℕ)) → slice_get texts 0 ≡ head_or None texts
head_got [] = refl
head_got (text ∷ texts) = refl

-- the first symbol from the last row on is the last symbol
last_by : (other : Option (List ℕ)) (rows : List ListRow) → head_or other (filter_map symbol_in (reverse rows)) ≡ last_or other (filter_map symbol_in rows)
last_by other [] = refl
last_by other (Security symbol ∷ rows) =
    ap (λ r. head_or other (filter_map symbol_in r)) (reverse-append (Security symbol ∷ []) rows)
    ∙ ap (head_or other) (filter_map-append symbol_in (reverse rows) (Security symbol ∷ []))
    ∙ head_append other (filter_map symbol_in (reverse rows)) (symbol ∷ [])
    ∙ last_by (Some symbol) rows
last_by other (Line originator ∷ rows) =
    ap (λ r. head_or other (filter_map symbol_in r)) (reverse-append (Line originator ∷ []) rows)
    ∙ ap (head_or other) (filter_map-append symbol_in (reverse rows) (Line originator ∷ []))
    ∙ head_append other (filter_map symbol_in (reverse rows)) []
    ∙ last_by other rows

pub last_found : (rows : List ListRow) → slice_get (filter_map symbol_in (reverse rows)) 0 ≡ latest None (securities rows)
last_found rows = head_got (filter_map symbol_in (reverse rows)) ∙ last_by None rows

-- a look-up by index
looked_up : (xs : List (List ℕ)) (i : ℕ) (r : Option (Bor (List ℕ))) → is_some r ≡ ltb i (length xs) → IfSome r (λ x. x.now ≡ get_or xs i x.now) → option_copied r ≡ at_index xs i
looked_up xs i None known item = sym (slice_get_past xs i (ltb-false i (length xs) (sym known)))
looked_up xs i (Some x) known item = sym (slice_get_read xs (length xs) i x.now refl (ltb-true i (length xs) (sym known)) item)

-- tells no comma where no text has one
pub plain_up : (xs : List (List ℕ)) (i : ℕ) (r : Option (Bor (List ℕ))) → is_some r ≡ ltb i (length xs) → IfSome r (λ x. x.now ≡ get_or xs i x.now) → none_has 44 xs ≡ true → Commaless (option_copied r)
plain_up xs i r known item none = subst Commaless (sym (looked_up xs i r known item)) (at_plain xs i none)

pub unmapped : (r : Option (List ℕ)) → r ≡ option_map (λ text. text) r
unmapped None = refl
unmapped (Some text) = refl
