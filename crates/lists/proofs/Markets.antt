-- The rows of a list sheet that is read to its end are a market.
use Rattle.std.proofs.Common.{◌≡◌, ℕ, ◌+◌, ◌-◌, ◌≤◌, Bool, true, false, cond, not, ◌&&◌, ◌||◌, eqb, leb, List, [], ◌∷◌, ◌++◌, length, replicate, IfSome, IfOk, Some, None, Ok, Err, Option, sym, refl, ap, ◌∙◌, subst, arith}
use Rattle.std.specs.List.{list_all}
use Rattle.std.specs.Str.{bytes_eq}
use Rattle.std.proofs.lemmas.Cmp.{nat_list_eq_equiv}
use Rattle.std.proofs.lemmas.List.Elements.{filter_map-append}
use Rattle.std.proofs.lemmas.List.Folds.{list_all-append, list_any-append}
use Rattle.std.proofs.lemmas.List.{append-nil, length-append, length_push, length-replicate}
use Rattle.std.proofs.lemmas.Result.{IfOk-at_ok}
use Rattle.std.proofs.lemmas.Bool.{and_from, and_parts, or_parts, or_from, not-true, not-false, not_from_false, eqb-true, eq-eqb, leb-true, leb-false}
use Rattle.text.specs.Symbol.{symbol_of}
use Rattle.lists.specs.declared.list_row.ListRow.{ListRow}
use Rattle.lists.specs.declared.list_row.ListRow.TheVariants.{Security, Line}
use Rattle.sheets.specs.declared.fault.FieldFault.TheVariants.{UnknownRow}
use Rattle.cuts.specs.Cut.{field_of, has, only_byte}
use Rattle.sheets.specs.Layers.{line_of, row_in}
use Rattle.sheets.specs.Forms.{all_visible, symbol_by, symbol_field, originator_by, originator_field}
use Rattle.lists.specs.ListRows.{originator_in, symbol_in, security_row, line_row, list_row_by, securities, lines, latest, ascends, among, list_rules, list_whole}
use Rattle.lists.specs.Market.{ascend_from, distinct, all_long, none_has, OriginatorList, SymbolList}
use Rattle.lists.proofs.Commas.{padding_lacks}
use Rattle.sheets.proofs.Commas.{field_lacks}
use Rattle.sheets.proofs.Formed.{choice_made, counted_made, then_made, formed_made, line_made}
use Rattle.sheets.specs.Reading.{Faultless}
use Rattle.sheets.proofs.Passed.{holds, Keeps, Stands}

-- a text of so many bytes, without a comma
abbrev Formed : ℕ → List ℕ → Type 0
Formed size text = (length text ≡ size) × (has 44 text ≡ false)

-- the rows so far: a market but that it may have no security or no line yet
pub record Sound (symbols originators : List (List ℕ)) : Type 0 where
  pub few_symbols : length symbols ≤ 256
  pub ascending : ascend_from None symbols ≡ true
  pub eleven_bytes : all_long 11 symbols ≡ true
  pub plain_symbols : none_has 44 symbols ≡ true
  pub few_originators : length originators ≤ 16
  pub none_twice : distinct originators ≡ true
  pub two_bytes : all_long 2 originators ≡ true
  pub plain_originators : none_has 44 originators ≡ true

-- one more symbol or originator at the end
ascend_push : (o : Option (List ℕ)) (xs : List (List ℕ)) (x : List ℕ) → ascend_from o xs ≡ true → ascends (latest o xs) x ≡ true → ascend_from o (xs ++ (x ∷ [])) ≡ true
ascend_push o [] x h e = and_from (ascends o x) true e refl
ascend_push o (y ∷ ys) x h e =
    let p = and_parts (ascends o y) (ascend_from (Some y) ys) h in
    and_from (ascends o y) (ascend_from (Some y) (ys ++ (x ∷ []))) p.0 (ascend_push (Some y) ys x p.1 e)

all_push : (p : List ℕ → Bool) (xs : List (List ℕ)) (x : List ℕ) → list_all p xs ≡ true → p x ≡ true → list_all p (xs ++ (x ∷ [])) ≡ true
all_push p xs x h e = list_all-append p xs (x ∷ []) ∙ and_from (list_all p xs) (p x && true) h (and_from (p x) true e refl)

among_push : (y : List ℕ) (xs : List (List ℕ)) (x : List ℕ) → among y xs ≡ false → bytes_eq x y ≡ false → among y (xs ++ (x ∷ [])) ≡ false
among_push y xs x h e = list_any-append (λ other. bytes_eq other y) xs (x ∷ []) ∙ or_from (among y xs) (bytes_eq x y || false) h (or_from (bytes_eq x y) false e refl)

distinct_push : (xs : List (List ℕ)) (x : List ℕ) → distinct xs ≡ true → among x xs ≡ false → distinct (xs ++ (x ∷ [])) ≡ true
distinct_push [] x h e = refl
distinct_push (y ∷ ys) x h e =
    let p = and_parts (not (among y ys)) (distinct ys) h in
    let q = or_parts (bytes_eq y x) (among x ys) e in
    let apart = among_push y ys x (not-true (among y ys) p.0) (nat_list_eq_equiv.symm x y ∙ q.0) in
    and_from (not (among y (ys ++ (x ∷ [])))) (distinct (ys ++ (x ∷ []))) (not_from_false _ apart) (distinct_push ys x p.1 q.1)

more_symbol : (xs ys : List (List ℕ)) (x : List ℕ) → Sound xs ys → ascends (latest None xs) x ≡ true → leb 256 (length xs) ≡ false → Formed 11 x → Sound (xs ++ (x ∷ [])) ys
more_symbol xs ys x s up few f = record {
  few_symbols = simp length_push (omega (arith, leb-false 256 (length xs) few));
  ascending = ascend_push None xs x s.ascending up;
  eleven_bytes = all_push (λ text. eqb (length text) 11) xs x s.eleven_bytes (eq-eqb (length x) 11 f.0);
  plain_symbols = all_push (λ text. not (has 44 text)) xs x s.plain_symbols (not_from_false _ f.1);
  few_originators = s.few_originators;
  none_twice = s.none_twice;
  two_bytes = s.two_bytes;
  plain_originators = s.plain_originators;
}

more_originator : (xs ys : List (List ℕ)) (y : List ℕ) → Sound xs ys → among y ys ≡ false → leb 16 (length ys) ≡ false → Formed 2 y → Sound xs (ys ++ (y ∷ []))
more_originator xs ys y s apart few f = record {
  few_symbols = s.few_symbols;
  ascending = s.ascending;
  eleven_bytes = s.eleven_bytes;
  plain_symbols = s.plain_symbols;
  few_originators = simp length_push (omega (arith, leb-false 16 (length ys) few));
  none_twice = distinct_push ys y s.none_twice apart;
  two_bytes = all_push (λ text. eqb (length text) 2) ys y s.two_bytes (eq-eqb (length y) 2 f.0);
  plain_originators = all_push (λ text. not (has 44 text)) ys y s.plain_originators (not_from_false _ f.1);
}

-- a row's symbol has eleven bytes, or its originator two, and no comma
FormedRow : ListRow → Type 0
FormedRow (Security s) = Formed 11 s
FormedRow (Line o) = Formed 2 o

padded_formed : (b : Bool) (text : List ℕ) → has 44 text ≡ false → (leb 1 (length text) && leb (length text) 11) ≡ b → IfSome (cond b (Some (text ++ replicate (11 - length text) 32)) None) (Formed 11)
padded_formed true text plain e =
    let n = length text in (
      length-append text (replicate (11 - n) 32) ∙ ap (λ k. n + k) (length-replicate (11 - n) 32) ∙ omega (arith, leb-true n 11 (and_parts (leb 1 n) (leb n 11) e).1),
      padding_lacks text (11 - n) plain,
    )
padded_formed false text plain e = tt

symbol_formed : (b : Bool) (text : List ℕ) → has 44 text ≡ false → IfSome (cond b (symbol_of text) None) (Formed 11)
symbol_formed true text plain = padded_formed (leb 1 (length text) && leb (length text) 11) text plain refl
symbol_formed false text plain = tt

originator_formed : (b : Bool) (text : List ℕ) → has 44 text ≡ false → (eqb (length text) 2 && all_visible text) ≡ b → IfSome (cond b (Some text) None) (Formed 2)
originator_formed true text plain e = (eqb-true (length text) 2 (and_parts (eqb (length text) 2) (all_visible text) e).0, plain)
originator_formed false text plain e = tt

security_made : (line : List ℕ) → IfOk (security_row line) FormedRow
unfolding FormedRow
security_made line =
    let text = field_of 2 line in
    counted_made FormedRow 2 line _
    (then_made (Formed 11) FormedRow (symbol_field 2 line) (λ symbol. Ok (Security symbol))
    (formed_made (Formed 11) 2 (symbol_by text) (symbol_formed (all_visible text) text (field_lacks 2 line))) (λ s h. h))

line_row_made : (line : List ℕ) → IfOk (line_row line) FormedRow
unfolding FormedRow
line_row_made line =
    let text = field_of 2 line in
    counted_made FormedRow 2 line _
    (then_made (Formed 2) FormedRow (originator_field 2 line) (λ originator. Ok (Line originator))
    (formed_made (Formed 2) 2 (originator_by text) (originator_formed (eqb (length text) 2 && all_visible text) text (field_lacks 2 line) refl)) (λ o h. h))

row_by : (o : Option ℕ) (line : List ℕ) → IfOk (list_row_by o line) FormedRow
row_by None line = tt
row_by (Some letter) line =
    choice_made FormedRow (eqb letter 83) _ _ (security_made line) (choice_made FormedRow (eqb letter 76) _ (Err UnknownRow) (line_row_made line) tt)

abbrev pub SoundRows : List ListRow → Type 0
SoundRows rows = Sound (securities rows) (lines rows)

pub none_sound : SoundRows []
none_sound = record {
  few_symbols = omega arith;
  ascending = refl;
  eleven_bytes = refl;
  plain_symbols = refl;
  few_originators = omega arith;
  none_twice = refl;
  two_bytes = refl;
  plain_originators = refl;
}

keeps_by : (seen : List ListRow) (r : _) (row : ListRow) → SoundRows seen → Stands list_rules seen r row → FormedRow row → SoundRows (seen ++ (row ∷ []))
unfolding FormedRow
keeps_by seen r (Security s) held st formed =
    let more = more_symbol (securities seen) (lines seen) s held (not-false _ st.ordered) st.fits formed in
    subst (λ u. Sound (securities (seen ++ (Security s ∷ []))) u) (sym (filter_map-append originator_in seen (Security s ∷ []) ∙ append-nil (lines seen)))
    (subst (λ u. Sound u (lines seen)) (sym (filter_map-append symbol_in seen (Security s ∷ []))) more)
keeps_by seen r (Line o) held st formed =
    let more = more_originator (securities seen) (lines seen) o held st.ordered st.fits formed in
    subst (λ u. Sound (securities (seen ++ (Line o ∷ []))) u) (sym (filter_map-append originator_in seen (Line o ∷ [])))
    (subst (λ u. Sound u (lines seen ++ (o ∷ []))) (sym (filter_map-append symbol_in seen (Line o ∷ []) ∙ append-nil (securities seen))) more)

pub list_keeps : Keeps list_rules SoundRows
list_keeps seen line row held st =
    keeps_by seen (row_in list_rules (line_of line)) row held st
    (IfOk-at_ok FormedRow st.is (line_made list_rules FormedRow (λ l. row_by (only_byte (field_of 1 l)) l) (line_of line)))

-- with a security and a line, a market
-- rows that are a market
pub record MarketRows (rows : List ListRow) : Type 0 where
  pub symbols : SymbolList (securities rows)
  pub originators : OriginatorList (lines rows)
  pub plain_symbols : none_has 44 (securities rows) ≡ true
  pub plain_originators : none_has 44 (lines rows) ≡ true

market : (rows : List ListRow) → SoundRows rows → list_whole rows ≡ true → MarketRows rows
market rows s w =
    let xs = securities rows in
    let ys = lines rows in
    let p = and_parts (leb 1 (length xs)) (leb 1 (length ys)) w in
    record {
      symbols = (leb-true 1 (length xs) p.0, s.few_symbols, s.ascending, s.eleven_bytes);
      originators = (leb-true 1 (length ys) p.1, s.few_originators, s.none_twice, s.two_bytes);
      plain_symbols = s.plain_symbols;
      plain_originators = s.plain_originators;
    }

-- the rows of a faultless list sheet are a market
pub market_of : (rows : List ListRow) → Faultless list_rules rows → MarketRows rows
market_of rows f = let h = holds list_rules SoundRows none_sound list_keeps rows f in market rows h.0 h.1
