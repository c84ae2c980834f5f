-- A tape line read back at its commas.
use Rattle.std.proofs.Common.{◌≡◌, ℕ, zero, suc, ◌+◌, ◌/◌, ◌%◌, ◌^◌, ◌<◌, Bool, false, cond, eqb, ltb, List, [], ◌∷◌, ◌++◌, get_or, decimal, sym, refl, ap, ◌∙◌, arith}
use Rattle.std.specs.Str.Parse.{digits_value}
use Rattle.std.specs.Fmt.{digits, digit_glyph, digits_onto}
use Rattle.std.specs.List.{AllByRecursion as All, onto_first}
use Rattle.std.proofs.lemmas.Fmt.{decimal_is_IsNumeral}
use Rattle.std.proofs.lemmas.List.{append_assoc, append-nil, length_push, take_at}
use Rattle.std.proofs.lemmas.Bool.{cond_both, eq-eqb, ne_eqb, or_from, or_parts}
use Rattle.cuts.specs.Cut.{has, parts}
use Rattle.cuts.proofs.Cuts.{parts_none}
use Rattle.text.specs.Symbol.{text_of}
use Rattle.wire.specs.declared.trade_report.TradeReport.{TradeReport}
use Rattle.tape.specs.TapeLine.{behind, body_fields, tape_body, tape_fields, tape_line}
use Rattle.tape.specs.TapeReading.{CommaFree, ReadsBack, tape_condition, tape_symbol, tape_volume, unended}
use Rattle.tape.proofs.Texts.{text_free}

-- a text without the separator is the first part of all that begins with it and a separator
first_by : (b : Bool) (x : ℕ) (xs : List ℕ) (qs ps rest : List (List ℕ)) → b ≡ false → ps ≡ xs ∷ rest → cond b qs (onto_first x ps) ≡ (x ∷ xs) ∷ rest
first_by b x xs qs ps rest other is = ap (λ t. cond t qs (onto_first x ps)) other ∙ ap (onto_first x) is

parts_front : (sep : ℕ) (text rest : List ℕ) → has sep text ≡ false → parts sep (text ++ (sep ∷ rest)) ≡ text ∷ parts sep rest
parts_front sep [] rest free = ap (λ t. cond t ([] ∷ parts sep rest) (onto_first sep (parts sep rest))) (eq-eqb sep sep refl)
parts_front sep (x ∷ text) rest free =
    let apart = or_parts (eqb x sep) (has sep text) free in
    first_by (eqb x sep) x text ([] ∷ parts sep (text ++ (sep ∷ rest))) (parts sep (text ++ (sep ∷ rest))) (parts sep rest) apart.0 (parts_front sep text rest apart.1)

-- fields without the separator, each but the first behind one, are the parts of their text
parts_behind : (sep : ℕ) (first : List ℕ) (fields : List (List ℕ)) → has sep first ≡ false → All (λ field. has sep field ≡ false) fields → parts sep (first ++ behind sep fields) ≡ first ∷ fields
unfolding behind
parts_behind sep first [] free all = ap (parts sep) (append-nil first) ∙ parts_none sep first free
parts_behind sep first (field ∷ fields) free all =
    parts_front sep first (field ++ behind sep fields) free ∙ ap (λ ps. first ∷ ps) (parts_behind sep field fields all.0 all.1)

-- no digit is a comma
glyph_free : (d : ℕ) → eqb (digit_glyph false d) 44 ≡ false
glyph_free d = cond_both (ltb d 10) (48 + d) (87 + d) (λ b. eqb b 44 ≡ false) (λ _. ne_eqb (48 + d) 44 (λ e. omega arith)) (λ _. ne_eqb (87 + d) 44 (λ e. omega arith))

spelled_free : (k n : ℕ) (acc : List ℕ) → has 44 acc ≡ false → has 44 (digits_onto k 10 false n acc) ≡ false
spelled_free zero n acc free = free
spelled_free (suc k) n acc free =
    let more : has 44 (digit_glyph false (n % 10) ∷ acc) ≡ false = or_from (eqb (digit_glyph false (n % 10)) 44) (has 44 acc) (glyph_free (n % 10)) free in
    cond_both (eqb (n / 10) 0) (digit_glyph false (n % 10) ∷ acc) (digits_onto k 10 false (n / 10) (digit_glyph false (n % 10) ∷ acc)) (λ text. has 44 text ≡ false)
    (λ _. more) (λ _. spelled_free k (n / 10) (digit_glyph false (n % 10) ∷ acc) more)

pub decimal_free : (n : ℕ) → has 44 (decimal n) ≡ false
unfolding digits
decimal_free n = spelled_free 64 n [] refl

fields_free : (time : ℕ) (r : TradeReport) → CommaFree r → All (λ field. has 44 field ≡ false) (body_fields time r)
unfolding body_fields
fields_free time r free = (
  decimal_free time,
  (
    free.originator,
    (
      text_free 44 r.symbol free.symbol,
      (
        decimal_free r.trade_id,
        (
          free.exempt_flag,
          (
            free.condition,
            (decimal_free r.seller_days, (free.side, (decimal_free r.price, (decimal_free r.volume, tt)))),
          ),
        ),
      ),
    ),
  ),
)

-- the byte that ends a line is its last
without_end : (text : List ℕ) → unended (text ++ (10 ∷ [])) ≡ text
unfolding unended
without_end text = take_at text (10 ∷ []) _ (omega (arith, length_push text 10))

pub fields_again : (serial time : ℕ) (r : TradeReport) → CommaFree r → parts 44 (unended (tape_line serial time r)) ≡ tape_fields serial time r
unfolding tape_line tape_body tape_fields
fields_again serial time r free =
    ap (λ line. parts 44 (unended line)) (sym (append_assoc (decimal serial) (behind 44 (body_fields time r)) (10 ∷ [])))
    ∙ ap (parts 44) (without_end (decimal serial ++ behind 44 (body_fields time r)))
    ∙ parts_behind 44 (decimal serial) (body_fields time r) (decimal_free serial) (fields_free time r free)

pub symbol_again : (serial time : ℕ) (r : TradeReport) → CommaFree r → tape_symbol (tape_line serial time r) ≡ text_of r.symbol
unfolding tape_symbol tape_fields body_fields
symbol_again serial time r free = ap (λ fields. get_or fields 3 []) (fields_again serial time r free)

pub condition_again : (serial time : ℕ) (r : TradeReport) → CommaFree r → tape_condition (tape_line serial time r) ≡ r.condition
unfolding tape_condition tape_fields body_fields
condition_again serial time r free = ap (λ fields. get_or fields 6 []) (fields_again serial time r free)

pub volume_again : (serial time : ℕ) (r : TradeReport) → CommaFree r → r.volume < 2 ^ 64 → tape_volume (tape_line serial time r) ≡ r.volume
unfolding tape_volume tape_fields body_fields
volume_again serial time r free fits =
    ap (λ fields. digits_value 10 (get_or fields 10 [])) (fields_again serial time r free) ∙ (decimal_is_IsNumeral r.volume fits).1

pub line_again : (serial time : ℕ) (r : TradeReport) → CommaFree r → r.volume < 2 ^ 64 → ReadsBack serial time r (tape_line serial time r)
line_again serial time r free fits = record {
  fields = fields_again serial time r free;
  symbol = symbol_again serial time r free;
  condition = condition_again serial time r free;
  volume = volume_again serial time r free fits;
}
