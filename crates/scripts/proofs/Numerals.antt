-- What a word that is read as a number is, and that every numeral is read.
use Rattle.std.proofs.Common.{◌≡◌, ℕ, zero, suc, ◌^◌, ◌<◌, ◌≤◌, Bool, true, false, cond, not, ◌&&◌, eqb, ltb, leb, List, length, get_or, IfSome, Some, None, Ok, Err, IsUtf8, decimal, Result, sym, refl, ap, ◌∙◌, inl, inr, arith, rules}
use Rattle.std.specs.Result.{OkIff, result_ok}
use Rattle.std.specs.Str.Parse.{ParsesUnsigned}
use Rattle.std.specs.Str.{all_ascii_digits}
use Rattle.std.proofs.lemmas.Fmt.{decimal_digit, decimal-digits_value, decimal_nonempty, first_decimal, digits_decimal, digits_value-decimal, IsAscii-from_digits}
use Rattle.std.proofs.lemmas.Str.Parse.{IsNumeralModel, numerals_by_fold, tells_all_ascii_digits, parse_plain, not_in_digits}
use Rattle.std.proofs.lemmas.Str.{IsUtf8-from_ascii}
use Rattle.std.proofs.lemmas.Bool.{and_parts, and_from, cases_lt, eqb-true, eq-eqb, ne_eqb, leb-true, le-leb, ltb-true, lt-ltb, not-true, not_from_false, and_left, cond_both, both_ways}
use Rattle.scripts.specs.Number.{read_on, leading_zero, is_number, number_in}

own : IsNumeralModel (λ ds. all_ascii_digits ds ≡ true) (read_on 0)
own = numerals_by_fold _ tells_all_ascii_digits read_on (search rules)

-- what makes a word a number
record Parts (word : List ℕ) : Type 0 where
  some : 1 ≤ length word
  digits : all_ascii_digits word ≡ true
  plain : leading_zero word ≡ false
  small : read_on 0 word < 2 ^ 64

parts_of : (word : List ℕ) → is_number word ≡ true → Parts word
parts_of word e =
    let a = and_parts (leb 1 (length word) && all_ascii_digits word && not (leading_zero word)) (ltb (read_on 0 word) (2 ^ 64)) e in
    let b = and_parts (leb 1 (length word) && all_ascii_digits word) (not (leading_zero word)) a.0 in
    let d = and_parts (leb 1 (length word)) (all_ascii_digits word) b.0 in
    record {
      some = leb-true 1 (length word) d.0;
      digits = d.1;
      plain = not-true (leading_zero word) b.1;
      small = ltb-true (read_on 0 word) (2 ^ 64) a.1;
    }

of_parts : (word : List ℕ) → Parts word → is_number word ≡ true
of_parts word p =
    and_from (leb 1 (length word) && all_ascii_digits word && not (leading_zero word)) (ltb (read_on 0 word) (2 ^ 64))
    (and_from (leb 1 (length word) && all_ascii_digits word) (not (leading_zero word))
    (and_from (leb 1 (length word)) (all_ascii_digits word) (le-leb 1 (length word) p.some) p.digits)
    (not_from_false (leading_zero word) p.plain))
    (lt-ltb (read_on 0 word) (2 ^ 64) p.small)

some_by : (b : Bool) (n : ℕ) → b ≡ true → Some n ≡ cond b (Some n) None
some_by true n e = refl
some_by false n e = let z : ◌≡◌ {A = ℕ} 0 1 = cc in absurd (omega arith)

none_by : (b : Bool) (n : ℕ) → (b ≡ true → ⊥) → None ≡ cond b (Some n) None
none_by true n e = absurd (e refl)
none_by false n e = refl

-- a word that is no number
no_number : (word : List ℕ) → (Parts word → ⊥) → None ≡ number_in word
unfolding number_in
no_number word h = none_by (is_number word) (read_on 0 word) (λ e. h (parts_of word e))

is_number_lem : (word : List ℕ) → Parts word → Some (read_on 0 word) ≡ number_in word
unfolding number_in
is_number_lem word p = some_by (is_number word) (read_on 0 word) (of_parts word p)

pub after_sign : (word : List ℕ) → eqb (get_or word 0 0) 43 ≡ true → None ≡ number_in word
after_sign word e = no_number word (λ p. not_in_digits own word 43 p.digits (λ i. omega arith) 0 p.some (eqb-true (get_or word 0 0) 43 e))

pub after_zero : (word : List ℕ) → leading_zero word ≡ true → None ≡ number_in word
after_zero word e = no_number word (λ p. both_ways (leading_zero word) p.plain e)

pub not_text : (word : List ℕ) → (IsUtf8 word → ⊥) → None ≡ number_in word
not_text word h = no_number word (λ p. h (IsUtf8-from_ascii word (IsAscii-from_digits word (own.to word p.digits))))

parsed_by : {E : Type 0} (word : List ℕ) (r : Result ℕ E) → OkIff r ((all_ascii_digits word ≡ true) × (0 < length word) × (read_on 0 word < 2 ^ 64)) (read_on 0 word) → leading_zero word ≡ false → result_ok r ≡ number_in word
parsed_by word (Ok n) h plain = ap (λ k. Some k) h.1 ∙ is_number_lem word (record { some = h.0.1; digits = h.0.0; plain = plain; small = h.0.2 })
parsed_by word (Err e) h plain = no_number word (λ p. h (p.digits, p.some, p.small))

pub parsed : {E : Type 0} (word : List ℕ) (r : Result ℕ E) → ParsesUnsigned 64 10 word r → (get_or word 0 0 ≡ 43 → ⊥) → leading_zero word ≡ false → result_ok r ≡ number_in word
parsed word r h sign plain = parsed_by word r (parse_plain own 64 word r h sign) plain

zero_alone : (word : List ℕ) → 0 < length word → leading_zero word ≡ false → get_or word 0 0 ≡ 48 → length word ≡ 1
zero_alone word some plain z = elim (cases_lt 1 (length word)) [
  | inl h ↦ absurd (both_ways (leading_zero word) plain (and_from (eqb (get_or word 0 0) 48) (ltb 1 (length word)) (eq-eqb _ _ z) (lt-ltb 1 (length word) h)))
  | inr h ↦ omega arith
]

-- a word that is read is the numeral of its number
pub written : (word : List ℕ) → IfSome (number_in word) (λ n. word ≡ decimal n)
unfolding number_in
written word =
    cond_both (is_number word) (Some (read_on 0 word)) None (λ o. IfSome o (λ n. word ≡ decimal n))
    (λ e. let p = parts_of word e in sym (decimal-digits_value own word p.digits p.some (zero_alone word p.some p.plain) p.small))
    (λ e. tt)

zero_not_leading : (n : ℕ) → n < 2 ^ 64 → leading_zero (decimal n) ≡ false
zero_not_leading zero h = ap leading_zero (decimal_digit 0 (omega arith))
zero_not_leading (suc n) h =
    and_left (eqb (get_or (decimal (suc n)) 0 0) 48) (ltb 1 (length (decimal (suc n))))
    (ne_eqb _ _ (λ e. omega (arith, first_decimal (suc n) (omega arith) h)))

-- the numeral of each number below 2^64 is read as that number
pub every : (n : ℕ) (word : List ℕ) → n < 2 ^ 64 → word ≡ decimal n → number_in word ≡ Some n
every n word h e =
    let v = digits_value-decimal own n h in
    ap number_in e
    ∙ sym (is_number_lem (decimal n) (record { some = decimal_nonempty n h; digits = digits_decimal own n h; plain = zero_not_leading n h; small = omega arith }))
    ∙ ap (λ k. Some k) v
