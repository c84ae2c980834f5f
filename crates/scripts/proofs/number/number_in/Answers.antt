use Rattle.std.proofs.Common.{◌≡◌, ℕ, ◌^◌, ◌<◌, true, ◌||◌, eqb, List, get_or, IfSome, Some, None, decimal, Option, sym, ◌∙◌, subst, inl, inr, Ok, Err, Result, MatchResult, IsUtf8, Bor, arith}
use Rattle.std.specs.Result.{result_ok}
use Rattle.std.specs.Str.Parse.{ParsesUnsigned}
use Rattle.std.proofs.lemmas.Bool.{or_cases, or_parts, eqb-false}
use Rattle.scripts.specs.Number.{leading_zero, number_in}
use Rattle.scripts.proofs.Numerals.{after_sign, after_zero, not_text, parsed, written, every}
use Rattle.scripts.proofs.number.number_in.Goals as goal

record Told (word : List ℕ) (r : Option ℕ) : Type 0 where
  value : r ≡ number_in word
  written : IfSome r (λ n. word ≡ decimal n)
  every : (n : ℕ) → n < 2 ^ 64 → word ≡ decimal n → r ≡ Some n

told : (word : List ℕ) (r : Option ℕ) → r ≡ number_in word → Told word r
told word r e = record {
  value = e;
  written = subst (λ o. IfSome o (λ n. word ≡ decimal n)) (sym e) (written word);
  every = λ n h d. e ∙ every n word h d;
}

prefixed : (word : List ℕ) → (eqb (get_or word 0 0) 43 || leading_zero word) ≡ true → None ≡ number_in word
prefixed word h = elim (or_cases (eqb (get_or word 0 0) 43) (leading_zero word) h) [ inl e ↦ after_sign word e | inr e ↦ after_zero word e ]

-- where a reading as text gives one, it is the word, and where it gives none, the word is no text
text_of : {E : Type 0} (Q : E → Type 0) (word : List ℕ) (r : Result (Bor (List ℕ)) E) (text : Bor (List ℕ)) → MatchResult r (λ s. (s.now ≡ word) × IsUtf8 word) Q → result_ok r ≡ Some text → text.now ≡ word
text_of Q word (Ok s) text h e = let same : s ≡ text = cc in subst (λ t. t.now ≡ word) same h.0
text_of Q word (Err f) text h e = let z : ◌≡◌ {A = ℕ} 0 1 = cc in absurd (omega arith)

no_text : {E : Type 0} (Q : E → Type 0) (word : List ℕ) (r : Result (Bor (List ℕ)) E) → MatchResult r (λ s. (s.now ≡ word) × IsUtf8 word) (λ e. (IsUtf8 word → ⊥) × Q e) → result_ok r ≡ None → IsUtf8 word → ⊥
no_text Q word (Ok s) h e = let z : ◌≡◌ {A = ℕ} 0 1 = cc in absurd (omega arith)
no_text Q word (Err f) h e = h.0

pub returns-then-has_prefix : goal.returns-then-has_prefix
returns-then-has_prefix c =
    let t = told c.args.word.now None (prefixed c.args.word.now (sym c.if-has_prefix.ensures)) in
    record { value = t.value; written = t.written; every = t.every }

pub returns-in_err-ok : goal.returns-in_err-ok
returns-in_err-ok c =
    let word = c.args.word.now in
    let none = no_text _ word c.from_utf8.result c.from_utf8.ensures.cases (sym c.ok.ensures.value ∙ c.in_err-ok.was) in
    let t = told word c.from_residual.result (c.from_residual.ensures ∙ not_text word none) in
    record { value = t.value; written = t.written; every = t.every }

pub returns : goal.returns
returns c =
    let word = c.args.word.now in
    let same = text_of _ word c.from_utf8.result c.in_ok-ok.field-0 c.from_utf8.ensures.cases (sym c.ok.ensures.value ∙ c.in_ok-ok.was) in
    let none = or_parts (eqb (get_or word 0 0) 43) (leading_zero word) (sym c.if-has_prefix.ensures) in
    let read = subst (λ bs. ParsesUnsigned 64 10 bs c.parse.result) same c.parse.ensures.value.0 in
    let t = told word c.ok-2.result (c.ok-2.ensures.value ∙ parsed word c.parse.result read (eqb-false (get_or word 0 0) 43 none.0) none.1) in
    record { value = t.value; written = t.written; every = t.every }
