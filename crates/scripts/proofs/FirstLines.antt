-- The first line of a script, and those of the rest.
use Rattle.std.proofs.Common.{◌≡◌, ℕ, ◌<◌, true, false, cond, List, [], ◌∷◌, length, get_or, sym, ap, ◌∙◌, inl, inr, arith}
use Rattle.std.proofs.lemmas.Bool.{cases_Bool, ne_eqb}
use Rattle.cuts.specs.Cut.{first_part, has, past}
use Rattle.cuts.proofs.Cuts.{parts_next, parts_none, parts_some, part_zero, past_none, past_shorter}
use Rattle.std.proofs.lemmas.Iterator.{YieldsList}
use Rattle.std.proofs.lemmas.Iterator.Consumers.{YieldsList-from_shown}
use Rattle.scripts.specs.Lines.{lines_by, lines_of, Opens, GivesLine}

ended_line : (script : List ℕ) → has 10 script ≡ true → lines_of script ≡ first_part 10 script ∷ lines_of (past 10 script)
unfolding lines_by
ended_line script h =
    let more = parts_some 10 (past 10 script) in
    ap lines_by (parts_next 10 script h)
    ∙ ap (λ ps. lines_by (first_part 10 script ∷ ps)) more.2
    ∙ ap (λ ps. first_part 10 script ∷ lines_by ps) (sym more.2)

-- with no byte 10 the whole is the line
only_line : (script : List ℕ) → has 10 script ≡ false → 0 < length script → lines_of script ≡ first_part 10 script ∷ lines_of (past 10 script)
unfolding lines_by
only_line script h some =
    let whole : script ≡ first_part 10 script = sym (ap (λ ps. get_or ps 0 []) (parts_none 10 script h)) ∙ part_zero 10 script in
    ap lines_by (parts_none 10 script h)
    ∙ ap (λ b. cond b [] (script ∷ [])) (ne_eqb (length script) 0 (λ e. omega arith))
    ∙ ap (λ line. line ∷ []) whole
    ∙ ap (λ rest. first_part 10 script ∷ lines_of rest) (sym (past_none 10 script h))

past_less : (script : List ℕ) → 0 < length script → length (past 10 script) < length script
past_less script some = elim (cases_Bool (has 10 script)) [
  | inl h ↦ past_shorter 10 script h
  | inr h ↦ omega (arith, ap length (past_none 10 script h))
]

first_lines : (script : List ℕ) → 0 < length script → lines_of script ≡ first_part 10 script ∷ lines_of (past 10 script)
first_lines script some = elim (cases_Bool (has 10 script)) [ inl h ↦ ended_line script h | inr h ↦ only_line script h some ]

pub opens : (script line rest : List ℕ) → 0 < length script → line ≡ first_part 10 script → rest ≡ past 10 script → Opens script line rest
opens script line rest some front behind = record {
  front = front;
  behind = behind;
  lines = first_lines script some ∙ ap (λ l. l ∷ lines_of (past 10 script)) (sym front) ∙ ap (λ r. line ∷ lines_of r) (sym behind);
  shorter = omega (arith, past_less script some, ap length behind);
}

no_lines : (script : List ℕ) → script ≡ [] → length (lines_of script) ≡ 0
unfolding lines_by
no_lines script e = ap (λ s. length (lines_of s)) e

-- the iterator gives the lines of what is left of its script
pub gives_lines : (script : List ℕ) → YieldsList GivesLine (λ line. line.now) script (lines_of script)
gives_lines script =
    YieldsList-from_shown GivesLine (λ line. line.now) lines_of
    (λ left rest ended. no_lines left ended.0)
    (λ left line rest first. first.lines) script
