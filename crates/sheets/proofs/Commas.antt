-- No field of a line has a comma: commas part the fields.
use Rattle.std.proofs.Common.{◌≡◌, ℕ, zero, suc, ◌-◌, Bool, true, false, cond, ◌||◌, eqb, List, [], ◌∷◌, get_or, refl, ap, ◌∙◌}
use Rattle.std.specs.List.{onto_first}
use Rattle.cuts.specs.Cut.{field_of, has, parts}

lack_by : (b : Bool) (sep x : ℕ) (ps : List (List ℕ)) (k : ℕ) → eqb x sep ≡ b → ((j : ℕ) → has sep (get_or ps j []) ≡ false) → has sep (get_or (cond b ([] ∷ ps) (onto_first x ps)) k []) ≡ false
lack_by true sep x ps zero e h = refl
lack_by true sep x ps (suc k) e h = h k
lack_by false sep x [] zero e h = ap (λ b. b || false) e
lack_by false sep x [] (suc k) e h = refl
lack_by false sep x (p ∷ ps) zero e h = ap (λ b. b || has sep p) e ∙ h 0
lack_by false sep x (p ∷ ps) (suc k) e h = h (suc k)

-- no part of a text has the separator
part_lacks : (sep : ℕ) (xs : List ℕ) (k : ℕ) → has sep (get_or (parts sep xs) k []) ≡ false
part_lacks sep [] zero = refl
part_lacks sep [] (suc k) = refl
part_lacks sep (x ∷ xs) k = lack_by (eqb x sep) sep x (parts sep xs) k refl (part_lacks sep xs)

pub field_lacks : (number : ℕ) (line : List ℕ) → has 44 (field_of number line) ≡ false
field_lacks number line = part_lacks 44 line (number - 1)
