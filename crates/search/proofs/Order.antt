-- The order of symbols.
use Rattle.std.proofs.Common.{◌≡◌, ℕ, Bool, true, false, cond, eqb, ltb, List, [], ◌∷◌, refl, arith}
use Rattle.std.proofs.lemmas.Bool.{le-ltb}
use Rattle.std.proofs.lemmas.Bool.Decides.{nat_tests}
use Rattle.text.specs.Symbol.{precedes}

heads : (x y z : ℕ) (p q r : Bool) → cond (eqb x y) p (ltb x y) ≡ true → cond (eqb y z) q (ltb y z) ≡ true → (p ≡ true → q ≡ true → r ≡ true) → cond (eqb x z) r (ltb x z) ≡ true
heads x y z p q r e f h = grind (arith, nat_tests)

pub precedes_all : (xs ys zs : List ℕ) → precedes xs ys ≡ true → precedes ys zs ≡ true → precedes xs zs ≡ true
precedes_all [] [] zs e f = f
precedes_all [] (y ∷ ys) [] e f = f
precedes_all [] (y ∷ ys) (z ∷ zs) e f = e
precedes_all (x ∷ xs) [] zs e f = let z : ◌≡◌ {A = ℕ} 0 1 = cc in absurd (omega arith)
precedes_all (x ∷ xs) (y ∷ ys) [] e f = f
precedes_all (x ∷ xs) (y ∷ ys) (z ∷ zs) e f = heads x y z (precedes xs ys) (precedes ys zs) (precedes xs zs) e f (precedes_all xs ys zs)

self_by : (b p : Bool) (x : ℕ) → eqb x x ≡ b → p ≡ false → cond b p (ltb x x) ≡ false
self_by true p x e h = h
self_by false p x e h = le-ltb x x (omega arith)

pub precedes_self : (xs : List ℕ) → precedes xs xs ≡ false
precedes_self [] = refl
precedes_self (x ∷ xs) = self_by (eqb x x) (precedes xs xs) x refl (precedes_self xs)
