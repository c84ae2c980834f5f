-- Joining by an operation that is associative and commutative: the order does not matter.
use Rattle.std.proofs.Common.{◌≡◌, ℕ, zero, suc, ◌+◌, ◌<◌, List, [], ◌∷◌, ◌++◌, length, get_or, set, Some, None, Option, sym, refl, ap, ◌∙◌, add_assoc, add_comm, zero-add, arith}
use Rattle.std.specs.List.Sorted.{IsPermutation}
use Rattle.std.specs.List.{swap}
use Rattle.std.proofs.lemmas.List.Sorted.{IsPermutation-keeps}
use Rattle.stats.specs.Plain.{higher, lower}
use Rattle.stats.specs.Reports.{joined}

pub record Joins {M : Type 0} (none : M) (op : M → M → M) : Type 0 where
  pub left : (x : M) → op none x ≡ x
  pub assoc : (x y z : M) → op (op x y) z ≡ op x (op y z)
  pub comm : (x y : M) → op x y ≡ op y x

pub sums : Joins 0 ◌+◌
sums = record { left = zero-add; assoc = add_assoc; comm = add_comm }

higher_assoc : (x y z : Option ℕ) → higher (higher x y) z ≡ higher x (higher y z)
higher_assoc None y z = refl
higher_assoc (Some p) None z = refl
higher_assoc (Some p) (Some q) None = refl
higher_assoc (Some p) (Some q) (Some r) = ap Some (omega arith)

higher_comm : (x y : Option ℕ) → higher x y ≡ higher y x
higher_comm None None = refl
higher_comm None (Some q) = refl
higher_comm (Some p) None = refl
higher_comm (Some p) (Some q) = ap Some (omega arith)

pub highs : Joins None higher
highs = record { left = λ x. refl; assoc = higher_assoc; comm = higher_comm }

lower_assoc : (x y z : Option ℕ) → lower (lower x y) z ≡ lower x (lower y z)
lower_assoc None y z = refl
lower_assoc (Some p) None z = refl
lower_assoc (Some p) (Some q) None = refl
lower_assoc (Some p) (Some q) (Some r) = ap Some (omega arith)

lower_comm : (x y : Option ℕ) → lower x y ≡ lower y x
lower_comm None None = refl
lower_comm None (Some q) = refl
lower_comm (Some p) None = refl
lower_comm (Some p) (Some q) = ap Some (omega arith)

pub lows : Joins None lower
lows = record { left = λ x. refl; assoc = lower_assoc; comm = lower_comm }

-- two that are joined to a third change places
pub swapped : {M : Type 0} {none : M} {op : M → M → M} (J : Joins none op) (x y z : M) → op x (op y z) ≡ op y (op x z)
swapped {op} J x y z = sym (J.assoc x y z) ∙ ap (λ w. op w z) (J.comm x y) ∙ J.assoc y x z

module _ {R M : Type 0} {none : M} {op : M → M → M} (J : Joins none op) (f : R → M) where
  abbrev all : List R → M
  all rs = joined none op f rs

  right : (x : M) → op x none ≡ x
  right x = J.comm x none ∙ J.left x

  pub joined-append : (rs qs : List R) → joined none op f (rs ++ qs) ≡ op (joined none op f rs) (joined none op f qs)
  unfolding joined
  joined-append [] qs = sym (J.left (all qs))
  joined-append (r ∷ rs) qs = ap (op (f r)) (joined-append rs qs) ∙ sym (J.assoc (f r) (all rs) (all qs))

  pub joined-push : (rs : List R) (r : R) → joined none op f (rs ++ (r ∷ [])) ≡ op (joined none op f rs) (f r)
  unfolding joined
  joined-push rs r = joined-append rs (r ∷ []) ∙ ap (op (all rs)) (right (f r))

  -- an element and one in front of the list change places
  set_front : (rs : List R) (k : ℕ) (r d : R) → k < length rs → op (f (get_or rs k d)) (all (set rs k r)) ≡ op (f r) (all rs)
  unfolding joined
  set_front [] k r d h = absurd (omega arith)
  set_front (q ∷ rs) zero r d h = swapped J (f q) (f r) (all rs)
  set_front (q ∷ rs) (suc k) r d h =
      swapped J (f (get_or rs k d)) (f q) (all (set rs k r))
      ∙ ap (op (f q)) (set_front rs k r d (omega arith))
      ∙ swapped J (f q) (f r) (all rs)

  exchange : (rs : List R) (i k : ℕ) (d : R) → i < length rs → k < length rs → all (set (set rs i (get_or rs k d)) k (get_or rs i d)) ≡ all rs
  unfolding joined
  exchange [] i k d h l = absurd (omega arith)
  exchange (q ∷ rs) zero zero d h l = refl
  exchange (q ∷ rs) zero (suc k) d h l = set_front rs k q d (omega arith)
  exchange (q ∷ rs) (suc i) zero d h l = set_front rs i q d (omega arith)
  exchange (q ∷ rs) (suc i) (suc k) d h l = ap (op (f q)) (exchange rs i k d (omega arith) (omega arith))

  exchanged_same : (rs : List R) (i k : ℕ) → i < length rs → k < length rs → all (swap rs i k) ≡ all rs
  exchanged_same [] i k h l = refl
  exchanged_same (q ∷ rs) i k h l = exchange (q ∷ rs) i k q h l

  pub joined-shuffled : (rs qs : List R) → IsPermutation rs qs → joined none op f qs ≡ joined none op f rs
  joined-shuffled rs qs s = IsPermutation-keeps rs (λ l. all l ≡ all rs) refl (λ l i k h g e. exchanged_same l i k h g ∙ e) qs s
