-- A walk over a line's records, one security after the other.
use Rattle.std.proofs.Common.{◌≡◌, ℕ, zero, suc, ◌+◌, ◌<◌, ◌≤◌, Bool, true, false, cond, List, [], ◌∷◌, ◌++◌, length, get_or, take, drop, set, sym, refl, ap, ◌∙◌, add-one, arith}
use Rattle.std.proofs.lemmas.List.{get_or-append_right, length-drop, length-take-le, set-append_right, take-append-drop}
use Rattle.stats.specs.declared.record.MarketCenterRecord.{MarketCenterRecord}
use Rattle.stats.specs.Records.{no_record}
use Rattle.marks.specs.declared.range.SymbolRange.{SymbolRange}
use Rattle.marks.specs.declared.trading_action.TradingAction.{TradingAction}
use Rattle.marks.specs.Sweep.{is_swept, swept, swept_count, swept_record}

-- what one security adds to the count
abbrev pub one : Bool → ℕ
one b = cond b 1 0

one_le : (b : Bool) → one b ≤ 1
one_le true = omega arith
one_le false = omega arith

module _ (action : TradingAction) (range : SymbolRange) where
  -- one security more is one record more, at its index, which the securities before it left alone
  swept-more : (xs : List (List ℕ)) (i : ℕ) (x : List ℕ) (rs : List MarketCenterRecord) → i < length xs → i < length rs → swept action range (take (suc i) xs) rs ≡ set (swept action range (take i xs) rs) i (swept_record action range (get_or xs i x) (get_or (swept action range (take i xs) rs) i no_record))
  unfolding swept
  swept-more [] i x rs k h = absurd (omega arith)
  swept-more (y ∷ ys) i x [] k h = absurd (omega arith)
  swept-more (y ∷ ys) zero x (r ∷ rs) k h = refl
  swept-more (y ∷ ys) (suc i) x (r ∷ rs) k h = ap (λ u. swept_record action range y r ∷ u) (swept-more ys i x rs (omega arith) (omega arith))

  count_more : (xs : List (List ℕ)) (i : ℕ) (x : List ℕ) (rs : List MarketCenterRecord) → i < length xs → i < length rs → swept_count action range (take (suc i) xs) rs ≡ swept_count action range (take i xs) rs + one (is_swept action range (get_or xs i x) (get_or (swept action range (take i xs) rs) i no_record))
  unfolding swept swept_count
  count_more [] i x rs k h = absurd (omega arith)
  count_more (y ∷ ys) i x [] k h = absurd (omega arith)
  count_more (y ∷ ys) zero x (r ∷ rs) k h = omega arith
  count_more (y ∷ ys) (suc i) x (r ∷ rs) k h = omega (arith, count_more ys i x rs (omega arith) (omega arith))

  -- the slice and the count are as if the list ended before a security
  pub record Sweeping (from : ℕ) (symbols : List (List ℕ)) (old records : List MarketCenterRecord) (security count : ℕ) : Type 0 where
    pub few : count ≤ security
    pub is : records ≡ take from old ++ swept action range (take security symbols) (drop from old)
    pub counted : count ≡ swept_count action range (take security symbols) (drop from old)

  pub sweeping-none : (from : ℕ) (symbols : List (List ℕ)) (old : List MarketCenterRecord) → Sweeping from symbols old old 0 0
  unfolding swept swept_count
  sweeping-none from symbols old = record { few = omega arith; is = sym (take-append-drop from old); counted = refl }

  pub sweeping-more : {from : ℕ} {symbols : List (List ℕ)} {old records : List MarketCenterRecord} {security count : ℕ} → Sweeping from symbols old records security count → from + length symbols ≤ length old → security < length symbols → (x : List ℕ) (after : MarketCenterRecord) (count' : ℕ) (applied : Bool) → after ≡ swept_record action range (get_or symbols security x) (get_or records (from + security) no_record) → applied ≡ is_swept action range (get_or symbols security x) (get_or records (from + security) no_record) → count' ≡ count + one applied → Sweeping from symbols old (set records (from + security) after) (security + 1) count'
  sweeping-more {from} {symbols} {old} {records} {security} {count} s room inside x after count' applied left told counted =
      let front = take from old in
      let rest = drop from old in
      let done = swept action range (take security symbols) rest in
      let symbol = get_or symbols security x in
      let long : length front ≡ from = length-take-le from old (omega arith) in
      let enough : security < length rest = simp length-drop (omega arith) in
      let here : get_or records (from + security) no_record ≡ get_or done security no_record =
      ap (λ u. get_or u (from + security) no_record) s.is
      ∙ get_or-append_right front done from (from + security) no_record long (omega arith)
      ∙ ap (λ k. get_or done k no_record) (omega arith) in
      let next : swept action range (take (security + 1) symbols) rest ≡ set done security (swept_record action range symbol (get_or done security no_record)) =
      ap (λ k. swept action range (take k symbols) rest) (add-one security) ∙ swept-more symbols security x rest inside enough in
      let more : swept_count action range (take (security + 1) symbols) rest ≡ swept_count action range (take security symbols) rest + one (is_swept action range symbol (get_or done security no_record)) =
      ap (λ k. swept_count action range (take k symbols) rest) (add-one security) ∙ count_more symbols security x rest inside enough in
      record {
        few = omega (arith, s.few, one_le applied);
        is =
            ap (set records (from + security)) (left ∙ ap (swept_record action range symbol) here)
            ∙ ap (λ u. set u (from + security) (swept_record action range symbol (get_or done security no_record))) s.is
            ∙ set-append_right front done from (from + security) (swept_record action range symbol (get_or done security no_record)) long (omega arith)
            ∙ ap (λ k. front ++ set done k (swept_record action range symbol (get_or done security no_record))) (omega arith)
            ∙ ap (λ u. front ++ u) (sym next);
        counted = counted ∙ omega (arith, s.counted, more, ap one told, ap (λ u. one (is_swept action range symbol u)) here);
      }
