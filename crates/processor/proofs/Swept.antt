-- A sweep over all records from a line's first on is one over the line's part.
use Rattle.std.proofs.Common.{◌≡◌, ℕ, ◌+◌, ◌*◌, ◌≤◌, cond, List, [], ◌∷◌, ◌++◌, length, take, drop, Some, None, refl, ap, ◌∙◌, drop-drop}
use Rattle.std.proofs.lemmas.Bool.{le-leb}
use Rattle.marks.specs.Sweep.{is_swept, sweep_leaves, sweep_tells, swept, swept_count, swept_record}
use Rattle.marks.specs.declared.range.SymbolRange.{SymbolRange}
use Rattle.marks.specs.declared.trading_action.TradingAction.{TradingAction}
use Rattle.stats.specs.declared.record.MarketCenterRecord.{MarketCenterRecord}
use Rattle.day.specs.State.{part_of, with_part}

module _ (action : TradingAction) (range : SymbolRange) where
  front : (symbols : List (List ℕ)) (records : List MarketCenterRecord) → swept action range symbols records ≡ swept action range symbols (take (length symbols) records) ++ drop (length symbols) records
  unfolding swept
  front [] records = refl
  front (symbol ∷ symbols) [] = refl
  front (symbol ∷ symbols) (r ∷ records) = ap (λ rs. swept_record action range symbol r ∷ rs) (front symbols records)

  pub front-count : (symbols : List (List ℕ)) (records : List MarketCenterRecord) → swept_count action range symbols records ≡ swept_count action range symbols (take (length symbols) records)
  unfolding swept_count
  front-count [] records = refl
  front-count (symbol ∷ symbols) [] = refl
  front-count (symbol ∷ symbols) (r ∷ records) = ap (λ n. cond (is_swept action range symbol r) 1 0 + n) (front-count symbols records)

  pub swept-part : (symbols : List (List ℕ)) (line : ℕ) (records : List MarketCenterRecord) →
      take (line * length symbols) records ++ swept action range symbols (drop (line * length symbols) records)
      ≡ with_part (length symbols) line (swept action range symbols (part_of (length symbols) line records)) records
  swept-part symbols line records =
      ap (λ rs. take (line * length symbols) records ++ rs)
      (front symbols (drop (line * length symbols) records) ∙ ap (λ rs. swept action range symbols (part_of (length symbols) line records) ++ rs) (drop-drop (length symbols) (line * length symbols) records))

  -- where the records of a line all stand in a slice, a sweep tells and leaves what it does
  pub tells : (symbols : List (List ℕ)) (records : List MarketCenterRecord) (from : ℕ) → from + length symbols ≤ length records → sweep_tells action range symbols records from ≡ Some (swept_count action range symbols (drop from records))
  tells symbols records from h = ap (λ b. cond b (Some (swept_count action range symbols (drop from records))) None) (le-leb (from + length symbols) (length records) h)

  pub leaves : (symbols : List (List ℕ)) (records : List MarketCenterRecord) (from : ℕ) → from + length symbols ≤ length records → sweep_leaves action range symbols records from ≡ take from records ++ swept action range symbols (drop from records)
  leaves symbols records from h = ap (λ b. cond b (take from records ++ swept action range symbols (drop from records)) records) (le-leb (from + length symbols) (length records) h)
