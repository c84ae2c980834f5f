-- One more report on a sheet, and reports in another order.
use Rattle.std.proofs.Common.{◌≡◌, List, [], ◌∷◌, ◌++◌, Some, None, Option, sym, refl, ap, ◌∙◌}
use Rattle.stats.specs.declared.entry.Entry.{Entry}
use Rattle.conditions.specs.declared.matrix.Says.{Says}
use Rattle.conditions.specs.declared.matrix.Says.TheVariants.{Yes, First, No}
use Rattle.stats.specs.Plain.{or_else, last_after, noted}
use Rattle.stats.specs.Reports.{if_yes, if_first, latest_yes, earliest_first, sheet_of, Unordered}
use Rattle.stats.proofs.Joins.{sums, highs, lows, joined-push, joined-shuffled}

or_else_none : {X : Type 0} (a : Option X) → or_else a None ≡ a
or_else_none None = refl
or_else_none (Some x) = refl

or_else_assoc : {X : Type 0} (a b c : Option X) → or_else (or_else a b) c ≡ or_else a (or_else b c)
or_else_assoc None b c = refl
or_else_assoc (Some x) b c = refl

module _ {R L : Type 0} (enter : R → Entry L) where
  latest-push : (rs : List R) (r : R) → latest_yes enter (rs ++ (r ∷ [])) ≡ or_else (if_yes (enter r).says (enter r).last) (latest_yes enter rs)
  unfolding latest_yes
  latest-push [] r = sym (or_else_none (if_yes (enter r).says (enter r).last))
  latest-push (q ∷ rs) r =
      ap (λ o. or_else o (if_yes (enter q).says (enter q).last)) (latest-push rs r)
      ∙ or_else_assoc (if_yes (enter r).says (enter r).last) (latest_yes enter rs) (if_yes (enter q).says (enter q).last)

  earliest-push : (rs : List R) (r : R) → earliest_first enter (rs ++ (r ∷ [])) ≡ or_else (earliest_first enter rs) (if_first (enter r).says (enter r).last)
  unfolding earliest_first
  earliest-push [] r = or_else_none (if_first (enter r).says (enter r).last)
  earliest-push (q ∷ rs) r =
      ap (or_else (if_first (enter q).says (enter q).last)) (earliest-push rs r)
      ∙ sym (or_else_assoc (if_first (enter q).says (enter q).last) (earliest_first enter rs) (if_first (enter r).says (enter r).last))

  last_step : (s : Says) (l : L) (latest earliest : Option L) → or_else (or_else (if_yes s l) latest) (or_else earliest (if_first s l)) ≡ last_after s (or_else latest earliest) l
  last_step Yes l a b = refl
  last_step First l a b = sym (or_else_assoc a b (Some l))
  last_step No l a b = ap (or_else a) (or_else_none b)

  last-push : (rs : List R) (r : R) → (sheet_of enter (rs ++ (r ∷ []))).last ≡ last_after (enter r).says (sheet_of enter rs).last (enter r).last
  last-push rs r =
      ap (λ a. or_else a (earliest_first enter (rs ++ (r ∷ [])))) (latest-push rs r)
      ∙ ap (or_else (or_else (if_yes (enter r).says (enter r).last) (latest_yes enter rs))) (earliest-push rs r)
      ∙ last_step (enter r).says (enter r).last (latest_yes enter rs) (earliest_first enter rs)

  pub sheet-push : (rs : List R) (r : R) → sheet_of enter (rs ++ (r ∷ [])) ≡ noted (sheet_of enter rs) (enter r)
  sheet-push rs r =
      let h = joined-push highs (λ q. (enter q).spanned) rs r in
      let l = joined-push lows (λ q. (enter q).spanned) rs r in
      let v = joined-push sums (λ q. (enter q).adds) rs r in
      let p = last-push rs r in
      λ i. record { high = h i; low = l i; last = p i; volume = v i }

  pub unordered : (rs : List R) → Unordered enter rs (sheet_of enter rs)
  unordered rs others s = record {
    high = joined-shuffled highs (λ q. (enter q).spanned) rs others s;
    low = joined-shuffled lows (λ q. (enter q).spanned) rs others s;
    volume = joined-shuffled sums (λ q. (enter q).adds) rs others s;
  }
