-- Consolidated highs, lows and volumes are what the lines bring, each by its own calls.
use Rattle.std.proofs.Common.{◌≡◌, ℕ, ◌<◌, List, map, length, sym, ap, ◌∙◌}
use Rattle.books.specs.Sets.{Sets}
use Rattle.stats.specs.Entries.{consolidated_entry}
use Rattle.stats.specs.Reports.{joined}
use Rattle.stats.specs.declared.record.MarketCenterRecord.{MarketCenterRecord}
use Rattle.stats.specs.declared.sale.LineSale.{LineSale}
use Rattle.stats.proofs.Joins.{Joins, highs, lows, sums}
use Rattle.day.specs.Call.{Call}
use Rattle.day.specs.Laws.{InterleavingHarmless, anyone, at_place, calls_for, is_of, taken_in}
use Rattle.day.specs.State.{fresh_day}
use Rattle.day.specs.Step.{line_sale_of}
use Rattle.day.proofs.Apart.{fresh_alike, fresh_sound}
use Rattle.day.proofs.Shares.{all_shares, given_at, joined_at, over, over_same}
use Rattle.day.proofs.Sheets.{sheets_of_reports}

module _ {M : Type 0} {none : M} {op : M → M → M} (J : Joins none op) (f : LineSale → M) (sets : Sets) (symbols originators : List (List ℕ)) (start place : ℕ) where
  -- what the reports of a place bring together, by the lines' shares
  by_lines : (records : List MarketCenterRecord) (calls : List Call) →
      joined none op f (map line_sale_of (at_place place (taken_in anyone sets (fresh_day symbols originators start records) calls)))
      ≡ over none op (length originators) (λ line. joined none op (given_at J f line_sale_of place) (taken_in (is_of line) sets (fresh_day symbols originators start records) calls))
  by_lines records calls =
      let day = fresh_day symbols originators start records in
      joined_at J f line_sale_of place (taken_in anyone sets day calls) ∙ all_shares J (given_at J f line_sale_of place) sets calls day (fresh_sound symbols originators start records)

  pub same_joined : (records others_records : List MarketCenterRecord) (calls others : List Call) → ((line : ℕ) → line < length originators → calls_for line calls ≡ calls_for line others) →
      joined none op f (map line_sale_of (at_place place (taken_in anyone sets (fresh_day symbols originators start records) calls)))
      ≡ joined none op f (map line_sale_of (at_place place (taken_in anyone sets (fresh_day symbols originators start others_records) others)))
  same_joined records others_records calls others same =
      by_lines records calls
      ∙ over_same J (length originators) _ _ (λ line h. ap (λ reports. joined none op (given_at J f line_sale_of place) reports) (fresh_alike sets symbols originators start records others_records line h calls others (same line h)).takes)
      ∙ sym (by_lines others_records others)

pub interleaving_harmless : (sets : Sets) (symbols originators : List (List ℕ)) (start : ℕ) → InterleavingHarmless sets symbols originators start
interleaving_harmless sets symbols originators start records others_records calls others same place h =
    let one = (sheets_of_reports sets symbols originators start records calls place h).0 in
    let other = (sheets_of_reports sets symbols originators start others_records others place h).0 in
    record {
      high = ap (λ s. s.high) one ∙ same_joined highs (λ r. (consolidated_entry r).spanned) sets symbols originators start place records others_records calls others same ∙ sym (ap (λ s. s.high) other);
      low = ap (λ s. s.low) one ∙ same_joined lows (λ r. (consolidated_entry r).spanned) sets symbols originators start place records others_records calls others same ∙ sym (ap (λ s. s.low) other);
      volume = ap (λ s. s.volume) one ∙ same_joined sums (λ r. (consolidated_entry r).adds) sets symbols originators start place records others_records calls others same ∙ sym (ap (λ s. s.volume) other);
    }
