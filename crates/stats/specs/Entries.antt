-- What one sale enters on a sheet.
use Rattle.std.specs.Prelude.{ℕ, cond, Some, None, Option}
use Rattle.stats.specs.declared.entry.Entry.{Entry}
use Rattle.conditions.specs.declared.matrix.Says.{Says}
use Rattle.stats.specs.declared.sale.LastSale.{LastSale}
use Rattle.stats.specs.declared.sale.LineSale.{LineSale}
use Rattle.stats.specs.declared.sale.Sale.{Sale}
use Rattle.conditions.specs.Condition.{condition_effects, counted, is_yes}

-- high and low span the prices of the reports whose condition says Yes to them, whether they count for volume or not
abbrev pub spanned_by : Says → ℕ → Option ℕ
spanned_by s price = cond (is_yes s) (Some price) None

-- volume adds up the reports that count
abbrev pub added_by : Sale → ℕ
added_by s = cond (counted s.condition) s.volume 0

abbrev pub center_entry : Sale → Entry ℕ
center_entry s = record {
  spanned = spanned_by (condition_effects s.condition).center_high_low s.price;
  says = (condition_effects s.condition).center_last;
  last = s.price;
  adds = added_by s;
}

-- the consolidated last names its line
abbrev pub consolidated_entry : LineSale → Entry LastSale
consolidated_entry r = record {
  spanned = spanned_by (condition_effects r.sale.condition).consolidated_high_low r.sale.price;
  says = (condition_effects r.sale.condition).consolidated_last;
  last = record { price = r.sale.price; line = r.line };
  adds = added_by r.sale;
}
