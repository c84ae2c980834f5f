-- Whether a day can be made.
use Rattle.std.specs.Prelude.{ℕ, ◌*◌, cond, List, length, Ok, Err, Result, nat_lt}
use Rattle.states.specs.declared.refusal.Refusal.{Refusal}
use Rattle.states.specs.declared.refusal.Refusal.TheVariants.{TooFewRecords}
use Rattle.stats.specs.declared.record.MarketCenterRecord.{MarketCenterRecord}

-- refused exactly if there are fewer records than lines times securities
abbrev pub making : List (List ℕ) → List (List ℕ) → List MarketCenterRecord → Result (Unit {0}) Refusal
making symbols originators records = cond (nat_lt (length records) (length originators * length symbols)) (Err TooFewRecords) (Ok tt)
