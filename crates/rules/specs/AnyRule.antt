-- What holds of the answers of every rule, in words that name no rule. Assumes nothing.
use Rattle.std.specs.Prelude.{◌≡◌, ℕ, ◌-◌, ◌<◌, ◌≤◌, Bool, true, false, if◌then◌else◌, List, length, ℤ, pos, ◌+ℤ◌, ◌-ℤ◌, ◌≤ℤ◌, Ok, Err, sum, Result, ◌==◌, slice_index, slice_index_or, unsigned_abs}
use Rattle.std.specs.List.{All}
use Rattle.amounts.specs.Sums.{sum_z}
use Rattle.rules.specs.Prices.{Prices}
use Rattle.rules.specs.declared.any_rule.Unshared.{Unshared}
use Rattle.rules.specs.declared.any_rule.Unshared.TheVariants.{Everything, Part}
use Rattle.rules.specs.declared.any_rule.Spread.{Spread}
use Rattle.rules.specs.declared.fault.RuleFault.{RuleFault}
use Rattle.rules.specs.declared.fault.RuleFault.TheVariants.{QuestionOutOfLimit}

-- the prices as distances from the average, none of them below zero
pub record IsSpreadOf (default : ℤ) (prices : Prices) (spread : Spread) : Type 0 where
  pub default_is : pos spread.default.0 ≡ default
  pub average_is : pos spread.average.0 ≡ prices.average
  pub above_is : pos spread.above.0 ≡ prices.buy -ℤ prices.average
  pub below_is : pos spread.below.0 ≡ prices.average -ℤ prices.sell
  pub default_within : spread.default.0 ≤ 100000
  pub average_within : spread.average.0 ≤ 1000000
  pub buy_within : (pos spread.average.0 +ℤ pos spread.above.0) ≤ℤ pos 1100000
  pub sell_within : pos spread.below.0 ≤ℤ (pos spread.average.0 +ℤ pos 100000)

abbrev pub SpreadAnswer : Bool → ℤ → Prices → Result Spread RuleFault → Type 0
SpreadAnswer in_limits default prices (Ok spread) = (in_limits ≡ true) × IsSpreadOf default prices spread
SpreadAnswer in_limits default prices (Err fault) = (in_limits ≡ false) × (fault ≡ QuestionOutOfLimit)

-- what remains of an amount, by the sum of the weights
abbrev pub unshared_by : ℕ → ℤ → Unshared
unshared_by total remainder = if total == 0 then Everything else Part remainder

-- what is answered, and what the lent slice then holds
abbrev pub Apportionment : Type 0
Apportionment = Result Unshared RuleFault × List ℤ

abbrev pub apportioned : Bool → ℕ → List ℤ → ℤ → List ℤ → Apportionment
apportioned in_limits total shares remainder before =
    if in_limits then (Ok (unshared_by total remainder), shares) else (Err QuestionOutOfLimit, before)

-- all that every rule owes of the shares and the remainder of an amount
pub record SharedByTheLaws (amount : ℤ) (weights : List ℕ) (margin : ℕ) (shares : List ℤ) (remainder : ℤ) : Type 0 where
  pub each_has_one : length shares ≡ length weights
  pub adds_up : sum_z shares +ℤ remainder ≡ amount
  pub none_for_weight_zero : (k : ℕ) → k < length weights → slice_index weights k ≡ 0 → slice_index_or shares k (pos 0) ≡ pos 0
  pub none_of_amount_zero : amount ≡ pos 0 → All (λ share. share ≡ pos 0) shares
  pub none_below_zero : pos 0 ≤ℤ amount → All (λ share. pos 0 ≤ℤ share) shares
  pub none_above_zero : amount ≤ℤ pos 0 → All (λ share. share ≤ℤ pos 0) shares
  pub all_remains : sum weights ≡ 0 → remainder ≡ amount
  pub remainder_within_margin : 0 < sum weights → unsigned_abs remainder ≤ margin
  pub margin_below_total : 0 < sum weights → margin ≤ sum weights - 1
