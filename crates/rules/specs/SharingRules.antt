-- The two sharing rules. Assumes nothing.
use Rattle.std.specs.Prelude.{◌≡◌, ℕ, ◌+◌, ◌-◌, List, [], ◌∷◌, map, take, ℤ, pos, ◌-ℤ◌, ◌*ℤ◌, sum, int_div}
use Rattle.std.specs.Option.{unwrap_or}
use Rattle.amounts.specs.Arithmetic.{divided, FractionDropped}
use Rattle.amounts.specs.Sums.{sum_z}

-- n / total with its fraction dropped; 0 where the total is 0
abbrev pub truncated : ℤ → ℕ → ℤ
truncated n total = unwrap_or (divided int_div n (pos total)) (pos 0)

-- the amount for each unit of weight
abbrev pub rate : ℤ → List ℕ → ℤ
rate amount weights = truncated amount (sum weights)

abbrev pub unit_shares : ℤ → List ℕ → List ℤ
unit_shares amount weights = map (λ weight. rate amount weights *ℤ pos weight) weights

abbrev pub unit_remainder : ℤ → List ℕ → ℤ
unit_remainder amount weights = amount -ℤ rate amount weights *ℤ pos (sum weights)

abbrev pub unit_margin : ℕ → ℕ
unit_margin total = total - 1

-- what the weights so far, with the sum p, have of the amount together
abbrev pub cut : ℤ → ℕ → ℕ → ℤ
cut amount total p = truncated (amount *ℤ pos p) total

-- what each weight adds to a function of the sum of the weights so far
abbrev pub differences : (ℕ → ℤ) → ℕ → List ℕ → List ℤ
differences f p [] = []
differences f p (weight ∷ weights) = (f (p + weight) -ℤ f p) ∷ differences f (p + weight) weights

abbrev pub running_shares : ℤ → List ℕ → List ℤ
running_shares amount weights = differences (cut amount (sum weights)) 0 weights

abbrev pub running_remainder : ℤ → List ℕ → ℤ
running_remainder amount weights = amount -ℤ cut amount (sum weights) (sum weights)

abbrev pub running_margin : ℕ → ℕ
running_margin total = 0

-- each share is its weight times one rate, and that is amount / T with its fraction dropped
abbrev pub InProportion : ℤ → List ℕ → List ℤ → Type 0
InProportion amount weights shares =
    (q : ℤ) × FractionDropped amount (pos (sum weights)) q × (shares ≡ map (λ weight. q *ℤ pos weight) weights)

-- the first shares, however many, add up to amount × P / T with its fraction dropped, P being the sum of their weights
abbrev pub PrefixSumsTruncated : ℤ → List ℕ → List ℤ → Type 0
PrefixSumsTruncated amount weights shares =
    (k : ℕ) → FractionDropped (amount *ℤ pos (sum (take k weights))) (pos (sum weights)) (sum_z (take k shares))
