-- Worked figures of the rules. Assumes nothing.
use Rattle.std.specs.Prelude.{◌≡◌, ℕ, List, [], ◌∷◌, ℤ, pos, negsuc}
use Rattle.std.specs.List.{All}
use Rattle.rules.specs.Prices.{Counted, Preceding, Prices}
use Rattle.rules.specs.PriceRules.{marginal, marginal_average}
use Rattle.rules.specs.SharingRules.{unit_shares, unit_remainder, running_shares, running_remainder}

-- a question with the answer that was worked by hand
pub data Figure : Type 0 where
  averaged : Counted → Preceding → ℤ → Figure
  by_marginal : ℤ → Counted → Preceding → Prices → Figure
  by_unit : ℤ → List ℕ → List ℤ → ℤ → Figure
  by_running : ℤ → List ℕ → List ℤ → ℤ → Figure

-- the answer is the one that the definition gives
abbrev pub Holds : Figure → Type 0
Holds (averaged counted preceding average) = marginal_average counted preceding ≡ average
Holds (by_marginal d counted preceding prices) = marginal d counted preceding ≡ prices
Holds (by_unit amount weights shares remainder) =
    (unit_shares amount weights ≡ shares) × (unit_remainder amount weights ≡ remainder)
Holds (by_running amount weights shares remainder) =
    (running_shares amount weights ≡ shares) × (running_remainder amount weights ≡ remainder)

-- six preceding averages of 20,000, and then another
abbrev pub preceding : ℤ → Preceding
preceding last =
    record { 0 = pos 20000 } ∷ record { 0 = pos 20000 } ∷ record { 0 = pos 20000 } ∷ record { 0 = pos 20000 }
    ∷ record { 0 = pos 20000 } ∷ record { 0 = pos 20000 } ∷ record { 0 = last } ∷ []

-- two actions, each a quantity at a price
abbrev pub actions : ℤ → ℤ → ℤ → ℤ → Counted
actions q p r s =
    record { quantity = record { 0 = q }; price = record { 0 = p } }
    ∷ record { quantity = record { 0 = r }; price = record { 0 = s } } ∷ []

abbrev pub figures : List Figure
figures =
    averaged (actions (pos 1) (pos 10) (pos 1) (pos 11)) (preceding (pos 20000)) (pos 11)
    ∷ averaged [] (preceding (pos 21000)) (pos 20143)
    ∷ by_marginal (pos 100) (actions (pos 60) (pos 21000) (pos 60) (pos 24000)) (preceding (pos 20000)) (record { average = pos 22500; buy = pos 24000; sell = pos 21000 })
    ∷ by_unit (negsuc 2205359) (1900 ∷ 1200 ∷ []) (negsuc 1350899 ∷ negsuc 853199 ∷ []) (negsuc 1259)
    ∷ by_running (negsuc 2205359) (1900 ∷ 1200 ∷ []) (negsuc 1351671 ∷ negsuc 853687 ∷ []) (pos 0)
    ∷ by_unit (pos 5) (1 ∷ 1 ∷ []) (pos 2 ∷ pos 2 ∷ []) (pos 1)
    ∷ by_running (pos 5) (1 ∷ 1 ∷ []) (pos 2 ∷ pos 3 ∷ []) (pos 0)
    ∷ by_unit (negsuc 4) (1 ∷ 1 ∷ []) (negsuc 1 ∷ negsuc 1 ∷ []) (negsuc 0)
    ∷ by_running (negsuc 4) (1 ∷ 1 ∷ []) (negsuc 1 ∷ negsuc 2 ∷ []) (pos 0)
    ∷ by_unit (pos 5) (0 ∷ 0 ∷ []) (pos 0 ∷ pos 0 ∷ []) (pos 5)
    ∷ by_running (pos 5) (0 ∷ 0 ∷ []) (pos 0 ∷ pos 0 ∷ []) (pos 5)
    ∷ by_unit (pos 5) (0 ∷ 4 ∷ []) (pos 0 ∷ pos 4 ∷ []) (pos 1)
    ∷ by_running (pos 5) (0 ∷ 4 ∷ []) (pos 0 ∷ pos 5 ∷ []) (pos 0)
    ∷ []

abbrev pub AllFiguresHold : Type 0
AllFiguresHold = All Holds figures
