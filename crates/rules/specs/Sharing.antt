-- What a sharing rule is asked and what it answers. Assumes nothing.
use Rattle.std.specs.Prelude.{◌≡◌, ℕ, Bool, true, if◌then◌else◌, ◌&&◌, List, length, ℤ, Ok, Err, Result, ◌==◌, nat_le}
use Rattle.amounts.specs.Arithmetic.{fits64}
use Rattle.std.specs.List.{list_all}
use Rattle.rules.specs.declared.fault.RuleFault.{RuleFault}
use Rattle.rules.specs.declared.fault.RuleFault.TheVariants.{QuestionOutOfLimit}

abbrev pub is_weight : ℕ → Bool
is_weight weight = nat_le weight 2000000

-- 1 to 32
abbrev pub is_weight_count : ℕ → Bool
is_weight_count count = nat_le 1 count && nat_le count 32

-- so many weights, each within its limit
abbrev pub are_weights : List ℕ → Bool
are_weights weights = is_weight_count (length weights) && list_all is_weight weights

-- and exactly as many places for shares
abbrev pub is_sharing_question : List ℕ → ℕ → Bool
is_sharing_question weights places = are_weights weights && places == length weights

-- an amount and weights that a rule shares
pub record Shareable (amount : ℤ) (weights : List ℕ) : Type 0 where
  pub amount_fits : fits64 amount ≡ true
  pub weights_fit : are_weights weights ≡ true

-- what is answered, and what the lent slice then holds
abbrev pub Shared : Type 0
Shared = Result ℤ RuleFault × List ℤ

abbrev pub shared : Bool → List ℤ → ℤ → List ℤ → Shared
shared in_limits shares remainder before =
    if in_limits then (Ok remainder, shares) else (Err QuestionOutOfLimit, before)
