-- What an amount is shared by: what the weights so far have of it together. Assumes nothing.
use Rattle.std.specs.Prelude.{◌≡◌, ℕ, ◌≤◌, ℤ, pos, ◌≤ℤ◌}

abbrev pub Rising : (ℕ → ℤ) → Type 0
Rising f = (p q : ℕ) → p ≤ q → f p ≤ℤ f q

abbrev pub Falling : (ℕ → ℤ) → Type 0
Falling f = (p q : ℕ) → p ≤ q → f q ≤ℤ f p

-- a function of the weights so far by which an amount is shared: from 0 on, it goes the amount's way
pub record Cuts (amount : ℤ) (f : ℕ → ℤ) : Type 0 where
  pub start : f 0 ≡ pos 0
  pub up : pos 0 ≤ℤ amount → Rising f
  pub down : amount ≤ℤ pos 0 → Falling f

-- z lies between zero and the amount
abbrev pub Toward : ℤ → ℤ → Type 0
Toward amount z = (pos 0 ≤ℤ amount → (pos 0 ≤ℤ z) × (z ≤ℤ amount)) × (amount ≤ℤ pos 0 → (amount ≤ℤ z) × (z ≤ℤ pos 0))
