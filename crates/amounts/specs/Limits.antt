-- The limits, as tests on whole numbers. Assumes nothing.
use Rattle.std.specs.Prelude.{Bool, ◌&&◌, ◌||◌, ℤ, pos, negsuc, int_le}

-- from one number to another, both among them
abbrev pub between : ℤ → ℤ → ℤ → Bool
between low high z = int_le low z && int_le z high

-- an input, an output or an input nomination
abbrev pub is_figure : ℤ → Bool
is_figure z = between (pos 0) (pos 1000000) z

-- the quantity of a trade or an action
abbrev pub is_quantity : ℤ → Bool
is_quantity z = between (pos 1) (pos 1000000) z

-- the quantity of a reconciliation: either way, and not 0
abbrev pub is_reconciliation : ℤ → Bool
is_reconciliation z = between (negsuc 999999) (negsuc 0) z || between (pos 1) (pos 1000000) z

-- an offer price, an average or a fixed price
abbrev pub is_in_limit : ℤ → Bool
is_in_limit z = between (pos 0) (pos 1000000) z

-- a default price
abbrev pub is_default : ℤ → Bool
is_default z = between (pos 0) (pos 100000) z

-- a balance: within 10^17 either side of zero
abbrev pub is_balance : ℤ → Bool
is_balance z = between (negsuc 99999999999999999) (pos 100000000000000000) z
