-- Tests against bounds, told by the order; and sums and products that fit 64 bits.
use Rattle.std.proofs.Common.{◌≡◌, true, T, ℤ, pos, negsuc, ◌≤ℤ◌, Some, None, int_le, sym, subst, arith}
use Rattle.std.proofs.lemmas.Int.{ints}
use Rattle.std.proofs.lemmas.Bool.{and_parts, and_from, cond-true}
use Rattle.amounts.specs.Arithmetic.{fits64, where_fits}
use Rattle.amounts.specs.Limits.{between}

pub le_told : (a b : ℤ) → int_le a b ≡ true → a ≤ℤ b
le_told a b e = record { le = subst T (sym e) tt }

pub le_yes : (a b : ℤ) → a ≤ℤ b → int_le a b ≡ true
le_yes a b h = grind (arith, ints)

pub between_told : (low high z : ℤ) → between low high z ≡ true → (low ≤ℤ z) × (z ≤ℤ high)
between_told low high z e = let p = and_parts (int_le low z) (int_le z high) e in (le_told low z p.0, le_told z high p.1)

pub between_yes : (low high z : ℤ) → low ≤ℤ z → z ≤ℤ high → between low high z ≡ true
between_yes low high z l h = and_from (int_le low z) (int_le z high) (le_yes low z l) (le_yes z high h)

-- what a checked operation answers where its result fits
pub where_fits_is : {A : Type 0} (made : ℤ → A) (z : ℤ) → negsuc 9223372036854775807 ≤ℤ z → z ≤ℤ pos 9223372036854775807 → where_fits made z ≡ Some (made z)
where_fits_is made z l h =
    cond-true (fits64 z) (Some (made z)) None (between_yes (negsuc 9223372036854775807) (pos 9223372036854775807) z l h)
