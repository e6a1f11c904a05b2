-- Products of a whole number and a natural number: they add up on either side, and keep the order.
use Rattle.std.proofs.Common.{◌≡◌, ℕ, zero, suc, ◌+◌, ℤ, pos, ◌+ℤ◌, ◌*ℤ◌, neg_ℤ, ◌≤ℤ◌, ap, ◌∙◌, arith}
use Rattle.std.proofs.Math.IntN.{*ℤ_comm, *ℤ-zero, suc_ℤ-*ℤ}
use Rattle.std.proofs.lemmas.Int.{ints}

pub times_suc : (z : ℤ) (d : ℕ) → z *ℤ pos (suc d) ≡ z *ℤ pos d +ℤ z
times_suc z d = *ℤ_comm z (pos (suc d)) ∙ suc_ℤ-*ℤ (pos d) z ∙ ap (λ p. p +ℤ z) (*ℤ_comm (pos d) z)

pub times_zero : (z : ℤ) → z *ℤ pos 0 ≡ pos 0
times_zero z = *ℤ-zero z

-- (a + b) d = a d + b d
pub add_times : (a b : ℤ) (d : ℕ) → (a +ℤ b) *ℤ pos d ≡ a *ℤ pos d +ℤ b *ℤ pos d
add_times a b zero = omega (arith, ints, times_zero (a +ℤ b), times_zero a, times_zero b)
add_times a b (suc d) =
    omega (arith, ints, add_times a b d, times_suc (a +ℤ b) d, times_suc a d, times_suc b d)

-- a (d + e) = a d + a e
pub times_add : (a : ℤ) (d e : ℕ) → a *ℤ pos (d + e) ≡ a *ℤ pos d +ℤ a *ℤ pos e
times_add a d e = omega (arith, ints)

pub times_le : (a b : ℤ) (d : ℕ) → a ≤ℤ b → (a *ℤ pos d) ≤ℤ (b *ℤ pos d)
times_le a b zero h = omega (arith, ints, times_zero a, times_zero b)
times_le a b (suc d) h = omega (arith, ints, times_le a b d h, times_suc a d, times_suc b d)

pub neg_times : (a : ℤ) (d : ℕ) → neg_ℤ a *ℤ pos d ≡ neg_ℤ (a *ℤ pos d)
neg_times a zero = omega (arith, ints, times_zero (neg_ℤ a), times_zero a)
neg_times a (suc d) = omega (arith, ints, neg_times a d, times_suc (neg_ℤ a) d, times_suc a d)
