-- What the unit rule owes as a sharing rule: its shares are the differences of the rate's multiples.
use Rattle.std.specs.Prelude.{◌≡◌, ℕ, ◌<◌, ◌≤◌, List, length, ℤ, pos, ◌+ℤ◌, ◌*ℤ◌, ◌≤ℤ◌, sum, slice_index, slice_index_or, unsigned_abs}
use Rattle.std.proofs.Common.{sym, subst}
use Rattle.std.specs.List.{All}
use Rattle.amounts.specs.Sums.{sum_z}
use Rattle.rules.specs.SharingRules.{rate, unit_shares, unit_remainder, unit_margin, differences}
use Rattle.rules.specs.Differences.{in_proportion, adds_up, zero_difference, none_of_zero, none_across_zero}
use Rattle.rules.specs.Truncated.{rate_cuts, rest_small}

abbrev multiples : ℤ → List ℕ → ℕ → ℤ
multiples amount ws p = rate amount ws *ℤ pos p

-- the shares, as differences of the rate's multiples
pub as_differences : (amount : ℤ) (ws : List ℕ) → unit_shares amount ws ≡ differences (multiples amount ws) 0 ws
as_differences amount ws = in_proportion (rate amount ws) 0 ws

pub shares_add_up : (amount : ℤ) (ws : List ℕ) → sum_z (unit_shares amount ws) +ℤ unit_remainder amount ws ≡ amount
shares_add_up amount ws = rw (as_differences amount ws) (adds_up amount (multiples amount ws) (rate_cuts amount (sum ws)) ws)

pub none_for_zero : (amount : ℤ) (ws : List ℕ) (k : ℕ) → k < length ws → slice_index ws k ≡ 0 → slice_index_or (unit_shares amount ws) k (pos 0) ≡ pos 0
none_for_zero amount ws k l e = rw (as_differences amount ws) (zero_difference (multiples amount ws) 0 ws k l e)

pub zero_shared : (ws : List ℕ) → All (λ share. share ≡ pos 0) (unit_shares (pos 0) ws)
zero_shared ws =
    subst (All (λ share. share ≡ pos 0)) (sym (as_differences (pos 0) ws)) (none_of_zero (multiples (pos 0) ws) (rate_cuts (pos 0) (sum ws)) ws)

pub shares_on_one_side : (amount : ℤ) (ws : List ℕ) → (pos 0 ≤ℤ amount → All (λ share. pos 0 ≤ℤ share) (unit_shares amount ws)) × (amount ≤ℤ pos 0 → All (λ share. share ≤ℤ pos 0) (unit_shares amount ws))
shares_on_one_side amount ws =
    rw (as_differences amount ws) (none_across_zero amount (multiples amount ws) (rate_cuts amount (sum ws)) ws)

pub remainder_small : (amount : ℤ) (ws : List ℕ) → 0 < sum ws → unsigned_abs (unit_remainder amount ws) ≤ unit_margin (sum ws)
remainder_small amount ws some = rest_small amount (sum ws) some
