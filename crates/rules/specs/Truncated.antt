-- A quotient with its fraction dropped: what it is on both sides of zero, how it grows, and how it is computed by quotient and rest.
use Rattle.std.specs.Prelude.{◌≡◌, ℕ, zero, suc, ◌+◌, ◌-◌, ◌*◌, ◌/◌, ◌%◌, ◌<◌, ◌≤◌, cond, List, take, ℤ, pos, negsuc, ◌+ℤ◌, ◌-ℤ◌, ◌*ℤ◌, neg_ℤ, ◌≤ℤ◌, Some, None, sum, int_div, unsigned_abs, refl}
use Rattle.std.proofs.Common.{sym, ap, subst, ◌∙◌, arith, div-lt_iff_lt-mul, suc-mul, add-mul, mul_assoc, mul_comm, mul-le-mul_left, mul-div_cancel, div-add-mod'}
use Rattle.std.proofs.Math.Nat.{zero-div, add-mul-div_right}
use Rattle.std.specs.Option.{unwrap_or}
use Rattle.std.proofs.lemmas.Int.{ints, by_lt_z}
use Rattle.std.proofs.lemmas.Bool.{le-leb}
use Rattle.amounts.specs.Arithmetic.{FractionDropped}
use Rattle.amounts.proofs.Products.{times_zero, neg_times, add_times}
use Rattle.amounts.proofs.Roundings.{fraction_dropped, div_bounds}
use Rattle.rules.specs.SharingRules.{truncated, cut, running_shares, PrefixSumsTruncated}
use Rattle.rules.specs.Cuts.{Rising, Falling, Cuts, Toward}
use Rattle.rules.specs.Differences.{sum_front}

pub by_sign : (P : ℤ → Type 0) → ((n : ℕ) → P (pos n)) → ((n : ℕ) → P (neg_ℤ (pos n))) → (z : ℤ) → P z
by_sign P f g (pos n) = f n
by_sign P f g (negsuc n) = g (suc n)

-- nothing over 0
pub truncated_none : (n : ℤ) → truncated n 0 ≡ pos 0
truncated_none n = refl

pub truncated_is : (n : ℤ) (t : ℕ) → 0 < t → truncated n t ≡ int_div n (pos t)
truncated_is n t p = ap (λ b. unwrap_or (cond b (Some (int_div n (pos t))) None) (pos 0)) (le-leb 1 t p)

pub truncated_dropped : (n : ℤ) (t : ℕ) → 0 < t → FractionDropped n (pos t) (truncated n t)
truncated_dropped n t p = subst (FractionDropped n (pos t)) (sym (truncated_is n t p)) (fraction_dropped n (pos t) (omega (arith, ints)))

quot_neg : (n d : ℕ) → int_div (neg_ℤ (pos n)) (pos d) ≡ neg_ℤ (pos (n / d))
quot_neg zero d = omega (arith, ints, zero-div d)
quot_neg (suc n) d = refl

pub div_rising : (x y d : ℕ) → 0 < d → x ≤ y → x / d ≤ y / d
div_rising x y d p h =
    let b = div_bounds y d p in
    let l : x < suc (y / d) * d = omega (arith, b.1, suc-mul (y / d) d) in
    let k : x / d < suc (y / d) = (div-lt_iff_lt-mul p).1 l in
    omega arith

-- the cut on either side of zero, as a quotient of natural numbers
cut_pos : (a t p : ℕ) → 0 < t → cut (pos a) t p ≡ pos (a * p / t)
cut_pos a t p h = truncated_is (pos a *ℤ pos p) t h

cut_neg : (a t p : ℕ) → 0 < t → cut (neg_ℤ (pos a)) t p ≡ neg_ℤ (pos (a * p / t))
cut_neg a t p h =
    ap (λ z. truncated z t) (neg_times (pos a) p) ∙ truncated_is (neg_ℤ (pos (a * p))) t h ∙ quot_neg (a * p) t

pub cut_none : (amount : ℤ) (p : ℕ) → cut amount 0 p ≡ pos 0
cut_none amount p = refl

pub cut_start : (amount : ℤ) (t : ℕ) → cut amount t 0 ≡ pos 0
cut_start amount zero = refl
cut_start amount (suc t) =
    ap (λ z. truncated z (suc t)) (times_zero amount) ∙ truncated_is (pos 0) (suc t) (omega arith) ∙ ap pos (zero-div (suc t))

pub cut_whole : (amount : ℤ) (t : ℕ) → 0 < t → cut amount t t ≡ amount
cut_whole amount t h = by_sign (λ z. cut z t t ≡ z)
    (λ a. cut_pos a t t h ∙ ap pos (mul-div_cancel a h))
    (λ a. cut_neg a t t h ∙ ap (λ (n : ℕ). neg_ℤ (pos n)) (mul-div_cancel a h))
    amount

-- where there is a weight, the whole cut leaves nothing
pub nothing_remains : (amount : ℤ) (t : ℕ) → 0 < t → unsigned_abs (amount -ℤ cut amount t t) ≤ 0
nothing_remains amount t h =
    let e : amount -ℤ cut amount t t ≡ pos 0 = omega (arith, ints, cut_whole amount t h) in
    omega (arith, ap unsigned_abs e)

rising_pos : (a t : ℕ) → Rising (cut (pos a) t)
rising_pos a zero p q l = omega (arith, ints)
rising_pos a (suc t) p q l =
    let m : a * p ≤ a * q = mul-le-mul_left a l in
    let r = div_rising (a * p) (a * q) (suc t) (omega arith) m in
    omega (arith, ints, cut_pos a (suc t) p (omega arith), cut_pos a (suc t) q (omega arith), r)

falling_neg : (a t : ℕ) → Falling (cut (neg_ℤ (pos a)) t)
falling_neg a zero p q l = omega (arith, ints)
falling_neg a (suc t) p q l =
    let m : a * p ≤ a * q = mul-le-mul_left a l in
    let r = div_rising (a * p) (a * q) (suc t) (omega arith) m in
    omega (arith, ints, cut_neg a (suc t) p (omega arith), cut_neg a (suc t) q (omega arith), r)

pub cut_rising : (amount : ℤ) (t : ℕ) → pos 0 ≤ℤ amount → Rising (cut amount t)
cut_rising (pos a) t h = rising_pos a t
cut_rising (negsuc a) t h = absurd h.le

pub cut_falling : (amount : ℤ) (t : ℕ) → amount ≤ℤ pos 0 → Falling (cut amount t)
cut_falling (pos a) t h = let z : a ≡ 0 = omega (arith, ints) in subst (λ (n : ℕ). Falling (cut (pos n) t)) (sym z) (falling_neg 0 t)
cut_falling (negsuc a) t h = falling_neg (suc a) t

-- by quotient and rest: (a p) / t = (a / t) p + ((a % t) p) / t
div_split : (a t p : ℕ) → 0 < t → a * p / t ≡ (a / t) * p + (a % t) * p / t
div_split a t p h =
    let w : a * p ≡ ((a / t) * t + a % t) * p = ap (λ (n : ℕ). n * p) (sym (div-add-mod' a t)) in
    let m : (a / t) * (t * p) ≡ (a / t) * (p * t) = ap (λ (n : ℕ). (a / t) * n) (mul_comm t p) in
    let e : a * p ≡ (a % t) * p + ((a / t) * p) * t =
    omega (arith, add-mul ((a / t) * t) (a % t) p, mul_assoc (a / t) t p, mul_assoc (a / t) p t) in
    ap (λ (n : ℕ). n / t) e ∙ add-mul-div_right ((a % t) * p) ((a / t) * p) h ∙ omega arith

split_by : (amount q r : ℤ) (t p : ℕ) → truncated amount t ≡ q → amount -ℤ q *ℤ pos t ≡ r → cut amount t p ≡ q *ℤ pos p +ℤ truncated (r *ℤ pos p) t → cut amount t p ≡ truncated amount t *ℤ pos p +ℤ truncated ((amount -ℤ truncated amount t *ℤ pos t) *ℤ pos p) t
split_by amount q r t p e f g =
    subst (λ z. cut amount t p ≡ z *ℤ pos p +ℤ truncated ((amount -ℤ z *ℤ pos t) *ℤ pos p) t) (sym e)
    (subst (λ z. cut amount t p ≡ q *ℤ pos p +ℤ truncated (z *ℤ pos p) t) (sym f) g)

-- the same of the cut: the amount is quotient times t and the rest, and the cut is the quotient's part and the rest's
pub cut_split : (amount : ℤ) (t p : ℕ) → cut amount t p ≡ truncated amount t *ℤ pos p +ℤ truncated ((amount -ℤ truncated amount t *ℤ pos t) *ℤ pos p) t
cut_split amount zero p = omega (arith, ints)
cut_split amount (suc t) p =
    let d = suc t in
    let h : 0 < d = omega arith in
    by_sign (λ z. cut z d p ≡ truncated z d *ℤ pos p +ℤ truncated ((z -ℤ truncated z d *ℤ pos d) *ℤ pos p) d)
    (λ a. split_by (pos a) (pos (a / d)) (pos (a % d)) d p (truncated_is (pos a) d h)
    (omega (arith, ints, div-add-mod' a d))
    (omega (arith, ints, cut_pos a d p h, cut_pos (a % d) d p h, div_split a d p h)))
    (λ a. split_by (neg_ℤ (pos a)) (neg_ℤ (pos (a / d))) (neg_ℤ (pos (a % d))) d p (truncated_is (neg_ℤ (pos a)) d h ∙ quot_neg a d)
    (omega (arith, ints, div-add-mod' a d, neg_times (pos (a / d)) d))
    (omega (arith, ints, cut_neg a d p h, cut_neg (a % d) d p h, div_split a d p h, neg_times (pos (a / d)) p)))
    amount

-- a rate has the amount's sign
pub truncated_from_zero : (n : ℤ) (t : ℕ) → (pos 0 ≤ℤ n → pos 0 ≤ℤ truncated n t) × (n ≤ℤ pos 0 → truncated n t ≤ℤ pos 0)
truncated_from_zero n zero = ((λ l. omega (arith, ints)), (λ l. omega (arith, ints)))
truncated_from_zero n (suc t) =
    let d = truncated_dropped n (suc t) (omega arith) in
    ((λ l. (d.0 l).0), (λ l. (d.1 l).0))

pub times_rising : (r : ℤ) → pos 0 ≤ℤ r → Rising (λ p. r *ℤ pos p)
times_rising (pos a) h p q l = let m : a * p ≤ a * q = mul-le-mul_left a l in omega (arith, ints)
times_rising (negsuc a) h p q l = absurd h.le

pub times_falling : (r : ℤ) → r ≤ℤ pos 0 → Falling (λ p. r *ℤ pos p)
times_falling (pos a) h p q l =
    let z : a ≡ 0 = omega (arith, ints) in
    subst (λ (n : ℕ). (pos n *ℤ pos q) ≤ℤ (pos n *ℤ pos p)) (sym z) (omega (arith, ints))
times_falling (negsuc a) h p q l = let m : suc a * p ≤ suc a * q = mul-le-mul_left (suc a) l in omega (arith, ints)

-- each rule's function of the weights so far goes the amount's way
pub rate_cuts : (amount : ℤ) (t : ℕ) → Cuts amount (λ p. truncated amount t *ℤ pos p)
rate_cuts amount t =
    let s = truncated_from_zero amount t in
    record {
      start = times_zero (truncated amount t);
      up = λ h. times_rising (truncated amount t) (s.0 h);
      down = λ h. times_falling (truncated amount t) (s.1 h);
    }

pub cut_cuts : (amount : ℤ) (t : ℕ) → Cuts amount (cut amount t)
cut_cuts amount t = record { start = cut_start amount t; up = cut_rising amount t; down = cut_falling amount t }

-- all weights together have no more than the amount
pub rate_whole : (amount : ℤ) (t : ℕ) → Toward amount (truncated amount t *ℤ pos t)
rate_whole amount zero = ((λ h. (omega (arith, ints), omega (arith, ints))), (λ h. (omega (arith, ints), omega (arith, ints))))
rate_whole amount (suc t) =
    let c = rate_cuts amount (suc t) in
    let d = truncated_dropped amount (suc t) (omega arith) in (
      (λ h. let e = d.0 h in let a = c.up h 0 (suc t) (omega arith) in (omega (arith, ints, c.start, a), e.1)),
      (λ h. let e = d.1 h in let a = c.down h 0 (suc t) (omega arith) in (e.1, omega (arith, ints, c.start, a))),
    )

self_toward : (amount z : ℤ) → z ≡ amount → Toward amount z
self_toward amount z e = ((λ h. (omega (arith, ints), omega (arith, ints))), (λ h. (omega (arith, ints), omega (arith, ints))))

zero_toward : (amount z : ℤ) → z ≡ pos 0 → Toward amount z
zero_toward amount z e = ((λ h. (omega (arith, ints), omega (arith, ints))), (λ h. (omega (arith, ints), omega (arith, ints))))

pub cut_whole_toward : (amount : ℤ) (t : ℕ) → Toward amount (cut amount t t)
cut_whole_toward amount zero = zero_toward amount (cut amount zero zero) refl
cut_whole_toward amount (suc t) = self_toward amount (cut amount (suc t) (suc t)) (cut_whole amount (suc t) (omega arith))

-- what a whole rate leaves is smaller than the total
pub rest_small : (amount : ℤ) (t : ℕ) → 0 < t → unsigned_abs (amount -ℤ truncated amount t *ℤ pos t) ≤ t - 1
rest_small amount t h =
    let q = truncated amount t in
    let d = truncated_dropped amount t h in
    let more = add_times q (pos 1) t in
    let less = add_times q (negsuc 0) t in
    by_lt_z amount (pos 0)
    (λ l. let e = d.1 (omega (arith, ints)) in omega (arith, ints, e.1, e.2, less))
    (λ l. let e = d.0 l in omega (arith, ints, e.1, e.2, more))

pub prefixes_truncated : (amount : ℤ) (ws : List ℕ) → 0 < sum ws → PrefixSumsTruncated amount ws (running_shares amount ws)
prefixes_truncated amount ws some k =
    subst (FractionDropped (amount *ℤ pos (sum (take k ws))) (pos (sum ws)))
    (sym (sum_front (cut amount (sum ws)) ws k (cut_start amount (sum ws))))
    (truncated_dropped (amount *ℤ pos (sum (take k ws))) (sum ws) some)
