-- Weights add up within 32 bits, and parts of an amount that fits 64 bits fit 64 bits.
use Rattle.std.proofs.Common.{◌≡◌, ℕ, zero, suc, ◌-◌, ◌≤◌, List, length, sum, ℤ, pos, negsuc, ◌+ℤ◌, ◌-ℤ◌, ◌*ℤ◌, nat_abs, ◌≤ℤ◌, sym, ap, ◌∙◌, subst, arith, w64, SFits, to_z, of_z}
use Rattle.std.specs.List.{All}
use Rattle.std.proofs.lemmas.List.Sums.{sum_by-le}
use Rattle.std.proofs.lemmas.Int.{ints, by_lt_z, to_z-of_z}
use Rattle.amounts.proofs.Products.{times_zero, times_le}
use Rattle.rules.specs.SharingRules.{truncated, cut}
use Rattle.rules.specs.Cuts.{Cuts, Toward}
use Rattle.rules.specs.Truncated.{rate_cuts, rate_whole, cut_cuts, cut_whole_toward, cut_split, rest_small}

-- what at most 32 weights within their limit add up to
pub sum_small : (ws : List ℕ) → length ws ≤ 32 → All (λ w. w ≤ 2000000) ws → sum ws ≤ 64000000
sum_small ws few each = omega (arith, sum_by-le (λ x. x) 2000000 ws each)

pub toward_fits : (amount z : ℤ) → SFits w64 amount → Toward amount z → SFits w64 z
toward_fits amount z f t =
    by_lt_z amount (pos 0)
    (λ l. let e = t.1 (omega (arith, ints)) in omega (arith, ints, e.0, e.1))
    (λ l. let e = t.0 l in omega (arith, ints, e.0, e.1))

pub rest_fits : (amount z : ℤ) → SFits w64 amount → Toward amount z → SFits w64 (amount -ℤ z)
rest_fits amount z f t =
    by_lt_z amount (pos 0)
    (λ l. let e = t.1 (omega (arith, ints)) in omega (arith, ints, e.0, e.1))
    (λ l. let e = t.0 l in omega (arith, ints, e.0, e.1))

-- what holds of the whole holds of each part
pub toward_part : (amount : ℤ) (f : ℕ → ℤ) → Cuts amount f → (t p : ℕ) → p ≤ t → Toward amount (f t) → Toward amount (f p)
toward_part amount f c t p l w = (
  (λ h. let e = w.0 h in let a = c.up h 0 p (omega arith) in let b = c.up h p t l in (omega (arith, ints, c.start, a), omega (arith, ints, e.1, b))),
  (λ h. let e = w.1 h in let a = c.down h 0 p (omega arith) in let b = c.down h p t l in (omega (arith, ints, e.0, b), omega (arith, ints, c.start, a))),
)

pub rate_toward : (amount : ℤ) (t p : ℕ) → p ≤ t → Toward amount (truncated amount t *ℤ pos p)
rate_toward amount t p l = toward_part amount (λ q. truncated amount t *ℤ pos q) (rate_cuts amount t) t p l (rate_whole amount t)

pub cut_toward : (amount : ℤ) (t p : ℕ) → p ≤ t → Toward amount (cut amount t p)
cut_toward amount t p l = toward_part amount (cut amount t) (cut_cuts amount t) t p l (cut_whole_toward amount t)

-- the rest's product by a part of the total
pub rest_times_fits : (amount : ℤ) (t p : ℕ) → p ≤ t → t ≤ 64000000 → SFits w64 ((amount -ℤ truncated amount t *ℤ pos t) *ℤ pos p)
rest_times_fits amount zero p l s =
    let z : p ≡ 0 = omega arith in
    subst (λ (n : ℕ). SFits w64 ((amount -ℤ truncated amount zero *ℤ pos zero) *ℤ pos n)) (sym z)
    (subst (SFits w64) (sym (times_zero (amount -ℤ truncated amount zero *ℤ pos zero))) (omega (arith, ints)))
rest_times_fits amount (suc t) p l s =
    let r = amount -ℤ truncated amount (suc t) *ℤ pos (suc t) in
    let small : nat_abs r ≤ suc t - 1 = rest_small amount (suc t) (omega arith) in
    let high = times_le r (pos 64000000) p (omega (arith, ints)) in
    let low = times_le (negsuc 63999999) r p (omega (arith, ints)) in
    omega (arith, ints, high, low)

-- a part of what a rate shares
pub part_fits : (amount q : ℤ) (t p : ℕ) → SFits w64 amount → p ≤ t → q ≡ truncated amount t → SFits w64 (q *ℤ pos p)
part_fits amount q t p f l e =
    subst (λ z. SFits w64 (z *ℤ pos p)) (sym e) (toward_fits amount (truncated amount t *ℤ pos p) f (rate_toward amount t p l))

-- and its product is that part
pub part_is : (amount q : ℤ) (t p : ℕ) → SFits w64 amount → p ≤ t → q ≡ truncated amount t → to_z w64 (of_z w64 (q *ℤ pos p)) ≡ truncated amount t *ℤ pos p
part_is amount q t p f l e = to_z-of_z w64 (q *ℤ pos p) (part_fits amount q t p f l e) ∙ ap (λ z. z *ℤ pos p) e

-- the rest's product by a part
pub rests_fit : (amount r : ℤ) (t p : ℕ) → p ≤ t → t ≤ 64000000 → r ≡ amount -ℤ truncated amount t *ℤ pos t → SFits w64 (r *ℤ pos p)
rests_fit amount r t p l s e = subst (λ z. SFits w64 (z *ℤ pos p)) (sym e) (rest_times_fits amount t p l s)

-- what the rate gives a part, and what is the part's of the rest, are the cut
cut_of_both : (amount r x y : ℤ) (t p : ℕ) → r ≡ amount -ℤ truncated amount t *ℤ pos t → x ≡ truncated amount t *ℤ pos p → y ≡ truncated (r *ℤ pos p) t → x +ℤ y ≡ cut amount t p
cut_of_both amount r x y t p e f g = rw f (rw g (rw e (sym (cut_split amount t p))))

pub split_fits : (amount r x y : ℤ) (t p : ℕ) → SFits w64 amount → p ≤ t → r ≡ amount -ℤ truncated amount t *ℤ pos t → x ≡ truncated amount t *ℤ pos p → y ≡ truncated (r *ℤ pos p) t → SFits w64 (x +ℤ y)
split_fits amount r x y t p fits l e f g =
    subst (SFits w64) (sym (cut_of_both amount r x y t p e f g)) (toward_fits amount (cut amount t p) fits (cut_toward amount t p l))

pub split_is : (amount r x y : ℤ) (t p : ℕ) → SFits w64 amount → p ≤ t → r ≡ amount -ℤ truncated amount t *ℤ pos t → x ≡ truncated amount t *ℤ pos p → y ≡ truncated (r *ℤ pos p) t → to_z w64 (of_z w64 (x +ℤ y)) ≡ cut amount t p
split_is amount r x y t p fits l e f g =
    to_z-of_z w64 (x +ℤ y) (split_fits amount r x y t p fits l e f g) ∙ cut_of_both amount r x y t p e f g

pub passed_difference : {x y a b : ℤ} → x ≡ a → y ≡ b → SFits w64 (a -ℤ b) → to_z w64 (of_z w64 (x -ℤ y)) ≡ a -ℤ b
passed_difference {x} {y} {a} {b} e g f = ap (λ z. to_z w64 (of_z w64 (z -ℤ y))) e ∙ ap (λ z. to_z w64 (of_z w64 (a -ℤ z))) g ∙ to_z-of_z w64 (a -ℤ b) f

-- what a part adds to a part
pub gap_fits : (amount : ℤ) (f : ℕ → ℤ) → Cuts amount f → (t p q : ℕ) → Toward amount (f t) → SFits w64 amount → p ≤ q → q ≤ t → SFits w64 (f q -ℤ f p)
gap_fits amount f c t p q w fits l m =
    let a = toward_part amount f c t p (omega arith) w in
    let b = toward_part amount f c t q m w in
    by_lt_z amount (pos 0)
    (λ n. let h : amount ≤ℤ pos 0 = omega (arith, ints) in let d = c.down h p q l in let u = a.1 h in let v = b.1 h in omega (arith, ints, d, u.0, u.1, v.0, v.1))
    (λ n. let d = c.up n p q l in let u = a.0 n in let v = b.0 n in omega (arith, ints, d, u.0, u.1, v.0, v.1))
