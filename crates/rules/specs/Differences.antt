-- What both sharing rules have from being differences of one function of the weights so far.
use Rattle.std.specs.Prelude.{◌≡◌, ℕ, zero, suc, ◌+◌, ◌<◌, ◌≤◌, List, [], ◌∷◌, ◌++◌, map, length, take, ℤ, pos, ◌+ℤ◌, ◌-ℤ◌, ◌*ℤ◌, ◌≤ℤ◌, sum, slice_index, slice_index_or, slice_set, refl}
use Rattle.std.proofs.Common.{sym, ap, ◌∙◌, arith, add_assoc, add-zero, zero-add}
use Rattle.std.specs.List.{All}
use Rattle.std.proofs.lemmas.List.Elements.{All-nil, All-cons}
use Rattle.std.proofs.lemmas.List.{take_more, take_more_set}
use Rattle.std.proofs.lemmas.Int.{ints}
use Rattle.std.proofs.lemmas.List.Sums.{sum_by-cons}
use Rattle.amounts.specs.Sums.{sum_z}
use Rattle.amounts.proofs.Products.{times_add}
use Rattle.rules.specs.SharingRules.{differences}
use Rattle.rules.specs.Cuts.{Cuts}

pub length_differences : (f : ℕ → ℤ) (p : ℕ) (ws : List ℕ) → length (differences f p ws) ≡ length ws
length_differences f p [] = refl
length_differences f p (w ∷ ws) = ap suc (length_differences f (p + w) ws)

-- the differences of any front add up to the function's difference over it
pub sum_differences : (f : ℕ → ℤ) (p : ℕ) (ws : List ℕ) → sum_z (differences f p ws) ≡ f (p + sum ws) -ℤ f p
sum_differences f p [] =
    let e : f (p + 0) ≡ f p = ap f (add-zero p) in
    omega (arith, ints)
sum_differences f p (w ∷ ws) =
    let e : f ((p + w) + sum ws) ≡ f (p + sum (w ∷ ws)) = ap f (add_assoc p w (sum ws) ∙ ap (λ (n : ℕ). p + n) (sym (sum_by-cons (λ x. x) w ws))) in
    omega (arith, ints, sum_differences f (p + w) ws)

pub take_differences : (f : ℕ → ℤ) (p : ℕ) (ws : List ℕ) (k : ℕ) → take k (differences f p ws) ≡ differences f p (take k ws)
take_differences f p ws zero = refl
take_differences f p [] (suc k) = refl
take_differences f p (w ∷ ws) (suc k) = ap (λ xs. (f (p + w) -ℤ f p) ∷ xs) (take_differences f (p + w) ws k)

pub zero_difference : (f : ℕ → ℤ) (p : ℕ) (ws : List ℕ) (k : ℕ) → k < length ws → slice_index ws k ≡ 0 → slice_index_or (differences f p ws) k (pos 0) ≡ pos 0
zero_difference f p [] k l e = refl
zero_difference f p (w ∷ ws) zero l e =
    let h : f (p + w) ≡ f p = ap (λ (n : ℕ). f (p + n)) e ∙ ap f (add-zero p) in
    omega (arith, ints)
zero_difference f p (w ∷ ws) (suc k) l e = zero_difference f (p + w) ws k (omega arith) e

-- what holds of the function's every step holds of the differences
pub each_difference : (P : ℤ → Type 0) (f : ℕ → ℤ) → ((p q : ℕ) → p ≤ q → P (f q -ℤ f p)) → (p : ℕ) (ws : List ℕ) → All P (differences f p ws)
each_difference P f step p [] = All-nil P
each_difference P f step p (w ∷ ws) =
    All-cons P (f (p + w) -ℤ f p) (differences f (p + w) ws) (step p (p + w) (omega arith)) (each_difference P f step (p + w) ws)

-- a share in proportion to each weight is a difference too
pub in_proportion : (r : ℤ) (p : ℕ) (ws : List ℕ) → map (λ w. r *ℤ pos w) ws ≡ differences (λ q. r *ℤ pos q) p ws
in_proportion r p [] = refl
in_proportion r p (w ∷ ws) =
    let h : r *ℤ pos w ≡ r *ℤ pos (p + w) -ℤ r *ℤ pos p = omega (arith, ints, times_add r p w) in
    let t = in_proportion r (p + w) ws in
    cc

pub adds_up : (amount : ℤ) (f : ℕ → ℤ) → Cuts amount f → (ws : List ℕ) → sum_z (differences f 0 ws) +ℤ (amount -ℤ f (sum ws)) ≡ amount
adds_up amount f c ws =
    let e : f (0 + sum ws) ≡ f (sum ws) = ap f (zero-add (sum ws)) in
    omega (arith, ints, sum_differences f 0 ws, c.start)

pub none_across_zero : (amount : ℤ) (f : ℕ → ℤ) → Cuts amount f → (ws : List ℕ) → (pos 0 ≤ℤ amount → All (λ x. pos 0 ≤ℤ x) (differences f 0 ws)) × (amount ≤ℤ pos 0 → All (λ x. x ≤ℤ pos 0) (differences f 0 ws))
none_across_zero amount f c ws = (
  (λ h. each_difference (λ x. pos 0 ≤ℤ x) f (λ p q l. let m = c.up h p q l in omega (arith, ints, m)) 0 ws),
  (λ h. each_difference (λ x. x ≤ℤ pos 0) f (λ p q l. let m = c.down h p q l in omega (arith, ints, m)) 0 ws),
)

pub none_of_zero : (f : ℕ → ℤ) → Cuts (pos 0) f → (ws : List ℕ) → All (λ x. x ≡ pos 0) (differences f 0 ws)
none_of_zero f c ws =
    each_difference (λ x. x ≡ pos 0) f
    (λ p q l.
    let up = c.up (omega (arith, ints)) p q l in
    let down = c.down (omega (arith, ints)) p q l in
    omega (arith, ints, up, down))
    0 ws

pub all_remains : (amount : ℤ) (f : ℕ → ℤ) → Cuts amount f → (ws : List ℕ) → sum ws ≡ 0 → amount -ℤ f (sum ws) ≡ amount
all_remains amount f c ws z =
    let e : f (sum ws) ≡ f 0 = ap f z in
    omega (arith, ints, c.start)

-- one weight more, s being the sum of those before it
pub differences_push : (f : ℕ → ℤ) (p : ℕ) (ws : List ℕ) (w s : ℕ) → s ≡ p + sum ws → differences f p (ws ++ w ∷ []) ≡ differences f p ws ++ (f (s + w) -ℤ f s) ∷ []
differences_push f p [] w s e =
    let h : s ≡ p = e ∙ add-zero p in
    ap (λ (n : ℕ). (f (n + w) -ℤ f n) ∷ []) (sym h)
differences_push f p (x ∷ xs) w s e =
    let h : s ≡ (p + x) + sum xs = e ∙ ap (λ (n : ℕ). p + n) (sum_by-cons (λ y. y) x xs) ∙ sym (add_assoc p x (sum xs)) in
    ap (λ ys. (f (p + x) -ℤ f p) ∷ ys) (differences_push f (p + x) xs w s h)

pub differences_more : (f : ℕ → ℤ) (ws : List ℕ) (i : ℕ) → i < length ws → differences f 0 (take (i + 1) ws) ≡ differences f 0 (take i ws) ++ (f (sum (take i ws) + slice_index ws i) -ℤ f (sum (take i ws))) ∷ []
differences_more f ws i l =
    ap (differences f 0) (take_more ws i 0 l) ∙ differences_push f 0 (take i ws) (slice_index ws i) (sum (take i ws)) (sym (zero-add (sum (take i ws))))

-- one share more is written
pub written_more : (into front : List ℤ) (i : ℕ) {y z : ℤ} → i < length into → take i into ≡ front → y ≡ z → take (i + 1) (slice_set into i y) ≡ front ++ z ∷ []
written_more into front i {y} {z} l e f = take_more_set into i y l ∙ ap (λ xs. xs ++ y ∷ []) e ∙ ap (λ x. front ++ x ∷ []) f

-- each front of the differences adds up to the function of the weights so far
pub sum_front : (f : ℕ → ℤ) (ws : List ℕ) (k : ℕ) → f 0 ≡ pos 0 → sum_z (take k (differences f 0 ws)) ≡ f (sum (take k ws))
sum_front f ws k start =
    let e : f (0 + sum (take k ws)) ≡ f (sum (take k ws)) = ap f (zero-add (sum (take k ws))) in
    ap sum_z (take_differences f 0 ws k) ∙ omega (arith, ints, sum_differences f 0 (take k ws))
