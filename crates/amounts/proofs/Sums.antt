-- Sums of whole numbers over a list.
use Rattle.std.proofs.Common.{◌≡◌, ℕ, ◌+◌, ◌*◌, ◌<◌, List, [], ◌∷◌, ◌++◌, map, length, get_or, take, ℤ, pos, ◌+ℤ◌, ◌≤ℤ◌, ap, ◌∙◌, suc-mul, arith}
use Rattle.std.specs.List.{All}
use Rattle.std.proofs.lemmas.List.{map_more}
use Rattle.std.proofs.lemmas.List.Elements.{All-head, All-tail}
use Rattle.std.proofs.lemmas.Int.{ints}
use Rattle.amounts.specs.Sums.{sum_z}

pub sum_push : (xs : List ℤ) (y : ℤ) → sum_z (xs ++ y ∷ []) ≡ sum_z xs +ℤ y
sum_push [] y = omega (arith, ints)
sum_push (x ∷ xs) y = omega (arith, ints, sum_push xs y)

-- a loop's step
pub sum_more : {X : Type 0} (f : X → ℤ) (xs : List X) (i : ℕ) (d : X) → i < length xs → sum_z (map f (take (i + 1) xs)) ≡ sum_z (map f (take i xs)) +ℤ f (get_or xs i d)
sum_more f xs i d l = ap sum_z (map_more f xs i d l) ∙ sum_push (map f (take i xs)) (f (get_or xs i d))

-- from 0 to so many times the largest
pub sum_within : {X : Type 0} (f : X → ℤ) (most : ℕ) (xs : List X) → All (λ x. (pos 0 ≤ℤ f x) × (f x ≤ℤ pos most)) xs → (pos 0 ≤ℤ sum_z (map f xs)) × (sum_z (map f xs) ≤ℤ pos (length xs * most))
sum_within f most [] a = (omega (arith, ints), omega (arith, ints))
sum_within {X} f most (x ∷ xs) a =
    let P : X → Type 0 = λ y. (pos 0 ≤ℤ f y) × (f y ≤ℤ pos most) in
    let h = sum_within f most xs (All-tail P x xs a) in
    let l = All-head P x xs a in
    let m = suc-mul (length xs) most in
    (omega (arith, ints, h.0, l.0), omega (arith, ints, h.1, l.1, m))
