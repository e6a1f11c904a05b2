-- Numbers as bytes, highest byte first, and values byte by byte.
use Rattle.std.proofs.Common.{◌≡◌, ℕ, zero, suc, ◌+◌, ◌*◌, ◌/◌, ◌%◌, ◌^◌, ◌<◌, List, [], ◌∷◌, length, get_or, take, drop, map, sym, refl, ap, ◌∙◌, subst, arith, get_or-drop}
use Rattle.std.specs.List.{range_with_len}
use Rattle.std.proofs.lemmas.List.FromFn.{fill_by_all}
use Rattle.std.proofs.lemmas.Nat.{from_be_bytes-to_be_bytes_2, from_be_bytes-to_be_bytes_4}
use Rattle.messages.specs.Decode.{pair, quad}
use Rattle.messages.specs.Encode.{pair_of, quad_of}

-- a number of 32 bits is what its four bytes write, and one of 16 bits what its two bytes write
pub quad_there : (n : ℕ) → n < 2 ^ 32 → (n / 16777216 % 256) * 16777216 + (n / 65536 % 256) * 65536 + (n / 256 % 256) * 256 + n % 256 ≡ n
quad_there n h = from_be_bytes-to_be_bytes_4 n h

pub pair_there : (n : ℕ) → n < 2 ^ 16 → (n / 256 % 256) * 256 + n % 256 ≡ n
pair_there n h = from_be_bytes-to_be_bytes_2 n h

-- a list is its elements, one after another
pub spread : {A : Type 0} (xs : List A) (d : A) (n : ℕ) → length xs ≡ n → xs ≡ map (λ k. get_or xs k d) (range_with_len 0 n)
spread xs d n long = fill_by_all (λ k. get_or xs k d) xs n d long (λ k h. refl)

-- each place of the list holds a byte; past its end, where it reads 0, too
abbrev pub Bytes : List ℕ → Type 0
Bytes bs = (i : ℕ) → get_or bs i 0 < 256

pub drop_bytes : (n : ℕ) (bs : List ℕ) → Bytes bs → Bytes (drop n bs)
drop_bytes n bs b i = subst (λ m. m < 256) (sym (get_or-drop n bs i 0)) (b (n + i))

pub take_bytes : (n : ℕ) (bs : List ℕ) → Bytes bs → Bytes (take n bs)
take_bytes zero bs b i = omega arith
take_bytes (suc n) [] b i = omega arith
take_bytes (suc n) (x ∷ bs) b zero = b 0
take_bytes (suc n) (x ∷ bs) b (suc i) = take_bytes n bs (λ j. b (suc j)) i

-- four bytes, and two, are what the number that they write is written as
quad_back : (a b c d : ℕ) (more : List ℕ) → a < 256 → b < 256 → c < 256 → d < 256 → quad_of (a * 16777216 + b * 65536 + c * 256 + d) more ≡ a ∷ b ∷ c ∷ d ∷ more
quad_back a b c d more ha hb hc hd =
    let n : ℕ = a * 16777216 + b * 65536 + c * 256 + d in
    let e0 : n / 16777216 % 256 ≡ a = omega arith in
    let e1 : n / 65536 % 256 ≡ b = omega arith in
    let e2 : n / 256 % 256 ≡ c = omega arith in
    let e3 : n % 256 ≡ d = omega arith in
    λ i. e0 i ∷ e1 i ∷ e2 i ∷ e3 i ∷ more

pair_back : (a b : ℕ) (more : List ℕ) → a < 256 → b < 256 → pair_of (a * 256 + b) more ≡ a ∷ b ∷ more
pair_back a b more ha hb =
    let n : ℕ = a * 256 + b in
    let e0 : n / 256 % 256 ≡ a = omega arith in
    let e1 : n % 256 ≡ b = omega arith in
    λ i. e0 i ∷ e1 i ∷ more

module _ (bs : List ℕ) (b : Bytes bs) (i : ℕ) where
  -- the bytes at a place are what their number is written as
  pub quad_at : {more rest : List ℕ} → more ≡ rest → quad_of (quad bs i) more ≡ get_or bs i 0 ∷ get_or bs (i + 1) 0 ∷ get_or bs (i + 2) 0 ∷ get_or bs (i + 3) 0 ∷ rest
  quad_at {more} {rest} e =
      quad_back (get_or bs i 0) (get_or bs (i + 1) 0) (get_or bs (i + 2) 0) (get_or bs (i + 3) 0) more (b i) (b (i + 1)) (b (i + 2)) (b (i + 3))
      ∙ ap (λ l. get_or bs i 0 ∷ get_or bs (i + 1) 0 ∷ get_or bs (i + 2) 0 ∷ get_or bs (i + 3) 0 ∷ l) e

  pub pair_at : {more rest : List ℕ} → more ≡ rest → pair_of (pair bs i) more ≡ get_or bs i 0 ∷ get_or bs (i + 1) 0 ∷ rest
  pair_at {more} {rest} e =
      pair_back (get_or bs i 0) (get_or bs (i + 1) 0) more (b i) (b (i + 1)) ∙ ap (λ l. get_or bs i 0 ∷ get_or bs (i + 1) 0 ∷ l) e

  pub quad_fits : quad bs i < 2 ^ 32
  quad_fits = omega (arith, b i, b (i + 1), b (i + 2), b (i + 3))

  pub pair_fits : pair bs i < 2 ^ 16
  pair_fits = omega (arith, b i, b (i + 1))
