-- The bytes of an event's field: its tag, its length in two bytes, and its value.
use Rattle.std.specs.Prelude.{◌≡◌, ℕ, ◌/◌, ◌%◌, ◌^◌, ◌<◌, List, [], ◌∷◌, map, length, FitsSigned}
use Rattle.std.specs.Int.{w32, cast_unsigned}
use Rattle.std.specs.List.{All, flat_map}
use Rattle.messages.specs.declared.event.Event.{Event}
use Rattle.messages.specs.declared.event.Event.TheVariants.{Figures, Trade, Action, Close, Reconcile, Opening}
use Rattle.messages.specs.declared.tag.Tag.{Tag}
use Rattle.messages.specs.Tag.{byte, value_length}
use Rattle.messages.specs.Field.{tag, kind_byte, flag_byte}

-- a number in two bytes, and in four, highest byte first, before more bytes
abbrev pub pair_of : ℕ → List ℕ → List ℕ
pair_of n more = n / 256 % 256 ∷ n % 256 ∷ more

abbrev pub quad_of : ℕ → List ℕ → List ℕ
quad_of n more = n / 16777216 % 256 ∷ n / 65536 % 256 ∷ n / 256 % 256 ∷ n % 256 ∷ more

abbrev pub quads_of : List ℕ → List ℕ
quads_of numbers = flat_map (λ n. quad_of n []) numbers

abbrev pub value : Event → List ℕ
value (Figures user input output nomination) = user ∷ quad_of input.0 (quad_of output.0 (quad_of nomination.0 []))
value (Trade seller buyer quantity) = seller ∷ buyer ∷ quad_of quantity.0 []
value (Action user kind locational quantity price) =
    user ∷ kind_byte kind ∷ flag_byte locational ∷ quad_of quantity.0 (quad_of price.0 [])
value Close = []
value (Reconcile user day quantity) = user ∷ pair_of day (quad_of (cast_unsigned w32 quantity.0) [])
value (Opening users default_price averages) = users ∷ quad_of default_price.0 (quads_of (map (λ average. average.0) averages))

-- a value under its tag and its length
abbrev pub framed : Tag → List ℕ → List ℕ
framed tag value = byte tag ∷ pair_of (value_length tag) value

abbrev pub encode : Event → List ℕ
encode event = framed (tag event) (value event)

-- each number of an event fits its bytes, and an opening has seven averages, as every event of the code does
abbrev pub Whole : Event → Type 0
Whole (Figures user input output nomination) = (user < 2 ^ 8) × (input.0 < 2 ^ 32) × (output.0 < 2 ^ 32) × (nomination.0 < 2 ^ 32)
Whole (Trade seller buyer quantity) = (seller < 2 ^ 8) × (buyer < 2 ^ 8) × (quantity.0 < 2 ^ 32)
Whole (Action user kind locational quantity price) = (user < 2 ^ 8) × (quantity.0 < 2 ^ 32) × (price.0 < 2 ^ 32)
Whole Close = Unit {0}
Whole (Reconcile user day quantity) = (user < 2 ^ 8) × (day < 2 ^ 16) × FitsSigned w32 quantity.0
Whole (Opening users default_price averages) =
    (users < 2 ^ 8) × (default_price.0 < 2 ^ 32) × (length averages ≡ 7) × All (λ price. price.0 < 2 ^ 32) averages
