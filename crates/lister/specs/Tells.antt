-- What the lines say of the bytes, in the words of the format alone: a run of messages, each with its place, up to the end of
-- the bytes or to a place where bytes are left and no event's message stands.
use Rattle.std.specs.Prelude.{◌≡◌, ℕ, ◌+◌, List, [], ◌∷◌, drop, ◌≢◌}
use Rattle.messages.specs.declared.event.Event.{Event}
use Rattle.messages.specs.Field.{size}
use Rattle.messages.specs.Message.{Message}
use Rattle.lister.specs.declared.line.Line.{Line}
use Rattle.lister.specs.declared.line.Line.TheVariants.{Read, Refused, Total}

-- the lines for the rest of the bytes from a place on, so many events having been read before
abbrev pub Tells : List ℕ → ℕ → ℕ → List Line → Type 0
Tells rest events place [] = ⊥
Tells rest events place (Read at event ∷ lines) = (at ≡ place) × Message place rest event × Tells (drop (size event) rest) (events + 1) (place + size event) lines
Tells rest events place (Total count bytes ∷ lines) = (rest ≡ []) × (count ≡ events) × (bytes ≡ place) × (lines ≡ [])
Tells rest events place (Refused fault at ∷ lines) = (at ≡ place) × (rest ≢ []) × ((event : Event) → Message place rest event → ⊥) × (lines ≡ [])
