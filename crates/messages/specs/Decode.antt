-- What the first field of a run of bytes says: the event, or the first question that gets a no.
use Rattle.std.specs.Prelude.{ℕ, ◌+◌, ◌*◌, List, [], ◌∷◌, length, take, drop, Some, None, Ok, Err, Option, Result, ◌==◌, nat_le, slice_index, if◌then◌else◌}
use Rattle.std.specs.Int.{w32, cast_signed}
use Rattle.amounts.specs.declared.wire.WireKwh.{WireKwh}
use Rattle.amounts.specs.declared.wire.WireKwhChange.{WireKwhChange}
use Rattle.amounts.specs.declared.wire.WirePrice.{WirePrice}
use Rattle.messages.specs.declared.event.Event.{Event}
use Rattle.messages.specs.declared.event.Event.TheVariants.{Figures, Trade, Action, Close, Reconcile, Opening}
use Rattle.messages.specs.declared.fault.ReaderFault.{ReaderFault}
use Rattle.messages.specs.declared.fault.ReaderFault.TheVariants.{HeaderTruncated, LengthWrong, ValueTruncated}
use Rattle.messages.specs.declared.tag.Tag.{Tag}
use Rattle.messages.specs.declared.tag.Tag.TheVariants.{Figures as FiguresTag, Trade as TradeTag, Action as ActionTag, Close as CloseTag, Reconcile as ReconcileTag, Opening as OpeningTag}
use Rattle.messages.specs.Steps.{◌>>=◌}
use Rattle.messages.specs.Tag.{value_length, tag_at}
use Rattle.messages.specs.Field.{size, kind_of, flag_of}

-- the number of two bytes, and of four, at a place, highest byte first
abbrev pub pair : List ℕ → ℕ → ℕ
pair bs i = slice_index bs i * 256 + slice_index bs (i + 1)

abbrev pub quad : List ℕ → ℕ → ℕ
quad bs i = slice_index bs i * 16777216 + slice_index bs (i + 1) * 65536 + slice_index bs (i + 2) * 256 + slice_index bs (i + 3)

abbrev pub kwh : List ℕ → ℕ → WireKwh
kwh bs i = record { 0 = quad bs i }

-- in two's complement
abbrev pub change : List ℕ → ℕ → WireKwhChange
change bs i = record { 0 = cast_signed w32 (quad bs i) }

abbrev pub price : List ℕ → ℕ → WirePrice
price bs i = record { 0 = quad bs i }

-- the event that a value says under a tag
abbrev pub event_of : Tag → List ℕ → Result Event ReaderFault
event_of FiguresTag bs = Ok (Figures (slice_index bs 0) (kwh bs 1) (kwh bs 5) (kwh bs 9))
event_of TradeTag bs = Ok (Trade (slice_index bs 0) (slice_index bs 1) (kwh bs 2))
event_of ActionTag bs = do
  kind ← kind_of (slice_index bs 1)
  locational ← flag_of (slice_index bs 2)
  Ok (Action (slice_index bs 0) kind locational (kwh bs 3) (price bs 7))
event_of CloseTag bs = Ok Close
event_of ReconcileTag bs = Ok (Reconcile (slice_index bs 0) (pair bs 1) (change bs 3))
event_of OpeningTag bs =
    Ok (Opening (slice_index bs 0) (price bs 1) (price bs 5 ∷ price bs 9 ∷ price bs 13 ∷ price bs 17 ∷ price bs 21 ∷ price bs 25 ∷ price bs 29 ∷ []))

-- the event under a tag: the length has to be that of the tag, and as many bytes have to be there
abbrev pub valued : Tag → ℕ → List ℕ → Result Event ReaderFault
valued tag long bs =
    if long == value_length tag then
    (if nat_le (value_length tag) (length bs) then event_of tag (take (value_length tag) bs) else Err ValueTruncated)
    else Err LengthWrong

-- the event of a field, by its first byte, its length and the bytes after them
abbrev pub tagged : ℕ → ℕ → ℕ → List ℕ → Result Event ReaderFault
tagged place byte long bs = do
  tag ← tag_at place byte
  valued tag long bs

-- the first field of the bytes that are left at a place
abbrev pub field : ℕ → List ℕ → Result Event ReaderFault
field place bs = if nat_le 3 (length bs) then tagged place (slice_index bs 0) (pair bs 1) (drop 3 bs) else Err HeaderTruncated

abbrev pub some : Result Event ReaderFault → Result (Option Event) ReaderFault
some (Ok event) = Ok (Some event)
some (Err fault) = Err fault

-- the event at a place of the bytes; none at their end
abbrev pub decode : ℕ → List ℕ → Result (Option Event) ReaderFault
decode place bytes = if nat_le (length bytes) place then Ok None else some (field place (drop place bytes))

-- the place after an answer: an event moves it by its field's size
abbrev pub after : ℕ → Result (Option Event) ReaderFault → ℕ
after place (Ok None) = place
after place (Ok (Some event)) = place + size event
after place (Err fault) = place
