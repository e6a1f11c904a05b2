-- The message of an event is read as the event.
use Rattle.std.proofs.Common.{◌≡◌, ℕ, ◌+◌, ◌*◌, ◌/◌, ◌%◌, ◌^◌, ◌<◌, ◌≤◌, Bool, true, false, cond, List, [], ◌∷◌, ◌++◌, length, get_or, drop, Some, Ok, Err, sym, refl, ap, ◌∙◌, subst, arith, length-append, length-drop, take-append-drop, le-leb, w32}
use Rattle.std.specs.Int.{cast_signed, cast_unsigned}
use Rattle.std.proofs.lemmas.Bool.{cond-true}
use Rattle.std.proofs.lemmas.Int.{to_z-of_z}
use Rattle.std.proofs.lemmas.List.{take_at}
use mir.ValLaws.{of_z_fits}
use Rattle.amounts.specs.declared.wire.WirePrice.{WirePrice}
use Rattle.messages.specs.declared.event.ActionKind.{ActionKind}
use Rattle.messages.specs.declared.event.ActionKind.TheVariants.{Buy, Sell}
use Rattle.messages.specs.declared.event.Event.{Event}
use Rattle.messages.specs.declared.event.Event.TheVariants.{Figures, Trade, Action, Close, Reconcile, Opening}
use Rattle.messages.specs.declared.fault.ReaderFault.TheVariants.{HeaderTruncated, TagUnknown}
use Rattle.messages.specs.declared.tag.Tag.{Tag}
use Rattle.messages.specs.declared.tag.Tag.TheVariants.{Figures as FiguresTag, Trade as TradeTag, Action as ActionTag, Close as CloseTag, Reconcile as ReconcileTag, Opening as OpeningTag}
use Rattle.messages.specs.Steps.{◌>>=◌}
use Rattle.messages.specs.Tag.{byte, value_length, may_stand, tag_of, tag_at}
use Rattle.messages.specs.Field.{tag, size, stands_at, kind_byte, flag_byte, kind_of, flag_of}
use Rattle.messages.specs.Decode.{quad, event_of, valued, field, some, decode}
use Rattle.messages.specs.Encode.{value, encode, Whole}
use Rattle.messages.specs.Message.{Message}
use Rattle.messages.proofs.Numbers.{quad_there, pair_there, spread}
use Rattle.messages.proofs.Fields.{valued_at, decode_within, size_least, value_size, encode_size}

tag_known : (t : Tag) → tag_of (byte t) ≡ Ok t
tag_known FiguresTag = refl
tag_known TradeTag = refl
tag_known ActionTag = refl
tag_known CloseTag = refl
tag_known ReconcileTag = refl
tag_known OpeningTag = refl

length_there : (t : Tag) → (value_length t / 256 % 256) * 256 + value_length t % 256 ≡ value_length t
length_there FiguresTag = refl
length_there TradeTag = refl
length_there ActionTag = refl
length_there CloseTag = refl
length_there ReconcileTag = refl
length_there OpeningTag = refl

kind_there : (kind : ActionKind) → kind_of (kind_byte kind) ≡ Ok kind
kind_there Buy = refl
kind_there Sell = refl

flag_there : (flag : Bool) → flag_of (flag_byte flag) ≡ Ok flag
flag_there false = refl
flag_there true = refl

-- the value of an event says the event
value_reads : (event : Event) → Whole event → event_of (tag event) (value event) ≡ Ok event
value_reads (Figures user input output nomination) w =
    λ i. Ok (Figures user (record { 0 = quad_there input.0 w.1 i }) (record { 0 = quad_there output.0 w.2 i }) (record { 0 = quad_there nomination.0 w.3 i }))
value_reads (Trade seller buyer quantity) w = λ i. Ok (Trade seller buyer (record { 0 = quad_there quantity.0 w.2 i }))
value_reads (Action user kind locational quantity price) w =
    λ i. kind_there kind i >>= (λ k. flag_there locational i >>= (λ l. Ok (Action user k l (record { 0 = quad_there quantity.0 w.1 i }) (record { 0 = quad_there price.0 w.2 i }))))
value_reads Close w = refl
value_reads (Reconcile user day quantity) w =
    let back : cast_signed w32 (quad (encode (Reconcile user day quantity)) 6) ≡ quantity.0 = ap (cast_signed w32) (quad_there (cast_unsigned w32 quantity.0) (of_z_fits w32 quantity.0 w.2).fits) ∙ to_z-of_z w32 quantity.0 w.2 in
    λ i. Ok (Reconcile user (pair_there day w.1 i) (record { 0 = back i }))
value_reads (Opening users default_price averages) w =
    let none : WirePrice = record { 0 = 0 } in
    let at : ℕ → WirePrice = λ k. get_or averages k none in
    let fits : (k : ℕ) → k < 7 → (at k).0 < 2 ^ 32 = λ k h. w.3 k none (omega arith) in
    let there : (k : ℕ) → k < 7 → record { 0 = quad (value (Opening users default_price (at k ∷ []))) 5 } ≡ at k = λ k h i. record { 0 = quad_there (at k).0 (fits k h) i } in
    subst (λ l. event_of OpeningTag (value (Opening users default_price l)) ≡ Ok (Opening users default_price l)) (sym (spread averages none 7 w.2))
    (λ i. Ok (Opening users (record { 0 = quad_there default_price.0 w.1 i }) (there 0 (omega arith) i ∷ there 1 (omega arith) i ∷ there 2 (omega arith) i ∷ there 3 (omega arith) i ∷ there 4 (omega arith) i ∷ there 5 (omega arith) i ∷ there 6 (omega arith) i ∷ [])))

tag_there : (place : ℕ) (t : Tag) → may_stand t place ≡ true → tag_at place (byte t) ≡ Ok t
tag_there place t known = ap (λ r. r >>= (λ s. cond (may_stand s place) (Ok s) (Err TagUnknown))) (tag_known t) ∙ cond-true _ _ (Err TagUnknown) known

pub reads_field : (place : ℕ) (event : Event) (more : List ℕ) → Whole event → stands_at event place ≡ true → field place (encode event ++ more) ≡ Ok event
reads_field place event more w known =
    let t : Tag = tag event in
    let long : length (value event) ≡ value_length t = value_size event w in
    let fits : value_length t ≤ length (value event ++ more) = omega (arith, length-append (value event) more) in
    cond-true _ _ (Err HeaderTruncated) (le-leb 3 (length (encode event ++ more)) (omega arith))
    ∙ (λ i. tag_there place t known i >>= (λ s. valued s (length_there t i) (value event ++ more)))
    ∙ valued_at t (value event ++ more) fits
    ∙ ap (event_of t) (take_at (value event) more (value_length t) long)
    ∙ value_reads event w

-- the message of an event is read as the event
pub message_reads : (place : ℕ) (bytes : List ℕ) (event : Event) → Message place (drop place bytes) event → decode place bytes ≡ Ok (Some event)
message_reads place bytes event m =
    let bs : List ℕ = drop place bytes in
    let more : List ℕ = drop (size event) bs in
    let parts : bs ≡ encode event ++ more = sym (take-append-drop (size event) bs) ∙ ap (λ l. l ++ more) m.same in
    let long : length bs ≡ size event + length more = ap length parts ∙ length-append (encode event) more ∙ ap (λ n. n + length more) (encode_size event m.whole) in
    let within : place < length bytes = omega (arith, length-drop place bytes, size_least event) in
    decode_within place bytes within ∙ ap some (ap (field place) parts ∙ reads_field place event more m.whole m.known)
