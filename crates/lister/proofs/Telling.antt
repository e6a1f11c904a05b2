-- The lines tell the bytes.
use Rattle.std.proofs.Common.{◌≡◌, ℕ, zero, suc, ◌+◌, ◌-◌, ◌<◌, ◌≤◌, cond, List, length, take, drop, IfOk, Some, None, Ok, Err, Option, Result, sym, refl, ap, ◌∙◌, subst, arith, length-drop, length-take, drop-drop, le-leb}
use Rattle.std.proofs.lemmas.List.{drop_all}
use Rattle.messages.specs.declared.event.Event.{Event}
use Rattle.messages.specs.declared.fault.ReaderFault.{ReaderFault}
use Rattle.messages.specs.declared.fault.ReaderFault.TheVariants.{InputTooLong}
use Rattle.messages.specs.Decode.{field, some, decode}
use Rattle.messages.specs.Field.{size}
use Rattle.messages.specs.Message.{Message}
use Rattle.messages.proofs.Canonical.{field_message}
use Rattle.messages.proofs.Numbers.{Bytes, drop_bytes}
use Rattle.messages.proofs.RoundTrip.{message_reads}
use Rattle.messages.proofs.Fields.{Answer, encode_size, decode_end, decode_within}
use Rattle.lister.specs.Lines.{answered, lines_from, lines_left, coming_at, first_stage, listed}
use Rattle.lister.specs.Tells.{Tells}
use Rattle.lister.proofs.Enough.{read_within, fewer, end_at}

accepted : (P : Event → Type 0) (event : Event) (r : Answer) → some r ≡ Ok (Some event) → IfOk r P → P event
accepted P event (Ok read) e p = let same : read ≡ event = cc in subst P same p
accepted P event (Err fault) e p = cc

message_within : (place : ℕ) (bs : List ℕ) (event : Event) → Message place bs event → size event ≤ length bs
message_within place bs event m =
    let long : length (take (size event) bs) ≡ size event = ap length m.same ∙ encode_size event m.whole in
    omega (arith, length-take (size event) bs)

module _ (bytes : List ℕ) (b : Bytes bytes) where
  read_message : (place : ℕ) (event : Event) → decode place bytes ≡ Ok (Some event) → Message place (drop place bytes) event
  read_message place event e =
      let within : place < length bytes = read_within bytes place event e in
      accepted (Message place (drop place bytes)) event (field place (drop place bytes)) (sym (decode_within place bytes within) ∙ e) (field_message place (drop place bytes) (drop_bytes place bytes b))

  tells_by : (most events place : ℕ) → place ≤ length bytes → (r : Result (Option Event) ReaderFault) → decode place bytes ≡ r → ((event : Event) → decode place bytes ≡ Ok (Some event) → place + size event ≤ length bytes → Tells (drop (place + size event) bytes) (events + 1) (place + size event) (lines_from most bytes (events + 1) (place + size event))) → Tells (drop place bytes) events place (answered (lines_from most bytes) bytes events place r)
  tells_by most events place h (Ok (Some event)) e more =
      let m : Message place (drop place bytes) event = read_message place event e in
      let fits : place + size event ≤ length bytes = omega (arith, message_within place (drop place bytes) event m, length-drop place bytes) in
      let rest : drop (place + size event) bytes ≡ drop (size event) (drop place bytes) = sym (drop-drop (size event) place bytes ∙ ap (λ n. drop n bytes) (omega arith)) in
      (refl, m, subst (λ l. Tells l (events + 1) (place + size event) (lines_from most bytes (events + 1) (place + size event))) rest (more event e fits))
  tells_by most events place h (Ok None) e more = (drop_all place bytes (omega (arith, end_at place bytes h (sym e))), refl, end_at place bytes h (sym e), refl)
  tells_by most events place h (Err fault) e more = (
    refl,
    (λ none. let z = sym e ∙ decode_end place bytes (omega (arith, length-drop place bytes, ap length none)) in cc),
    (λ event m. let z = sym e ∙ message_reads place bytes event m in cc),
    refl,
  )

  pub tells : (most events place : ℕ) → place ≤ length bytes → length bytes - place < most → Tells (drop place bytes) events place (lines_from most bytes events place)
  unfolding lines_from
  tells zero events place h p = absurd (omega arith)
  tells (suc most) events place h p =
      tells_by most events place h (decode place bytes) refl
      (λ event e fits. tells most (events + 1) (place + size event) fits (fewer bytes place most event e p))

  -- the bytes that a program takes in
  pub listed_tells : length bytes ≤ 65536 → Tells bytes 0 0 (listed bytes)
  listed_tells h =
      let is : listed bytes ≡ lines_left bytes 0 0 = ap (λ t. coming_at (first_stage (cond t (Ok tt) (Err InputTooLong))) bytes 0 0) (le-leb (length bytes) 65536 h) in
      subst (Tells bytes 0 0) (sym is) (tells (suc (length bytes - 0)) 0 0 (omega arith) (omega arith))
