-- The lines that a listing has still to give, from one line to the next.
use Rattle.std.proofs.Common.{◌≡◌, ℕ, zero, suc, ◌+◌, ◌-◌, ◌<◌, ◌≤◌, List, ◌∷◌, length, drop, Some, None, Ok, Err, Option, Result, sym, refl, ap, ◌∙◌, arith}
use Rattle.messages.specs.declared.event.Event.{Event}
use Rattle.messages.specs.declared.fault.ReaderFault.{ReaderFault}
use Rattle.messages.specs.Decode.{field, some, decode}
use Rattle.messages.specs.Field.{size}
use Rattle.messages.proofs.Fields.{size_least, decode_end, decode_within}
use Rattle.lister.specs.declared.line.Line.TheVariants.{Read}
use Rattle.lister.specs.Lines.{answered, lines_from, lines_left}

-- an event is read only before the end of the bytes
pub read_within : (bytes : List ℕ) (place : ℕ) (event : Event) → decode place bytes ≡ Ok (Some event) → place < length bytes
read_within bytes place event e =
    let no : length bytes ≤ place → ⊥ = λ h. let z = sym (decode_end place bytes h) ∙ e in cc in
    omega arith

-- the bytes left after an event are fewer than the turns left
pub fewer : (bytes : List ℕ) (place m : ℕ) (event : Event) → decode place bytes ≡ Ok (Some event) → length bytes - place < suc m → length bytes - (place + size event) < m
fewer bytes place m event e h = omega (arith, read_within bytes place event e, size_least event)

same_after : (bytes : List ℕ) (m n events place : ℕ) (r : Result (Option Event) ReaderFault) → ((event : Event) → r ≡ Ok (Some event) → lines_from m bytes (events + 1) (place + size event) ≡ lines_from n bytes (events + 1) (place + size event)) → answered (lines_from m bytes) bytes events place r ≡ answered (lines_from n bytes) bytes events place r
same_after bytes m n events place (Ok (Some event)) more = ap (λ l. Read place event ∷ l) (more event refl)
same_after bytes m n events place (Ok None) more = refl
same_after bytes m n events place (Err fault) more = refl

-- more turns than there are bytes left change nothing
enough : (bytes : List ℕ) (m n events place : ℕ) → length bytes - place < m → length bytes - place < n → lines_from m bytes events place ≡ lines_from n bytes events place
unfolding lines_from
enough bytes zero n events place p q = absurd (omega arith)
enough bytes (suc m) zero events place p q = absurd (omega arith)
enough bytes (suc m) (suc n) events place p q =
    same_after bytes m n events place (decode place bytes)
    (λ event e. enough bytes m n (events + 1) (place + size event) (fewer bytes place m event e p) (fewer bytes place n event e q))

module _ (bytes : List ℕ) (events place : ℕ) where
  -- the line of the reader's answer, and those after it
  pub left_by : (r : Result (Option Event) ReaderFault) → r ≡ decode place bytes → lines_left bytes events place ≡ answered (λ e p. lines_left bytes e p) bytes events place r
  unfolding lines_from
  left_by (Ok (Some event)) e =
      ap (answered (lines_from (length bytes - place) bytes) bytes events place) (sym e)
      ∙ ap (λ l. Read place event ∷ l) (enough bytes (length bytes - place) (suc (length bytes - (place + size event))) (events + 1) (place + size event) (fewer bytes place (length bytes - place) event (sym e) (omega arith)) (omega arith))
  left_by (Ok None) e = ap (answered (lines_from (length bytes - place) bytes) bytes events place) (sym e)
  left_by (Err fault) e = ap (answered (lines_from (length bytes - place) bytes) bytes events place) (sym e)

some_none : (r : Result Event ReaderFault) → Ok None ≡ some r → ⊥
some_none (Ok event) e = cc
some_none (Err fault) e = cc

-- where no event is left, the reader stands at the end of the bytes
pub end_at : (place : ℕ) (bytes : List ℕ) → place ≤ length bytes → Ok None ≡ decode place bytes → length bytes ≡ place
end_at place bytes h e =
    let no : place < length bytes → ⊥ = λ p. some_none (field place (drop place bytes)) (e ∙ decode_within place bytes p) in
    omega arith
