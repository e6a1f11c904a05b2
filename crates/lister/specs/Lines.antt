-- The lines of a run of bytes.
use Rattle.std.specs.Prelude.{ℕ, zero, suc, ◌+◌, ◌-◌, List, [], ◌∷◌, length, Some, None, Ok, Err, Option, Result}
use Rattle.messages.specs.declared.event.Event.{Event}
use Rattle.messages.specs.declared.fault.ReaderFault.{ReaderFault}
use Rattle.messages.specs.declared.fault.ReaderFault.TheVariants.{InputTooLong}
use Rattle.messages.specs.Decode.{decode}
use Rattle.messages.specs.Field.{size}
use Rattle.messages.specs.Input.{limited}
use Rattle.lister.specs.declared.line.Line.{Line}
use Rattle.lister.specs.declared.line.Line.TheVariants.{Read, Refused, Total}
use Rattle.lister.specs.declared.listing.Listing.{Listing}
use Rattle.lister.specs.declared.listing.Stage.{Stage}
use Rattle.lister.specs.declared.listing.Stage.TheVariants.{TooLong, Reading, Ended}

-- the lines from an answer of the reader on, so many events having been read; `more` are those after an event
abbrev pub answered : (ℕ → ℕ → List Line) → List ℕ → ℕ → ℕ → Result (Option Event) ReaderFault → List Line
answered more bytes events place (Ok (Some event)) = Read place event ∷ more (events + 1) (place + size event)
answered more bytes events place (Ok None) = Total events (length bytes) ∷ []
answered more bytes events place (Err fault) = Refused fault place ∷ []

-- the lines from a place on, at most so many; each event takes bytes, so one more than there are bytes left is enough
unfoldable pub lines_from : ℕ → List ℕ → ℕ → ℕ → List Line
lines_from zero bytes events place = []
lines_from (suc most) bytes events place = answered (lines_from most bytes) bytes events place (decode place bytes)

abbrev pub lines_left : List ℕ → ℕ → ℕ → List Line
lines_left bytes events place = lines_from (suc (length bytes - place)) bytes events place

abbrev pub too_long : List Line
too_long = Refused InputTooLong 65536 ∷ []

-- the lines that a listing has still to give
abbrev pub coming_at : Stage → List ℕ → ℕ → ℕ → List Line
coming_at TooLong bytes events place = too_long
coming_at Reading bytes events place = lines_left bytes events place
coming_at Ended bytes events place = []

-- how a listing starts
abbrev pub first_stage : Result (Unit {0}) ReaderFault → Stage
first_stage (Ok within) = Reading
first_stage (Err fault) = TooLong

-- all lines of the bytes
abbrev pub listed : List ℕ → List Line
listed bytes = coming_at (first_stage (limited (length bytes))) bytes 0 0

abbrev pub coming : Listing → List Line
coming l = coming_at l.stage l.reader.bytes.now l.events l.reader.place
