-- What a writer answers, and what it leaves in the buffer.
use Rattle.std.specs.Prelude.{ℕ, ◌+◌, List, ◌++◌, length, take, drop, is_ok, Ok, Err, Result, nat_le, if◌then◌else◌}
use Rattle.messages.specs.declared.event.Event.{Event}
use Rattle.messages.specs.declared.fault.ReaderFault.{ReaderFault}
use Rattle.messages.specs.declared.fault.ReaderFault.TheVariants.{TagUnknown, NoSpace}
use Rattle.messages.specs.Field.{size, stands_at}

-- the buffer with a field's bytes from a place on
abbrev pub put : List ℕ → ℕ → List ℕ → List ℕ
put buffer place field = take place buffer ++ (field ++ drop (place + length field) buffer)

-- what an answer leaves of a buffer: the field is in it, or it is as it was
abbrev pub left_by : Result ℕ ReaderFault → List ℕ → ℕ → List ℕ → List ℕ
left_by answer before place field = if is_ok answer then put before place field else before

-- the place after so many bytes, where they fit
abbrev pub fitted : ℕ → ℕ → ℕ → Result ℕ ReaderFault
fitted long room place = if nat_le (place + long) room then Ok (place + long) else Err NoSpace

abbrev pub written : Event → ℕ → ℕ → Result ℕ ReaderFault
written event room place = if stands_at event place then fitted (size event) room place else Err TagUnknown
