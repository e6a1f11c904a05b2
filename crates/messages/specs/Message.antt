-- The one message of each event.
use Rattle.std.specs.Prelude.{◌≡◌, ℕ, true, List, take, Some, None, Ok, Err, Option, Result}
use Rattle.messages.specs.declared.event.Event.{Event}
use Rattle.messages.specs.declared.fault.ReaderFault.{ReaderFault}
use Rattle.messages.specs.Field.{size, stands_at}
use Rattle.messages.specs.Encode.{encode, Whole}

-- the bytes at a place begin with the event's message, and the event may stand there
pub record Message (place : ℕ) (bs : List ℕ) (event : Event) : Type 0 where
  pub whole : Whole event
  pub known : stands_at event place ≡ true
  pub same : take (size event) bs ≡ encode event

-- what is read is what the bytes are the message of
abbrev pub Accepted : ℕ → List ℕ → Result (Option Event) ReaderFault → Type 0
Accepted place bs (Ok None) = Unit {0}
Accepted place bs (Ok (Some event)) = Message place bs event
Accepted place bs (Err fault) = Unit {0}

-- what the bytes are the message of is read
abbrev pub ReadsAs : ℕ → List ℕ → Result (Option Event) ReaderFault → Type 0
ReadsAs place bs answer = (event : Event) → Message place bs event → answer ≡ Ok (Some event)
