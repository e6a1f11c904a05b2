-- How many bytes a reader has left.
use Rattle.std.specs.Prelude.{◌≡◌, ℕ, ◌-◌, ◌<◌, length, Some, None, Ok, Err, Option, Result}
use Rattle.messages.specs.declared.event.Event.{Event}
use Rattle.messages.specs.declared.fault.ReaderFault.{ReaderFault}
use Rattle.messages.specs.declared.reader.Reader.{Reader}

abbrev pub left : Reader → ℕ
left reader = length reader.bytes.now - reader.place

-- fewer are left after an event, and as many as before after any other answer
abbrev pub Falls : Result (Option Event) ReaderFault → ℕ → ℕ → Type 0
Falls (Ok None) before after = after ≡ before
Falls (Ok (Some event)) before after = after < before
Falls (Err fault) before after = after ≡ before
