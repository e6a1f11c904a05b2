-- How much a program takes in.
use Rattle.std.specs.Prelude.{ℕ, Ok, Err, Result, nat_le, if◌then◌else◌}
use Rattle.messages.specs.declared.fault.ReaderFault.{ReaderFault}
use Rattle.messages.specs.declared.fault.ReaderFault.TheVariants.{InputTooLong}

-- whether so many bytes are taken in
abbrev pub limited : ℕ → Result (Unit {0}) ReaderFault
limited len = if nat_le len 65536 then Ok tt else Err InputTooLong
