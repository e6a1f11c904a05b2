-- Steps that may be refused, one after another: the first refusal ends them.
use Rattle.std.specs.Prelude.{Ok, Err, Result}
use Rattle.messages.specs.declared.fault.ReaderFault.{ReaderFault}

infixl 10 ◌>>=◌
abbrev pub ◌>>=◌ : {A B : Type 0} → Result A ReaderFault → (A → Result B ReaderFault) → Result B ReaderFault
Ok x >>= next = next x
Err fault >>= next = Err fault
