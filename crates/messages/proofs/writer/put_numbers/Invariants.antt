use Rattle.std.proofs.Common.{◌≡◌, take}
use Rattle.messages.specs.Encode.{quads_of}
use Rattle.messages.specs.Write.{put}
use Rattle.messages.proofs.writer.put_numbers.Given as goal

abbrev pub invariant-loop-i : goal.invariant-loop-i
invariant-loop-i l = l.buffer ≡ put l.initial.buffer l.place (quads_of (take l.i l.numbers))
