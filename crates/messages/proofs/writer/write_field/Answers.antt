use Rattle.std.proofs.Common.{◌∷◌, [], ◌+◌, ◌++◌, get_or, arith, rules}
use Rattle.messages.specs.Encode.{quads_of}
use Rattle.messages.proofs.Written.{put_put}
use Rattle.messages.proofs.writer.write_field.Goals as goal

pub returns-clause-after : goal.returns-clause-after
returns-clause-after c =
    let value = c.args.bytes.now ++ quads_of c.args.numbers.now in
    let in_value = put_put c.put.new.buffer (c.args.place + 3) c.args.bytes.now (quads_of c.args.numbers.now) (omega arith) in
    let in_field = put_put c.args.buffer.now c.args.place (c.from.result ∷ get_or c.to_be_bytes.result 0 0 ∷ get_or c.to_be_bytes.result 1 0 ∷ []) value (omega arith) in
    search rules
