use Rattle.std.proofs.Common.{arith, rules}
use Rattle.messages.proofs.Written.{put_more}
use Rattle.messages.proofs.writer.put_numbers.Goals as goal

pub loop-i-preserved : goal.loop-i-preserved
loop-i-preserved c =
    let more = put_more c.args.buffer.now c.args.place c.loop-i.i c.args.numbers.now (omega arith) (omega arith) in
    search rules
