use Rattle.std.proofs.Common.{rules}
use Rattle.messages.proofs.Written.{reads_back}
use Rattle.messages.proofs.writer.write.Goals as goal

pub returns-clause-reads : goal.returns-clause-reads
returns-clause-reads c =
    reads_back c.args.event.now c.args.buffer.now c.args.place _ _ c.write_event.ensures.whole (search rules) c.write_event.ensures.value c.write_event.ensures.after
