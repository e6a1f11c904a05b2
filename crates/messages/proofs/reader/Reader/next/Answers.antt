use Rattle.std.proofs.Common.{◌≡◌, Some, Ok, sym, ap, ◌∙◌, arith, rules}
use Rattle.std.proofs.lemmas.Grind.{common_steps}
use Rattle.messages.specs.Decode.{some, decode}
use Rattle.messages.proofs.RoundTrip.{message_reads}
use Rattle.messages.proofs.Fields.{decode_at}
use Rattle.messages.proofs.reader.Reader.next.Goals as goal

pub returns-in_err-event-clause-reads : goal.returns-in_err-event-clause-reads
returns-in_err-event-clause-reads c =
    let reader = c.args.self.now in
    let value : c.from_residual.result ≡ decode reader.place reader.bytes.now = grind (arith, common_steps) in
    λ event m. value ∙ message_reads reader.place reader.bytes.now event m

pub returns-clause-value : goal.returns-clause-value
returns-clause-value c =
    let reader = c.args.self.now in
    ap some (sym c.in_ok-event.was) ∙ decode_at reader.place reader.bytes.now _ (search rules) c.read_field.ensures.value

pub returns-clause-reads : goal.returns-clause-reads
returns-clause-reads c =
    let reader = c.args.self.now in
    let value : Ok (Some c.in_ok-event.event) ≡ decode reader.place reader.bytes.now = ap some (sym c.in_ok-event.was) ∙ decode_at reader.place reader.bytes.now _ (search rules) c.read_field.ensures.value in
    λ event m. value ∙ message_reads reader.place reader.bytes.now event m
