use Rattle.std.proofs.Common.{◌≡◌, ℕ, ◌<◌, get_or, IfOk, sym, subst, arith, rules}
use Rattle.std.proofs.lemmas.Grind.{common_steps}
use Rattle.messages.specs.Decode.{field}
use Rattle.messages.specs.Message.{Message}
use Rattle.messages.proofs.Canonical.{field_message}
use Rattle.messages.proofs.read.read_field.Goals as goal

pub returns-clause-message : goal.returns-clause-message
returns-clause-message c =
    let left = c.args.left.now in
    let place = c.args.place in
    let bytes : (i : ℕ) → get_or left i 0 < 256 = λ i. search rules in
    let is : c.read_value.result ≡ field place left = grind (arith, common_steps) in
    subst (λ r. IfOk r (Message place left)) (sym is) (field_message place left bytes)
