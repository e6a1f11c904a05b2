use Rattle.std.proofs.Common.{◌≡◌, ℕ, ◌+◌, ◌*◌, ◌<◌, get_or, rules}
use Rattle.std.proofs.lemmas.List.FromFn.{fill_by_all}
use Rattle.amounts.specs.declared.wire.WirePrice.{WirePrice}
use Rattle.messages.specs.Decode.{price}
use Rattle.messages.proofs.read.event_of.Goals as goal

pub returns-in-Opening : goal.returns-in-Opening
returns-in-Opening c =
    let value = c.args.value.now in
    let none : WirePrice = record { 0 = 0 } in
    let at : (k : ℕ) → k < 7 → get_or c.from_fn.result k none ≡ price value (5 + 4 * k) = λ k h. let item = c.from_fn.ensures.items.at k none h in search rules in
    let averages = fill_by_all (λ k. price value (5 + 4 * k)) c.from_fn.result 7 none c.from_fn.ensures.items.long at in
    search rules
