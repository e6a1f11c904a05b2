use Rattle.std.proofs.Common.{◌≡◌, ℕ, ◌<◌, List, length, get_or, map, sym, ap, ◌∙◌, arith, rules}
use Rattle.std.proofs.lemmas.List.FromFn.{fill_by_all}
use Rattle.amounts.specs.declared.wire.WirePrice.{WirePrice}
use Rattle.messages.proofs.Numbers.{spread}
use Rattle.messages.proofs.writer.write_event.Goals as goal

pub returns-in-Opening-clause-after : goal.returns-in-Opening-clause-after
returns-in-Opening-clause-after c =
    let averages : List WirePrice = c.in-Opening.averages in
    let none : WirePrice = record { 0 = 0 } in
    let long : length averages ≡ 7 = search rules in
    let at : (k : ℕ) → k < 7 → get_or c.map.result k 0 ≡ (get_or averages k none).0 = λ k h. let item = c.map.ensures.items.at k none 0 h in search rules in
    let numbers : c.map.result ≡ map (λ average. average.0) averages = fill_by_all (λ k. (get_or averages k none).0) c.map.result 7 0 c.map.ensures.items.long at ∙ sym (ap (map (λ average. average.0)) (spread averages none 7 long)) in
    search rules

pub returns-in-Opening-clause-whole : goal.returns-in-Opening-clause-whole
returns-in-Opening-clause-whole c =
    let averages = c.in-Opening.averages in
    let long : length averages ≡ 7 = search rules in
    let fit = c.write_field-in-Opening.ensures.fit in
    rw c.in-Opening.is (search rules, search rules, long, λ k d h. let item = c.map.ensures.items.at k d 0 (omega arith) in let f = fit k 0 (omega (arith, c.map.ensures.items.long)) in search rules)
