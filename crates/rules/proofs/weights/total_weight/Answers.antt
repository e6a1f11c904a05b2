use Rattle.std.proofs.Common.{rules, ◌≡◌, ◌<◌, ◌≤◌, true, length, sum, arith}
use Rattle.std.specs.List.{All, list_all}
use Rattle.std.proofs.lemmas.List.Sums.{list_all-from_AllPass}
use Rattle.rules.specs.Sharing.{is_weight, is_weight_count}
use Rattle.rules.proofs.Fits.{sum_small}
use Rattle.rules.proofs.weights.total_weight.Goals as goal

pub sum-requires-clause-fits : goal.sum-requires-clause-fits
sum-requires-clause-fits c =
    let few : length c.args.weights.now ≤ 32 = search rules in
    let each : All (λ w. w ≤ 2000000) c.args.weights.now = search rules in
    let fits : sum c.args.weights.now < 4294967296 = omega (arith, sum_small c.args.weights.now few each) in
    search rules

pub returns-clause-value : goal.returns-clause-value
returns-clause-value c =
    let count : is_weight_count (length c.args.weights.now) ≡ true = search rules in
    let each : All (λ w. is_weight w ≡ true) c.args.weights.now = search rules in
    let pass : list_all is_weight c.args.weights.now ≡ true = list_all-from_AllPass is_weight c.args.weights.now each in
    let total : c.sum.result ≡ sum c.args.weights.now = search rules in
    search rules

pub returns-clause-small : goal.returns-clause-small
returns-clause-small c =
    let few : length c.args.weights.now ≤ 32 = search rules in
    let each : All (λ w. w ≤ 2000000) c.args.weights.now = search rules in
    let total : c.sum.result ≡ sum c.args.weights.now = search rules in
    omega (arith, total, sum_small c.args.weights.now few each)
