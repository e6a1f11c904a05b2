use Rattle.std.proofs.Common.{rules, ◌≡◌, sum}
use Rattle.rules.specs.SharingRules.{rate, unit_shares}
use Rattle.rules.specs.Truncated.{truncated_dropped}
use Rattle.rules.specs.UnitShares.{as_differences}
use Rattle.rules.proofs.unit_rule.UnitRuleSharingRule.share.Goals as goal

pub returns-clause-value : goal.returns-clause-value
returns-clause-value c = let e = as_differences c.args.amount c.args.weights.now in search rules

pub returns-clause-proportion : goal.returns-clause-proportion
returns-clause-proportion c =
    let amount = c.args.amount in
    let ws = c.args.weights.now in
    let e = as_differences amount ws in
    λ remainder is some.
    let written : c.share_by.new.into ≡ unit_shares amount ws = search rules in
    (rate amount ws, truncated_dropped amount (sum ws) some, written)
