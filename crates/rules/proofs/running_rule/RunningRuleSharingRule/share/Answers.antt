use Rattle.std.proofs.Common.{rules, ◌≡◌, sym, subst}
use Rattle.rules.specs.SharingRules.{running_shares, PrefixSumsTruncated}
use Rattle.rules.specs.Truncated.{prefixes_truncated}
use Rattle.rules.proofs.running_rule.RunningRuleSharingRule.share.Goals as goal

pub returns-clause-prefixes : goal.returns-clause-prefixes
returns-clause-prefixes c =
    let amount = c.args.amount in
    let ws = c.args.weights.now in
    λ remainder e some.
    let written : c.share_by.new.into ≡ running_shares amount ws = search rules in
    subst (PrefixSumsTruncated amount ws) (sym written) (prefixes_truncated amount ws some)
