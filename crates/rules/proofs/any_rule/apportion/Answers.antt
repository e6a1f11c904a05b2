use Rattle.std.proofs.Common.{rules, ◌≡◌, ℕ, true, eqb, List, length, ℤ, pos, negsuc, sum, sym, subst, arith, w64, SFits}
use Rattle.std.specs.List.{All}
use Rattle.std.proofs.lemmas.Int.{ints}
use Rattle.std.proofs.lemmas.Bool.{and_parts}
use Rattle.amounts.proofs.Within.{between_yes}
use Rattle.rules.specs.AnyRule.{SharedByTheLaws}
use Rattle.rules.specs.Sharing.{Shareable, is_sharing_question, are_weights}
use Rattle.rules.proofs.any_rule.apportion.Goals as goal

-- a question that was answered is one that a rule shares
shareable : (amount : ℤ) (ws : List ℕ) (places : ℕ) → SFits w64 amount → is_sharing_question ws places ≡ true → Shareable amount ws
shareable amount ws places f e = record {
  amount_fits = between_yes (negsuc 9223372036854775807) (pos 9223372036854775807) amount (omega (arith, ints)) (omega (arith, ints));
  weights_fit = (and_parts (are_weights ws) (eqb places (length ws)) e).0;
}

pub returns-clause-laws : goal.returns-clause-laws
returns-clause-laws g c =
    let rule = c.args.rule.now in
    let amount = c.args.amount in
    let ws = c.args.weights.now in
    let asked : is_sharing_question ws (length c.args.into.now) ≡ true = search rules in
    let written : c.share.new.into ≡ g.S.SharingRule.shares rule amount ws = search rules in
    let h = shareable amount ws (length c.args.into.now) c.ranges.amount asked in
    let across = g.met.S.SharingRule.no_share_across_zero rule amount ws h in
    λ unshared e.
    subst (λ xs. SharedByTheLaws amount ws (g.S.SharingRule.margin rule (sum ws)) xs (g.S.SharingRule.remainder rule amount ws)) (sym written)
    (record {
      each_has_one = g.met.S.SharingRule.a_share_for_each_weight rule amount ws h;
      adds_up = g.met.S.SharingRule.shares_and_remainder_add_up rule amount ws h;
      none_for_weight_zero = g.met.S.SharingRule.weight_zero_has_share_zero rule amount ws h;
      none_of_amount_zero = λ z. subst (λ a. All (λ x. x ≡ pos 0) (g.S.SharingRule.shares rule a ws)) (sym z) (g.met.S.SharingRule.amount_zero_has_shares_zero rule ws (subst (λ a. Shareable a ws) z h));
      none_below_zero = across.0;
      none_above_zero = across.1;
      all_remains = g.met.S.SharingRule.all_remains_without_weight rule amount ws h;
      remainder_within_margin = g.met.S.SharingRule.remainder_within_margin rule amount ws h;
      margin_below_total = g.met.S.SharingRule.margin_below_total rule (sum ws);
    })
