use Rattle.std.proofs.Common.{rules, ◌≡◌, pos, ◌-ℤ◌, ◌*ℤ◌, le_refl, w64, to_z, of_z}
use Rattle.std.proofs.lemmas.Int.{to_z-of_z}
use Rattle.rules.specs.SharingRules.{truncated}
use Rattle.rules.proofs.Fits.{toward_fits, rest_fits, rate_toward}
use Rattle.rules.proofs.division.Division.new.Goals as goal

pub invariant_of-result : goal.invariant_of-result
invariant_of-result c =
    let amount = c.args.amount in
    let total = c.args.total in
    let toward = rate_toward amount total total (le_refl total) in
    let shared = truncated amount total *ℤ pos total in
    let same : to_z w64 (of_z w64 amount) ≡ amount = to_z-of_z w64 amount c.ranges.amount in
    let rate : to_z w64 (of_z w64 c.unwrap_or-rate.result) ≡ truncated amount total = search rules in
    let units : to_z w64 (of_z w64 c.from-2.result) ≡ pos total = search rules in
    record {
      total_small = c.requires;
      rate_is = rw same rate;
      rest_is = rw same (rw rate (rw units (rw (to_z-of_z w64 shared (toward_fits amount shared c.ranges.amount toward))
          (to_z-of_z w64 (amount -ℤ shared) (rest_fits amount shared c.ranges.amount toward)))));
    }
