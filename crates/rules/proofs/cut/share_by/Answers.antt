use Rattle.std.proofs.Common.{rules, ◌≡◌, true, length, ◌-ℤ◌, sum, w64, to_z, of_z}
use Rattle.std.proofs.lemmas.Int.{to_z-of_z}
use Rattle.rules.specs.Sharing.{is_sharing_question}
use Rattle.rules.specs.SharingRules.{differences}
use Rattle.rules.proofs.Fits.{passed_difference, rest_fits}
use Rattle.rules.proofs.cut.share_by.Goals as goal

pub overflow_sub-result : goal.overflow_sub-result
overflow_sub-result g c =
    let amount = c.args.amount in
    let ws = c.args.weights.now in
    let total : c.in_ok-total.total ≡ sum ws = search rules in
    let all : to_z w64 (of_z w64 c.write_shares-shared.result) ≡ g.C.Cut.cut amount (sum ws) (sum ws) = search rules in
    let same = to_z-of_z w64 amount c.ranges.amount in
    rw same (rw all (rest_fits amount (g.C.Cut.cut amount (sum ws) (sum ws)) c.ranges.amount (g.met.C.Cut.toward amount (sum ws))))

pub returns : goal.returns
returns g c =
    let amount = c.args.amount in
    let ws = c.args.weights.now in
    let cut = g.C.Cut.cut in
    let asked : is_sharing_question ws (length c.args.into.now) ≡ true = search rules in
    let total : c.in_ok-total.total ≡ sum ws = search rules in
    let written : c.write_shares-shared.new.into ≡ differences (cut amount (sum ws)) 0 ws = search rules in
    let all : to_z w64 (of_z w64 c.write_shares-shared.result) ≡ cut amount (sum ws) (sum ws) = search rules in
    let left : to_z w64 (of_z w64 (to_z w64 (of_z w64 amount) -ℤ to_z w64 (of_z w64 c.write_shares-shared.result))) ≡ amount -ℤ cut amount (sum ws) (sum ws) =
    passed_difference (to_z-of_z w64 amount c.ranges.amount) all (rest_fits amount (cut amount (sum ws) (sum ws)) c.ranges.amount (g.met.C.Cut.toward amount (sum ws))) in
    search rules
