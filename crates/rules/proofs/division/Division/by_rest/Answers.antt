use Rattle.std.proofs.Common.{rules, ◌≡◌, pos, ◌*ℤ◌, w64, to_z, of_z}
use Rattle.std.proofs.lemmas.Int.{to_z-of_z}
use Rattle.rules.proofs.Fits.{rests_fit}
use Rattle.rules.proofs.division.Division.by_rest.Goals as goal

pub returns : goal.returns
returns c =
    let d = c.args.self in
    let p = pos c.args.part in
    let part : to_z w64 (of_z w64 c.from.result) ≡ p = search rules in
    let rest : to_z w64 (of_z w64 d.rest) ≡ d.rest = search rules in
    let fits = rests_fit d.amount d.rest d.total c.args.part c.requires d.total_small d.rest_is in
    let rests : to_z w64 (of_z w64 (to_z w64 (of_z w64 d.rest) *ℤ to_z w64 (of_z w64 c.from.result))) ≡ d.rest *ℤ p = rw rest (rw part (to_z-of_z w64 (d.rest *ℤ p) fits)) in
    search rules
