use Rattle.std.proofs.Common.{◌≡◌, ℕ, ◌+◌, ◌<◌, List, length, get_or, take, ℤ, ◌-ℤ◌, sum, sym, ap, ◌∙◌, arith, rules, w64, SFits, to_z, of_z}
use Rattle.std.proofs.lemmas.List.Sums.{sum_by_more, sum_by_more_le}
use Rattle.rules.specs.SharingRules.{differences}
use Rattle.rules.specs.Cuts.{Cuts, Toward}
use Rattle.rules.specs.Differences.{differences_more, written_more}
use Rattle.rules.proofs.Fits.{gap_fits, passed_difference}
use Rattle.rules.proofs.cut.write_shares.Goals as goal

-- what one weight adds
added_fits : (amount : ℤ) (f : ℕ → ℤ) (ws : List ℕ) (i total : ℕ) → Cuts amount f → Toward amount (f total) → SFits w64 amount → i < length ws → total ≡ sum ws → SFits w64 (f (sum (take i ws) + get_or ws i 0) -ℤ f (sum (take i ws)))
added_fits amount f ws i total cuts toward fits l whole =
    gap_fits amount f cuts total (sum (take i ws)) (sum (take i ws) + get_or ws i 0) toward fits (omega arith) (omega (arith, sum_by_more_le (λ x. x) ws i 0 l, whole))

pub overflow_sub-share : goal.overflow_sub-share
overflow_sub-share g c =
    let ws = c.args.weights.now in
    let i = c.loop-i.i in
    let d = c.args.division in
    let f = g.C.Cut.cut d.amount d.total in
    let passed : to_z w64 (of_z w64 c.cut-reached.result) ≡ f (c.loop-i.so_far + get_or ws i 0) = search rules in
    let reached = passed ∙ ap (λ n. f (n + get_or ws i 0)) c.loop-i.invariant.so_far_is in
    rw reached (rw c.loop-i.invariant.before_is (added_fits d.amount f ws i d.total (g.met.C.Cut.cuts d.amount d.total) (g.met.C.Cut.toward d.amount d.total) (search rules) c.loop-i-test.true c.requires.whole))

pub loop-i-preserved : goal.loop-i-preserved
loop-i-preserved g c =
    let ws = c.args.weights.now in
    let i = c.loop-i.i in
    let d = c.args.division in
    let f = g.C.Cut.cut d.amount d.total in
    let l = c.loop-i-test.true in
    let more : sum (take (i + 1) ws) ≡ sum (take i ws) + get_or ws i 0 = sum_by_more (λ x. x) ws i 0 l in
    let passed : to_z w64 (of_z w64 c.cut-reached.result) ≡ f (c.loop-i.so_far + get_or ws i 0) = search rules in
    let reached = passed ∙ ap (λ n. f (n + get_or ws i 0)) c.loop-i.invariant.so_far_is in
    let fits = added_fits d.amount f ws i d.total (g.met.C.Cut.cuts d.amount d.total) (g.met.C.Cut.toward d.amount d.total) (search rules) l c.requires.whole in
    let room : i < length c.loop-i.into = omega (arith, l, c.loop-i.auto.into, c.requires.same) in
    record {
      so_far_is = ap (λ n. n + get_or ws i 0) c.loop-i.invariant.so_far_is ∙ sym more;
      before_is = reached ∙ ap f (sym more);
      written =
          written_more c.loop-i.into (differences f 0 (take i ws)) i room c.loop-i.invariant.written (passed_difference reached c.loop-i.invariant.before_is fits)
          ∙ sym (differences_more f ws i l);
    }
