use Rattle.std.proofs.Common.{◌≡◌, take, sum}
use Rattle.rules.specs.SharingRules.{differences}
use Rattle.rules.proofs.cut.write_shares.Given as goal

abbrev pub invariant-loop-i : goal.invariant-loop-i
invariant-loop-i g l = record {
  so_far_is : l.so_far ≡ sum (take l.i l.weights);
  before_is : l.before ≡ g.C.Cut.cut l.division.amount l.division.total (sum (take l.i l.weights));
  written : take l.i l.into ≡ differences (g.C.Cut.cut l.division.amount l.division.total) 0 (take l.i l.weights);
}
