use Rattle.std.proofs.Common.{◌≡◌, ◌<◌, Some, arith, length, refl, subst, sym}
use Rattle.std.specs.Prelude.{slice_get}
use Rattle.std.proofs.lemmas.Option.{slice_get_read}
use Rattle.fleet_place.specs.Inside.Memory.{KnowsRefusals}
use Rattle.fleet_place.proofs.BestLemmas.{BestSoFar, best_of, left_worse, left_unfit, none_of, taken}
use Rattle.fleet_place.proofs.TurnLemmas.{learns}
use Rattle.fleet_place.proofs.deal.best_host.Goals as goal
use Rattle.fleet_place.proofs.deal.best_host.Goals.{then-is_better+in_ok-joins+then-branch, else-is_better, else-is_better-via-then-is_better+in_ok-joins+else-branch, else-is_better-via-else-is_better}

pub loop-number-preserved : goal.loop-number-preserved
loop-number-preserved c =
    let host = c.index-hosts-number.result in
    let at : slice_get c.args.hosts.now c.loop-number.number ≡ Some host =
    slice_get_read c.args.hosts.now (length c.args.hosts.now) c.loop-number.number host refl c.loop-number-test.true
    c.index-hosts-number.is in
    let size = c.loop-number.invariant.size in
    let test = c.loop-number-test.true in
    let low : c.loop-number.number < length c.loop-number.refused = omega (arith, size, test) in
    let long = c.if-is_better.auto.refused in
    elim c.if-is_better.branch [
      | then-is_better+in_ok-joins+then-branch w ↦ record {
        size = omega (arith, long, size);
        knows = subst (KnowsRefusals c.args.policy.now c.args.hosts.now) (sym w.refused-is)
            (learns c.args.policy.now c.args.hosts.now c.loop-number.refused c.loop-number.number host w.joins.new.refused
            low at c.loop-number.invariant.knows w.in_ok-joins.ensures.knows);
        best = subst (BestSoFar c.args.policy.now c.args.hosts.now c.args.vm.now _) (sym w.best-is)
            (taken c.args.policy.now c.args.hosts.now c.args.vm.now c.loop-number.number c.rank.result host
            c.loop-number.best c.loop-number.invariant.best at (w.in_ok-joins.ensures.fits w.if-branch.true)
            c.rank.ensures (c.is_better.ensures.better w.if-is_better.true));
      }
      | else-is_better w ↦ elim w.else-is_better.branch [
        | else-is_better-via-then-is_better+in_ok-joins+else-branch v ↦ record {
          size = omega (arith, long, size);
          knows = subst (KnowsRefusals c.args.policy.now c.args.hosts.now) (sym w.refused-is)
              (subst (KnowsRefusals c.args.policy.now c.args.hosts.now) (sym v.refused-is)
              (learns c.args.policy.now c.args.hosts.now c.loop-number.refused c.loop-number.number host
              v.joins.new.refused low at c.loop-number.invariant.knows v.in_ok-joins.ensures.knows));
          best = subst (BestSoFar c.args.policy.now c.args.hosts.now c.args.vm.now _) (sym w.best-is)
              (left_unfit c.args.policy.now c.args.hosts.now c.args.vm.now c.loop-number.number host c.loop-number.best
              c.loop-number.invariant.best at (v.in_ok-joins.ensures.fits_not v.if-branch.false));
        }
        | else-is_better-via-else-is_better v ↦ record {
          size = omega (arith, long, size);
          knows = subst (KnowsRefusals c.args.policy.now c.args.hosts.now) (sym w.refused-is)
              (subst (KnowsRefusals c.args.policy.now c.args.hosts.now) (sym v.refused-is) c.loop-number.invariant.knows);
          best = subst (BestSoFar c.args.policy.now c.args.hosts.now c.args.vm.now _) (sym w.best-is)
              (left_worse c.args.policy.now c.args.hosts.now c.args.vm.now c.loop-number.number c.rank.result host
              c.loop-number.best c.loop-number.invariant.best at c.rank.ensures
              (c.is_better.ensures.not v.if-is_better.false));
        }
      ]
    ]

pub returns-clause-some : goal.returns-clause-some
returns-clause-some c = best_of c.args.policy.now c.args.hosts.now c.args.vm.now c.loop-number.number
    c.loop-number.best c.loop-number-test.false c.loop-number.invariant.best

pub returns-clause-none : goal.returns-clause-none
returns-clause-none c = none_of c.args.policy.now c.args.hosts.now c.args.vm.now c.loop-number.number
    c.loop-number.best c.loop-number-test.false c.loop-number.invariant.best
