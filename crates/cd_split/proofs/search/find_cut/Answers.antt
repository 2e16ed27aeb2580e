use Rattle.std.proofs.Common.{◌≡◌, ◌≤◌, sym, ap, subst, inr, arith}
use Rattle.std.proofs.lemmas.Option.{MatchOption-at_some, MatchOption-at_none}
use Rattle.table_form.specs.Planning.Jobs.{Subtask, subtask_of}
use Rattle.cd_split.specs.Inside.Search.{IsTooMuch, left_of}
use Rattle.cd_split.specs.Splitting.{IsFirstCore, IsGreatestCut, TakesCut, cut_of}
use Rattle.cd_split.specs.declared.cut.TheConstants.{LEAST_CUT}
use Rattle.cd_split.specs.declared.order.CoreLoad.{CoreLoad}
use Rattle.cd_split.proofs.OrderLemmas.{first_found, none_found, none_more}
use Rattle.cd_split.proofs.search.find_cut.Goals as goal
use Rattle.cd_split.proofs.search.find_cut.Goals.{then-is_unused+in_ok-cost+in_default, else-is_unused}

pub returns-in-Some : goal.returns-in-Some
returns-in-Some c =
    let cores = c.args.cores.now in
    let unused = c.args.unused.now in
    let left = left_of c.args.left.now in
    let takes = TakesCut cores left in
    let rank = c.rank-item.result in
    let cost = c.in-Some.cost in
    let piece = c.cut_on.result in
    let found = MatchOption-at_some (IsTooMuch cores left rank.core LEAST_CUT)
    (λ cost. (LEAST_CUT ≤ cost) × IsGreatestCut cores left rank.core cost) cost c.in-Some.is
    c.in_ok-cost.ensures in
    let first = first_found cores c.args.order.now unused takes rank c.loop-rank.rank-index
    rank.core c.requires.order c.requires.there (omega arith)
    (ap (λ (r : CoreLoad). r.core) (sym c.rank-item.is)) c.loop-rank.invariant
    (c.is_unused.ensures.0 c.if-is_unused.true) (cost, found.0, found.1) in
    let on = c.cut_on.ensures.0 in
    let shape = c.cut_on.ensures.1 in
    let costs : cost ≡ piece.cost = sym (ap (λ (s : Subtask). s.cost) shape) in
    record {
      two_unused = omega arith;
      first = subst (IsFirstCore cores unused takes) (sym on) first;
      greatest = subst (IsGreatestCut cores left piece.core) costs
          (subst (λ core. IsGreatestCut cores left core cost) (sym on) found.1);
      shape = subst (λ n. subtask_of piece ≡ cut_of left n) costs shape;
    }

pub loop-rank-preserved : goal.loop-rank-preserved
loop-rank-preserved c =
    let cores = c.args.cores.now in
    let left = left_of c.args.left.now in
    none_more c.args.order.now c.args.unused.now (TakesCut cores left) c.loop-rank.rank-index
    c.rank-item.result c.loop-rank.invariant (omega arith) c.rank-item.is
    (elim c.if-is_unused.branch [
      | then-is_unused+in_ok-cost+in_default w ↦ (λ in_unused cut.
          (let core = c.rank-item.result.core in
          let none = MatchOption-at_none (IsTooMuch cores left core LEAST_CUT)
          (λ cost. (LEAST_CUT ≤ cost) × IsGreatestCut cores left core cost)
          w.in_default.is w.in_ok-cost.ensures in
          none cut.0 cut.1 cut.2.part cut.2.fits))
      | else-is_unused w ↦
          (λ in_unused cut.
          let used = c.is_unused.ensures.1 in_unused in
          let unused = w.if-is_unused.false in
          absurd (cc))
    ])

pub returns : goal.returns
returns c =
    inr (none_found c.args.cores.now c.args.order.now c.args.unused.now
    (TakesCut c.args.cores.now (left_of c.args.left.now)) c.loop-rank.rank-index c.requires.order
    c.requires.there c.loop-rank-test.false c.loop-rank.invariant)
