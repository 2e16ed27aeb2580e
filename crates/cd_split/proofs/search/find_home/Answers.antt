use Rattle.std.proofs.Common.{sym, ap, subst, arith}
use Rattle.cd_split.specs.Inside.Search.{left_of}
use Rattle.cd_split.specs.Splitting.{IsFirstCore, TakesRest}
use Rattle.cd_split.specs.declared.order.CoreLoad.{CoreLoad}
use Rattle.cd_split.proofs.OrderLemmas.{first_found, none_found}
use Rattle.cd_split.proofs.search.find_home.Goals as goal

pub returns-then-branch : goal.returns-then-branch
returns-then-branch c =
    let cores = c.args.cores.now in
    let unused = c.args.unused.now in
    let takes = TakesRest cores (left_of c.args.left.now) in
    let rank = c.rank-item.result in
    let first = first_found cores c.args.order.now unused takes rank c.loop-rank.rank-index
    rank.core c.requires.order c.requires.there (omega arith)
    (ap (λ (r : CoreLoad). r.core) (sym c.rank-item.is)) c.loop-rank.invariant
    (c.is_unused.ensures.0 c.if-is_unused.true) (c.in_ok-takes_rest.ensures.0 c.if-branch.true)
    in
    record {
      first = subst (IsFirstCore cores unused takes) (sym c.rest_on.ensures.0) first;
      shape = c.rest_on.ensures.1;
    }

pub returns : goal.returns
returns c =
    none_found c.args.cores.now c.args.order.now c.args.unused.now
    (TakesRest c.args.cores.now (left_of c.args.left.now)) c.loop-rank.rank-index c.requires.order
    c.requires.there c.loop-rank-test.false c.loop-rank.invariant
