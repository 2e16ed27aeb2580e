use Rattle.std.proofs.Common.{arith}
use Rattle.cd_split.specs.Cores.{pieces_on}
use Rattle.cd_split.specs.Inside.Search.{left_of}
use Rattle.cd_split.specs.Splitting.{rest_of}
use Rattle.cd_split.proofs.Loads.{fits_with_load}
use Rattle.cd_split.proofs.Trials.{told_takes}
use Rattle.cd_split.proofs.search.takes_rest.Goals as goal

pub returns-then-most_by_load-left : goal.returns-then-most_by_load-left
returns-then-most_by_load-left c = (
  (λ is. absurd (cc)),
  (λ takes.
      (let left = c.args.left.now in
      let light = fits_with_load (pieces_on c.args.cores.now c.args.rank.now.core)
      (rest_of (left_of left)) (omega arith) left.listed takes
      in
      let few = (c.most_by_load.ensures.most left.rest).1 (omega arith) in
      absurd (omega arith))),
)

pub returns : goal.returns
returns c =
    told_takes c.args.cores.now (rest_of (left_of c.args.left.now)) c.args.rank.now.core
    c.rest_on.result c.in_ok-overload.overload c.is_none.result c.rest_on.ensures c.is_none.ensures
    c.in_ok-overload.ensures
