use Rattle.cd_split.specs.Inside.Search.{NoneBefore, left_of}
use Rattle.cd_split.specs.Splitting.{TakesCut}
use Rattle.cd_split.proofs.search.find_cut.Given as goal

abbrev pub invariant-loop-rank : goal.invariant-loop-rank
invariant-loop-rank l = NoneBefore l.order l.unused (TakesCut l.cores (left_of l.left)) l.rank-index
