use Rattle.std.proofs.Common.{◌≡◌, length, take}
use Rattle.std.specs.List.{AllZip}
use Rattle.cd_split.specs.Inside.Search.{left_of}
use Rattle.cd_split.specs.Splitting.{IsOverloadWith, rest_of}
use Rattle.cd_split.proofs.refusal.overloads_of.Given as goal

-- the first unused cores have their overloaded intervals
abbrev pub invariant-loop-core : goal.invariant-loop-core
invariant-loop-core l = record {
  as_many : length l.overs.items ≡ l.core-index;
  overloads : AllZip (IsOverloadWith l.cores (rest_of (left_of l.left)))
      (take l.core-index l.unused) l.overs.items;
}
