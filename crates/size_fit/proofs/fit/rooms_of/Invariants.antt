use Rattle.std.proofs.Common.{◌≡◌, map, take}
use Rattle.std.specs.Prelude.{All}
use Rattle.size_fit.specs.Fits.{FitMore}
use Rattle.size_fit.proofs.fit.rooms_of.Given as goal

-- the sizes so far
abbrev pub invariant-loop-size : goal.invariant-loop-size
invariant-loop-size l = record {
  sizes : map (λ room. room.size) l.rooms.items ≡ take l.size-index l.sizes;
  more : All (λ room. FitMore l.no_split l.host room.size room.more) l.rooms.items;
}
