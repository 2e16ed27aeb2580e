use Rattle.std.proofs.Common.{false, arith}
use Rattle.std.proofs.lemmas.Grind.{common_steps}
use Rattle.std.proofs.lemmas.List.{get_or-replicate}
use Rattle.view_lanes.proofs.colours.home_set.Goals as goal

pub returns-clause-members : goal.returns-clause-members
returns-clause-members c v low =
    let homes = c.put_homes.ensures.members v low in
    let none = get_or-replicate 256 v false false low in
    grind (arith, common_steps, homes, c.empty-set.ensures, none)
