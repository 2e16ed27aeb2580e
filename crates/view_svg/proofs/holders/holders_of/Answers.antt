use Rattle.std.proofs.Common.{arith, false}
use Rattle.std.proofs.lemmas.Grind.{common_steps}
use Rattle.std.proofs.lemmas.List.{get_or-replicate}
use Rattle.view_svg.proofs.holders.holders_of.Goals as goal

pub returns : goal.returns
returns c = λ v low.
    let none = get_or-replicate 256 v false false low in
    let met = c.add_holders.ensures.members v low in
    grind (arith, common_steps, c.empty-set.ensures, none, met)
