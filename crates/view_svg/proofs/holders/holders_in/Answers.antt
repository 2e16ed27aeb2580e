use Rattle.std.proofs.Common.{arith, false}
use Rattle.std.proofs.lemmas.Grind.{common_steps}
use Rattle.std.proofs.lemmas.List.{get_or-replicate}
use Rattle.view_svg.proofs.holders.holders_in.Goals as goal

pub loop-lane-init : goal.loop-lane-init
loop-lane-init c = record {
  size = grind (arith, common_steps, c.empty-set.ensures);
  members = λ v low.
      let none = get_or-replicate 256 v false false low in
      grind (arith, common_steps, c.empty-set.ensures, none);
}
