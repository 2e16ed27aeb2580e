use Rattle.std.proofs.Common.{◌+◌, refl, arith}
use Rattle.crew_turns.proofs.MaskLemmas.{named_more, named_none}
use Rattle.crew_turns.proofs.mask.mask_from.Goals as goal

pub loop-at-init : goal.loop-at-init
loop-at-init c = record { named = named_none c.args.first }

pub loop-at-preserved : goal.loop-at-preserved
loop-at-preserved c = record {
  named = named_more c.args.first c.loop-at.at c.loop-at.mask (c.args.first + c.loop-at.at) (omega (arith, c.loop-at-test.true, c.requires)) refl c.loop-at.invariant.named;
}
