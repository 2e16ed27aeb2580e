use Rattle.std.proofs.Common.{◌≢◌, codes, refl, rules}
use Rattle.vcpu_names.specs.Names.{IsUnknown}
use Rattle.plan_text.proofs.ReadingSegmentLemmas.{owner_is_unknown}
use Rattle.plan_text.proofs.read_cores.segment_with.Goals as goal

pub returns-in_default : goal.returns-in_default
returns-in_default c =
    let other : c.args.owner.now ≢ codes "-" = search rules in
    let unknown : IsUnknown c.args.names.now c.args.owner.now = search rules in
    owner_is_unknown _ _ _ _ _ c.requires.named refl other unknown
