use Rattle.std.proofs.Common.{length, ap, false, ◌∙◌, arith}
use Rattle.std.proofs.lemmas.List.{length-replicate}
use Rattle.tab_core.specs.declared.TheConstants.{MAX_VCPUS}
use Rattle.table_check.proofs.OwnersLemmas.{first_more, owners_all}
use Rattle.table_check.proofs.owners.owners_in.Goals as goal

pub loop-segment-init : goal.loop-segment-init
loop-segment-init c = record {
  size = ap length c.empty-owners.ensures ∙ length-replicate MAX_VCPUS false;
  first = λ k v s lt at is. absurd (omega arith);
}

pub loop-segment-preserved : goal.loop-segment-preserved
loop-segment-preserved c = record {
  size = c.put_owner.ensures.size;
  first = first_more c.args.segments.now c.loop-segment.segment-index c.segment-item.result
      c.loop-segment.owners c.put_owner.new.owners c.loop-segment-test.true c.segment-item.is
      (λ v is. c.put_owner.ensures.put v (c.vcpu.ensures ∙ is))
      c.put_owner.ensures.kept c.loop-segment.invariant.first;
}

pub returns : goal.returns
returns c = owners_all c.args.segments.now c.loop-segment.segment-index c.loop-segment.owners
    c.loop-segment-test.false c.loop-segment.invariant.first
