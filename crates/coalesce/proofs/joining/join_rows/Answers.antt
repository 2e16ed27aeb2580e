use Rattle.std.proofs.Common.{◌≡◌, ℕ, Some, ◌&&◌, not, ap, subst, sym, ◌+◌, ◌∙◌}
use Rattle.std.proofs.lemmas.Option.{slice_get-get_or}
use Rattle.tab_core.specs.VcpuSets.{has_vcpu}
use Rattle.table_form.specs.Planning.Drafts.{pieces_at}
use Rattle.coalesce.specs.Joining.{may_have_more}
use Rattle.coalesce.proofs.Joined.{JoinedSoFar, joined_by, one_joined}
use Rattle.coalesce.proofs.joining.join_rows.Goals as goal

pub loop-core-preserved : goal.loop-core-preserved
loop-core-preserved c =
    let pieces = c.args.pieces.now in
    let core = c.loop-core.core in
    let row = c.index-rows-core.result in
    let at = slice_get-get_or c.args.rows.now core row c.loop-core-test.true
    ∙ ap Some (sym c.index-rows-core.is) in
    let may_grow : (vcpu : ℕ) → has_vcpu c.without-may_grow.result vcpu ≡ may_have_more pieces c.args.capped.now vcpu
    = λ vcpu. c.without-may_grow.ensures vcpu
    ∙ ap (λ b. b && not (has_vcpu c.args.capped.now vcpu)) (c.single_vcpus.ensures vcpu) in
    let made = joined_by (pieces_at pieces core) (has_vcpu c.without-may_grow.result)
    (may_have_more pieces c.args.capped.now) c.args.sliver row c.in_ok-join_row.field-0 may_grow
    c.in_ok-join_row.ensures.joined in
    record {
      joined = subst (JoinedSoFar pieces c.args.capped.now c.args.sliver c.args.rows.now (core + 1))
          (sym c.in_ok-push.ensures.items)
          (one_joined pieces c.args.capped.now c.args.sliver c.args.rows.now core c.loop-core.joined.items row
          c.in_ok-join_row.field-0 at made c.loop-core.invariant.joined);
      none = c.in_ok-join_row.ensures.none;
    }
