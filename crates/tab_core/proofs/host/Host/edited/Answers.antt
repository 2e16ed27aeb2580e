use Rattle.std.proofs.Common.{sym, ◌∙◌, ap, subst, length, take}
use Rattle.tab_core.specs.Edits.{edited, edited_once, reservations_of}
use Rattle.tab_core.specs.Vcpus.{HaveDistinctNames}
use Rattle.tab_core.proofs.Edited.{distinct_names, edited_next, size_kept}
use Rattle.tab_core.proofs.host.Host.edited.Goals as goal

pub of-requires-clause-distinct : goal.of-requires-clause-distinct
of-requires-clause-distinct c = distinct_names _ c.items-vcpus.result.now c.in_ok-vcpus.ensures.names
    (subst HaveDistinctNames (sym c.items-vcpus.ensures.same) c.items-vcpus.ensures.distinct)

pub loop-edit-preserved : goal.loop-edit-preserved
loop-edit-preserved c = record {
  size = ap length c.apply.ensures ∙ size_kept c.loop-edit.reservations.items c.edit-item.result
      ∙ c.loop-edit.invariant.size;
  edits =
      c.apply.ensures
      ∙ ap (λ rs. edited_once rs c.edit-item.result) c.loop-edit.invariant.edits
      ∙ ap (edited_once (edited (reservations_of c.items-vcpus.result.now)
      (take c.loop-edit.edit-index c.args.edits.now))) c.edit-item.is
      ∙ sym (edited_next (reservations_of c.items-vcpus.result.now) c.args.edits.now
      c.loop-edit.edit-index c.edit-item.result c.loop-edit-test.true);
}
