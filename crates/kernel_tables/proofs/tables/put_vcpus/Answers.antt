use Rattle.table_form.specs.Tables.Views.{plan_view}
use Rattle.vcpu_names.specs.Names.{names_of}
use Rattle.kernel_tables.specs.TablesText.{vcpu_text}
use Rattle.kernel_tables.proofs.TextLemmas.{none_yet, one_more}
use Rattle.kernel_tables.proofs.tables.put_vcpus.Goals as goal

pub loop-number-init : goal.loop-number-init
loop-number-init c = none_yet c.args.text.now.items (vcpu_text (names_of c.args.vcpus.now) (plan_view c.args.plan.now))

pub loop-number-preserved : goal.loop-number-preserved
loop-number-preserved c = one_more c.args.text.now.items _ _
    (vcpu_text (names_of c.args.vcpus.now) (plan_view c.args.plan.now)) c.loop-number.number
    c.loop-number.invariant c.in_ok-put_vcpu_at.ensures
