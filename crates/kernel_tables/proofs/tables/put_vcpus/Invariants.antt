use Rattle.std.proofs.Common.{◌≡◌, ◌++◌}
use Rattle.tab_words.specs.Texts.{texts_below}
use Rattle.table_form.specs.Tables.Views.{plan_view}
use Rattle.vcpu_names.specs.Names.{names_of}
use Rattle.kernel_tables.specs.TablesText.{vcpu_text}
use Rattle.kernel_tables.proofs.tables.put_vcpus.Given as goal

-- the lines of the vCPUs so far came
abbrev pub invariant-loop-number : goal.invariant-loop-number
invariant-loop-number l = l.text.items ≡ l.fn.text.items
    ++ texts_below (vcpu_text (names_of l.vcpus) (plan_view l.plan)) l.number
