use Rattle.tab_core.specs.declared.TheConstants.{MAX_VCPUS}
use Rattle.table_form.proofs.Sets.{nobody_has}
use Rattle.slice_table.proofs.sight.nobody.Goals as goal

pub returns-clause-none : goal.returns-clause-none
returns-clause-none c = λ v. rw c.empty.ensures (nobody_has MAX_VCPUS v)
