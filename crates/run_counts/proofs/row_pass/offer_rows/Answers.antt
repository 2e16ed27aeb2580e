use Rattle.std.proofs.Common.{[], sym, subst}
use Rattle.tab_core.specs.declared.TheConstants.{ROUND}
use Rattle.table_form.specs.Promises.Offered.{some_row_has}
use Rattle.run_counts.specs.Inside.Sweeps.{IsToldTo}
use Rattle.run_counts.proofs.RowLemmas.{none_told}
use Rattle.run_counts.proofs.row_pass.offer_rows.Goals as goal

pub loop-core-init : goal.loop-core-init
loop-core-init c = record {
  size = c.requires.size;
  told = λ v lt short. subst (IsToldTo (some_row_has [] v) ROUND) (sym (c.requires.none v lt))
      (none_told v);
}
