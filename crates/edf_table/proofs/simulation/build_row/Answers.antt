use Rattle.std.proofs.Common.{◌≡◌, ◌∙◌, ◌*◌, ◌/◌, ◌+◌, ap, arith, subst, sym, slice_get, Some}
use Rattle.std.proofs.lemmas.Option.{slice_get_within}
use Rattle.tab_core.specs.declared.TheConstants.{ROUND}
use Rattle.table_form.specs.Planning.Jobs.{jobs_of}
use Rattle.table_form.specs.Tables.Serves.{cells_within}
use Rattle.edf_table.specs.Inside.Progress.{MetBefore}
use Rattle.edf_table.specs.Inside.Repetition.{so_often}
use Rattle.edf_table.proofs.Inside.{row_in_windows, length-edf_row}
use Rattle.edf_table.proofs.Repeats.{all_met}
use Rattle.edf_table.proofs.RepetitionLemmas.{row_repeats}
use Rattle.edf_table.proofs.Windowed.{window_of_piece}
use Rattle.edf_table.proofs.simulation.build_row.Goals as goal

pub returns-clause-row : goal.returns-clause-row
returns-clause-row c =
    let common = c.common_period-common.result in
    c.in_ok-row.ensures ∙ ap (so_often (ROUND / common)) c.in_ok-first.ensures.cells
    ∙ row_repeats c.args.pieces.now common c.requires.distinct c.common_period-common.ensures.common
    c.common_period-common.ensures.some c.common_period-common.ensures.small
    c.common_period-common.ensures.whole
    c.in_ok-first.ensures.met

-- all is met to the end of the round
met_at_end : (c : goal.In_ok-row) → MetBefore (jobs_of c.args.pieces.now) (ROUND + 1)
met_at_end c =
    let common = c.common_period-common.result in
    all_met c.args.pieces.now common c.requires.distinct c.common_period-common.ensures.common
    c.common_period-common.ensures.some c.common_period-common.ensures.whole c.in_ok-first.ensures.met

pub returns-clause-windows : goal.returns-clause-windows
returns-clause-windows c i k p at k-lt =
    subst (λ row. cells_within p.vcpu row (k * p.period + p.from) (k * p.period + p.to) ≡ p.cost)
    (sym (returns-clause-row c))
    (window_of_piece c.args.pieces.now i k p c.requires.distinct at (met_at_end c) k-lt)

pub returns-clause-inside : goal.returns-clause-inside
returns-clause-inside c v x at =
    let here = subst (λ row. slice_get row x ≡ Some (Some v)) (returns-clause-row c) at in
    row_in_windows c.args.pieces.now v x (met_at_end c)
    (omega (
      arith,
      slice_get_within _ x (Some v) here,
      length-edf_row (jobs_of c.args.pieces.now),
    )) here
