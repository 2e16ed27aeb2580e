use Rattle.std.proofs.lemmas.Result.{err_from_is_err_and}
use Rattle.tab_words.proofs.NumberedTextLemmas.{all_written, next_broken, next_written, none_written}
use Rattle.std.proofs.Common.{codes}
use Rattle.view_cells.specs.Cells.{spaces}
use Rattle.view_cells.proofs.cells.put_spaces.Goals as goal

pub loop-space-init : goal.loop-space-init
loop-space-init g c = none_written _ _ (tt {0})

pub returns-in_err-write_all : goal.returns-in_err-write_all
unfolding spaces
returns-in_err-write_all g c =
    let p = err_from_is_err_and c.from_residual.result c.from_residual.ensures.1 in
    rw p.1 (next_broken _ _ _ (λ _. codes " ") c.loop-space.space _ (tt {0}) _ c.in_err-write_all.field-0.0
    c.loop-space-test.true c.loop-space.invariant c.write_all.ensures c.in_err-write_all.was)

pub loop-space-preserved : goal.loop-space-preserved
loop-space-preserved g c = next_written _ _ _ (λ _. codes " ") c.loop-space.space (tt {0}) c.in_ok-write_all.field-0 _
    c.loop-space.invariant c.write_all.ensures c.in_ok-write_all.was

pub returns : goal.returns
unfolding spaces
returns g c = all_written _ _ (λ _. codes " ") c.loop-space.space _ (tt {0}) c.loop-space.auto.space-end
    c.loop-space-test.false c.loop-space.invariant
