use Rattle.std.proofs.Common.{ℕ, [], ◌∷◌, arith, subst}
use Rattle.std.proofs.lemmas.Result.{err_from_is_err_and}
use Rattle.tab_io.specs.Sinks.{Writes}
use Rattle.tab_words.proofs.NumberedTextLemmas.{all_written, next_broken, next_written, none_written}
use Rattle.view_text.specs.TextCharts.{cell_at}
use Rattle.view_text.proofs.WindowLemmas.{edge_rises, letter_in_window, not_later}
use Rattle.view_text.proofs.text_chart.put_cells.Goals as goal

pub loop-j-init : goal.loop-j-init
loop-j-init g c = record {
  wrote = none_written _ _ (tt {0});
  within = omega arith;
  before = λ i d low. absurd (omega (arith, low));
}

pub returns-in_err-put_cell : goal.returns-in_err-put_cell
returns-in_err-put_cell g c =
    let p = err_from_is_err_and c.from_residual.result c.from_residual.ensures.1 in
    let same = letter_in_window c.args.frame.now c.args.columns c.args.vcpus c.args.bars.now _ _ c.loop-j.j _ _ c.requires.vcpus
    c.edge_of.ensures.value c.edge_of-in-loop-j.ensures.value c.first_from-start.ensures.before
    c.first_behind-stop.ensures.order c.first_behind-stop.ensures.within c.first_behind-stop.ensures.behind in
    let came = subst (λ (letter : ℕ). Writes {U = Unit {0}} (g.K.Sink.state c.loop-j.sink)
    (g.K.Sink.state c.put_cell.new.sink) (letter ∷ []) c.put_cell.result) same c.put_cell.ensures in
    rw p.1 (next_broken _ _ _ (cell_at c.args.frame.now c.args.columns c.args.vcpus c.args.bars.now) c.loop-j.j _ (tt {0}) _
    c.in_err-put_cell.field-0.0 c.loop-j-test.true c.loop-j.invariant.wrote came c.in_err-put_cell.was)

pub loop-j-preserved : goal.loop-j-preserved
loop-j-preserved g c =
    let same = letter_in_window c.args.frame.now c.args.columns c.args.vcpus c.args.bars.now _ _ c.loop-j.j _ _ c.requires.vcpus
    c.edge_of.ensures.value c.edge_of-in-loop-j.ensures.value c.first_from-start.ensures.before
    c.first_behind-stop.ensures.order c.first_behind-stop.ensures.within c.first_behind-stop.ensures.behind in
    let came = subst (λ (letter : ℕ). Writes {U = Unit {0}} (g.K.Sink.state c.loop-j.sink)
    (g.K.Sink.state c.put_cell.new.sink) (letter ∷ []) c.put_cell.result) same c.put_cell.ensures in
    record {
      wrote = next_written _ _ _ (cell_at c.args.frame.now c.args.columns c.args.vcpus c.args.bars.now) c.loop-j.j
          (tt {0}) c.in_ok-put_cell.field-0 _ c.loop-j.invariant.wrote came c.in_ok-put_cell.was;
      within = c.first_from-start.ensures.within;
      before = λ i d low. not_later _ _ _ _ (c.first_from-start.ensures.before i d low) c.edge_of.ensures.value
          (edge_rises c.args.frame.now c.args.columns c.loop-j.j c.requires.some);
    }

pub returns : goal.returns
returns g c = all_written _ _ (cell_at c.args.frame.now c.args.columns c.args.vcpus c.args.bars.now) c.loop-j.j _ (tt {0})
    c.loop-j.auto.j-end c.loop-j-test.false c.loop-j.invariant.wrote
