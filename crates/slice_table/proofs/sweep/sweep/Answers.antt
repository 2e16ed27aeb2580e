use Rattle.std.proofs.Common.{◌≡◌, ℕ, List, refl, sym, subst, ◌∙◌, arith}
use Rattle.tab_core.specs.declared.TheConstants.{ROUND}
use Rattle.table_form.specs.Tables.Views.{plan_view}
use Rattle.slice_table.specs.declared.full_span.FullSpan.{FullSpan}
use Rattle.slice_table.specs.Inside.Sweeps.{IsPast}
use Rattle.slice_table.specs.Slices.{AreSpansOf}
use Rattle.slice_table.proofs.CursorLemmas.{past_start}
use Rattle.slice_table.proofs.SightLemmas.{all_later}
use Rattle.slice_table.proofs.SweepLemmas.{part_ends, part_grows, part_last, span_added}
use Rattle.slice_table.proofs.TableLemmas.{spans_few}
use Rattle.slice_table.proofs.sweep.sweep.Goals as goal

pub look-spot-requires-clause-past : goal.look-spot-requires-clause-past
look-spot-requires-clause-past c = λ d row at.
    subst (λ (number : ℕ). IsPast row 0 number) (sym (c.first_numbers-numbers.ensures d)) (past_start row 0)

pub growing-init : goal.growing-init
growing-init c = record {
  from = 0;
  done = subst (λ (spans : List FullSpan). AreSpansOf (plan_view c.args.plan.now) c.args.scope.now.core 0
      spans 0)
      (sym c.in_ok-spans.ensures) refl;
  part = c.look-spot.ensures.part;
  past = all_later c.args.plan.now.tables.rows 0 c.look-spot.result.end c.look-spot.new.numbers (omega arith)
      c.look-spot.ensures.past;
}

pub growing-preserved-then-is_alike : goal.growing-preserved-then-is_alike
growing-preserved-then-is_alike c =
    let plan = plan_view c.args.plan.now in
    let was = c.growing.invariant in
    let same = c.is_alike.ensures.0 c.if-is_alike.true in
    record {
      from = was.from;
      done = was.done;
      part = part_grows plan c.args.scope.now.core was.from c.growing.spot c.look-next.result c.requires.few
          was.part c.look-next.ensures.part same.0 same.1;
      past = all_later c.args.plan.now.tables.rows c.growing.spot.end c.look-next.result.end
          c.look-next.new.numbers
          (let after = c.look-next.ensures.part.after in omega arith) c.look-next.ensures.past;
    }

pub add-requires : goal.add-requires
add-requires c =
    let was = c.growing.invariant in
    let few = spans_few (plan_view c.args.plan.now) c.args.scope.now.core 0 was.from c.growing.spans
    was.done in
    omega (arith, was.part.after, was.part.within)

pub growing-preserved : goal.growing-preserved
growing-preserved c =
    let plan = plan_view c.args.plan.now in
    let core = c.args.scope.now.core in
    let was = c.growing.invariant in
    let end = part_ends plan core was.from c.growing.spot c.look-next.result was.part c.look-next.ensures.part
    (λ same. (let is = c.is_alike.ensures.1 same in let isnt = c.if-is_alike.false in absurd (cc))) in
    record {
      from = c.growing.spot.end;
      done = subst (λ (spans : List FullSpan). AreSpansOf plan core 0 spans c.growing.spot.end)
          (sym c.in_ok-add.ensures)
          (span_added plan c.args.scope.now was.from c.growing.spans c.growing.spot c.of.result c.requires
          was.done
          was.part end c.of.ensures.owner c.of.ensures.away c.of.ensures.end c.of.ensures.sharers);
      part = c.look-next.ensures.part;
      past = all_later c.args.plan.now.tables.rows c.growing.spot.end c.look-next.result.end
          c.look-next.new.numbers
          (let after = c.look-next.ensures.part.after in omega arith) c.look-next.ensures.past;
    }

pub add-requires-2 : goal.add-requires-2
add-requires-2 c =
    let was = c.growing.invariant in
    let few = spans_few (plan_view c.args.plan.now) c.args.scope.now.core 0 was.from c.growing.spans
    was.done in
    omega (arith, was.part.after, was.part.within)

pub returns : goal.returns
returns c =
    let plan = plan_view c.args.plan.now in
    let core = c.args.scope.now.core in
    let was = c.growing.invariant in
    let last : c.growing.spot.end ≡ ROUND =
    (let within = was.part.within in omega (arith, c.growing-test.false)) in
    let end = part_last plan core was.from c.growing.spot was.part last in
    subst (λ (to : ℕ). AreSpansOf plan core 0 c.shrink.new.self to) last
    (subst (λ (spans : List FullSpan). AreSpansOf plan core 0 spans c.growing.spot.end)
    (sym (c.shrink.ensures ∙ c.in_ok-add-2.ensures))
    (span_added plan c.args.scope.now was.from c.growing.spans c.growing.spot c.of-2.result c.requires
    was.done was.part
    end c.of-2.ensures.owner c.of-2.ensures.away c.of-2.ensures.end c.of-2.ensures.sharers))
