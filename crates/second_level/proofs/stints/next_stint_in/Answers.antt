use Rattle.std.proofs.Common.{ℕ, ◌%◌, Bool, Option, cond, refl, sym, ap, ◌∙◌, arith, rules}
use Rattle.tab_core.specs.declared.TheConstants.{ROUND}
use Rattle.table_form.specs.Running.Choice.{IsChoice, runs_other}
use Rattle.table_form.specs.Running.Courses.{CourseView, runnable_after, with_plans}
use Rattle.second_level.specs.declared.stints.Begin.{Begin}
use Rattle.second_level.proofs.DispatchLemmas.{end_in_round, follows_by, shared_by}
use Rattle.second_level.proofs.PickLemmas.{pick_of_span}
use Rattle.second_level.proofs.stints.next_stint_in.Goals as goal

pub returns : goal.returns
returns c =
    let begin : Begin = c.args.begin.now in
    let ran = c.choose-chosen.result.ran in
    let ends = end_in_round c.choose-chosen.result.shared begin.from c.end_of-end.result
    c.args.span.now.end c.lag-lag.result c.quantum-quantum.result c.end_of-end.ensures
    c.requires.begins.after c.requires.begins.within
    (omega (arith, c.lag-lag.ensures.lag, c.lag-lag.ensures.kept.some_lag))
    (omega (arith, c.quantum-quantum.ensures.quantum, c.quantum-quantum.ensures.kept.some_quantum)) in
    record {
      from = search rules;
      seen = search rules;
      used = search rules;
      some = ends.0;
      in_round = ends.1;
      in_span = ends.2;
      follows = λ plan shown plans numbers is earlier known.
          let course : CourseView = with_plans c.args.outline.now plans numbers in
          let choice : IsChoice plan c.args.core (begin.from % ROUND) (runnable_after course begin.seen) begin.last ran =
          rw (← c.runnable_after.ensures) (record {
            slot = λ runs. c.choose-chosen.ensures.slot (rw shown.owner_is runs) ∙ shown.owner_is;
            shared = λ waits. pick_of_span plan c.args.core (begin.from % ROUND) c.args.span.now.owner
                c.args.span.now.sharers.now c.runnable_after.result.now c.args.span.now.end begin.last
                ran shown (search rules) (c.choose-chosen.ensures.pick (rw shown.owner_is waits));
          }) in
          follows_by course c.args.core earlier _ plan c.args.span.now.end is (rw (← known) choice) shown.span
          (c.end_of-end.ensures ∙ rw (
            c.choose-chosen.ensures.other,
            c.lag-lag.ensures.lag,
            c.quantum-quantum.ensures.quantum,
            shown.owner_is,
          ) refl);
      shared = λ plan shown plans numbers is.
          c.choose-chosen.ensures.other ∙ (ap (λ (o : Option ℕ). runs_other o ran) shown.owner_is
          ∙ sym (shared_by (with_plans c.args.outline.now plans numbers) c.args.core begin.from begin.used ran plan is));
      last = λ plan shown plans numbers is.
          c.last_pick-last.ensures ∙ ap (λ (b : Bool). cond b ran begin.last)
          (c.choose-chosen.ensures.other ∙ (ap (λ (o : Option ℕ). runs_other o ran) shown.owner_is
          ∙ sym (shared_by (with_plans c.args.outline.now plans numbers) c.args.core begin.from begin.used ran plan is)));
      picked = search rules;
    }
