use Rattle.std.proofs.Common.{refl, ℕ, List, length, Some, ap, sym, ◌∙◌, subst, arith}
use Rattle.run_promises.proofs.OneTableLemmas.{complete_counts}
use Rattle.burst_bound.specs.Answers.{IsOneIfAny}
use Rattle.burst_bound.specs.Bursts.{IsBurstBound, IsDoneAt}
use Rattle.burst_bound.specs.Inside.Runs.{AreRuns}
use Rattle.burst_bound.specs.declared.ran.RanPiece.{RanPiece}
use Rattle.burst_bound.proofs.AnswerLemmas.{in_time}
use Rattle.burst_bound.proofs.SeenLemmas.{not_seen_in_run, seen_in_run}
use Rattle.burst_bound.proofs.report.answer_of.Goals as goal

pub returns-then-from : goal.returns-then-from
returns-then-from c = λ s kept runs. record {
  seen = λ x at. not_seen_in_run c.args.course.now c.args.rounds s c.args.burst.event c.args.latest x kept.invariant
      (c.requires.latest s kept) (rw (c.from.ensures, c.from-2.ensures, c.from-3.ensures) at c.if-from.true) at;
  done = refl;
  bound = refl;
  in_time = λ latest is. absurd (cc is);
}

pub bound_ahead-bound-requires-clause-each_round : goal.bound_ahead-bound-requires-clause-each_round
bound_ahead-bound-requires-clause-each_round c =
    let s = c.requires.kept.0 in
    let kept = c.requires.kept.1 in
    ap length (c.used-used.ensures ∙ kept.used 0 c.actor.result.now c.actor.ensures)
    ∙ complete_counts c.args.course.now c.args.rounds s c.count.ensures.kept kept.invariant kept.complete

pub returns : goal.returns
returns c = λ s kept runs.
    let used = c.used-used.ensures ∙ kept.used 0 c.actor.result.now c.actor.ensures in
    let below = c.requires.latest s kept in
    let seen = seen_in_run c.args.course.now c.args.rounds s c.args.burst.event c.args.latest kept.invariant below
    (rw (c.from.ensures, c.from-2.ensures, c.from-3.ensures) at c.if-from.false) in
    let moved = subst (λ (ps : List RanPiece). AreRuns c.args.rounds s ps c.deref-4.result.now) (sym c.deref-3.ensures.value)
    (subst (λ (ns : List ℕ). AreRuns c.args.rounds s c.args.known.now.runs.now.pieces.items ns) (sym c.deref-4.ensures.value) runs) in
    let done = subst (λ (v : ℕ). IsOneIfAny (IsDoneAt c.args.rounds s v c.args.burst.work c.args.latest) c.done_in-done.result)
    c.index.ensures.value
    (c.done_in-done.ensures c.args.rounds s c.requires.few (let in_run = seen.in_run in omega arith) moved) in
    let bound = subst (λ (decided : List ℕ). IsOneIfAny
    (IsBurstBound c.args.course.now c.args.rounds decided c.args.burst.event c.args.burst.vcpu c.args.burst.work c.args.latest)
    c.bound_ahead-bound.result) used c.bound_ahead-bound.ensures in
    record {
      seen = seen;
      done = done;
      bound = bound;
      in_time = in_time c.args.course.now c.args.rounds s c.args.burst.event c.args.burst.vcpu c.args.burst.work (Some c.args.latest)
          c.bound_ahead-bound.result c.done_in-done.result c.count.ensures.kept kept.invariant kept.complete seen done bound;
    }
