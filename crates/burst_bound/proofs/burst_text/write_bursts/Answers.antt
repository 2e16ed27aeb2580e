use Rattle.std.proofs.Common.{length, ap, arith, rules}
use Rattle.std.proofs.lemmas.Option.{slice_get_within}
use Rattle.std.proofs.lemmas.Result.{err_from_is_err_and}
use Rattle.tab_words.proofs.NumberedTextLemmas.{none_written, next_written, next_broken}
use Rattle.vcpu_names.specs.Names.{names_of}
use Rattle.burst_bound.specs.BurstText.{burst_line_at, no_answer}
use Rattle.burst_bound.specs.ScriptBursts.{bursts_of}
use Rattle.burst_bound.proofs.ScriptBurstLemmas.{all_bursts, burst_next, no_burst_here, no_burst_yet}
use Rattle.burst_bound.proofs.TextLemmas.{line_here}
use Rattle.burst_bound.proofs.burst_text.write_bursts.Goals as goal
use Rattle.burst_bound.proofs.burst_text.write_bursts.Goals.{in-Burst+in_ok-put_burst, in_default}

pub bounds-answers-k : goal.bounds-answers-k
bounds-answers-k g c =
    let events = c.events-events.result.now in
    let next = burst_next events c.loop-i.i c.loop-i.k c.index-events-i.result c.in-Burst.vcpu c.in-Burst.work
    c.loop-i.invariant.so_far c.loop-i-test.true c.index-events-i.is c.in-Burst.is in
    let lt = slice_get_within (bursts_of events) c.loop-i.k _ next.0 in
    let same = ap (λ es. length (bursts_of es)) c.events-events.ensures.same in
    omega (arith, c.requires)

pub returns-in_err-put_burst : goal.returns-in_err-put_burst
returns-in_err-put_burst g c =
    let p = err_from_is_err_and c.from_residual.result c.from_residual.ensures.1 in
    let events = c.events-events.result.now in
    let names = names_of c.items-vcpus.result.now in
    let answers = c.args.answers.now in
    let next = burst_next events c.loop-i.i c.loop-i.k c.index-events-i.result c.in-Burst.vcpu c.in-Burst.work
    c.loop-i.invariant.so_far c.loop-i-test.true c.index-events-i.is c.in-Burst.is in
    let lt = slice_get_within (bursts_of events) c.loop-i.k _ next.0 in
    let same = ap (λ es. length (bursts_of es)) c.events-events.ensures.same in
    let line = line_here names (bursts_of events) answers c.loop-i.k _ no_answer next.0 (omega (arith, c.requires)) in
    let whole = next_broken _ _ _ (burst_line_at names (bursts_of events) answers) c.loop-i.k
    (length (bursts_of events)) (tt {0}) _ c.in_err-put_burst.field-0.0 lt c.loop-i.invariant.wrote
    (rw (← line) (c.put_burst.ensures c.loop-i.i)) c.in_err-put_burst.was in
    rw (p.1, ← c.events-events.ensures.same, ← c.items-vcpus.ensures.same) whole

pub loop-i-init : goal.loop-i-init
loop-i-init g c = record {
  so_far = no_burst_yet c.events-events.result.now;
  wrote = none_written _ _ (tt {0});
}

pub loop-i-preserved : goal.loop-i-preserved
loop-i-preserved g c =
    let events = c.events-events.result.now in
    let names = names_of c.items-vcpus.result.now in
    let answers = c.args.answers.now in
    elim c.match-event.branch [
      | in-Burst+in_ok-put_burst w ↦
          let next = burst_next events c.loop-i.i c.loop-i.k c.index-events-i.result w.in-Burst.vcpu w.in-Burst.work
          c.loop-i.invariant.so_far c.loop-i-test.true c.index-events-i.is w.in-Burst.is in
          let lt = slice_get_within (bursts_of events) c.loop-i.k _ next.0 in
          let same = ap (λ es. length (bursts_of es)) c.events-events.ensures.same in
          let line = line_here names (bursts_of events) answers c.loop-i.k _ no_answer next.0 (omega (arith, c.requires)) in
          let more = next_written _ _ _ (burst_line_at names (bursts_of events) answers) c.loop-i.k
          (tt {0}) w.in_ok-put_burst.field-0 _ c.loop-i.invariant.wrote
          (rw (← line) (w.put_burst.ensures c.loop-i.i)) w.in_ok-put_burst.was in
          rw (w.k-is, w.sink-is) (record { so_far = next.1; wrote = more })
      | in_default w ↦
          let rest = no_burst_here events c.loop-i.i c.loop-i.k c.index-events-i.result c.loop-i.invariant.so_far
          c.loop-i-test.true c.index-events-i.is (search rules) in
          rw (w.k-is, w.sink-is) (record { so_far = rest; wrote = c.loop-i.invariant.wrote })
    ]

pub returns : goal.returns
returns g c =
    let events = c.events-events.result.now in
    let all = all_bursts events c.loop-i.i c.loop-i.k c.loop-i.invariant.so_far c.loop-i-test.false in
    rw (← c.events-events.ensures.same, ← c.items-vcpus.ensures.same, ← all) c.loop-i.invariant.wrote
