use Rattle.std.proofs.Common.{◌≡◌, ℕ, ◌+◌, ◌&&◌, not, Bool, false, true, List, length, get_or, ap, subst, sym, ◌∙◌, arith}
use Rattle.std.specs.Prelude.{IsTrue}
use Rattle.std.proofs.lemmas.List.{get_or-replicate, length-replicate}
use Rattle.tab_core.specs.VcpuSets.{has_vcpu}
use Rattle.table_form.specs.Running.Courses.{runnable_after}
use Rattle.burst_bound.specs.Inside.Bounding.{IsReadyFrom}
use Rattle.burst_bound.proofs.ReadyLemmas.{ready_always, ready_before, ready_behind, steady_before}
use Rattle.burst_bound.proofs.ahead.fill_ready.Goals as goal

pub loop-first-init : goal.loop-first-init
loop-first-init c =
    let course = c.args.course.now in
    let count = c.count-first.result in
    let last = c.count-first.ensures.count in
    let size = c.requires.size in
    let same = c.copy-steady.ensures ∙ c.runnable_after.ensures in
    record {
      size = ap length c.give_all.ensures ∙ length-replicate (length c.args.ready.now) (count + 1) ∙ size;
      within = omega arith;
      steady = λ v n on low high.
          (let e : count ≡ n = omega arith in
          let there = subst (λ (s : List Bool). has_vcpu s v ≡ true) same on in
          subst (λ (k : ℕ). IsTrue (has_vcpu (runnable_after course k) v)) e there);
      others = λ v lt off.
          (let given = ap (λ (xs : List ℕ). get_or xs v 0) c.give_all.ensures
          ∙ get_or-replicate (length c.args.ready.now) v (count + 1) 0 (omega arith)
          ∙ ap (λ (k : ℕ). k + 1) last in
          let gone = subst (λ (s : List Bool). has_vcpu s v ≡ false) (same ∙ ap (runnable_after course) last) off in
          subst (λ (k : ℕ). IsReadyFrom course v k) (sym given) (ready_behind course v gone));
    }

pub loop-first-preserved : goal.loop-first-preserved
loop-first-preserved c =
    let inv = c.loop-first.invariant in
    let course = c.args.course.now in
    let first = c.loop-first.first in
    let steady = c.loop-first.steady in
    let gone = c.without-gone.result in
    let next = c.without-steady.result in
    let gone_is = λ (v : ℕ). c.without-gone.ensures v
    ∙ ap (λ (r : List Bool). has_vcpu steady v && not (has_vcpu r v)) c.runnable_after-in-loop-first.ensures in
    record {
      size = c.give.ensures.size;
      within = (let within = inv.within in omega arith);
      steady = steady_before course first steady gone next c.loop-first-test.true inv.within inv.steady gone_is
          c.without-steady.ensures;
      others = λ v lt off.
          ready_before course first steady gone next c.loop-first-test.true inv.within inv.steady gone_is
          c.without-steady.ensures v (get_or c.loop-first.ready v 0) (get_or c.give.new.ready v 0) (inv.others v lt)
          (c.give.ensures.given v lt) off;
    }

pub returns-clause-ready : goal.returns-clause-ready
returns-clause-ready c =
    let inv = c.loop-first.invariant in
    record {
      size = c.give-2.ensures.size;
      each = λ v lt. ready_always c.args.course.now c.loop-first.steady v c.loop-first.first (get_or c.loop-first.ready v 0)
          (get_or c.give-2.new.ready v 0) (let test = c.loop-first-test.false in omega arith) inv.steady
          (inv.others v lt) (c.give-2.ensures.given v lt);
    }
