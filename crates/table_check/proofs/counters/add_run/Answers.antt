use Rattle.std.proofs.Common.{◌≡◌, ℕ, ◌+◌, ◌*◌, ◌/◌, ◌<◌, ◌≤◌, ◌-◌, Some, length, min, set, rules, ap, subst, sym, ◌∙◌, arith}
use Rattle.std.proofs.lemmas.List.{length-set}
use Rattle.tab_core.specs.declared.TheConstants.{ROUND}
use Rattle.tab_core.specs.declared.periodic.Periodic.{Periodic}
use Rattle.table_check.specs.Inside.Counters.{GrowBy, ticks_given}
use Rattle.table_check.specs.declared.counters.TheConstants.{MAX_PERIODS}
use Rattle.table_check.proofs.Counting.{no_cut_yet, one_more_cut, place_in_list, read_count, room_for_cut}
use Rattle.table_check.proofs.Periods.{holds_tick}
use Rattle.table_check.proofs.counters.add_run.Goals as goal

pub cutting-init : goal.cutting-init
cutting-init c = record {
  low = omega arith;
  high = c.requires.rises;
  size = search rules;
  grown = no_cut_yet c.args.tasks.now c.args.counters.now.items (Some c.args.vcpu) c.args.from;
}

pub index_mut-requires : goal.index_mut-requires
index_mut-requires c =
    let lt : c.cutting.tick < ROUND = omega (arith, c.requires.in_round, c.cutting-test.true) in
    let few = (holds_tick c.args.task.now c.cutting.tick lt).few in
    let place = place_in_list c.args.tasks.now c.cutting.counters.items c.args.vcpu
    (c.cutting.tick / c.args.task.now.period) c.args.task.now c.requires.task
    (c.cutting.invariant.size ∙ c.requires.size) few in
    omega (arith, place, c.index.ensures.value, c.cutting.counters.ok)

-- the cut goes on from the tick, and no farther than the run
pub record IsCut (from tick end to period : ℕ) : Type 0 where
  pub rises : tick < end
  pub within : end ≤ to
  pub in_period : end ≤ (tick / period + 1) * period

is_cut : (task : Periodic) (from tick end to : ℕ) → tick < to → to ≤ ROUND
    → end ≡ min to ((tick / task.period + 1) * task.period) → IsCut from tick end to task.period
is_cut task from tick end to lt in_round is =
    let high = (holds_tick task tick (omega arith)).high in
    record { rises = omega arith; within = omega arith; in_period = omega arith }

pub overflow_add-index_mut : goal.overflow_add-index_mut
overflow_add-index_mut c =
    let tasks = c.args.tasks.now in
    let task = c.args.task.now in
    let tick = c.cutting.tick in
    let counters = c.cutting.counters.items in
    let lt : tick < ROUND = omega (arith, c.requires.in_round, c.cutting-test.true) in
    let cut = is_cut task c.args.from tick c.min-end.result c.args.to c.cutting-test.true c.requires.in_round
    c.min-end.ensures in
    let few = (holds_tick task tick lt).few in
    let read = read_count tasks counters c.args.vcpu
    (tick / task.period) c.index.result c.index_mut.result.now _
    task c.requires.task
    (c.cutting.invariant.size ∙ c.requires.size) few c.index.ensures.value c.index_mut.ensures.value in
    let room = room_for_cut tasks c.args.counters.now.items counters c.args.vcpu c.args.from tick
    c.min-end.result task
    c.requires.task lt c.cutting.invariant.low (omega (arith, cut.rises))
    (omega (arith, cut.within, c.requires.in_round)) c.requires.room c.cutting.invariant.grown in
    omega (arith, read, room)

pub cutting-preserved : goal.cutting-preserved
cutting-preserved c =
    let tasks = c.args.tasks.now in
    let task = c.args.task.now in
    let tick = c.cutting.tick in
    let counters = c.cutting.counters.items in
    let end = c.min-end.result in
    let lt : tick < ROUND = omega (arith, c.requires.in_round, c.cutting-test.true) in
    let cut = is_cut task c.args.from tick end c.args.to c.cutting-test.true c.requires.in_round
    c.min-end.ensures in
    let few = (holds_tick task tick lt).few in
    let size : length counters ≡ length tasks * MAX_PERIODS = c.cutting.invariant.size ∙ c.requires.size in
    let read = read_count tasks counters c.args.vcpu
    (tick / task.period) c.index.result c.index_mut.result.now _
    task c.requires.task
    size few c.index.ensures.value c.index_mut.ensures.value in
    record {
      low = omega (arith, c.cutting.invariant.low, cut.rises);
      high = cut.within;
      size = length-set _ _ _ ∙ c.cutting.invariant.size;
      grown = subst
          (λ n. GrowBy tasks (ticks_given (Some c.args.vcpu) c.args.from end)
          c.args.counters.now.items
          (set counters (n * MAX_PERIODS + tick / task.period) (c.index_mut.result.now + (end - tick))))
          (sym c.index.ensures.value)
          (one_more_cut tasks c.args.counters.now.items counters c.args.vcpu c.args.from tick end
          (c.index_mut.result.now + (end - tick)) task
          c.requires.task size c.cutting.invariant.low (omega (arith, cut.rises)) lt cut.in_period
          c.cutting.invariant.grown (ap (λ n. n + (end - tick)) read));
    }

pub returns-clause-grown : goal.returns-clause-grown
returns-clause-grown c =
    let at_end : c.cutting.tick ≡ c.args.to = omega (arith, c.cutting.invariant.high, c.cutting-test.false) in
    subst (λ n. GrowBy c.args.tasks.now
    (ticks_given (Some c.args.vcpu) c.args.from n) c.args.counters.now.items
    c.cutting.counters.items) at_end c.cutting.invariant.grown
