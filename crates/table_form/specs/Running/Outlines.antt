-- The outline of a course: the course without its plans. It has the events by their ticks, and after
-- each count of first events the runnable vCPUs.
-- Source: the rules of this project.
use Rattle.std.specs.Prelude.{◌≡◌, ℕ, suc, ◌+◌, ◌<◌, ◌≤◌, Bool, List, length, slice_index}
use Rattle.tab_core.specs.declared.TheConstants.{MAX_CORES, MAX_EVENTS, ROUND}

-- times are in ticks; `runnable` has for each count of first events the set of runnable vCPUs
pub record OutlineView : Type 0 where
  pub cores : ℕ
  pub lag : ℕ
  pub quantum : ℕ
  pub ticks : List ℕ
  pub runnable : List (List Bool)

-- an outline as contracts see it, by its parts
abbrev pub outline_view : ℕ → ℕ → ℕ → List ℕ → List (List Bool) → OutlineView
outline_view cores lag quantum ticks runnable = record {
  cores = cores;
  lag = lag;
  quantum = quantum;
  ticks = ticks;
  runnable = runnable;
}

-- what each outline keeps
pub record IsOutline (o : OutlineView) : Type 0 where
  pub rising : (i : ℕ) → suc i < length o.ticks → slice_index o.ticks i ≤ slice_index o.ticks (suc i)
  pub runnables : length o.runnable ≡ length o.ticks + 1
  pub some_core : 1 ≤ o.cores
  pub few_cores : o.cores ≤ MAX_CORES
  pub some_lag : 1 ≤ o.lag
  pub small_lag : o.lag ≤ ROUND
  pub some_quantum : 1 ≤ o.quantum
  pub small_quantum : o.quantum ≤ ROUND
  pub few_events : length o.ticks ≤ MAX_EVENTS
