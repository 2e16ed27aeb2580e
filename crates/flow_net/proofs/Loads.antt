-- Tasks on cores are a load, and an allotment of them needs room for all demands.
use Rattle.std.proofs.Common.{◌≡◌, ℕ, ◌+◌, ◌*◌, ◌/◌, ◌<◌, ◌≤◌, List, [], ◌∷◌, Option, Some, None, length, map, get_or, ap, refl, sym, ◌∙◌, arith, ⊎_elim}
use Rattle.std.proofs.lemmas.List.{get_or-map, length-map}
use Rattle.std.proofs.lemmas.List.Sums.{sum_by-cons}
use Rattle.std.proofs.lemmas.Bool.{cases_lt}
use Rattle.std.proofs.Math.Nat.{le-div_iff_mul-le}
use Rattle.tab_core.specs.declared.TheConstants.{ROUND}
use Rattle.tab_core.specs.declared.periodic.Periodic.{Periodic}
use Rattle.tab_core.proofs.Periods.{period_facts}
use Rattle.tab_core.specs.Sums.{total}
use Rattle.tab_core.proofs.Totals.{total-front}
use Rattle.flow_net.specs.Load.{IsLoad}
use Rattle.flow_net.specs.Flows.{FitsCores, flow_of, load_of}
use Rattle.flow_net.specs.Allotments.{cost_of_task, period_of_task, demand_of_task, demands, load_of_tasks, AreMarks, AllotmentView, IsAllotment}
use Rattle.flow_net.proofs.Beyond.{no_allotment_beyond}

-- what a load asks of a task, and of a vCPU without one
pub record TaskFacts (o : Option Periodic) : Type 0 where
  pub some : 0 < period_of_task o
  pub whole : period_of_task o * (ROUND / period_of_task o) ≡ ROUND
  pub within : cost_of_task o ≤ period_of_task o
  pub short : period_of_task o ≤ ROUND

-- each period is one of the listed ones, which divide the round
pub task_facts : (o : Option Periodic) → TaskFacts o
task_facts None = record { some = omega arith; whole = refl; within = omega arith; short = omega arith }
task_facts (Some t) = let f = period_facts t.period t.listed in
    record {
      some = omega (arith, f.at_least);
      whole = f.whole;
      within = t.within;
      short =
          omega (arith, f.at_most);
    }

-- the cost in the list of costs is the task's
pub cost_at : (tasks : List (Option Periodic)) (v : ℕ) → v < length tasks
    → get_or (map cost_of_task tasks) v 0 ≡ cost_of_task (get_or tasks v None)
cost_at tasks v h = get_or-map cost_of_task tasks v None 0 h

-- the period in the list of periods is the task's
pub period_at : (tasks : List (Option Periodic)) (v : ℕ) → v < length tasks
    → get_or (map period_of_task tasks) v 0 ≡ period_of_task (get_or tasks v None)
period_at tasks v h = get_or-map period_of_task tasks v None 0 h

-- what marks and periods need to make a load
pub record ArePeriods (costs periods : List ℕ) : Type 0 where
  pub same_len : length periods ≡ length costs
  pub some : (v : ℕ) → v < length costs → 0 < get_or periods v 0
  pub whole : (v : ℕ) → v < length costs → get_or periods v 0 * (ROUND / get_or periods v 0) ≡ ROUND
  pub within : (v : ℕ) → v < length costs → get_or costs v 0 ≤ get_or periods v 0
  pub short : (v : ℕ) → v < length costs → get_or periods v 0 ≤ ROUND

-- the costs and periods of tasks are as a load asks
pub periods_of_tasks : (tasks : List (Option Periodic))
    → ArePeriods (map cost_of_task tasks) (map period_of_task tasks)
periods_of_tasks tasks =
    let n = length-map tasks cost_of_task in
    let in_tasks = λ (v : ℕ) (h : v < length (map cost_of_task tasks)). let r : v
    < length tasks = omega (arith, h, n) in r in
    record {
      same_len = length-map tasks period_of_task ∙ sym n;
      some = λ v h. rw (period_at tasks v (in_tasks v h)) (task_facts (get_or tasks v None)).some;
      whole = λ v h. rw (period_at tasks v (in_tasks v h)) (task_facts (get_or tasks v None)).whole;
      within = λ v h. rw (period_at tasks v (in_tasks v h))
          (rw (cost_at tasks v (in_tasks v h)) (task_facts (get_or tasks v None)).within);
      short = λ v h. rw (period_at tasks v (in_tasks v h)) (task_facts (get_or tasks v None)).short;
    }

-- with their marks they make a load
pub load_ok : (costs periods marks : List ℕ) (cores : ℕ) → ArePeriods costs periods → AreMarks periods marks
    → IsLoad (load_of costs periods marks cores)
load_ok costs periods marks cores p m = record {
  some_round = omega arith;
  first = m.first;
  last = m.last;
  rise = λ i h. m.rise i (omega (arith, h));
  some_period = p.some;
  whole = p.whole;
  inside = λ v i h a.
      (let t = get_or periods v 0 in
      let x = get_or marks i 0 in
      let some = p.some v h in
      let above : x < (x / t + 1) * t
      = ⊎_elim (λ (lt : x < (x / t + 1) * t). lt)
      (λ (ge : (x / t + 1) * t
      ≤ x). absurd (omega (arith, (le-div_iff_mul-le {k = t} {x = x / t + 1} {y = x} some).1 ge)))
      (cases_lt x ((x / t + 1) * t)) in
      m.inside i v (x / t + 1) (omega (arith, a)) (omega (arith, h, p.same_len)) above);
  within = p.within;
}

-- the demands by numbers are those by tasks
pub demands_total : (tasks : List (Option Periodic))
    → total (λ v. get_or (map cost_of_task tasks) v 0 * (ROUND / get_or (map period_of_task tasks) v 0))
    (length tasks) ≡ demands tasks
demands_total [] = refl
demands_total (t ∷ ts) =
    total-front (λ v. get_or (map cost_of_task (t ∷ ts)) v 0 *
    (ROUND / get_or (map period_of_task (t ∷ ts)) v 0)) (length ts)
    ∙ ap (λ n. demand_of_task t + n) (demands_total ts) ∙ sym (sum_by-cons demand_of_task t ts)

-- demands that fit the cores as tasks do so as a load
pub fits_of_demands : (tasks : List (Option Periodic)) (marks : List ℕ) (cores : ℕ)
    → demands tasks ≤ cores * ROUND → FitsCores (load_of_tasks tasks marks cores)
fits_of_demands tasks marks cores h =
    let n = length-map tasks cost_of_task in
    let f = λ (v : ℕ). get_or (map cost_of_task tasks) v 0 * (ROUND / get_or (map period_of_task tasks) v 0)
    in
    let same : total f (length (map cost_of_task tasks)) ≡ total f (length tasks) = ap (λ k. total f k) n in
    let sum = demands_total tasks in
    let all : total f (length (map cost_of_task tasks)) ≤ cores * ROUND = omega (arith, same, sum, h) in
    all

-- an allotment needs room for all demands
pub allotment_fits : (tasks : List (Option Periodic)) (cores : ℕ) (a : AllotmentView)
    → IsAllotment tasks cores a → demands tasks ≤ cores * ROUND
allotment_fits tasks cores a is =
    let l = load_of_tasks tasks a.marks cores in
    let n = length-map tasks cost_of_task in
    let ok = load_ok (map cost_of_task tasks) (map period_of_task tasks) a.marks cores
    (periods_of_tasks tasks) is.marks in
    let most = no_allotment_beyond l ok (flow_of a.ticks) (λ v k h lt. is.serves v k (omega (arith, h, n)) lt)
    (λ i h. is.fits i (omega (arith, h, is.rows))) in
    let f = λ (v : ℕ). get_or (map cost_of_task tasks) v 0 * (ROUND / get_or (map period_of_task tasks) v 0)
    in
    let same : total f (length (map cost_of_task tasks)) ≡ total f (length tasks) = ap (λ k. total f k) n in
    let most' : total f (length (map cost_of_task tasks)) ≤ cores * ROUND = most in
    omega (arith, most', same, demands_total tasks)
