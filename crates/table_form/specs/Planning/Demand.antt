-- The processor demand of jobs on one core, and when they fit.
-- Source: the processor-demand criterion of S. K. Baruah, L. E. Rosier, R. R. Howell, "Algorithms
-- and complexity concerning the preemptive scheduling of periodic, real-time tasks on one
-- processor", Real-Time Systems 2, 1990.
use Rattle.std.specs.Prelude.{ℕ, ◌-◌, ◌<◌, ◌≤◌, ◌&&◌, Bool, nat_le, if◌then◌else◌, List}
use Rattle.std.specs.List.{sum_by}
use Rattle.tab_core.specs.declared.TheConstants.{ROUND}
use Rattle.table_form.specs.Planning.Jobs.{Job}

-- the job's window lies inside [from, to)
abbrev pub is_inside : ℕ → ℕ → Job → Bool
is_inside from to j = nat_le from j.release && nat_le j.deadline to

-- the processor demand: what the jobs inside [from, to) cost together, in ticks
unfoldable pub demand_in : List Job → ℕ → ℕ → ℕ
demand_in jobs from to = sum_by (λ j. if is_inside from to j then j.cost else 0) jobs

-- no interval of the round is asked for more ticks than it has
abbrev pub Fits : List Job → Type 0
Fits jobs = (from to : ℕ) → from < to → to ≤ ROUND → demand_in jobs from to ≤ to - from

-- the interval is asked for more ticks than it has
pub record IsOverloaded (jobs : List Job) (from to : ℕ) : Type 0 where
  pub some_ticks : from < to
  pub within : to ≤ ROUND
  pub too_much : to - from < demand_in jobs from to

-- the reported overloaded interval: the one of least end, and of those the one of greatest begin
pub record IsFirstOverload (jobs : List Job) (from to : ℕ) : Type 0 where
  pub overloaded : IsOverloaded jobs from to
  pub least_end : (f t : ℕ) → IsOverloaded jobs f t → to ≤ t
  pub greatest_begin : (f : ℕ) → IsOverloaded jobs f to → f ≤ from
