-- The demands of vCPUs on cores, and the marks that cut the round into intervals: as functions.
-- Source: the flow network of tasks and intervals of W. A. Horn, "Some simple scheduling
-- algorithms", Naval Research Logistics Quarterly 21, 1974.
use Rattle.std.specs.Prelude.{◌≡◌, ℕ, ◌+◌, ◌-◌, ◌*◌, ◌/◌, ◌<◌, ◌≤◌, ◌==◌, cond}
use Rattle.tab_core.specs.Sums.{total}

-- vCPU `v` below `width` is due `cost v` ticks in every `period v` ticks; `mark i` begins interval
-- `i` of `count`
pub record Load : Type 0 where
  pub width : ℕ
  pub count : ℕ
  pub cores : ℕ
  pub round : ℕ
  pub cost : ℕ → ℕ
  pub period : ℕ → ℕ
  pub mark : ℕ → ℕ

-- the length of an interval
abbrev pub span : Load → ℕ → ℕ
span l i = l.mark (i + 1) - l.mark i

-- the number of the vCPU's period, and so of its job, at the interval
abbrev pub job : Load → ℕ → ℕ → ℕ
job l v i = l.mark i / l.period v

-- how many jobs the vCPU has in a round
abbrev pub jobs : Load → ℕ → ℕ
jobs l v = l.round / l.period v

-- what the vCPU is due in a round
abbrev pub round_demand : Load → ℕ → ℕ
round_demand l v = l.cost v * jobs l v

-- the marks rise from 0 to the round, each interval lies inside one period of each vCPU, and no cost
-- is above its period
pub record IsLoad (l : Load) : Type 0 where
  pub some_round : 0 < l.round
  pub first : l.mark 0 ≡ 0
  pub last : l.mark l.count ≡ l.round
  pub rise : (i : ℕ) → i < l.count → l.mark i < l.mark (i + 1)
  pub some_period : (v : ℕ) → v < l.width → 0 < l.period v
  pub whole : (v : ℕ) → v < l.width → l.period v * jobs l v ≡ l.round
  pub inside : (v i : ℕ) → v < l.width → i < l.count → l.mark (i + 1) ≤ (job l v i + 1) * l.period v
  pub within : (v : ℕ) → v < l.width → l.cost v ≤ l.period v

-- a function of intervals, summed over the intervals of a job
abbrev pub over_job : Load → ℕ → ℕ → (ℕ → ℕ) → ℕ
over_job l v k f = total (λ i. cond (job l v i == k) (f i) 0) l.count

-- what a job is given
abbrev pub given : Load → (ℕ → ℕ → ℕ) → ℕ → ℕ → ℕ
given l f v k = over_job l v k (f v)

-- what an interval is used
abbrev pub used : Load → (ℕ → ℕ → ℕ) → ℕ → ℕ
used l f i = total (λ v. f v i) l.width

-- 1 at the interval that is one tick short, while a path is walked
abbrev pub hole_at : ℕ → ℕ → ℕ
hole_at hole i = cond (hole == i) 1 0

-- a flow with what each job still needs and what room each interval has; no interval is short where
-- `hole` is beyond the last
pub record IsFlow (l : Load) (f lack : ℕ → ℕ → ℕ) (room : ℕ → ℕ) (hole : ℕ) : Type 0 where
  pub short : (v i : ℕ) → v < l.width → i < l.count → f v i ≤ span l i
  pub due : (v k : ℕ) → v < l.width → k < jobs l v → lack v k + given l f v k ≡ l.cost v
  pub fits : (i : ℕ) → i < l.count → room i + used l f i + hole_at hole i ≡ l.cores * span l i

-- the intervals of a job are from the mark of its begin up to that of its end
pub record Window (l : Load) (v k i j : ℕ) : Type 0 where
  pub vcpu : v < l.width
  pub from : l.mark i ≡ k * l.period v
  pub until : l.mark j ≡ (k + 1) * l.period v
  pub in_round : j ≤ l.count
  pub some : i < j
