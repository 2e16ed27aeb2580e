-- How many jobs and edges the network of a load has.
use Rattle.std.specs.Prelude.{ℕ, ◌+◌, ◌*◌, cond, nat_lt}
use Rattle.tab_core.specs.Sums.{total}
use Rattle.flow_net.specs.Load.{Load, jobs}

-- the vCPU is admitted, as a number
abbrev pub is_due : Load → ℕ → ℕ
is_due l v = cond (nat_lt 0 (l.cost v)) 1 0

-- how many of the first vCPUs are admitted
abbrev pub admitted_below : Load → ℕ → ℕ
admitted_below l n = total (is_due l) n

-- how many vCPUs are admitted
abbrev pub admitted : Load → ℕ
admitted l = admitted_below l l.width

-- how many jobs the vCPU has, if it is admitted
abbrev pub jobs_due : Load → ℕ → ℕ
jobs_due l v = cond (nat_lt 0 (l.cost v)) (jobs l v) 0

-- how many jobs there are: those of admitted vCPUs
abbrev pub job_count : Load → ℕ
job_count l = total (jobs_due l) l.width

-- how many edges the network has: one to each job, one from each admitted vCPU to each interval,
-- and one from each interval
abbrev pub edges : Load → ℕ
edges l = job_count l + admitted l * l.count + l.count
