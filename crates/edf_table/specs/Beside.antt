-- A further subtask beside the jobs of a core, as in splitting a vCPU over cores.
-- Source: the C=D scheme of A. Burns, R. I. Davis, P. Wang, F. Zhang, "Partitioned EDF scheduling
-- for multiprocessors using a C=D task splitting scheme", Real-Time Systems 48, 2012.
use Rattle.std.specs.Prelude.{ℕ, ◌+◌, List, ◌++◌}
use Rattle.table_form.specs.Planning.Jobs.{Job, Subtask, jobs_of_subtask}
use Rattle.table_form.specs.Planning.Demand.{Fits}

-- a subtask without slack: its deadline comes as soon as its cost can be done
abbrev pub tight : ℕ → ℕ → ℕ → ℕ → Subtask
tight vcpu cost from period = record {
  vcpu = vcpu;
  cost = cost;
  from = from;
  to = from + cost;
  period = period;
}

-- what is left of a vCPU's cost, from a tick of each period to its end
abbrev pub remainder : ℕ → ℕ → ℕ → ℕ → Subtask
remainder vcpu rest from period =
    record { vcpu = vcpu; cost = rest; from = from; to = period; period = period }

-- the subtask fits beside these jobs
abbrev pub FitsBeside : List Job → Subtask → Type 0
FitsBeside jobs s = Fits (jobs ++ jobs_of_subtask s)
