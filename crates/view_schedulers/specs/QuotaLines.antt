-- The text for quotas of cgroups: a group for each vCPU's thread, with its CPU, its quota and its weight.
-- Source: of Linux, Documentation/admin-guide/cgroup-v2.rst, "CPU", "Cpuset" and "Threads".
use Rattle.std.specs.Prelude.{ℕ, ◌+◌, ◌++◌, List, codes, decimal, length}
use Rattle.tab_words.specs.Texts.{texts_below}
use Rattle.view_doc.specs.declared.view.Task.{Task}
use Rattle.view_doc.specs.declared.view.View.{View}
use Rattle.view_schedulers.specs.declared.heads.TheConstants.{CGROUP_HEAD, GROUPS}
use Rattle.view_schedulers.specs.declared.scheduler.Scheduler.TheVariants.{Quota}
use Rattle.view_schedulers.specs.Budgets.{budget_on, period_on, weight_of}
use Rattle.view_schedulers.specs.CpuLists.{cpu_at}
use Rattle.view_schedulers.specs.Guests.{guest_number, guest_of}
use Rattle.view_schedulers.specs.Lines.{each_vcpu_text, plan_comment, shell_head}

-- the vCPU's thread goes into a group of its own, which has this CPU alone
unfoldable pub own_lines : List ℕ → List ℕ → ℕ → List ℕ
own_lines guest number cpu = codes "vcpu " ++ (guest ++ (codes " " ++ (number ++ (codes "\necho "
    ++ (decimal cpu ++ codes " > \"$own/cpuset.cpus\"\n")))))

-- a vCPU's group gets no more than this budget in each period, in microseconds, and weighs so much beside
-- others
unfoldable pub max_lines : ℕ → ℕ → ℕ → List ℕ
max_lines period budget weight = codes "echo " ++ (decimal budget ++ (codes " " ++ (decimal period
    ++ (codes " > \"$own/cpu.max\"\necho " ++ (decimal weight ++ codes " > \"$own/cpu.weight\"\n")))))

-- the lines of a vCPU, with a tick of so many nanoseconds, where the cores are these CPUs
abbrev pub quota_of : List ℕ → ℕ → List ℕ → Task → List ℕ
quota_of cpus tick name t = own_lines (guest_of name) (guest_number name) (cpu_at cpus t.home)
    ++ max_lines (period_on Quota tick t) (budget_on Quota tick t) (weight_of t)

-- the text for quotas of a plan of these vCPUs, where the cores are these CPUs and a tick has so many
-- nanoseconds
abbrev pub cgroup_text_of : List ℕ → ℕ → ℕ → List (List ℕ) → List Task → List ℕ
cgroup_text_of cpus tick cores names tasks = shell_head CGROUP_HEAD.now
    ++ (plan_comment cores (length tasks) tick (cpu_at cpus 0) ++ (GROUPS.now
    ++ texts_below (each_vcpu_text (quota_of cpus tick) names tasks) (length tasks)))

-- the text for quotas of the plan that a view shows
abbrev pub cgroup_text : List ℕ → ℕ → View → List ℕ
cgroup_text cpus tick view = cgroup_text_of cpus tick view.cores view.names.items view.tasks.items
