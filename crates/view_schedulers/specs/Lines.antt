-- The texts for schedulers: comments, what makes room, and the lines of each vCPU by number.
-- Source: of Xen, the manual page xl(1), vcpu-pin and sched-rtds; of Linux, chrt(1) of util-linux, and
-- Documentation/admin-guide/cgroup-v2.rst, "Cpuset".
use Rattle.std.specs.Prelude.{ℕ, ◌+◌, ◌++◌, Bool, true, false, List, [], codes, decimal, length, Option, Some, None, slice_get}
use Rattle.tab_core.specs.declared.vcpu.Vcpu.{Vcpu}
use Rattle.tab_words.specs.Texts.{texts_below}
use Rattle.vcpu_names.specs.Names.{name_at}
use Rattle.view_doc.specs.declared.view.Task.{Task}
use Rattle.view_doc.specs.declared.view.View.{View}
use Rattle.view_schedulers.specs.declared.heads.TheConstants.{ADMITTED, ADMIT_ALL, DEADLINE_HEAD, PARTITIONS, RTDS_HEAD, SHELL_HEAD}
use Rattle.view_schedulers.specs.declared.scheduler.Scheduler.{Scheduler}
use Rattle.view_schedulers.specs.declared.scheduler.Scheduler.TheVariants.{Rtds, Deadline, FullDeadline, Quota}
use Rattle.view_schedulers.specs.Budgets.{budget_on, period_on}
use Rattle.view_schedulers.specs.CpuLists.{cpu_at}
use Rattle.view_schedulers.specs.Guests.{guest_number, guest_of}
use Rattle.view_schedulers.specs.Reserved.{is_capped}

-- ---- what it is made from

-- the comment that says for what the lines were made: so many cores and vCPUs, the tick, and the CPU that
-- core 0 is
unfoldable pub plan_comment : ℕ → ℕ → ℕ → ℕ → List ℕ
plan_comment cores vcpus tick first = codes "# The plan has " ++ (decimal cores ++ (codes " cores and "
    ++ (decimal vcpus ++ (codes " vCPUs, in ticks of " ++ (decimal tick ++ (codes " ns. Its core 0 is CPU "
    ++ (decimal first ++ codes ".\n")))))))

-- the text of a vCPU by its name and its task, if it has one
abbrev pub task_text : (List ℕ → Task → List ℕ) → List ℕ → Option Task → List ℕ
task_text text name None = []
task_text text name (Some t) = text name t

-- the text of the vCPU of a number
abbrev pub each_vcpu_text : (List ℕ → Task → List ℕ) → List (List ℕ) → List Task → ℕ → List ℕ
each_vcpu_text text names tasks v = task_text text (name_at names v) (slice_get tasks v)

-- ---- Xen

-- the vCPU of this number of a guest runs on this CPU alone
unfoldable pub pin_line : List ℕ → List ℕ → ℕ → List ℕ
pin_line guest number cpu = codes "xl vcpu-pin " ++ (guest ++ (codes " " ++ (number ++ (codes " "
    ++ (decimal cpu ++ (codes " " ++ (decimal cpu ++ codes "\n")))))))

-- the vCPU of this number of a guest has this period and this budget, in microseconds, and takes unused time
-- or doesn't
unfoldable pub rtds_line : List ℕ → List ℕ → ℕ → ℕ → ℕ → List ℕ
rtds_line guest number period budget extra = codes "xl sched-rtds -d " ++ (guest ++ (codes " -v "
    ++ (number ++ (codes " -p " ++ (decimal period ++ (codes " -b " ++ (decimal budget
    ++ (codes " -e " ++ (decimal extra ++ codes "\n")))))))))

-- what the command says of unused time: 0 for a capped vCPU, which takes none, else 1
abbrev pub extra_of : Bool → ℕ
extra_of true = 0
extra_of false = 1

-- the lines of a vCPU for Xen's RTDS, where the cores are these CPUs and a tick has so many nanoseconds
abbrev pub rtds_of : List ℕ → ℕ → List Vcpu → List ℕ → Task → List ℕ
rtds_of cpus tick host name t = pin_line (guest_of name) (guest_number name) (cpu_at cpus t.home)
    ++ rtds_line (guest_of name) (guest_number name) (period_on Rtds tick t) (budget_on Rtds tick t)
    (extra_of (is_capped host name))

-- the text for Xen's RTDS of a plan of these vCPUs, where the cores are these CPUs and a tick has so many
-- nanoseconds
abbrev pub rtds_text_of : List ℕ → ℕ → List Vcpu → ℕ → List (List ℕ) → List Task → List ℕ
rtds_text_of cpus tick host cores names tasks = RTDS_HEAD.now ++ (plan_comment cores (length tasks) tick (cpu_at cpus 0)
    ++ texts_below (each_vcpu_text (rtds_of cpus tick host) names tasks) (length tasks))

-- the text for Xen's RTDS of the plan that a view shows
abbrev pub rtds_text : List ℕ → ℕ → List Vcpu → View → List ℕ
rtds_text cpus tick host view =
    rtds_text_of cpus tick host view.cores view.names.items view.tasks.items

-- ---- Linux

-- the comments of a text that speaks of threads, and what finds these
abbrev pub shell_head : List ℕ → List ℕ
shell_head head = head ++ SHELL_HEAD.now

-- ---- Linux's deadline tasks

-- the vCPU's thread goes into the partition of a CPU
unfoldable pub into_line : List ℕ → List ℕ → ℕ → List ℕ
into_line guest number cpu = codes "into " ++ (guest ++ (codes " " ++ (number ++ (codes " "
    ++ (decimal cpu ++ codes "\n")))))

-- a vCPU's thread gets this budget in each period, in nanoseconds
unfoldable pub chrt_line : ℕ → ℕ → List ℕ
chrt_line period budget = codes "chrt --deadline --sched-runtime " ++ (decimal budget
    ++ (codes " --sched-deadline " ++ (decimal period ++ (codes " --sched-period " ++ (decimal period
    ++ codes " --pid 0 \"$task\"\n")))))

-- the lines that make the thread of the vCPU of this name a deadline task on the CPU of its home
abbrev pub deadline_of : Scheduler → List ℕ → ℕ → List ℕ → Task → List ℕ
deadline_of s cpus tick name t = into_line (guest_of name) (guest_number name) (cpu_at cpus t.home)
    ++ chrt_line (period_on s tick t) (budget_on s tick t)

-- the CPU that a core is, after a space
abbrev pub cpu_word : List ℕ → ℕ → List ℕ
cpu_word cpus core = codes " " ++ decimal (cpu_at cpus core)

-- the line that names the CPUs of so many cores
abbrev pub cpus_line : List ℕ → ℕ → List ℕ
cpus_line cpus cores = codes "cpus=\"" ++ (texts_below (cpu_word cpus) cores ++ codes "\"\n")

-- how much of a CPU the kernel admits, as the line that says so
abbrev pub admitted_part : Scheduler → List ℕ
admitted_part Rtds = ADMITTED.now
admitted_part Deadline = ADMITTED.now
admitted_part FullDeadline = ADMIT_ALL.now
admitted_part Quota = ADMITTED.now

-- the text for deadline tasks of a plan of these vCPUs, where the cores are these CPUs and a tick has so many
-- nanoseconds
abbrev pub deadline_text_of : Scheduler → List ℕ → ℕ → ℕ → List (List ℕ) → List Task → List ℕ
deadline_text_of s cpus tick cores names tasks = shell_head DEADLINE_HEAD.now
    ++ (plan_comment cores (length tasks) tick (cpu_at cpus 0) ++ (admitted_part s ++ (cpus_line cpus cores ++ (PARTITIONS.now
    ++ texts_below (each_vcpu_text (deadline_of s cpus tick) names tasks) (length tasks)))))

-- the text for deadline tasks of the plan that a view shows
abbrev pub deadline_text : Scheduler → List ℕ → ℕ → View → List ℕ
deadline_text s cpus tick view =
    deadline_text_of s cpus tick view.cores view.names.items view.tasks.items
