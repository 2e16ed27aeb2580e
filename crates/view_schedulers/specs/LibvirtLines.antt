-- The text for libvirt: for each vCPU its CPU, and for each guest one period and one quota, as commands of virsh, and in
-- a comment as the part of the guest's XML that says the same.
-- Source: of libvirt, the manual page virsh(1), vcpupin and schedinfo, and formatdomain, "CPU Tuning".
use Rattle.std.specs.Prelude.{ℕ, zero, suc, ◌+◌, ◌++◌, ◌||◌, Bool, false, if◌then◌else◌, List, [], codes, decimal, length}
use Rattle.std.specs.Str.{bytes_eq}
use Rattle.tab_words.specs.Texts.{texts_below}
use Rattle.vcpu_names.specs.Names.{name_at}
use Rattle.view_doc.specs.declared.view.Task.{Task}
use Rattle.view_doc.specs.declared.view.View.{View}
use Rattle.view_schedulers.specs.declared.heads.TheConstants.{LIBVIRT_HEAD}
use Rattle.view_schedulers.specs.declared.scheduler.Scheduler.TheVariants.{Quota}
use Rattle.view_schedulers.specs.Budgets.{budget_on, period_on}
use Rattle.view_schedulers.specs.CpuLists.{cpu_at}
use Rattle.view_schedulers.specs.Guests.{guest_number, guest_of}
use Rattle.view_schedulers.specs.Lines.{each_vcpu_text, plan_comment}

-- ---- guests

-- one of the vCPUs below n is the guest's
unfoldable pub has_one_below : List (List ℕ) → List ℕ → ℕ → Bool
has_one_below names guest zero = false
has_one_below names guest (suc n) = bytes_eq (guest_of (name_at names n)) guest || has_one_below names guest n

-- ---- commands

-- the vCPU of this number of a guest runs on this CPU alone
unfoldable pub virsh_line : List ℕ → List ℕ → ℕ → List ℕ
virsh_line guest number cpu = codes "virsh vcpupin " ++ (guest ++ (codes " " ++ (number ++ (codes " "
    ++ (decimal cpu ++ codes "\n")))))

-- the command that pins the vCPU of this name to the CPU of its home, where the cores are these CPUs
abbrev pub virsh_of : List ℕ → List ℕ → Task → List ℕ
virsh_of cpus name t = virsh_line (guest_of name) (guest_number name) (cpu_at cpus t.home)

-- each vCPU of a guest gets no more than this budget in each period, in microseconds
unfoldable pub schedinfo_line : List ℕ → ℕ → ℕ → List ℕ
schedinfo_line guest period budget = codes "virsh schedinfo " ++ (guest ++ (codes " --set vcpu_period="
    ++ (decimal period ++ (codes " vcpu_quota=" ++ (decimal budget ++ codes "\n")))))

-- ---- XML

-- the XML that pins the vCPU of this number to this CPU
unfoldable pub pin_part : List ℕ → ℕ → List ℕ
pin_part number cpu = codes "<vcpupin vcpu='" ++ (number ++ (codes "' cpuset='" ++ (decimal cpu ++ codes "'/>")))

-- the XML that pins the vCPU of this name, if it is the guest's, to the CPU of its home, where the cores are
-- these CPUs
abbrev pub pin_part_of : List ℕ → List ℕ → List ℕ → Task → List ℕ
pin_part_of cpus guest name t =
    if bytes_eq (guest_of name) guest then pin_part (guest_number name) (cpu_at cpus t.home) else []

-- the XML of the period and the quota, in microseconds, which ends the comment
unfoldable pub quota_part : ℕ → ℕ → List ℕ
quota_part period budget = codes "<period>" ++ (decimal period ++ (codes "</period><quota>"
    ++ (decimal budget ++ codes "</quota></cputune>\n")))

-- the comment with a guest's part of its XML
abbrev pub cputune_line : List ℕ → List (List ℕ) → List Task → List ℕ → ℕ → ℕ → List ℕ
cputune_line cpus names tasks guest period budget = codes "# <cputune>"
    ++ (texts_below (each_vcpu_text (pin_part_of cpus guest) names tasks) (length tasks) ++ quota_part period budget)

-- ---- all

-- the lines of a guest, by its first vCPU
abbrev pub guest_lines : List ℕ → ℕ → List (List ℕ) → List Task → List ℕ → Task → List ℕ
guest_lines cpus tick names tasks name t =
    schedinfo_line (guest_of name) (period_on Quota tick t) (budget_on Quota tick t)
    ++ cputune_line cpus names tasks (guest_of name) (period_on Quota tick t) (budget_on Quota tick t)

-- the lines of a vCPU; with the first of a guest are those of the guest
abbrev pub libvirt_at : List ℕ → ℕ → List (List ℕ) → List Task → ℕ → List ℕ
libvirt_at cpus tick names tasks v = each_vcpu_text (virsh_of cpus) names tasks v
    ++ (if has_one_below names (guest_of (name_at names v)) v then []
    else each_vcpu_text (guest_lines cpus tick names tasks) names tasks v)

-- the text for libvirt of a plan of these vCPUs, where the cores are these CPUs and a tick has so many
-- nanoseconds
abbrev pub libvirt_text_of : List ℕ → ℕ → ℕ → List (List ℕ) → List Task → List ℕ
libvirt_text_of cpus tick cores names tasks = LIBVIRT_HEAD.now
    ++ (plan_comment cores (length tasks) tick (cpu_at cpus 0)
    ++ texts_below (libvirt_at cpus tick names tasks) (length tasks))

-- the text for libvirt of the plan that a view shows
abbrev pub libvirt_text : List ℕ → ℕ → View → List ℕ
libvirt_text cpus tick view = libvirt_text_of cpus tick view.cores view.names.items view.tasks.items
