-- What is exported for a scheduler, and why a plan isn't.
use Rattle.std.specs.Prelude.{ℕ, List, Option, None}
use Rattle.std.specs.Option.{option_or}
use Rattle.tab_core.specs.declared.vcpu.Vcpu.{Vcpu}
use Rattle.view_doc.specs.declared.view.View.{View}
use Rattle.view_schedulers.specs.declared.scheduler.Scheduler.{Scheduler}
use Rattle.view_schedulers.specs.declared.scheduler.Scheduler.TheVariants as scheduler
use Rattle.view_schedulers.specs.declared.unkept.Unkept.{Unkept}
use Rattle.view_schedulers.specs.LibvirtLines.{libvirt_text}
use Rattle.view_schedulers.specs.Lines.{deadline_text, rtds_text}
use Rattle.view_schedulers.specs.QuotaLines.{cgroup_text}
use Rattle.view_schedulers.specs.Unkept.{unkept_of}
use Rattle.view_schedulers.specs.Unlike.{unlike_of}
use Rattle.tool_hosts.specs.declared.lines.LineForm.{LineForm}
use Rattle.tool_hosts.specs.declared.lines.LineForm.TheVariants.{Rtds, Deadline, FullDeadline, Cgroup, Libvirt}

-- the scheduler that carries the lines out
abbrev pub scheduler_of : LineForm → Scheduler
scheduler_of Rtds = scheduler.Rtds
scheduler_of Deadline = scheduler.Deadline
scheduler_of FullDeadline = scheduler.FullDeadline
scheduler_of Cgroup = scheduler.Quota
scheduler_of Libvirt = scheduler.Quota

-- the fault of guests, which libvirt alone asks to be alike
abbrev pub guest_fault : LineForm → ℕ → View → Option Unkept
guest_fault Rtds tick view = None
guest_fault Deadline tick view = None
guest_fault FullDeadline tick view = None
guest_fault Cgroup tick view = None
guest_fault Libvirt tick view = unlike_of tick view.names.items view.tasks.items

-- why a plan isn't exported: since the scheduler doesn't keep it, or else since its guests' vCPUs aren't alike
abbrev pub export_fault : LineForm → ℕ → List Vcpu → View → Option Unkept
export_fault form tick vcpus view = option_or (unkept_of (scheduler_of form) tick vcpus view) (guest_fault form tick view)

-- the text that is exported, where the cores are these CPUs
abbrev pub export_text : LineForm → List ℕ → ℕ → List Vcpu → View → List ℕ
export_text Rtds cpus tick vcpus view = rtds_text cpus tick vcpus view
export_text Deadline cpus tick vcpus view = deadline_text scheduler.Deadline cpus tick view
export_text FullDeadline cpus tick vcpus view = deadline_text scheduler.FullDeadline cpus tick view
export_text Cgroup cpus tick vcpus view = cgroup_text cpus tick view
export_text Libvirt cpus tick vcpus view = libvirt_text cpus tick view
