-- Whether a trace shows that a host kept its promises.
use Rattle.std.specs.Prelude.{ℕ, ◌==◌, ◌&&◌, ◌||◌, Bool, true, false, not, if◌then◌else◌, List, Option, Some, None, length, nat_lt, slice_get}
use Rattle.std.specs.List.{list_all, list_any}
use Rattle.std.specs.Option.{is_none}
use Rattle.tab_core.specs.Sums.{total}
use Rattle.host_judge.specs.declared.report.Report.{Report}
use Rattle.host_judge.specs.declared.report.VcpuReport.{VcpuReport}
use Rattle.view_judge.specs.declared.said.Verdict.{Verdict}
use Rattle.view_judge.specs.declared.said.Verdict.TheVariants.{Broken, Kept, Unjudged}

-- the trace doesn't contradict itself: no time falls, no CPU has two vCPUs at a time, and no vCPU has two CPUs
abbrev pub is_sound : Report → Bool
is_sound report = report.falls.count == 0 && (report.shared.count == 0 && report.doubled.count == 0)

-- the vCPU ran, waited or was blocked for a nanosecond at least
abbrev pub is_seen : VcpuReport → Bool
is_seen vcpu = nat_lt 0 vcpu.run_ns || (nat_lt 0 vcpu.wait_ns || nat_lt 0 vcpu.block_ns)

-- one of the vCPUs was seen
abbrev pub is_any_seen : List VcpuReport → Bool
is_any_seen vcpus = list_any is_seen vcpus

-- whether both promises were kept: no where one was broken, else not judged where one wasn't
abbrev pub both_kept : Option Bool → Option Bool → Option Bool
both_kept (Some false) share = Some false
both_kept (Some true) share = share
both_kept None (Some false) = Some false
both_kept None (Some true) = None
both_kept None None = None

-- a promise to the vCPU was broken
abbrev pub is_no : Option Bool → Bool
is_no (Some false) = true
is_no (Some true) = false
is_no None = false

abbrev pub is_broken : VcpuReport → Bool
is_broken vcpu = is_no vcpu.waits_kept || is_no vcpu.share_kept

-- no promise was broken
abbrev pub is_none_broken : List VcpuReport → Bool
is_none_broken vcpus = list_all (λ vcpu. not (is_broken vcpu)) vcpus

-- 1 for a vCPU with a promise that wasn't judged
abbrev pub unjudged_of : VcpuReport → ℕ
unjudged_of vcpu = if is_none vcpu.waits_kept || is_none vcpu.share_kept then 1 else 0

-- that for a vCPU of which something is reported
abbrev pub unjudged_if_any : Option VcpuReport → ℕ
unjudged_if_any None = 0
unjudged_if_any (Some vcpu) = unjudged_of vcpu

-- how many of the first vCPUs have a promise that wasn't judged
abbrev pub unjudged_below : List VcpuReport → ℕ → ℕ
unjudged_below vcpus count = total (λ v. unjudged_if_any (slice_get vcpus v)) count

-- how many of them all have
abbrev pub unjudged_in : List VcpuReport → ℕ
unjudged_in vcpus = unjudged_below vcpus (length vcpus)

-- what is said where no promise was broken, and those to so many vCPUs weren't judged
abbrev pub kept_but : ℕ → Verdict
kept_but unjudged = if unjudged == 0 then Kept else Unjudged unjudged

-- the host kept its promises, by a trace that doesn't contradict itself and in which one of its vCPUs was seen. What
-- other hosts' vCPUs do changes nothing
abbrev pub verdict_of : Report → Verdict
verdict_of report =
    if is_sound report && (is_any_seen report.vcpus.items && is_none_broken report.vcpus.items)
    then kept_but (unjudged_in report.vcpus.items) else Broken
