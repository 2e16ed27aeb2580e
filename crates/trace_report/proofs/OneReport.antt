-- A report is determined.
use Rattle.std.proofs.Common.{◌≡◌, ℕ, ◌<◌, List, length, ap, sym, ◌∙◌, arith}
use Rattle.std.proofs.lemmas.List.{get_or_default, same_lists}
use Rattle.run_counts.specs.declared.account.CoreAccount.{CoreAccount}
use Rattle.table_form.specs.Running.Courses.{CourseView}
use Rattle.run_counts.proofs.OneReport.{one_report}
use Rattle.trace_report.specs.ReportViews.{ReportView, no_vcpu_ticks, vcpu_at}
use Rattle.trace_report.specs.RunReports.{IsReportOf, IsVcpuTold}
use Rattle.trace_report.specs.declared.ticks.VcpuTicks.{VcpuTicks}

-- what is reported of a vCPU, by its four numbers
told_of : ℕ → ℕ → ℕ → ℕ → VcpuTicks
told_of offered slots shared gap = record { offered = offered; slots = slots; shared = shared; gap = gap }

-- it is its four numbers
same_ticks : (a b : VcpuTicks) → a.offered ≡ b.offered → a.slots ≡ b.slots → a.shared ≡ b.shared
    → a.gap ≡ b.gap → a ≡ b
unfolding told_of
same_ticks a b offered slots shared gap =
    ap (λ (n : ℕ). told_of n a.slots a.shared a.gap) offered
    ∙ (ap (λ (n : ℕ). told_of b.offered n a.shared a.gap) slots
    ∙ (ap (λ (n : ℕ). told_of b.offered b.slots n a.gap) shared
    ∙ ap (λ (n : ℕ). told_of b.offered b.slots b.shared n) gap))

-- each vCPU has one
same_told : (course : CourseView) (used : List ℕ) (accounts : List CoreAccount) (v : ℕ) (a b : VcpuTicks)
    → IsVcpuTold course used accounts v a → IsVcpuTold course used accounts v b → b ≡ a
same_told course used accounts v a b x y =
    let counts = one_report course used v b.offered b.gap a.offered a.gap y.counted x.counted in
    same_ticks b a counts.0 (y.slots ∙ sym x.slots) (y.shared ∙ sym x.shared) counts.1

-- two reports of a run tell the same
pub one_report_of : (course : CourseView) (used : List ℕ) (accounts : List CoreAccount)
    (report other : ReportView)
    → IsReportOf course used accounts report → IsReportOf course used accounts other
    → (other.plans ≡ report.plans) × (other.vcpus ≡ report.vcpus) × (other.cores ≡ report.cores)
one_report_of course used accounts report other a b = (
  b.plans ∙ sym a.plans,
  same_lists other.vcpus report.vcpus size (λ k d lt.
      let low : k < length report.vcpus = omega (arith, lt, size) in
      get_or_default other.vcpus k d no_vcpu_ticks lt
      ∙ (same_told course used accounts k (vcpu_at report.vcpus k) (vcpu_at other.vcpus k) (a.vcpus k low)
      (b.vcpus k lt)
      ∙ get_or_default report.vcpus k no_vcpu_ticks d low)),
  b.cores ∙ sym a.cores,
)
  where
    size : length other.vcpus ≡ length report.vcpus
    size = b.each_vcpu ∙ sym a.each_vcpu
