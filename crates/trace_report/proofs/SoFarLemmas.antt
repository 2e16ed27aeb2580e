-- A report to which the cores' accounts are added one by one.
use Rattle.std.proofs.Common.{◌≡◌, ℕ, zero, suc, ◌+◌, ◌<◌, List, [], ◌∷◌, ◌++◌, length, length-append, length-set, set, take, refl, ap, sym, subst, ◌∙◌, arith}
use Rattle.std.specs.Prelude.{slice_index, sum_by}
use Rattle.std.proofs.Math.Seq.{take-length}
use Rattle.std.proofs.lemmas.List.{length-replicate, map-append}
use Rattle.std.proofs.lemmas.List.Sums.{sum_by-append}
use Rattle.run_counts.specs.declared.account.CoreAccount.{CoreAccount}
use Rattle.table_form.specs.Running.Courses.{CourseView}
use Rattle.trace_report.specs.ReportViews.{ReportView, no_core_ticks}
use Rattle.trace_report.specs.RunReports.{IsAccountAdded, IsFilled, IsReportOf, IsReportSoFar, IsVcpuTold, core_ticks}

-- no account is added yet
pub begun : (course : CourseView) (used : List ℕ) (report : ReportView) → IsFilled course used report
    → IsReportSoFar course used [] report
begun course used report filled = record {
  plans = filled.plans;
  each_vcpu = filled.each_vcpu;
  vcpus = λ v lt. record {
    counted = (filled.vcpus v lt).counted;
    slots = (filled.vcpus v lt).no_slots;
    shared = (filled.vcpus v lt).no_shared;
  };
  each_core = ap length filled.cores ∙ length-replicate course.cores no_core_ticks;
  cores = refl;
}

-- the first cells of a list that is written at the next one
take_set : {X : Type 0} (xs : List X) (n : ℕ) (x : X) → n < length xs
    → take (suc n) (set xs n x) ≡ take n xs ++ x ∷ []
take_set [] n x lt = absurd (omega arith)
take_set (y ∷ ys) zero x lt = refl
take_set (y ∷ ys) (suc n) x lt = ap (λ zs. y ∷ zs) (take_set ys n x (omega arith))

-- the next core's account is added
pub more : (course : CourseView) (used : List ℕ) (accounts : List CoreAccount) (account : CoreAccount)
    (old new : ReportView)
    → IsReportSoFar course used accounts old → length accounts < course.cores
    → IsAccountAdded (length accounts) account old new
    → IsReportSoFar course used (accounts ++ account ∷ []) new
more course used accounts account old new so_far lt added = record {
  plans = added.plans ∙ so_far.plans;
  each_vcpu = added.each_vcpu ∙ so_far.each_vcpu;
  vcpus = λ v small.
      let low : v < length old.vcpus = omega (arith, small, added.each_vcpu) in
      let told = so_far.vcpus v low in
      subst (IsVcpuTold course used (accounts ++ account ∷ []) v) (sym (added.vcpus v low)) (record {
        counted = told.counted;
        slots = ap (λ n. n + slice_index account.slots v) told.slots
            ∙ sym (last (λ (a : CoreAccount). slice_index a.slots v));
        shared = ap (λ n. n + slice_index account.shared v) told.shared
            ∙ sym (last (λ (a : CoreAccount). slice_index a.shared v));
      });
  each_core = ap length added.cores
      ∙ (length-set old.cores (length accounts) (core_ticks account) ∙ so_far.each_core);
  cores =
      let count : length (accounts ++ account ∷ []) ≡ suc (length accounts) =
      length-append accounts (account ∷ []) ∙ omega arith in
      rw (count, added.cores)
      (take_set old.cores (length accounts) (core_ticks account) (omega (arith, so_far.each_core))
      ∙ (ap (λ cs. cs ++ core_ticks account ∷ []) so_far.cores
      ∙ sym (map-append core_ticks accounts (account ∷ []))));
}
  where
    last : (f : CoreAccount → ℕ) → sum_by f (accounts ++ account ∷ []) ≡ sum_by f accounts + f account
    last f = sum_by-append f accounts (account ∷ []) ∙ omega arith

-- once all are added it is the report
pub whole : (course : CourseView) (used : List ℕ) (accounts : List CoreAccount) (report : ReportView)
    → IsReportSoFar course used accounts report → length accounts ≡ course.cores
    → IsReportOf course used accounts report
whole course used accounts report so_far all = record {
  plans = so_far.plans;
  each_vcpu = so_far.each_vcpu;
  vcpus = so_far.vcpus;
  cores =
      let count : length accounts ≡ length report.cores = all ∙ sym so_far.each_core in
      sym (take-length report.cores) ∙ (ap (λ n. take n report.cores) (sym count) ∙ so_far.cores);
}
