use Rattle.std.proofs.Common.{◌≡◌, ◌<◌, ◌+◌, ◌++◌, ◌∷◌, [], ℕ, List, length, sym, ap, subst, ◌∙◌, rules, arith}
use Rattle.round_words.proofs.ListLemmas.{length_push}
use Rattle.table_form.specs.Running.Courses.{CourseView}
use Rattle.run_counts.specs.declared.account.CoreAccount.{CoreAccount}
use Rattle.trace_report.specs.RunReports.{IsAccountAdded, IsReportSoFar}
use Rattle.run_course.specs.Inside.Telling.{accounts_below, first_used}
use Rattle.run_course.proofs.RunLemmas.{accounts_more}
use Rattle.run_course.proofs.telling.tell.Goals as goal

pub actor-requires : goal.actor-requires
actor-requires c = search rules

pub loop-core-preserved : goal.loop-core-preserved
loop-core-preserved c =
    let inv = c.loop-core.invariant in
    let crew = c.args.crew.now in
    let core = c.loop-core.core in
    let before = accounts_below crew core in
    let account : CoreAccount = c.account.result.now in
    let more : accounts_below crew (core + 1) ≡ before ++ account ∷ [] = accounts_more crew core c.actor-state.result.now c.actor-state.ensures ∙ ap (λ (a : CoreAccount). before ++ a ∷ []) (sym c.account.ensures) in
    let added : IsAccountAdded (length before) account c.loop-core.report c.add.new.self = subst (λ (k : ℕ). IsAccountAdded k account c.loop-core.report c.add.new.self) (sym inv.size) c.add.ensures.added in
    let few : length before < crew.course.cores = omega (arith, inv.size, c.loop-core-test.true, c.cores-cores.ensures.cores, ap (λ (k : CourseView). k.cores) c.course-course.ensures) in
    record {
      so_far = subst (λ (accounts : List CoreAccount). IsReportSoFar crew.course (first_used crew) accounts c.add.new.self) (sym more)
          (c.accounts_make_a_report.ensures.more crew.course (first_used crew) before account c.loop-core.report c.add.new.self inv.so_far few added);
      size = ap length more ∙ (length_push before account ∙ omega (arith, inv.size));
      added = omega (arith, added.added, inv.added);
    }
