use Rattle.std.proofs.Common.{◌≡◌, ◌≤◌, ◌<◌, ◌+◌, ◌++◌, ◌∷◌, [], ℕ, List, length, refl, sym, ap, subst, ◌∙◌, arith}
use Rattle.std.specs.Prelude.{take}
use Rattle.std.proofs.lemmas.List.{take_all}
use Rattle.std.proofs.lemmas.Option.{slice_get_read}
use Rattle.round_words.proofs.ListLemmas.{length_push}
use Rattle.run_counts.specs.declared.account.CoreAccount.{CoreAccount}
use Rattle.trace_report.specs.RunReports.{IsAccountAdded, IsReportSoFar}
use Rattle.run_live.specs.Inside.Telling.{accounts_of, live_first_used}
use Rattle.run_live.proofs.LiveRunsLemmas.{account_more, accounts_size}
use Rattle.run_live.proofs.telling.tell.Goals as goal

pub loop-core-preserved : goal.loop-core-preserved
loop-core-preserved c =
    let inv = c.loop-core.invariant in
    let actors = c.args.actors.now in
    let course = c.args.course.now in
    let core = c.loop-core.core in
    let before = take core (accounts_of actors) in
    let account : CoreAccount = c.account.result.now in
    let lt : core < length actors = omega (arith, c.loop-core-test.true, c.requires.cores, c.requires.told.cores) in
    let at = slice_get_read actors _ core c.index-actors-number.result refl lt c.index-actors-number.is in
    let more : take (core + 1) (accounts_of actors) ≡ before ++ account ∷ [] =
    account_more actors core c.index-actors-number.result at ∙ ap (λ (a : CoreAccount). before ++ a ∷ []) (sym c.account.ensures) in
    let added : IsAccountAdded (length before) account c.loop-core.report c.add.new.self =
    subst (λ (k : ℕ). IsAccountAdded k account c.loop-core.report c.add.new.self) (sym inv.size) c.add.ensures.added in
    let few : length before < course.cores = omega (arith, inv.size, c.loop-core-test.true, c.requires.cores) in
    record {
      so_far = subst (λ (accounts : List CoreAccount). IsReportSoFar course (live_first_used actors) accounts c.add.new.self) (sym more)
          (c.accounts_make_a_report.ensures.more course (live_first_used actors) before account c.loop-core.report c.add.new.self inv.so_far few added);
      size = ap length more ∙ (length_push before account ∙ omega (arith, inv.size));
      added = omega (arith, added.added, inv.added);
    }

pub returns : goal.returns
returns c =
    let actors = c.args.actors.now in
    let course = c.args.course.now in
    let count : length (accounts_of actors) ≡ course.cores = accounts_size actors ∙ c.requires.told.cores in
    let most : length (accounts_of actors) ≤ c.loop-core.core = omega (arith, count, c.loop-core-test.false, c.requires.cores) in
    c.accounts_make_a_report.ensures.whole course (live_first_used actors) (accounts_of actors) c.loop-core.report
    (subst (λ (accounts : List CoreAccount). IsReportSoFar course (live_first_used actors) accounts c.loop-core.report)
    (take_all c.loop-core.core (accounts_of actors) most) c.loop-core.invariant.so_far) count
