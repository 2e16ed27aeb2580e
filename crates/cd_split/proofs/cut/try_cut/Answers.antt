use Rattle.std.proofs.Common.{arith, subst, inl, inr}
use Rattle.std.proofs.lemmas.Bool.{cases_lt}
use Rattle.std.proofs.lemmas.Option.{MatchOption-at_some}
use Rattle.table_form.specs.Planning.Jobs.{jobs_of, subtask_of}
use Rattle.cd_split.specs.Cores.{pieces_on}
use Rattle.cd_split.specs.Inside.Search.{left_of}
use Rattle.cd_split.specs.Splitting.{FitsWith, IsOverloadWith, cut_of}
use Rattle.cd_split.proofs.Cuts.{longer_misses}
use Rattle.cd_split.proofs.cut.try_cut.Goals as goal

pub returns-in-Some : goal.returns-in-Some
returns-in-Some c =
    let cores = c.args.cores.now in
    let left = left_of c.args.left.now in
    let core = c.args.core in
    let cost = c.args.cost in
    let over = c.in-Some.overload in
    let piece = c.cut_on.result in
    let told = MatchOption-at_some (FitsWith (pieces_on cores piece.core) (subtask_of piece))
    (IsOverloadWith cores (subtask_of piece) piece.core) over c.in-Some.is
    c.in_ok-overload_with.ensures in
    let on_core : IsOverloadWith cores (cut_of left cost) core over =
    subst (λ s. IsOverloadWith cores s core over) c.cut_on.ensures.1
    (subst (λ d. IsOverloadWith cores (subtask_of piece) d over) c.cut_on.ensures.0 told) in
    let still = c.still_too_much.ensures.still cores core left.vcpu left.from in (
      c.still_too_much.ensures.lower,
      (λ more high below fits. elim (cases_lt cost more) [
        | inl longer ↦ longer_misses (jobs_of (pieces_on cores core)) left.vcpu cost more left.from
            left.period c.args.left.now.listed c.requires.some (omega arith) (omega arith)
            (still cost on_core c.still_too_much.ensures.lower (omega arith)) fits
        | inr shorter ↦ still more on_core high (omega arith) fits
      ]),
    )
