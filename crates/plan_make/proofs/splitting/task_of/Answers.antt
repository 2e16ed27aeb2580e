use Rattle.std.proofs.Common.{◌≡◌, ◌<◌, Some, None, length, slice_get, ap, subst, sym, ◌∙◌}
use Rattle.std.proofs.lemmas.Option.{slice_get_within}
use Rattle.plan_make.proofs.PlacingUnsplit.{read_none, read_some}
use Rattle.plan_make.proofs.splitting.task_of.Goals as goal

pub returns : goal.returns
returns c =
    let within = slice_get_within c.args.tasks.now c.args.vcpu (Some c.requires.0) c.requires.1 in
    let lt : c.index.result < length c.args.tasks.now =
    subst (λ n. n < length c.args.tasks.now) (sym c.index.ensures.value) within in
    ap (slice_get c.args.tasks.now) (sym c.index.ensures.value) ∙ read_some _ _ _ _ lt c.in-Some.is

pub unreachable-requires : goal.unreachable-requires
unreachable-requires c =
    let within = slice_get_within c.args.tasks.now c.args.vcpu (Some c.requires.0) c.requires.1 in
    let lt : c.index.result < length c.args.tasks.now =
    subst (λ n. n < length c.args.tasks.now) (sym c.index.ensures.value) within in
    let none = read_none _ _ _ lt c.in_default.not-Some in
    let both : Some (Some c.requires.0) ≡ Some None =
    sym c.requires.1 ∙ ap (slice_get c.args.tasks.now) (sym c.index.ensures.value) ∙ none in
    cc
