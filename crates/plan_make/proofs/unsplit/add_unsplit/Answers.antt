use Rattle.std.proofs.Common.{◌+◌, ◌<◌, length, None, Some, refl, ap, subst, sym, ◌∙◌, arith}
use Rattle.std.proofs.lemmas.Option.{slice_get-get_or}
use Rattle.table_form.specs.Planning.Jobs.{Subtask}
use Rattle.cd_split.specs.Cores.{HaveRoomFor, LackVcpu, pieces_on}
use Rattle.plan_make.proofs.PlacingUnsplit.{FirstStand, next_has_room, next_is_new, next_is_none, next_stands, read_none, read_some}
use Rattle.plan_make.proofs.unsplit.add_unsplit.Goals as goal

pub add-requires-clause-new : goal.add-requires-clause-new
add-requires-clause-new c =
    let lt : c.args.number < length c.args.core_of.now = omega arith in
    let placed = read_some _ _ _ _ lt c.in-Some-core_of.is in
    let there = c.requires.there _ _ placed in
    let is = c.unsplit_piece.ensures in
    let new = next_is_new c.args.number c.args.tasks.now c.args.core_of.now _ c.args.cores.now
    c.in-Some-core_of.core c.requires.before there in
    subst (λ core. LackVcpu c.unsplit_piece.result.vcpu (pieces_on c.args.cores.now core)) (sym is.core)
    (subst (λ v. LackVcpu v (pieces_on c.args.cores.now c.in-Some-core_of.core))
    (sym (ap (λ (s : Subtask). s.vcpu) is.subtask)) new)

pub add-requires-clause-room : goal.add-requires-clause-room
add-requires-clause-room c =
    let lt : c.args.number < length c.args.core_of.now = omega arith in
    let placed = read_some _ _ _ _ lt c.in-Some-core_of.is in
    let there = c.requires.there _ _ placed in
    let is = c.unsplit_piece.ensures in
    let at = read_some _ _ _ _ c.requires.known (sym c.index-tasks-number.is ∙ c.in-Some.is) in
    subst (λ core. HaveRoomFor (pieces_on c.args.cores.now core) c.unsplit_piece.result) (sym is.core)
    (next_has_room c.args.number c.args.tasks.now c.args.core_of.now _ c.args.cores.now
    c.in-Some.task c.in-Some-core_of.core c.unsplit_piece.result c.requires.before c.requires.fits
    there at placed is.subtask)

pub returns-in_ok-add : goal.returns-in_ok-add
returns-in_ok-add c =
    let lt : c.args.number < length c.args.core_of.now = omega arith in
    let placed = read_some _ _ _ _ lt c.in-Some-core_of.is in
    let there = c.requires.there _ _ placed in
    let is = c.unsplit_piece.ensures in
    let at = read_some _ _ _ _ c.requires.known (sym c.index-tasks-number.is ∙ c.in-Some.is) in
    subst (FirstStand (c.args.number + 1) c.args.tasks.now c.args.core_of.now
    (length c.args.cores.now)) (sym c.in_ok-add.ensures.ok)
    (next_stands c.args.number c.args.tasks.now c.args.core_of.now _ c.args.cores.now c.in-Some.task
    c.in-Some-core_of.core c.unsplit_piece.result c.requires.before there at placed is.subtask
    is.core)

pub returns-in_default-core_of : goal.returns-in_default-core_of
returns-in_default-core_of c =
    let at = read_some _ _ _ _ c.requires.known (sym c.index-tasks-number.is ∙ c.in-Some.is) in
    let lt : c.args.number < length c.args.core_of.now = omega arith in
    let placed = read_none _ _ _ lt c.in_default-core_of.not-Some in
    next_is_none c.args.number c.args.tasks.now c.args.core_of.now _ c.args.cores.now
    (Some c.in-Some.task) None c.requires.before at placed (λ core. refl)

pub returns-in_default : goal.returns-in_default
returns-in_default c =
    let lt : c.args.number < length c.args.core_of.now = omega arith in
    let at = slice_get-get_or c.args.tasks.now c.args.number _ c.requires.known
    ∙ ap Some (sym c.index-tasks-number.is ∙ c.in_default.is) in
    let placed = slice_get-get_or c.args.core_of.now c.args.number None lt in
    next_is_none c.args.number c.args.tasks.now c.args.core_of.now _ c.args.cores.now None _
    c.requires.before at placed (λ core. refl)
