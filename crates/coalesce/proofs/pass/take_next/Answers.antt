use Rattle.std.proofs.Common.{List, ◌≤◌, ◌∷◌, length, map, subst, sym, ◌∙◌}
use Rattle.std.proofs.lemmas.Bool.{false≢true}
use Rattle.table_form.specs.Tables.Segments.{segment_view}
use Rattle.table_form.specs.declared.segment.Segment.{Segment}
use Rattle.coalesce.specs.Inside.Passing.{CanSwapLast, IsPassed, StandInRow}
use Rattle.coalesce.proofs.Ends.{two_ends}
use Rattle.coalesce.proofs.Steps.{passed_after_append, passed_after_swap, stands_after_append, stands_after_swap}
use Rattle.coalesce.proofs.pass.take_next.Goals as goal

pub returns-then-can_swap_last-clause-stands : goal.returns-then-can_swap_last-clause-stands
returns-then-can_swap_last-clause-stands c rest stand =
    let two =
    two_ends c.args.out.now.items
    (subst (λ (ss : List Segment). 2 ≤ length ss) c.deref.ensures.value
    (c.can_swap_last.ensures.two c.if-can_swap_last.true)) in
    subst (λ out. StandInRow out rest) (sym (c.swap_last.ensures two.0 two.1 two.2 two.3))
    (stands_after_swap two.0 two.1 two.2 (segment_view c.args.next) rest
    (subst (λ out. StandInRow out (segment_view c.args.next ∷ rest)) two.3 stand))

pub returns-then-can_swap_last-clause-passed : goal.returns-then-can_swap_last-clause-passed
returns-then-can_swap_last-clause-passed c pieces row rest is stand passed =
    let can = subst (λ ss. CanSwapLast pieces c.args.sliver (map segment_view ss)
    (segment_view c.args.next)) c.deref.ensures.value
    ((c.can_swap_last.ensures.swap pieces is).0 c.if-can_swap_last.true) in
    subst (λ out. IsPassed pieces c.args.sliver row out rest)
    (sym (c.swap_last.ensures can.before can.x can.y can.is))
    (passed_after_swap pieces c.args.sliver row can.before can.x can.y (segment_view c.args.next) rest
    (subst (λ out. StandInRow out (segment_view c.args.next ∷ rest)) can.is stand) can.can
    (subst (λ out. IsPassed pieces c.args.sliver row out (segment_view c.args.next ∷ rest)) can.is passed))

pub returns-clause-stands : goal.returns-clause-stands
returns-clause-stands c rest stand =
    subst (λ out. StandInRow out rest) (sym c.in_ok-push_segment.ensures.ok)
    (stands_after_append (map segment_view c.args.out.now.items) (segment_view c.args.next) rest stand)

pub returns-clause-passed : goal.returns-clause-passed
returns-clause-passed c pieces row rest is stand passed =
    subst (λ out. IsPassed pieces c.args.sliver row out rest) (sym c.in_ok-push_segment.ensures.ok)
    (passed_after_append pieces c.args.sliver row (map segment_view c.args.out.now.items)
    (segment_view c.args.next) rest stand
    (λ can. false≢true (sym c.if-can_swap_last.false ∙ (c.can_swap_last.ensures.swap pieces is).1
    (subst (λ ss. CanSwapLast pieces c.args.sliver (map segment_view ss) (segment_view c.args.next))
    (sym c.deref.ensures.value) can))) passed)
