use Rattle.std.proofs.Common.{refl}
use Rattle.tab_core.specs.declared.piece.Piece.{Piece}
use Rattle.tab_core.proofs.Periods.{period_facts}
use Rattle.coalesce.proofs.Tables.{at_number, none_by_next, none_listed}
use Rattle.coalesce.proofs.swap.has_no_begin.Goals as goal

pub next_at-requires-clause-small : goal.next_at-requires-clause-small
next_at-requires-clause-small c = (period_facts c.in-Some.piece.period c.in-Some.piece.listed).at_most

pub returns-in-None : goal.returns-in-None
returns-in-None c pieces is =
    let at = at_number c.args.table.now c.args.vcpu c.index.result _ _ c.requires.sized c.index.ensures.value
    c.index.ensures.small c.in-None.is in (
      λ _ i k p listed own above below. none_listed pieces c.args.table.now c.args.vcpu i p is at
          listed own,
      λ _. refl,
    )

pub returns-in-Some : goal.returns-in-Some
returns-in-Some c pieces is =
    let at = at_number c.args.table.now c.args.vcpu c.index.result _ _ c.requires.sized c.index.ensures.value
    c.index.ensures.small c.in-Some.is in
    none_by_next (λ (p : Piece). p.from) pieces c.args.table.now c.args.vcpu c.args.low c.args.high
    c.next_at.result
    c.in-Some.piece is at c.next_at.ensures.later c.next_at.ensures.one c.next_at.ensures.least
