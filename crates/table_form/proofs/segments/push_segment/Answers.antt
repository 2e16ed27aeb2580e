use Rattle.std.proofs.Common.{map, ◌∷◌, [], ap, subst, sym, ◌∙◌, arith}
use Rattle.std.proofs.lemmas.Bool.{false≢true}
use Rattle.std.proofs.lemmas.List.{map-append}
use Rattle.table_form.specs.Tables.Segments.{segment_view}
use Rattle.table_form.specs.Inside.Appending.{EndsWithOwner}
use Rattle.table_form.proofs.AppendingLemmas.{appends, replaces, set_last, some_end}
use Rattle.table_form.proofs.segments.push_segment.Goals as goal

pub overflow_sub-count : goal.overflow_sub-count
overflow_sub-count c =
    let with = c.is_last_owner.ensures.0 c.if-is_last_owner.true in
    omega (
      arith,
      some_end c.deref.result.now c.args.next.owner with,
      c.deref.ensures.len,
      c.len-count.ensures,
    )

pub index_mut-requires : goal.index_mut-requires
index_mut-requires c =
    let with = c.is_last_owner.ensures.0 c.if-is_last_owner.true in
    omega (
      arith,
      some_end c.deref.result.now c.args.next.owner with,
      c.deref.ensures.len,
      c.len-count.ensures,
    )

pub returns-then-is_last_owner-clause-ok : goal.returns-then-is_last_owner-clause-ok
returns-then-is_last_owner-clause-ok c =
    let with = subst (λ ss. EndsWithOwner (map segment_view ss) c.args.next.owner) c.deref.ensures.value
    (c.is_last_owner.ensures.0 c.if-is_last_owner.true) in
    let some = some_end c.args.segments.now.items c.args.next.owner with in
    set_last c.args.segments.now.items with.before with.last _ c.args.next with.is
    (omega (arith, c.len-count.ensures, c.args.segments.now.ok.0))
    ∙ replaces (map segment_view c.args.segments.now.items) (segment_view c.args.next) with

pub returns-clause-ok : goal.returns-clause-ok
returns-clause-ok c =
    let other : EndsWithOwner (map segment_view c.args.segments.now.items) c.args.next.owner → _
    = λ with. false≢true (sym c.if-is_last_owner.false ∙ c.is_last_owner.ensures.1
    (subst (λ ss. EndsWithOwner (map segment_view ss) c.args.next.owner) (sym c.deref.ensures.value) with)) in
    ap (map segment_view) c.in_ok-push.ensures.items
    ∙ map-append segment_view c.args.segments.now.items (c.args.next ∷ [])
    ∙ appends (map segment_view c.args.segments.now.items) (segment_view c.args.next) other
