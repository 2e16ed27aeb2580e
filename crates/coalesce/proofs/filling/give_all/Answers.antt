use Rattle.std.proofs.Common.{◌≡◌, ◌<◌, ◌≤◌, None, Some, refl, subst, sym, ◌∙◌, arith, length}
use Rattle.std.proofs.lemmas.Bool.{false≢true}
use Rattle.tab_core.specs.VcpuSets.{has_vcpu}
use Rattle.table_form.specs.Tables.Segments.{segment_view}
use Rattle.coalesce.proofs.Filled.{HasGiven, all_given, given_unless, given_when, next_given, none_given, one_given, one_left}
use Rattle.coalesce.proofs.filling.give_all.Goals.{then-is_given, else-is_given}
use Rattle.coalesce.proofs.filling.give_all.Goals as goal

pub loop-at-init : goal.loop-at-init
loop-at-init c = record {
  given = subst (λ owner. HasGiven (has_vcpu c.args.may_grow.now) c.args.sliver c.args.segments.now.items
      c.args.segments.now.items 0 (record { owner = owner; end = 0 })) (sym c.of-before.ensures)
      (none_given (has_vcpu c.args.may_grow.now) c.args.sliver c.args.segments.now.items c.requires);
  none = λ same. refl;
  small = λ vcpu is. (let none : None ≡ Some vcpu = sym c.of-before.ensures ∙ is in absurd cc);
}

pub is_given-requires : goal.is_given-requires
is_given-requires c =
    let l = c.loop-at in
    let lt : l.at < length l.segments.items =
    omega (arith, c.loop-at-test.true, c.len-at-end.ensures, c.args.segments.now.ok.0, l.invariant.given.size) in
    let next = next_given (has_vcpu c.args.may_grow.now) c.args.sliver c.args.segments.now.items l.segments.items
    l.at (record { owner = l.before; end = l.start }) c.index.result.now lt c.index.ensures l.invariant.given in
    omega (arith, next.1)

pub loop-at-preserved : goal.loop-at-preserved
loop-at-preserved c =
    let l = c.loop-at in
    let s = c.index.result.now in
    let lt : l.at < length l.segments.items =
    omega (arith, c.loop-at-test.true, c.len-at-end.ensures, c.args.segments.now.ok.0, l.invariant.given.size) in
    elim c.if-is_given.branch [
      | then-is_given w ↦
          let owned = given_when (has_vcpu c.args.may_grow.now) c.args.sliver
          (record { owner = l.before; end = l.start }) (segment_view s)
          (sym c.is_given.ensures ∙ w.if-is_given.true) in
          rw (w.segments-is, w.some-is) (record {
            given = one_given (has_vcpu c.args.may_grow.now) c.args.sliver c.args.segments.now.items
                l.segments.items l.at (record { owner = l.before; end = l.start }) s _ lt c.index.ensures owned
                l.invariant.given;
            none = λ same. absurd (false≢true (sym same));
            small = s.owner_small;
          })
      | else-is_given w ↦
          let own = given_unless (has_vcpu c.args.may_grow.now) c.args.sliver
          (record { owner = l.before; end = l.start }) (segment_view s)
          (sym c.is_given.ensures ∙ w.if-is_given.false) in
          rw (w.segments-is, w.some-is) (record {
            given = one_left (has_vcpu c.args.may_grow.now) c.args.sliver c.args.segments.now.items
                l.segments.items l.at (record { owner = l.before; end = l.start }) s lt c.index.ensures own
                l.invariant.given;
            none = l.invariant.none;
            small = s.owner_small;
          })
    ]

pub returns : goal.returns
returns c =
    let l = c.loop-at in
    let past : length l.segments.items ≤ l.at =
    omega (arith, c.loop-at-test.false, c.len-at-end.ensures, c.args.segments.now.ok.0, l.invariant.given.size) in
    record {
      given = all_given (has_vcpu c.args.may_grow.now) c.args.sliver c.args.segments.now.items l.segments.items l.at
          (record { owner = l.before; end = l.start }) past l.invariant.given;
      none = l.invariant.none;
    }
