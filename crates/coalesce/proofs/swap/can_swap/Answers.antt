use Rattle.std.proofs.Common.{◌≡◌, Some, sym, ◌∙◌}
use Rattle.std.proofs.lemmas.Bool.{false≢true}
use Rattle.table_form.specs.Tables.Segments.{segment_view}
use Rattle.coalesce.proofs.Tables.{swap_needs_begin, swap_needs_end}
use Rattle.coalesce.proofs.swap.can_swap.Goals as goal

pub returns-then-not-has_no_begin : goal.returns-then-not-has_no_begin
returns-then-not-has_no_begin c pieces is = (
  λ never. absurd (false≢true never),
  λ can. sym c.if-not-has_no_begin.true ∙ (c.has_no_begin.ensures pieces is).1
      (swap_needs_begin pieces c.args.sliver (segment_view c.args.x.now) (segment_view c.args.y.now)
      (segment_view c.args.z.now) c.in-Some-Some.first
      (sym c.vcpu.ensures ∙ c.in-Some-Some.is-0) can),
)

pub returns : goal.returns
returns c pieces is =
    let first_owns : c.args.x.now.owner ≡ Some c.in-Some-Some.first = sym c.vcpu.ensures ∙ c.in-Some-Some.is-0 in
    let second_owns : c.args.y.now.owner ≡ Some c.in-Some-Some.second =
    sym c.vcpu-2.ensures ∙ c.in-Some-Some.is-1 in (
      λ yes. record {
        first = c.in-Some-Some.first;
        second = c.in-Some-Some.second;
        first_owns = first_owns;
        second_owns = second_owns;
        first_again = sym (c.same.ensures.0 c.if-not-same.false) ∙ first_owns;
        short = c.if-sliver-y.false;
        no_begin = (c.has_no_begin.ensures pieces is).0 c.if-not-has_no_begin.false;
        no_end = (c.has_no_end.ensures pieces is).0 yes;
      },
      λ can. (c.has_no_end.ensures pieces is).1
          (swap_needs_end pieces c.args.sliver (segment_view c.args.x.now) (segment_view c.args.y.now)
          (segment_view c.args.z.now) c.in-Some-Some.second second_owns can),
    )
