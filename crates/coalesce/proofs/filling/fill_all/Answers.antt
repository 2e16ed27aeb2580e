use Rattle.std.proofs.Common.{None, map, ap, subst, sym, ◌∙◌}
use Rattle.tab_core.specs.VcpuSets.{has_vcpu}
use Rattle.tab_core.specs.declared.TheConstants.{ROUND}
use Rattle.table_form.specs.Tables.Segments.{AreMaximal, segment_view, segments_from}
use Rattle.coalesce.proofs.Filled.{given_filled, given_rise}
use Rattle.coalesce.proofs.filling.fill_all.Goals as goal

pub of_rising-requires : goal.of_rising-requires
of_rising-requires c =
    given_rise (has_vcpu c.args.may_grow.now) c.args.sliver 0 (record { owner = None; end = 0 })
    (map segment_view c.args.segments.items) c.give_all.new.segments.items ROUND c.requires c.give_all.ensures.given

pub of_maximal-requires : goal.of_maximal-requires
of_maximal-requires c =
    subst (λ ss. AreMaximal 0 (map segment_view ss) ROUND) (sym (c.give_all.ensures.none c.if-give_all.false))
    c.requires

pub returns-then-give_all : goal.returns-then-give_all
returns-then-give_all c =
    ap (segments_from 0) c.of_rising.ensures
    ∙ given_filled (has_vcpu c.args.may_grow.now) c.args.sliver 0 (record { owner = None; end = 0 })
    (map segment_view c.args.segments.items) c.give_all.new.segments.items ROUND c.requires c.give_all.ensures.given

pub returns : goal.returns
returns c =
    ap (segments_from 0) c.of_maximal.ensures
    ∙ given_filled (has_vcpu c.args.may_grow.now) c.args.sliver 0 (record { owner = None; end = 0 })
    (map segment_view c.args.segments.items) c.give_all.new.segments.items ROUND c.requires c.give_all.ensures.given
