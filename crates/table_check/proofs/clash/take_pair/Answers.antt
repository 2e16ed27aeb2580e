use Rattle.std.proofs.Common.{ap, subst, sym, arith}
use Rattle.tab_core.specs.declared.TheConstants.{ROUND}
use Rattle.table_form.specs.Tables.Rows.{RisesTo, cells_from}
use Rattle.table_check.specs.Shapes.{rows_of}
use Rattle.table_check.proofs.Pairs.{ArePair, are_pair, becomes_first, first_clash, is_clash, no_clash, none_here, stays_sooner}
use Rattle.table_check.proofs.RawShapes.{length-rows_of, rises_at, row_here}
use Rattle.table_check.proofs.clash.take_pair.Goals as goal

pub find_meeting-requires-clause-rises : goal.find_meeting-requires-clause-rises
find_meeting-requires-clause-rises c =
    subst (λ ss. RisesTo 0 ss ROUND) (sym c.items.ensures)
    (rises_at c.args.raw.now c.args.core c.index-raw-core.result c.requires.good
    (omega (arith, c.requires.lower, c.requires.there)) c.index-raw-core.is)

pub find_meeting-requires-clause-other_rises : goal.find_meeting-requires-clause-other_rises
find_meeting-requires-clause-other_rises c =
    subst (λ ss. RisesTo 0 ss ROUND) (sym c.items-2.ensures)
    (rises_at c.args.raw.now c.args.other c.index-raw-other.result c.requires.good c.requires.there
    c.index-raw-other.is)

pub returns-then-not-may_meet : goal.returns-then-not-may_meet
returns-then-not-may_meet c = none_here (rows_of c.args.raw.now) c.args.core c.args.other c.args.best
    c.requires.before (c.may_meet.ensures c.if-not-may_meet.true)

pub returns-in_default : goal.returns-in_default
returns-in_default c =
    let raw = c.args.raw.now in
    let rows = rows_of raw in
    let core = c.args.core in
    let other = c.args.other in
    let a = cells_from 0 c.items.result.now in
    let b = cells_from 0 c.items-2.result.now in
    let two : ArePair rows core other a b =
    are_pair rows core other a b (cells_from 0 c.index-raw-core.result)
    (cells_from 0 c.index-raw-other.result)
    c.requires.lower (omega (arith, length-rows_of raw, c.requires.there))
    (row_here raw core c.index-raw-core.result
    (omega (arith, c.requires.lower, c.requires.there)) c.index-raw-core.is)
    (row_here raw other c.index-raw-other.result c.requires.there c.index-raw-other.is)
    (ap (cells_from 0) c.items.ensures) (ap (cells_from 0) c.items-2.ensures) in
    none_here rows core other c.args.best c.requires.before
    (no_clash rows core other a b two c.in_default.ensures)

pub returns-then-is_sooner : goal.returns-then-is_sooner
returns-then-is_sooner c =
    let raw = c.args.raw.now in
    let rows = rows_of raw in
    let core = c.args.core in
    let other = c.args.other in
    let a = cells_from 0 c.items.result.now in
    let b = cells_from 0 c.items-2.result.now in
    let two : ArePair rows core other a b =
    are_pair rows core other a b (cells_from 0 c.index-raw-core.result)
    (cells_from 0 c.index-raw-other.result)
    c.requires.lower (omega (arith, length-rows_of raw, c.requires.there))
    (row_here raw core c.index-raw-core.result
    (omega (arith, c.requires.lower, c.requires.there)) c.index-raw-core.is)
    (row_here raw other c.index-raw-other.result c.requires.there c.index-raw-other.is)
    (ap (cells_from 0) c.items.ensures) (ap (cells_from 0) c.items-2.ensures) in
    becomes_first rows core other c.in-Some.meeting.vcpu c.in-Some.meeting.tick c.args.best c.requires.before
    (c.is_sooner.ensures.yes c.if-is_sooner.true)
    (is_clash rows core other c.in-Some.meeting.vcpu c.in-Some.meeting.tick a b two c.in-Some.ensures.0)
    (first_clash rows core other c.in-Some.meeting.tick a b two c.in-Some.ensures.1)

pub returns-else-is_sooner : goal.returns-else-is_sooner
returns-else-is_sooner c =
    let raw = c.args.raw.now in
    let rows = rows_of raw in
    let core = c.args.core in
    let other = c.args.other in
    let a = cells_from 0 c.items.result.now in
    let b = cells_from 0 c.items-2.result.now in
    let two : ArePair rows core other a b =
    are_pair rows core other a b (cells_from 0 c.index-raw-core.result)
    (cells_from 0 c.index-raw-other.result)
    c.requires.lower (omega (arith, length-rows_of raw, c.requires.there))
    (row_here raw core c.index-raw-core.result
    (omega (arith, c.requires.lower, c.requires.there)) c.index-raw-core.is)
    (row_here raw other c.index-raw-other.result c.requires.there c.index-raw-other.is)
    (ap (cells_from 0) c.items.ensures) (ap (cells_from 0) c.items-2.ensures) in
    stays_sooner rows core other c.in-Some.meeting.tick c.args.best c.requires.before
    (c.is_sooner.ensures.no c.if-is_sooner.false)
    (first_clash rows core other c.in-Some.meeting.tick a b two c.in-Some.ensures.1)
