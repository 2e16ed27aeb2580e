use Rattle.std.proofs.Common.{◌+◌, ◌-◌, ◌≡◌, [], ◌∷◌, ap, length, map, subst, sym, ◌∙◌, arith}
use Rattle.table_form.proofs.AppendingLemmas.{cells_appended, maximal_appended}
use Rattle.table_form.proofs.RowLemmas.{cells-nil}
use Rattle.table_form.specs.Planning.EdfRow.{edf_cells, owner_of}
use Rattle.table_form.specs.Planning.Jobs.{jobs_of}
use Rattle.table_form.specs.Tables.Rows.{cells_from}
use Rattle.table_form.specs.Tables.Segments.{AreMaximal, put_before, segment_view}
use Rattle.edf_table.specs.Inside.Progress.{GoesTo, MetBefore}
use Rattle.edf_table.proofs.Calm.{row_along}
use Rattle.edf_table.proofs.Kept.{all_kept_later}
use Rattle.edf_table.proofs.Misses.{fits_met}
use Rattle.edf_table.proofs.PendingJobs.{fits_now, under_way_kept, under_way_later, under_way_start}
use Rattle.edf_table.proofs.Steps.{row_start}
use Rattle.edf_table.proofs.row.first_segments_in.Goals as goal

pub loop-tick-init : goal.loop-tick-init
loop-tick-init c = record {
  in_time = omega arith;
  in_round = omega arith;
  within = omega arith;
  a_begin_each = omega (arith, c.put_first_begins.ensures.a_begin_each, c.requires.a_begin_each);
  a_place_each = c.requires.a_place_each;
  under_way = under_way_start c.args.pieces.now c.put_first_begins.new.begins _ c.requires.distinct
      c.put_first_begins.ensures.kept;
  maximal = rw c.new-segments.ensures.items (omega arith);
  cells_are = row_start (jobs_of c.args.pieces.now) (cells_from 0 c.new-segments.result.items)
      (ap (cells_from 0) c.new-segments.ensures.items ∙ cells-nil 0);
}

pub next_event-event-requires-clause-under_way : goal.next_event-event-requires-clause-under_way
next_event-event-requires-clause-under_way c =
    fits_now c.args.pieces.now c.loop-tick.begins c.loop-tick.jobs c.loop-tick.count c.loop-tick.tick
    c.loop-tick.event c.requires.distinct c.loop-tick.invariant.under_way c.loop-tick.invariant.in_time
    c.requires.fits (omega (arith, c.loop-tick.invariant.in_time, c.loop-tick.invariant.in_round))

pub run_turn-turn-requires-clause-under_way : goal.run_turn-turn-requires-clause-under_way
run_turn-turn-requires-clause-under_way c =
    under_way_later c.args.pieces.now c.next_event-event.new.begins c.next_event-event.new.jobs
    c.next_event-event.new.count c.loop-tick.tick (c.loop-tick.tick + 1) (c.loop-tick.tick + 1)
    (c.loop-tick.tick + 1) c.next_event-event.result c.min.result c.next_event-event.ensures.under_way
    (omega arith) (omega (arith, c.min.ensures))

pub loop-tick-preserved : goal.loop-tick-preserved
loop-tick-preserved c =
    let end = c.run_turn-turn.result.end in
    let n = end - c.loop-tick.tick in
    let at : c.loop-tick.tick + n ≡ end = omega (arith, c.run_turn-turn.ensures.later) in
    let some = c.run_turn-turn.ensures.later in
    let js = jobs_of c.args.pieces.now in
    let owner = c.run_turn-turn.result.owner in
    let old = c.loop-tick.segments.items in
    let new = c.push_segment.new.segments.items in
    let pushed : map segment_view new
    ≡ put_before (map segment_view old) (record { owner = owner; end = c.loop-tick.tick + n } ∷ []) =
    subst (λ e. map segment_view new ≡ put_before (map segment_view old)
    (record { owner = owner; end = e } ∷ []))
    (sym at) (c.in_ok-push_segment.ensures.ok
    ∙ ap (λ o. put_before (map segment_view old) (record { owner = o; end = end } ∷ [])) c.of.ensures) in
    record {
      in_time = omega (arith, c.run_turn-turn.ensures.within, c.min.ensures);
      in_round = c.next_event-event.ensures.in_round;
      within = omega (arith, c.run_turn-turn.ensures.within, c.min.ensures);
      a_begin_each =
          omega (arith, c.next_event-event.ensures.a_begin_each, c.loop-tick.invariant.a_begin_each);
      a_place_each = omega (
        arith,
        c.next_event-event.ensures.a_place_each,
        c.run_turn-turn.ensures.a_place_each,
        c.loop-tick.invariant.a_place_each,
      );
      under_way = under_way_kept c.args.pieces.now c.next_event-event.new.begins c.run_turn-turn.new.jobs
          c.run_turn-turn.new.count end end end end c.min.result c.next_event-event.result
          c.run_turn-turn.ensures.under_way
          (all_kept_later c.args.pieces.now c.next_event-event.new.begins (length c.args.pieces.now)
          (c.loop-tick.tick + 1) end c.next_event-event.result c.next_event-event.result
          c.next_event-event.ensures.under_way.kept (omega (arith, some)) (omega arith));
      maximal = subst (AreMaximal 0 (map segment_view new)) at
          (maximal_appended old new c.loop-tick.tick n owner c.loop-tick.invariant.maximal
          (omega (arith, some)) pushed);
      cells_are = subst (λ e. cells_from 0 new ≡ map owner_of (edf_cells js e)) at
          (row_along js (cells_from 0 old) (cells_from 0 new) c.loop-tick.tick n owner
          c.loop-tick.invariant.cells_are
          (subst (λ e. GoesTo js c.loop-tick.tick e owner) (sym at) c.run_turn-turn.ensures.goes)
          (cells_appended old new c.loop-tick.tick n owner c.loop-tick.invariant.maximal
          (omega (arith, some)) pushed));
    }

-- all is met to the end
pub returns-clause-met : goal.returns-clause-met
returns-clause-met c =
    let end : c.loop-tick.tick ≡ c.args.end = omega (arith, c.loop-tick.invariant.within) in
    let here = c.loop-tick.invariant.under_way in
    subst (λ n. MetBefore (jobs_of c.args.pieces.now) (n + 1)) end
    (fits_met c.args.pieces.now here.given c.loop-tick.tick c.requires.distinct here.counted here.met
    c.requires.fits (omega (arith, c.loop-tick.invariant.in_time, c.loop-tick.invariant.in_round)))
