use Rattle.std.proofs.Common.{◌≡◌, ◌+◌, ◌-◌, ◌*◌, ◌<◌, ◌≤◌, get_or, set, length, refl, ap, subst, sym, ◌∙◌, arith, length-set, get_or-set_same, get_or-set_other}
use Rattle.std.proofs.lemmas.List.{get_or_default, get_or_read}
use Rattle.tab_core.specs.declared.TheConstants.{MAX_VCPUS}
use Rattle.tab_core.specs.declared.piece.Piece.{Piece}
use Rattle.edf_table.specs.Inside.Progress.{IsPieceKept, goal_of}
use Rattle.edf_table.proofs.Kept.{begun_more, kept_ahead, kept_next, some_piece}
use Rattle.edf_table.proofs.PendingJobs.{begun_job, idle_piece, pending_added, room_to_begin, timely_added}
use Rattle.edf_table.proofs.Turns.{short_period, some_period}
use Rattle.edf_table.proofs.turn.begin_windows.Goals as goal
use Rattle.edf_table.proofs.turn.begin_windows.Goals.{then-begins-i, else-begins-i}

pub loop-i-preserved : goal.loop-i-preserved
loop-i-preserved c =
    let ps = c.args.pieces.now in
    let i = c.loop-i.i in
    let tick = c.args.tick in
    let ns = c.loop-i.begins in
    let old = c.loop-i.jobs in
    let count = c.loop-i.count in
    let in_ps : i < length ps = c.loop-i-test.true in
    let in_ns : i < length ns = omega (arith, c.requires.a_begin_each, c.loop-i.invariant.a_begin_each) in
    let before : (d : Piece) → IsPieceKept (get_or ps i d) tick tick (get_or ns i 0) =
    λ d. subst (IsPieceKept (get_or ps i d) tick tick)
    (sym (c.loop-i.invariant.rest i (omega arith))) (c.requires.under_way.kept i d in_ps) in
    elim c.if-begins-i.branch [
      | then-begins-i w ↦
          let p = w.index-pieces-i.result in
          let q = w.index-pieces-i-then-begins-i.result in
          let after = tick + (get_or ps i q).period in
          let job = w.job_from.result in
          let new = w.add.new.jobs in
          let here : get_or ns i 0 ≡ tick = w.if-begins-i.true in
          let read : (d : Piece) → p ≡ get_or ps i d = λ d. get_or_read ps i p in_ps w.index-pieces-i.is d in
          let after_is : (d : Piece) → after ≡ tick + (get_or ps i d).period =
          λ d. ap (λ (x : Piece). tick + x.period) (get_or_default ps i q d in_ps) in
          rw (w.begins-is, w.jobs-is, w.count-is) (record {
            a_begin_each = length-set ns i after ∙ c.loop-i.invariant.a_begin_each;
            a_place_each = w.add.ensures.a_place_each ∙ c.loop-i.invariant.a_place_each;
            kept = begun_more ps ns (set ns i after) i tick (tick + 1) (tick + 1) c.loop-i.invariant.kept
                (omega arith) (λ k lt. get_or-set_other ns i k after 0 (omega arith))
                (λ d. subst (IsPieceKept (get_or ps i d) (tick + 1) (tick + 1))
                (sym (get_or-set_same ns i after 0 in_ns))
                (kept_ahead (get_or ps i d) (tick + 1) (tick + 1) after (tick + 1) after
                (kept_next (get_or ps i d) tick after
                (subst (IsPieceKept (get_or ps i d) tick tick) here (before d))
                (after_is d)) (omega arith) (omega (arith, some_period (get_or ps i q)))));
            rest = λ k le. get_or-set_other ns i k after 0 (omega arith)
                ∙ c.loop-i.invariant.rest k (omega arith);
            pending = λ gs start.
                (let pending = c.loop-i.invariant.pending gs start in
                let timely = c.loop-i.invariant.timely in
                let idle : (d : Piece) → goal_of (get_or ps i d) (get_or ns i 0) ≤ get_or gs i 0 =
                λ d. idle_piece ps gs ns old count tick i d (before d) here in_ps pending timely in
                let room = room_to_begin ps gs ns old count tick i p c.requires.distinct (before p) here in_ps
                pending timely in
                pending_added ps gs ns (set ns i after) old new count i job c.requires.distinct pending
                w.add.ensures.added
                (omega (
                  arith,
                  c.requires.a_place_each,
                  c.loop-i.invariant.a_place_each,
                  w.add.ensures.a_place_each,
                ))
                idle (λ k ne. get_or-set_other ns i k after 0 ne)
                (begun_job ps gs ns tick i after job in_ps in_ns here before
                (λ d. omega (arith, idle d, pending.within i d in_ps)) after_is
                (λ d. subst (λ (x : Piece). job.key ≡ (tick - x.from + x.to) * MAX_VCPUS + x.vcpu) (read d)
                w.job_from.ensures.key)
                (λ d. subst (λ (x : Piece). job.left ≡ x.cost) (read d) w.job_from.ensures.left)));
            timely = timely_added old new count (tick + 1) job w.add.ensures.added c.loop-i.invariant.timely
                (omega (arith, w.job_from.ensures.key, p.begins));
          })
      | else-begins-i w ↦
          let later : tick < get_or ns i 0 =
          omega (arith, w.if-begins-i.false, (before (some_piece ps i in_ps)).ahead) in
          rw (w.begins-is, w.jobs-is, w.count-is) (record {
            a_begin_each = c.loop-i.invariant.a_begin_each;
            a_place_each = c.loop-i.invariant.a_place_each;
            kept = begun_more ps ns ns i tick (tick + 1) (tick + 1) c.loop-i.invariant.kept (omega arith)
                (λ k lt. refl)
                (λ d. kept_ahead (get_or ps i d) tick (tick + 1) tick (tick + 1) (get_or ns i 0) (before d)
                (omega arith) (omega arith));
            rest = λ k le. c.loop-i.invariant.rest k (omega arith);
            pending = c.loop-i.invariant.pending;
            timely = c.loop-i.invariant.timely;
          })
    ]

-- there is room for the piece's job
pub add-requires : goal.add-requires
add-requires c =
    let i = c.loop-i.i in
    let tick = c.args.tick in
    let gs = c.requires.under_way.given in
    let p = c.index-pieces-i.result in
    omega (
      arith,
      room_to_begin c.args.pieces.now gs c.loop-i.begins c.loop-i.jobs c.loop-i.count tick i p
          c.requires.distinct
          (subst (IsPieceKept (get_or c.args.pieces.now i p) tick tick)
          (sym (c.loop-i.invariant.rest i (omega arith)))
          (c.requires.under_way.kept i p c.loop-i-test.true)) c.if-begins-i.true c.loop-i-test.true
          (c.loop-i.invariant.pending gs c.requires.under_way.pending) c.loop-i.invariant.timely,
      c.requires.a_place_each,
      c.loop-i.invariant.a_place_each,
    )

pub overflow_add-count : goal.overflow_add-count
overflow_add-count c =
    let i = c.loop-i.i in
    let tick = c.args.tick in
    let gs = c.requires.under_way.given in
    let p = c.index-pieces-i.result in
    omega (
      arith,
      room_to_begin c.args.pieces.now gs c.loop-i.begins c.loop-i.jobs c.loop-i.count tick i p
          c.requires.distinct
          (subst (IsPieceKept (get_or c.args.pieces.now i p) tick tick)
          (sym (c.loop-i.invariant.rest i (omega arith)))
          (c.requires.under_way.kept i p c.loop-i-test.true)) c.if-begins-i.true c.loop-i-test.true
          (c.loop-i.invariant.pending gs c.requires.under_way.pending) c.loop-i.invariant.timely,
    )

pub overflow_add-begins : goal.overflow_add-begins
overflow_add-begins c = omega (
  arith,
  short_period (get_or c.args.pieces.now c.loop-i.i c.index-pieces-i-then-begins-i.result),
  c.requires.in_round,
)

pub returns-clause-under_way : goal.returns-clause-under_way
returns-clause-under_way c =
    let before = c.requires.under_way in
    record {
      given = before.given;
      kept = λ i d i-in. c.loop-i.invariant.kept i d (omega (arith, c.loop-i-test.false));
      pending = c.loop-i.invariant.pending before.given before.pending;
      timely = c.loop-i.invariant.timely;
      counted = before.counted;
      met = before.met;
    }
