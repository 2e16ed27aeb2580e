use Rattle.std.proofs.Common.{◌≤◌, arith}
use Rattle.table_form.specs.declared.segment.Segment.{Segment}
use Rattle.table_check.proofs.Meets.{meets_now, none_in_round, none_in_segments}
use Rattle.table_check.proofs.Sweep.{end_in_round, goes_on, goes_on-start, next_parts, place_within, some_left}
use Rattle.table_check.proofs.meeting.find_meeting.Goals as goal

pub sweeping-init : goal.sweeping-init
sweeping-init c = record {
  within = omega arith;
  here_low = omega arith;
  there_low = omega arith;
  here = goes_on-start c.args.row.now c.requires.rises;
  there = goes_on-start c.args.other.now c.requires.other_rises;
  none = λ v x meets. omega arith;
}

pub bounds-row-here_at : goal.bounds-row-here_at
bounds-row-here_at c = some_left c.args.row.now c.sweeping.tick c.sweeping.here_at c.sweeping.invariant.here
    (omega (arith, c.sweeping-test.true))

pub bounds-other-there_at : goal.bounds-other-there_at
bounds-other-there_at c = some_left c.args.other.now c.sweeping.tick c.sweeping.there_at
    c.sweeping.invariant.there
    (omega (arith, c.sweeping-test.true))

pub returns-in-Some : goal.returns-in-Some
returns-in-Some c =
    let was = c.sweeping.invariant in
    let both = c.in-Some.ensures.both in
    let lt_a = some_left c.args.row.now c.sweeping.tick c.sweeping.here_at was.here
    (omega (arith, c.sweeping-test.true)) in
    let lt_b = some_left c.args.other.now c.sweeping.tick c.sweeping.there_at was.there
    (omega (arith, c.sweeping-test.true)) in (
      meets_now c.args.row.now c.args.other.now c.sweeping.tick c.sweeping.here_at
          c.sweeping.there_at c.in-Some.vcpu
          c.index-row-here_at.result c.index-other-there_at.result was.here was.there lt_a lt_b
          c.index-row-here_at.is c.index-other-there_at.is both.0 both.1,
      was.none,
    )

pub sweeping-smaller : goal.sweeping-smaller
sweeping-smaller c =
    let here : Segment = c.index-row-here_at.result in
    let there : Segment = c.index-other-there_at.result in
    let was = c.sweeping.invariant in
    let lt_a = some_left c.args.row.now c.sweeping.tick c.sweeping.here_at was.here
    (omega (arith, c.sweeping-test.true)) in
    let lt_b = some_left c.args.other.now c.sweeping.tick c.sweeping.there_at was.there
    (omega (arith, c.sweeping-test.true)) in
    let a = (next_parts c.args.row.now c.sweeping.tick c.sweeping.here_at here was.here lt_a
    c.index-row-here_at.is).0 in
    let b = (next_parts c.args.other.now c.sweeping.tick c.sweeping.there_at there was.there lt_b
    c.index-other-there_at.is).0 in
    omega (arith, c.min-tick.ensures)

pub sweeping-preserved : goal.sweeping-preserved
sweeping-preserved c =
    let here : Segment = c.index-row-here_at.result in
    let there : Segment = c.index-other-there_at.result in
    let was = c.sweeping.invariant in
    let row = c.args.row.now in
    let other = c.args.other.now in
    let tick = c.sweeping.tick in
    let y = c.min-tick.result in
    let lt_a = some_left row tick c.sweeping.here_at was.here (omega (arith, c.sweeping-test.true)) in
    let lt_b = some_left other tick c.sweeping.there_at was.there (omega (arith, c.sweeping-test.true)) in
    let a = (next_parts row tick c.sweeping.here_at here was.here lt_a c.index-row-here_at.is).0 in
    let b = (next_parts other tick c.sweeping.there_at there was.there lt_b c.index-other-there_at.is).0 in
    let low : tick ≤ y = omega (arith, c.min-tick.ensures) in
    let end_a : y ≤ here.end = omega (arith, c.min-tick.ensures) in
    let end_b : y ≤ there.end = omega (arith, c.min-tick.ensures) in
    record {
      within = (let le = end_in_round row tick c.sweeping.here_at here was.here lt_a
          c.index-row-here_at.is in
          omega arith);
      here_low = rw c.place_at-here_at.ensures (place_within row c.sweeping.here_at y here lt_a);
      there_low = rw c.place_at-there_at.ensures (place_within other c.sweeping.there_at y there lt_b);
      here = rw c.place_at-here_at.ensures
          (goes_on row tick c.sweeping.here_at y here was.here lt_a c.index-row-here_at.is low end_a);
      there = rw c.place_at-there_at.ensures
          (goes_on other tick c.sweeping.there_at y there was.there lt_b c.index-other-there_at.is low end_b);
      none = none_in_segments row other tick c.sweeping.here_at c.sweeping.there_at y here there
          was.here was.there
          lt_a lt_b
          c.index-row-here_at.is c.index-other-there_at.is c.in_default.ensures.none end_a end_b was.none;
    }

pub returns : goal.returns
returns c = none_in_round c.args.row.now c.args.other.now c.sweeping.tick c.requires.rises
    (omega (arith, c.sweeping-test.false)) c.sweeping.invariant.none
