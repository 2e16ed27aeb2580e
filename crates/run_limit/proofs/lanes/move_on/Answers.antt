use Rattle.std.proofs.Common.{◌<◌, ◌-◌, length, get_or, inl, inr, refl, subst, arith}
use Rattle.std.proofs.lemmas.Option.{slice_get-get_or}
use Rattle.table_form.specs.Tables.Views.{plan_view}
use Rattle.run_limit.specs.declared.lanes.Lane.{Lane}
use Rattle.run_limit.specs.Inside.Walks.{IsLane, Shows}
use Rattle.run_limit.proofs.LaneLemmas.{put_cases, put_keeps}
use Rattle.run_limit.proofs.lanes.move_on.Goals as goal

pub loop-at-init : goal.loop-at-init
loop-at-init c = record {
  count = refl;
  all = λ d has. has;
  lanes = λ k lane lt. absurd (omega arith);
  before = λ k lane lt. absurd (omega arith);
  rest = λ k lane low listed. c.requires.lanes k lane listed;
  ends = λ k lane low listed. c.requires.ends k lane listed;
}

pub move_lane-requires-clause-lane : goal.move_lane-requires-clause-lane
move_lane-requires-clause-lane c =
    let items = c.loop-at.lanes.items in
    let lane = get_or items c.loop-at.at c.index-lanes-at.result in
    c.loop-at.invariant.rest c.loop-at.at lane (omega arith) (record {
      counted = omega (arith, c.loop-at.invariant.count);
      is = slice_get-get_or items c.loop-at.at c.index-lanes-at.result (omega arith);
    })

pub move_lane-requires-clause-end : goal.move_lane-requires-clause-end
move_lane-requires-clause-end c =
    let items = c.loop-at.lanes.items in
    let lane = get_or items c.loop-at.at c.index-lanes-at.result in
    c.loop-at.invariant.ends c.loop-at.at lane (omega arith) (record {
      counted = omega (arith, c.loop-at.invariant.count);
      is = slice_get-get_or items c.loop-at.at c.index-lanes-at.result (omega arith);
    })

pub loop-at-preserved : goal.loop-at-preserved
loop-at-preserved c =
    let plan = plan_view c.args.plan.now in
    let was = c.loop-at.invariant in
    let lanes = c.loop-at.lanes in
    let at = c.loop-at.at in
    let new : Lane = c.move_lane.new.lane in
    let room : at < length lanes.items = omega arith in
    let lt : at < lanes.count = omega (arith, was.count) in
    let moved = c.move_lane.ensures in
    record {
      count = was.count;
      all = λ d has. put_keeps lanes at d new c.index-lanes-at.result room lt moved.row (was.all d has);
      lanes = λ k lane less listed. elim (put_cases lanes at k new lane room listed) [
        | inl here ↦ subst (IsLane plan c.args.core c.args.place) here.1 moved.lane
        | inr other ↦ (let ne = other.0 in was.lanes k lane (omega arith) other.1)
      ];
      before = λ k lane less listed. elim (put_cases lanes at k new lane room listed) [
        | inl here ↦ subst (λ (l : Lane). Shows plan c.args.core (c.args.place - 1) l.row l.was) here.1 moved.before
        | inr other ↦ (let ne = other.0 in was.before k lane (omega arith) other.1)
      ];
      rest = λ k lane low listed. elim (put_cases lanes at k new lane room listed) [
        | inl here ↦ absurd (let is = here.0 in omega arith)
        | inr other ↦ was.rest k lane (omega arith) other.1
      ];
      ends = λ k lane low listed. elim (put_cases lanes at k new lane room listed) [
        | inl here ↦ absurd (let is = here.0 in omega arith)
        | inr other ↦ was.ends k lane (omega arith) other.1
      ];
    }

pub returns-clause-lanes : goal.returns-clause-lanes
returns-clause-lanes c = λ k lane listed. c.loop-at.invariant.lanes k lane
    (let lt = listed.counted in omega (arith, c.loop-at.invariant.count)) listed
