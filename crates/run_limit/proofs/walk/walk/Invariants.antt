use Rattle.std.proofs.Common.{ℕ, ◌+◌, ◌-◌, ◌<◌, ◌≤◌, map}
use Rattle.tab_core.specs.declared.TheConstants.{ROUND}
use Rattle.table_form.specs.Tables.Segments.{segment_view}
use Rattle.table_form.specs.Tables.Views.{plan_view}
use Rattle.run_limit.specs.Inside.Walks.{AreAllLanes, AreLanes, EndFrom, passed}
use Rattle.run_limit.specs.declared.visits.TheConstants.{ROWS}
use Rattle.run_limit.proofs.WalkLemmas.{IsCounted}
use Rattle.run_limit.proofs.walk.walk.Given as goal

-- the lanes are known from a place before this one up to it, and the spans up to that place are counted
abbrev pub invariant-walking : goal.invariant-walking
invariant-walking l = record {
  from : ℕ;
  before : from < l.place;
  in_round : l.place ≤ ROUND;
  few : l.lanes.count ≤ ROWS;
  all : AreAllLanes (plan_view l.plan) l.row l.lanes;
  lanes : AreLanes (plan_view l.plan) l.row from l.lanes;
  ends : EndFrom l.place l.lanes;
  at_low : l.at ≤ passed (map segment_view l.own) from;
  more_few : l.more ≤ from;
  counted : IsCounted (plan_view l.plan) l.row (from + 1) (1 + passed (map segment_view l.own) from + l.more);
}

abbrev pub decreases-walking : goal.decreases-walking
decreases-walking l = ROUND - l.place
