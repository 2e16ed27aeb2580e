-- The demands and the flow that the code keeps.
use Rattle.std.specs.Prelude.{ℕ}
use Rattle.flow_net.specs.declared.demands.Demands.{Demands}
use Rattle.flow_net.specs.declared.flow.Flow.{Flow}
use Rattle.flow_net.specs.Load.{Load}
use Rattle.flow_net.specs.Networks.{DemandsView, NetView}
use Rattle.flow_net.specs.Flows.{IsNet, load_of}

-- the demands as functions
abbrev pub load : Demands → Load
load d = load_of d.costs.items d.periods.items d.marks.items d.cores

-- the flow is one of these demands, but for an interval that is one tick short
abbrev pub IsFlowOf : Demands → Flow → ℕ → Type 0
IsFlowOf d f hole = IsNet (load d) f.rows.items f.lacks.items f.room.items hole

-- the demands as plain lists
abbrev pub demands_view : Demands → DemandsView
demands_view d = record {
  costs = d.costs.items;
  periods = d.periods.items;
  marks = d.marks.items;
  cores =
      d.cores;
}

-- the network as plain lists
abbrev pub net_view : Demands → Flow → NetView
net_view d f = record {
  demands = demands_view d;
  rows = f.rows.items;
  lacks = f.lacks.items;
  room =
      f.room.items;
}
