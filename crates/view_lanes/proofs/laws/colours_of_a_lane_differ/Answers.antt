use Rattle.view_lanes.proofs.MetLemmas.{lane_colours}
use Rattle.view_lanes.proofs.laws.colours_of_a_lane_differ.Goals as goal

pub returns : goal.returns
returns c = lane_colours
