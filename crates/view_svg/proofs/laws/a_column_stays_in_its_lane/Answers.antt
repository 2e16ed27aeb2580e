use Rattle.view_svg.proofs.PlaceLemmas.{level_within, levels_rise}
use Rattle.view_svg.proofs.laws.a_column_stays_in_its_lane.Goals as goal

pub returns-clause-stacked : goal.returns-clause-stacked
returns-clause-stacked c = levels_rise

pub returns-clause-within : goal.returns-clause-within
returns-clause-within c = level_within
