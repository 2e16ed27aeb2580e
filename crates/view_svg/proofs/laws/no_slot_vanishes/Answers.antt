use Rattle.view_svg.proofs.PlaceLemmas.{bar_among, x_later, x_order}
use Rattle.view_svg.proofs.laws.no_slot_vanishes.Goals as goal

pub returns-clause-drawn : goal.returns-clause-drawn
returns-clause-drawn c = bar_among

pub returns-clause-wide : goal.returns-clause-wide
returns-clause-wide c = x_later

pub returns-clause-apart : goal.returns-clause-apart
returns-clause-apart c = x_order
