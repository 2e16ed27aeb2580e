use Rattle.view_svg.proofs.KeyLemmas.{key_beside, key_below, key_high, key_right, key_within}
use Rattle.view_svg.proofs.laws.a_key_has_its_place.Goals as goal

pub returns-clause-right : goal.returns-clause-right
returns-clause-right c = key_right

pub returns-clause-within : goal.returns-clause-within
returns-clause-within c = key_within

pub returns-clause-high : goal.returns-clause-high
returns-clause-high c = key_high

pub returns-clause-beside : goal.returns-clause-beside
returns-clause-beside c = key_beside

pub returns-clause-below : goal.returns-clause-below
returns-clause-below c = key_below
