use Rattle.fleet_place.proofs.OneAnswerLemmas.{nobody_moves}
use Rattle.fleet_place.proofs.laws.a_host_with_room_keeps_all.Goals as goal

pub returns : goal.returns
returns c = nobody_moves
