use Rattle.fleet_place.proofs.AcceptLemmas.{like_own}
use Rattle.fleet_place.proofs.ask.is_accepted.Goals as goal

pub returns-in_ok-has_room-in-Ok-clause-accepted :
    goal.returns-in_ok-has_room-in-Ok-clause-accepted
returns-in_ok-has_room-in-Ok-clause-accepted c = λ yes. record {
  host = c.in-Ok.host;
  is = c.in-Ok.ensures.host;
  planned = c.in_ok-has_room-in-Ok.ensures.planned yes;
}

pub returns-in_ok-has_room-in-Ok-clause-refused : goal.returns-in_ok-has_room-in-Ok-clause-refused
returns-in_ok-has_room-in-Ok-clause-refused c = λ no. record {
  host = c.in-Ok.host;
  is = like_own c.args.policy.now.tick_ns c.args.cores c.args.sizes.now c.in-Ok.host c.in-Ok.ensures.host;
  refused = c.in_ok-has_room-in-Ok.ensures.refused no;
}
