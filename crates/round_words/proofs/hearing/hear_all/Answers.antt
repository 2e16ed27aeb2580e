use Rattle.std.proofs.Common.{◌-◌, ℕ, ap, ◌∙◌, rules}
use Rattle.std.specs.Prelude.{slice_index}
use Rattle.round_words.specs.Inside.Known.{HasSeenTo, raised}
use Rattle.round_words.specs.Seats.{view_of}
use Rattle.round_words.proofs.hearing.hear_all.Goals as goal
use Rattle.round_words.proofs.hearing.hear_all.Goals.{After-rise}

-- the actor has seen to all cores
seen : (c : After-rise) → HasSeenTo (view_of c.args.seat.now) (view_of c.hear_floor.new.seat) c.args.actor
    c.args.lag c.args.tick c.args.cores (raised c.args.actor (c.args.tick - c.args.lag) c.args.cores c.args.known.now)
seen c = c.hear_floor.ensures.seen c.if-hear_floor.true c.args.known.now c.rise.ensures.long c.requires.known

pub returns-then-hear_floor : goal.returns-then-hear_floor
returns-then-hear_floor c = record {
  board = c.hear_floor.ensures.board;
  changes = (seen c).changes;
  known = λ d. c.rise.ensures.raised d
      ∙ (ap (λ (k : ℕ). slice_index (raised c.args.actor k c.args.cores c.args.known.now) d) c.saturating_sub.ensures
      ∙ (seen c).knows d);
  heard = (seen c).heard;
  near = (seen c).near;
  low = search rules;
}
