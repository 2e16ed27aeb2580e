use Rattle.round_words.specs.Inside.Claims.{FloorClaim}
use Rattle.round_words.proofs.board.RoundBoard.hear_floor.Given as goal

abbrev pub ghosts-load_step : goal.ghosts-load_step
ghosts-load_step a = record { claim = FloorClaim (a.about.now.0, a.about.now.1, a.about.now.2) }
