-- A core's actor with a seat of its own.
-- Source: the rules of this project.
use Rattle.round_words.specs.declared.board.RoundBoard.{RoundBoard}
use Rattle.round_words.specs.SeatViews.{SeatView}
use Rattle.round_words.specs.Seats.{IsSeatOf, view_of}
use Rattle.dispatch_core.specs.States.{ActorView, AgreesWith}

-- the seat is one of the board, and the actor agrees with its core's part of the seat's view
pub record IsWorkerReady (board : RoundBoard) (seat : SeatView) (actor : ActorView) : Type 0 where
  pub at_board : IsSeatOf board seat
  pub agrees : AgreesWith actor.course actor.state (view_of seat)
