use Rattle.std.proofs.Common.{rules}
use Rattle.round_words.proofs.StepLemmas.{allows}
use Rattle.round_words.proofs.board.RoundBoard.load_step.Goals as goal

pub load-requires : goal.load-requires
load-requires g c = (
  c.requires.board,
  search rules,
  allows _ _ _ _ _ (λ n. n)
      (g.J.StepClaim.claim c.args.seat.now.me.0) c.requires.word c.place_of.ensures.is c.requires.rule c.requires.lag,
)
