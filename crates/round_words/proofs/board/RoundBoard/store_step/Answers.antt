use Rattle.std.proofs.Common.{rules}
use Rattle.round_words.proofs.StepLemmas.{allows}
use Rattle.round_words.proofs.board.RoundBoard.store_step.Goals as goal

pub store-requires : goal.store-requires
store-requires g c = (
  c.requires.board,
  search rules,
  allows _ _ _ _ _ (λ _. c.args.new)
      (λ _. g.J.StepClaim.claim c.args.seat.now.me.0 c.args.new) c.requires.word c.place_of.ensures.is c.requires.rule
      (λ n w told. c.requires.lag c.args.new w told),
)
