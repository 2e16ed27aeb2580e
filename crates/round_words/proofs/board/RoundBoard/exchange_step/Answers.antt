use Rattle.std.proofs.Common.{rules, ℕ, eqb}
use prog.Atomic.{either}
use Rattle.round_words.proofs.StepLemmas.{allows}
use Rattle.round_words.proofs.board.RoundBoard.exchange_step.Goals as goal

pub compare_exchange-requires : goal.compare_exchange-requires
compare_exchange-requires g c = (
  c.requires.board,
  search rules,
  allows _ _ _ _ _ (λ (n : ℕ). either (eqb n c.args.old) c.args.new n)
      (g.J.StepClaim.claim c.args.seat.now.me.0) c.requires.word c.place_of.ensures.is c.requires.rule c.requires.lag,
)
