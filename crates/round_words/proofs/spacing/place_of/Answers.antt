use Rattle.round_words.proofs.SpacingLemmas.{place_within}
use Rattle.round_words.proofs.spacing.place_of.Goals as goal

pub returns-clause-within : goal.returns-clause-within
returns-clause-within c = place_within c.args.word c.requires
