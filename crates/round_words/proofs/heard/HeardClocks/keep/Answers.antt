use Rattle.round_words.proofs.KnownLemmas.{raised_none}
use Rattle.round_words.proofs.heard.HeardClocks.keep.Goals as goal

pub returns : goal.returns
returns c = raised_none c.self.inside.actor c.self.inside.cores c.args.clocks
