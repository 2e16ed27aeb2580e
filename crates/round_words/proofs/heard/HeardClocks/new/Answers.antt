use Rattle.std.proofs.Common.{ap, ◌∙◌}
use Rattle.std.specs.Prelude.{slice_index}
use Rattle.round_words.proofs.KnownLemmas.{raised_none}
use Rattle.round_words.proofs.StartLemmas.{zeros}
use Rattle.round_words.proofs.heard.HeardClocks.new.Goals as goal

pub returns : goal.returns
returns c = λ d. ap (λ xs. slice_index xs d) (raised_none c.args.actor c.args.cores _) ∙ zeros 32 d
