use Rattle.std.proofs.Common.{refl}
use Rattle.host_gen.specs.GeneratorWords.{generator_state_at, state_after, word_of_state}
use Rattle.host_gen.proofs.laws.the_words_of_a_seed.Goals as goal

pub returns-clause-first : goal.returns-clause-first
unfolding word_of_state generator_state_at
returns-clause-first c = refl

pub returns-clause-second : goal.returns-clause-second
unfolding word_of_state generator_state_at state_after
returns-clause-second c = refl
