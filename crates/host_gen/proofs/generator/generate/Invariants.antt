use Rattle.std.proofs.Common.{◌≡◌, length}
use Rattle.host_gen.specs.Generated.{AreGenerated}
use Rattle.host_gen.specs.GeneratorWords.{generator_state_at}
use Rattle.host_gen.proofs.generator.generate.Given as goal

-- the vCPUs so far are those of the seed, and the generator's state is that of the next
abbrev pub invariant-loop-number : goal.invariant-loop-number
invariant-loop-number l = record {
  size : length l.made.items ≡ l.number;
  state : l.words ≡ generator_state_at l.seed l.number;
  each : AreGenerated l.seed l.most l.made.items;
}
