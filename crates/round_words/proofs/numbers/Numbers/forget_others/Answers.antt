use Rattle.std.proofs.Common.{ap, ◌∙◌, Bool, cond, replicate}
use Rattle.std.specs.Prelude.{slice_index}
use Rattle.round_words.proofs.StartLemmas.{zeros}
use Rattle.round_words.proofs.numbers.Numbers.forget_others.Goals as goal

pub returns-clause-others : goal.returns-clause-others
returns-clause-others c = λ k lt few off. c.take_over.ensures k lt
    ∙ (ap (λ (mine : Bool). cond mine (slice_index c.args.self.now.clocks k) (slice_index (replicate 32 0) k)) off
    ∙ zeros 32 k)
