use Rattle.host_gen.specs.Generated.{percent_of}
use Rattle.host_gen.proofs.BoundLemmas.{has_whole_period}
use Rattle.host_gen.proofs.laws.a_generated_vcpu_has_its_period.Goals as goal

pub returns : goal.returns
returns c = λ most number first second vcpu is.
    has_whole_period (percent_of most first) second vcpu.reservation is.reservation
