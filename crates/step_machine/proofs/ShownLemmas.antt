-- The phase for the name that an answer gives it.
use Rattle.std.proofs.Common.{◌≡◌, refl}
use Rattle.table_form.specs.Running.Phases.{CorePhase, to_see, to_decide, to_run, at_end}
use Rattle.step_machine.specs.declared.answer.Phase.TheVariants as phases
use Rattle.step_machine.specs.Answers.{shown}

-- the answer says See only of a core that is to see
pub is_see : (p : CorePhase) → shown p ≡ phases.See → p ≡ to_see
is_see to_see h = refl
is_see to_decide h = absurd cc
is_see to_run h = absurd cc
is_see at_end h = absurd cc

-- Decide only of one that is to enter its round
pub is_decide : (p : CorePhase) → shown p ≡ phases.Decide → p ≡ to_decide
is_decide to_see h = absurd cc
is_decide to_decide h = refl
is_decide to_run h = absurd cc
is_decide at_end h = absurd cc

-- Run only of one that is to run
pub is_run : (p : CorePhase) → shown p ≡ phases.Run → p ≡ to_run
is_run to_see h = absurd cc
is_run to_decide h = absurd cc
is_run to_run h = refl
is_run at_end h = absurd cc

-- Finished only of a core at the end
pub is_end : (p : CorePhase) → shown p ≡ phases.Finished → p ≡ at_end
is_end to_see h = absurd cc
is_end to_decide h = absurd cc
is_end to_run h = absurd cc
is_end at_end h = refl
