-- The line of the refusal of a replay, of which a step isn't done.
use Rattle.std.specs.Prelude.{ℕ, List, ◌++◌, codes, decimal}
use Rattle.tab_core.specs.declared.actor.Actor.{Actor}
use Rattle.tab_core.specs.declared.actor.Actor.TheVariants.{Core, Controller}
use Rattle.step_machine.specs.declared.answer.Answer.{Answer}
use Rattle.step_machine.specs.declared.answer.Answer.TheVariants.{Done, Behind, NotNow}

-- whom the step waits for
abbrev pub actor_text : Actor → List ℕ
actor_text (Core core) = codes "core " ++ decimal core
actor_text Controller = codes "controller"

-- why a step isn't done, to the end of the line
abbrev pub answer_text : Answer → List ℕ
answer_text Done = codes "\n"
answer_text (Behind who tick) =
    codes ", " ++ (actor_text who ++ (codes " at tick " ++ (decimal tick ++ codes "\n")))
answer_text (NotNow found) = codes " is not now\n"

-- the step is on the line of this number
abbrev pub step_fault_line : ℕ → Answer → List ℕ
step_fault_line line answer = codes "refused: step " ++ (decimal line ++ answer_text answer)
