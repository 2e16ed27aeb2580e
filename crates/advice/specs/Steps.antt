-- The advice on a list of steps: the line that is no step, or the step that isn't done and what is due first.
use Rattle.std.specs.Prelude.{ℕ, List, ◌++◌, codes, decimal}
use Rattle.tab_core.specs.declared.actor.Actor.{Actor}
use Rattle.tab_core.specs.declared.actor.Actor.TheVariants.{Core, Controller}
use Rattle.advice.specs.declared.refusal.Due.{Due}
use Rattle.advice.specs.declared.refusal.Due.TheVariants.{See, Decide, Run, Finished, AllPosted}
use Rattle.advice.specs.Lines.{line_at}
use Rattle.advice.specs.Parts.{quoted}

-- the line of this number is no step
abbrev pub bad_step_text : List ℕ → ℕ → List ℕ
bad_step_text text number = codes "tableau: steps line "
    ++ (decimal number ++ (codes ", " ++ (quoted (line_at number text)
    ++ codes ": wanted is post, see CORE, decide CORE or run CORE,\ntableau: with the number of one of the host's cores, from 0\n")))

-- what a core, or the controller, has to do next
abbrev pub due_words : Due → List ℕ
due_words See = codes "first the core has to see the posted events: see"
due_words Decide = codes "first the core has to enter its round: decide"
due_words Run = codes "the core has seen and decided, and runs now: run"
due_words Finished = codes "the core is at the end of the run; leave the line out, or take more rounds"
due_words AllPosted = codes "every event of the script is posted; leave the line out"

-- the step on the line of this number isn't due: something else is
abbrev pub due_text : List ℕ → ℕ → Due → List ℕ
due_text text number due = codes "tableau: steps line "
    ++ (decimal number ++ (codes ", " ++ (quoted (line_at number text)
    ++ (codes ": " ++ (due_words due ++ codes "\n")))))

-- the step on the line of this number waits for a core, which is at this tick, or for the posting of the
-- event of this tick
abbrev pub waits_text : List ℕ → ℕ → Actor → ℕ → List ℕ
waits_text text number (Core core) tick = codes "tableau: steps line "
    ++ (decimal number ++ (codes ", " ++ (quoted (line_at number text) ++ (codes ": let core "
    ++ (decimal core ++ (codes " go on first, which is at tick " ++ (decimal tick ++ codes "\n")))))))
waits_text text number Controller tick = codes "tableau: steps line "
    ++ (decimal number ++ (codes ", " ++ (quoted (line_at number text) ++ (codes ": post the event of tick "
    ++ (decimal tick ++ codes " first\n")))))
