-- The machine's answer to each step: the four kinds of step of a run, when one isn't due, and what
-- one waits for.
-- Source: the rules of this project.
use Rattle.std.specs.Prelude.{◌≡◌, ◌≢◌, ℕ, ◌<◌, Some, None, length}
use Rattle.script_doc.specs.declared.step.Step.{Step}
use Rattle.script_doc.specs.declared.step.Step.TheVariants as steps
use Rattle.tab_core.specs.declared.stint.Stint.{Stint}
use Rattle.tab_core.specs.declared.actor.Actor.{Actor}
use Rattle.tab_core.specs.declared.actor.Actor.TheVariants.{Core, Controller}
use Rattle.table_form.specs.Running.Courses.{CourseView, tick_at}
use Rattle.table_form.specs.Running.State.{State, CoreState, IsCore}
use Rattle.table_form.specs.Running.Phases.{CorePhase, to_see, to_decide, to_run, at_end, phase_of}
use Rattle.table_form.specs.Promises.Fresh.{HasUpTo}
use Rattle.table_form.specs.Running.Waiting.{IsFirstBehind}
use Rattle.table_form.specs.Running.Posting.{Posts, Sees}
use Rattle.table_form.specs.Running.Entering.{Decides}
use Rattle.table_form.specs.Running.Stints.{RunsNextStint, IsNextStint}
use Rattle.step_machine.specs.declared.answer.Answer.{Answer}
use Rattle.step_machine.specs.declared.answer.Answer.TheVariants.{Done, Behind, NotNow}
use Rattle.step_machine.specs.declared.answer.Phase.{Phase}
use Rattle.step_machine.specs.declared.answer.Phase.TheVariants as phases

-- the step is due, nothing is missing, and it leads from the one state to the other
abbrev pub Moves : CourseView → ℕ → State → Step → State → Type 0
Moves course rounds old steps.Post new = Posts course old new
Moves course rounds old (steps.See c) new = Sees course rounds c old new
Moves course rounds old (steps.Decide c) new = Decides rounds c old new
Moves course rounds old (steps.Run c) new = RunsNextStint course rounds c old new

-- the name that an answer gives to a core's phase
abbrev pub shown : CorePhase → Phase
shown to_see = phases.See
shown to_decide = phases.Decide
shown to_run = phases.Run
shown at_end = phases.Finished

-- the core's phase isn't the one that the step wants; the answer names it
pub record IsOtherPhase (rounds c : ℕ) (s : State) (wanted : CorePhase) (found : Phase) : Type 0 where
  pub core : CoreState
  pub at : IsCore s c core
  pub found_is : found ≡ shown (phase_of rounds core)
  pub differs : phase_of rounds core ≢ wanted

-- core c is at the end of the run, and this is the phase that is answered
pub record IsFinishedPhase (rounds c : ℕ) (s : State) (found : Phase) : Type 0 where
  pub core : CoreState
  pub at : IsCore s c core
  pub finished : phase_of rounds core ≡ at_end
  pub found_is : found ≡ phases.Finished

-- the step isn't due, and why
abbrev pub IsNotDue : CourseView → ℕ → State → Step → Phase → Type 0
IsNotDue course rounds s steps.Post found = (s.posted ≡ length course.ticks) × (found ≡ phases.AllPosted)
IsNotDue course rounds s (steps.See c) found = IsFinishedPhase rounds c s found
IsNotDue course rounds s (steps.Decide c) found = IsOtherPhase rounds c s to_decide found
IsNotDue course rounds s (steps.Run c) found = IsOtherPhase rounds c s to_run found

-- Post is due, and a core's clock is too low
pub record PostWaits (course : CourseView) (s : State) (d tick : ℕ) : Type 0 where
  pub due : s.posted < length course.ticks
  pub low : IsFirstBehind course.lag s.cores None (tick_at course s.posted) d tick

-- See is due, and an event that the core must have isn't posted yet
pub record SeeWaits (course : CourseView) (rounds c : ℕ) (s : State) (tick : ℕ) : Type 0 where
  pub core : CoreState
  pub at : IsCore s c core
  pub due : phase_of rounds core ≢ at_end
  pub lacks : HasUpTo course s.posted core.clock → ⊥
  pub tick_is : tick ≡ tick_at course s.posted

-- Run is due, and another core's clock is too low
pub record RunWaits (course : CourseView) (rounds c : ℕ) (s : State) (d tick : ℕ) : Type 0 where
  pub core : CoreState
  pub at : IsCore s c core
  pub stint : Stint
  pub next : IsNextStint course rounds c core stint
  pub low : IsFirstBehind course.lag s.cores (Some c) stint.end d tick

-- the step is due and has to wait for somebody, whose clock, or whose next event's tick, is the tick
abbrev pub IsBehind : CourseView → ℕ → State → Step → Actor → ℕ → Type 0
IsBehind course rounds s steps.Post (Core d) tick = PostWaits course s d tick
IsBehind course rounds s steps.Post Controller tick = ⊥
IsBehind course rounds s (steps.See c) (Core d) tick = ⊥
IsBehind course rounds s (steps.See c) Controller tick = SeeWaits course rounds c s tick
IsBehind course rounds s (steps.Decide c) who tick = ⊥
IsBehind course rounds s (steps.Run c) (Core d) tick = RunWaits course rounds c s d tick
IsBehind course rounds s (steps.Run c) Controller tick = ⊥

-- the answer to a step, and the state after it, which is another only where the step is done
abbrev pub AnswersStep : CourseView → ℕ → State → Step → Answer → State → Type 0
AnswersStep course rounds old step Done new = Moves course rounds old step new
AnswersStep course rounds old step (Behind who tick) new = IsBehind course rounds old step who tick × (new ≡ old)
AnswersStep course rounds old step (NotNow found) new = IsNotDue course rounds old step found × (new ≡ old)

-- a core that the step names is one of the course's
abbrev pub NamesCore : CourseView → Step → Type 0
NamesCore course steps.Post = Unit {0}
NamesCore course (steps.See c) = c < course.cores
NamesCore course (steps.Decide c) = c < course.cores
NamesCore course (steps.Run c) = c < course.cores
