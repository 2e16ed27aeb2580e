-- What the end of a step by a course did, as a step's answer.
use Rattle.std.specs.Prelude.{◌≡◌, ℕ, true}
use Rattle.tab_core.specs.declared.actor.Actor.TheVariants.{Core, Controller}
use Rattle.table_form.specs.Running.Courses.{CourseView}
use Rattle.round_words.specs.declared.view.View.{View}
use Rattle.round_words.specs.Views.{holds, part}
use Rattle.dispatch_core.specs.declared.answer.CoreAnswer.{CoreAnswer}
use Rattle.dispatch_core.specs.declared.answer.CoreAnswer.TheVariants.{Ran, Behind, Finished}
use Rattle.dispatch_core.specs.Told.{FindsLow, RunsStint}

-- it ran a stint, or waits for a core
abbrev pub FinishTold : CourseView → ℕ → View → CoreAnswer → View → Type 0
FinishTold course c v (Ran s) w = RunsStint course c (part v c) (part w c) s
FinishTold course c v (Behind Controller tick) w = ⊥
FinishTold course c v (Behind (Core d) tick) w = FindsLow course c (part v c) (part w c) d tick
    × (holds v d ≡ true → tick ≡ (part v d).clock)
FinishTold course c v Finished w = ⊥
