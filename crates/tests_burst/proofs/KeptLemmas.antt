-- A run whose stints are all kept: it can be reported, and there is room for that.
use Rattle.std.proofs.Common.{ℕ, ◌<◌, refl, sym, ap, ◌∙◌, arith}
use Rattle.std.proofs.lemmas.Option.{slice_get_within}
use Rattle.tab_words.specs.declared.command.RunMode.TheVariants.{Burst}
use Rattle.table_form.specs.Running.Courses.{CourseView}
use Rattle.round_words.specs.declared.view.View.{View}
use Rattle.run_state.specs.Readings.{state_of}
use Rattle.run_course.specs.Runs.{IsRunOf, RanView, kept_in, stints_of}
use Rattle.burst_bound.specs.KeptRuns.{IsKeptRun}

-- the crew of a run that is asked for its bursts has all its stints
pub kept_run : (course : CourseView) (rounds : ℕ) (view : View) (ran : RanView)
    → IsRunOf course rounds Burst view ran → IsKeptRun course rounds ran.crew (state_of course view)
kept_run course rounds view ran is = record {
  course_is = is.course_is;
  invariant = is.promises.invariant;
  complete = is.complete;
  used = is.used;
  stints = λ c a core at here.
      let within : c < course.cores = omega (arith, slice_get_within (state_of course view).cores c core here, is.promises.invariant.size) in
      sym (ap kept_in at) ∙ (is.stints refl c within ∙ ap stints_of here);
}
