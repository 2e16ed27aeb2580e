-- What the text of a replay tells and shows: the entries and stints that the steps made, in their order.
use Rattle.std.specs.Prelude.{◌≡◌, ℕ, ◌≤◌, true, List, [], ◌∷◌, ◌++◌, map}
use Rattle.tab_core.specs.declared.TheConstants.{MAX_ROUNDS}
use Rattle.tab_core.specs.declared.host.Host.{Host}
use Rattle.table_form.specs.Running.Courses.{CourseView}
use Rattle.table_form.specs.Running.State.{State, opening}
use Rattle.script_doc.specs.declared.step.Step.{Step}
use Rattle.step_machine.specs.Traces.{IsTrace}
use Rattle.step_machine.specs.declared.trace.Made.{Made}
use Rattle.step_machine.specs.declared.trace.Made.TheVariants.{Entered, Ran}
use Rattle.view_doc.specs.Lines.{Told, entry, posted}
use Rattle.view_doc.specs.Views.{stretch_told}
use Rattle.view_doc.specs.declared.view.Entry.{Entry}
use Rattle.view_doc.specs.declared.view.View.{View}
use Rattle.view_laws.specs.ShownRuns.{IsHostWithCourse, stint_told}

-- the steps of a run of so many rounds of a host's course lead to this state and make these
pub record IsReplayOf (host : Host) (course : CourseView) (rounds : ℕ) (state : State) (made : List Made)
    : Type 0 where
  pub host_course : IsHostWithCourse host course
  pub few_rounds : rounds ≤ MAX_ROUNDS
  pub steps : List Step
  pub trace : IsTrace course rounds (opening course.cores) steps state made

-- ---- what is shown

-- the entries alone: each core, the round that it entered, and the round's count of events
abbrev pub entries_made : List Made → List Entry
entries_made [] = []
entries_made (Entered c e ∷ made) = (record { core = c; round = e.round; count = e.used }) ∷ entries_made made
entries_made (Ran c s ∷ made) = entries_made made

-- the stints alone that the steps made
abbrev pub stints_made : List (List ℕ) → CourseView → List Made → List Told
stints_made names course [] = []
stints_made names course (Entered c e ∷ made) = stints_made names course made
stints_made names course (Ran c s ∷ made) = stint_told names course c s ∷ stints_made names course made

-- the view shows what was made, and no plan
pub record ShowsReplay (names : List (List ℕ)) (course : CourseView) (made : List Made) (view : View) : Type
    0 where
  pub no_cores : view.cores ≡ 0
  pub run : view.is_run ≡ true
  pub no_task : view.tasks.items ≡ []
  pub no_slot : view.slots.items ≡ []
  pub entries : view.entries.items ≡ entries_made made
  pub stints : map (stretch_told view.names.items) view.stints.items ≡ stints_made names course made

-- ---- what the text tells

-- the line of what a step made
abbrev pub made_told : List (List ℕ) → CourseView → Made → Told
made_told names course (Entered c e) = entry c e.round e.used
made_told names course (Ran c s) = stint_told names course c s

-- what all lines of a replay's text say
abbrev pub replay_told : List (List ℕ) → CourseView → List Made → ℕ → List Told
replay_told names course made count = map (made_told names course) made ++ posted count ∷ []
