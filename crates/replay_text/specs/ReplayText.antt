-- The text of a replay: what the steps of a run made, in their order. The form is this project's own.
use Rattle.std.specs.Prelude.{ℕ, ◌++◌, List, codes, decimal, flat_map}
use Rattle.tab_core.specs.declared.entry.Entry.{Entry}
use Rattle.table_form.specs.Running.Courses.{CourseView}
use Rattle.step_machine.specs.declared.trace.Made.{Made}
use Rattle.step_machine.specs.declared.trace.Made.TheVariants.{Entered, Ran}
use Rattle.stint_text.specs.StintLine.{stint_line}

-- the line of an entry of core c: its round, and the count of events that the round's plan includes
unfoldable pub entry_line : ℕ → Entry → List ℕ
entry_line c e =
    codes "core "
    ++ (decimal c
    ++ (codes " round "
    ++ (decimal e.round ++ (codes " count " ++ (decimal e.used ++ codes "\n")))))

-- the line of what a step made
abbrev pub made_line : List (List ℕ) → CourseView → Made → List ℕ
made_line names course (Entered c e) = entry_line c e
made_line names course (Ran c s) = stint_line names course c s

-- the last line, of the count of posted events
unfoldable pub posted_line : ℕ → List ℕ
posted_line posted = codes "posted " ++ (decimal posted ++ codes "\n")

-- a line for each entry and stint that the steps made, and how many events they posted
abbrev pub replay_text : List (List ℕ) → CourseView → List Made → ℕ → List ℕ
replay_text names course made posted = flat_map (made_line names course) made ++ posted_line posted
