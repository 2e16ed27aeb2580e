-- The text of a core's trace. The form is this project's own.
use Rattle.std.specs.Prelude.{ℕ, List, flat_map}
use Rattle.tab_core.specs.declared.stint.Stint.{Stint}
use Rattle.table_form.specs.Running.Courses.{CourseView}
use Rattle.stint_text.specs.StintLine.{stint_line}

-- a line for each stint of core c, in their order
abbrev pub trace_text : List (List ℕ) → CourseView → ℕ → List Stint → List ℕ
trace_text names course c stints = flat_map (stint_line names course c) stints
