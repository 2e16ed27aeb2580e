-- The line of a stint. The form is this project's own.
use Rattle.std.specs.Prelude.{ℕ, ◌%◌, ◌∷◌, [], Bool, List, codes, decimal, Option, Some, None, if◌then◌else◌}
use Rattle.tab_core.specs.declared.TheConstants.{ROUND}
use Rattle.tab_core.specs.declared.stint.Stint.{Stint}
use Rattle.tab_words.specs.Texts.{line_of}
use Rattle.table_form.specs.Running.Choice.{runs_other}
use Rattle.table_form.specs.Running.Courses.{CourseView, plan_after}
use Rattle.table_form.specs.Tables.Serves.{owner_at}
use Rattle.vcpu_names.specs.Names.{owner_word}

-- whether the vCPU ran in its own slot or in unused time
abbrev pub how_word : Bool → Option ℕ → List ℕ
how_word shared None = codes "idle"
how_word shared (Some v) = if shared then codes "shared" else codes "slot"

-- the owner of the stint's first tick, in the plan that it used
abbrev pub first_owner : CourseView → ℕ → Stint → Option ℕ
first_owner course c s = owner_at (plan_after course s.used).rows c (s.from % ROUND)

-- the line of a stint of core c whose first tick has this owner: its ticks, its two counts of events,
-- the name of the vCPU that it records as run, and whether that is the owner
unfoldable pub owned_line : List (List ℕ) → ℕ → Option ℕ → Stint → List ℕ
owned_line names c owner s = line_of
    (codes "core" ∷ decimal c ∷ decimal s.from ∷ decimal s.end
    ∷ codes "used" ∷ decimal s.used ∷ codes "seen" ∷ decimal s.seen
    ∷ owner_word names s.ran ∷ how_word (runs_other owner s.ran) s.ran ∷ [])

-- the line of a stint of core c
abbrev pub stint_line : List (List ℕ) → CourseView → ℕ → Stint → List ℕ
stint_line names course c s = owned_line names c (first_owner course c s) s
