-- A view of a whole board, read as a state of a run.
-- Source: the rules of this project.
use Rattle.std.specs.Prelude.{ℕ, ◌+◌, Bool, nat_lt, if◌then◌else◌, List, [], ◌∷◌, Option, Some, None, map, drop, length}
use Rattle.std.specs.List.{list_all, range_with_len}
use Rattle.table_form.specs.Running.Courses.{CourseView}
use Rattle.table_form.specs.Running.State.{State, CoreState}
use Rattle.round_words.specs.declared.view.Part.{Part}
use Rattle.round_words.specs.declared.view.View.{View}
use Rattle.round_words.specs.Views.{controller, part, last_of}
use Rattle.dispatch_core.specs.Parts.{used_counts}

-- the count has each event whose tick and the lag come to x at most: for all events after the first `count` they
-- come to more
abbrev pub has_up_to : CourseView → ℕ → ℕ → Bool
has_up_to course count x = list_all (λ tick. nat_lt x (tick + course.lag)) (drop count course.ticks)

-- what a core has seen since its last stint: its last sight, if that has each event that is due at its
-- clock. A sight without one is no step of the run, and the core has to look again
abbrev pub seen_by : CourseView → ℕ → List ℕ → Option ℕ
seen_by course clock [] = None
seen_by course clock (n ∷ ns) =
    if has_up_to course (last_of (n ∷ ns)) clock then Some (last_of (n ∷ ns)) else None

-- a core as its part tells of it
abbrev pub core_state : CourseView → Part → CoreState
core_state course p = record {
  clock = p.clock;
  seen = seen_by course p.clock p.sights;
  entries = p.entries;
  stints = p.stints;
}

-- the first list, and beyond its end what the second has there
abbrev pub extended_by : List ℕ → List ℕ → List ℕ
extended_by [] ns = ns
extended_by (m ∷ ms) [] = m ∷ ms
extended_by (m ∷ ms) (n ∷ ns) = m ∷ extended_by ms ns

-- the count of each round that some core has entered: the used count of the first such core's entry
abbrev pub decided_by : List Part → List ℕ
decided_by [] = []
decided_by (p ∷ ps) = extended_by (used_counts p.entries) (decided_by ps)

-- the parts of the cores, by number
abbrev pub core_parts : View → List Part
core_parts v = map (part v) (range_with_len 0 v.cores)

-- the state of which the view tells: each core as its part tells of it, the rounds that they entered,
-- and as many events posted as the controller posted floors
abbrev pub state_of : CourseView → View → State
state_of course v = record {
  posted = length (part v controller).floors;
  decided = decided_by (core_parts v);
  cores = map (core_state course) (core_parts v);
}
