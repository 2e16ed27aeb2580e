-- The colours of the vCPUs: the number, where there are twelve or fewer; else in rising number the least that
-- no lower vCPU on a shared core has, or one of 24 with stripes, by number, where all are taken. A tone is a colour, with a dark
-- foot where a vCPU of a plan has slots on several cores: such tones are numbered from 12.
use Rattle.std.specs.Prelude.{ℕ, zero, suc, ◌+◌, ◌*◌, ◌%◌, ◌==◌, ◌&&◌, ◌||◌, nat_le, nat_lt, Bool, true, false, List, [], ◌∷◌, ◌++◌, decimal, if◌then◌else◌, length, slice_get, slice_index, slice_index_or, Option, Some, None}
use Rattle.std.specs.List.{list_any}
use Rattle.tab_core.specs.declared.TheConstants.{MAX_CORES}
use Rattle.view_doc.specs.declared.view.Stretch.{Stretch}
use Rattle.view_doc.specs.declared.view.Task.{Task}
use Rattle.view_doc.specs.declared.view.View.{View}
use Rattle.view_doc.specs.Views.{shown_in}
use Rattle.view_table.specs.declared.figures.Figures.{Figures}
use Rattle.view_lanes.specs.Shown.{has_it}

-- one of the numbers below n passes the test
abbrev pub some_below : (ℕ → Bool) → ℕ → Bool
some_below test zero = false
some_below test (suc n) = some_below test n || test n

-- the vCPU's home is the core
abbrev pub is_home : Option Task → ℕ → Bool
is_home None core = false
is_home (Some task) core = task.home == core

-- the vCPU has a stretch on the core
abbrev pub runs_on : List Stretch → ℕ → ℕ → Bool
runs_on stretches core v = list_any (λ s. (s.core == core) && has_it s.by v) stretches

-- the vCPU is on the core: it has a stretch there, or its home
abbrev pub belongs_to_core : List Stretch → List Task → ℕ → ℕ → Bool
belongs_to_core stretches tasks core v = runs_on stretches core v || is_home (slice_get tasks v) core

-- one of the cores below a number has both vCPUs
abbrev pub meets_below : (ℕ → ℕ → Bool) → ℕ → ℕ → ℕ → Bool
meets_below on u v cores = some_below (λ core. on core u && on core v) cores

-- some core has both vCPUs
abbrev pub meets : (ℕ → ℕ → Bool) → ℕ → ℕ → Bool
meets on u v = meets_below on u v MAX_CORES

-- one that a vCPU meets has the colour, of those below a number
abbrev pub taken_below : (ℕ → ℕ → Bool) → List ℕ → ℕ → ℕ → ℕ → Bool
taken_below on colours v k n = some_below (λ u. (slice_index colours u == k) && meets on u v) n

-- a lower vCPU that this one meets has the colour
abbrev pub is_colour_taken : (ℕ → ℕ → Bool) → List ℕ → ℕ → ℕ → Bool
is_colour_taken on colours v k = taken_below on colours v k v

-- the first of so many colours from one on that isn't taken, or another
abbrev pub first_free : (ℕ → Bool) → ℕ → ℕ → ℕ → ℕ
first_free taken other k zero = other
first_free taken other k (suc n) = if taken k then first_free taken other (suc k) n else k

-- the colour of a vCPU, after those of the lower ones
abbrev pub next_colour : (ℕ → ℕ → Bool) → ℕ → List ℕ → ℕ → ℕ
next_colour on vcpus colours v =
    if nat_le vcpus 12 then v else first_free (is_colour_taken on colours v) (24 + v % 24) 0 12

-- the colours of those below a number, of so many
abbrev pub colours_below : (ℕ → ℕ → Bool) → ℕ → ℕ → List ℕ
colours_below on vcpus zero = []
colours_below on vcpus (suc v) =
    colours_below on vcpus v ++ next_colour on vcpus (colours_below on vcpus v) v ∷ []

-- the colours of all vCPUs, by number
abbrev pub colours_of : List Stretch → List Task → ℕ → List ℕ
colours_of stretches tasks vcpus = colours_below (belongs_to_core stretches tasks) vcpus vcpus

-- how many of the vCPUs below a number one meets
abbrev pub met_below : (ℕ → ℕ → Bool) → ℕ → ℕ → ℕ
met_below on v zero = 0
met_below on v (suc u) = met_below on v u + (if meets on u v then 1 else 0)

-- ---- tones

-- one of the cores below a number passes the test, and a lower one passes it too
abbrev pub twice_below : (ℕ → Bool) → ℕ → Bool
twice_below test zero = false
twice_below test (suc n) = twice_below test n || (test n && some_below test n)

-- the vCPU has a slot on the core
abbrev pub stands_at : Figures → ℕ → ℕ → Bool
stands_at figures v core = slice_index_or figures.stands.items (v * MAX_CORES + core) false

-- the vCPU has slots on several cores of the plan
abbrev pub is_split : Figures → ℕ → Bool
is_split figures v = twice_below (stands_at figures v) MAX_CORES

-- a colour, with a dark foot or without
abbrev pub tone : Bool → ℕ → ℕ
tone false colour = colour
tone true colour = 12 + colour % 12

-- the tones of those below a number, which have these colours
abbrev pub tones_below : (ℕ → Bool) → List ℕ → ℕ → List ℕ
tones_below split colours zero = []
tones_below split colours (suc v) =
    tones_below split colours v ++ tone (split v) (slice_index colours v) ∷ []

-- the vCPU's tone has a dark foot: in a plan, not in a run
abbrev pub has_foot : Bool → Figures → ℕ → Bool
has_foot false figures v = is_split figures v
has_foot true figures v = false

-- the tones of so many vCPUs that have these colours
abbrev pub tones_of : Bool → Figures → List ℕ → ℕ → List ℕ
tones_of is_run figures colours vcpus = tones_below (has_foot is_run figures) colours vcpus

-- the tone of a core: a colour, and stripes from the thirteenth on
abbrev pub core_tone : ℕ → ℕ
core_tone core = if nat_lt core 12 then core else core + 12

-- the tones of so many cores, by number
abbrev pub core_tones : ℕ → List ℕ
core_tones zero = []
core_tones (suc core) = core_tones core ++ core_tone core ∷ []

-- the numbers of so many cores, as they are written
abbrev pub core_names : ℕ → List (List ℕ)
core_names zero = []
core_names (suc core) = core_names core ++ decimal core ∷ []

-- the tones of the vCPUs
abbrev pub vcpu_tones : View → Figures → List ℕ
vcpu_tones view figures = tones_of view.is_run figures
    (colours_of (shown_in view) view.tasks.items (length view.names.items)) (length view.names.items)
