-- The plan text as lines of words. The form is this project's own: it is written with one space
-- between two words, and read with one or more.
use Rattle.std.specs.Prelude.{ℕ, ◌+◌, Bool, true, false, List, [], ◌∷◌, ◌++◌, codes, count_by, decimal, length, map, Option, Some, None}
use Rattle.tab_core.specs.declared.periodic.Periodic.{Periodic}
use Rattle.tab_words.specs.Texts.{Line}
use Rattle.vcpu_names.specs.Names.{owner_word}

-- the first line: how many cores and admitted vCPUs there are
abbrev pub head_words : ℕ → ℕ → Line
head_words cores admitted =
    codes "plan" ∷ codes "cores" ∷ decimal cores ∷ codes "vcpus" ∷ decimal admitted ∷ []

-- the line of an admitted vCPU
abbrev pub vcpu_words : List ℕ → Periodic → ℕ → Line
vcpu_words name task home =
    codes "vcpu" ∷ name ∷ codes "period" ∷ decimal task.period ∷ codes "cost" ∷ decimal task.cost
    ∷ codes "home" ∷ decimal home ∷ []

-- a vCPU without a task has no line
abbrev pub vcpu_part : List ℕ → Option Periodic → Option ℕ → List Line
vcpu_part name None home = []
vcpu_part name (Some task) None = []
vcpu_part name (Some task) (Some home) = vcpu_words name task home ∷ []

-- the lines of the vCPUs of these names, tasks and homes
abbrev pub vcpu_lines : List (List ℕ) → List (Option Periodic) → List (Option ℕ) → List Line
vcpu_lines [] tasks homes = []
vcpu_lines (name ∷ names) [] homes = []
vcpu_lines (name ∷ names) (task ∷ tasks) [] = []
vcpu_lines (name ∷ names) (task ∷ tasks) (home ∷ homes) =
    vcpu_part name task home ++ vcpu_lines names tasks homes

-- the line of the cells of one owner up to an end
abbrev pub owner_words : List (List ℕ) → Option ℕ → ℕ → Line
owner_words names owner end = decimal end ∷ owner_word names owner ∷ []

-- the line that begins a core
abbrev pub core_words : ℕ → Line
core_words core = codes "core" ∷ decimal core ∷ []

-- the lines of cores, the first of which has this number, with a line for each segment
abbrev pub core_lines : {S : Type 0} → (S → Line) → ℕ → List (List S) → List Line
core_lines line core [] = []
core_lines line core (row ∷ rows) = (core_words core ∷ map line row) ++ core_lines line (core + 1) rows

-- the last line of a plan text
abbrev pub end_words : Line
end_words = codes "end" ∷ []

-- the vCPU has a task
abbrev pub is_admitted : Option Periodic → Bool
is_admitted None = false
is_admitted (Some task) = true

-- the lines of the text for vCPUs of these names, tasks and homes, and for these rows of segments
abbrev pub plan_lines : {S : Type 0} → (S → Line) → List (List ℕ) → List (Option Periodic) → List (Option ℕ)
    → List (List S) → List Line
plan_lines line names tasks homes rows =
    head_words (length rows) (count_by is_admitted tasks) ∷
    (vcpu_lines names tasks homes ++ (core_lines line 0 rows ++ end_words ∷ []))
