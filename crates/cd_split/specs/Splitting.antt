-- Splitting one vCPU over the cores.
-- Source: the C=D scheme of A. Burns, R. I. Davis, P. Wang, F. Zhang, "Partitioned EDF scheduling
-- for multiprocessors using a C=D task splitting scheme", Real-Time Systems 48, 2012. The order of
-- the cores and the least piece that is cut off are this project's own.
use Rattle.std.specs.Prelude.{◌≡◌, ◌≢◌, ◌⊎◌, ℕ, ◌+◌, ◌-◌, ◌<◌, ◌≤◌, ◌==◌, not, List, [], ◌∷◌, ◌++◌, Option, Some, None, Contains, filter, length, map}
use Rattle.std.specs.List.{AllZip, range_with_len}
use Rattle.tab_core.specs.declared.over.Over.{Over}
use Rattle.tab_core.specs.declared.periodic.Periodic.{Periodic}
use Rattle.tab_core.specs.declared.piece.Piece.{Piece}
use Rattle.table_form.specs.Planning.Jobs.{Subtask, jobs_of, jobs_of_subtask, subtask_of}
use Rattle.edf_table.specs.Beside.{FitsBeside, remainder, tight}
use Rattle.edf_table.specs.Overloads.{IsReportedOverload}
use Rattle.edf_table.specs.Load.{load_of_pieces}
use Rattle.cd_split.specs.Cores.{pieces_on}

-- the subtask fits beside these pieces of a core
abbrev pub FitsWith : List Piece → Subtask → Type 0
FitsWith pieces s = FitsBeside (jobs_of pieces) s

-- the core of a piece, and the subtask that it stands for
abbrev pub subtask_on_core : Piece → ℕ × Subtask
subtask_on_core p = (p.core, subtask_of p)

-- what is left of a vCPU: `rest` ticks of each period, in windows from `from` on
pub record Left : Type 0 where
  pub vcpu : ℕ
  pub period : ℕ
  pub from : ℕ
  pub rest : ℕ

-- what is left of a vCPU before it is split: all of its cost
abbrev pub all_of : ℕ → Periodic → Left
all_of vcpu task = record { vcpu = vcpu; period = task.period; from = 0; rest = task.cost }

-- what is left of a vCPU after a cut of so many ticks
abbrev pub left_after_cut : Left → ℕ → Left
left_after_cut left cost = record left { from = left.from + cost; rest = left.rest - cost }

-- all that is left of a vCPU, as one subtask
abbrev pub rest_of : Left → Subtask
rest_of left = remainder left.vcpu left.rest left.from left.period

-- a cut of so many ticks of what is left, which has no slack
abbrev pub cut_of : Left → ℕ → Subtask
cut_of left cost = tight left.vcpu cost left.from left.period

-- core c comes before core d: its load is lower, or the same and its number lower
abbrev pub ComesFirst : List (List Piece) → ℕ → ℕ → Type 0
ComesFirst cores c d =
    (load_of_pieces (pieces_on cores c) < load_of_pieces (pieces_on cores d))
    ⊎ ((load_of_pieces (pieces_on cores c) ≡ load_of_pieces (pieces_on cores d)) × (c < d))

-- the core is the first of the unused cores that do this
pub record IsFirstCore (cores : List (List Piece)) (unused : List ℕ) (Does : ℕ → Type 0)
    (core : ℕ) : Type 0 where
  pub unused_core : Contains unused core
  pub does : Does core
  pub first : (other : ℕ) → Contains unused other → Does other → other ≢ core → ComesFirst cores core other

-- no unused core does this
abbrev pub NoneDoes : List ℕ → (ℕ → Type 0) → Type 0
NoneDoes unused Does = (core : ℕ) → Contains unused core → Does core → ⊥

-- the core takes the rest
abbrev pub TakesRest : List (List Piece) → Left → ℕ → Type 0
TakesRest cores left core = FitsWith (pieces_on cores core) (rest_of left)

-- the greatest cut smaller than the rest that fits on the core
pub record IsGreatestCut (cores : List (List Piece)) (left : Left) (core cost : ℕ) : Type 0 where
  pub part : cost < left.rest
  pub fits : FitsWith (pieces_on cores core) (cut_of left cost)
  pub greatest : (more : ℕ) → more < left.rest → FitsWith (pieces_on cores core) (cut_of left more)
      → more ≤ cost

-- the core takes a cut: its greatest is large enough
abbrev pub TakesCut : List (List Piece) → Left → ℕ → Type 0
TakesCut cores left core = (cost : ℕ) × (10 ≤ cost) × IsGreatestCut cores left core cost

-- the reported overloaded interval of the core's pieces with the subtask
abbrev pub IsOverloadWith : List (List Piece) → Subtask → ℕ → Over → Type 0
IsOverloadWith cores s core over = IsReportedOverload core (jobs_of (pieces_on cores core) ++ jobs_of_subtask s) over

-- the unused cores but this one
abbrev pub unused_without : ℕ → List ℕ → List ℕ
unused_without core unused = filter (λ other. not (other == core)) unused

-- by the rules what is left is split into these subtasks, each on its core. `None`: the last of them is
-- at its home. `Some`: so many ticks more have no room, and would make these overloaded intervals on the
-- unused cores, one on each in their order
pub data Splits (cores : List (List Piece)) : Left → List ℕ → List (ℕ × Subtask) → Option (ℕ × List Over) → Type 0 where
  -- rule 1: the home is the first core that takes the rest
  AtHome : (left : Left) (unused : List ℕ) (core : ℕ) → IsFirstCore cores unused (TakesRest cores left) core
      → Splits cores left unused ((core, rest_of left) ∷ []) None
  -- rule 2: no core takes the rest, two or more are unused, the first that takes a cut gets its
  -- greatest, and what is left goes on
  Cut : (left : Left) (unused : List ℕ) (core cost : ℕ) (subtasks : List (ℕ × Subtask))
      (refused : Option (ℕ × List Over)) → NoneDoes unused (TakesRest cores left) → 2 ≤ length unused
      → IsFirstCore cores unused (TakesCut cores left) core → IsGreatestCut cores left core cost
      → Splits cores (left_after_cut left cost) (unused_without core unused) subtasks refused
      → Splits cores left unused ((core, cut_of left cost) ∷ subtasks) refused
  -- neither rule finds a core
  NoRoom : (left : Left) (unused : List ℕ) (over : List Over) → NoneDoes unused (TakesRest cores left)
      → (length unused < 2) ⊎ NoneDoes unused (TakesCut cores left)
      → AllZip (IsOverloadWith cores (rest_of left)) unused over
      → Splits cores left unused [] (Some (left.rest, over))

-- the cores' numbers, rising
abbrev pub core_numbers : List (List Piece) → List ℕ
core_numbers cores = range_with_len 0 (length cores)

-- the whole vCPU is split into these pieces over all cores
abbrev pub IsSplit : List (List Piece) → ℕ → Periodic → List Piece → Type 0
IsSplit cores vcpu task pieces = Splits cores (all_of vcpu task) (core_numbers cores) (map subtask_on_core pieces) None

-- by the rules splitting the vCPU over all cores ends without room for its last `rest` ticks
abbrev pub IsSplitRefused : List (List Piece) → ℕ → Periodic → ℕ → List Over → Type 0
IsSplitRefused cores vcpu task rest over = (cuts : List (ℕ × Subtask))
    × Splits cores (all_of vcpu task) (core_numbers cores) cuts (Some (rest, over))
