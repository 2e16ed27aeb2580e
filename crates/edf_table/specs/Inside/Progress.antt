-- What the simulation keeps from tick to tick, and the search for the overload from begin to begin.
use Rattle.std.specs.List.{sum_by}
use Rattle.std.specs.Prelude.{◌==◌, if◌then◌else◌, ◌≡◌, ℕ, ◌+◌, ◌-◌, ◌*◌, ◌/◌, ◌<◌, ◌≤◌, ◌&&◌, ◌⊎◌, Bool, true, nat_le, nat_lt, min, List, [], ◌∷◌, length, slice_index, slice_index_or, Option}
use Rattle.tab_core.specs.declared.TheConstants.{MAX_VCPUS, ROUND}
use Rattle.tab_core.specs.declared.piece.Piece.{Piece}
use Rattle.table_form.specs.Planning.Jobs.{Job, job_of, subtask_of, jobs_of}
use Rattle.table_form.specs.Planning.Demand.{IsOverloaded}
use Rattle.table_form.specs.Planning.EdfRow.{cells_of, edf_cells, first_pending, owner_of}
use Rattle.edf_table.specs.declared.pending.Pending.{Pending}

-- the job is one of the list
abbrev pub Among : List Job → Job → Type 0
Among [] j = ⊥
Among (i ∷ js) j = (i ≡ j) ⊎ Among js j

-- whom the tick goes to, earliest deadline first
abbrev pub cell : List Job → ℕ → Option Job
cell js tick = first_pending (edf_cells js tick) tick js

-- the ticks that a job has had before this one
abbrev pub had : List Job → Job → ℕ → ℕ
had js j tick = cells_of j (edf_cells js tick)

-- the number of the piece's window that began last
abbrev pub window_no : Piece → ℕ → ℕ
window_no p tick = (tick - p.from) / p.period

-- a window has begun, and the ticks that the piece was given do not cover it
abbrev pub is_ready : Piece → ℕ → ℕ → Bool
is_ready p given tick = nat_le p.from tick && nat_lt given ((window_no p tick + 1) * p.cost)

-- the end of the piece's window that began last
abbrev pub due_at : Piece → ℕ → ℕ
due_at p tick = window_no p tick * p.period + p.to

-- the counts say what each job of each piece has had: a piece's jobs are served in order
pub record AreJobsCounted (ps : List Piece) (given : List ℕ) (tick : ℕ) : Type 0 where
  pub enough : length ps ≤ length given
  pub small : (i : ℕ) → slice_index given i ≤ tick
  pub each : (i : ℕ) (d : Piece) → i < length ps → (k : ℕ) →
      had (jobs_of ps) (job_of (subtask_of (slice_index_or ps i d)) k) tick
      ≡ min (slice_index_or ps i d).cost (slice_index given i - k * (slice_index_or ps i d).cost)

-- each job that is due before the tick has had its cost in time
abbrev pub MetBefore : List Job → ℕ → Type 0
MetBefore js tick = (j : Job) → Among js j → j.deadline < tick → j.cost ≤ had js j j.deadline

-- at the tick, a is due before b, or with it and of a vCPU no higher
abbrev pub IsDueFirst : ℕ → Piece → Piece → Type 0
IsDueFirst tick a b = (due_at a tick < due_at b tick) ⊎ ((due_at a tick ≡ due_at b tick) × (a.vcpu ≤ b.vcpu))

-- piece i is ready, and no ready piece of the first n is due before it
pub record IsMostUrgent (ps : List Piece) (given : List ℕ) (tick n i : ℕ) : Type 0 where
  pub in_range : i < length ps
  pub ready : (d : Piece) → is_ready (slice_index_or ps i d) (slice_index given i) tick ≡ true
  pub first : (k : ℕ) (d : Piece) → k < n
      → is_ready (slice_index_or ps k d) (slice_index given k) tick ≡ true →
      IsDueFirst tick (slice_index_or ps i d) (slice_index_or ps k d)

-- the piece's window that ends at the tick, if one does, was given its cost
abbrev pub IsServedAt : Piece → ℕ → ℕ → Type 0
IsServedAt p given tick = (k : ℕ) → k * p.period + p.to ≡ tick → (k + 1) * p.cost ≤ given

-- a window of the piece ends at the tick and was not given its cost
abbrev pub IsMissedAt : Piece → ℕ → ℕ → Type 0
IsMissedAt p given tick = (k : ℕ) × (k * p.period + p.to ≡ tick) × (given < (k + 1) * p.cost)

-- of the first n pieces, none has a window that ends at the tick without its cost
abbrev pub ServedBelow : List Piece → List ℕ → ℕ → ℕ → Type 0
ServedBelow ps given tick n = (i : ℕ) (d : Piece) → i < n
    → IsServedAt (slice_index_or ps i d) (slice_index given i) tick

-- some piece has a window that ends at the tick without its cost
pub record SomeMissed (ps : List Piece) (given : List ℕ) (tick : ℕ) : Type 0 where
  pub at : ℕ
  pub in_range : at < length ps
  pub missed : (d : Piece) → IsMissedAt (slice_index_or ps at d) (slice_index given at) tick

-- no window of the piece begins at a tick above `tick` and below `until`
abbrev pub IsCalm : Piece → ℕ → ℕ → Type 0
IsCalm p tick until = (k : ℕ) → tick < k * p.period + p.from → until ≤ k * p.period + p.from

-- no window of the first n pieces begins at a tick above `tick` and below `until`
abbrev pub AreCalm : List Piece → ℕ → ℕ → ℕ → Type 0
AreCalm ps n tick until = (i : ℕ) (d : Piece) → i < n → IsCalm (slice_index_or ps i d) tick until

-- where the next window of the piece begins at `next`: the end of the one before it
unfoldable pub due_of : Piece → ℕ → ℕ
due_of p next = next - p.period - p.from + p.to

-- what all windows of the piece before the one that begins at `next` cost
unfoldable pub goal_of : Piece → ℕ → ℕ
goal_of p next = (next - p.from) / p.period * p.cost

-- what is kept of a piece once its windows that begin below `bound` have begun, and no further one
-- begins below `event`: the tick at which its next one begins
pub record IsPieceKept (p : Piece) (bound event next : ℕ) : Type 0 where
  pub count : ℕ
  pub next_is : next ≡ count * p.period + p.from
  pub goal_is : goal_of p next ≡ count * p.cost
  pub due_is : 0 < count → due_of p next + p.period ≡ count * p.period + p.to
  pub begun : next < bound + p.period
  pub ahead : event ≤ next

-- what is kept of one piece is kept of each of the first n pieces
abbrev pub ArePiecesKept : List Piece → List ℕ → ℕ → ℕ → ℕ → Type 0
ArePiecesKept ps ns n bound event = (i : ℕ) (d : Piece) → i < n
    → IsPieceKept (slice_index_or ps i d) bound event (slice_index ns i)

-- the key of the piece's window that began last: by its end, and at ties by the vCPU
abbrev pub urgency_key : Piece → ℕ → ℕ
urgency_key p next = due_of p next * MAX_VCPUS + p.vcpu

-- the job at a place of the list
abbrev pub job_at : List Pending → ℕ → Pending
job_at jobs j = slice_index_or jobs j (record { key = 0; left = 0 })

-- the job is what the window of piece i that began last still has to get
pub record IsJobOf (ps : List Piece) (given ns : List ℕ) (job : Pending) (i : ℕ) : Type 0 where
  pub in_range : i < length ps
  pub some : 0 < job.left
  pub left_is : (d : Piece)
      → slice_index given i + job.left ≡ goal_of (slice_index_or ps i d) (slice_index ns i)
  pub key_is : (d : Piece) → job.key ≡ urgency_key (slice_index_or ps i d) (slice_index ns i)

-- the first `count` jobs are those of the pieces that still have to get ticks, and the most urgent
-- is the last
pub record ArePending (ps : List Piece) (given ns : List ℕ) (jobs : List Pending) (count : ℕ) : Type 0 where
  pub room : count ≤ length jobs
  pub falling : (j k : ℕ) → j < k → k < count → (job_at jobs k).key < (job_at jobs j).key
  pub each : (j : ℕ) → j < count → (i : ℕ) × IsJobOf ps given ns (job_at jobs j) i
  pub all : (i : ℕ) (d : Piece) → i < length ps
      → slice_index given i < goal_of (slice_index_or ps i d) (slice_index ns i)
      → (j : ℕ) × (j < count) × ((job_at jobs j).key ≡ urgency_key (slice_index_or ps i d) (slice_index ns i))
  pub within : (i : ℕ) (d : Piece) → i < length ps
      → slice_index given i ≤ goal_of (slice_index_or ps i d) (slice_index ns i)

-- of the first `count` jobs, those at and after a place have moved up for one that is more urgent
pub record IsJobInserted (old new : List Pending) (count : ℕ) (job : Pending) : Type 0 where
  pub at : ℕ
  pub within : at ≤ count
  pub here : job_at new at ≡ job
  pub before : (j : ℕ) → j < at → job_at new j ≡ job_at old j
  pub behind : (j : ℕ) → at ≤ j → j < count → job_at new (j + 1) ≡ job_at old j
  pub above : 0 < at → job.key ≤ (job_at old (at - 1)).key
  pub below : (j : ℕ) → at ≤ j → j < count → (job_at old j).key < job.key

-- none of the first `count` jobs is due before the tick
abbrev pub AreTimely : List Pending → ℕ → ℕ → Type 0
AreTimely jobs count tick = (j : ℕ) → j < count → tick * MAX_VCPUS ≤ (job_at jobs j).key

-- the simulation at a tick: the windows that begin below `begun` have begun, no further one begins
-- below `event`, and those that end below `served` have had their cost
pub record IsUnderWay (ps : List Piece) (ns : List ℕ) (jobs : List Pending)
    (count tick begun served event : ℕ)
    : Type 0 where
  pub given : List ℕ
  pub kept : ArePiecesKept ps ns (length ps) begun event
  pub pending : ArePending ps given ns jobs count
  pub timely : AreTimely jobs count served
  pub counted : AreJobsCounted ps given tick
  pub met : MetBefore (jobs_of ps) served

-- of the first n pieces none has a window that begins at a tick above `from` and below `tick`
abbrev pub NoWindowBegins : List Piece → ℕ → ℕ → ℕ → Type 0
NoWindowBegins ps n from tick = (i : ℕ) (d : Piece) → i < n →
    (k : ℕ) → from < k * (slice_index_or ps i d).period + (slice_index_or ps i d).from
    → tick ≤ k * (slice_index_or ps i d).period + (slice_index_or ps i d).from

-- some piece has a window that begins at the tick
pub record SomeBegin (ps : List Piece) (tick : ℕ) : Type 0 where
  pub at : ℕ
  pub in_range : at < length ps
  pub begins : (d : Piece) → (k : ℕ)
      × (tick ≡ k * (slice_index_or ps at d).period + (slice_index_or ps at d).from)

-- each tick from the first up to the second goes to the owner, or to nobody
abbrev pub GoesTo : List Job → ℕ → ℕ → Option ℕ → Type 0
GoesTo js tick end owner = (x : ℕ) → tick ≤ x → x < end → owner_of (cell js x) ≡ owner

-- the demand of the windows that begin at `start` and end by `end`
unfoldable pub demand_from : List Job → ℕ → ℕ → ℕ
demand_from jobs start end = sum_by (λ j. if (j.release == start) && nat_le j.deadline end
    then j.cost else 0) jobs

-- some interval that ends there is overloaded, and none that ends earlier
pub record IsFirstEnd (jobs : List Job) (end : ℕ) : Type 0 where
  pub within : end ≤ ROUND
  pub begin : ℕ
  pub overloaded : IsOverloaded jobs begin end
  pub least : (f t : ℕ) → IsOverloaded jobs f t → end ≤ t

-- the period of each of the first n pieces divides so many ticks
abbrev pub IsCommonMultiple : List Piece → ℕ → ℕ → Type 0
IsCommonMultiple ps n ticks = (i : ℕ) (d : Piece) → i < n
    → ticks / (slice_index_or ps i d).period * (slice_index_or ps i d).period ≡ ticks
