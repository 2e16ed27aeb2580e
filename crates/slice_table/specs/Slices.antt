-- What a slice table shows: the spans of a core's row, one after another, over the whole round, and the slices by
-- which they are found.
-- Source: slices of the length of the shortest slot, so that each meets at most two, are as in
-- M. Vanga, A. Gujarati, B. B. Brandenburg, "Tableau: a high-throughput and predictable VM scheduler
-- for high-density workloads", EuroSys 2018; spans in place of slots are a rule of this project.
use Rattle.std.specs.Prelude.{◌≡◌, ◌↔◌, ◌⊎◌, ℕ, ◌+◌, ◌*◌, ◌/◌, ◌<◌, ◌≤◌, IsTrue, List, [], ◌∷◌, length, map, slice_index}
use Rattle.tab_core.specs.declared.TheConstants.{MAX_VCPUS, ROUND}
use Rattle.tab_core.specs.VcpuSets.{has_vcpu}
use Rattle.table_form.specs.Tables.Plans.{PlanView}
use Rattle.table_form.specs.Tables.Serves.{owner_at}
use Rattle.table_form.specs.Tables.Spans.{IsSharer}
use Rattle.table_form.specs.Tables.Spots.{IsAway, IsSpanEnd}
use Rattle.slice_table.specs.declared.full_span.FullSpan.{FullSpan}

-- the span has what the place of the core's row shows: the owner, the vCPUs away, and the sharers
pub record IsShown (plan : PlanView) (c place : ℕ) (span : FullSpan) : Type 0 where
  pub owner : span.owner ≡ owner_at plan.rows c place
  pub away : (v : ℕ) → v < MAX_VCPUS → (IsTrue (has_vcpu span.away v) ↔ IsAway plan c place v)
  pub sharers : (v : ℕ) → v < MAX_VCPUS → (IsTrue (has_vcpu span.sharers v) ↔ IsSharer plan c place v)

-- the spans are those of the core's row from the one place to the other
abbrev pub AreSpansOf : PlanView → ℕ → ℕ → List FullSpan → ℕ → Type 0
AreSpansOf plan c from [] to = from ≡ to
AreSpansOf plan c from (span ∷ spans) to =
    IsShown plan c from span × IsSpanEnd plan c from span.end × AreSpansOf plan c span.end spans to

-- the table's spans are those of the core's row over the whole round
pub record IsTableOf (plan : PlanView) (c : ℕ) (table : List FullSpan) : Type 0 where
  pub spans : AreSpansOf plan c 0 table ROUND

-- the ticks of the round at which the spans end
abbrev pub ends_of : List FullSpan → List ℕ
ends_of spans = map (λ (span : FullSpan). span.end) spans

-- the tick at which the span of the number begins: the end of the one before, or 0
abbrev pub begin_at : List ℕ → ℕ → ℕ
begin_at ends number = slice_index (0 ∷ ends) number

-- the span of the number holds the tick
pub record HoldsTick (ends : List ℕ) (number tick : ℕ) : Type 0 where
  pub there : number < length ends
  pub from : begin_at ends number ≤ tick
  pub before : tick < slice_index ends number

-- the shortest of the spans, idle ones too, has so many ticks: none has fewer, and one has as many
pub record IsShortest (ticks : ℕ) (ends : List ℕ) : Type 0 where
  pub least : (k : ℕ) → k < length ends → begin_at ends k + ticks ≤ slice_index ends k
  pub number : ℕ
  pub there : number < length ends
  pub met : begin_at ends number + ticks ≡ slice_index ends number

-- slices of so many ticks, as many as the round needs, each with the number of the first span that it meets
pub record AreSlices (ticks : ℕ) (slices ends : List ℕ) : Type 0 where
  pub whole : ROUND ≤ length slices * ticks
  pub first : (k : ℕ) → k < length slices → HoldsTick ends (slice_index slices k) (k * ticks)

-- the tick's slice meets at most two spans: the tick is in the first of them, or in the next
abbrev pub MeetsTwo : ℕ → List ℕ → List ℕ → ℕ → Type 0
MeetsTwo ticks slices ends tick =
    let number = slice_index slices (tick / ticks) in HoldsTick ends number tick ⊎ HoldsTick ends (number + 1) tick
