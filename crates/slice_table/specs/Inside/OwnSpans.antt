-- The spans of a core's row where nobody is ever away: each is a segment of the row.
use Rattle.std.specs.Prelude.{◌≡◌, ◌≢◌, ◌⊎◌, ◌↔◌, ℕ, ◌<◌, if◌then◌else◌, nat_lt, Bool, false, IsTrue, List, Option, None, Some, length, slice_get, slice_index}
use Rattle.tab_core.specs.VcpuSets.{has_vcpu}
use Rattle.tab_core.specs.declared.TheConstants.{MAX_VCPUS}
use Rattle.table_form.specs.declared.segment.Segment.{Segment}
use Rattle.slice_table.specs.declared.full_span.FullSpan.{FullSpan}
use Rattle.slice_table.specs.declared.own_spans.TheConstants.{NONE, PLACES}
use Rattle.slice_table.specs.declared.span_list.Shown.{Shown}
use Rattle.slice_table.specs.Inside.SpanLists.{shown_at}

-- what a span of the owner shows where nobody is away: of the core's sharers all but the owner may share
pub record IsOwn (core_sharers : List Bool) (owner : Option ℕ) (shown : Shown) : Type 0 where
  pub owner_is : shown.owner ≡ owner
  pub away : (v : ℕ) → has_vcpu shown.away v ≡ false
  pub sharers : (v : ℕ) → (IsTrue (has_vcpu shown.sharers v)
      ↔ (IsTrue (has_vcpu core_sharers v) × (owner ≢ Some v)))

-- the owner with this place in a list of numbers
abbrev pub owner_of : ℕ → Option ℕ
owner_of place = if nat_lt place MAX_VCPUS then Some place else None

-- at each owner's place is the number of what its spans show, or none yet
abbrev pub AreKnown : List Bool → List Shown → List ℕ → Type 0
AreKnown core_sharers shown numbers = (place : ℕ) → place < PLACES
    → (slice_index numbers place ≡ NONE)
    ⊎ ((slice_index numbers place < length shown)
    × IsOwn core_sharers (owner_of place) (shown_at shown (slice_index numbers place)))

-- the span is the segment's
pub record IsOwnSpan (core_sharers : List Bool) (segment : Segment) (span : FullSpan) : Type 0 where
  pub shown : IsOwn core_sharers segment.owner
      (record { owner = span.owner; away = span.away; sharers = span.sharers })
  pub end : span.end ≡ segment.end

-- the spans are those of the first n segments
pub record AreOwnSpans (core_sharers : List Bool) (segments : List Segment) (n : ℕ) (spans : List FullSpan) : Type 0 where
  pub count : length spans ≡ n
  pub each : (k : ℕ) (segment : Segment) (span : FullSpan) → slice_get segments k ≡ Some segment
      → slice_get spans k ≡ Some span → IsOwnSpan core_sharers segment span
