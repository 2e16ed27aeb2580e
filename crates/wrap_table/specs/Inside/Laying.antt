-- How far an interval's ticks are laid along the cores, and the row of one core.
use Rattle.std.specs.Prelude.{◌≡◌, ℕ, zero, suc, ◌+◌, ◌*◌, ◌<◌, ◌≤◌, List, [], ◌∷◌, Some, length, slice_get, slice_index, slice_index_or}
use Rattle.tab_core.specs.declared.TheConstants.{MAX_VCPUS, ROUND}
use Rattle.table_form.specs.Tables.Rows.{Row}
use Rattle.flow_net.specs.Allotments.{AllotmentView}
use Rattle.flow_net.specs.Rows.{row_at}
use Rattle.tab_core.specs.Sums.{total}
use Rattle.wrap_table.specs.Wrapping.{length_at, owner_from}
use Rattle.wrap_table.specs.declared.laying.Laid.{Laid}

-- the position where a vCPU's ticks begin: after those of all before it
abbrev pub offset : List ℕ → ℕ → ℕ
offset ns v = total (λ j. slice_index ns j) v

-- the owners of so many positions, from one on
abbrev pub owners : List ℕ → ℕ → ℕ → Row
owners ns q zero = []
owners ns q (suc n) = owner_from 0 ns q ∷ owners ns (q + 1) n

-- the ticks are laid up to a position: those of the vCPUs before this one, and so many of it, or
-- those of all vCPUs
pub record IsLaidTo (ns : List ℕ) (q : ℕ) (at : Laid) : Type 0 where
  pub within : at.vcpu ≤ length ns
  pub here : at.vcpu < length ns → offset ns at.vcpu + at.ticks ≡ q
  pub some : at.vcpu < length ns → at.ticks ≤ slice_index ns at.vcpu
  pub behind : at.vcpu ≡ length ns → offset ns (length ns) ≤ q

-- how far an interval's ticks are laid
abbrev pub laid_at : List Laid → ℕ → Laid
laid_at at i = slice_index_or at i (record { vcpu = 0; ticks = 0 })

-- the intervals of an allotment: their marks rise from 0 to the round, and each has its ticks
pub record HasIntervals (a : AllotmentView) : Type 0 where
  pub marks : length a.marks ≡ length a.ticks + 1
  pub first : slice_index a.marks 0 ≡ 0
  pub last : slice_index a.marks (length a.ticks) ≡ ROUND
  pub rise : (i : ℕ) → i < length a.ticks → slice_index a.marks i < slice_index a.marks (i + 1)
  pub few : (i : ℕ) → i < length a.ticks → length (row_at a.ticks i) ≤ MAX_VCPUS

-- in each of the first intervals the row's cells are those of the core
abbrev pub HasCells : AllotmentView → ℕ → Row → ℕ → Type 0
HasCells a c row count = (i t : ℕ) → i < count → t < length_at a i
    → slice_get row (slice_index a.marks i + t)
    ≡ Some (owner_from 0 (row_at a.ticks i) (c * length_at a i + t))

-- the whole row is the core's
pub record IsRowOfCore (a : AllotmentView) (c : ℕ) (row : Row) : Type 0 where
  pub size : length row ≡ ROUND
  pub cells : HasCells a c row (length a.ticks)

-- in each interval the ticks are laid up to the core's first position
abbrev pub AreLaidTo : AllotmentView → ℕ → List Laid → Type 0
AreLaidTo a c at = (i : ℕ) → i < length a.ticks
    → IsLaidTo (row_at a.ticks i) (c * length_at a i) (laid_at at i)
