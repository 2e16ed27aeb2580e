-- Where and when vCPUs ran, as pieces in order.
use Rattle.std.specs.Prelude.{◌≡◌, ℕ, ◌+◌, ◌*◌, ◌-◌, ◌<◌, ◌≤◌, ◌==◌, ◌&&◌, Bool, List, [], ◌∷◌, Option, None, Some, count_by, flat_map, if◌then◌else◌, length, nat_le, nat_lt, slice_get}
use Rattle.std.specs.List.Sorted.{IsNonDecreasingBy}
use Rattle.tab_core.specs.declared.TheConstants.{ROUND}
use Rattle.tab_core.specs.declared.stint.Stint.{Stint}
use Rattle.table_form.specs.Promises.Capped.{runs_at, ticks_run}
use Rattle.table_form.specs.Running.State.{State, CoreState}
use Rattle.burst_bound.specs.declared.ran.RanPiece.{RanPiece}

-- a number by which ticks are in order, vCPU after vCPU
abbrev pub place_of : ℕ → ℕ → ℕ
place_of vcpu tick = vcpu * 4294967296 + tick

-- the piece is of the vCPU, and covers the tick
abbrev pub covers_for : ℕ → ℕ → RanPiece → Bool
covers_for v x p = nat_le p.from x && (nat_lt x p.end && (v == p.vcpu))

abbrev pub piece_with : Option ℕ → ℕ → ℕ → List RanPiece
piece_with None from end = []
piece_with (Some vcpu) from end = (record { vcpu = vcpu; from = from; end = end }) ∷ []

-- the piece of a stint, where it ran somebody
abbrev pub piece_of : Stint → List RanPiece
piece_of st = piece_with st.ran st.from st.end

-- the pieces of stints
abbrev pub pieces_of : List Stint → List RanPiece
pieces_of stints = flat_map piece_of stints

-- the pieces of all cores
abbrev pub ran_pieces : List CoreState → List RanPiece
ran_pieces cores = flat_map (λ (core : CoreState). pieces_of core.stints) cores

-- the pieces tell at which ticks of the run which vCPU ran: none is empty or beyond the run, and where a vCPU ran
-- there is one piece of it
pub record TellRuns (rounds : ℕ) (s : State) (pieces : List RanPiece) : Type 0 where
  pub some : (k : ℕ) (p : RanPiece) → slice_get pieces k ≡ Some p → p.from < p.end
  pub in_run : (k : ℕ) (p : RanPiece) → slice_get pieces k ≡ Some p → p.end ≤ rounds * ROUND
  pub count : (v x : ℕ) → count_by (covers_for v x) pieces ≡ (if runs_at s v x then 1 else 0)

-- they are in order, by their vCPU and then by their begin
abbrev pub AreInPlace : List RanPiece → Type 0
AreInPlace pieces = IsNonDecreasingBy (λ (p : RanPiece). place_of p.vcpu p.from) pieces

-- the pieces before this place begin before the vCPU's tick, and the others don't
pub record CountsBegunPieces (pieces : List RanPiece) (v t n : ℕ) : Type 0 where
  pub within : n ≤ length pieces
  pub before : (k : ℕ) (p : RanPiece) → k < n → slice_get pieces k ≡ Some p
      → place_of p.vcpu p.from < place_of v t
  pub behind : (k : ℕ) (p : RanPiece) → n ≤ k → slice_get pieces k ≡ Some p
      → place_of v t ≤ place_of p.vcpu p.from

-- at how many ticks the vCPU of each piece ran before it
abbrev pub AreRanBefore : State → List RanPiece → List ℕ → Type 0
AreRanBefore s pieces before = (k n : ℕ) (p : RanPiece) → slice_get pieces k ≡ Some p → slice_get before k ≡ Some n
    → n ≡ ticks_run s p.vcpu 0 p.from

-- what is kept of a run
pub record AreRuns (rounds : ℕ) (s : State) (pieces : List RanPiece) (before : List ℕ) : Type 0 where
  pub tell : TellRuns rounds s pieces
  pub order : AreInPlace pieces
  pub size : length before ≡ length pieces
  pub ran : AreRanBefore s pieces before

-- the tick is the least before which the vCPU ran at so many ticks; where there is none, it never ran at as many
pub record IsReachedAt (rounds : ℕ) (s : State) (vcpu ticks e : ℕ) : Type 0 where
  pub in_run : e ≤ rounds * ROUND
  pub enough : ticks_run s vcpu 0 e ≡ ticks
  pub least : (x : ℕ) → ticks ≤ ticks_run s vcpu 0 x → e ≤ x

abbrev pub IsReached : ℕ → State → ℕ → ℕ → Option ℕ → Type 0
IsReached rounds s vcpu ticks None = (x : ℕ) → ticks_run s vcpu 0 x < ticks
IsReached rounds s vcpu ticks (Some e) = IsReachedAt rounds s vcpu ticks e

-- at how many ticks the piece's vCPU ran up to its end
abbrev pub after_piece : ℕ → RanPiece → ℕ
after_piece before p = before + (p.end - p.from)

-- the pieces before this place come before the vCPU's so many ticks, and the others don't
pub record IsFirstWith (pieces : List RanPiece) (before : List ℕ) (vcpu ticks n : ℕ) : Type 0 where
  pub within : n ≤ length pieces
  pub less : (k b : ℕ) (p : RanPiece) → k < n → slice_get pieces k ≡ Some p → slice_get before k ≡ Some b
      → place_of p.vcpu (after_piece b p) < place_of vcpu ticks
  pub rest : (k b : ℕ) (p : RanPiece) → n ≤ k → slice_get pieces k ≡ Some p → slice_get before k ≡ Some b
      → place_of vcpu ticks ≤ place_of p.vcpu (after_piece b p)
