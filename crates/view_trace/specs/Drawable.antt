-- The lines of a host's trace that can be drawn, one after the other, and why another can't be.
-- Source: what a line says is the form of `host_trace`; a picture has 32 cores and 256 vCPUs at most.
use Rattle.std.specs.Prelude.{◌≡◌, ℕ, ◌<◌, ◌≤◌, All, List, [], ◌∷◌, ◌++◌, length, max, suc, Option, Some, None}
use Rattle.tab_core.specs.Name.{IsName}
use Rattle.tab_core.specs.declared.TheConstants.{MAX_CORES, MAX_VCPUS}
use Rattle.host_trace.specs.TraceLines.{AreMarksOf, LineTells, TraceRow}
use Rattle.host_trace.specs.declared.mark.Mark.{Mark}
use Rattle.host_trace.specs.declared.mark.State.{State}
use Rattle.host_trace.specs.declared.mark.State.TheVariants.{Run, Wait, Block}
use Rattle.vcpu_names.specs.Names.{AreNames, IsUnknown, name_at}
use Rattle.view_trace.specs.declared.fault.LineCause.{LineCause}
use Rattle.view_trace.specs.declared.fault.LineCause.TheVariants.{NoForm, Falls, NoName, ManyVcpus, NoCpu, HighCpu}

-- a row of a trace
abbrev pub drawable_row : ℕ → List ℕ → TraceRow
drawable_row number text = record { number = number; text = text }

-- ---- lines that can be drawn

-- where a vCPU runs, it runs on a CPU that can have a lane
abbrev pub HasLane : State → Option ℕ → Type 0
HasLane Run None = ⊥
HasLane Run (Some cpu) = cpu < MAX_CORES
HasLane Wait cpu = Unit {0}
HasLane Block cpu = Unit {0}

-- a mark whose vCPU, where it runs, has a lane
abbrev pub IsPlacedMark : Mark → Type 0
IsPlacedMark mark = HasLane mark.state mark.cpu

-- the time of the last of the marks, and this one where there is none
abbrev pub last_time : ℕ → List Mark → ℕ
last_time time [] = time
last_time time (mark ∷ marks) = last_time mark.time_ns marks

-- from a time on no time falls
abbrev pub AreRising : ℕ → List Mark → Type 0
AreRising time [] = Unit {0}
AreRising time (mark ∷ marks) = (time ≤ mark.time_ns) × AreRising mark.time_ns marks

-- vCPUs are numbered as the marks name them first: each mark is of one of those that are known, or of the next, and
-- so many are known in the end
abbrev pub AreNamesNumbered : ℕ → List Mark → ℕ → Type 0
AreNamesNumbered known [] all = known ≡ all
AreNamesNumbered known (mark ∷ marks) all = (vcpu : ℕ) × (mark.vcpu ≡ Some vcpu) × (vcpu ≤ known)
    × AreNamesNumbered (max known (suc vcpu)) marks all

-- each name is another
abbrev pub AreApart : List (List ℕ) → Type 0
AreApart names = (v w : ℕ) → v < length names → w < length names → name_at names v ≡ name_at names w → v ≡ w

-- the rows say these marks of vCPUs of these names, and each can be drawn after those before it
pub record AreDrawable (names : List (List ℕ)) (rows : List TraceRow) (marks : List Mark) : Type 0 where
  pub said : AreMarksOf names rows marks
  pub numbered : AreNamesNumbered 0 marks (length names)
  pub apart : AreApart names
  pub good : AreNames names
  pub few : length names ≤ MAX_VCPUS
  pub rising : AreRising 0 marks
  pub placed : All IsPlacedMark marks

-- ---- a line that can't be

-- why a vCPU can't be drawn in a state on a CPU
abbrev pub IsUnplaced : State → Option ℕ → LineCause → Type 0
IsUnplaced Run None NoCpu = Unit {0}
IsUnplaced Run (Some cpu) HighCpu = MAX_CORES ≤ cpu
IsUnplaced _ _ _ = ⊥

-- what is said of a name can't be drawn after lines that name these and end at a time: of several causes this is the
-- first
abbrev pub IsWrong : List (List ℕ) → ℕ → List ℕ → ℕ → State → Option ℕ → LineCause → Type 0
IsWrong names last name time state cpu NoForm = ⊥
IsWrong names last name time state cpu Falls = time < last
IsWrong names last name time state cpu NoName = (last ≤ time) × (IsName name → ⊥)
IsWrong names last name time state cpu NoCpu = (last ≤ time) × IsName name × IsUnplaced state cpu NoCpu
IsWrong names last name time state cpu HighCpu = (last ≤ time) × IsName name × IsUnplaced state cpu HighCpu
IsWrong names last name time state cpu ManyVcpus =
    (last ≤ time) × IsName name × HasLane state cpu × (MAX_VCPUS ≤ length names) × IsUnknown names name

-- the line says something that can't be drawn there
pub record TellsWrong (names : List (List ℕ)) (last : ℕ) (text : List ℕ) (cause : LineCause) : Type 0 where
  pub name : List ℕ
  pub time : ℕ
  pub state : State
  pub cpu : Option ℕ
  pub tells : LineTells text name time state cpu
  pub wrong : IsWrong names last name time state cpu cause

-- why the line can't be drawn there: it says nothing, or something that can't be
abbrev pub HasLineCause : List (List ℕ) → ℕ → List ℕ → LineCause → Type 0
HasLineCause names last text NoForm =
    (name : List ℕ) (time : ℕ) (state : State) (cpu : Option ℕ) → LineTells text name time state cpu → ⊥
HasLineCause names last text Falls = TellsWrong names last text Falls
HasLineCause names last text NoName = TellsWrong names last text NoName
HasLineCause names last text ManyVcpus = TellsWrong names last text ManyVcpus
HasLineCause names last text NoCpu = TellsWrong names last text NoCpu
HasLineCause names last text HighCpu = TellsWrong names last text HighCpu

-- the line can't be drawn after these rows, which can
pub record CantFollow (rows : List TraceRow) (text : List ℕ) (cause : LineCause) : Type 0 where
  pub names : List (List ℕ)
  pub marks : List Mark
  pub before : AreDrawable names rows marks
  pub wrong : HasLineCause names (last_time 0 marks) text cause

-- the first of the rows that can't be drawn is the line of this number
pub record IsFirstUndrawn (rows : List TraceRow) (number : ℕ) (cause : LineCause) : Type 0 where
  pub front : List TraceRow
  pub text : List ℕ
  pub back : List TraceRow
  pub whole : rows ≡ front ++ drawable_row number text ∷ back
  pub wrong : CantFollow front text cause
