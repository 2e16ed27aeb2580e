-- Lines that can't be: those whose time falls, those of vCPUs that the host hasn't, and those by which a CPU runs two
-- vCPUs or a vCPU runs on two CPUs.
use Rattle.std.specs.Prelude.{◌≡◌, ℕ, ◌==◌, ◌&&◌, Bool, false, not, if◌then◌else◌, length, List, [], ◌∷◌, ◌++◌, nat_lt, Option, Some, None, option_and_then, slice_get}
use Rattle.std.specs.List.{list_any}
use Rattle.std.specs.Option.{is_none}
use Rattle.host_trace.specs.declared.mark.Mark.{Mark}
use Rattle.host_trace.specs.declared.mark.State.TheVariants.{Run}
use Rattle.host_judge.specs.Courses.{is_same}
use Rattle.host_judge.specs.Traces.{end_of, last_that}
use Rattle.host_judge.specs.declared.report.LineCount.{LineCount}

-- the numbers of the lines that pass a test, which also sees the marks before; these are before the first
abbrev pub lines_where : (List Mark → Mark → Bool) → List Mark → List Mark → List ℕ
lines_where test before [] = []
lines_where test before (mark ∷ marks) =
    (if test before mark then mark.line ∷ [] else []) ++ lines_where test (before ++ mark ∷ []) marks

-- how many lines these are, and the first of them
pub record IsCountOf (lines : List ℕ) (count : LineCount) : Type 0 where
  pub many : count.count ≡ length lines
  pub first : count.first ≡ slice_get lines 0

-- a time before that of an earlier line
abbrev pub falls : List Mark → Mark → Bool
falls before mark = nat_lt mark.time_ns (end_of before)

-- a vCPU that the host hasn't
abbrev pub is_unknown : List Mark → Mark → Bool
is_unknown before mark = is_none mark.vcpu

-- ---- who runs where

-- two numbers are known, and are the same
abbrev pub are_same : Option ℕ → Option ℕ → Bool
are_same (Some one) (Some two) = one == two
are_same _ _ = false

-- two numbers are known, and differ
abbrev pub are_two : Option ℕ → Option ℕ → Bool
are_two (Some one) (Some two) = not (one == two)
are_two _ _ = false

-- the CPU on which the vCPU of a mark runs from then on, if it runs and its CPU is named
abbrev pub cpu_of_run : Mark → Option ℕ
cpu_of_run mark = if is_same Run mark.state then mark.cpu else None

-- the CPU on which a vCPU runs by the last of its marks
abbrev pub cpu_by : List Mark → Option ℕ → Option ℕ
cpu_by marks vcpu = option_and_then cpu_of_run (last_that (λ mark. are_same mark.vcpu vcpu) marks)

-- a vCPU runs on a CPU on which another runs by the marks before
abbrev pub shares_cpu : List Mark → Mark → Bool
shares_cpu before mark =
    list_any (λ other. are_two other.vcpu mark.vcpu && are_same (cpu_by before other.vcpu) (cpu_of_run mark)) before

-- a vCPU runs on a CPU while it runs on another by the marks before
abbrev pub is_doubled : List Mark → Mark → Bool
is_doubled before mark = are_two (cpu_by before mark.vcpu) (cpu_of_run mark)
