-- Lists of CPUs: parts FIRST, FIRST-LAST or FIRST-LAST:STEP, with a comma between each two, as 2,4,6-46:2.
-- Source: taskset(1) of util-linux. Its lists without a step are those of Linux's files, as cpuset.cpus.
use Rattle.std.specs.Prelude.{◌≡◌, ℕ, ◌+◌, ◌-◌, ◌*◌, ◌/◌, ◌≤◌, ◌++◌, List, [], ◌∷◌, codes, decimal, map, Option, Some, None, slice_get}
use Rattle.std.specs.List.{range_with_len}

-- ---- parts

-- the CPUs from the first up to the last one, each so many after the one before
abbrev pub cpus_from : ℕ → ℕ → ℕ → List ℕ
cpus_from first last step = map (λ k. first + k * step) (range_with_len 0 ((last - first) / step + 1))

-- the text is a part of a list, of these CPUs
pub data IsPart (text cpus : List ℕ) : Type 0 where
  One : (cpu : ℕ) → text ≡ decimal cpu → cpus ≡ cpu ∷ [] → IsPart text cpus
  Range : (first last : ℕ) → first ≤ last → text ≡ decimal first ++ (codes "-" ++ decimal last)
      → cpus ≡ cpus_from first last 1 → IsPart text cpus
  Strided : (first last step : ℕ) → first ≤ last → 1 ≤ step
      → text ≡ decimal first ++ (codes "-" ++ (decimal last ++ (codes ":" ++ decimal step)))
      → cpus ≡ cpus_from first last step → IsPart text cpus

-- ---- lists

-- the text is a list of these CPUs, in this order
pub data IsCpuList : List ℕ → List ℕ → Type 0 where
  Last : (text cpus : List ℕ) → IsPart text cpus → IsCpuList text cpus
  Next : (text cpus more others : List ℕ) → IsPart text cpus → IsCpuList more others
      → IsCpuList (text ++ (codes "," ++ more)) (cpus ++ others)

-- no CPU is there twice
abbrev pub AreDistinct : List ℕ → Type 0
AreDistinct cpus = (j k cpu : ℕ) → slice_get cpus j ≡ Some cpu → slice_get cpus k ≡ Some cpu → j ≡ k

-- ---- cores

-- the CPU, or 0 if there is none
abbrev pub cpu_or_zero : Option ℕ → ℕ
cpu_or_zero None = 0
cpu_or_zero (Some cpu) = cpu

-- the CPU that a core is: the list has them by the numbers of cores
abbrev pub cpu_at : List ℕ → ℕ → ℕ
cpu_at cpus core = cpu_or_zero (slice_get cpus core)
