-- The host that is generated from a seed, for counts of cores and vCPUs.
-- Source: the rule is this project's own. A share is a whole percent of a core, which costs a whole
-- number of ticks in each period below. The most percent is such that all vCPUs lie within the bound of
-- worst fit.
use Rattle.std.specs.Prelude.{◌≡◌, ℕ, ◌+◌, ◌-◌, ◌*◌, ◌/◌, ◌%◌, ◌==◌, min, not, Bool, false, if◌then◌else◌, List, [], ◌∷◌, ◌++◌, codes, decimal, length, slice_get, slice_index, Some, IsSomeAnd}
use Rattle.tab_core.specs.declared.TheConstants.{TICK_NS}
use Rattle.tab_core.specs.declared.host.Host.{Host}
use Rattle.tab_core.specs.declared.reservation.Reservation.{Reservation}
use Rattle.tab_core.specs.declared.vcpu.Vcpu.{Vcpu}
use Rattle.host_gen.specs.GeneratorWords.{first_word, second_word}

-- the most percent of a core that one vCPU gets
abbrev pub most_percent : ℕ → ℕ → ℕ
most_percent cores vcpus = if vcpus == 0 then 100 else min 100 (100 * cores / (vcpus + cores - 1))

-- the percent of a core that a vCPU gets
abbrev pub percent_of : ℕ → ℕ → ℕ
percent_of most word = 1 + word % most

-- six periods of the table, each a multiple of 100 ticks
abbrev pub whole_periods : List ℕ
whole_periods = 100 ∷ 300 ∷ 900 ∷ 2700 ∷ 5700 ∷ 11400 ∷ []

-- the period in ticks that a vCPU's latency is made of
abbrev pub period_of : ℕ → ℕ
period_of word = slice_index whole_periods (word % 6)

-- the vCPU wants to run as the run begins: in three of four cases
abbrev pub starts_runnable : ℕ → Bool
starts_runnable word = not (word / 6 % 4 == 0)

-- twice the time that the period doesn't give, in ns
abbrev pub generated_latency : ℕ → ℕ → ℕ
generated_latency percent period = 2 * (period - period / 100 * percent) * TICK_NS

-- the name of the vCPU of this number
abbrev pub generated_name : ℕ → List ℕ
generated_name number = codes "v" ++ decimal number

-- so many percent of a core, with the latency that this period keeps
pub record IsGeneratedReservation (percent period : ℕ) (r : Reservation) : Type 0 where
  pub share : r.share_ppm ≡ 10000 * percent
  pub latency : r.latency_ns ≡ generated_latency percent period

-- the vCPU of this number, as its two words make it
pub record IsGeneratedVcpu (most number first second : ℕ) (vcpu : Vcpu) : Type 0 where
  pub name : vcpu.name ≡ generated_name number
  pub reservation : IsSomeAnd vcpu.reservation (IsGeneratedReservation (percent_of most first) (period_of second))
  pub runnable : vcpu.runnable ≡ starts_runnable second
  pub capped : vcpu.capped ≡ false

-- each of the vCPUs is that of its number
abbrev pub AreGenerated : ℕ → ℕ → List Vcpu → Type 0
AreGenerated seed most vcpus = (number : ℕ) (vcpu : Vcpu) → slice_get vcpus number ≡ Some vcpu
    → IsGeneratedVcpu most number (first_word seed number) (second_word seed number) vcpu

-- the host of this seed, of so many cores and vCPUs
pub record IsGenerated (seed cores vcpus : ℕ) (host : Host) : Type 0 where
  pub tick_ns : host.tick_ns ≡ TICK_NS
  pub cores_are : host.cores ≡ cores
  pub lag : host.lag ≡ 1000
  pub sliver : host.sliver ≡ 30
  pub quantum : host.quantum ≡ 1000
  pub as_many : length host.vcpus ≡ vcpus
  pub each : AreGenerated seed (most_percent cores vcpus) host.vcpus
