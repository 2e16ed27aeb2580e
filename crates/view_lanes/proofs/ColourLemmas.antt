-- What is known of sets of vCPUs, and of tests of the numbers below one.
use Rattle.std.proofs.Common.{arith, add-one, refl, ◌≡◌, ℕ, suc, ◌+◌, ◌-◌, ◌<◌, Bool, true, ◌||◌, List, length, inl, inr}
use Rattle.std.proofs.lemmas.Bool.{cases_eq}
use Rattle.std.proofs.lemmas.Bool.Decides.{nat_tests}
use Rattle.std.proofs.lemmas.Grind.{common_steps}
use Rattle.std.specs.Prelude.{◌==◌, if◌then◌else◌, slice_set}
use Rattle.tab_core.specs.VcpuSets.{has_vcpu}
use Rattle.view_lanes.specs.Colours.{first_free}

-- a vCPU was put into a set
pub member_put : (set : List Bool) (u w : ℕ) → u < length set
    → has_vcpu (slice_set set u true) w ≡ (has_vcpu set w || (u == w))
member_put set u w low =
    elim (cases_eq w u) [
      | inl same ↦ grind (arith, common_steps, nat_tests, same)
      | inr other ↦ grind (arith, common_steps, nat_tests, other)
    ]

-- the first colour is taken, or it is the one
pub free_more : (taken : ℕ → Bool) (other k : ℕ) → k < 12
    → first_free taken other k (12 - k)
    ≡ (if taken k then first_free taken other (k + 1) (12 - (k + 1)) else k)
free_more taken other k low =
    let less : 12 - k ≡ suc (12 - (k + 1)) = omega arith in
    rw (less, add-one k) refl
