-- The numbers by which C names a vCPU, or nobody.
-- Source: the rules of this project; the sets of four words of 64 bits are those of tab_core's VcpuSets.
use Rattle.std.specs.Prelude.{ℕ, nat_lt, if◌then◌else◌, Option, Some, None}
use Rattle.tab_core.specs.declared.TheConstants.{MAX_VCPUS}

-- the vCPU that a number stands for: nobody from 256 on
abbrev pub vcpu_of : ℕ → Option ℕ
vcpu_of number = if nat_lt number MAX_VCPUS then Some number else None
