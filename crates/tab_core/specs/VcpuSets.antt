-- Sets of vCPUs, as one truth value for each of 256 numbers.
use Rattle.std.specs.Prelude.{ℕ, zero, suc, ◌/◌, ◌%◌, ◌==◌, Bool, false, List, [], ◌∷◌, ◌++◌, slice_index, slice_index_or, IsTrue}
use Rattle.std.specs.Int.{bit_at}
use Rattle.tab_core.specs.declared.TheConstants.{MAX_VCPUS}

-- the vCPU is a member
abbrev pub has_vcpu : List Bool → ℕ → Bool
has_vcpu set vcpu = slice_index_or set vcpu false

-- the vCPU is a member of both sets
pub record IsInBoth (a b : List Bool) (vcpu : ℕ) : Type 0 where
  pub one : IsTrue (has_vcpu a vcpu)
  pub other : IsTrue (has_vcpu b vcpu)

-- bit number `vcpu` of words of 64 bits
abbrev pub has_bit : List ℕ → ℕ → Bool
has_bit words vcpu = bit_at (slice_index words (vcpu / 64)) (vcpu % 64) == 1

-- the first n bits
unfoldable pub bits_below : List ℕ → ℕ → List Bool
bits_below words zero = []
bits_below words (suc n) = bits_below words n ++ has_bit words n ∷ []

-- the truth values that words stand for
abbrev pub members_of : List ℕ → List Bool
members_of words = bits_below words MAX_VCPUS
