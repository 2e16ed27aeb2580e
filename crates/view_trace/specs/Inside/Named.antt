-- Names that became one more, or stayed.
use Rattle.std.specs.Prelude.{◌≡◌, ℕ, ◌<◌, ◌⊎◌, List, [], ◌∷◌, ◌++◌, length}
use Rattle.vcpu_names.specs.Names.{IsUnknown, name_at}

-- the names stay, and the vCPU is one of them
pub record IsOld (old new : List (List ℕ)) (vcpu : ℕ) : Type 0 where
  pub same : new ≡ old
  pub known : vcpu < length old

-- the name is new, and the vCPU is after the others
pub record IsNewName (old new : List (List ℕ)) (name : List ℕ) (vcpu : ℕ) : Type 0 where
  pub more : new ≡ old ++ name ∷ []
  pub unknown : IsUnknown old name
  pub next : vcpu ≡ length old

-- the vCPU has the name among these names, which the others became with it
pub record IsKnownAs (old new : List (List ℕ)) (name : List ℕ) (vcpu : ℕ) : Type 0 where
  pub at : name_at new vcpu ≡ name
  pub either : IsOld old new vcpu ⊎ IsNewName old new name vcpu
