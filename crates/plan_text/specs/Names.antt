-- What the names of a host's vCPUs keep.
use Rattle.std.specs.Prelude.{◌≡◌, ℕ, ◌<◌, List, length}
use Rattle.tab_core.specs.Name.{IsName}
use Rattle.vcpu_names.specs.Names.{name_at}

-- each is a name, and no two are one
pub record AreHostNames (names : List (List ℕ)) : Type 0 where
  pub good : (v : ℕ) → v < length names → IsName (name_at names v)
  pub distinct : (v w : ℕ) → v < length names → w < length names → name_at names v ≡ name_at names w → v ≡ w
