-- The old homes of a host's vCPUs: those that an earlier plan's text gives to their names.
use Rattle.std.specs.Prelude.{◌≡◌, ℕ, ◌<◌, List, [], ◌∷◌, Option, None, Some, bytes_eq, get_or, if◌then◌else◌, length, nat_lt}
use Rattle.tab_core.specs.declared.TheConstants.{MAX_CORES}
use Rattle.tab_words.specs.Texts.{Line}
use Rattle.vcpu_names.specs.Names.{name_at}
use Rattle.plan_text.specs.OldText.{IsOldText, NamedHome}

-- a home, if it is a core's number
abbrev pub core_of_home : ℕ → Option ℕ
core_of_home home = if nat_lt home MAX_CORES then Some home else None

-- the home of this name after a line, where this was its home before
abbrev pub home_behind : List ℕ → NamedHome → Option ℕ → Option ℕ
home_behind name vcpu home = if bytes_eq vcpu.name name then core_of_home vcpu.home else home

-- the home that the last line of this name gives
abbrev pub home_named : List ℕ → List NamedHome → Option ℕ → Option ℕ
home_named name [] home = home
home_named name (vcpu ∷ vcpus) home = home_named name vcpus (home_behind name vcpu home)

-- the vCPUs of these names have these homes by their numbers, none where no line has the name
pub record AreHomesNamed (names : List (List ℕ)) (vcpus : List NamedHome) (homes : List (Option ℕ)) : Type 0 where
  pub as_many : length homes ≡ length names
  pub each : (vcpu : ℕ) (none : Option ℕ) → vcpu < length names
      → get_or homes vcpu none ≡ home_named (name_at names vcpu) vcpus None

-- the lines are a plan's, which gives the vCPUs of these names these homes
pub record AreOldHomes (names : List (List ℕ)) (lines : List Line) (homes : List (Option ℕ)) : Type 0 where
  pub vcpus : List NamedHome
  pub text : IsOldText vcpus lines
  pub named : AreHomesNamed names vcpus homes
