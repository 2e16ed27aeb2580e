-- What a plan text says of homes by itself, where its host isn't known: its first line, the lines of
-- vCPUs, and the form of the rest. The form is this project's own.
use Rattle.std.specs.Prelude.{◌≡◌, ◌⊎◌, ℕ, ◌<◌, ◌^◌, List, [], ◌∷◌, codes, decimal}
use Rattle.tab_words.specs.Texts.{Line}
use Rattle.plan_text.specs.PlanLines.{core_words, end_words, head_words}

-- a vCPU of the text: its name, and the home that its line gives
pub record NamedHome : Type 0 where
  pub name : List ℕ
  pub home : ℕ

-- the first line, whatever it counts
pub record IsOldHead (line : Line) : Type 0 where
  pub cores : ℕ
  pub admitted : ℕ
  pub cores_small : cores < 2 ^ 64
  pub admitted_small : admitted < 2 ^ 64
  pub words : line ≡ head_words cores admitted

-- the line of this vCPU, whatever its period and its cost
pub record IsHomeLine (line : Line) (vcpu : NamedHome) : Type 0 where
  pub period : ℕ
  pub cost : ℕ
  pub period_small : period < 2 ^ 64
  pub cost_small : cost < 2 ^ 64
  pub home_small : vcpu.home < 2 ^ 64
  pub words : line ≡ codes "vcpu" ∷ vcpu.name ∷ codes "period" ∷ decimal period ∷ codes "cost" ∷ decimal cost
      ∷ codes "home" ∷ decimal vcpu.home ∷ []

-- the line that begins a core, whichever it is
pub record IsCoreLine (line : Line) : Type 0 where
  pub core : ℕ
  pub small : core < 2 ^ 64
  pub words : line ≡ core_words core

-- the line of a segment, whoever owns it
pub record IsSegmentLine (line : Line) : Type 0 where
  pub end : ℕ
  pub owner : List ℕ
  pub small : end < 2 ^ 64
  pub words : line ≡ decimal end ∷ owner ∷ []

-- the lines of cores and of their segments, and the last line
abbrev pub AreOldRows : List Line → Type 0
AreOldRows [] = ⊥
AreOldRows (line ∷ lines) =
    ((IsCoreLine line ⊎ IsSegmentLine line) × AreOldRows lines) ⊎ ((line ≡ end_words) × (lines ≡ []))

-- the lines of these vCPUs, and after them those of cores and segments and the last line
abbrev pub AreOldVcpus : List NamedHome → List Line → Type 0
AreOldVcpus [] lines = AreOldRows lines
AreOldVcpus (vcpu ∷ vcpus) [] = ⊥
AreOldVcpus (vcpu ∷ vcpus) (line ∷ lines) = IsHomeLine line vcpu × AreOldVcpus vcpus lines

-- the lines are a plan's, with these vCPUs
abbrev pub IsOldText : List NamedHome → List Line → Type 0
IsOldText vcpus [] = ⊥
IsOldText vcpus (head ∷ lines) = IsOldHead head × AreOldVcpus vcpus lines

-- the lines are a plan's, with some vCPUs
abbrev pub IsSomeOldText : List Line → Type 0
IsSomeOldText lines = (vcpus : List NamedHome) × IsOldText vcpus lines
