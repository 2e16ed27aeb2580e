-- What the reader of an old text keeps on its way. No clause of the top call rests on it.
use Rattle.std.specs.Prelude.{◌≡◌, ◌⊎◌, ℕ, ◌<◌, ◌^◌, List, [], ◌∷◌, decimal}
use Rattle.tab_words.specs.Texts.{Line}
use Rattle.plan_text.specs.OldText.{AreOldVcpus, IsCoreLine, IsHomeLine, IsSegmentLine, NamedHome}
use Rattle.plan_text.specs.PlanLines.{end_words}

-- some vCPUs, and the rows
abbrev pub AreSomeOldVcpus : List Line → Type 0
AreSomeOldVcpus lines = (vcpus : List NamedHome) × AreOldVcpus vcpus lines

-- the line belongs to a core
abbrev pub IsRowLine : Line → Type 0
IsRowLine line = IsCoreLine line ⊎ IsSegmentLine line

-- the end alone
abbrev pub IsEnd : List Line → Type 0
IsEnd lines = lines ≡ end_words ∷ []

-- the first of the lines isn't of this kind
abbrev pub StartsOtherwise : (Line → Type 0) → List Line → Type 0
StartsOtherwise Kind lines = (line : Line) (rest : List Line) → lines ≡ line ∷ rest → Kind line → ⊥

-- the line is some vCPU's
abbrev pub IsSomeHomeLine : Line → Type 0
IsSomeHomeLine line = (vcpu : NamedHome) × IsHomeLine line vcpu

-- the words begin with this one and this number, and the rest follows
pub record BeginsWithKeyAndNumber (line : Line) (key : List ℕ) (n : ℕ) (rest : Line) : Type 0 where
  pub small : n < 2 ^ 64
  pub words : line ≡ key ∷ decimal n ∷ rest
