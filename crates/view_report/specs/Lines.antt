-- What a line of a run's report says, and the words by which it says so.
-- Source: the form of the report that tableau writes.
use Rattle.std.specs.Prelude.{◌≡◌, ℕ, ◌<◌, ◌^◌, ◌++◌, Bool, false, [], ◌∷◌, codes, decimal}
use Rattle.std.specs.Str.{bytes_eq}
use Rattle.tab_core.specs.Name.{IsName}
use Rattle.tab_words.specs.Texts.{Line}
use Rattle.view_report.specs.declared.said.Became.{Became}
use Rattle.view_report.specs.declared.said.Became.TheVariants as became
use Rattle.view_report.specs.declared.said.CoreRan.{CoreRan}
use Rattle.view_report.specs.declared.said.PlanStart.{PlanStart}
use Rattle.view_report.specs.declared.said.ReportedChange.{ReportedChange}
use Rattle.view_report.specs.declared.said.Said.{Said}
use Rattle.view_report.specs.declared.said.Said.TheVariants.{Begun, Changed, Planned, Vcpu, Core, Done}
use Rattle.view_report.specs.declared.said.VcpuRan.{VcpuRan}

-- ---- words

-- the words that say what became of a change
abbrev pub became_words : Became → Line
became_words became.Planned = codes "planned" ∷ []
became_words (became.NoPeriod name) = codes "no" ∷ codes "period" ∷ codes "for" ∷ name.now ∷ []
became_words (became.NoRoom name) = codes "no" ∷ codes "room" ∷ codes "for" ∷ name.now ∷ []

-- the words of the first line: how many rounds, cores and events there are
abbrev pub begun_words : ℕ → ℕ → ℕ → Line
begun_words rounds cores events = codes "run" ∷ decimal rounds ∷ codes "rounds" ∷ decimal cores ∷ codes "cores"
    ∷ decimal events ∷ codes "events" ∷ []

-- the words of the line of the change of this number
abbrev pub changed_words : ℕ → ReportedChange → Line
changed_words number change = codes "change" ∷ decimal number ∷ codes "at" ∷ (decimal change.tick ++ codes ":")
    ∷ became_words change.became

-- the words of the line of a round that begins with another plan
abbrev pub plan_start_words : PlanStart → Line
plan_start_words start = codes "round" ∷ decimal start.round ∷ codes "plan" ∷ decimal start.plan ∷ []

-- the words of the line of a vCPU
abbrev pub vcpu_ran_words : VcpuRan → Line
vcpu_ran_words ran = codes "vcpu" ∷ ran.name.now ∷ codes "offered" ∷ decimal ran.offered
    ∷ codes "slots" ∷ decimal ran.slots ∷ codes "shared" ∷ decimal ran.shared ∷ codes "gap" ∷ decimal ran.gap ∷ []

-- the words of the line of the core of this number
abbrev pub core_ran_words : ℕ → CoreRan → Line
core_ran_words number ran = codes "core" ∷ decimal number ∷ codes "slots" ∷ decimal ran.slots
    ∷ codes "shared" ∷ decimal ran.shared ∷ codes "idle" ∷ decimal ran.idle ∷ []

-- the words of a line
abbrev pub said_words : Said → Line
said_words (Begun rounds cores events) = begun_words rounds cores events
said_words (Changed number change) = changed_words number change
said_words (Planned start) = plan_start_words start
said_words (Vcpu ran) = vcpu_ran_words ran
said_words (Core number ran) = core_ran_words number ran
said_words Done = codes "done" ∷ []

-- ---- ranges: numbers are below 2^32, and names have the form of names

-- what became of a change
abbrev pub IsGoodOutcome : Became → Type 0
IsGoodOutcome became.Planned = Unit {0}
IsGoodOutcome (became.NoPeriod name) = IsName name.now
IsGoodOutcome (became.NoRoom name) = IsName name.now

-- three numbers
abbrev pub AreSmall : ℕ → ℕ → ℕ → Type 0
AreSmall a b c = (a < 2 ^ 32) × (b < 2 ^ 32) × (c < 2 ^ 32)

-- a change
pub record IsGoodChange (number : ℕ) (change : ReportedChange) : Type 0 where
  pub low : number < 2 ^ 32
  pub early : change.tick < 2 ^ 32
  pub outcome : IsGoodOutcome change.became

-- a round that begins with another plan
pub record IsGoodStart (start : PlanStart) : Type 0 where
  pub low : start.round < 2 ^ 32
  pub early : start.plan < 2 ^ 32

-- a vCPU
pub record IsGoodVcpuRan (ran : VcpuRan) : Type 0 where
  pub named : IsName ran.name.now
  pub offered : ran.offered < 2 ^ 32
  pub few : AreSmall ran.slots ran.shared ran.gap

-- a core
pub record IsGoodCoreRan (number : ℕ) (ran : CoreRan) : Type 0 where
  pub low : number < 2 ^ 32
  pub few : AreSmall ran.slots ran.shared ran.idle

-- what a line says
abbrev pub IsGoodSaid : Said → Type 0
IsGoodSaid (Begun rounds cores events) = AreSmall rounds cores events
IsGoodSaid (Changed number change) = IsGoodChange number change
IsGoodSaid (Planned start) = IsGoodStart start
IsGoodSaid (Vcpu ran) = IsGoodVcpuRan ran
IsGoodSaid (Core number ran) = IsGoodCoreRan number ran
IsGoodSaid Done = Unit {0}

-- ---- lines

-- the words say this
pub record SaysLine (words : Line) (said : Said) : Type 0 where
  pub written : words ≡ said_words said
  pub good : IsGoodSaid said

-- the words say nothing
abbrev pub SaysNoLine : Line → Type 0
SaysNoLine words = (said : Said) → SaysLine words said → ⊥

-- a report may begin with the words: the first is `run`
abbrev pub begins_run : Line → Bool
begins_run [] = false
begins_run (word ∷ words) = bytes_eq word (codes "run")
