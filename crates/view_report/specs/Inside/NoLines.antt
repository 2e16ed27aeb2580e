-- What a line of a report isn't.
use Rattle.std.specs.Prelude.{◌≡◌, ℕ}
use Rattle.tab_words.specs.Texts.{Line}
use Rattle.view_report.specs.Lines.{AreSmall, IsGoodChange, IsGoodCoreRan, IsGoodOutcome, IsGoodStart, IsGoodVcpuRan, became_words, begun_words, changed_words, core_ran_words, plan_start_words, vcpu_ran_words}
use Rattle.view_report.specs.declared.said.Became.{Became}
use Rattle.view_report.specs.declared.said.CoreRan.{CoreRan}
use Rattle.view_report.specs.declared.said.PlanStart.{PlanStart}
use Rattle.view_report.specs.declared.said.ReportedChange.{ReportedChange}
use Rattle.view_report.specs.declared.said.VcpuRan.{VcpuRan}

-- the words are no first line
abbrev pub NoBegun : Line → Type 0
NoBegun words = (rounds cores events : ℕ) → AreSmall rounds cores events → words ≡ begun_words rounds cores events → ⊥

-- they say of no change what became of it
abbrev pub NoOutcome : Line → Type 0
NoOutcome words = (became : Became) → IsGoodOutcome became → words ≡ became_words became → ⊥

-- they are no change's line
abbrev pub NoChange : Line → Type 0
NoChange words = (number : ℕ) (change : ReportedChange) → IsGoodChange number change
    → words ≡ changed_words number change → ⊥

-- they are no line of a round
abbrev pub NoStart : Line → Type 0
NoStart words = (start : PlanStart) → IsGoodStart start → words ≡ plan_start_words start → ⊥

-- they are no vCPU's line
abbrev pub NoVcpuRan : Line → Type 0
NoVcpuRan words = (ran : VcpuRan) → IsGoodVcpuRan ran → words ≡ vcpu_ran_words ran → ⊥

-- they are no core's line
abbrev pub NoCoreRan : Line → Type 0
NoCoreRan words = (number : ℕ) (ran : CoreRan) → IsGoodCoreRan number ran → words ≡ core_ran_words number ran → ⊥
