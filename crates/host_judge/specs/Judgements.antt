-- What reading and judging a trace does to its source, and what it answers.
use Rattle.std.specs.Prelude.{ℕ, ◌+◌, ◌≤◌, ◌^◌, length, List, MatchResult, Option, Result}
use Rattle.std.specs.Io.KnownBytes.{Consumes, IsAtEnd}
use Rattle.tab_core.specs.declared.vcpu.Vcpu.{Vcpu}
use Rattle.tab_io.specs.FaultCounts.{Rose}
use Rattle.tab_io.specs.Views.{SourceView}
use Rattle.tab_words.specs.Lines.{lines_of}
use Rattle.vcpu_names.specs.Names.{names_of}
use Rattle.host_judge.specs.Faults.{IsFaultIn}
use Rattle.host_judge.specs.Reports.{IsJudgementOf}
use Rattle.host_judge.specs.declared.fault.JudgeFault.{JudgeFault}
use Rattle.host_judge.specs.declared.fault.JudgeFault.TheVariants.{BadLine, NoMemory, ReadFault, TooLong}
use Rattle.host_judge.specs.declared.owed.Owed.{Owed}
use Rattle.host_judge.specs.declared.report.Report.{Report}

-- why a trace that begins with these bytes isn't judged; one that is too long has at least 2^64 - 1 bytes
abbrev pub HasJudgeFault : SourceView → SourceView → List Vcpu → List ℕ → JudgeFault → Type 0
HasJudgeFault old new vcpus bytes ReadFault = Rose old.faults new.faults
HasJudgeFault old new vcpus bytes (BadLine number text) = IsFaultIn (names_of vcpus) (lines_of bytes) (BadLine number text)
HasJudgeFault old new vcpus bytes TooLong = 2 ^ 64 ≤ length bytes + 1
HasJudgeFault old new vcpus bytes NoMemory = Unit {0}

-- the source gave these bytes, which are all, and this is reported of them; or a fault came after
-- them
pub record JudgesTrace (old new : SourceView) (vcpus : List Vcpu) (owed : List (Option Owed)) (window : ℕ)
    (result : Result Report JudgeFault) : Type 0 where
  pub bytes : List ℕ
  pub consumed : Consumes old.rest new.rest bytes
  pub later : old.faults ≤ new.faults
  pub told : MatchResult result (λ report. IsAtEnd new.rest × IsJudgementOf window vcpus owed bytes report)
      (HasJudgeFault old new vcpus bytes)
