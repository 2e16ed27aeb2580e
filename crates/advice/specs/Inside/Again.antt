-- What a section hasn't that is read again.
use Rattle.std.specs.Prelude.{ℕ, List, Option}
use Rattle.tab_core.specs.declared.host.Host.{Host}
use Rattle.tab_core.specs.declared.periodic.Periodic.{Periodic}
use Rattle.host_doc.specs.Document.{IsDocument, IsHostText}
use Rattle.period_choice.specs.Tasks.{AreTasksOf}
use Rattle.toml.specs.Data.{Members}

-- the section is no document
abbrev pub IsNoDocument : List ℕ → Type 0
IsNoDocument section = (members : Members) → ¬ (IsDocument section members)

-- the section is no host
abbrev pub IsNoHost : List ℕ → Type 0
IsNoHost section = (host : Host) → ¬ (IsHostText section host)

-- a vCPU of the host has no budget
abbrev pub LacksTasks : Host → Type 0
LacksTasks host = (tasks : List (Option Periodic)) → ¬ (AreTasksOf host tasks)
