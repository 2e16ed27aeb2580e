-- Which lines of a report may follow which, and what they say together.
-- Source: the form of the report that tableau writes.
use Rattle.std.specs.Prelude.{◌≡◌, ℕ, ◌+◌, ◌==◌, ◌&&◌, ◌||◌, Bool, true, false, nat_lt, nat_le, ◌⊎◌, List, [], ◌∷◌, ◌++◌, length, map}
use Rattle.std.specs.List.{All}
use Rattle.tab_words.specs.Texts.{Line, worded}
use Rattle.view_report.specs.Lines.{IsGoodSaid, SaysLine, SaysNoLine, begins_run, said_words}
use Rattle.view_report.specs.declared.report.RunReport.{RunReport}
use Rattle.view_report.specs.declared.said.CoreRan.{CoreRan}
use Rattle.view_report.specs.declared.said.PlanStart.{PlanStart}
use Rattle.view_report.specs.declared.said.ReportedChange.{ReportedChange}
use Rattle.view_report.specs.declared.said.Said.{Said}
use Rattle.view_report.specs.declared.said.Said.TheVariants.{Begun, Changed, Planned, Vcpu, Core, Done}
use Rattle.view_report.specs.declared.said.VcpuRan.{VcpuRan}

-- what the lines so far say, and how far they go: 0 before the first line, 1 after it and among the changes, 2 among
-- the rounds, 3 among the vCPUs, 4 among the cores, and 5 after the last line
pub record ReportSoFar : Type 0 where
  pub place : ℕ
  pub counted : ℕ
  pub rounds : ℕ
  pub events : ℕ
  pub changes : List ReportedChange
  pub plans : List PlanStart
  pub vcpus : List VcpuRan
  pub cores : List CoreRan

-- nothing was said yet
abbrev pub no_line_yet : ReportSoFar
no_line_yet = record {
  place = 0;
  counted = 0;
  rounds = 0;
  events = 0;
  changes = [];
  plans = [];
  vcpus = [];
  cores = [];
}

-- the report has begun, and goes to no later place than this
abbrev pub is_up_to : ℕ → ReportSoFar → Bool
is_up_to place far = nat_lt 0 far.place && nat_le far.place place

-- whether a line may be next: kinds of lines follow in their order, a change and a core have their numbers, and the
-- last line comes after as many cores as the first one counts
abbrev pub may_be_next : ReportSoFar → Said → Bool
may_be_next far (Begun rounds cores events) = far.place == 0
may_be_next far (Changed number change) = is_up_to 1 far && (number == length far.changes)
may_be_next far (Planned start) = is_up_to 2 far
may_be_next far (Vcpu ran) = is_up_to 3 far
may_be_next far (Core number ran) = is_up_to 4 far && (number == length far.cores)
may_be_next far Done = is_up_to 4 far && (length far.cores == far.counted)

-- what the lines say with this one more
abbrev pub with_line : ReportSoFar → Said → ReportSoFar
with_line far (Begun rounds cores events) =
    record far { place = 1; counted = cores; rounds = rounds; events = events }
with_line far (Changed number change) = record far { place = 1; changes = far.changes ++ change ∷ [] }
with_line far (Planned start) = record far { place = 2; plans = far.plans ++ start ∷ [] }
with_line far (Vcpu ran) = record far { place = 3; vcpus = far.vcpus ++ ran ∷ [] }
with_line far (Core number ran) = record far { place = 4; cores = far.cores ++ ran ∷ [] }
with_line far Done = record far { place = 5 }

-- each of the lines may be where it is, and this is what they say after what was said before
abbrev pub SayTogether : ReportSoFar → List Said → ReportSoFar → Type 0
SayTogether far [] last = far ≡ last
SayTogether far (said ∷ saids) last = (may_be_next far said ≡ true) × SayTogether (with_line far said) saids last

-- the lines are passed over, which are before the report, and those of the report say this
pub record LinesReport (lines : List Line) (passed : List Line) (saids : List Said) (far : ReportSoFar) : Type 0 where
  pub whole : lines ≡ passed ++ map said_words saids
  pub before : All (λ line. begins_run line ≡ false) passed
  pub good : All IsGoodSaid saids
  pub together : SayTogether no_line_yet saids far

-- the report has all that was said
pub record HasSaid (far : ReportSoFar) (report : RunReport) : Type 0 where
  pub rounds : report.rounds ≡ far.rounds
  pub events : report.events ≡ far.events
  pub changes : report.changes.items ≡ far.changes
  pub plans : report.plans.items ≡ far.plans
  pub vcpus : report.vcpus.items ≡ far.vcpus
  pub cores : report.cores.items ≡ far.cores

-- the text ends with a report, which says this
pub record IsReportOfText (bytes : List ℕ) (report : RunReport) : Type 0 where
  pub passed : List Line
  pub saids : List Said
  pub far : ReportSoFar
  pub lines : LinesReport (worded bytes) passed saids far
  pub ended : far.place ≡ 5
  pub has : HasSaid far report

-- ---- the first bad line

-- what the line says may not be next
pub record IsLineMisplaced (far : ReportSoFar) (line : Line) : Type 0 where
  pub said : Said
  pub says : SaysLine line said
  pub wrong : may_be_next far said ≡ false

-- the line is of the report: that has begun, or begins with it
abbrev pub is_of_report : ReportSoFar → Line → Bool
is_of_report far line = nat_lt 0 far.place || begins_run line

-- the first of these lines can't go on the report; without any the report isn't whole
abbrev pub ReportGoesWrong : ReportSoFar → List Line → Type 0
ReportGoesWrong far [] = far.place ≡ 5 → ⊥
ReportGoesWrong far (line ∷ lines) = (is_of_report far line ≡ true) × (SaysNoLine line ⊎ IsLineMisplaced far line)

-- the first bad line, from 1, or one past the last where the text stops early
pub record IsFirstWrongLine (bytes : List ℕ) (wrong : ℕ) : Type 0 where
  pub passed : List Line
  pub saids : List Said
  pub far : ReportSoFar
  pub before : List Line
  pub back : List Line
  pub whole : worded bytes ≡ before ++ back
  pub lines : LinesReport before passed saids far
  pub bad : ReportGoesWrong far back
  pub number : wrong ≡ length before + 1
