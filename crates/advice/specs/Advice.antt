-- What is written after a refusal, of the words and the input that were refused. A text in `IsAdvice` is
-- the whole advice: which line it quotes and which numbers it names is said by the definitions of the
-- crates that refuse.
use Rattle.std.specs.Prelude.{◌≡◌, ◌⊎◌, ℕ, ◌*◌, ◌≤◌, List, [], codes, length, slice_get, Option, None, Some, Result, Ok, Err}
use Rattle.tab_core.specs.declared.TheConstants.{ROUND}
use Rattle.tab_core.specs.declared.host.Host.{Host}
use Rattle.tab_core.specs.declared.periodic.Periodic.{Periodic}
use Rattle.tab_core.specs.declared.reservation.Reservation.{Reservation}
use Rattle.tab_core.specs.declared.vcpu.Vcpu.{Vcpu}
use Rattle.tab_io.specs.Sinks.{Writes}
use Rattle.tab_io.specs.Views.{SinkView}
use Rattle.tab_io.specs.declared.sink.WriteFault.{WriteFault}
use Rattle.host_doc.specs.Document.{IsDocument, IsHostText}
use Rattle.host_doc.specs.declared.fault.HostFault.{HostFault}
use Rattle.host_doc.specs.declared.fault.HostFault.TheVariants as host
use Rattle.host_doc.specs.declared.fault.Key.{Key}
use Rattle.host_doc.specs.declared.fault.Key.TheVariants.{Unknown}
use Rattle.host_doc.specs.declared.fault.Path.{Path}
use Rattle.period_choice.specs.Choice.{HasPeriod}
use Rattle.period_choice.specs.Tasks.{AreTasksOf}
use Rattle.plan_make.specs.Planned.{IsPlanned}
use Rattle.tab_words.specs.Commands.{IsCommand}
use Rattle.tab_words.specs.declared.command.Command.TheVariants.{PlanStay}
use Rattle.table_form.specs.Tables.Plans.{PlanView}
use Rattle.toml.specs.Data.{Members}
use Rattle.vcpu_names.specs.Names.{names_of}
use Rattle.advice.specs.Hosts.{many_text, toml_text}
use Rattle.advice.specs.KeyLines.{vcpu_line}
use Rattle.advice.specs.Keys.{other_text, rule_text, same_text, vcpu_key_text}
use Rattle.advice.specs.Least.{IsLeastLatency, IsLeastShare}
use Rattle.advice.specs.Lines.{section_at}
use Rattle.advice.specs.Periods.{period_text}
use Rattle.advice.specs.PlanLines.{old_line_text, plan_line_text, shape_text, short_text, twice_text}
use Rattle.advice.specs.Room.{due_of_tasks, planned_text, room_text, unplanned_text}
use Rattle.advice.specs.Scripts.{script_fault_text}
use Rattle.advice.specs.Sections.{sections_text}
use Rattle.advice.specs.Steps.{bad_step_text, due_text, waits_text}
use Rattle.advice.specs.Usage.{usage_text}
use Rattle.advice.specs.declared.fault.AdviceFault.{AdviceFault}
use Rattle.advice.specs.declared.fault.AdviceFault.TheVariants as fault
use Rattle.advice.specs.declared.refusal.Refusal.{Refusal}
use Rattle.advice.specs.declared.refusal.Refusal.TheVariants as refusal

-- the section, of at most 2,000,000,000 bytes, is no TOML from some byte on; which byte that is, and what is
-- wrong, is said by the reader of TOML
pub record IsTomlText (section text : List ℕ) : Type 0 where
  pub no_document : (members : Members) → ¬ (IsDocument section members)
  pub short : length section ≤ 2000000000
  pub at : ℕ
  pub message : List ℕ
  pub within : at ≤ length section
  pub is : text ≡ toml_text section at message

-- the section is a document, of whose members the text tells
abbrev pub TellsOfDocument : List ℕ → (Members → List ℕ) → List ℕ → Type 0
TellsOfDocument section told text = (members : Members) × IsDocument section members × (text ≡ told members)

-- the vCPU's reservation has no period, and the text tells of the nearest ones that have, with this line
pub record IsVcpuText (line : Option (ℕ × List ℕ)) (vcpu : Vcpu) (tick_ns : ℕ) (text : List ℕ) : Type 0 where
  pub reservation : Reservation
  pub latency : ℕ
  pub share : ℕ
  pub reserved : vcpu.reservation ≡ Some reservation
  pub lacks : ¬ (HasPeriod reservation tick_ns)
  pub least_latency : IsLeastLatency reservation tick_ns latency
  pub least_share : IsLeastShare reservation tick_ns share
  pub is : text ≡ period_text line vcpu.name reservation latency share

-- the section is a host with this vCPU, of which the text tells so
pub record IsPeriodText (section : List ℕ) (number : ℕ) (text : List ℕ) : Type 0 where
  pub host : Host
  pub vcpu : Vcpu
  pub is_host : IsHostText section host
  pub at : slice_get host.vcpus number ≡ Some vcpu
  pub tells : IsVcpuText (vcpu_line number (codes "latency_ns") section) vcpu host.tick_ns text

-- the host has these budgets, of which the text tells
pub record TellsOfBudgets (Told : Host → List (Option Periodic) → List ℕ → Type 0) (host : Host) (text : List ℕ)
    : Type 0 where
  pub tasks : List (Option Periodic)
  pub are_tasks : AreTasksOf host tasks
  pub tells : Told host tasks text

-- the section is a host with these budgets, of which the text tells
pub record TellsOfTasks (section : List ℕ) (Told : Host → List (Option Periodic) → List ℕ → Type 0)
    (text : List ℕ) : Type 0 where
  pub host : Host
  pub tasks : List (Option Periodic)
  pub is_host : IsHostText section host
  pub are_tasks : AreTasksOf host tasks
  pub tells : Told host tasks text

-- the text tells of the host's first unknown key
abbrev pub IsOtherText : List ℕ → List ℕ → Type 0
IsOtherText section text = TellsOfDocument section (λ members. other_text section members) text

-- the text tells of this vCPU and its key
abbrev pub IsVcpuKeyText : List ℕ → ℕ → Key → List ℕ → Type 0
IsVcpuKeyText section vcpu key text = TellsOfDocument section (λ members. vcpu_key_text section vcpu key members) text

-- the text tells of this vCPU's name
abbrev pub IsSameText : List ℕ → ℕ → List ℕ → Type 0
IsSameText section vcpu text = TellsOfDocument section (λ members. same_text section members vcpu) text

-- the text says what the vCPUs of a host with these budgets are due, and what all cores have
abbrev pub TellsRoom : Host → List (Option Periodic) → List ℕ → Type 0
TellsRoom host tasks text = text ≡ room_text (due_of_tasks tasks) (host.cores * ROUND)

-- the text is the advice on this host, in which some vCPU has no room
abbrev pub IsRoomText : Host → List ℕ → Type 0
IsRoomText host text = TellsOfBudgets TellsRoom host text

-- the host has a plan of `plan`
abbrev pub HostHasPlan : Host → Type 0
HostHasPlan host = (plan : PlanView) × IsPlanned host plan

-- the text says what the vCPUs are due, what all cores have, and whether `plan` has a plan
abbrev pub TellsOfPlan : Host → List (Option Periodic) → List ℕ → Type 0
TellsOfPlan host tasks text =
    (HostHasPlan host × (text ≡ planned_text (due_of_tasks tasks) (host.cores * ROUND)))
    ⊎ (¬ (HostHasPlan host) × (text ≡ unplanned_text (due_of_tasks tasks) (host.cores * ROUND)))

-- the text is the advice on this host, in which some vCPU has no room beside those that stay
abbrev pub IsStayText : Host → List ℕ → Type 0
IsStayText host text = TellsOfBudgets TellsOfPlan host text

-- the text says how this line of the plan text is wrong for the host with these budgets
abbrev pub TellsOfLine : List ℕ → ℕ → Host → List (Option Periodic) → List ℕ → Type 0
TellsOfLine plan line host tasks text =
    text ≡ plan_line_text plan line host.cores (names_of host.vcpus) tasks

-- the text is the advice on this line of the plan text, beside the host of this section
abbrev pub IsPlanLineAdvice : List ℕ → List ℕ → ℕ → List ℕ → Type 0
IsPlanLineAdvice section plan line text = TellsOfTasks section (TellsOfLine plan line) text

-- the text is one of which this holds; where there is no such text, nothing is written
abbrev pub WhereThereIs : (List ℕ → Type 0) → List ℕ → Type 0
WhereThereIs IsText text = IsText text ⊎ (((other : List ℕ) → ¬ (IsText other)) × (text ≡ []))

-- one advice after `plan stay`, and the other after any other words
abbrev pub WhetherToStay : List (List ℕ) → (List ℕ → Type 0) → (List ℕ → Type 0) → List ℕ → Type 0
WhetherToStay words IsText IsOther text =
    (IsCommand words PlanStay × IsText text) ⊎ (¬ (IsCommand words PlanStay) × IsOther text)

-- the advice on a vCPU of this host that finds no room
abbrev pub IsNoRoomAdvice : List (List ℕ) → Host → List ℕ → Type 0
IsNoRoomAdvice words host text =
    WhetherToStay words (WhereThereIs (IsStayText host)) (WhereThereIs (IsRoomText host)) text

-- the advice on this line of a plan text, which `plan stay` reads without its host
abbrev pub IsLineAdvice : List (List ℕ) → List ℕ → List ℕ → ℕ → List ℕ → Type 0
IsLineAdvice words section plan line text = WhetherToStay words
    (λ old. old ≡ old_line_text plan line) (WhereThereIs (IsPlanLineAdvice section plan line)) text

-- the advice on a key of the host: of a known one its line and what it has to be
abbrev pub IsHostKeyAdvice : List ℕ → Key → List ℕ → Type 0
IsHostKeyAdvice section Unknown text = WhereThereIs (IsOtherText section) text
IsHostKeyAdvice section key text = text ≡ rule_text section key

-- the advice on a key of the host, or of the vCPU of a number
abbrev pub IsKeyAdvice : List ℕ → Option ℕ → Key → List ℕ → Type 0
IsKeyAdvice section None key text = IsHostKeyAdvice section key text
IsKeyAdvice section (Some vcpu) key text = WhereThereIs (IsVcpuKeyText section vcpu key) text

-- the advice on the key of this path
abbrev pub IsPathAdvice : List ℕ → Path → List ℕ → Type 0
IsPathAdvice section path text = IsKeyAdvice section path.vcpu path.key text

-- the advice on a section that is no host
abbrev pub IsHostAdvice : List ℕ → HostFault → List ℕ → Type 0
IsHostAdvice section host.NotToml text = WhereThereIs (IsTomlText section) text
IsHostAdvice section (host.BadKey path) text = IsPathAdvice section path text
IsHostAdvice section (host.OutOfRange path) text = IsPathAdvice section path text
IsHostAdvice section (host.SameName vcpu) text = WhereThereIs (IsSameText section vcpu) text
IsHostAdvice section (host.TooMany count) text = text ≡ many_text section count
IsHostAdvice section host.NoMemory text = text ≡ []

-- the advice on what the line of the refusal tells whole
abbrev pub known_text : Refusal → List ℕ
known_text refusal.ReadFault = codes "tableau: standard input failed; a folder can't be read, nor what is closed\n"
known_text refusal.TooLong =
    codes "tableau: an input has at most 4194304 bytes; cut the script, or make the host smaller\n"
known_text refusal.TraceTooLong =
    codes "tableau: a run keeps 1048576 stints at most; take fewer rounds, or a longer lag or quantum,\ntableau: or the report alone: tableau run ROUNDS\n"
known_text refusal.WriteFault =
    codes "tableau: the output failed; what is there may be only the beginning of the answer\n"
known_text refusal.NoMemory = codes "tableau: memory ran out; take fewer rounds or a smaller host\n"
known_text other = []

-- the advice on a refusal for which the host isn't read again: words, lines and the refusal's own numbers tell it
abbrev pub plain_text : List (List ℕ) → List ℕ → Refusal → List ℕ
plain_text words input (refusal.Usage place) = usage_text words place
plain_text words input (refusal.BadSections found wanted) = sections_text input found wanted
plain_text words input (refusal.NoFit demand room) = room_text demand room
plain_text words input (refusal.BadShape core place) = shape_text core place
plain_text words input (refusal.Twice tick core other) = twice_text tick core other
plain_text words input (refusal.Short period_no got cost) = short_text period_no got cost
plain_text words input (refusal.Script fault) = script_fault_text (section_at 1 input) fault
plain_text words input (refusal.BadStep line) = bad_step_text (section_at 2 input) line
plain_text words input (refusal.NotNow line due) = due_text (section_at 2 input) line due
plain_text words input (refusal.Behind line who tick) = waits_text (section_at 2 input) line who tick
plain_text words input other = known_text other

-- the text is the advice on this refusal of these words with this input
abbrev pub IsAdvice : List (List ℕ) → List ℕ → Refusal → List ℕ → Type 0
IsAdvice words input (refusal.Host fault) text = IsHostAdvice (section_at 0 input) fault text
IsAdvice words input (refusal.NoPeriod vcpu) text =
    WhereThereIs (IsPeriodText (section_at 0 input) vcpu) text
IsAdvice words input (refusal.NoRoom host) text = IsNoRoomAdvice words host.now text
IsAdvice words input (refusal.BadPlanLine line) text =
    IsLineAdvice words (section_at 0 input) (section_at 1 input) line text
IsAdvice words input other text = text ≡ plain_text words input other

-- the call wrote a text of which this holds, or a prefix of it and the sink failed
pub record WritesSuch (IsText : List ℕ → Type 0) (old new : SinkView) (result : Result (Unit {0}) WriteFault)
    : Type 0 where
  pub text : List ℕ
  pub is : IsText text
  pub writes : Writes old new text result

-- the call wrote a text of which this holds, or a prefix of it and the sink failed, or memory ran out and
-- nothing was written
abbrev pub WritesSome : (List ℕ → Type 0) → SinkView → SinkView → Result (Unit {0}) AdviceFault → Type 0
WritesSome IsText old new (Ok done) = WritesSuch IsText old new (Ok done)
WritesSome IsText old new (Err (fault.Sink of_write)) = WritesSuch IsText old new (Err of_write)
WritesSome IsText old new (Err fault.NoMemory) = new ≡ old
