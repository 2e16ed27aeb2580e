-- The report of a run as JSON: an object in one line. Times are in nanoseconds, for a tick of so many.
-- Source: RFC 8259. Names need no escape.
use Rattle.std.specs.Prelude.{ℕ, ◌*◌, ◌++◌, List, [], codes, decimal, length, Option, Some, None, slice_get}
use Rattle.tab_words.specs.Texts.{texts_below}
use Rattle.view_cells.specs.CellTexts.{comma_before}
use Rattle.view_report.specs.declared.report.RunReport.{RunReport}
use Rattle.view_report.specs.declared.said.Became.{Became}
use Rattle.view_report.specs.declared.said.Became.TheVariants as became
use Rattle.view_report.specs.declared.said.CoreRan.{CoreRan}
use Rattle.view_report.specs.declared.said.PlanStart.{PlanStart}
use Rattle.view_report.specs.declared.said.ReportedChange.{ReportedChange}
use Rattle.view_report.specs.declared.said.VcpuRan.{VcpuRan}

-- ---- objects

-- the object of a change that was planned
unfoldable pub planned_json : ℕ → ℕ → List ℕ
planned_json tick at = codes "{\"at_ns\":" ++ (decimal (at * tick) ++ codes ",\"outcome\":\"planned\",\"vcpu\":null}")

-- the object of a change that was refused for this cause, of the vCPU of this name
unfoldable pub refused_json : ℕ → ℕ → List ℕ → List ℕ → List ℕ
refused_json tick at cause name = codes "{\"at_ns\":" ++ (decimal (at * tick) ++ (codes ",\"outcome\":\"" ++ (cause
    ++ (codes "\",\"vcpu\":\"" ++ (name ++ codes "\"}")))))

-- the object of what became of a change
abbrev pub outcome_json : ℕ → ℕ → Became → List ℕ
outcome_json tick at became.Planned = planned_json tick at
outcome_json tick at (became.NoPeriod name) = refused_json tick at (codes "no period") name.now
outcome_json tick at (became.NoRoom name) = refused_json tick at (codes "no room") name.now

-- the object of a change
abbrev pub change_json : ℕ → ReportedChange → List ℕ
change_json tick change = outcome_json tick change.tick change.became

-- the object of a round that begins with another plan
unfoldable pub plan_start_json : PlanStart → List ℕ
plan_start_json start = codes "{\"round\":" ++ (decimal start.round ++ (codes ",\"plan\":" ++ (decimal start.plan
    ++ codes "}")))

-- the object of a vCPU
unfoldable pub vcpu_ran_json : ℕ → VcpuRan → List ℕ
vcpu_ran_json tick ran = codes "{\"name\":\"" ++ (ran.name.now ++ (codes "\",\"offered_ns\":"
    ++ (decimal (ran.offered * tick) ++ (codes ",\"slots_ns\":" ++ (decimal (ran.slots * tick)
    ++ (codes ",\"shared_ns\":" ++ (decimal (ran.shared * tick) ++ (codes ",\"gap_ns\":" ++ (decimal (ran.gap * tick)
    ++ codes "}")))))))))

-- the object of a core
unfoldable pub core_ran_json : ℕ → CoreRan → List ℕ
core_ran_json tick ran = codes "{\"slots_ns\":" ++ (decimal (ran.slots * tick) ++ (codes ",\"shared_ns\":"
    ++ (decimal (ran.shared * tick) ++ (codes ",\"idle_ns\":" ++ (decimal (ran.idle * tick) ++ codes "}")))))

-- ---- arrays

-- the text of what is at a place of a list, if something is there
abbrev pub text_of_some : {A : Type 0} → (A → List ℕ) → Option A → List ℕ
text_of_some text None = []
text_of_some text (Some item) = text item

-- the item of a number in an array, with a comma before each but the first
abbrev pub array_item : {A : Type 0} → (A → List ℕ) → List A → ℕ → List ℕ
array_item text items n = comma_before n ++ text_of_some text (slice_get items n)

-- the items of an array
abbrev pub array_items : {A : Type 0} → (A → List ℕ) → List A → List ℕ
array_items text items = texts_below (array_item text items) (length items)

-- ---- the whole

-- the text up to the changes
unfoldable pub run_json_begin : ℕ → ℕ → ℕ → List ℕ
run_json_begin tick rounds events = codes "{\"form\":1,\"tick_ns\":" ++ (decimal tick ++ (codes ",\"rounds\":"
    ++ (decimal rounds ++ (codes ",\"events\":" ++ (decimal events ++ codes ",\"changes\":[")))))

-- what a run's report says
abbrev pub run_json : ℕ → RunReport → List ℕ
run_json tick report = run_json_begin tick report.rounds report.events
    ++ (array_items (change_json tick) report.changes.items ++ (codes "],\"plans\":["
    ++ (array_items plan_start_json report.plans.items ++ (codes "],\"vcpus\":["
    ++ (array_items (vcpu_ran_json tick) report.vcpus.items ++ (codes "],\"cores\":["
    ++ (array_items (core_ran_json tick) report.cores.items ++ codes "]}\n")))))))
