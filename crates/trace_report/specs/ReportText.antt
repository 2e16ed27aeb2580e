-- The text of a report, as lines. The form is this project's own.
use Rattle.std.specs.Prelude.{ℕ, List, [], ◌∷◌, ◌++◌, codes, decimal, flat_map, length, slice_index_or}
use Rattle.tab_core.specs.declared.host.Host.{Host}
use Rattle.tab_words.specs.Texts.{line_of, texts_below}
use Rattle.vcpu_names.specs.Names.{name_at, names_of}
use Rattle.run_counts.specs.declared.round_plan.RoundPlan.{RoundPlan}
use Rattle.plan_book.specs.declared.outcome.Outcome.{Outcome}
use Rattle.plan_book.specs.declared.outcome.Outcome.TheVariants.{Planned, NoPeriod, NoRoom}
use Rattle.trace_report.specs.declared.ticks.VcpuTicks.{VcpuTicks}
use Rattle.trace_report.specs.declared.ticks.CoreTicks.{CoreTicks}
use Rattle.trace_report.specs.ReportViews.{ReportView, core_ticks_at, vcpu_at}

-- the first line: how many rounds, cores and events the run has
unfoldable pub run_line : ℕ → ℕ → ℕ → List ℕ
run_line rounds cores events = line_of
    (codes "run" ∷ decimal rounds ∷ codes "rounds" ∷ decimal cores ∷ codes "cores"
    ∷ decimal events ∷ codes "events" ∷ [])

-- what became of a change
abbrev pub outcome_text : List (List ℕ) → Outcome → List ℕ
outcome_text names Planned = codes "planned"
outcome_text names (NoPeriod vcpu) = codes "no period for " ++ name_at names vcpu
outcome_text names (NoRoom vcpu) = codes "no room for " ++ name_at names vcpu

-- the line of change k of the script, which is at this tick and of which this is reported
unfoldable pub line_of_change : ℕ → ℕ → List ℕ → List ℕ
line_of_change k tick told = codes "change "
    ++ (decimal k ++ (codes " at " ++ (decimal tick ++ (codes ": " ++ (told ++ codes "\n")))))

-- the line of change k of the script, which is at this tick
abbrev pub change_line : List (List ℕ) → ℕ → ℕ → Outcome → List ℕ
change_line names k tick outcome = line_of_change k tick (outcome_text names outcome)

-- the line of change k out of a list of changes, each with its tick
abbrev pub change_at : List (List ℕ) → List (ℕ × Outcome) → ℕ → List ℕ
change_at names changes k =
    (let change = slice_index_or changes k (0, Planned) in change_line names k change.0 change.1)

-- the line of a round that begins with another plan
unfoldable pub round_line : RoundPlan → List ℕ
round_line r = line_of (codes "round" ∷ decimal r.round ∷ codes "plan" ∷ decimal r.plan ∷ [])

-- the line of a vCPU of this name
unfoldable pub vcpu_line : List ℕ → VcpuTicks → List ℕ
vcpu_line name t = line_of
    (codes "vcpu" ∷ name ∷ codes "offered" ∷ decimal t.offered ∷ codes "slots" ∷ decimal t.slots
    ∷ codes "shared" ∷ decimal t.shared ∷ codes "gap" ∷ decimal t.gap ∷ [])

-- the line of a core
unfoldable pub core_line : ℕ → CoreTicks → List ℕ
core_line c t = line_of
    (codes "core" ∷ decimal c ∷ codes "slots" ∷ decimal t.slots ∷ codes "shared" ∷ decimal t.shared
    ∷ codes "idle" ∷ decimal t.idle ∷ [])

-- the last line
unfoldable pub done_line : List ℕ
done_line = line_of (codes "done" ∷ [])

-- the text of a report, for the vCPUs and cores of a host: a line for each change of the script with what
-- became of it, for each round that begins with another plan, for each vCPU and for each core
abbrev pub report_text : Host → List (ℕ × Outcome) → ℕ → ℕ → ReportView → List ℕ
report_text host changes events rounds report =
    run_line rounds host.cores events
    ++ (texts_below (change_at (names_of host.vcpus) changes) (length changes)
    ++ (flat_map round_line report.plans
    ++ (texts_below (λ v. vcpu_line (name_at (names_of host.vcpus) v) (vcpu_at report.vcpus v))
    (length host.vcpus)
    ++ (texts_below (λ c. core_line c (core_ticks_at report.cores c)) host.cores
    ++ done_line))))
