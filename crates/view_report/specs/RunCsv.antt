-- The vCPUs and cores of a run's report as comma-separated values. Times are in nanoseconds, for a tick of so many.
-- Source: RFC 4180, but for the line ends. Names need no quotes.
use Rattle.std.specs.Prelude.{ℕ, ◌*◌, ◌++◌, List, codes, decimal, flat_map, length, slice_get}
use Rattle.tab_words.specs.Texts.{texts_below}
use Rattle.view_report.specs.RunJson.{text_of_some}
use Rattle.view_report.specs.declared.report.RunReport.{RunReport}
use Rattle.view_report.specs.declared.said.CoreRan.{CoreRan}
use Rattle.view_report.specs.declared.said.VcpuRan.{VcpuRan}

-- the names of the columns: whether the row is that of a vCPU or of a core, and its name or number
abbrev pub run_csv_head : List ℕ
run_csv_head = codes "kind,name,offered_ns,slots_ns,shared_ns,gap_ns,idle_ns\n"

-- the row of a vCPU, which never idles
unfoldable pub vcpu_ran_csv : ℕ → VcpuRan → List ℕ
vcpu_ran_csv tick ran = codes "vcpu," ++ (ran.name.now ++ (codes "," ++ (decimal (ran.offered * tick)
    ++ (codes "," ++ (decimal (ran.slots * tick) ++ (codes "," ++ (decimal (ran.shared * tick)
    ++ (codes "," ++ (decimal (ran.gap * tick) ++ codes ",\n")))))))))

-- the row of the core of a number, to which nothing is offered
unfoldable pub core_ran_csv : ℕ → ℕ → CoreRan → List ℕ
core_ran_csv tick number ran = codes "core," ++ (decimal number ++ (codes ",," ++ (decimal (ran.slots * tick)
    ++ (codes "," ++ (decimal (ran.shared * tick) ++ (codes ",," ++ (decimal (ran.idle * tick) ++ codes "\n")))))))

-- the row of the core of a number, if the report has one
abbrev pub core_ran_row : ℕ → List CoreRan → ℕ → List ℕ
core_ran_row tick cores number = text_of_some (core_ran_csv tick number) (slice_get cores number)

-- what a run's report says of vCPUs and cores
abbrev pub run_csv : ℕ → RunReport → List ℕ
run_csv tick report = run_csv_head ++ (flat_map (vcpu_ran_csv tick) report.vcpus.items
    ++ texts_below (core_ran_row tick report.cores.items) (length report.cores.items))
