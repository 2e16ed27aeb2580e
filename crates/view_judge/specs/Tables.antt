-- The tables of what a judge says: how long each vCPU ran and waited beside what it was promised, and what is wrong with
-- the trace itself.
use Rattle.std.specs.Prelude.{ℕ, ◌==◌, Bool, true, false, if◌then◌else◌, ◌++◌, List, [], codes, decimal, length, Option, Some, None, slice_get}
use Rattle.tab_core.specs.declared.reservation.Reservation.{Reservation}
use Rattle.tab_core.specs.declared.vcpu.Vcpu.{Vcpu}
use Rattle.tab_words.specs.Texts.{texts_below}
use Rattle.view_cells.specs.Cells.{left, millis_cell, width_below}
use Rattle.host_judge.specs.declared.report.LineCount.{LineCount}
use Rattle.host_judge.specs.declared.report.Report.{Report}
use Rattle.host_judge.specs.declared.report.VcpuReport.{VcpuReport}
use Rattle.vcpu_names.specs.Names.{names_of}
use Rattle.view_judge.specs.Cells.{begin_cell, cpu_cell, judged_asked_cell, judged_promised_cell, kept_cell, late_cell, least_cell, longest_cell, owed_cell, window_cell}
use Rattle.view_judge.specs.Verdicts.{is_any_seen, verdict_of}
use Rattle.view_judge.specs.declared.said.Verdict.{Verdict}
use Rattle.view_judge.specs.declared.said.Verdict.TheVariants.{Broken, Kept, Unjudged}

-- what parts a column from the one before
abbrev pub gap : List ℕ
gap = codes "  "

-- ---- shares

-- the row that names the columns of shares, after names in a column of so many bytes
unfoldable pub share_head : ℕ → List ℕ
share_head width = left width (codes "vcpu")
    ++ codes "       run ms      wait ms     block ms   asked %    owed %   least %       from ms        kept\n"

-- how long a vCPU was in each state, the share that it asked for, what it is owed of a window, its least share of a
-- window with the window's begin, and whether that is what it is owed
unfoldable pub share_cells : ℕ → List ℕ → Option Reservation → VcpuReport → List ℕ
share_cells width name reserved report = left width name
    ++ (gap ++ (millis_cell 7 report.run_ns
    ++ (gap ++ (millis_cell 7 report.wait_ns
    ++ (gap ++ (millis_cell 7 report.block_ns
    ++ (gap ++ (judged_asked_cell reserved
    ++ (gap ++ (owed_cell report.owed_ppm
    ++ (gap ++ (least_cell report.least
    ++ (gap ++ (window_cell report.least
    ++ (gap ++ (kept_cell report.share_kept ++ codes "\n"))))))))))))))))

-- the row of a vCPU of which something is said
abbrev pub share_said : ℕ → Vcpu → Option VcpuReport → List ℕ
share_said width vcpu None = []
share_said width vcpu (Some report) = share_cells width vcpu.name vcpu.reservation report

-- the row of shares of a vCPU, if there is one of which something is reported
abbrev pub share_row_of : ℕ → Option Vcpu → Option VcpuReport → List ℕ
share_row_of width None report = []
share_row_of width (Some vcpu) report = share_said width vcpu report

-- the row of the vCPU of a number
abbrev pub share_row : ℕ → List Vcpu → List VcpuReport → ℕ → List ℕ
share_row width vcpus reports v = share_row_of width (slice_get vcpus v) (slice_get reports v)

-- ---- waits

-- the row that names the columns of waits, after names in a column of so many bytes
unfoldable pub wait_head : ℕ → List ℕ
wait_head width = codes "\n" ++ (left width (codes "vcpu")
    ++ codes "   longest ms       from ms   cpu  promised ms   late        kept\n")

-- the longest wait of a vCPU with its begin and the CPU where it had been, what it was promised, how many waits were
-- longer, and whether none was
unfoldable pub wait_cells : ℕ → List ℕ → Option Reservation → VcpuReport → List ℕ
wait_cells width name reserved report = left width name
    ++ (gap ++ (longest_cell report.longest
    ++ (gap ++ (begin_cell report.longest
    ++ (gap ++ (cpu_cell report.longest
    ++ (gap ++ (judged_promised_cell reserved
    ++ (gap ++ (late_cell report.late
    ++ (gap ++ (kept_cell report.waits_kept ++ codes "\n"))))))))))))

-- the row of a vCPU of which something is said
abbrev pub wait_said : ℕ → Vcpu → Option VcpuReport → List ℕ
wait_said width vcpu None = []
wait_said width vcpu (Some report) = wait_cells width vcpu.name vcpu.reservation report

-- the row of waits of a vCPU, if there is one of which something is reported
abbrev pub wait_row_of : ℕ → Option Vcpu → Option VcpuReport → List ℕ
wait_row_of width None report = []
wait_row_of width (Some vcpu) report = wait_said width vcpu report

-- the row of the vCPU of a number
abbrev pub wait_row : ℕ → List Vcpu → List VcpuReport → ℕ → List ℕ
wait_row width vcpus reports v = wait_row_of width (slice_get vcpus v) (slice_get reports v)

-- ---- the whole

-- the words for whether all was kept
abbrev pub verdict_words : Verdict → List ℕ
verdict_words Kept = codes "kept"
verdict_words (Unjudged count) = codes "kept"
verdict_words Broken = codes "not kept"

-- when the trace ends, how long a window is, and whether all was kept
unfoldable pub verdict_text : ℕ → ℕ → List ℕ → List ℕ
verdict_text end window kept = codes "\ntrace up to " ++ (millis_cell 0 end
    ++ (codes " ms, in windows of " ++ (millis_cell 0 window ++ (codes " ms: " ++ kept))))

-- what is before and after the count of those that weren't judged, which may be one
abbrev pub shares_of : ℕ → List ℕ
shares_of count = if count == 1 then codes ", and the share of " else codes ", and the shares of "

abbrev pub were_of : ℕ → List ℕ
were_of count = if count == 1 then codes " vCPU was not judged\n" else codes " vCPUs were not judged\n"

-- a count between words
unfoldable pub unjudged_by : List ℕ → ℕ → List ℕ → List ℕ
unjudged_by shares count were = shares ++ (decimal count ++ were)

-- how many vCPUs weren't judged
abbrev pub unjudged_text : ℕ → List ℕ
unjudged_text count = unjudged_by (shares_of count) count (were_of count)

-- what comes after the words for whether all was kept
abbrev pub verdict_end : Verdict → List ℕ
verdict_end Kept = codes "\n"
verdict_end (Unjudged count) = unjudged_text count
verdict_end Broken = codes "\n"

-- how many lines are of a kind, and the first of them
unfoldable pub line_text : List ℕ → ℕ → ℕ → List ℕ
line_text kind count first = kind ++ (codes ": " ++ (decimal count ++ (codes ", the first is line " ++ (decimal first
    ++ codes "\n"))))

-- the line of lines of a kind: how many there are, and the first of them; nothing where there is none
abbrev pub first_text : List ℕ → ℕ → Option ℕ → List ℕ
first_text kind count None = []
first_text kind count (Some first) = line_text kind count first

-- the line of lines of a kind, and nothing where there is no such line
abbrev pub line_count_text : List ℕ → LineCount → List ℕ
line_count_text kind lines = first_text kind lines.count lines.first

-- the name of lines after which two vCPUs run on one CPU
abbrev pub shared_kind : List ℕ
shared_kind = codes "lines that put two vCPUs on one CPU"

-- the name of lines after which one vCPU runs on two CPUs
abbrev pub doubled_kind : List ℕ
doubled_kind = codes "lines that put a vCPU on two CPUs"

-- the name of lines whose time is before that of an earlier line
abbrev pub fall_kind : List ℕ
fall_kind = codes "lines whose time falls"

-- the name of lines of vCPUs that the host doesn't have
abbrev pub unknown_kind : List ℕ
unknown_kind = codes "lines of a vCPU that the host doesn't have"

-- the line that says that none of the host's vCPUs was seen, and nothing where one was
abbrev pub unseen_text : Bool → List ℕ
unseen_text true = []
unseen_text false = codes "no vCPU of the host ran, waited or was blocked\n"

-- what is wrong with the trace itself
abbrev pub lines_text : Report → List ℕ
lines_text report = unseen_text (is_any_seen report.vcpus.items) ++ (line_count_text shared_kind report.shared
    ++ (line_count_text doubled_kind report.doubled ++ (line_count_text fall_kind report.falls
    ++ line_count_text unknown_kind report.unknown)))

-- the tables of shares and of waits, with names in a column of so many bytes
abbrev pub rows_text : ℕ → List Vcpu → List VcpuReport → List ℕ
rows_text width vcpus reports = share_head width ++ (texts_below (share_row width vcpus reports) (length reports)
    ++ (wait_head width ++ texts_below (wait_row width vcpus reports) (length reports)))

-- what is after the tables: the verdict, and what is wrong with the lines of the trace
abbrev pub judgement_end : Verdict → Report → List ℕ
judgement_end verdict report = verdict_text report.end_ns report.window_ns (verdict_words verdict)
    ++ (verdict_end verdict ++ lines_text report)

-- the tables and the end of a report, with names in a column of so many bytes
abbrev pub tables_of : ℕ → Verdict → List Vcpu → Report → List ℕ
tables_of width verdict vcpus report = rows_text width vcpus report.vcpus.items ++ judgement_end verdict report

-- what a judge reports of a host's vCPUs, as tables
abbrev pub tables_text : List Vcpu → Report → List ℕ
tables_text vcpus report = tables_of (width_below (names_of vcpus) (length vcpus)) (verdict_of report) vcpus report
