-- What a judge says of a trace as JSON: an object, in which the host's vCPUs are in their order.
-- Source: RFC 8259. Names need no escape.
use Rattle.std.specs.Prelude.{ℕ, Bool, true, false, ◌++◌, List, [], codes, decimal, length, Option, Some, None, slice_get}
use Rattle.tab_core.specs.declared.vcpu.Vcpu.{Vcpu}
use Rattle.tab_words.specs.Texts.{texts_below}
use Rattle.host_judge.specs.declared.report.LeastShare.{LeastShare}
use Rattle.host_judge.specs.declared.report.LongestWait.{LongestWait}
use Rattle.host_judge.specs.declared.report.Report.{Report}
use Rattle.host_judge.specs.declared.report.VcpuReport.{VcpuReport}
use Rattle.view_cells.specs.CellTexts.{comma_before}
use Rattle.view_judge.specs.Verdicts.{both_kept, unjudged_in, verdict_of}
use Rattle.view_judge.specs.declared.said.Verdict.{Verdict}
use Rattle.view_judge.specs.declared.said.Verdict.TheVariants.{Broken, Kept, Unjudged}

-- ---- the members of a vCPU's object

-- the members of a vCPU's name, and of how long it was in each state
unfoldable pub times_text : List ℕ → VcpuReport → List ℕ
times_text name report = codes "{\"name\":\"" ++ (name ++ (codes "\",\"run_ns\":" ++ (decimal report.run_ns
    ++ (codes ",\"wait_ns\":" ++ (decimal report.wait_ns ++ (codes ",\"block_ns\":" ++ (decimal report.block_ns
    ++ codes ",")))))))

-- the members of a longest wait
unfoldable pub longest_wait_json : LongestWait → List ℕ
longest_wait_json wait = codes "\"longest_wait_ns\":" ++ (decimal wait.ns ++ (codes ",\"longest_wait_at_ns\":"
    ++ (decimal wait.at_ns ++ codes ",")))

-- the members of the longest wait, which are null where there is none
abbrev pub longest_text : Option LongestWait → List ℕ
longest_text None = codes "\"longest_wait_ns\":null,\"longest_wait_at_ns\":null,"
longest_text (Some wait) = longest_wait_json wait

-- the member of how many waits were too long
unfoldable pub late_waits_json : ℕ → List ℕ
late_waits_json count = codes "\"late_waits\":" ++ (decimal count ++ codes ",")

-- the member of how many waits were too long, which is null where no latency was promised
abbrev pub late_text : Option ℕ → List ℕ
late_text None = codes "\"late_waits\":null,"
late_text (Some count) = late_waits_json count

-- the members of a least share
unfoldable pub least_share_json : LeastShare → List ℕ
least_share_json least = codes "\"least_share_ppm\":" ++ (decimal least.share_ppm ++ (codes ",\"least_share_at_ns\":"
    ++ (decimal least.at_ns ++ codes ",")))

-- the members of the least share of a window, which are null where there is none
abbrev pub least_text : Option LeastShare → List ℕ
least_text None = codes "\"least_share_ppm\":null,\"least_share_at_ns\":null,"
least_text (Some least) = least_share_json least

-- the member of the share of a window that is owed
unfoldable pub owed_share_json : ℕ → List ℕ
owed_share_json ppm = codes "\"owed_share_ppm\":" ++ (decimal ppm ++ codes ",")

-- the member of the share of a window that is owed, which is null where nothing is
abbrev pub owed_text : Option ℕ → List ℕ
owed_text None = codes "\"owed_share_ppm\":null,"
owed_text (Some ppm) = owed_share_json ppm

-- an answer, which is null where nothing was judged
abbrev pub answer_text : Option Bool → List ℕ
answer_text None = codes "null"
answer_text (Some true) = codes "true"
answer_text (Some false) = codes "false"

-- the members of whether the share, the waits and both were as promised, which end a vCPU's object
unfoldable pub answers_json : List ℕ → List ℕ → List ℕ → List ℕ
answers_json share waits kept = codes "\"share_kept\":" ++ (share ++ (codes ",\"waits_kept\":" ++ (waits
    ++ (codes ",\"kept\":" ++ (kept ++ codes "}")))))

-- these members of a vCPU
abbrev pub answers_text : VcpuReport → List ℕ
answers_text report = answers_json (answer_text report.share_kept) (answer_text report.waits_kept)
    (answer_text (both_kept report.waits_kept report.share_kept))

-- the object of the vCPU of this name, of which this is reported
abbrev pub vcpu_object : List ℕ → VcpuReport → List ℕ
vcpu_object name report = times_text name report ++ (longest_text report.longest ++ (late_text report.late
    ++ (least_text report.least ++ (owed_text report.owed_ppm ++ answers_text report))))

-- ---- the whole

-- the object of a vCPU of which something is said
abbrev pub said_of : List ℕ → Option VcpuReport → List ℕ
said_of name None = []
said_of name (Some report) = vcpu_object name report

-- the object of a vCPU, if there is one of which something is reported
abbrev pub object_of : Option Vcpu → Option VcpuReport → List ℕ
object_of None report = []
object_of (Some vcpu) report = said_of vcpu.name report

-- what is there for the vCPU of a number
abbrev pub entry_text : List Vcpu → List VcpuReport → ℕ → List ℕ
entry_text vcpus reports v = comma_before v ++ object_of (slice_get vcpus v) (slice_get reports v)

-- whether all was kept, which is null where a vCPU wasn't judged
abbrev pub verdict_json : Verdict → List ℕ
verdict_json Kept = codes "true"
verdict_json (Unjudged count) = codes "null"
verdict_json Broken = codes "false"

-- the members of a whole trace: the length of a window, whether all was kept, and how many vCPUs have a promise that
-- wasn't judged
unfoldable pub judgement_json_begin : ℕ → List ℕ → ℕ → List ℕ
judgement_json_begin window kept unjudged = codes "{\"form\":2,\"window_ns\":" ++ (decimal window
    ++ (codes ",\"kept\":" ++ (kept ++ (codes ",\"unjudged_vcpus\":" ++ (decimal unjudged ++ codes ",")))))

-- the members of how many lines put two vCPUs on one CPU, put a vCPU on two CPUs, have a time that falls, and are of
-- a vCPU that the host doesn't have; then what begins the vCPUs
unfoldable pub line_counts_json : ℕ → ℕ → ℕ → ℕ → List ℕ
line_counts_json shared doubled falls unknown = codes "\"shared_cpu_lines\":" ++ (decimal shared
    ++ (codes ",\"two_cpu_lines\":" ++ (decimal doubled ++ (codes ",\"falling_lines\":" ++ (decimal falls
    ++ (codes ",\"unknown_vcpu_lines\":" ++ (decimal unknown ++ codes ",\"vcpus\":[")))))))

-- the vCPUs of which something is reported, and the end
abbrev pub judgement_json_vcpus : List Vcpu → List VcpuReport → List ℕ
judgement_json_vcpus vcpus reports = texts_below (entry_text vcpus reports) (length reports) ++ codes "]}\n"

-- what a judge reports of a host's vCPUs, as JSON
abbrev pub judgement_json : List Vcpu → Report → List ℕ
judgement_json vcpus report = judgement_json_begin report.window_ns (verdict_json (verdict_of report))
    (unjudged_in report.vcpus.items) ++ (line_counts_json report.shared.count report.doubled.count report.falls.count report.unknown.count
    ++ judgement_json_vcpus vcpus report.vcpus.items)
