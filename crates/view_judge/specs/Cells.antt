-- The cells of the tables of a judgement: numbers, or a dash where there is none.
use Rattle.std.specs.Prelude.{ℕ, Bool, List, codes, Option, Some, None}
use Rattle.view_cells.specs.Cells.{count_cell, millis_cell, percent_cell, right, yes_or_no}
use Rattle.tab_core.specs.declared.reservation.Reservation.{Reservation}
use Rattle.host_judge.specs.declared.report.LeastShare.{LeastShare}
use Rattle.host_judge.specs.declared.report.LongestWait.{LongestWait}

-- the share that a vCPU asked for, in percent, or a dash
abbrev pub judged_asked_cell : Option Reservation → List ℕ
judged_asked_cell None = right 8 (codes "-")
judged_asked_cell (Some r) = percent_cell 3 r.share_ppm

-- the share of a window that a vCPU is owed, in percent, or a dash
abbrev pub owed_cell : Option ℕ → List ℕ
owed_cell None = right 8 (codes "-")
owed_cell (Some ppm) = percent_cell 3 ppm

-- whether a promise was kept, or that it wasn't judged
abbrev pub kept_cell : Option Bool → List ℕ
kept_cell None = right 10 (codes "not judged")
kept_cell (Some kept) = right 10 (yes_or_no kept)

-- the latency that a vCPU was promised, in milliseconds, or a dash
abbrev pub judged_promised_cell : Option Reservation → List ℕ
judged_promised_cell None = right 11 (codes "-")
judged_promised_cell (Some r) = millis_cell 7 r.latency_ns

-- the least share of a window, in percent, or a dash
abbrev pub least_cell : Option LeastShare → List ℕ
least_cell None = right 8 (codes "-")
least_cell (Some least) = percent_cell 3 least.share_ppm

-- when the window of the least share begins, in milliseconds, or a dash
abbrev pub window_cell : Option LeastShare → List ℕ
window_cell None = right 12 (codes "-")
window_cell (Some least) = millis_cell 8 least.at_ns

-- the longest wait, in milliseconds, or a dash
abbrev pub longest_cell : Option LongestWait → List ℕ
longest_cell None = right 11 (codes "-")
longest_cell (Some wait) = millis_cell 7 wait.ns

-- when the longest wait begins, in milliseconds, or a dash
abbrev pub begin_cell : Option LongestWait → List ℕ
begin_cell None = right 12 (codes "-")
begin_cell (Some wait) = millis_cell 8 wait.at_ns

-- the number of a CPU, or a dash
abbrev pub number_cell : Option ℕ → List ℕ
number_cell None = right 4 (codes "-")
number_cell (Some cpu) = count_cell 4 cpu

-- the CPU that was named last by the time the longest wait began, or a dash
abbrev pub cpu_cell : Option LongestWait → List ℕ
cpu_cell None = right 4 (codes "-")
cpu_cell (Some wait) = number_cell wait.cpu

-- how many waits were too long, or a dash
abbrev pub late_cell : Option ℕ → List ℕ
late_cell None = right 5 (codes "-")
late_cell (Some count) = count_cell 5 count
