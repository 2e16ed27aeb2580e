-- Why a trace isn't judged.
use Rattle.std.specs.Prelude.{◌≡◌, ℕ, ◌^◌, ◌≤◌, List, length}
use Rattle.host_trace.specs.TraceLines.{IsFirstBadTraceLine, TraceRow, rows_from}
use Rattle.host_judge.specs.declared.fault.JudgeFault.{JudgeFault}
use Rattle.host_judge.specs.declared.fault.JudgeFault.TheVariants.{BadLine, ReadFault, TooLong, NoMemory}

-- a row
abbrev pub trace_row : ℕ → List ℕ → TraceRow
trace_row number text = record { number = number; text = text }

-- the fault is that of these lines: the first that says nothing, or there are too many of them
abbrev pub IsFaultIn : List (List ℕ) → List (List ℕ) → JudgeFault → Type 0
IsFaultIn names lines (BadLine number text) = IsFirstBadTraceLine names (rows_from 1 lines) (trace_row number text.items)
IsFaultIn names lines TooLong = 2 ^ 64 ≤ length lines
IsFaultIn names lines ReadFault = ⊥
IsFaultIn names lines NoMemory = Unit {0}

-- the fault of a bad line, or out of memory
abbrev pub IsBadLine : ℕ → List ℕ → JudgeFault → Type 0
IsBadLine line bytes (BadLine number text) = (number ≡ line) × (text.items ≡ bytes)
IsBadLine line bytes NoMemory = Unit {0}
IsBadLine line bytes ReadFault = ⊥
IsBadLine line bytes TooLong = ⊥
