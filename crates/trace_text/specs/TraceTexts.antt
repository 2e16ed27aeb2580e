-- The lines of a host's trace as they are written.
-- Source: TraceLines.antt of the crate host_trace, which has what a line says.
use Rattle.std.specs.Prelude.{ℕ, ◌++◌, List, codes, decimal, Option, Some, None}
use Rattle.host_trace.specs.TraceLines.{state_word}
use Rattle.host_trace.specs.declared.mark.State.{State}

-- the first line, which names the columns
abbrev pub trace_head : List ℕ
trace_head = codes "TIME_NS,VCPU,STATE,CPU\n"

-- the end of a line: the number of the CPU, if one is named
abbrev pub line_end : Option ℕ → List ℕ
line_end None = codes "\n"
line_end (Some cpu) = codes "," ++ (decimal cpu ++ codes "\n")

-- the line that says of the vCPU of a name: from a time on it is in a state, on a CPU if one is named
unfoldable pub trace_line : ℕ → List ℕ → State → Option ℕ → List ℕ
trace_line time name state cpu = decimal time ++ (codes "," ++ (name ++ (codes ","
    ++ (state_word state ++ line_end cpu))))
