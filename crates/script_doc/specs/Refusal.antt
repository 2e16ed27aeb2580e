-- The lines of the refusals of a script and of a list of steps: `refused: ` and the fault in words.
use Rattle.std.specs.Prelude.{ℕ, List, [], ◌++◌, codes, decimal}
use Rattle.script_doc.specs.declared.script_fault.ScriptFault.{ScriptFault}
use Rattle.script_doc.specs.declared.script_fault.ScriptFault.TheVariants as script

-- out of memory is no fault of the text, and has no line here
abbrev pub script_fault_line : ScriptFault → List ℕ
script_fault_line (script.BadLine line) = codes "refused: script line " ++ (decimal line ++ codes "\n")
script_fault_line (script.UnknownName line) =
    codes "refused: unknown name in script line " ++ (decimal line ++ codes "\n")
script_fault_line (script.OutOfOrder line) =
    codes "refused: script line " ++ (decimal line ++ codes " goes back\n")
script_fault_line (script.LateEvent line) =
    codes "refused: script line " ++ (decimal line ++ codes " is past the run\n")
script_fault_line (script.TooManyEvents line) =
    codes "refused: more than 65535 events at script line " ++ (decimal line ++ codes "\n")
script_fault_line (script.TooManyChanges line) =
    codes "refused: more than 15 changes at script line " ++ (decimal line ++ codes "\n")
script_fault_line script.NoMemory = []

-- the first line that is no step has this number
abbrev pub steps_fault_line : ℕ → List ℕ
steps_fault_line line = codes "refused: steps line " ++ (decimal line ++ codes "\n")
