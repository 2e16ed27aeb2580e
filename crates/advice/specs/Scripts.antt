-- The advice on a script: its first bad line, and what is wrong with it.
use Rattle.std.specs.Prelude.{ℕ, List, [], ◌++◌, codes, decimal}
use Rattle.script_doc.specs.declared.script_fault.ScriptFault.{ScriptFault}
use Rattle.script_doc.specs.declared.script_fault.ScriptFault.TheVariants as script
use Rattle.advice.specs.Lines.{line_at}
use Rattle.advice.specs.Mistaken.{kind_of_script_line, script_kind_text}
use Rattle.advice.specs.Parts.{quoted}

-- the line of this number in quotes, and after it what is wrong
abbrev pub script_line_text : List ℕ → ℕ → List ℕ → List ℕ
script_line_text text number what = codes "tableau: script line "
    ++ (decimal number ++ (codes ", " ++ (quoted (line_at number text) ++ (codes ": " ++ (what ++ codes "\n")))))

-- what is wrong with a line that is none of a script: what it is of, or the form that is wanted
abbrev pub bad_line_words : List ℕ → List ℕ
bad_line_words line = script_kind_text (kind_of_script_line line)
    (codes "wanted is TICK wake NAME, TICK block NAME, TICK burst NAME WORK, or TICK change and edits,\ntableau: each set NAME PPM NS or leave NAME; a tick is a whole number (5 ms are 4995), a comment\ntableau: has a line of its own, and lines end in LF alone")

-- the advice on a fault of a script: its line, and what is wrong there; nothing where memory ran out
abbrev pub script_fault_text : List ℕ → ScriptFault → List ℕ
script_fault_text text (script.BadLine line) = script_line_text text line (bad_line_words (line_at line text))
script_fault_text text (script.UnknownName line) = script_line_text text line
    (codes "its name is no vCPU's of the host;\ntableau: name the vCPU there, with admitted = false where it has no reservation yet")
script_fault_text text (script.OutOfOrder line) = script_line_text text line
    (codes "its tick is below that of the event before;\ntableau: put the events in the order of their ticks")
script_fault_text text (script.LateEvent line) = script_line_text text line
    (codes "its tick isn't below the run's end,\ntableau: which is at 102600 for each round")
script_fault_text text (script.TooManyEvents line) = script_line_text text line
    (codes "a script has at most 65535 events; leave some out")
script_fault_text text (script.TooManyChanges line) = script_line_text text line
    (codes "a script has at most 15 changes;\ntableau: leave some out, or join the edits of several in one")
script_fault_text text script.NoMemory = []
