-- The advice on a plan text: the line that is found and the one that is wanted, and what its tables break.
use Rattle.std.specs.Prelude.{ℕ, Bool, false, ◌+◌, ◌-◌, ◌&&◌, nat_le, nat_lt, if◌then◌else◌, List, [], ◌∷◌, ◌++◌, bytes_eq, codes, decimal, length, slice_get, Option, Some, None}
use Rattle.tab_core.specs.declared.periodic.Periodic.{Periodic}
use Rattle.tab_words.specs.Lines.{lines_of}
use Rattle.tab_words.specs.Words.{words_of}
use Rattle.vcpu_names.specs.Names.{name_at}
use Rattle.advice.specs.Lines.{line_at}
use Rattle.advice.specs.Mistaken.{kind_of_plan_line, plan_kind_text}
use Rattle.advice.specs.Parts.{quoted}
use Rattle.advice.specs.declared.plan_lines.BadLine.{BadLine}
use Rattle.advice.specs.declared.plan_lines.BadLine.TheVariants.{Truncated, Trailing, Unwanted}

-- the numbers and the budgets of the admitted vCPUs, of which the first may have this number
abbrev pub admitted_from : ℕ → List (Option Periodic) → List (ℕ × Periodic)
admitted_from number [] = []
admitted_from number (None ∷ tasks) = admitted_from (number + 1) tasks
admitted_from number (Some task ∷ tasks) = (number, task) ∷ admitted_from (number + 1) tasks

-- these are the words of a plan text's last line
abbrev pub are_end : List (List ℕ) → Bool
are_end (word ∷ []) = bytes_eq word (codes "end")
are_end words = false

-- the line before that of this number, from 1, is the line `end`
abbrev pub is_after_end : ℕ → List ℕ → Bool
is_after_end number plan = nat_lt 1 number && are_end (words_of (line_at (number - 1) plan))

-- how a line is wrong, where there is one, before which the plan may have ended
abbrev pub bad_after : Bool → Option (List ℕ) → BadLine
bad_after ended None = Truncated
bad_after ended (Some line) = if ended then Trailing else Unwanted

-- how the line of this number, from 1, of a plan text is wrong
abbrev pub bad_line : ℕ → List ℕ → BadLine
bad_line number plan = bad_after (is_after_end number plan) (slice_get (lines_of plan) (number - 1))

-- the advice on a plan text that stops before the line of this number, from 1
abbrev pub truncated_text : ℕ → List ℕ
truncated_text number = codes "tableau: the plan text stops before its line "
    ++ (decimal number ++ codes "; a whole one ends with the line end\n")

-- the advice on the line of this number, from 1, that follows the line `end`
abbrev pub trailing_text : ℕ → List ℕ → List ℕ
trailing_text number line = codes "tableau: plan line "
    ++ (decimal number ++ (codes " is " ++ (quoted line ++ codes ", and nothing follows the line end\n")))

-- the advice on a plan text whose line of this number, from 1, is wrong; `unwanted` is what is said where another
-- line is wanted there
abbrev pub bad_line_text : BadLine → ℕ → List ℕ → List ℕ → List ℕ
bad_line_text Truncated number line unwanted = truncated_text number
bad_line_text Trailing number line unwanted = trailing_text number line
bad_line_text Unwanted number line unwanted = unwanted

-- the line of this number, from 1, that isn't wanted, in quotes, and what it may be
abbrev pub found_line_text : ℕ → List ℕ → List ℕ
found_line_text number line = codes "tableau: plan line "
    ++ (decimal number ++ (codes " is " ++ (quoted line
    ++ (plan_kind_text (kind_of_plan_line line) (codes "; was the host changed since the plan was made?")
    ++ codes "\n"))))

-- the first line of a plan text
abbrev pub wanted_head_text : ℕ → ℕ → List ℕ
wanted_head_text cores admitted = codes "tableau: wanted is plan cores "
    ++ (decimal cores ++ (codes " vcpus " ++ (decimal admitted ++ codes "\n")))

-- the line of a vCPU of this name and budget
abbrev pub wanted_vcpu_text : List ℕ → Periodic → List ℕ
wanted_vcpu_text name task = codes "tableau: wanted is vcpu "
    ++ (name ++ (codes " period " ++ (decimal task.period ++ (codes " cost "
    ++ (decimal task.cost ++ codes " home CORE\n")))))

-- the lines of the tables
abbrev pub wanted_table_text : List ℕ
wanted_table_text =
    codes "tableau: wanted is END NAME or END - of a segment, core C before the first of each core, or the last line end\n"

-- what is wanted after a plan text's first line: the line of this admitted vCPU, or where none is left,
-- of the tables
abbrev pub behind_head : List (List ℕ) → Option (ℕ × Periodic) → List ℕ
behind_head names (Some admitted) = wanted_vcpu_text (name_at names admitted.0) admitted.1
behind_head names None = wanted_table_text

-- the line of this number: the first one, that of the admitted vCPU so far after it, or one of the tables
abbrev pub wanted_line_text : ℕ → ℕ → List (List ℕ) → List (Option Periodic) → List ℕ
wanted_line_text number cores names tasks = if nat_le number 1
    then wanted_head_text cores (length (admitted_from 0 tasks))
    else behind_head names (slice_get (admitted_from 0 tasks) (number - 2))

-- the line of this number, from 1, that isn't wanted, and the one that is
abbrev pub unwanted_text : ℕ → List ℕ → ℕ → List (List ℕ) → List (Option Periodic) → List ℕ
unwanted_text number line cores names tasks = found_line_text number line ++ wanted_line_text number cores names tasks

-- the advice on a plan text whose line of this number, from 1, is wrong for a host
abbrev pub plan_line_text : List ℕ → ℕ → ℕ → List (List ℕ) → List (Option Periodic) → List ℕ
plan_line_text plan number cores names tasks = bad_line_text (bad_line number plan) number (line_at number plan)
    (unwanted_text number (line_at number plan) cores names tasks)

-- what is wanted on this line of an earlier plan's text, whichever host it was made for
abbrev pub old_wanted_text : ℕ → List ℕ
old_wanted_text number = if nat_le number 1
    then codes "is plan cores CORES vcpus COUNT, the first line that tableau plan writes"
    else codes "are lines vcpu NAME period TICKS cost TICKS home CORE, then for each core its line core C\ntableau: and END NAME or END - of its segments, and end as the last line"

-- the line of this number, from 1, of an earlier plan's text, that isn't wanted, and the form that is
abbrev pub old_unwanted_text : ℕ → List ℕ → List ℕ
old_unwanted_text number line = codes "tableau: plan line "
    ++ (decimal number ++ (codes " is " ++ (quoted line
    ++ (plan_kind_text (kind_of_plan_line line) (codes ", and no line of a plan text there")
    ++ (codes "\ntableau: wanted " ++ (old_wanted_text number ++ codes "\n"))))))

-- the advice on an earlier plan's text whose line of this number, from 1, is wrong, whichever host it was made for
abbrev pub old_line_text : List ℕ → ℕ → List ℕ
old_line_text plan number = bad_line_text (bad_line number plan) number (line_at number plan)
    (old_unwanted_text number (line_at number plan))

-- the advice on a plan whose segment of this place on a core, from 0, doesn't end where it may
abbrev pub shape_text : ℕ → ℕ → List ℕ
shape_text core place = codes "tableau: in the row of core "
    ++ (decimal core ++ (codes ", segment " ++ (decimal place
    ++ codes " (from 0) has to end above the one before it, and at 102600 at most,\ntableau: where the last one ends\n")))

-- the advice on a plan that has a vCPU on two cores at this tick of the round
abbrev pub twice_text : ℕ → ℕ → ℕ → List ℕ
twice_text tick core other = codes "tableau: a vCPU has one core at a time; take tick "
    ++ (decimal tick ++ (codes " from it on core " ++ (decimal core ++ (codes " or on core "
    ++ (decimal other ++ codes "\n")))))

-- the advice on a plan that gives a vCPU these ticks in its period of a number, in place of its cost
abbrev pub short_text : ℕ → ℕ → ℕ → List ℕ
short_text period_no got cost = codes "tableau: its segments have to sum to "
    ++ (decimal cost ++ (codes " ticks in each of its periods, and sum to " ++ (decimal got
    ++ (codes " in that of number " ++ (decimal period_no ++ codes " (from 0)\n")))))
