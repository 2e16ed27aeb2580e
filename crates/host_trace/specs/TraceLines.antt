-- The lines of a host's trace: what one of them says, and what those of a text say.
-- Source: the form is this project's own. Its lines are those of RFC 4180 with three or four fields, none of which
-- is in quotes.
use Rattle.std.specs.Prelude.{◌≡◌, ℕ, ◌+◌, ◌<◌, ◌^◌, ◌==◌, ◌||◌, Bool, if◌then◌else◌, List, [], ◌∷◌, ◌++◌, codes, decimal, length, Option, Some, None}
use Rattle.std.specs.List.{slice_split}
use Rattle.std.specs.Option.{option_to_list}
use Rattle.std.specs.Str.{bytes_eq}
use Rattle.tab_words.specs.Lines.{lines_of}
use Rattle.tab_words.specs.Numbers.{Spells}
use Rattle.script_doc.specs.Statements.{is_skipped}
use Rattle.vcpu_names.specs.Names.{IsUnknown, name_at}
use Rattle.host_trace.specs.declared.mark.Mark.{Mark}
use Rattle.host_trace.specs.declared.mark.State.{State}
use Rattle.host_trace.specs.declared.mark.State.TheVariants.{Run, Wait, Block}

-- ---- one line

-- the fields: the bytes before, between and after the commas
unfoldable pub fields_of : List ℕ → List (List ℕ)
fields_of line = slice_split (λ byte. byte == 44) line

-- the fields of a line of a trace, the last of which it need not have
pub record Fields : Type 0 where
  pub time : List ℕ
  pub name : List ℕ
  pub state : List ℕ
  pub cpu : Option (List ℕ)

-- the fields of a line in their order, three or four
abbrev pub field_list : Fields → List (List ℕ)
field_list fields = fields.time ∷ fields.name ∷ fields.state ∷ option_to_list fields.cpu

-- the word of a state
abbrev pub state_word : State → List ℕ
state_word Run = codes "run"
state_word Wait = codes "wait"
state_word Block = codes "block"

-- a vCPU has the name, or none of the host's has it
abbrev pub IsNameOf : List (List ℕ) → List ℕ → Option ℕ → Type 0
IsNameOf names name None = IsUnknown names name
IsNameOf names name (Some vcpu) = (vcpu < length names) × (name_at names vcpu ≡ name)

-- a field is the number of a CPU, and no field is none
abbrev pub IsCpuOf : Option (List ℕ) → Option ℕ → Type 0
IsCpuOf None None = Unit {0}
IsCpuOf (Some word) (Some cpu) = (cpu < 2 ^ 32) × (word ≡ decimal cpu)
IsCpuOf None (Some cpu) = ⊥
IsCpuOf (Some word) None = ⊥

-- the line says this of the vCPU of a name: from a time on it is in a state, on a CPU where one is there
pub record LineTells (line name : List ℕ) (time : ℕ) (state : State) (cpu : Option ℕ) : Type 0 where
  pub fields : Fields
  pub written : fields_of line ≡ field_list fields
  pub named : fields.name ≡ name
  pub some_name : 0 < length name
  pub spelled : Spells fields.time time
  pub says : fields.state ≡ state_word state
  pub on : IsCpuOf fields.cpu cpu

-- the line says this of the vCPUs of these names
pub record SaysMark (names : List (List ℕ)) (line : List ℕ) (mark : Mark) : Type 0 where
  pub fields : Fields
  pub written : fields_of line ≡ field_list fields
  pub some_name : 0 < length fields.name
  pub time : Spells fields.time mark.time_ns
  pub vcpu : IsNameOf names fields.name mark.vcpu
  pub state : fields.state ≡ state_word mark.state
  pub cpu : IsCpuOf fields.cpu mark.cpu

-- ---- the lines of a text

-- the head that names the columns
abbrev pub is_head : List ℕ → Bool
is_head line = bytes_eq line (codes "TIME_NS,VCPU,STATE") || bytes_eq line (codes "TIME_NS,VCPU,STATE,CPU")

-- a line without words, a comment, and a head
abbrev pub is_passed_over : List ℕ → Bool
is_passed_over line = is_skipped line || is_head line

-- a line that isn't passed over: its number, from 1, and its bytes
pub record TraceRow : Type 0 where
  pub number : ℕ
  pub text : List ℕ

-- the rows of lines, of which the first has this number; a line that is passed over counts as a line
unfoldable pub rows_from : ℕ → List (List ℕ) → List TraceRow
rows_from number [] = []
rows_from number (line ∷ lines) =
    if is_passed_over line then rows_from (number + 1) lines
    else (record { number = number; text = line }) ∷ rows_from (number + 1) lines

-- the rows of a text
abbrev pub trace_rows : List ℕ → List TraceRow
trace_rows bytes = rows_from 1 (lines_of bytes)

-- the row says what the mark has
pub record IsMarkOf (names : List (List ℕ)) (row : TraceRow) (mark : Mark) : Type 0 where
  pub placed : mark.line ≡ row.number
  pub says : SaysMark names row.text mark

-- each row says what is at its place
abbrev pub AreMarksOf : List (List ℕ) → List TraceRow → List Mark → Type 0
AreMarksOf names [] [] = Unit {0}
AreMarksOf names (row ∷ rows) (mark ∷ marks) = IsMarkOf names row mark × AreMarksOf names rows marks
AreMarksOf names [] (mark ∷ marks) = ⊥
AreMarksOf names (row ∷ rows) [] = ⊥

-- the rows before this one say something, and it says nothing
pub record IsFirstBadTraceLine (names : List (List ℕ)) (rows : List TraceRow) (bad : TraceRow) : Type 0 where
  pub front : List TraceRow
  pub back : List TraceRow
  pub marks : List Mark
  pub whole : rows ≡ front ++ bad ∷ back
  pub before : AreMarksOf names front marks
  pub nothing : (mark : Mark) → SaysMark names bad.text mark → ⊥
