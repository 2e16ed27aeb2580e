-- The text of a plan's tables: how it was made, the vCPUs, a row for each core, a row for each vCPU, and the checksum of
-- all that.
-- Source: the rules of this project; docs/FORMATS.md has it with an example.
use Rattle.std.specs.Prelude.{◌≡◌, ℕ, ◌+◌, ◌*◌, ◌/◌, ◌++◌, Bool, true, false, List, [], codes, decimal, length, Option, slice_get}
use Rattle.tab_core.specs.declared.TheConstants.{ROUND}
use Rattle.tab_core.specs.VcpuSets.{has_vcpu}
use Rattle.tab_core.specs.declared.host.Host.{Host}
use Rattle.tab_words.specs.Texts.{texts_below}
use Rattle.table_form.specs.Tables.Plans.{PlanView}
use Rattle.table_form.specs.Tables.Serves.{flat}
use Rattle.table_form.specs.Tables.Spans.{IsSpan}
use Rattle.vcpu_names.specs.Names.{name_at, names_of}
use Rattle.kernel_tables.specs.Lines.{hex_text, number_word, row_line, span_line, stretch_line}
use Rattle.kernel_tables.specs.Stretches.{IsStretch}
use Rattle.kernel_tables.specs.Sums.{checksum}

-- ---- the head

-- its form, and the checksum of what it was made from
unfoldable pub form_lines : ℕ → List ℕ
form_lines made = codes "tableau scx 1\nfrom " ++ (hex_text made ++ codes "\n")

-- the times in nanoseconds of a tick, a round, and a quantum of so many ticks
unfoldable pub time_lines : ℕ → ℕ → List ℕ
time_lines tick quantum = codes "tick " ++ (decimal tick ++ (codes "\nround " ++ (decimal (ROUND * tick)
    ++ (codes "\nquantum " ++ (decimal (quantum * tick) ++ codes "\n")))))

-- how many cores and vCPUs there are
unfoldable pub count_lines : ℕ → ℕ → List ℕ
count_lines cores vcpus = codes "cores " ++ (decimal cores ++ (codes "\nvcpus " ++ (decimal vcpus ++ codes "\n")))

-- how the text begins: the quantum is that of the second level
abbrev pub head_text : ℕ → Host → ℕ → List ℕ
head_text made host cores = form_lines made
    ++ (time_lines host.tick_ns host.quantum ++ count_lines cores (length host.vcpus))

-- ---- vCPUs

-- whether a vCPU runs in its slots alone, or may share unused time
abbrev pub share_word : Bool → List ℕ
share_word true = codes " capped\n"
share_word false = codes " shares\n"

-- the line of a vCPU: its number, its name, its home, and whether it is capped
unfoldable pub vcpu_line : ℕ → List ℕ → Option ℕ → Bool → List ℕ
vcpu_line v name home capped = codes "vcpu " ++ (decimal v ++ (codes " " ++ (name ++ (codes " "
    ++ (number_word home ++ share_word capped)))))

-- the line of the vCPU of a number
abbrev pub vcpu_text : List (List ℕ) → PlanView → ℕ → List ℕ
vcpu_text names plan v = vcpu_line v (name_at names v) (flat (slice_get plan.homes v)) (has_vcpu plan.capped v)

-- ---- rows

-- these are the lines of the core's spans up to the place, and so many
pub data AreSpanLines (plan : PlanView) (tick words c : ℕ) : ℕ → ℕ → List ℕ → Type 0 where
  NoSpan : AreSpanLines plan tick words c 0 0 []
  Span : (place count end : ℕ) (lines : List ℕ) (owner : Option ℕ) (sharers : List Bool)
      → AreSpanLines plan tick words c place count lines → IsSpan plan c place owner sharers end
      → AreSpanLines plan tick words c end (count + 1) (lines ++ span_line tick words owner sharers end)

-- the text is the row of a core: the lines of its spans up to the round's end, after a line that says how many
pub record IsCoreRow (plan : PlanView) (tick words c : ℕ) (text : List ℕ) : Type 0 where
  pub count : ℕ
  pub lines : List ℕ
  pub spans : AreSpanLines plan tick words c ROUND count lines
  pub is : text ≡ row_line (codes "core ") c count ++ lines

-- these are the lines of the vCPU's stretches up to the place, and so many
pub data AreStretchLines (plan : PlanView) (tick v : ℕ) : ℕ → ℕ → List ℕ → Type 0 where
  NoStretch : AreStretchLines plan tick v 0 0 []
  Stretch : (place count end : ℕ) (lines : List ℕ) (core : Option ℕ)
      → AreStretchLines plan tick v place count lines → IsStretch plan v place core end
      → AreStretchLines plan tick v end (count + 1) (lines ++ stretch_line tick core end)

-- the text is the row of a vCPU: the lines of its stretches up to the round's end, after a line that says how many
pub record IsVcpuRow (plan : PlanView) (tick v : ℕ) (text : List ℕ) : Type 0 where
  pub count : ℕ
  pub lines : List ℕ
  pub stretches : AreStretchLines plan tick v ROUND count lines
  pub is : text ≡ row_line (codes "where ") v count ++ lines

-- the text has the rows of the numbers below n, one after the other
pub data HasRows (IsRow : ℕ → List ℕ → Type 0) : ℕ → List ℕ → Type 0 where
  NoRow : HasRows IsRow 0 []
  Row : (n : ℕ) (text row : List ℕ) → HasRows IsRow n text → IsRow n row → HasRows IsRow (n + 1) (text ++ row)

-- ---- all

-- how many words of 64 bits a set of so many vCPUs takes
abbrev pub words_for : ℕ → ℕ
words_for vcpus = (vcpus + 63) / 64

-- the text up to its checksum, of what has this checksum itself
pub record IsBody (made : ℕ) (host : Host) (plan : PlanView) (text : List ℕ) : Type 0 where
  pub cores : List ℕ
  pub vcpus : List ℕ
  pub core_rows : HasRows (IsCoreRow plan host.tick_ns (words_for (length host.vcpus))) (length plan.rows) cores
  pub vcpu_rows : HasRows (IsVcpuRow plan host.tick_ns) (length host.vcpus) vcpus
  pub is : text ≡ head_text made host (length plan.rows)
      ++ (texts_below (vcpu_text (names_of host.vcpus) plan) (length host.vcpus) ++ (cores ++ vcpus))

-- the text of the tables of the host's plan, made of what has this checksum: all up to the last line, and in that the
-- checksum of it
pub record IsTablesText (made : ℕ) (host : Host) (plan : PlanView) (text : List ℕ) : Type 0 where
  pub body : List ℕ
  pub made_so : IsBody made host plan body
  pub is : text ≡ body ++ (codes "sum " ++ (hex_text (checksum body) ++ codes "\n"))
