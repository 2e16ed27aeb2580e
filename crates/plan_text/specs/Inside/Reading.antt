-- What the parts of the reader find, and what may follow the lines that are read.
use Rattle.std.specs.Prelude.{◌≡◌, ℕ, ◌-◌, ◌<◌, IsTrue, List, [], ◌∷◌, ◌++◌, count_by, drop, length, map, Option, Some, None}
use Rattle.std.specs.List.{All}
use Rattle.tab_core.specs.declared.periodic.Periodic.{Periodic}
use Rattle.tab_words.specs.Texts.{Line, worded}
use Rattle.table_form.specs.declared.segment.Segment.{Segment}
use Rattle.table_form.specs.Tables.Homes.{are_housed}
use Rattle.plan_text.specs.FirstBad.{IsFirstBadFor}
use Rattle.plan_text.specs.Meaning.{AreFineRows, IsFineSegment, IsSomePlan, segment_words}
use Rattle.plan_text.specs.PlanLines.{core_lines, end_words, head_words, is_admitted, vcpu_lines, vcpu_words}

-- the lines of a text that are left, and the number of the first of them
pub record TextLeft : Type 0 where
  pub lines : List Line
  pub number : ℕ

-- the cores from this number on, of which there are so many, and the end
pub record AreFromCore (names : List (List ℕ)) (tasks : List (Option Periodic)) (core count : ℕ)
    (lines : List Line) : Type 0 where
  pub rows : List (List Segment)
  pub many : length rows ≡ count
  pub fine : AreFineRows tasks rows
  pub written : lines ≡ core_lines (segment_words names) core rows ++ end_words ∷ []

-- further segments of a core, and such cores
pub record AreFromSegment (names : List (List ℕ)) (tasks : List (Option Periodic)) (core count : ℕ)
    (lines : List Line) : Type 0 where
  pub row : List Segment
  pub fine : All (IsFineSegment tasks) row
  pub rest : List Line
  pub rows : AreFromCore names tasks core count rest
  pub written : lines ≡ map (segment_words names) row ++ rest

-- the vCPUs from this number on, and all cores
pub record AreFromVcpu (names : List (List ℕ)) (tasks : List (Option Periodic)) (cores vcpu : ℕ)
    (lines : List Line) : Type 0 where
  pub homes : List (Option ℕ)
  pub housed : IsTrue (are_housed cores (drop vcpu tasks) homes)
  pub rest : List Line
  pub rows : AreFromCore names tasks 0 cores rest
  pub written : lines ≡ vcpu_lines (drop vcpu names) (drop vcpu tasks) homes ++ rest

-- the first of the lines isn't this one
abbrev pub IsOtherLine : Line → List Line → Type 0
IsOtherLine words lines = (rest : List Line) → lines ≡ words ∷ rest → ⊥

-- the first of the lines is no segment's
abbrev pub IsNoSegment : List (List ℕ) → List (Option Periodic) → List Line → Type 0
IsNoSegment names tasks lines = (s : Segment) → IsFineSegment tasks s
    → IsOtherLine (segment_words names s) lines

-- the line is no segment's
abbrev pub IsNoSegmentLine : List (List ℕ) → List (Option Periodic) → Line → Type 0
IsNoSegmentLine names tasks words = (s : Segment) → IsFineSegment tasks s → words ≡ segment_words names s → ⊥

-- the first of the lines isn't that of a vCPU with this name and task, if it has one
abbrev pub IsNoVcpu : List ℕ → Option Periodic → ℕ → List Line → Type 0
IsNoVcpu name None cores lines = ⊥
IsNoVcpu name (Some task) cores lines = (home : ℕ) → home < cores
    → IsOtherLine (vcpu_words name task home) lines

-- of the text the first line, those of the vCPUs with these homes and those of these rows are read, and
-- these lines are left
pub record IsReadTo (names : List (List ℕ)) (cores : ℕ) (tasks : List (Option Periodic)) (bytes : List ℕ)
    (homes : List (Option ℕ)) (rows : List (List Segment)) (left : TextLeft) : Type 0 where
  pub housed : IsTrue (are_housed cores tasks homes)
  pub fine : AreFineRows tasks rows
  pub lines : worded bytes ≡ head_words cores (count_by is_admitted tasks)
      ∷ (vcpu_lines names tasks homes ++ (core_lines (segment_words names) 0 rows ++ left.lines))
  -- the first bad line of what is left is the text's
  pub behind : (bad : ℕ)
      → IsFirstBadFor (AreFromCore names tasks (length rows) (cores - length rows)) left.number left.lines bad
      → IsFirstBadFor (IsSomePlan names cores tasks) 1 (worded bytes) bad
