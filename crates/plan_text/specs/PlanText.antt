-- The text of a plan, which is that of its lines, with each core's maximal segments.
use Rattle.std.specs.Prelude.{ℕ, List, map}
use Rattle.tab_words.specs.Texts.{Line, line_of, text_of}
use Rattle.table_form.specs.Tables.Plans.{PlanView}
use Rattle.table_form.specs.Tables.Segments.{SegmentView, segments_from}
use Rattle.plan_text.specs.PlanLines.{owner_words, plan_lines}

-- the line of a maximal segment, as its words
abbrev pub view_words : List (List ℕ) → SegmentView → Line
view_words names s = owner_words names s.owner s.end

-- the line of a maximal segment, as it is written
unfoldable pub segment_line : List (List ℕ) → SegmentView → List ℕ
segment_line names s = line_of (view_words names s)

-- the plan text for vCPUs of these names
unfoldable pub plan_text : List (List ℕ) → PlanView → List ℕ
plan_text names plan =
    text_of (plan_lines (view_words names) names plan.tasks plan.homes (map (segments_from 0) plan.rows))
