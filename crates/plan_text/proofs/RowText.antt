-- The lines of a row's segments, one after the other.
use Rattle.std.proofs.Common.{sym, ap, subst, ◌∙◌, ◌≡◌, ℕ, ◌+◌, ◌<◌, ◌≤◌, List, ◌++◌, append-nil, append_assoc, drop, flat_map, get_or, length, map, refl, Ok, Err}
use Rattle.std.proofs.lemmas.List.{drop_all}
use Rattle.tab_core.proofs.Lists.{drop_next}
use Rattle.tab_io.specs.Sinks.{IsLeft, Writes}
use Rattle.tab_io.specs.Views.{SinkView}
use Rattle.tab_io.specs.declared.sink.WriteFault.{WriteFault}
use Rattle.tab_io.proofs.SinkLemmas.{left_behind, left_broken}
use Rattle.table_form.specs.declared.segment.Segment.{Segment}
use Rattle.table_form.specs.Tables.Segments.{segment_view}
use Rattle.line_bytes.proofs.RoomLemmas.{failed_alike}
use Rattle.plan_text.specs.PlanText.{segment_line}

-- the lines of these segments
abbrev pub lines_of_row : List (List ℕ) → List Segment → List ℕ
lines_of_row names ss = flat_map (segment_line names) (map segment_view ss)

-- of the segments that are left the first has the first line
pub line_first : (names : List (List ℕ)) (ss : List Segment) (k : ℕ) (s : Segment) → k < length ss
    → s ≡ get_or ss k s
    → lines_of_row names (drop k ss) ≡ segment_line names (segment_view s) ++ lines_of_row names (drop (k + 1) ss)
line_first names ss k s low is = ap (lines_of_row names) (drop_next ss k s low is)

-- after the last there is none
pub no_line_left : (names : List (List ℕ)) (ss : List Segment) (k : ℕ) (gathered : List ℕ) → length ss ≤ k
    → gathered ++ lines_of_row names (drop k ss) ≡ gathered
no_line_left names ss k gathered past = rw (drop_all k ss past) (append-nil gathered)

-- ---- lines that are gathered

-- of the gathered bytes a prefix was written, and then a line was put after those that were left
pub line_behind : (s t v : SinkView) (text gathered still now line rest whole : List ℕ)
    → IsLeft s t text (gathered ++ whole) → whole ≡ line ++ rest → IsLeft t v gathered still
    → now ≡ still ++ line → IsLeft s v text (now ++ rest)
line_behind s t v text gathered still now line rest whole left parts room put =
    let made : IsLeft s v text (still ++ whole) =
    left_behind s t v text (gathered ++ whole) room.front (still ++ whole) (Ok tt) tt left
    (ap (λ l. l ++ whole) room.whole ∙ append_assoc room.front still whole) room.written refl in
    subst (IsLeft s v text) (ap (λ l. still ++ l) parts ∙ (sym (append_assoc still line rest)
    ∙ ap (λ l. l ++ rest) (sym put))) made

-- where that failed, a prefix of the row's text is out
pub lines_torn : (s t v : SinkView) (text gathered rest : List ℕ) (e : WriteFault)
    → IsLeft s t text (gathered ++ rest) → Writes {U = ℕ} t v gathered (Err e)
    → Writes {U = Unit {0}} s v text (Err e)
lines_torn s t v text gathered rest e left wrote =
    left_broken s t v text (gathered ++ rest) gathered rest (Err e) e left refl (failed_alike t v gathered e wrote)
    refl
