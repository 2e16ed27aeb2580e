-- The maximal segments of a row: neighbours have different owners.
use Rattle.std.specs.Prelude.{◌≡◌, ◌≢◌, ℕ, ◌+◌, ◌<◌, if◌then◌else◌, nat_eq, List, [], ◌∷◌, Option}
use Rattle.std.specs.Option.{option_eq}
use Rattle.table_form.specs.Tables.Rows.{Row}
use Rattle.table_form.specs.declared.segment.Segment.{Segment}

-- a segment as contracts see it: an owner, and the tick after its last
pub record SegmentView : Type 0 where
  pub owner : Option ℕ
  pub end : ℕ

-- what a segment says
abbrev pub segment_view : Segment → SegmentView
segment_view s = record { owner = s.owner; end = s.end }

-- segments with one before them, which joins the first where that has its owner
abbrev pub put_front : SegmentView → List SegmentView → List SegmentView
put_front s [] = s ∷ []
put_front s (t ∷ ts) = if option_eq nat_eq s.owner t.owner then t ∷ ts else s ∷ t ∷ ts

-- segments before others, where the last of them joins the first of those if they have one owner
abbrev pub put_before : List SegmentView → List SegmentView → List SegmentView
put_before [] rest = rest
put_before (t ∷ []) rest = put_front t rest
put_before (t ∷ u ∷ ts) rest = t ∷ put_before (u ∷ ts) rest

-- the maximal segments of cells, the first of which is at the tick `at`
unfoldable pub segments_from : ℕ → Row → List SegmentView
segments_from at [] = []
segments_from at (cell ∷ cells) =
    put_front (record { owner = cell; end = at + 1 }) (segments_from (at + 1) cells)

-- the first of the segments, if there is one, has another owner
abbrev pub BeginsOther : Option ℕ → List SegmentView → Type 0
BeginsOther owner [] = Unit {0}
BeginsOther owner (t ∷ ts) = owner ≢ t.owner

-- the ends rise strictly from above `start` to `end`, and neighbours have different owners
abbrev pub AreMaximal : ℕ → List SegmentView → ℕ → Type 0
AreMaximal start [] end = start ≡ end
AreMaximal start (t ∷ ts) end = (start < t.end) × BeginsOther t.owner ts × AreMaximal t.end ts end
