-- Segments to which one is appended: where the last has its owner, that goes on to its end.
use Rattle.std.specs.Prelude.{◌≡◌, ℕ, List, [], ◌∷◌, ◌++◌, Option}
use Rattle.table_form.specs.Tables.Segments.{SegmentView}

-- the last of the segments has the owner
pub record EndsWithOwner (out : List SegmentView) (owner : Option ℕ) : Type 0 where
  pub before : List SegmentView
  pub last : SegmentView
  pub is : out ≡ before ++ last ∷ []
  pub same : last.owner ≡ owner
