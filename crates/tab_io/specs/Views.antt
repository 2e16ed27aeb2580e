-- What contracts see of a source and of a sink. An end that doesn't tell a thing has `None` there.
use Rattle.std.specs.Prelude.{ℕ, Bool, List, Option}

-- a source: the bytes that it still gives, and how often it has failed
pub record SourceView : Type 0 where
  pub rest : Option (List ℕ)
  -- it never fails from here on
  pub sound : Bool
  pub faults : ℕ

-- a sink: the bytes that it has taken, how many of them were settled, and how often it has failed
pub record SinkView : Type 0 where
  pub taken : Option (List ℕ)
  pub settled : Option ℕ
  -- how many bytes it surely still takes
  pub room : Option ℕ
  pub faults : ℕ
