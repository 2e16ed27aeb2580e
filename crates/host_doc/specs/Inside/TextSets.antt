-- A set of texts.
use Rattle.std.specs.Prelude.{ℕ, Bool, List}
use Rattle.std.specs.BTreeSet.{BTreeSet, contains_by}
use Rattle.std.specs.Cmp.Lexicographic.{slice_cmp}
use Rattle.std.specs.Ordering.{nat_cmp}
use denote.Ref.{Bor}

-- the set has this text
abbrev pub has_text : BTreeSet (Bor (List ℕ)) → List ℕ → Bool
has_text texts text = contains_by (λ held. slice_cmp nat_cmp text held.now) texts
