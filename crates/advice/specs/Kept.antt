-- What a source that keeps what is handed back to it shows.
use Rattle.std.specs.Prelude.{ℕ, List}
use Rattle.tab_io.specs.Views.{SourceView}
use Rattle.advice.specs.declared.kept.KeptSource.{KeptSource}

-- the state of the source inside
abbrev pub inner_state : {S : Type 0} → (S → SourceView) → KeptSource S → SourceView
inner_state state kept = state kept.inner

-- the bytes that were handed back last
abbrev pub kept_of : {S : Type 0} → KeptSource S → List ℕ
kept_of kept = kept.kept.items
