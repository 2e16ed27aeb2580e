use Rattle.std.proofs.Common.{◌≡◌, ℕ, zero, suc, List, [], ◌++◌, replicate, Option, Some, None}
use Rattle.std.specs.Prelude.{slice_get}
use Rattle.tab_core.specs.declared.TheConstants.{ROUND}
use Rattle.tests_library.proofs.samples.idle_row.Goals as goal

none_in : (n x v : ℕ) → slice_get (replicate n None) x ≡ Some (Some v) → ⊥
none_in zero x v h = absurd cc
none_in (suc n) zero v h = absurd cc
none_in (suc n) (suc x) v h = none_in n x v h

-- a row of cells that all came from one run of idle ones
idle_run : (old new row : List (Option ℕ)) (n : ℕ) → old ≡ [] → new ≡ old ++ replicate n None → row ≡ new
    → (x v : ℕ) → slice_get row x ≡ Some (Some v) → ⊥
idle_run old new row n none more is x v h =
    none_in n x v (rw (is, more, none) at h)

pub returns : goal.returns
returns c = idle_run _ _ _ ROUND c.new-row.ensures c.in_ok-push_run.ensures.ok c.finish.ensures
