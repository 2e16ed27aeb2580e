use Rattle.std.proofs.Common.{◌≡◌, ◌⊎◌, ℕ, zero, suc, List, [], ◌∷◌, ◌++◌, length, length-append, Some, inl, inr, ap, subst, arith}
use Rattle.std.specs.Prelude.{slice_get}
use Rattle.table_form.specs.Tables.Rows.{Row}
use Rattle.table_form.specs.Tables.Serves.{owner_at}
use Rattle.table_form.proofs.SpotLemmas.{flat_some}
use Rattle.tests_library.proofs.samples.idle_rows.Goals as goal

owner_push : (rows : List Row) (row : Row) (c x v : ℕ) → owner_at (rows ++ row ∷ []) c x ≡ Some v
    → (owner_at rows c x ≡ Some v) ⊎ (slice_get row x ≡ Some (Some v))
owner_push [] row zero x v h = inr (flat_some (slice_get row x) v h)
owner_push [] row (suc c) x v h = absurd cc
owner_push (r ∷ rows) row zero x v h = inl h
owner_push (r ∷ rows) row (suc c) x v h = owner_push rows row c x v h

pub loop-core-preserved : goal.loop-core-preserved
loop-core-preserved c = record {
  count = omega (
    arith,
    ap length c.in_ok-push.ensures.items,
    length-append c.loop-core.rows.items (c.in_ok-row.row ∷ []),
    c.loop-core.invariant.count,
  );
  idle = λ d x v h. elim (owner_push c.loop-core.rows.items c.in_ok-row.row d x v
      (subst (λ (rows : List Row). owner_at rows d x ≡ Some v) c.in_ok-push.ensures.items h)) [
        | inl old ↦ c.loop-core.invariant.idle d x v old
        | inr new ↦ c.in_ok-row.ensures x v new
      ];
}
