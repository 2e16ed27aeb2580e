-- The owners in rows, segment by segment and row by row.
use Rattle.std.proofs.Common.{◌≡◌, ℕ, ◌+◌, ◌<◌, ◌≤◌, Bool, IsTrue, List, [], ◌∷◌, ◌++◌, inl, inr, get_or, length, slice_get, Some, refl, sym, ap, ◌∙◌, subst, arith}
use Rattle.std.proofs.lemmas.Bool.{cases_lt}
use Rattle.std.proofs.lemmas.Option.{none-some, same_Some, slice_get_read, slice_get_within}
use Rattle.tab_core.proofs.Lists.{push_split}
use Rattle.tab_core.specs.VcpuSets.{IsInBoth, has_vcpu}
use Rattle.table_form.specs.declared.segment.Segment.{Segment}
use Rattle.table_form.specs.Tables.Rows.{cells_from}
use Rattle.table_form.specs.Tables.Serves.{cell_of}
use Rattle.table_form.proofs.SpotLemmas.{flat_some}
use Rattle.table_check.specs.Clashes.{IsClash}
use Rattle.table_check.specs.Inside.Owners.{HasOwners, HaveOwners}
use Rattle.table_check.specs.Shapes.{rows_of}
use Rattle.table_check.proofs.Owned.{cell_owner}
use Rattle.table_check.proofs.RawShapes.{length-rows_of, row_here}

-- the set has the owner of each segment before this one
abbrev pub HasFirstOwners : List Segment → ℕ → List Bool → Type 0
HasFirstOwners segments n set = (k v : ℕ) (s : Segment) → k < n → slice_get segments k ≡ Some s
    → s.owner ≡ Some v → IsTrue (has_vcpu set v)

-- one segment more
pub first_more : (segments : List Segment) (n : ℕ) (s : Segment) (old new : List Bool) → n < length segments
    → s ≡ get_or segments n s → ((v : ℕ) → s.owner ≡ Some v → IsTrue (has_vcpu new v))
    → ((v : ℕ) → IsTrue (has_vcpu old v) → IsTrue (has_vcpu new v))
    → HasFirstOwners segments n old → HasFirstOwners segments (n + 1) new
first_more segments n s old new lt is put kept first k v t less at owner = elim (cases_lt k n) [
  | inl before ↦ kept v (first k v t before at owner)
  | inr le ↦
      let place : k ≡ n = omega arith in
      let here : slice_get segments n ≡ Some s = slice_get_read segments (length segments) n s refl lt is in
      let same : s ≡ t = same_Some s t (sym here ∙ ap (slice_get segments) (sym place) ∙ at) in
      put v (ap (λ (u : Segment). u.owner) same ∙ owner)
]

-- all segments are those of the row
pub owners_all : (segments : List Segment) (n : ℕ) (set : List Bool) → length segments ≤ n
    → HasFirstOwners segments n set → HasOwners (cells_from 0 segments) set
owners_all segments n set all first v x at = cell_owner (λ w. IsTrue (has_vcpu set w)) 0 x v segments
    (λ k w s here owner. first k w s
    (let within = slice_get_within segments k s here in omega (arith, within)) here owner) at

-- no row yet
pub sets_none : (raw : List (List Segment)) → HaveOwners (rows_of raw) []
sets_none raw core v x set at owner = absurd (none-some set at)

-- one row more
pub sets_more : (raw : List (List Segment)) (n : ℕ) (ss : List Segment) (sets : List (List Bool))
    (set : List Bool) → length sets ≡ n → n < length raw → ss ≡ get_or raw n ss
    → HasOwners (cells_from 0 ss) set → HaveOwners (rows_of raw) sets
    → HaveOwners (rows_of raw) (sets ++ set ∷ [])
sets_more raw n ss sets set size lt is has before core v x t at owner =
    elim (push_split sets core set t at) [
      | inl old ↦ before core v x t old owner
      | inr new ↦
          let row : slice_get (rows_of raw) n ≡ Some (cells_from 0 ss) =
          slice_get_read (rows_of raw) (length (rows_of raw)) n (cells_from 0 ss) refl
          (omega (arith, length-rows_of raw, lt)) (row_here raw n ss lt is) in
          let here : slice_get (rows_of raw) core ≡ Some (cells_from 0 ss) =
          ap (slice_get (rows_of raw)) (new.0 ∙ size) ∙ row in
          subst (λ (u : List Bool). IsTrue (has_vcpu u v)) new.1
          (has v x (flat_some (slice_get (cells_from 0 ss) x) v
          (sym (ap (λ found. cell_of found x) here) ∙ owner)))
    ]

-- rows whose sets have no vCPU in common have no clash
pub no_clash_apart : (raw : List (List Segment)) (sets : List (List Bool)) (core other v x : ℕ)
    (a b : List Bool) → HaveOwners (rows_of raw) sets → slice_get sets core ≡ Some a
    → slice_get sets other ≡ Some b → ((w : ℕ) → IsInBoth a b w → ⊥)
    → IsClash (rows_of raw) v x core other → ⊥
no_clash_apart raw sets core other v x a b have at_a at_b none clash = none v (record {
  one = have core v x a at_a clash.here;
  other = have other v x b at_b clash.there;
})
