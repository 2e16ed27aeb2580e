-- What a table of a core's pieces says of them.
use Rattle.std.proofs.Common.{◌≡◌, ℕ, ◌+◌, ◌*◌, ◌<◌, ◌≤◌, leb, List, length, get_or, slice_get, Option, Some, None, ap, subst, sym, ◌∙◌, arith}
use Rattle.std.specs.Prelude.{IsTrue}
use Rattle.std.proofs.lemmas.Bool.{cases_lt, le-leb, leb-true}
use Rattle.std.proofs.Common.{inl, inr}
use Rattle.std.proofs.lemmas.Option.{slice_get-get_or}
use Rattle.tab_core.specs.declared.TheConstants.{MAX_VCPUS}
use Rattle.tab_core.specs.declared.piece.Piece.{Piece}
use Rattle.table_form.specs.Tables.Segments.{SegmentView}
use Rattle.coalesce.specs.Joining.{CanSwap, NoEdge}
use Rattle.coalesce.specs.Inside.Passing.{IsPieceTableOf}

-- what is at the vCPU's number
pub at_number : (table : List (Option Piece)) (v i : ℕ) (d o : Option Piece)
    → length table ≡ MAX_VCPUS → i ≡ v
    → i < MAX_VCPUS → get_or table i d ≡ o → slice_get table v ≡ Some o
at_number table v i d o size same lt is = ap (slice_get table) (sym same) ∙ slice_get-get_or table i d
    (omega (arith, size, lt)) ∙ ap Some is

-- where the table has nothing the vCPU has no piece here
pub none_listed : (pieces : List Piece) (table : List (Option Piece)) (v at : ℕ) (p : Piece)
    → IsPieceTableOf pieces table
    → slice_get table v ≡ Some None
    → slice_get pieces at ≡ Some p → p.vcpu ≡ v → ⊥
none_listed pieces table v at p is none listed own = clash
    (sym none ∙ ap (slice_get table) (sym own) ∙ is.complete at p listed)
  where
    clash : ◌≡◌ {A = Option (Option Piece)} (Some None) (Some (Some p)) → ⊥
    clash e = cc

-- where it has a piece the vCPU has that one alone
pub one_listed : (pieces : List Piece) (table : List (Option Piece)) (v at : ℕ) (p q : Piece)
    → IsPieceTableOf pieces table
    → slice_get table v ≡ Some (Some q)
    → slice_get pieces at ≡ Some p → p.vcpu ≡ v → p ≡ q
one_listed pieces table v at p q is some listed own = inside
    (sym (is.complete at p listed) ∙ ap (slice_get table) own ∙ some)
  where
    inside : ◌≡◌ {A = Option (Option Piece)} (Some (Some p)) (Some (Some q)) → p ≡ q
    inside e = cc

-- the test for begins fails, so the three can't be swapped
pub swap_needs_begin : (pieces : List Piece) (sliver : ℕ) (x y z : SegmentView) (v : ℕ) → x.owner ≡ Some v
    → CanSwap pieces sliver x y z → NoEdge (λ p. p.from) pieces v x.end z.end
swap_needs_begin pieces sliver x y z v is can = subst (λ w. NoEdge (λ p. p.from) pieces w x.end z.end)
    (inside (sym can.first_owns ∙ is)) can.no_begin
  where
    inside : Some can.first ≡ Some v → can.first ≡ v
    inside e = cc

-- the test for ends fails, so they can't either
pub swap_needs_end : (pieces : List Piece) (sliver : ℕ) (x y z : SegmentView) (v : ℕ) → y.owner ≡ Some v
    → CanSwap pieces sliver x y z → NoEdge (λ p. p.to) pieces v x.end z.end
swap_needs_end pieces sliver x y z v is can = subst (λ w. NoEdge (λ p. p.to) pieces w x.end z.end)
    (inside (sym can.second_owns ∙ is)) can.no_end
  where
    inside : Some can.second ≡ Some v → can.second ≡ v
    inside e = cc

-- no edge lies strictly between two ticks, as the first one after the lower tick tells
pub none_by_next : (edge : Piece → ℕ) (pieces : List Piece) (table : List (Option Piece))
    (v low high next : ℕ)
    (q : Piece) → IsPieceTableOf pieces table → slice_get table v ≡ Some (Some q)
    → low < next → (k : ℕ) × (next ≡ k * q.period + edge q) →
    ((k : ℕ) → low < k * q.period + edge q → next ≤ k * q.period + edge q)
    → (IsTrue (leb high next) → NoEdge edge pieces v low high) ×
    (NoEdge edge pieces v low high → IsTrue (leb high next))
none_by_next edge pieces table v low high next q is some later one least = (if_beyond, if_none)
  where
    if_beyond : IsTrue (leb high next) → NoEdge edge pieces v low high
    if_beyond beyond at k p listed own above below =
        let same = one_listed pieces table v at p q is some listed own in
        let above' = subst (λ (r : Piece). low < k * r.period + edge r) same above in
        let below' = subst (λ (r : Piece). k * r.period + edge r < high) same below in
        omega (arith, leb-true high next beyond, least k above', below')

    if_none : NoEdge edge pieces v low high → IsTrue (leb high next)
    if_none none = elim (cases_lt next high) [
      | inr le ↦ le-leb high next le
      | inl lt ↦
          let listed = is.listed v q some in
          absurd (none listed.1 one.0 q listed.2 listed.0 (omega (arith, later, one.1))
          (omega (arith, lt, one.1)))
    ]
