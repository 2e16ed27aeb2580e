-- A span from its parts: it goes on while the next place shows the same, and else it ends.
use Rattle.std.proofs.Common.{◌≡◌, ◌≢◌, ◌↔◌, ℕ, ◌≤◌, List, [], ◌∷◌, ◌++◌, Some, length, inl, inr, subst, sym, ◌∙◌, arith}
use Rattle.std.specs.Prelude.{IsTrue}
use Rattle.std.proofs.lemmas.Bool.{cases_lt}
use Rattle.tab_core.specs.VcpuSets.{has_vcpu}
use Rattle.tab_core.specs.declared.TheConstants.{MAX_VCPUS, ROUND}
use Rattle.table_form.specs.declared.spot.Spot.{Spot}
use Rattle.table_form.specs.Inside.Looks.{IsSpotSoFar}
use Rattle.table_form.specs.Tables.Plans.{PlanView}
use Rattle.table_form.specs.Tables.Spots.{IsAway, IsSpanEnd, SameSpot}
use Rattle.table_form.proofs.SpotLemmas.{alike_by_sets, sets_alike, spot_through}
use Rattle.slice_table.specs.declared.full_span.FullSpan.{FullSpan}
use Rattle.slice_table.specs.declared.scope.Scope.{Scope}
use Rattle.slice_table.specs.Inside.Sweeps.{IsScope}
use Rattle.slice_table.specs.Slices.{AreSpansOf, IsShown}
use Rattle.slice_table.proofs.TableLemmas.{spans_more}

-- where the place at the end of a part shows the same, its part belongs to it too
pub part_grows : (plan : PlanView) (c from : ℕ) (spot next : Spot) → length plan.homes ≤ MAX_VCPUS
    → IsSpotSoFar plan c from spot → IsSpotSoFar plan c spot.end next → spot.owner ≡ next.owner → spot.away ≡ next.away
    → IsSpotSoFar plan c from
    (record { owner = spot.owner; away = spot.away; end = next.end })
part_grows plan c from spot next few was more owner away =
    let at_end : SameSpot plan c from spot.end =
    alike_by_sets plan c from spot.end spot.away next.away few was.away more.away
    (sym was.owner ∙ (owner ∙ more.owner)) away in
    record {
      owner = was.owner;
      away = was.away;
      size = was.size;
      after = (let first = was.after in let second = more.after in omega arith);
      within = more.within;
      alike = λ x low less. elim (cases_lt x spot.end) [
        | inl before ↦ was.alike x low before
        | inr later ↦ spot_through plan c from spot.end x at_end (more.alike x later less)
      ];
    }

-- where it shows something else the part is the whole span
pub part_ends : (plan : PlanView) (c from : ℕ) (spot next : Spot) → IsSpotSoFar plan c from spot
    → IsSpotSoFar plan c spot.end next → ((spot.owner ≡ next.owner) × (spot.away ≡ next.away) → ⊥)
    → IsSpanEnd plan c from spot.end
part_ends plan c from spot next was more other = record {
  after = was.after;
  within = was.within;
  alike = was.alike;
  maximal = inr (λ same. other (
    was.owner ∙ (same.owner ∙ sym more.owner),
    sets_alike plan c from spot.end spot.away next.away was.size more.size was.away more.away same,
  ));
}

-- a part that reaches the round's end is the whole span
pub part_last : (plan : PlanView) (c from : ℕ) (spot : Spot) → IsSpotSoFar plan c from spot → spot.end ≡ ROUND
    → IsSpanEnd plan c from spot.end
part_last plan c from spot was last = record {
  after = was.after;
  within = was.within;
  alike = was.alike;
  maximal = inl last;
}

-- a spot with its sharers shows the place
pub part_shown : (plan : PlanView) (scope : Scope) (place : ℕ) (spot : Spot) (span : FullSpan)
    → IsScope plan scope
    → IsSpotSoFar plan scope.core place spot → span.owner ≡ spot.owner → span.away ≡ spot.away
    → ((v : ℕ) → (IsTrue (has_vcpu span.sharers v)
    ↔ (IsTrue (has_vcpu scope.sharers v) × (IsTrue (has_vcpu spot.away v) → ⊥) × (spot.owner ≢ Some v))))
    → IsShown plan scope.core place span
part_shown plan scope place spot span is part owner away sharers = record {
  owner = owner ∙ part.owner;
  away = λ v small. subst (λ set. IsTrue (has_vcpu set v) ↔ IsAway plan scope.core place v) (sym away)
      (part.away v small);
  sharers = λ v small. (
    λ has.
        (let is_one = (sharers v).0 has in
        let shares = (is.sharers v small).0 is_one.0 in
        record {
          home = shares.0;
          uncapped = shares.1;
          no_owner = λ owns. is_one.2 (part.owner ∙ owns);
          here = λ d other stands. is_one.1 ((part.away v small).1 (record {
            home = shares.0;
            other = d;
            elsewhere = other;
            stands = stands;
          }));
        }),
    λ sharer. (sharers v).1 (
      (is.sharers v small).1 (sharer.home, sharer.uncapped),
      λ gone. (let at = (part.away v small).0 gone in sharer.here at.other at.elsewhere at.stands),
      λ owns. sharer.no_owner (sym part.owner ∙ owns),
    ),
  );
}

-- a spot with its sharers is the next span
pub span_added : (plan : PlanView) (scope : Scope) (from : ℕ) (spans : List FullSpan) (spot : Spot)
    (span : FullSpan)
    → IsScope plan scope → AreSpansOf plan scope.core 0 spans from → IsSpotSoFar plan scope.core from spot
    → IsSpanEnd plan scope.core from spot.end → span.owner ≡ spot.owner → span.away ≡ spot.away
    → span.end ≡ spot.end
    → ((v : ℕ) → (IsTrue (has_vcpu span.sharers v)
    ↔ (IsTrue (has_vcpu scope.sharers v) × (IsTrue (has_vcpu spot.away v) → ⊥) × (spot.owner ≢ Some v))))
    → AreSpansOf plan scope.core 0 (spans ++ span ∷ []) spot.end
span_added plan scope from spans spot span is done part ends owner away end sharers =
    subst (λ (to : ℕ). AreSpansOf plan scope.core 0 (spans ++ span ∷ []) to) end
    (spans_more plan scope.core 0 from spans span done
    (part_shown plan scope from spot span is part owner away sharers)
    (subst (IsSpanEnd plan scope.core from) (sym end) ends))
