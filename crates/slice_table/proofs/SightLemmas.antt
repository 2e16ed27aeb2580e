-- What a place shows, from the segments that hold it in the core's row and in the rows that matter.
use Rattle.std.proofs.Common.{◌≡◌, ◌↔◌, ◌⊎◌, ℕ, ◌+◌, ◌<◌, ◌≤◌, List, length, get_or, set, Some, Option, inl, inr, refl, ap, subst, sym, ◌∙◌, arith}
use Rattle.std.specs.Prelude.{IsTrue, min, slice_get, slice_index}
use Rattle.std.proofs.lemmas.Bool.{cases_eq, cases_lt}
use Rattle.std.proofs.lemmas.List.{get_or-set_other, get_or-set_same}
use Rattle.std.proofs.lemmas.Option.{same_Some, slice_get_read}
use Rattle.tab_core.specs.VcpuSets.{has_vcpu}
use Rattle.tab_core.specs.declared.TheConstants.{MAX_VCPUS}
use Rattle.table_form.specs.declared.spot.Spot.{Spot}
use Rattle.table_form.specs.Inside.Looks.{IsSpotSoFar}
use Rattle.table_form.specs.Tables.Plans.{PlanView}
use Rattle.table_form.specs.Tables.Rows.{Row}
use Rattle.table_form.specs.Tables.Serves.{owner_at}
use Rattle.table_form.specs.Tables.Spots.{IsAway}
use Rattle.table_form.proofs.SpotLemmas.{owner_within}
use Rattle.slice_table.specs.declared.scope.Scope.{Scope}
use Rattle.slice_table.specs.Inside.Sweeps.{ArePast, IsPast, IsScope, IsSightOf}
use Rattle.slice_table.proofs.CursorLemmas.{past_later}

-- the number at which the sweep is in a row
pub past_at : (rows : List Row) (place : ℕ) (numbers : List ℕ) (d : ℕ) (row : Row)
    → ArePast rows place numbers
    → d < length rows → row ≡ get_or rows d row → IsPast row place (slice_index numbers d)
past_at rows place numbers d row past lt is = past d row (slice_get_read rows (length rows) d row refl lt is)

-- a new number in one row
pub past_set : (rows : List Row) (place : ℕ) (numbers : List ℕ) (d number : ℕ) (row : Row)
    → ArePast rows place numbers → d < length rows → row ≡ get_or rows d row → d < length numbers
    → IsPast row place number → ArePast rows place (set numbers d number)
past_set rows place numbers d number row past lt is room new e other at = elim (cases_eq e d) [
  | inl here ↦
      let same : row ≡ other = same_Some {A = Row} row other
      (sym (slice_get_read rows (length rows) d row refl lt is) ∙ (ap (slice_get rows) (sym here) ∙ at)) in
      let read : slice_index (set numbers d number) e ≡ number =
      ap (slice_index (set numbers d number)) here ∙ get_or-set_same numbers d number 0 room in
      subst (λ (r : Row). IsPast r place (slice_index (set numbers d number) e)) same
      (subst (λ (n : ℕ). IsPast row place n) (sym read) new)
  | inr ne ↦ subst (λ (n : ℕ). IsPast other place n) (sym (get_or-set_other numbers d e number 0 ne))
      (past e other at)
]

-- at a later place the segments that were past still are
pub all_later : (rows : List Row) (place later : ℕ) (numbers : List ℕ) → place ≤ later
    → ArePast rows place numbers → ArePast rows later numbers
all_later rows place later numbers le past d row at =
    past_later row place later (slice_index numbers d) le (past d row at)

-- the segment of one more row is taken into account
pub sight_more : (plan : PlanView) (scope : Scope) (place count end : ℕ) (o : Option ℕ) (old new : Spot)
    → IsScope plan scope → count < length scope.others.items → IsSightOf plan scope place count old
    → place < end → ((x : ℕ) → place ≤ x → x < end → owner_at plan.rows
    (slice_index scope.others.items count) x ≡ o)
    → new.end ≡ min old.end end → new.owner ≡ old.owner → length new.away ≡ MAX_VCPUS
    → ((v : ℕ) → v < MAX_VCPUS → (IsTrue (has_vcpu new.away v)
    ↔ (IsTrue (has_vcpu old.away v) ⊎ (IsTrue (has_vcpu scope.home v) × (o ≡ Some v)))))
    → IsSightOf plan scope place (count + 1) new
sight_more plan scope place count end o old new is lt was after cells end_is owner_is size away = record {
  owner = owner_is ∙ was.owner;
  size = size;
  found = λ v small has. elim ((away v small).0 has) [
    | inl before ↦ was.found v small before
    | inr now ↦ (
      now.0,
      slice_index scope.others.items count,
      is.others.other count lt,
      cells place (omega arith) after ∙ now.1,
    )
  ];
  all = λ k v less small home stands. elim (cases_lt k count) [
    | inl before ↦ (away v small).1 (inl (was.all k v before small home stands))
    | inr last ↦
        let here : k ≡ count = omega arith in
        (away v small).1 (inr (
          home,
          sym (cells place (omega arith) after)
              ∙ (ap (λ (n : ℕ). owner_at plan.rows (slice_index scope.others.items n) place) (sym here)
              ∙ stands),
        ))
  ];
  after = (let least = was.after in omega arith);
  within = (let most = was.within in omega arith);
  own = λ x low less. was.own x low (omega arith);
  steady = λ k x less low below. elim (cases_lt k count) [
    | inl before ↦ was.steady k x before low (omega arith)
    | inr last ↦
        let here : k ≡ count = omega arith in
        ap (λ (n : ℕ). owner_at plan.rows (slice_index scope.others.items n) place) here
        ∙ (cells place (omega arith) after ∙ sym (cells x low (omega arith)))
        ∙ ap (λ (n : ℕ). owner_at plan.rows (slice_index scope.others.items n) x) (sym here)
  ];
}

-- a row that has a vCPU of this core is one of those that were looked at
away_listed : (plan : PlanView) (scope : Scope) (place x v : ℕ) (spot : Spot) → IsScope plan scope
    → IsSightOf plan scope place (length scope.others.items) spot → IsAway plan scope.core x v
    → (k : ℕ) × (k < length scope.others.items)
    × (owner_at plan.rows (slice_index scope.others.items k) x ≡ Some v)
away_listed plan scope place x v spot is sight away =
    let at = is.others.listed away.other v x (owner_within plan.rows away.other x v away.stands)
    away.elsewhere away.home away.stands in
    (at.0, at.1, ap (λ (d : ℕ). owner_at plan.rows d x) at.2 ∙ away.stands)

-- an owner in another row at one place of the span is owner there at another
away_moves : (plan : PlanView) (scope : Scope) (place x v k : ℕ) → IsScope plan scope
    → k < length scope.others.items
    → owner_at plan.rows (slice_index scope.others.items k) x ≡ Some v → IsAway plan scope.core place v
    → IsAway plan scope.core x v
away_moves plan scope place x v k is lt stands away = record {
  home = away.home;
  other = slice_index scope.others.items k;
  elsewhere = is.others.other k lt;
  stands = stands;
}

-- all rows that matter were looked at
pub sight_whole : (plan : PlanView) (scope : Scope) (place : ℕ) (spot : Spot) → IsScope plan scope
    → IsSightOf plan scope place (length scope.others.items) spot → IsSpotSoFar plan scope.core place spot
sight_whole plan scope place spot is sight = record {
  owner = sight.owner;
  size = sight.size;
  away = λ v small. (
    λ has.
        (let at = sight.found v small has in
        record { home = (is.home v small).0 at.0; other = at.1; elsewhere = at.2; stands = at.3 }),
    λ away.
        (let at = away_listed plan scope place place v spot is sight away in
        sight.all at.0 v at.1 small ((is.home v small).1 away.home) at.2),
  );
  after = sight.after;
  within = sight.within;
  alike = λ x low less. record {
    owner = sight.own x low less;
    away = λ v away.
        (let at = away_listed plan scope place place v spot is sight away in
        away_moves plan scope place x v at.0 is at.1 (sym (sight.steady at.0 x at.1 low less) ∙ at.2) away);
    back = λ v away.
        (let at = away_listed plan scope place x v spot is sight away in
        away_moves plan scope x place v at.0 is at.1 (sight.steady at.0 x at.1 low less ∙ at.2) away);
  };
}
