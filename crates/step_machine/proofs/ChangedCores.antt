-- The cores after one of them has changed.
use Rattle.std.proofs.Common.{◌≡◌, ℕ, inl, inr, true, List, Some, sym, subst, ◌∙◌}
use Rattle.std.specs.Prelude.{slice_get, slice_set}
use Rattle.std.proofs.lemmas.Bool.{cases_eq}
use Rattle.tab_core.specs.declared.entry.Entry.{Entry}
use Rattle.tab_core.proofs.Lists.{set_other, same}
use Rattle.table_form.specs.Running.State.{CoreState}
use Rattle.table_form.specs.Promises.OneTable.{HasOneWinner}
use Rattle.step_machine.proofs.Lists.{set_split, set_here}

-- what holds of each core after one of them has changed
pub cores_after : (P : ℕ → CoreState → Type 0) (cores : List CoreState) (c : ℕ) (changed : CoreState) →
    ((d : ℕ) (core : CoreState) → slice_get cores d ≡ Some core → P d core) → P c changed →
    (d : ℕ) (core : CoreState) → slice_get (slice_set cores c changed) d ≡ Some core → P d core
cores_after P cores c changed others this d core h = elim (set_split cores c d changed core h) [
  | inl here ↦ subst (λ (x : CoreState). P d x) here.1 (subst (λ (e : ℕ). P e changed) (sym here.0) this)
  | inr before ↦ others d core before.1
]

-- a round is won as it was, where the changed core keeps its entries and has no new one of the
-- round that is won
pub won_after : (cores : List CoreState) (c r count : ℕ) (core changed : CoreState)
    → slice_get cores c ≡ Some core →
    ((e : Entry) → slice_get core.entries r ≡ Some e → slice_get changed.entries r ≡ Some e) →
    ((e : Entry) → slice_get changed.entries r ≡ Some e → e.won ≡ true → slice_get core.entries r ≡ Some e) →
    HasOneWinner cores r count → HasOneWinner (slice_set cores c changed) r count
won_after cores c r count core changed at stays back one = record {
  winner = one.winner;
  won_by = elim (cases_eq one.winner c) [
    | inl is ↦
        (let found : one.won_by.core ≡ core = same (slice_get cores c) one.won_by.core core
        (subst (λ (d : ℕ). slice_get cores d ≡ Some one.won_by.core) is one.won_by.at) at in
        record {
          core = changed;
          at = rw is (set_here cores c changed core at);
          entry = one.won_by.entry;
          entered =
              stays one.won_by.entry
              (subst (λ (x : CoreState). slice_get x.entries r ≡ Some one.won_by.entry) found
              one.won_by.entered);
          won = one.won_by.won;
          seen = one.won_by.seen;
        })
    | inr isnt ↦ record {
      core = one.won_by.core;
      at = set_other cores c one.winner changed isnt ∙ one.won_by.at;
      entry = one.won_by.entry;
      entered = one.won_by.entered;
      won = one.won_by.won;
      seen = one.won_by.seen;
    }
  ];
  only = λ d x e h g w. elim (set_split cores c d changed x h) [
    | inl here ↦
        (let old : slice_get core.entries r ≡ Some e = back e
        (subst (λ (y : CoreState). slice_get y.entries r ≡ Some e) (sym here.1) g) w in
        here.0 ∙ one.only c core e at old w)
    | inr before ↦ one.only d x e before.1 g w
  ];
}
