-- The counts of the rounds that some core entered.
use Rattle.std.proofs.Common.{◌≡◌, ℕ, zero, suc, ◌<◌, ◌⊎◌, inl, inr, List, [], ◌∷◌, length, Some, refl, sym, subst, arith}
use Rattle.std.specs.Prelude.{slice_get}
use Rattle.std.proofs.lemmas.Option.{slice_get_within}
use Rattle.tab_core.specs.declared.entry.Entry.{Entry}
use Rattle.tab_core.proofs.Lists.{element_at}
use Rattle.round_words.specs.declared.view.Part.{Part}
use Rattle.dispatch_core.specs.Parts.{used_counts}
use Rattle.run_state.specs.Readings.{decided_by, extended_by}
use Rattle.run_state.proofs.Lists.{in_map, of_map}

-- what is in a list that is extended is in it or in the other
extended_has : (ms ns : List ℕ) (k d : ℕ) → slice_get (extended_by ms ns) k ≡ Some d
    → (slice_get ms k ≡ Some d) ⊎ (slice_get ns k ≡ Some d)
extended_has [] ns k d h = inr h
extended_has (m ∷ ms) [] k d h = inl h
extended_has (m ∷ ms) (n ∷ ns) zero d h = inl h
extended_has (m ∷ ms) (n ∷ ns) (suc k) d h = extended_has ms ns k d h

-- where either has something, the extended list does
has_extended : (ms ns : List ℕ) (k : ℕ) → (k < length ms) ⊎ (k < length ns)
    → (d : ℕ) × (slice_get (extended_by ms ns) k ≡ Some d)
has_extended [] ns k lt = element_at ns k (elim lt [ inl a ↦ absurd (omega arith) | inr b ↦ b ])
has_extended (m ∷ ms) [] k lt = element_at (m ∷ ms) k (elim lt [ inl a ↦ a | inr b ↦ absurd (omega arith) ])
has_extended (m ∷ ms) (n ∷ ns) zero lt = (m, refl)
has_extended (m ∷ ms) (n ∷ ns) (suc k) lt =
    has_extended ms ns k (elim lt [ inl a ↦ inl (omega arith) | inr b ↦ inr (omega arith) ])

-- a round that has a count has an entry with it
pub decided_has : (ps : List Part) (r d : ℕ) → slice_get (decided_by ps) r ≡ Some d
    → (c : ℕ) × (p : Part) × (e : Entry) × (slice_get ps c ≡ Some p) × (slice_get p.entries r ≡ Some e)
    × (e.used ≡ d)
decided_has [] r d h = absurd cc
decided_has (p ∷ ps) r d h = elim (extended_has (used_counts p.entries) (decided_by ps) r d h) [
  | inl here ↦ (let found = of_map (λ (e : Entry). e.used) p.entries r d here in
      (0, p, found.0, refl, found.1, sym found.2))
  | inr there ↦ (let rest = decided_has ps r d there in
      (suc rest.0, rest.1, rest.2, rest.3, rest.4, rest.5))
]

-- for `has_decided`: a round with an entry has a used count
used_within : (es : List Entry) (r : ℕ) (e : Entry) → slice_get es r ≡ Some e → r < length (used_counts es)
used_within es r e h = slice_get_within (used_counts es) r e.used (in_map (λ (x : Entry). x.used) es r e h)

-- a round that has an entry has a count
pub has_decided : (ps : List Part) (c r : ℕ) (p : Part) (e : Entry) → slice_get ps c ≡ Some p
    → slice_get p.entries r ≡ Some e → (d : ℕ) × (slice_get (decided_by ps) r ≡ Some d)
has_decided [] c r p e at h = absurd cc
has_decided (q ∷ ps) zero r p e at h =
    let is : q ≡ p = cc in
    has_extended (used_counts q.entries) (decided_by ps) r
    (inl (used_within q.entries r e (subst (λ (x : Part). slice_get x.entries r ≡ Some e) (sym is) h)))
has_decided (q ∷ ps) (suc c) r p e at h =
    let rest = has_decided ps c r p e at h in
    let lt = slice_get_within (decided_by ps) r rest.0 rest.1 in
    has_extended (used_counts q.entries) (decided_by ps) r (inr lt)
