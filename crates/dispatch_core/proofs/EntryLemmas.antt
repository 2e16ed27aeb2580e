-- A core that enters its clock's round, and the used counts of its entries.
use Rattle.std.proofs.Common.{◌≡◌, ℕ, zero, suc, ◌*◌, ◌/◌, ◌≤◌, Bool, true, List, [], ◌∷◌, ◌++◌, length, Some, refl, ap, arith}
use Rattle.std.specs.Prelude.{All, slice_get}
use Rattle.std.proofs.lemmas.List.Elements.{All-head, All-tail}
use Rattle.std.proofs.lemmas.List.{length-map}
use Rattle.tab_core.specs.declared.TheConstants.{ROUND}
use Rattle.tab_core.specs.declared.entry.Entry.{Entry}
use Rattle.round_words.specs.declared.view.Part.{Part}
use Rattle.round_words.specs.Rule.{IsCorePart}
use Rattle.round_words.specs.Views.{entry, with_entry, last_of}
use Rattle.dispatch_core.specs.Parts.{used_counts}
use Rattle.dispatch_core.specs.Told.{MakesEntry}

-- there is a used count for each entry
pub count_used : (entries : List Entry) → length (used_counts entries) ≡ length entries
count_used entries = length-map entries (λ (e : Entry). e.used)

-- the entry whose used count is there
pub used_at : (entries : List Entry) (k r : ℕ) → slice_get (used_counts entries) k ≡ Some r
    → (e : Entry) × (slice_get entries k ≡ Some e) × (e.used ≡ r)
used_at [] k r h = absurd cc
used_at (e ∷ es) zero r h = (e, refl, cc)
used_at (e ∷ es) (suc k) r h = used_at es k r h

-- a bound of all used counts
pub used_within : (n : ℕ) (entries : List Entry) (k r : ℕ) → All (λ (e : Entry). e.used ≤ n) entries
    → slice_get (used_counts entries) k ≡ Some r → r ≤ n
used_within n [] k r all h = absurd cc
used_within n (e ∷ es) zero r all h = let is : e.used ≡ r = cc in let le = All-head (λ (x : Entry). x.used ≤ n) e es all in omega arith
used_within n (e ∷ es) (suc k) r all h = used_within n es k r (All-tail (λ (x : Entry). x.used ≤ n) e es all) h

-- one more entry
pub used_push : (entries : List Entry) (e : Entry) → used_counts (entries ++ e ∷ []) ≡ used_counts entries ++ e.used ∷ []
used_push [] e = refl
used_push (x ∷ xs) e = ap (λ (us : List ℕ). x.used ∷ us) (used_push xs e)

-- what a core decides at the start of a round that it hasn't entered
pub makes_entry : (p q : Part) (count : ℕ) (won : Bool) → IsCorePart p → length p.entries * ROUND ≡ p.clock
    → q ≡ with_entry p (entry (p.clock / ROUND) count (last_of p.sights) won) → (won ≡ true → count ≡ last_of p.sights)
    → MakesEntry p q
makes_entry p q count won own due is told = record {
  due = omega (arith, due);
  start = omega (arith, due);
  entry = entry (p.clock / ROUND) count (last_of p.sights) won;
  is_entry = record { round = refl; seen = refl; won = told };
  becomes = is;
}
