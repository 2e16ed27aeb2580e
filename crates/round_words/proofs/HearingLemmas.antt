-- An actor that sees to one core after another.
use Rattle.std.proofs.Common.{◌≡◌, ◌≢◌, ℕ, zero, suc, ◌+◌, ◌<◌, ◌≤◌, true, List, [], ◌∷◌, ◌++◌, length, set, sym, ap, ◌∙◌, subst, refl, arith}
use Rattle.std.specs.Prelude.{slice_index}
use mathlib.Core.Logic.{dite}
use native.Mathlib.Decide.{ℕ_discrete}
use Rattle.round_words.specs.declared.view.Part.{Part}
use Rattle.round_words.specs.declared.view.View.{View}
use Rattle.round_words.specs.Views.{holds, part, with_part, hears, heard_of, last_of, last_heard}
use Rattle.round_words.specs.Changes.{ChangesOnly}
use Rattle.round_words.specs.Shown.{IsHeardClock}
use Rattle.round_words.specs.Hearing.{KnowsClocks, HearsCore, HearsCores, MeetsLow}
use Rattle.round_words.specs.Hearing.HearsCore.{itself, well_known, asked}
use Rattle.round_words.specs.Inside.Known.{HasSeenTo}
use Rattle.round_words.proofs.ChangesLemmas.{part_with, changes_with, changes_more}
use Rattle.std.proofs.lemmas.List.{get_or-set_other}
use Rattle.round_words.proofs.ListLemmas.{each_set, last_of-push, word_here, word_else}

-- the parts are the same but for what was heard
pub record SamePart (p q : Part) : Type 0 where
  pub clock : q.clock ≡ p.clock
  pub sights : q.sights ≡ p.sights
  pub entries : q.entries ≡ p.entries
  pub stints : q.stints ≡ p.stints
  pub floors : q.floors ≡ p.floors

-- nothing was heard
pub same_none : (p : Part) → SamePart p p
same_none p = record { clock = refl; sights = refl; entries = refl; stints = refl; floors = refl }

-- one core was seen to
same_core : (c lag tick d : ℕ) (p q r : Part) → SamePart p q → HearsCore c lag tick d q r → SamePart p r
same_core c lag tick d p q r same (itself me is) = subst (SamePart p) (sym is) same
same_core c lag tick d p q r same (well_known away enough is) = subst (SamePart p) (sym is) same
same_core c lag tick d p q r same (asked away low clock enough is) = subst (SamePart p) (sym is) (record {
  clock = same.clock;
  sights = same.sights;
  entries = same.entries;
  stints = same.stints;
  floors = same.floors;
})

-- hearing changes nothing else of the part
pub heard_same : (c lag tick n : ℕ) (p q : Part) → HearsCores c lag tick n p q → SamePart p q
heard_same c lag tick zero p q h = subst (SamePart p) (sym h) (same_none p)
heard_same c lag tick (suc d) p q h = same_core c lag tick d p h.0 q (heard_same c lag tick d p h.0 h.1) h.2

-- no core yet
pub seen_to_none : (v : View) (c lag tick : ℕ) (known : List ℕ) → ChangesOnly v v c
    → KnowsClocks known (part v c)
    → HasSeenTo v v c lag tick 0 known
seen_to_none v c lag tick known same knows =
    record { changes = same; knows = knows; heard = refl; near = λ d lt. absurd (omega arith) }

-- the next core is the actor itself, or known well enough
pub seen_to_known : (v u : View) (c lag tick n : ℕ) (known : List ℕ) → u.lag ≡ lag
    → (n ≢ c → tick ≤ slice_index known n + lag) → HasSeenTo v u c lag tick n known
    → HasSeenTo v u c lag tick (n + 1) known
seen_to_known v u c lag tick n known lag_is enough seen =
    let e : suc n ≡ n + 1 = omega arith in
    let well : n ≢ c → tick ≤ last_heard (part u c) n + lag = λ away.
    subst (λ (k : ℕ). tick ≤ k + lag) (seen.knows n) (enough away) in record {
      changes = seen.changes;
      knows = seen.knows;
      heard = subst (λ (k : ℕ). HearsCores c lag tick k (part v c) (part u c)) e (
        part u c,
        seen.heard,
        dite (ℕ_discrete n c) (λ me. itself me refl) (λ away. well_known away (well away) refl),
      );
      near = λ d lt away. dite (ℕ_discrete d n)
          (λ is. subst (λ (k : ℕ). tick ≤ last_heard (part u c) k + u.lag) (sym is)
          (subst (λ (k : ℕ). tick ≤ last_heard (part u c) n + k) (sym lag_is) (well (λ me. away (is ∙ me)))))
          (λ apart. seen.near d (omega arith) away);
    }

-- a clock that was heard is known
pub knows_heard : (known : List ℕ) (p : Part) (d clock : ℕ) → d < length known → KnowsClocks known p
    → last_heard (hears p d clock) d ≡ clock → KnowsClocks (set known d clock) (hears p d clock)
knows_heard known p d clock lt knows keeps k = dite (ℕ_discrete k d)
    (λ is. ap (slice_index (set known d clock)) is
    ∙ (word_here known d clock lt ∙ (sym keeps ∙ ap (last_heard (hears p d clock)) (sym is))))
    (λ away. word_else known d k clock away
    ∙ (knows k ∙ sym (ap last_of (get_or-set_other p.heard d k (heard_of p d ++ clock ∷ []) [] away))))

-- what the actor heard of other cores stays
heard_else : (p : Part) (d k clock : ℕ) → k ≢ d → last_heard (hears p d clock) k ≡ last_heard p k
heard_else p d k clock away = ap last_of (get_or-set_other p.heard d k (heard_of p d ++ clock ∷ []) [] away)

-- what an actor heard last never falls
pub heard_rises : (p : Part) (d clock k : ℕ) → last_heard p d ≤ clock → last_heard p k ≤ last_heard (hears p d clock) k
heard_rises p d clock k le = each_set (λ l. last_heard p k ≤ last_of l) p.heard d k (heard_of p d ++ clock ∷ []) []
    (λ e. let last = last_of-push (heard_of p d) clock in
    subst (λ (j : ℕ). last_heard p j ≤ last_of (heard_of p d ++ clock ∷ [])) (sym e) (omega arith))
    (omega arith)

-- the next core is asked, and its clock is enough
pub seen_to_asked : (v u w : View) (c lag tick n clock : ℕ) (known : List ℕ) → u.lag ≡ lag → holds u c ≡ true
    → n ≢ c → n < length known → slice_index known n + lag < tick → tick ≤ clock + lag
    → w ≡ with_part u c (hears (part u c) n clock) → last_heard (hears (part u c) n clock) n ≡ clock
    → HasSeenTo v u c lag tick n known → HasSeenTo v w c lag tick (n + 1) (set known n clock)
seen_to_asked v u w c lag tick n clock known lag_is has away lt low enough is keeps seen =
    let e : suc n ≡ n + 1 = omega arith in
    let p : Part = part u c in
    let q : Part = hears p n clock in
    let now : part w c ≡ q = part_with u w c q has is in
    let more : ChangesOnly u w c = changes_with u w c q has is in
    let unknown : last_heard p n + lag < tick = subst (λ (k : ℕ). k + lag < tick) (seen.knows n) low in
    record {
      changes = changes_more v u w c seen.changes more;
      knows = subst (KnowsClocks (set known n clock)) (sym now)
          (knows_heard known p n clock lt seen.knows keeps);
      heard = subst (λ (k : ℕ). HearsCores c lag tick k (part v c) (part w c)) e
          (p, seen.heard, asked away unknown clock enough now);
      near = λ d few apart. subst (λ (r : Part). tick ≤ last_heard r d + w.lag) (sym now)
          (subst (λ (k : ℕ). tick ≤ last_heard q d + k) (sym more.lag) (dite (ℕ_discrete d n)
          (λ here. subst (λ (k : ℕ). tick ≤ last_heard q k + u.lag) (sym here)
          (subst (λ (k : ℕ). tick ≤ k + u.lag) (sym keeps)
          (subst (λ (k : ℕ). tick ≤ clock + k) (sym lag_is) enough)))
          (λ there. subst (λ (k : ℕ). tick ≤ k + u.lag) (sym (heard_else p n d clock there))
          (seen.near d (omega arith) apart))));
    }

-- the next core is asked, and its clock is too low
pub meets_low : (v u w : View) (c cores lag tick n clock : ℕ) (known : List ℕ) → n < cores → n ≢ c
    → holds u c ≡ true → HasSeenTo v u c lag tick n known → w ≡ with_part u c (hears (part u c) n clock)
    → clock + lag < tick → IsHeardClock u c n clock → MeetsLow v w c cores lag tick n clock
meets_low v u w c cores lag tick n clock known lt away has seen is low heard = record {
  core = lt;
  other = away;
  heard = part u c;
  near = seen.heard;
  rises = heard.rises;
  low = low;
  exact = λ held. heard.exact (seen.changes.actors n ∙ held)
      ∙ ap (λ (p : Part). p.clock) (seen.changes.parts n away);
  becomes = part_with u w c (hears (part u c) n clock) has is;
}
