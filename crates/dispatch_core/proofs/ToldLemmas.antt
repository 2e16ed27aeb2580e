-- What a step tells.
use Rattle.std.proofs.Common.{◌≡◌, ◌≢◌, ℕ, ◌+◌, ◌≤◌, true, length, inl, inr, refl, sym, ap, ◌∙◌, subst, arith}
use Rattle.std.specs.Prelude.{All, slice_index}
use Rattle.std.proofs.lemmas.Bool.{cases_lt}
use Rattle.tab_core.specs.declared.stint.Stint.{Stint}
use Rattle.table_form.specs.Running.Outlines.{IsOutline, OutlineView}
use Rattle.round_words.specs.declared.view.Part.{Part}
use Rattle.round_words.specs.declared.view.View.{View}
use Rattle.round_words.specs.Shown.{IsSight}
use Rattle.round_words.specs.Changes.{ChangesOnly}
use Rattle.round_words.specs.Hearing.{HearsCores}
use Rattle.round_words.specs.Views.{hears, holds, last_of, part, sees}
use Rattle.round_words.proofs.HearingLemmas.{SamePart, heard_same}
use Rattle.round_words.proofs.ListLemmas.{last_of-push, length_push}
use Rattle.dispatch_core.specs.Parts.{HasEvents, HasSeen, SameButHeard}
use Rattle.dispatch_core.specs.Told.{LacksEvent}
use Rattle.dispatch_core.proofs.DueLemmas.{has_by_next}
use Rattle.dispatch_core.proofs.PartLemmas.{SameRun}

-- a part that was heard or saw has the same run
pub run_of_same : (p q : Part) → SamePart p q → SameRun p q
run_of_same p q same = record { clock = same.clock; entries = same.entries; stints = same.stints }

-- a part that heard up to a core of low clock has the same run
pub low_same : (c lag tick d n : ℕ) (p heard q : Part) → HearsCores c lag tick d p heard → q ≡ hears heard d n → SameRun p q
low_same c lag tick d n p heard q near is =
    let same = heard_same c lag tick d p heard near in
    subst (SameRun p) (sym is) (record { clock = same.clock; entries = same.entries; stints = same.stints })

-- nothing else has changed of a part that heard up to a core of low clock
pub low_stays : (c lag tick d n : ℕ) (p heard q : Part) → HearsCores c lag tick d p heard → q ≡ hears heard d n
    → SameButHeard p q
low_stays c lag tick d n p heard q near is =
    let same = heard_same c lag tick d p heard near in
    subst (SameButHeard p) (sym is) (record {
      clock = same.clock;
      sights = same.sights;
      entries = same.entries;
      stints = same.stints;
      floors = same.floors;
    })

-- what was heard of as many cores, with the same lag
pub hears_same : (c lag lag' tick n n' : ℕ) (p q : Part) → lag ≡ lag' → n ≡ n' → HearsCores c lag tick n p q → HearsCores c lag' tick n' p q
hears_same c lag lag' tick n n' p q lags counts h =
    subst (λ (l : ℕ). HearsCores c l tick n' p q) lags (subst (λ (k : ℕ). HearsCores c lag tick k p q) counts h)

-- the sight is the same once the core has heard the others
pub heard_seen : (o : OutlineView) (count : ℕ) (p q : Part) → SamePart p q → HasSeen o count p → HasSeen o count q
heard_seen o count p q same seen = record {
  some = omega (arith, ap length same.sights, seen.some);
  last = ap last_of same.sights ∙ seen.last;
  has = subst (HasEvents o count) (sym same.clock) seen.has;
  within = seen.within;
  stints = subst (All (λ (s : Stint). s.seen ≤ count)) (sym same.stints) seen.stints;
}

-- See leaves the run
pub sees_same : (p q : Part) (count : ℕ) → q ≡ sees p count → SameRun p q
sees_same p q count is = subst (SameRun p) (sym is) (record { clock = refl; entries = refl; stints = refl })

-- a count that has what is due was seen
pub has_seen : (o : OutlineView) (v : View) (c count : ℕ) (q : Part) → q ≡ sees (part v c) count → IsSight v c count
    → HasEvents o count (part v c).clock → v.events ≡ length o.ticks → HasSeen o count q
has_seen o v c count q is sighted has events = subst (HasSeen o count) (sym is) (record {
  some = omega (arith, length_push (part v c).sights count);
  last = last_of-push (part v c).sights count;
  has = has;
  within = omega (arith, sighted.within, events);
  stints = λ k d lt. (sighted.counts.stints k d lt).0;
})

-- a count that leaves out an event that is due was seen
abbrev pub lacks_event : (o : OutlineView) (v w : View) (c count tick : ℕ) → IsOutline o → (HasEvents o count (part v c).clock → ⊥)
    → IsSight v c count → v.events ≡ length o.ticks → tick ≡ slice_index o.ticks count → part w c ≡ sees (part v c) count
    → LacksEvent o c v w tick
lacks_event o v w c count tick ok lacks sighted events tick_is is = record {
  count = count;
  sighted = sighted;
  some = elim (cases_lt count (length o.ticks)) [ inl lt ↦ lt | inr le ↦ absurd (lacks (λ i lt due. omega (arith, le, lt))) ];
  tick_is = tick_is;
  due = elim (cases_lt (part v c).clock (slice_index o.ticks count + o.lag)) [
    | inl late ↦ absurd (lacks (has_by_next o ok count (part v c).clock late))
    | inr due ↦ omega (arith, due, tick_is)
  ];
  becomes = is;
}

-- the clock that was loaded is that core's, where the view holds it
pub low_told : (c : ℕ) (v u : View) (d tick : ℕ) → ChangesOnly v u c → d ≢ c → (holds u d ≡ true → tick ≡ (part u d).clock)
    → holds v d ≡ true → tick ≡ (part v d).clock
low_told c v u d tick others away exact has = exact (others.actors d ∙ has) ∙ ap (λ (p : Part). p.clock) (others.parts d away)
