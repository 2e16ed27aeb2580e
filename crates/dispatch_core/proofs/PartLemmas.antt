-- What each part of a step keeps of the core's part.
use Rattle.std.proofs.Common.{◌≡◌, ℕ, ◌+◌, ◌*◌, ◌/◌, ◌<◌, ◌≤◌, [], ◌∷◌, length, length-append, inl, inr, refl, sym, ap, ◌∙◌, subst, arith}
use Rattle.std.specs.Prelude.{All}
use Rattle.std.proofs.lemmas.Option.{slice_get_within}
use Rattle.tab_core.proofs.Lists.{push_split}
use Rattle.tab_core.specs.declared.TheConstants.{ROUND}
use Rattle.tab_core.specs.declared.entry.Entry.{Entry}
use Rattle.tab_core.specs.declared.stint.Stint.{Stint}
use Rattle.table_form.specs.Running.Outlines.{OutlineView}
use Rattle.round_words.specs.declared.view.Part.{Part}
use Rattle.round_words.specs.Views.{last_of, with_stint}
use Rattle.round_words.proofs.ListLemmas.{at_get}
use Rattle.dispatch_core.specs.Parts.{HasEvents, HasSeen, IsTimely}
use Rattle.dispatch_core.specs.Told.{BeginsNext, ComesToEnter, MakesEntry}

-- the parts have one clock, and the same entries and stints
pub record SameRun (p q : Part) : Type 0 where
  pub clock : q.clock ≡ p.clock
  pub entries : q.entries ≡ p.entries
  pub stints : q.stints ≡ p.stints

-- the part itself
pub run_same : (p q : Part) → q ≡ p → SameRun p q
run_same p q is = subst (SameRun p) (sym is) (record { clock = refl; entries = refl; stints = refl })

-- what was seen and heard doesn't matter to the run
pub timely_same : (o : OutlineView) (rounds : ℕ) (p q : Part) → SameRun p q → IsTimely o rounds p → IsTimely o rounds q
timely_same o rounds p q same kept = record {
  in_run = omega (arith, same.clock, kept.in_run);
  in_rounds = (let e : length q.entries ≡ length p.entries = ap length same.entries in omega (arith, e, kept.in_rounds));
  rising = rw same.entries kept.rising;
  entered = rw same.entries kept.entered;
  began = rw same.stints kept.began;
  risen = rw same.stints kept.risen;
}

-- the core makes an entry
made_timely : (o : OutlineView) (rounds count : ℕ) (p q : Part) → IsTimely o rounds p → p.clock < rounds * ROUND
    → HasSeen o count p → All (λ (e : Entry). (e.seen ≤ count) × (e.used ≤ count)) p.entries → MakesEntry p q
    → IsTimely o rounds q
made_timely o rounds count p q kept less seen entries d =
    let e : Entry = d.entry in
    let saw : e.seen ≡ count = d.is_entry.seen ∙ seen.last in
    let at : e.round * ROUND ≡ p.clock = ap (λ (r : ℕ). r * ROUND) d.is_entry.round ∙ sym d.start in
    subst (IsTimely o rounds) (sym d.becomes) (record {
      in_run = kept.in_run;
      in_rounds = (let more = length-append p.entries (e ∷ []) in omega (arith, more, d.due, less));
      rising = λ j k x y lt at' at''. elim (push_split p.entries k e y at'') [
        | inl old ↦ elim (push_split p.entries j e x at') [
          | inl before ↦ kept.rising j k x y lt before old
          | inr last ↦ absurd (let w = slice_get_within p.entries k y old in omega (arith, last.0))
        ]
        | inr new ↦ elim (push_split p.entries j e x at') [
          | inl before ↦ (let le = at_get (λ (z : Entry). (z.seen ≤ count) × (z.used ≤ count)) p.entries j x before entries in
              let is = ap (λ (z : Entry). z.seen) new.1 in omega (arith, le.1, saw, is))
          | inr last ↦ absurd (omega (arith, last.0, new.0))
        ]
      ];
      entered = λ k x h. elim (push_split p.entries k e x h) [
        | inl old ↦ kept.entered k x old
        | inr new ↦ subst (λ (z : Entry). HasEvents o z.seen (z.round * ROUND)) new.1 (rw (saw, at) seen.has)
      ];
      began = kept.began;
      risen = kept.risen;
    })

-- the core has entered its clock's round
pub entered_timely : (o : OutlineView) (rounds count : ℕ) (p q : Part) → IsTimely o rounds p → p.clock < rounds * ROUND
    → HasSeen o count p → All (λ (e : Entry). (e.seen ≤ count) × (e.used ≤ count)) p.entries → ComesToEnter p q
    → IsTimely o rounds q
entered_timely o rounds count p q kept less seen entries enters = elim enters [
  | inl had ↦ subst (IsTimely o rounds) (sym had.1) kept
  | inr d ↦ made_timely o rounds count p q kept less seen entries d
]

-- entering leaves all but the entries
pub record SameButEntries (p q : Part) : Type 0 where
  pub clock : q.clock ≡ p.clock
  pub sights : q.sights ≡ p.sights
  pub stints : q.stints ≡ p.stints
  pub heard : q.heard ≡ p.heard

-- entering leaves all but the entries of a part
pub entered_same : (p q : Part) → ComesToEnter p q → SameButEntries p q
entered_same p q enters = elim enters [
  | inl had ↦ subst (SameButEntries p) (sym had.1) (record { clock = refl; sights = refl; stints = refl; heard = refl })
  | inr d ↦ subst (SameButEntries p) (sym d.becomes) (record { clock = refl; sights = refl; stints = refl; heard = refl })
]

-- the sight is the same once the core has entered its round
pub entered_seen : (o : OutlineView) (count : ℕ) (p q : Part) → HasSeen o count p → ComesToEnter p q → HasSeen o count q
entered_seen o count p q seen enters = let same = entered_same p q enters in record {
  some = omega (arith, ap length same.sights, seen.some);
  last = ap last_of same.sights ∙ seen.last;
  has = subst (HasEvents o count) (sym same.clock) seen.has;
  within = seen.within;
  stints = subst (All (λ (s : Stint). s.seen ≤ count)) (sym same.stints) seen.stints;
}

-- the core ran its next stint
pub ran_timely : (o : OutlineView) (rounds count : ℕ) (p : Part) (s : Stint) → IsTimely o rounds p → p.clock < rounds * ROUND
    → HasSeen o count p → BeginsNext p s → s.end ≤ (s.from / ROUND + 1) * ROUND → IsTimely o rounds (with_stint p s)
ran_timely o rounds count p s kept less sight next in_round =
    let saw : s.seen ≡ count = next.seen ∙ sight.last in record {
      in_run = omega (arith, next.from, in_round, less);
      in_rounds = kept.in_rounds;
      rising = kept.rising;
      entered = kept.entered;
      began = λ k x h. elim (push_split p.stints k s x h) [
        | inl old ↦ kept.began k x old
        | inr new ↦ subst (λ (z : Stint). HasEvents o z.seen z.from) new.1 (rw (saw, next.from) sight.has)
      ];
      risen = λ j k x y le h h'. elim (push_split p.stints j s x h) [
        | inl old ↦ elim (push_split p.stints k s y h') [
          | inl old' ↦ kept.risen j k x y le old old'
          | inr new' ↦ (let most = at_get (λ (t : Stint). t.seen ≤ count) p.stints j x old sight.stints in
              let is = ap (λ (z : Stint). z.seen) new'.1 in omega (arith, most, saw, is))
        ]
        | inr new ↦ elim (push_split p.stints k s y h') [
          | inl old' ↦ absurd (let w = slice_get_within p.stints k y old' in omega (arith, new.0))
          | inr new' ↦ (let is = ap (λ (z : Stint). z.seen) (sym new.1 ∙ new'.1) in omega (arith, is))
        ]
      ];
    }
