-- `advance`: a core's next stint.
use Rattle.std.proofs.Common.{◌≡◌, ◌≢◌, ℕ, suc, ◌+◌, ◌*◌, ◌/◌, ◌%◌, ◌^◌, ◌<◌, ◌≤◌, true, [], ◌∷◌, ◌++◌, length, set, Option, Some, refl, sym, ap, ◌∙◌, subst, ⊎_elim, arith, le_trans, le_refl}
use Rattle.tab_core.specs.declared.TheConstants.{ROUND}
use Rattle.std.specs.Prelude.{slice_index, slice_get}
use Rattle.std.proofs.lemmas.List.Elements.{All-nil, All-push, All-weaker}
use Rattle.std.proofs.lemmas.Option.{slice_get_within}
use Rattle.tab_core.proofs.Lists.{push_split}
use Rattle.tab_core.proofs.TimelineLemmas.{contiguous_push}
use Rattle.tab_core.specs.Timelines.{HasTimeline, IsStintOf}
use Rattle.tab_core.specs.declared.entry.Entry.{Entry}
use Rattle.tab_core.specs.declared.stint.Stint.{Stint}
use Rattle.round_words.specs.declared.view.Part.{Part}
use Rattle.round_words.specs.declared.view.View.{View}
use Rattle.round_words.specs.Views.{part, with_part, heard_of, with_stint, IsStintAfter}
use Rattle.round_words.specs.Rule.{FloorsUpTo, Board, BoardInvariant, CoversEarlier, EntryFits, CoreFits, HeardFits}
use Rattle.round_words.specs.Hearing.{HasHeardTo}
use Rattle.round_words.specs.Shown.{HoldsCore}
use Rattle.round_words.specs.Inside.Claims.{AdvanceClaim, StepKeepsRule}
use Rattle.round_words.proofs.PlaceLemmas.{put, put_here, put_else, put_all}
use Rattle.round_words.proofs.PlaceLemmas as places
use Rattle.std.proofs.lemmas.List.{length-set}
use Rattle.round_words.proofs.ListLemmas.{word_here, word_else, last_below, at_get}
use Rattle.round_words.proofs.LoadLemmas.{parts_put, mine}
use Rattle.round_words.proofs.PostLemmas.{writes}

-- the board with a new clock of core c
abbrev with_clock : Board → ℕ → ℕ → Board
with_clock g c end = record g { clocks = put g.clocks c end }

-- another core's part
advanced_else : (g : Board) (c end b : ℕ) (p : Part) → b ≢ c → CoreFits g b p
    → CoreFits (with_clock g c end) b p
advanced_else g c end b p away f = record {
  clock = f.clock ∙ sym (put_else g.clocks c b end away);
  own = f.own;
  floors = f.floors;
  entries = All-weaker (EntryFits g b) (EntryFits (with_clock g c end) b)
      (λ e h. record { count = h.count; winner = h.winner }) p.entries f.entries;
  won = f.won;
}

-- a stint from the clock on belongs to its round's entry
stint_of : (p : Part) (end : ℕ) (ran : Option ℕ) (s : Stint) → IsStintAfter p end ran s → p.clock < end
    → end ≤ p.clock / ROUND * ROUND + ROUND → IsStintOf p.entries s
stint_of p end ran s next later within =
    let a = next.from in
    let b = next.end in record {
      some_ticks = omega arith;
      in_round = subst (λ (x : ℕ). s.end ≤ (x / ROUND + 1) * ROUND) (sym a) (omega arith);
      entry = next.entry;
      entered = subst (λ (x : ℕ). slice_get p.entries (x / ROUND) ≡ Some next.entry) (sym a) next.entered;
      used = next.used;
    }

-- a stint from the clock on goes on with the timeline
timeline_stint : (p : Part) (end : ℕ) (ran : Option ℕ) (s : Stint) → IsStintAfter p end ran s → p.clock < end
    → end ≤ p.clock / ROUND * ROUND + ROUND → HasTimeline p.clock p.entries p.stints
    → HasTimeline s.end p.entries (p.stints ++ s ∷ [])
timeline_stint p end ran s next later within t =
    let lt : p.clock / ROUND < length p.entries =
    slice_get_within p.entries (p.clock / ROUND) next.entry next.entered in
    let e = next.end in
    let ahead = t.ahead in record {
      contiguous = contiguous_push 0 p.clock p.stints s t.contiguous next.from;
      numbered = t.numbered;
      reach = omega arith;
      ahead = omega arith;
      each = λ k x at. ⊎_elim (λ old. t.each k x old)
          (λ (new : (k ≡ length p.stints) × (s ≡ x)).
          subst (IsStintOf p.entries) new.1 (stint_of p end ran s next later within))
          (push_split p.stints k s x at);
    }

-- the part of the core that ran
advanced : (g : Board) (c end : ℕ) (ran : Option ℕ) (p : Part) (s : Stint) → CoreFits g c p → BoardInvariant g
    → c < g.cores → IsStintAfter p end ran s → p.clock < end → end ≤ p.clock / ROUND * ROUND + ROUND
    → CoreFits (with_clock g c end) c (with_stint p s)
advanced g c end ran p s f sound core next later within =
    let n : ℕ = length g.floors in
    let k : ℕ = p.clock / ROUND in
    let used = at_get (λ (e : Entry). (e.seen ≤ n) × (e.used ≤ n)) p.entries k next.entry next.entered
    f.floors.counts.entries in
    let seen : s.seen ≤ n =
    subst (λ (y : ℕ). y ≤ n) (sym next.seen) (last_below p.sights n f.floors.counts.sights) in record {
      clock = next.end ∙ sym (put_here g.clocks c c end refl);
      own = record {
        timeline = timeline_stint p end ran s next later within f.own.timeline;
        sights = All-nil (CoversEarlier (with_stint p s));
      };
      floors = record {
        counts = record {
          sights = All-nil (λ j. j ≤ n);
          entries = f.floors.counts.entries;
          stints = All-push (λ (y : Stint). (y.seen ≤ n) × (y.used ≤ n)) p.stints s f.floors.counts.stints
              (seen, subst (λ (y : ℕ). y ≤ n) (sym next.used) used.1);
        };
        entered = f.floors.entered;
        began = All-push (λ (y : Stint). FloorsUpTo g.floors y.seen y.from) p.stints s f.floors.began
            (λ i h. let low : slice_index g.floors i ≤ g.clocks c = sound.low c core i 0 (omega arith) in
            let cl = f.clock in
            let fr = next.from in
            omega arith);
      };
      entries = All-weaker (EntryFits g c) (EntryFits (with_clock g c end) c)
          (λ e h. record { count = h.count; winner = h.winner }) p.entries f.entries;
      won = f.won;
    }

-- no two clocks are more than the lag apart
near_put : (g : Board) (c end : ℕ) → BoardInvariant g → g.clocks c ≤ end
    → ((d : ℕ) → d < g.cores → d ≢ c → end ≤ g.clocks d + g.lag) → c < g.cores
    → (a b : ℕ) → a < g.cores → b < g.cores → put g.clocks c end a ≤ put g.clocks c end b + g.lag
near_put g c end sound later room core a b ha hb =
    put_all (λ i x. i < g.cores → x ≤ put g.clocks c end b + g.lag) g.clocks c end a
    (λ is _. put_all (λ j y. j < g.cores → end ≤ y + g.lag) g.clocks c end b (λ _ _. omega arith)
    (λ away h. room b h away) hb)
    (λ away _. put_all (λ j y. j < g.cores → g.clocks a ≤ y + g.lag) g.clocks c end b
    (λ _ _. let n = sound.near a c ha core in omega arith) (λ _ h. sound.near a b ha h) hb)
    ha

-- no clock falls
rises : (g : Board) (c end d : ℕ) → g.clocks c ≤ end → g.clocks d ≤ put g.clocks c end d
rises g c end d later = put_all (λ i x. g.clocks i ≤ x) g.clocks c end d
    (λ is. subst (λ (i : ℕ). g.clocks i ≤ end) (sym is) later) (λ _. le_refl (g.clocks d))

-- what was heard isn't above a clock that rises
heard_rises : (g : Board) (c end : ℕ) (p : Part) → g.clocks c ≤ end → HeardFits g p
    → HeardFits (with_clock g c end) p
heard_rises g c end p later heard = record {
  lists = heard.lists;
  rises = heard.rises;
  low = λ d h. All-weaker (λ y. y ≤ g.clocks d) (λ y. y ≤ put g.clocks c end d)
      (λ y le. le_trans le (rises g c end d later)) (heard_of p d) (heard.low d h);
}

-- what a core that may run up to a tick shows
pub record MayAdvance (v : View) (c end : ℕ) : Type 0 where
  pub started : v.started ≡ true
  pub core : HoldsCore v c
  pub entry : Entry
  pub entered : slice_get (part v c).entries ((part v c).clock / ROUND) ≡ Some entry
  pub later : (part v c).clock < end
  pub within : end ≤ (part v c).clock / ROUND * ROUND + ROUND
  pub heard : HasHeardTo v c v.cores end

-- `advance` keeps the rule
pub advance_keeps : (id c end : ℕ) (ran : Option ℕ) (v : View) (s : Stint) → MayAdvance v c end
    → IsStintAfter (part v c) end ran s → end < 2 ^ 32 → 0 < v.lag
    → StepKeepsRule id v (suc c) (λ _. end) (λ n w. AdvanceClaim (c, end, ran) v n w)
advance_keeps id c end ran v s may next fit live words views ruled at small =
    let has = may.core.1 in
    let later = may.later in
    let within = may.within in
    let r = places.runs words views id v may.started ruled at in
    let g = r.board in
    let m = mine words views id c v live r at has in
    let p : Part = part v c in
    let q : Part = with_stint p s in
    let f = m.core may.core.0 in
    let cl : p.clock ≡ g.clocks c = f.1.clock in
    let up : g.clocks c ≤ end = omega arith in
    let g' : Board = with_clock g c end in
    let cnt = r.shows.count in
    let lim = r.sound.limits in
    let set' = m.settings in (
      with_part v c q,
      writes words views id c (suc c) end v q r g' (refl, refl, refl) at has
          (record {
            limits = r.sound.limits;
            posted = r.sound.posted;
            small = λ d h. put_all (λ i y. i < g.cores → y < 2 ^ 32) g.clocks c end d (λ _ _. fit)
                (λ _ h'. r.sound.small d h') h;
            near = near_put g c end r.sound up
                (λ d h away. let a = may.heard d (subst (λ (y : ℕ). d < y) (sym set'.1) h) away in
                let b = last_below (heard_of p d) (g.clocks d) (m.heard.low d h) in
                omega arith) f.0;
            low = λ d h. All-weaker (λ y. y ≤ g.clocks d) (λ y. y ≤ put g.clocks c end d)
                (λ y le. le_trans le (rises g c end d up)) g.floors (r.sound.low d h);
            made = r.sound.made;
          })
          (record {
            count = length-set words (suc c) end ∙ cnt;
            posted = word_else words (suc c) 0 end (λ e. omega arith) ∙ r.shows.posted;
            clocks = λ d h. put_all (λ i y. slice_index (set words (suc c) end) (suc i) ≡ y) g.clocks c end d
                (λ is. ap (λ (i : ℕ). slice_index (set words (suc c) end) (suc i)) is
                ∙ word_here words (suc c) end (let cc' = f.0 in omega arith))
                (λ away. word_else words (suc c) (suc d) end (λ e. away (omega arith)) ∙ r.shows.clocks d h);
            rounds = λ q d e o. word_else words (suc c) (33 + q % 4) end (λ x. let y = f.0 in omega arith)
                ∙ r.shows.rounds q d e o;
            none = λ k h e. word_else words (suc c) (33 + k) end (λ x. let y = f.0 in omega arith)
                ∙ r.shows.none k h e;
          })
          (parts_put g' r.parts c q
          (λ d h away. advanced_else g c end d (r.parts d) away (r.fits.cores d h))
          (λ b. heard_rises g c end (r.parts b) up (r.fits.heard b))
          (λ away. r.fits.floors)
          (λ h. advanced g c end ran p s f.1 r.sound f.0 next later within)
          (let h = heard_rises g c end p up m.heard in
          record { lists = h.lists; rises = h.rises; low = h.low })
          m.floors),
      (s, next, refl),
    )
