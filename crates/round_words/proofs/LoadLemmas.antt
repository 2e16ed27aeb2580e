-- The steps that change no word: `see`, `clock_of`, and the load of `meet`; and what a view shows.
use Rattle.std.proofs.Common.{◌≡◌, ◌≢◌, ℕ, suc, ◌*◌, ◌^◌, ◌<◌, ◌≤◌, true, List, [], ◌∷◌, ◌++◌, length, set, Some, refl, sym, ap, ◌∙◌, subst, inr, arith}
use Rattle.tab_core.specs.declared.TheConstants.{ROUND}
use Rattle.std.specs.Prelude.{All, slice_index}
use Rattle.std.proofs.lemmas.List.Elements.{All-push, All-weaker}
use mathlib.Core.Option.{some}
use lib.ListN.{get_elem?}
use Rattle.tab_core.specs.declared.entry.Entry.{Entry}
use Rattle.tab_core.specs.declared.stint.Stint.{Stint}
use Rattle.round_words.specs.declared.view.Part.{Part}
use Rattle.round_words.specs.declared.view.View.{View}
use Rattle.round_words.specs.Views.{controller, holds, part, with_part, heard_of, last_heard, last_of, sees, hears}
use Rattle.round_words.specs.Rule.{Board, AreWordsOf, HasCountsUpTo, CoversEarlier, EntryFits, CoreFits, NeverFalls, HeardFits, PartsFit, IsRunning, KeepsRule}
use Rattle.round_words.specs.Inside.Claims.{SeeClaim, HearClaim, MeetClaim, StepKeepsRule}
use Rattle.round_words.specs.Shown.{HasOneCount, KeepsFloors, ViewInvariant}
use Rattle.atomic_table.proofs.Lists.{set_again}
use Rattle.round_words.proofs.PlaceLemmas.{runs, put, put_all, moves, placed_with}
use Rattle.std.proofs.lemmas.List.{get_or-set_same, length-set, set-get_or}
use Rattle.round_words.proofs.ListLemmas.{last_below, each_set, rises_push, at_get, some_same, last_of-push}

-- the parts fit where one actor's part becomes p
pub parts_put : (g : Board) (ps : ℕ → Part) (a : ℕ) (p : Part)
    → ((c : ℕ) → c < g.cores → c ≢ a → CoreFits g c (ps c)) → ((b : ℕ) → HeardFits g (ps b))
    → (controller ≢ a → (ps controller).floors ≡ g.floors) → (a < g.cores → CoreFits g a p) → HeardFits g p
    → (a ≡ controller → p.floors ≡ g.floors) → PartsFit g (put ps a p)
parts_put g ps a p cores heards others core heard floors = record {
  cores = λ c h. put_all (CoreFits g) ps a p c
      (λ is. subst (λ (b : ℕ). CoreFits g b p) (sym is) (core (subst (λ (b : ℕ). b < g.cores) is h)))
      (λ away. cores c h away);
  heard = λ b. put_all (λ c q. HeardFits g q) ps a p b (λ is. heard) (λ away. heards b);
  floors = put_all (λ c q. c ≡ controller → q.floors ≡ g.floors) ps a p controller
      (λ is c. floors (sym is)) (λ away c. others away) refl;
}

-- a load, at which the part of an actor becomes p
pub loads : (words : List ℕ) (views : List View) (id a i : ℕ) (v : View) (p : Part)
    (r : IsRunning words views)
    → get_elem? views id ≡ some v → holds v a ≡ true → (a < r.board.cores → CoreFits r.board a p)
    → HeardFits r.board p → (a ≡ controller → p.floors ≡ r.board.floors)
    → KeepsRule (set words i (slice_index words i)) (set views id (with_part v a p))
loads words views id a i v p r at has core heard floors = inr (record {
  board = r.board;
  parts = put r.parts a p;
  owner = r.owner;
  sound = r.sound;
  shows = subst (AreWordsOf r.board) (sym (set-get_or words i 0)) r.shows;
  fits = parts_put r.board r.parts a p (λ c h away. r.fits.cores c h) r.fits.heard (λ away. r.fits.floors)
      core heard floors;
  known = moves r.board r.board r.parts r.owner views id a v p (refl, refl, refl) at has r.known;
  placed = placed_with r.board r.board r.owner views id a v p refl at has r.placed;
})

-- what the rule says of a part that a seat's view holds
pub record Mine (words : List ℕ) (views : List View) (v : View) (a : ℕ)
    (r : IsRunning words views) : Type 0 where
  pub settings : (v.lag ≡ r.board.lag) × (v.cores ≡ r.board.cores) × (v.events ≡ r.board.events)
  pub is : part v a ≡ r.parts a
  pub core : a < v.cores → (a < r.board.cores) × CoreFits r.board a (part v a)
  pub heard : HeardFits r.board (part v a)
  pub floors : a ≡ controller → (part v a).floors ≡ r.board.floors

-- the rule says it of each part that the seat's own view holds
pub mine : (words : List ℕ) (views : List View) (id a : ℕ) (v : View) → 0 < v.lag
    → (r : IsRunning words views)
    → get_elem? views id ≡ some v → holds v a ≡ true → Mine words views v a r
mine words views id a v live r at has =
    let k = r.known id v at in
    let s = k.settings live in
    let is = (k.parts_are a has).1 in record {
      settings = s;
      is = is;
      core = λ h.
          let h' = subst (λ (n : ℕ). a < n) s.1 h in
          (h', subst (CoreFits r.board a) (sym is) (r.fits.cores a h'));
      heard = subst (HeardFits r.board) (sym is) (r.fits.heard a);
      floors = λ e. ap (λ (p : Part). p.floors) is ∙ (ap (λ (b : ℕ). (r.parts b).floors) e ∙ r.fits.floors);
    }

-- the posted count covers what the core saw and used before
covers : (n : ℕ) (p : Part) → HasCountsUpTo n p → CoversEarlier p n
covers n p counts = record {
  stints = All-weaker (λ (s : Stint). (s.seen ≤ n) × (s.used ≤ n)) (λ s. s.seen ≤ n) (λ s h. h.0) p.stints
      counts.stints;
  entries = All-weaker (λ (e : Entry). (e.seen ≤ n) × (e.used ≤ n))
      (λ e. e.round * ROUND < p.clock → (e.seen ≤ n) × (e.used ≤ n)) (λ e h late. h) p.entries counts.entries;
}

-- the part of a core that saw it
saw : (g : Board) (c n : ℕ) (p : Part) → n ≡ length g.floors → CoreFits g c p → CoreFits g c (sees p n)
saw g c n p is f =
    let counts : HasCountsUpTo n p = subst (λ (k : ℕ). HasCountsUpTo k p) (sym is) f.floors.counts in record {
      clock = f.clock;
      own = record {
        timeline = f.own.timeline;
        sights = All-push (CoversEarlier (sees p n)) p.sights n
            (All-weaker (CoversEarlier p) (CoversEarlier (sees p n))
            (λ k h. record { stints = h.stints; entries = h.entries }) p.sights f.own.sights)
            (let h = covers n p counts in record { stints = h.stints; entries = h.entries });
      };
      floors = record {
        counts = record {
          sights = All-push (λ k. k ≤ length g.floors) p.sights n f.floors.counts.sights (omega arith);
          entries = f.floors.counts.entries;
          stints = f.floors.counts.stints;
        };
        entered = f.floors.entered;
        began = f.floors.began;
      };
      entries = f.entries;
      won = f.won;
    }

-- `see` keeps the rule
pub see_keeps : (id c : ℕ) (v : View) → v.started ≡ true → 0 < v.lag → holds v c ≡ true → c < v.cores
    → StepKeepsRule id v 0 (λ n. n) (SeeClaim c v)
see_keeps id c v on live has core words views ruled at small =
    let r = runs words views id v on ruled at in
    let g = r.board in
    let m = mine words views id c v live r at has in
    let n : ℕ = slice_index words 0 in
    let is : n ≡ length g.floors = r.shows.posted in
    let f = (m.core core).1 in (
      with_part v c (sees (part v c) n),
      loads words views id c 0 v (sees (part v c) n) r at has (λ h. saw g c n (part v c) is f)
          (record { lists = m.heard.lists; rises = m.heard.rises; low = m.heard.low }) m.floors,
      (
        refl,
        record {
          within = let a = r.sound.posted in let b = m.settings.2 in omega arith;
          counts = subst (λ (k : ℕ). HasCountsUpTo k (part v c)) (sym is) f.floors.counts;
          exact = λ h. is ∙ ap length (sym ((mine words views id controller v live r at h).floors refl));
        },
      ),
    )

-- the part of a core that heard a clock
pub hearing : (g : Board) (a c n : ℕ) (p : Part) → CoreFits g a p → CoreFits g a (hears p c n)
hearing g a c n p f = record {
  clock = f.clock;
  own = record {
    timeline = f.own.timeline;
    sights = All-weaker (CoversEarlier p) (CoversEarlier (hears p c n))
        (λ k h. record { stints = h.stints; entries = h.entries }) p.sights f.own.sights;
  };
  floors = record {
    counts = record {
      sights = f.floors.counts.sights;
      entries = f.floors.counts.entries;
      stints = f.floors.counts.stints;
    };
    entered = f.floors.entered;
    began = f.floors.began;
  };
  entries = f.entries;
  won = f.won;
}

-- the heard clocks with one more, which isn't above the core's
pub heard_more : (g : Board) (c n : ℕ) (p : Part) → c < g.cores → last_heard p c ≤ n → n ≤ g.clocks c → HeardFits g p
    → HeardFits g (hears p c n)
heard_more g c n p within above below fits =
    record {
      lists = length-set p.heard c (heard_of p c ++ n ∷ []) ∙ fits.lists;
      rises = λ d h. each_set NeverFalls p.heard c d (heard_of p c ++ n ∷ []) []
          (λ e. rises_push (heard_of p c) n (fits.rises c within) above)
          (fits.rises d h);
      low = λ d h. each_set (All (λ y. y ≤ g.clocks d)) p.heard c d (heard_of p c ++ n ∷ []) []
          (λ e. let near : n ≤ g.clocks d = subst (λ (k : ℕ). n ≤ g.clocks k) (sym e) below in
          All-push (λ y. y ≤ g.clocks d) (heard_of p c) n
          (subst (λ (k : ℕ). All (λ y. y ≤ g.clocks k) (heard_of p c)) (sym e)
          (fits.low c within)) near)
          (fits.low d h);
    }

-- `clock_of` keeps the rule
pub hear_keeps : (id a c : ℕ) (v : View) → v.started ≡ true → 0 < v.lag → holds v a ≡ true → c < v.cores
    → StepKeepsRule id v (suc c) (λ n. n) (HearClaim (a, c) v)
hear_keeps id a c v on live has core words views ruled at small =
    let r = runs words views id v on ruled at in
    let g = r.board in
    let m = mine words views id a v live r at has in
    let n : ℕ = slice_index words (suc c) in
    let p : Part = part v a in
    let within : c < g.cores = subst (λ (k : ℕ). c < k) m.settings.1 core in
    let is : n ≡ g.clocks c = r.shows.clocks c within in
    let old : All (λ h. h ≤ n) (heard_of p c) =
    subst (λ (k : ℕ). All (λ h. h ≤ k) (heard_of p c)) (sym is) (m.heard.low c within) in (
      with_part v a (hears p c n),
      loads words views id a (suc c) v (hears p c n) r at has
          (λ h. hearing g a c n p (m.core (subst (λ (k : ℕ). a < k) (sym m.settings.1) h)).1)
          (heard_more g c n p within (last_below (heard_of p c) n old) (omega arith) m.heard)
          m.floors,
      (
        refl,
        record {
          small = subst (λ (k : ℕ). k < 2 ^ 32) (sym is) (r.sound.small c within);
          keeps = let l = m.heard.lists in let lim = r.sound.limits.1 in
              ap last_of (get_or-set_same p.heard c (heard_of p c ++ n ∷ []) [] (omega arith))
              ∙ last_of-push (heard_of p c) n;
          rises = last_below (heard_of p c) n old;
          near = λ h.
              let f = m.core h in
              let i : p.clock ≡ g.clocks a = f.1.clock in
              let s = m.settings in
              let x = r.sound.near c a within f.0 in
              let y = r.sound.near a c f.0 within in
              (omega arith, omega arith);
          exact = λ h. let o = mine words views id c v live r at h in is ∙ sym ((o.core core).1.clock);
        },
      ),
    )

-- two cores of one view have one count for a round
one_count : (words : List ℕ) (views : List View) (id : ℕ) (v : View) → 0 < v.lag → (r : IsRunning words views)
    → get_elem? views id ≡ some v → HasOneCount v
one_count words views id v live r at c d k e f hc hd ec fd =
    let m = (mine words views id c v live r at hc.1).core hc.0 in
    let o = (mine words views id d v live r at hd.1).core hd.0 in
    let x = at_get (EntryFits r.board c) (part v c).entries k e ec.0 m.1.entries in
    let y = at_get (EntryFits r.board d) (part v d).entries k f fd.0 o.1.entries in
    some_same e.used f.used (sym x.count ∙ (ap r.board.decided (ec.1 ∙ sym fd.1) ∙ y.count))

-- what each view of a started board shows
pub shown : (words : List ℕ) (views : List View) (id : ℕ) (v : View) → 0 < v.lag → (r : IsRunning words views)
    → get_elem? views id ≡ some v → ViewInvariant v
shown words views id v live r at =
    let own : (a : ℕ) → holds v a ≡ true
    → Mine words views v a r = λ a h. mine words views id a v live r at h in
    let g = r.board in record {
      lists = λ a h. (own a h).heard.lists;
      cores = λ c hc. ((own c hc.1).core hc.0).1.own;
      one_count = one_count words views id v live r at;
      near = λ c d hc hd.
          let m = own c hc.1 in
          let x = m.core hc.0 in
          let y = (own d hd.1).core hd.0 in
          let cx = x.1.clock in
          let cy = y.1.clock in
          let n = r.sound.near c d x.0 y.0 in
          let s = m.settings in
          omega arith;
      floors = λ h c hc.
          let fs = (own controller h).floors refl in
          let x = (own c hc.1).core hc.0 in
          subst (λ (l : List ℕ). KeepsFloors l (part v c)) (sym fs) (record {
            low = subst (λ (k : ℕ). All (λ f. f ≤ k) g.floors) (sym x.1.clock) (r.sound.low c x.0);
            fits = x.1.floors;
          });
      one_winner = λ all c k e hc ec.
          let x = (own c hc.1).core hc.0 in
          let is : g.decided k ≡ Some e.used = ap g.decided (sym ec.1)
          ∙ (at_get (EntryFits g c) (part v c).entries k e ec.0 x.1.entries).count in
          let w = r.sound.made k e.used is in
          let d : ℕ = g.winner k in
          let s = (own c hc.1).settings in
          let dv : d < v.cores = subst (λ (n : ℕ). d < n) (sym s.1) w.0 in
          let y = (own d (all d dv)).core dv in
          let f = y.1.won k e.used is refl in
          let round : f.0.round ≡ k = y.1.own.timeline.numbered k f.0 f.1 in
          let a = at_get (EntryFits g d) (part v d).entries k f.0 f.1 y.1.entries in (
            d,
            record {
              core = dv;
              entry = f.0;
              entered = (f.1, round);
              won = f.2;
              seen = (a.winner f.2).1 ∙ some_same f.0.used e.used (sym a.count ∙ (ap g.decided round ∙ is));
              only = λ d' f' hd ef won.
                  let z = (own d' hd.1).core hd.0 in
                  let b = at_get (EntryFits g d') (part v d').entries k f' ef.0 z.1.entries in
                  sym ((b.winner won).0) ∙ ap g.winner ef.1;
            },
          );
    }

-- the load of `meet` keeps the rule
pub load_keeps : (id : ℕ) (v : View) → StepKeepsRule id v 0 (λ n. n) (MeetClaim v)
load_keeps id v words views ruled at small = (
  v,
  subst (λ (ws : List ℕ). KeepsRule ws (set views id v)) (sym (set-get_or words 0 0))
      (subst (KeepsRule words) (sym (set_again views id v at)) ruled),
  refl,
)
