-- `decide`: a core enters its clock's round.
use Rattle.std.proofs.Common.{◌≡◌, ◌≢◌, ◌⊎◌, ℕ, suc, ◌+◌, ◌*◌, ◌/◌, ◌%◌, ◌<◌, ◌≤◌, Bool, true, false, eqb, List, [], ◌∷◌, ◌++◌, length, set, get_or, Option, Some, None, true≢false, refl, sym, ap, ◌∙◌, subst, inl, inr, ⊎_elim, ap₂, ◌-◌, arith, eq-eqb, ne_eqb}
use Rattle.tab_core.specs.declared.TheConstants.{ROUND}
use Rattle.std.specs.Prelude.{All, slice_index, slice_get}
use Rattle.std.proofs.lemmas.List.Elements.{All-push, All-weaker}
use Rattle.std.proofs.lemmas.Option.{slice_get-get_or, slice_get_within}
use mathlib.Core.Option.{some}
use mathlib.Core.Logic.{dite}
use native.Mathlib.Decide.{dec_le}
use prog.Atomic.{either}
use lib.ListN.{get_elem?}
use Rattle.tab_core.proofs.Lists.{push_new, push_old, push_split}
use Rattle.tab_core.specs.Timelines.{HasTimeline}
use Rattle.tab_core.specs.declared.entry.Entry.{Entry}
use Rattle.round_words.specs.declared.numbers.Numbers.{Numbers}
use Rattle.round_words.specs.declared.view.Part.{Part}
use Rattle.round_words.specs.declared.view.View.{View}
use Rattle.round_words.specs.Views.{controller, holds, part, with_part, last_of, with_entry, entry}
use Rattle.round_words.specs.Rule.{FloorsUpTo, CoversEarlier, EntryFits, FitsFloors, IsCorePart, decision_word, Board, BoardInvariant, CoreFits, HeardFits, IsRunning, KeepsRule}
use Rattle.round_words.specs.Inside.Claims.{IsExpected, DecideClaim, StepKeepsRule}
use Rattle.round_words.specs.Inside.Numbers.{KeepsUsed, NumbersAgree}
use Rattle.round_words.specs.Shown.{HoldsCore, ViewInvariant}
use Rattle.round_words.proofs.PlaceLemmas.{put, put_here, put_else, put_all}
use Rattle.round_words.proofs.PlaceLemmas as places
use Rattle.std.proofs.lemmas.List.{length-set, set-get_or}
use Rattle.round_words.proofs.ListLemmas.{word_here, word_else, last_below, length_push, at_get, some_same}
use Rattle.round_words.proofs.LoadLemmas.{parts_put, loads, mine}
use Rattle.round_words.proofs.PostLemmas.{writes}

-- the board with the count d of round k, which core c made so
abbrev with_count : Board → ℕ → ℕ → ℕ → Board
with_count g k d c = record g { decided = put g.decided k (Some d); winner = put g.winner k c }

-- no count is no number
some_none : (x : ℕ) → Some x ≡ None → ⊥
some_none x e = cc

-- an entry of another round fits as before, where round k had no count
entry_still : (g : Board) (k d c b : ℕ) → g.decided k ≡ None → (e : Entry) → EntryFits g b e
    → EntryFits (with_count g k d c) b e
entry_still g k d c b none e a =
    let away : e.round ≢ k = λ is. some_none e.used (sym a.count ∙ (ap g.decided is ∙ none)) in record {
      count = put_else g.decided k e.round (Some d) away ∙ a.count;
      winner = λ won. let x = a.winner won in (put_else g.winner k e.round c away ∙ x.0, x.1);
    }

-- another core's part
counted_else : (g : Board) (k d c b : ℕ) (p : Part) → g.decided k ≡ None → b ≢ c → CoreFits g b p
    → CoreFits (with_count g k d c) b p
counted_else g k d c b p none away f = record {
  clock = f.clock;
  own = f.own;
  floors = f.floors;
  entries = All-weaker (EntryFits g b) (EntryFits (with_count g k d c) b)
      (entry_still g k d c b none) p.entries f.entries;
  won = λ q u. put_all
      (λ j o. o ≡ Some u → put g.winner k c j ≡ b
      → (e : Entry) × (slice_get p.entries j ≡ Some e) × (e.won ≡ true))
      g.decided k (Some d) q
      (λ is e w. absurd (away (sym w ∙ put_here g.winner k q c is)))
      (λ other e w. f.won q u e (sym (put_else g.winner k q c other) ∙ w));
}

-- an entry of the clock's round goes on with the timeline
timeline_entry : (k : ℕ) (p : Part) (e : Entry) → p.clock ≡ k * ROUND → length p.entries ≡ k → e.round ≡ k
    → HasTimeline p.clock p.entries p.stints → HasTimeline p.clock (p.entries ++ e ∷ []) p.stints
timeline_entry k p e at long is t =
    let more : length (p.entries ++ e ∷ []) ≡ suc (length p.entries) = length_push p.entries e in
    let reach = t.reach in record {
      contiguous = t.contiguous;
      numbered = λ j x get. ⊎_elim (λ old. t.numbered j x old)
          (λ (new : (j ≡ length p.entries) × (e ≡ x)).
          ap (λ (y : Entry). y.round) (sym new.1) ∙ (is ∙ (sym long ∙ sym new.0)))
          (push_split p.entries j e x get);
      reach = omega arith;
      ahead = omega arith;
      each = λ j s h.
          let own = t.each j s h in record {
            some_ticks = own.some_ticks;
            in_round = own.in_round;
            entry = own.entry;
            entered = push_old p.entries (s.from / ROUND) e own.entry own.entered;
            used = own.used;
          };
    }

-- the sights cover what was seen and used before an entry of the clock's round
own_entry : (k : ℕ) (p : Part) (e : Entry) → p.clock ≡ k * ROUND → length p.entries ≡ k → e.round ≡ k
    → IsCorePart p → IsCorePart (with_entry p e)
own_entry k p e at long is own = record {
  timeline = timeline_entry k p e at long is own.timeline;
  sights = All-weaker (CoversEarlier p) (CoversEarlier (with_entry p e))
      (λ j h. record {
        stints = h.stints;
        entries = All-push (λ (x : Entry). x.round * ROUND < p.clock
            → (x.seen ≤ j) × (x.used ≤ j)) p.entries e
            h.entries (λ late. absurd (omega arith));
      })
      p.sights own.sights;
}

-- the floors that an entry saw are no later than its round's start
floors_entry : (g : Board) (c k : ℕ) (p : Part) (e : Entry) → CoreFits g c p → BoardInvariant g → c < g.cores
    → p.clock ≡ k * ROUND → e.round ≡ k → e.seen ≤ length g.floors → e.used ≤ length g.floors
    → FitsFloors g.floors (with_entry p e)
floors_entry g c k p e f sound core at is seen used =
    let n : ℕ = length g.floors in record {
      counts = record {
        sights = f.floors.counts.sights;
        entries = All-push (λ (x : Entry). (x.seen ≤ n) × (x.used ≤ n)) p.entries e f.floors.counts.entries
            (seen, used);
        stints = f.floors.counts.stints;
      };
      entered = All-push (λ (x : Entry). FloorsUpTo g.floors x.seen
          (x.round * ROUND)) p.entries e f.floors.entered
          (λ i lt. let low : slice_index g.floors i ≤ g.clocks c = sound.low c core i 0 (omega arith) in
          let cl = f.clock in
          omega arith);
      began = f.floors.began;
    }

-- a core without an entry of its clock's round has one for each round before
pub entries_own : (k : ℕ) (p : Part) → HasTimeline p.clock p.entries p.stints → p.clock ≡ k * ROUND
    → All (λ (e : Entry). e.round ≢ k) p.entries → length p.entries ≡ k
entries_own k p t at none =
    let n : ℕ = length p.entries in
    let reach = t.reach in
    let ahead = t.ahead in
    let le : k ≤ n = omega arith in
    let ge : n ≤ suc k = omega arith in
    dite (dec_le n k) (λ h. omega arith)
    (λ more. let lt : k < n = omega arith in
    let e : Entry = get_or p.entries k (entry 0 0 0 false) in
    let is : slice_get p.entries k ≡ Some e = slice_get-get_or p.entries k (entry 0 0 0 false) lt in
    absurd (none k (entry 0 0 0 false) lt (t.numbered k e is)))

-- a round has a count, or none
some_or_none : (o : Option ℕ) → (o ≡ None) ⊎ ((u : ℕ) × (o ≡ Some u))
some_or_none None = inl refl
some_or_none (Some u) = inr (u, refl)

-- rounds of one remainder are four apart
four_apart : (q k : ℕ) → q < k → q % 4 ≡ k % 4 → q + 4 ≤ k
four_apart q k lt e = omega arith

-- the first round of a remainder
below_self : (m k : ℕ) → m ≢ k → m ≡ k % 4 → m < k
below_self m k away e = omega arith

-- each round that a core has entered has its count
own_count : (g : Board) (c : ℕ) (p : Part) (j : ℕ) → CoreFits g c p → j < length p.entries
    → (u : ℕ) × (g.decided j ≡ Some u)
own_count g c p j f lt =
    let e : Entry = get_or p.entries j (entry 0 0 0 false) in
    let is : slice_get p.entries j ≡ Some e = slice_get-get_or p.entries j (entry 0 0 0 false) lt in
    let a = at_get (EntryFits g c) p.entries j e is f.entries in
    (e.used, ap g.decided (sym (f.own.timeline.numbered j e is)) ∙ a.count)

-- each round before one with a count has one
closed : {words : List ℕ} {views : List View} (r : IsRunning words views) (q k u : ℕ)
    → r.board.decided q ≡ Some u
    → k ≤ q → (o : ℕ) × (r.board.decided k ≡ Some o)
closed r q k u eq le =
    let g = r.board in
    let w = r.sound.made q u eq in
    let f = r.fits.cores (g.winner q) w.0 in
    let e = f.won q u eq refl in
    let lt = slice_get_within (r.parts (g.winner q)).entries q e.0 e.1 in
    own_count g (g.winner q) (r.parts (g.winner q)) k f (omega arith)

-- no core is four rounds ahead
not_ahead : {words : List ℕ} {views : List View} (r : IsRunning words views) (c k : ℕ) → c < r.board.cores
    → r.board.clocks c ≡ k * ROUND → r.board.decided (k + 4) ≡ None
not_ahead r c k core at = elim (some_or_none (r.board.decided (k + 4))) [
  | inl h ↦ h
  | inr h ↦ (
      let g = r.board in
      let w = r.sound.made (k + 4) h.0 h.1 in
      let d : ℕ = g.winner (k + 4) in
      let f = r.fits.cores d w.0 in
      let e = f.won (k + 4) h.0 h.1 refl in
      let lt = slice_get_within (r.parts d).entries (k + 4) e.0 e.1 in
      let ahead = f.own.timeline.ahead in
      let cl = f.clock in
      let n = r.sound.near d c w.0 core in
      let l = r.sound.limits.0 in
      absurd (omega arith)
      )
]

-- the first core to decide a round writes its word
won_keeps : (words : List ℕ) (views : List View) (id c k d : ℕ) (v : View) (r : IsRunning words views)
    → get_elem? views id ≡ some v → holds v c ≡ true → c < r.board.cores → d ≤ length r.board.floors
    → HeardFits r.board (part v c) → (c ≡ controller → (part v c).floors ≡ r.board.floors)
    → CoreFits r.board c (part v c) → (part v c).clock ≡ k * ROUND → length (part v c).entries ≡ k
    → r.board.decided k ≡ None
    → KeepsRule (set words (33 + k % 4) (decision_word k d))
    (set views id (with_part v c (with_entry (part v c) (entry k d d true))))
won_keeps words views id c k d v r at has core le heard floors f clock long none =
    let g = r.board in
    let p : Part = part v c in
    let e : Entry = entry k d d true in
    let g' : Board = with_count g k d c in
    let x : ℕ = decision_word k d in
    let w : ℕ = 33 + k % 4 in
    let older : (j : ℕ) → suc j ≤ k
    → (u : ℕ) × (g.decided j ≡ Some u) = λ j h. own_count g c p j f (omega arith) in
    let cnt = r.shows.count in
    let lim = r.sound.limits in
    writes words views id c w x v (with_entry p e) r g' (refl, refl, refl) at has
    (record {
      limits = r.sound.limits;
      posted = r.sound.posted;
      small = r.sound.small;
      near = r.sound.near;
      low = r.sound.low;
      made = λ q u. put_all
          (λ j o. o ≡ Some u → (put g.winner k c j < g.cores) × (u ≤ length g.floors)) g.decided k (Some d) q
          (λ is eq. (
            subst (λ (y : ℕ). y < g.cores) (sym (put_here g.winner k q c is)) core,
            subst (λ (y : ℕ). y ≤ length g.floors) (some_same d u eq) le,
          ))
          (λ away eq. let o = r.sound.made q u eq in
          (subst (λ (y : ℕ). y < g.cores) (sym (put_else g.winner k q c away)) o.0, o.1));
    })
    (record {
      count = length-set words w x ∙ cnt;
      posted = word_else words w 0 x (λ eq. omega arith) ∙ r.shows.posted;
      clocks = λ b h. word_else words w (suc b) x (λ eq. omega arith) ∙ r.shows.clocks b h;
      rounds = λ q u. put_all
          (λ j o. o ≡ Some u → put g.decided k (Some d) (j + 4) ≡ None
          → slice_index (set words w x) (33 + j % 4) ≡ decision_word j u)
          g.decided k (Some d) q
          (λ is eq open'. let same : 33 + q % 4 ≡ w = ap (λ (j : ℕ). 33 + j % 4) is in
          ap (slice_index (set words w x)) same
          ∙ (word_here words w x (omega arith) ∙ ap₂ decision_word (sym is) (some_same d u eq)))
          (λ away eq open'.
          let next : (q + 4) ≢ k =
          λ e. absurd (some_none d (sym (put_here g.decided k (q + 4) (Some d) e) ∙ open')) in
          let last : g.decided (q + 4) ≡ None = sym (put_else g.decided k (q + 4) (Some d) next) ∙ open' in
          let early : q < k = dite (dec_le k q)
          (λ over. absurd (let o = closed r q k u eq over in some_none o.0 (sym o.1 ∙ none)))
          (λ under. omega arith) in
          word_else words w (33 + q % 4) x (λ e. let m : q % 4 ≡ k % 4 = omega arith in
          let gap : q + 4 ≤ k = four_apart q k early m in
          let o = older (q + 4) (omega arith) in
          absurd (some_none o.0 (sym o.1 ∙ last)))
          ∙ r.shows.rounds q u eq last);
      none = λ m h. put_all (λ j o. o ≡ None → slice_index (set words w x) (33 + j) ≡ 0) g.decided k
          (Some d) m
          (λ is eq. absurd (some_none d eq))
          (λ away eq. word_else words w (33 + m) x (λ e. let same : m ≡ k % 4 = omega arith in
          let early : m < k = below_self m k away same in
          let o = older m (omega arith) in
          absurd (some_none o.0 (sym o.1 ∙ eq)))
          ∙ r.shows.none m h eq);
    })
    (parts_put g' r.parts c (with_entry p e)
    (λ b h away. counted_else g k d c b (r.parts b) none away (r.fits.cores b h))
    (λ b. let h = r.fits.heard b in record { lists = h.lists; rises = h.rises; low = h.low })
    (λ away. r.fits.floors)
    (λ h. record {
      clock = f.clock;
      own = own_entry k p e clock long refl f.own;
      floors = floors_entry g c k p e f r.sound core clock refl le le;
      entries = All-push (EntryFits g' c) p.entries e
          (All-weaker (EntryFits g c) (EntryFits g' c) (entry_still g k d c c none) p.entries f.entries)
          (record {
            count = put_here g.decided k k (Some d) refl;
            winner = λ _.
                (put_here g.winner k k c refl, refl);
          });
      won = λ q u. put_all
          (λ j o. o ≡ Some u → put g.winner k c j ≡ c
          → (y : Entry) × (slice_get (p.entries ++ e ∷ []) j ≡ Some y) × (y.won ≡ true))
          g.decided k (Some d) q
          (λ is eq w. (
            e,
            subst (λ (j : ℕ). slice_get (p.entries ++ e ∷ []) j ≡ Some e) (long ∙ sym is)
                (push_new p.entries e),
            refl,
          ))
          (λ away eq w. let o = f.won q u eq (sym (put_else g.winner k q c away) ∙ w) in
          (o.0, push_old p.entries q e o.0 o.1, o.2));
    })
    (record { lists = heard.lists; rises = heard.rises; low = heard.low })
    floors)

-- a later one finds the word, with the count u
lost_keeps : (words : List ℕ) (views : List View) (id c k d u : ℕ) (v : View) (r : IsRunning words views)
    → get_elem? views id ≡ some v → holds v c ≡ true → c < r.board.cores → d ≤ length r.board.floors
    → HeardFits r.board (part v c) → (c ≡ controller → (part v c).floors ≡ r.board.floors)
    → CoreFits r.board c (part v c) → (part v c).clock ≡ k * ROUND → length (part v c).entries ≡ k
    → r.board.decided k ≡ Some u
    → KeepsRule words (set views id (with_part v c (with_entry (part v c) (entry k u d false))))
lost_keeps words views id c k d u v r at has core le heard floors f clock long is =
    let g = r.board in
    let p : Part = part v c in
    let e : Entry = entry k u d false in
    subst (λ (ws : List ℕ). KeepsRule ws (set views id (with_part v c (with_entry p e)))) (set-get_or words 0 0)
    (loads words views id c 0 v (with_entry p e) r at has
    (λ h. record {
      clock = f.clock;
      own = own_entry k p e clock long refl f.own;
      floors = floors_entry g c k p e f r.sound core clock refl le (r.sound.made k u is).1;
      entries = All-push (EntryFits g c) p.entries e f.entries
          (record { count = is; winner = λ won. absurd (true≢false (sym won)) });
      won = λ q y eq w. let o = f.won q y eq w in (o.0, push_old p.entries q e o.0 o.1, o.2);
    })
    (record { lists = heard.lists; rises = heard.rises; low = heard.low })
    floors)

-- an exchange that finds what it expects stores
hit : (n old x : ℕ) → n ≡ old → either (eqb n old) x n ≡ x
hit n old x is = ap (λ (b : Bool). either b x n) (eq-eqb n old is)

-- an exchange that finds something else stores nothing
miss : (n old x : ℕ) → n ≢ old → either (eqb n old) x n ≡ n
miss n old x away = ap (λ (b : Bool). either b x n) (ne_eqb n old away)

-- a round without a count: the word is what the core expects
finds : {words : List ℕ} {views : List View} (r : IsRunning words views) (c k old : ℕ) (p : Part)
    → CoreFits r.board c p → length p.entries ≡ k → IsExpected p k old → r.board.decided k ≡ None
    → slice_index words (33 + k % 4) ≡ old
finds {words} r c k old p f long exp none = dite (dec_le 4 k)
    (λ late.
    let j : ℕ = k - 4 in
    let e : Entry = get_or p.entries j (entry 0 0 0 false) in
    let is : slice_get p.entries j ≡ Some e =
    slice_get-get_or p.entries j (entry 0 0 0 false) (omega arith) in
    let a = at_get (EntryFits r.board c) p.entries j e is f.entries in
    let count : r.board.decided j ≡ Some e.used = ap r.board.decided (sym (f.own.timeline.numbered j e is))
    ∙ a.count in
    let sum : j + 4 ≡ k = omega arith in
    let rem : 33 + k % 4 ≡ 33 + j % 4 = omega arith in
    ap (slice_index words) rem
    ∙ (r.shows.rounds j e.used count (ap r.board.decided sum ∙ none) ∙ sym (exp.1 e late is)))
    (λ early. let small : k < 4 = omega arith in
    let rem : 33 + k % 4 ≡ 33 + k = omega arith in
    ap (slice_index words) rem ∙ (r.shows.none k small none ∙ sym (exp.0 small)))

-- what it expects is not the word of the round itself
expects_less : {words : List ℕ} {views : List View} (r : IsRunning words views) (c k old : ℕ) (p : Part)
    → CoreFits r.board c p → length p.entries ≡ k → IsExpected p k old → old < suc k * 65536
expects_less r c k old p f long exp = dite (dec_le 4 k)
    (λ late.
    let j : ℕ = k - 4 in
    let e : Entry = get_or p.entries j (entry 0 0 0 false) in
    let is : slice_get p.entries j ≡ Some e =
    slice_get-get_or p.entries j (entry 0 0 0 false) (omega arith) in
    let n : ℕ = length r.board.floors in
    let b = at_get (λ (y : Entry). (y.seen ≤ n) × (y.used ≤ n)) p.entries j e is f.floors.counts.entries in
    let o = exp.1 e late is in
    let po = r.sound.posted in
    let l = r.sound.limits.2 in
    omega arith)
    (λ early. let o = exp.0 (omega arith) in omega arith)

-- `decide` keeps the rule
pub decide_keeps : (id c k d old x : ℕ) (v : View) → v.started ≡ true → 0 < v.lag → holds v c ≡ true
    → c < v.cores
    → (part v c).clock ≡ k * ROUND → All (λ (e : Entry). e.round ≢ k) (part v c).entries
    → d ≡ last_of (part v c).sights → x ≡ decision_word k d → IsExpected (part v c) k old
    → StepKeepsRule id v (33 + k % 4) (λ n. either (eqb n old) x n) (DecideClaim (c, k, d, old) v)
decide_keeps id c k d old x v on live has core clock new d_is x_is exp words views ruled at small =
    let r = places.runs words views id v on ruled at in
    let g = r.board in
    let m = mine words views id c v live r at has in
    let p : Part = part v c in
    let f = (m.core core).1 in
    let in' = (m.core core).0 in
    let long = entries_own k p f.own.timeline clock new in
    let le : d ≤ length g.floors =
    subst (λ (y : ℕ). y ≤ length g.floors) (sym d_is)
    (last_below p.sights (length g.floors) f.floors.counts.sights) in
    let n : ℕ = slice_index words (33 + k % 4) in
    let s = m.settings in
    ⊎_elim
    (λ none. let z : n ≡ old = finds r c k old p f long exp none in (
      with_part v c (with_entry p (entry k d d true)),
      subst (λ (y : ℕ). KeepsRule (set words (33 + k % 4) y)
          (set views id (with_part v c (with_entry p (entry k d d true)))))
          (sym (hit n old x z ∙ x_is))
          (won_keeps words views id c k d v r at has in' le m.heard m.floors f clock long none),
      inl (z, (let b = r.sound.posted in omega arith), refl),
    ))
    (λ (o : (u : ℕ) × (g.decided k ≡ Some u)). let u : ℕ = o.0 in
    let z : n ≡ decision_word k u = r.shows.rounds k u o.1 (not_ahead r c k in' (sym f.clock ∙ clock)) in
    let less = expects_less r c k old p f long exp in
    let away : n ≢ old = λ e. omega arith in
    let w = (r.sound.made k u o.1).1 in
    let b = r.sound.posted in (
      with_part v c (with_entry p (entry k u d false)),
      subst (λ (ws : List ℕ). KeepsRule ws (set views id (with_part v c (with_entry p (entry k u d false)))))
          (sym (ap (set words (33 + k % 4)) (miss n old x away) ∙ set-get_or words (33 + k % 4) 0))
          (lost_keeps words views id c k d u v r at has in' le m.heard m.floors f clock long o.1),
      inr (u, away, z, omega arith, refl),
    ))
    (some_or_none (g.decided k))

-- what a core that may enter its clock's round shows
pub record MayEnter (v : View) (c : ℕ) : Type 0 where
  pub started : v.started ≡ true
  pub core : HoldsCore v c
  pub clock : (part v c).clock ≡ (part v c).clock / ROUND * ROUND
  pub new : All (λ (e : Entry). e.round ≢ (part v c).clock / ROUND) (part v c).entries

-- what the seat's numbers know of a core that enters next: round k is the next one, and d what the
-- core saw last
pub record EntersNext (v : View) (c k d : ℕ) : Type 0 where
  pub lag : 0 < v.lag
  pub small : c < 32
  pub round : k ≡ (part v c).clock / ROUND
  pub start : (part v c).clock ≡ k * ROUND
  pub new : All (λ (e : Entry). e.round ≢ k) (part v c).entries
  pub before : length (part v c).entries ≡ k
  pub sight : d ≡ last_of (part v c).sights

-- the numbers of a core that may enter
pub enters_next : (n : Numbers) (v : View) (c : ℕ) → NumbersAgree n v → ViewInvariant v → MayEnter v c
    → EntersNext v c (slice_index n.clocks c / ROUND) (slice_index n.sights c)
enters_next n v c is shown may =
    let p : Part = part v c in
    let k : ℕ = slice_index n.clocks c / ROUND in
    let limits = is.limits may.started in
    let cores = limits.1 in
    let core = may.core.0 in
    let small : c < 32 = omega arith in
    let round : k ≡ p.clock / ROUND = ap (λ (x : ℕ). x / ROUND) (is.clocks_are c small may.core.1) in
    let start : p.clock ≡ k * ROUND = may.clock ∙ ap (λ (x : ℕ). x * ROUND) (sym round) in
    let new : All (λ (e : Entry). e.round ≢ k) p.entries =
    subst (λ (x : ℕ). All (λ (e : Entry). e.round ≢ x) p.entries) (sym round) may.new in record {
      lag = limits.0;
      small = small;
      round = round;
      start = start;
      new = new;
      before = entries_own k p (shown.cores c may.core).timeline start new;
      sight = is.sights_are c small may.core.1;
    }

-- the word that the core expects, from the used count that the seat keeps of four rounds before
pub expects : (useds : List ℕ) (c k old : ℕ) (p : Part) → KeepsUsed useds c p.entries → length p.entries ≡ k
    → (k < 4 → old ≡ 0) → (4 ≤ k → old ≡ decision_word (k - 4) (slice_index useds (4 * c + k % 4)))
    → IsExpected p k old
expects useds c k old p keeps long first later = (
  first,
  (λ e late get.
      let same : (k - 4) % 4 ≡ k % 4 = omega arith in
      let used = keeps (k - 4) e get (omega arith) in
      later late ∙ ap (decision_word (k - 4))
      (ap (λ (r : ℕ). slice_index useds (4 * c + r)) (sym same) ∙ used)),
)
