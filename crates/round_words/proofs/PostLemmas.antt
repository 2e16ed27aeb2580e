-- The steps that write a word, and `post`.
use Rattle.std.proofs.Common.{◌≡◌, ℕ, suc, ◌+◌, ◌%◌, ◌<◌, ◌≤◌, true, List, [], ◌∷◌, ◌++◌, length, set, refl, sym, ap, ◌∙◌, subst, inr, arith}
use Rattle.std.proofs.lemmas.List.Elements.{All-push, All-weaker}
use mathlib.Core.Option.{some}
use lib.ListN.{get_elem?}
use Rattle.tab_core.specs.declared.entry.Entry.{Entry}
use Rattle.tab_core.specs.declared.stint.Stint.{Stint}
use Rattle.round_words.specs.declared.view.Part.{Part}
use Rattle.round_words.specs.declared.view.View.{View}
use Rattle.round_words.specs.Views.{controller, holds, part, with_part, heard_of, last_heard, posts}
use Rattle.round_words.specs.Rule.{FloorsUpTo, Board, BoardInvariant, AreWordsOf, HasCountsUpTo, EntryFits, CoreFits, HeardFits, PartsFit, IsRunning, KeepsRule}
use Rattle.round_words.specs.Inside.Claims.{PostClaim, StepKeepsRule}
use Rattle.round_words.proofs.PlaceLemmas.{runs, put, moves, placed_with}
use Rattle.std.proofs.lemmas.List.{length-set}
use Rattle.round_words.proofs.ListLemmas.{word_here, word_else, last_below, index_append, length_push}
use Rattle.round_words.proofs.LoadLemmas.{parts_put, mine}

-- a write of the word i, after which the board is g' and the part of an actor p
pub writes : (words : List ℕ) (views : List View) (id a i n : ℕ) (v : View) (p : Part)
    (r : IsRunning words views)
    (g' : Board) → (g'.lag ≡ r.board.lag) × (g'.cores ≡ r.board.cores) × (g'.events ≡ r.board.events)
    → get_elem? views id ≡ some v → holds v a ≡ true → BoardInvariant g' → AreWordsOf g' (set words i n)
    → PartsFit g' (put r.parts a p) → KeepsRule (set words i n) (set views id (with_part v a p))
writes words views id a i n v p r g' same at has sound shows fits = inr (record {
  board = g';
  parts = put r.parts a p;
  owner = r.owner;
  sound = sound;
  shows = shows;
  fits = fits;
  known = moves r.board g' r.parts r.owner views id a v p same at has r.known;
  placed = placed_with r.board g' r.owner views id a v p same.1 at has r.placed;
})

-- counts stay within a greater one
pub counts_more : (n m : ℕ) (p : Part) → n ≤ m → HasCountsUpTo n p → HasCountsUpTo m p
counts_more n m p le h = record {
  sights = All-weaker (λ k. k ≤ n) (λ k. k ≤ m) (λ k h. omega arith) p.sights h.sights;
  entries = All-weaker (λ (e : Entry). (e.seen ≤ n) × (e.used ≤ n)) (λ e. (e.seen ≤ m) × (e.used ≤ m))
      (λ e h. (omega arith, omega arith)) p.entries h.entries;
  stints = All-weaker (λ (s : Stint). (s.seen ≤ n) × (s.used ≤ n)) (λ s. (s.seen ≤ m) × (s.used ≤ m))
      (λ s h. (omega arith, omega arith)) p.stints h.stints;
}

-- the board with one floor more
abbrev with_floor : Board → ℕ → Board
with_floor g floor = record g { floors = g.floors ++ floor ∷ [] }

-- a floor after those before a count changes nothing for them
up_to_push : (floors : List ℕ) (floor count tick : ℕ) → count ≤ length floors → FloorsUpTo floors count tick
    → FloorsUpTo (floors ++ floor ∷ []) count tick
up_to_push floors floor count tick le before i lt =
    subst (λ (y : ℕ). y ≤ tick) (sym (index_append floors floor i (omega arith))) (before i lt)

-- a core's part, where the controller posts
floored : (g : Board) (floor c : ℕ) (p : Part) → CoreFits g c p → CoreFits (with_floor g floor) c p
floored g floor c p f =
    let long : length (g.floors ++ floor ∷ []) ≡ suc (length g.floors) = length_push g.floors floor in
    record {
      clock = f.clock;
      own = f.own;
      floors = record {
        counts = counts_more (length g.floors) (length (g.floors ++ floor ∷ [])) p
            (omega arith) f.floors.counts;
        entered = λ k d h. up_to_push g.floors floor _ _ (f.floors.counts.entries k d h).0
            (f.floors.entered k d h);
        began = λ k d h. up_to_push g.floors floor _ _ (f.floors.counts.stints k d h).0
            (f.floors.began k d h);
      };
      entries = All-weaker (EntryFits g c) (EntryFits (with_floor g floor) c)
          (λ e h. record { count = h.count; winner = h.winner }) p.entries f.entries;
      won = f.won;
    }

-- what was heard, where the controller posts
heard_floored : (g : Board) (floor : ℕ) (p : Part) → HeardFits g p → HeardFits (with_floor g floor) p
heard_floored g floor p h = record { lists = h.lists; rises = h.rises; low = h.low }

-- what a controller that may post with a floor shows
pub record MayPost (v : View) (floor : ℕ) : Type 0 where
  pub started : v.started ≡ true
  pub held : holds v controller ≡ true
  pub events : length (part v controller).floors < v.events
  pub heard : (c : ℕ) → c < v.cores → floor ≤ last_heard (part v controller) c

-- `post` keeps the rule
pub post_keeps : (id floor n : ℕ) (v : View) → MayPost v floor → 0 < v.lag
    → n ≡ suc (length (part v controller).floors) → StepKeepsRule id v 0 (λ _. n) (λ m w. PostClaim floor v n w)
post_keeps id floor n v may live next words views ruled at small =
    let has = may.held in
    let few = may.events in
    let r = runs words views id v may.started ruled at in
    let g = r.board in
    let m = mine words views id controller v live r at has in
    let p : Part = part v controller in
    let g' = with_floor g floor in
    let is : p.floors ≡ g.floors = m.floors refl in
    let long : length (g.floors ++ floor ∷ []) ≡ suc (length g.floors) = length_push g.floors floor in
    let n_is : n ≡ length (g.floors ++ floor ∷ []) =
    next ∙ (ap (λ (l : List ℕ). suc (length l)) is ∙ sym long) in
    let s = m.settings in
    let cnt = r.shows.count in (
      with_part v controller (posts p floor),
      writes words views id controller 0 n v (posts p floor) r g' (refl, refl, refl) at has
          (record {
            limits = r.sound.limits;
            posted = omega arith;
            small = r.sound.small;
            near = r.sound.near;
            low = λ c h. All-push (λ f. f ≤ g.clocks c) g.floors floor (r.sound.low c h)
                (let a = may.heard c (subst (λ (k : ℕ). c < k) (sym s.1) h) in
                let b = last_below (heard_of p c) (g.clocks c) (m.heard.low c h) in
                omega arith);
            made = λ q d e. let o = r.sound.made q d e in (o.0, omega arith);
          })
          (record {
            count = length-set words 0 n ∙ cnt;
            posted = word_here words 0 n (omega arith) ∙ n_is;
            clocks = λ c h. word_else words 0 (suc c) n (λ e. omega arith) ∙ r.shows.clocks c h;
            rounds = λ q d e o. word_else words 0 (33 + q % 4) n (λ f. omega arith) ∙ r.shows.rounds q d e o;
            none = λ k h e. word_else words 0 (33 + k) n (λ f. omega arith) ∙ r.shows.none k h e;
          })
          (parts_put g' r.parts controller (posts p floor)
          (λ c h away. floored g floor c (r.parts c) (r.fits.cores c h))
          (λ b. heard_floored g floor (r.parts b) (r.fits.heard b))
          (λ away. absurd (away refl))
          (λ h. absurd (let l = r.sound.limits.1 in omega arith))
          (record { lists = m.heard.lists; rises = m.heard.rises; low = m.heard.low })
          (λ e. ap (λ (l : List ℕ). l ++ floor ∷ []) is)),
      refl,
    )
