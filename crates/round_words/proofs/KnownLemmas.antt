-- `hear_floor`: an actor hears of cores whose clocks its seat knows, that they are at some tick.
use mathlib.Core.Logic.{dite}
use mathlib.Core.Option.{some}
use lib.ListN.{get_elem?}
use native.Mathlib.Decide.{ℕ_discrete}
use Rattle.std.proofs.Common.{◌≡◌, ◌≢◌, ℕ, zero, suc, ◌+◌, ◌-◌, ◌<◌, ◌≤◌, Bool, true, false, cond, not, ◌&&◌, Option, Some, List, [], ◌∷◌, ◌++◌, length, set, refl, sym, ap, ◌∙◌, subst, ⊎_elim, arith, max}
use Rattle.std.specs.Prelude.{◌==◌, nat_lt, slice_index}
use Rattle.round_words.specs.declared.view.Part.{Part}
use Rattle.round_words.specs.declared.view.View.{View}
use Rattle.round_words.specs.Hearing.{KnowsClocks}
use Rattle.round_words.specs.Inside.Claims.{FloorClaim, StepKeepsRule}
use Rattle.round_words.specs.Inside.Known.{AreKnown, HasSeenTo, hears_all_known, raised}
use Rattle.round_words.specs.Rule.{Board, CoreFits, HeardFits, IsRunning}
use Rattle.round_words.specs.Views.{holds, part, with_part, heard_of, hears, last_of, last_heard}
use Rattle.round_words.proofs.ChangesLemmas.{changes_with, part_with}
use Rattle.round_words.proofs.HearingLemmas.{SamePart, heard_rises, same_none, seen_to_known, seen_to_asked}
use Rattle.round_words.proofs.ListLemmas.{last_below, last_of-push, word_here, word_else}
use Rattle.round_words.proofs.LoadLemmas.{hearing, heard_more, loads, mine}
use Rattle.round_words.proofs.PlaceLemmas.{runs}
use Rattle.std.proofs.lemmas.Bool.Decides.{nat_tests}
use Rattle.std.proofs.lemmas.List.{get_or-set_same, length-set, set-get_or, set-set}

-- what the board knows of a part of actor a, of which it keeps the floors
record Fits (g : Board) (a : ℕ) (p q : Part) : Type 0 where
  core : a < g.cores → CoreFits g a q
  heard : HeardFits g q
  floors : q.floors ≡ p.floors

-- a core that was heard, or wasn't
fits_one : (g : Board) (a d clock : ℕ) (p q : Part) (b : Bool) → d < g.cores → clock ≤ g.clocks d
    → (b ≡ true → last_heard q d ≤ clock) → Fits g a p q → Fits g a p (cond b (hears q d clock) q)
fits_one g a d clock p q true lt below above fits = record {
  core = λ h. hearing g a d clock q (fits.core h);
  heard = heard_more g d clock q lt (above refl) below fits.heard;
  floors = fits.floors;
}
fits_one g a d clock p q false lt below above fits = fits

-- some cores that were heard
fits_all : (g : Board) (a least n : ℕ) (p : Part) → ((d : ℕ) → d < n → (d < g.cores) × (least ≤ g.clocks d))
    → Fits g a p p → Fits g a p (hears_all_known a least n p)
fits_all g a least zero p are fits = fits
fits_all g a least (suc d) p are fits =
    let q : Part = hears_all_known a least d p in
    let at = are d (omega arith) in
    fits_one g a d least p q (nat_lt (last_heard q d) least && not (d == a)) at.0 at.1
    (λ low. grind (arith, nat_tests))
    (fits_all g a least d p (λ k lt. are k (omega arith)) fits)

-- a known clock isn't above the core's
known_below : (words : List ℕ) (views : List View) (id n least d : ℕ) (v : View) (clocks : List ℕ) → 0 < v.lag
    → (r : IsRunning words views) → get_elem? views id ≡ some v → v.cores ≡ n → d < n → d < r.board.cores
    → AreKnown clocks v n least → slice_index clocks d ≤ r.board.clocks d
known_below words views id n least d v clocks live r at all lt within known = by (holds v d) refl
  where
    by : (b : Bool) → holds v d ≡ b → slice_index clocks d ≤ r.board.clocks d
    by true e =
        let o = (mine words views id d v live r at e).core (subst (λ (k : ℕ). d < k) (sym all) lt) in
        let x = (known d lt).1 e in
        let y = o.1.clock in
        omega arith
    by false e = ⊎_elim
        (λ none. omega arith)
        (λ (h : (a : ℕ) × (holds v a ≡ true) × (slice_index clocks d ≤ last_heard (part v a) d)).
        let o = mine words views id h.0 v live r at h.1 in
        let x = last_below (heard_of (part v h.0) d) (r.board.clocks d) (o.heard.low d within) in
        let y = h.2 in
        omega arith)
        ((known d lt).2 e)

-- `hear_floor` keeps the rule
pub floor_keeps : (id a least n : ℕ) (clocks : List ℕ) (v : View) → v.started ≡ true → 0 < v.lag → holds v a ≡ true
    → v.cores ≡ n → AreKnown clocks v n least → StepKeepsRule id v 0 (λ k. k) (FloorClaim (a, least, n) v)
floor_keeps id a least n clocks v on live has all known words views ruled at small =
    let r = runs words views id v on ruled at in
    let g = r.board in
    let m = mine words views id a v live r at has in
    let p : Part = part v a in
    let q : Part = hears_all_known a least n p in
    let are : (d : ℕ) → d < n → (d < g.cores) × (least ≤ g.clocks d)
    = λ d lt.
    let within : d < g.cores = (let s = m.settings.1 in omega arith) in
    let k = (known d lt).0 in
    let below = known_below words views id n least d v clocks live r at all lt within known in
    (within, omega arith) in
    let fits = fits_all g a least n p are (record {
      core = λ h. (m.core (subst (λ (k : ℕ). a < k) (sym m.settings.1) h)).1;
      heard = m.heard;
      floors = refl;
    }) in (
      with_part v a q,
      loads words views id a 0 v q r at has fits.core fits.heard (λ is. fits.floors ∙ m.floors is),
      refl,
    )

-- no core yet
pub here_none : (v : View) (c lag tick : ℕ) (known : List ℕ) → holds v c ≡ true → KnowsClocks known (part v c)
    → HasSeenTo v (with_part v c (part v c)) c lag tick 0 known
here_none v c lag tick known has knows =
    let w : View = with_part v c (part v c) in
    let is = part_with v w c (part v c) has refl in record {
      changes = changes_with v w c (part v c) has refl;
      knows = subst (KnowsClocks known) (sym is) knows;
      heard = is;
      near = λ d lt. absurd (omega arith);
    }

-- a part that is put twice
put_twice : (v : View) (c : ℕ) (q r : Part) → with_part (with_part v c q) c r ≡ with_part v c r
put_twice v c q r = ap (λ (ps : List (Option Part)). record v { parts = ps }) (set-set v.parts c (Some q) (Some r))

-- the next core, which is heard or not
here_case : (v : View) (c least tick n : ℕ) (q : Part) (known : List ℕ) (b : Bool)
    → holds v c ≡ true → least ≡ tick - v.lag → n < length known → length q.heard ≡ 32 → n < 32
    → (b ≡ true → (slice_index known n < least) × (n ≢ c)) → (b ≡ false → n ≢ c → least ≤ slice_index known n)
    → HasSeenTo v (with_part v c q) c v.lag tick n known
    → HasSeenTo v (with_part v c (cond b (hears q n least) q)) c v.lag tick (n + 1)
    (set known n (cond b least (slice_index known n)))
here_case v c least tick n q known true has is lt long few below above seen =
    let u : View = with_part v c q in
    let mine : part u c ≡ q = part_with v u c q has refl in
    let to : with_part v c (hears q n least) ≡ with_part u c (hears (part u c) n least) =
    sym (put_twice v c q (hears q n least)) ∙ ap (λ (r : Part). with_part u c (hears r n least)) (sym mine) in
    let y = below refl in
    let keeps : last_heard (hears (part u c) n least) n ≡ least =
    ap (λ (r : Part). last_heard (hears r n least) n) mine
    ∙ (ap last_of (get_or-set_same q.heard n (heard_of q n ++ least ∷ []) [] (omega arith))
    ∙ last_of-push (heard_of q n) least) in
    seen_to_asked v u (with_part v c (hears q n least)) c v.lag tick n least known refl (seen.changes.actors c ∙ has)
    y.1 lt (let a = y.0 in omega arith) (omega arith) to keeps seen
here_case v c least tick n q known false has is lt long few below above seen =
    subst (HasSeenTo v (with_part v c q) c v.lag tick (n + 1)) (sym (set-get_or known n 0))
    (seen_to_known v (with_part v c q) c v.lag tick n known refl
    (λ away. let a = above refl away in omega arith) seen)

-- hearing changes no count of lists
here_long : (c least n : ℕ) (p : Part) → length (hears_all_known c least n p).heard ≡ length p.heard
here_long c least zero p = refl
here_long c least (suc d) p =
    let q : Part = hears_all_known c least d p in
    long_case q d (nat_lt (last_heard q d) least && not (d == c)) ∙ here_long c least d p
  where
    long_case : (q : Part) (d : ℕ) (b : Bool) → length (cond b (hears q d least) q).heard ≡ length q.heard
    long_case q d true = length-set q.heard d (heard_of q d ++ least ∷ [])
    long_case q d false = refl

-- raising doesn't change the count of numbers
pub raised_length : (c least n : ℕ) (known : List ℕ) → length (raised c least n known) ≡ length known
raised_length c least zero known = refl
raised_length c least (suc d) known =
    let before = raised c least d known in
    length-set before d (cond (nat_lt (slice_index before d) least && not (d == c)) least (slice_index before d))
    ∙ raised_length c least d known

-- the first n cores are seen to
pub here_all : (v : View) (c least tick n : ℕ) (known : List ℕ) → holds v c ≡ true → least ≡ tick - v.lag
    → length known ≡ 32 → length (part v c).heard ≡ 32 → n ≤ 32 → KnowsClocks known (part v c)
    → HasSeenTo v (with_part v c (hears_all_known c least n (part v c))) c v.lag tick n (raised c least n known)
here_all v c least tick zero known has is size long few knows = here_none v c v.lag tick known has knows
here_all v c least tick (suc n) known has is size long few knows =
    let q : Part = hears_all_known c least n (part v c) in
    let before : List ℕ = raised c least n known in
    let b : Bool = nat_lt (slice_index before n) least && not (n == c) in
    let seen = here_all v c least tick n known has is size long (omega arith) knows in
    let mine : part (with_part v c q) c ≡ q = part_with v (with_part v c q) c q has refl in
    let knows_it : slice_index before n ≡ last_heard q n =
    seen.knows n ∙ ap (λ (r : Part). last_heard r n) mine in
    let e : n + 1 ≡ suc n = omega arith in
    let one = here_case v c least tick n q before b has is
    (let l = raised_length c least n known in omega arith) (here_long c least n (part v c) ∙ long) (omega arith)
    (λ low. (grind (arith, nat_tests), grind (arith, nat_tests)))
    (λ high away. grind (arith, nat_tests)) seen in
    subst (λ (k : ℕ). HasSeenTo v (with_part v c (cond (nat_lt k least && not (n == c)) (hears q n least) q)) c v.lag tick
    (suc n) (set before n (cond b least (slice_index before n)))) knows_it
    (subst (λ (k : ℕ). HasSeenTo v (with_part v c (cond b (hears q n least) q)) c v.lag tick k
    (set before n (cond b least (slice_index before n)))) e one)

-- hearing changes nothing else of the part
pub here_kept : (c least n : ℕ) (p : Part) → SamePart p (hears_all_known c least n p)
here_kept c least zero p = same_none p
here_kept c least (suc d) p =
    let q : Part = hears_all_known c least d p in
    kept_case q d (nat_lt (last_heard q d) least && not (d == c)) (here_kept c least d p)
  where
    kept_case : (q : Part) (d : ℕ) (b : Bool) → SamePart p q → SamePart p (cond b (hears q d least) q)
    kept_case q d true same = record {
      clock = same.clock;
      sights = same.sights;
      entries = same.entries;
      stints = same.stints;
      floors = same.floors;
    }
    kept_case q d false same = same

-- what was heard last never falls
pub here_rises : (c least n : ℕ) (p : Part) (k : ℕ) → last_heard p k ≤ last_heard (hears_all_known c least n p) k
here_rises c least zero p k = omega arith
here_rises c least (suc d) p k =
    let q : Part = hears_all_known c least d p in
    let before = here_rises c least d p k in
    let one = rise_case q d (nat_lt (last_heard q d) least && not (d == c)) (λ low. grind (arith, nat_tests)) in
    omega arith
  where
    rise_case : (q : Part) (d : ℕ) (b : Bool) → (b ≡ true → last_heard q d ≤ least)
        → last_heard q k ≤ last_heard (cond b (hears q d least) q) k
    rise_case q d true above = heard_rises q d least k (above refl)
    rise_case q d false above = omega arith

-- a place that is raised, or isn't
pub raised_at : (c least n : ℕ) (known : List ℕ) (d : ℕ) → n ≤ length known
    → slice_index (raised c least n known) d
    ≡ cond (nat_lt d n && (nat_lt (slice_index known d) least && not (d == c))) least (slice_index known d)
raised_at c least zero known d fits =
    let off : nat_lt d 0 ≡ false = grind (arith, nat_tests) in
    sym (ap (λ (b : Bool). cond (b && (nat_lt (slice_index known d) least && not (d == c))) least (slice_index known d)) off)
raised_at c least (suc n) known d fits =
    let before : List ℕ = raised c least n known in
    let was = raised_at c least n known d (omega arith) in
    let size = raised_length c least n known in
    let x : ℕ = cond (nat_lt (slice_index before n) least && not (n == c)) least (slice_index before n) in
    dite (ℕ_discrete d n)
    (λ is.
    let now : slice_index (set before n x) n ≡ x = word_here before n x (omega arith) in
    let same : slice_index before n ≡ slice_index known n =
    raised_at c least n known n (omega arith) ∙ (let off : nat_lt n n ≡ false = grind (arith, nat_tests) in
    ap (λ (b : Bool). cond (b && (nat_lt (slice_index known n) least && not (n == c))) least (slice_index known n)) off) in
    let on : nat_lt n (suc n) ≡ true = grind (arith, nat_tests) in
    subst (λ (k : ℕ). slice_index (set before n x) k
    ≡ cond (nat_lt k (suc n) && (nat_lt (slice_index known k) least && not (k == c))) least (slice_index known k)) (sym is)
    (now ∙ (ap (λ (k : ℕ). cond (nat_lt k least && not (n == c)) least k) same
    ∙ sym (ap (λ (b : Bool). cond (b && (nat_lt (slice_index known n) least && not (n == c))) least (slice_index known n)) on))))
    (λ away.
    let same : nat_lt d (suc n) ≡ nat_lt d n = grind (arith, nat_tests) in
    word_else before n d x away
    ∙ (was ∙ sym (ap (λ (b : Bool). cond (b && (nat_lt (slice_index known d) least && not (d == c))) least (slice_index known d)) same)))

-- raised twice, the second time no lower: the same as once
pub raised_twice : (c low high n : ℕ) (known : List ℕ) (d : ℕ) → n ≤ length known
    → slice_index (raised c high n (raised c low n known)) d ≡ slice_index (raised c (max low high) n known) d
raised_twice c low high n known d fits =
    let k : ℕ = slice_index known d in
    let b : Bool = nat_lt d n in
    let size = raised_length c low n known in
    let first : slice_index (raised c low n known) d ≡ cond (b && (nat_lt k low && not (d == c))) low k =
    raised_at c low n known d fits in
    raised_at c high n (raised c low n known) d (omega arith)
    ∙ (ap (λ (x : ℕ). cond (b && (nat_lt x high && not (d == c))) high x) first
    ∙ (two b (d == c) k ∙ sym (raised_at c (max low high) n known d fits)))
  where
    two : (b own : Bool) (k : ℕ)
        → cond (b && (nat_lt (cond (b && (nat_lt k low && not own)) low k) high && not own)) high
        (cond (b && (nat_lt k low && not own)) low k)
        ≡ cond (b && (nat_lt k (max low high) && not own)) (max low high) k
    two false own k = refl
    two true true k = grind (arith, nat_tests)
    two true false k = grind (arith, nat_tests)

-- raised to 0: nothing changes
pub raised_none : (c n : ℕ) (known : List ℕ) → raised c 0 n known ≡ known
raised_none c zero known = refl
raised_none c (suc n) known =
    let before : List ℕ = raised c 0 n known in
    let x : ℕ = slice_index before n in
    let off : nat_lt x 0 ≡ false = grind (arith, nat_tests) in
    ap (λ (b : Bool). set before n (cond (b && not (n == c)) 0 x)) off ∙ (set-get_or before n 0 ∙ raised_none c n known)
