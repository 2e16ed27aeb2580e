-- What pieces in order tell of the ticks at which a vCPU ran.
use Rattle.std.proofs.Common.{◌≡◌, ℕ, zero, suc, ◌+◌, ◌-◌, ◌*◌, ◌<◌, ◌≤◌, inl, inr, min, Bool, true, false, cond, ltb, List, [], ◌∷◌, get_or, length, Option, None, Some, refl, sym, ap, subst, ◌∙◌, arith}
use Rattle.std.specs.Prelude.{slice_get, count_by, nat_le, nat_lt, ◌==◌, ◌&&◌}
use Rattle.std.specs.List.Sorted.{IsPartitionPoint}
use Rattle.std.proofs.lemmas.Bool.{cases_lt, and_parts, leb-true, ltb-true}
use Rattle.std.proofs.lemmas.Bool.Decides.{nat_tests}
use Rattle.std.proofs.lemmas.Grind.{common_steps}
use Rattle.std.proofs.lemmas.List.Sums.{get_or-le-sum_by, sum_by-cons}
use Rattle.std.proofs.lemmas.Option.{get_or_from_slice_get, slice_get-get_or, slice_get_within}
use Rattle.tab_core.specs.declared.TheConstants.{MAX_ROUNDS, ROUND}
use Rattle.tab_core.proofs.Lists.{element_at}
use Rattle.table_form.specs.Promises.Capped.{runs_at, ticks_run}
use Rattle.table_form.specs.Running.State.{State}
use Rattle.burst_bound.specs.Answers.{IsOneIfAny}
use Rattle.burst_bound.specs.Bursts.{IsDoneAt}
use Rattle.burst_bound.specs.Inside.Runs.{AreInPlace, AreRuns, CountsBegunPieces, IsFirstWith, IsReached, IsReachedAt, TellRuns, after_piece, covers_for, place_of}
use Rattle.burst_bound.specs.declared.ran.RanPiece.{RanPiece}
use Rattle.burst_bound.proofs.CountLemmas.{ticks_few}
use Rattle.burst_bound.proofs.DoneLemmas.{ticks_rise}
use Rattle.burst_bound.proofs.PeriodLemmas.{run_split}

-- ---- counts

abbrev one : Bool → ℕ
one b = cond b 1 0

-- an element that passes is counted
counted : {X : Type 0} (p : X → Bool) (xs : List X) (k : ℕ) (x : X) → slice_get xs k ≡ Some x → p x ≡ true
    → 1 ≤ count_by p xs
counted p xs k x at is =
    let le = get_or-le-sum_by (λ y. one (p y)) xs k x (slice_get_within xs k x at) in
    let here = ap (λ y. one (p y)) (get_or_from_slice_get xs k x x at) in
    let passes = ap one is in
    omega arith

-- two of them are
two_counted : {X : Type 0} (p : X → Bool) (xs : List X) (j k : ℕ) (x y : X) → j < k → slice_get xs j ≡ Some x
    → slice_get xs k ≡ Some y → p x ≡ true → p y ≡ true → 2 ≤ count_by p xs
two_counted p [] j k x y lt at there is also = absurd cc
two_counted p (z ∷ zs) zero zero x y lt at there is also = absurd (omega arith)
two_counted p (z ∷ zs) zero (suc k) x y lt at there is also =
    let same : z ≡ x = cc in
    let here = ap one (ap p same ∙ is) in
    omega (arith, sum_by-cons (λ w. one (p w)) z zs, counted p zs k y there also)
two_counted p (z ∷ zs) (suc j) zero x y lt at there is also = absurd (omega arith)
two_counted p (z ∷ zs) (suc j) (suc k) x y lt at there is also =
    omega (arith, sum_by-cons (λ w. one (p w)) z zs, two_counted p zs j k x y (omega arith) at there is also)

-- where some are counted, there is one
some_counted : {X : Type 0} (p : X → Bool) (xs : List X) → 1 ≤ count_by p xs
    → (k : ℕ) × (x : X) × (slice_get xs k ≡ Some x) × (p x ≡ true)
some_counted p [] some = absurd (omega arith)
some_counted p (z ∷ zs) some = by_test (p z) refl (sum_by-cons (λ w. one (p w)) z zs) (λ le. some_counted p zs le)
  where
    by_test : (b : Bool) → p z ≡ b → count_by p (z ∷ zs) ≡ one (p z) + count_by p zs
        → (1 ≤ count_by p zs → (k : ℕ) × (x : _) × (slice_get zs k ≡ Some x) × (p x ≡ true))
        → (k : ℕ) × (x : _) × (slice_get (z ∷ zs) k ≡ Some x) × (p x ≡ true)
    by_test true is sum rest = (0, z, refl, is)
    by_test false is sum rest =
        let here = ap one is in
        let found = rest (omega arith) in
        (suc found.0, found.1, found.2, found.3)

-- ---- ticks in a row

-- where a vCPU doesn't run from one tick up to another
none_run : (s : State) (v a n : ℕ) → ((x : ℕ) → a ≤ x → x < a + n → runs_at s v x ≡ true → ⊥)
    → ticks_run s v a n ≡ 0
unfolding ticks_run
none_run s v a zero none = refl
none_run s v a (suc n) none =
    let before = none_run s v a n (λ x low high is. none x low (omega arith) is) in
    let last : one (runs_at s v (a + n)) ≡ 0 = by_test (runs_at s v (a + n)) (λ is. none (a + n) (omega arith) (omega arith) is) in
    omega arith
  where
    by_test : (b : Bool) → (b ≡ true → ⊥) → one b ≡ 0
    by_test true not = absurd (not refl)
    by_test false not = refl

-- where it runs all the time
all_run : (s : State) (v a n : ℕ) → ((x : ℕ) → a ≤ x → x < a + n → runs_at s v x ≡ true) → ticks_run s v a n ≡ n
unfolding ticks_run
all_run s v a zero all = refl
all_run s v a (suc n) all =
    let before = all_run s v a n (λ x low high. all x low (omega arith)) in
    let last = ap one (all (a + n) (omega arith) (omega arith)) in
    omega arith

-- the ticks before one, in two parts
from_start : (s : State) (v a b : ℕ) → a ≤ b → ticks_run s v 0 b ≡ ticks_run s v 0 a + ticks_run s v a (b - a)
from_start s v a b le =
    let split = run_split s v 0 a (b - a) in
    let whole = ap (ticks_run s v 0) (let e : a + (b - a) ≡ b = omega arith in e) in
    let moved = ap (λ (q : ℕ). ticks_run s v q (b - a)) (let e : 0 + a ≡ a = omega arith in e) in
    omega arith

-- one tick more
ticks_more : (s : State) (v x : ℕ) → ticks_run s v 0 (suc x) ≡ ticks_run s v 0 x + one (runs_at s v x)
unfolding ticks_run
ticks_more s v x = ap (λ (y : ℕ). ticks_run s v 0 x + one (runs_at s v y)) (let e : 0 + x ≡ x = omega arith in e)

-- ---- pieces

module _ (rounds : ℕ) (s : State) (pieces : List RanPiece) (few : rounds ≤ MAX_ROUNDS)
    (tell : TellRuns rounds s pieces) (order : AreInPlace pieces) where
  -- a piece covers its ticks
  covers_true : (p : RanPiece) (x : ℕ) → p.from ≤ x → x < p.end → covers_for p.vcpu x p ≡ true
  covers_true p x low high = covered p.from p.end p.vcpu where
    covered : (f e v : ℕ) → (nat_le p.from x && (nat_lt x p.end && (p.vcpu == p.vcpu))) ≡ true
    covered f e v = grind (arith, nat_tests, common_steps)

  -- its vCPU runs there
  piece_runs : (k x : ℕ) (p : RanPiece) → slice_get pieces k ≡ Some p → p.from ≤ x → x < p.end
      → runs_at s p.vcpu x ≡ true
  piece_runs k x p at low high =
      by_test (runs_at s p.vcpu x) (counted (covers_for p.vcpu x) pieces k p at (covers_true p x low high))
      (tell.count p.vcpu x)
    where
      by_test : (b : Bool) → 1 ≤ count_by (covers_for p.vcpu x) pieces → count_by (covers_for p.vcpu x) pieces ≡ one b
          → b ≡ true
      by_test true some is = refl
      by_test false some is = absurd (omega arith)

  -- a piece of the vCPU that covers the tick
  pub record HasPiece (v x : ℕ) : Type 0 where
    pub place : ℕ
    pub piece : RanPiece
    pub at : slice_get pieces place ≡ Some piece
    pub of : piece.vcpu ≡ v
    pub begun : piece.from ≤ x
    pub going : x < piece.end

  -- where a vCPU runs there is one
  runs_piece : (v x : ℕ) → runs_at s v x ≡ true → HasPiece v x
  runs_piece v x is =
      let some = ap one is in
      let found = some_counted (covers_for v x) pieces (omega (arith, tell.count v x)) in
      let p : RanPiece = found.1 in
      let begun = and_parts (nat_le p.from x) (nat_lt x p.end && (v == p.vcpu)) found.3 in
      let going = and_parts (nat_lt x p.end) (v == p.vcpu) begun.1 in
      record {
        place = found.0;
        piece = p;
        at = found.2;
        of = grind (arith, nat_tests, going.1);
        begun = leb-true p.from x begun.0;
        going = ltb-true x p.end going.0;
      }

  -- the places of pieces rise
  places_rise : (j k : ℕ) (p q : RanPiece) → j ≤ k → slice_get pieces j ≡ Some p → slice_get pieces k ≡ Some q
      → place_of p.vcpu p.from ≤ place_of q.vcpu q.from
  places_rise j k p q le at there =
      let one = get_or_from_slice_get pieces j p p at in
      let two = get_or_from_slice_get pieces k q p there in
      let rises = order j k p le (slice_get_within pieces k q there) in
      rw (one, two) at rises

  -- a tick of a piece is a small number
  small_end : (k : ℕ) (p : RanPiece) → slice_get pieces k ≡ Some p → p.end < 4294967296
  small_end k p at = omega (arith, tell.in_run k p at)

  -- of two pieces of one vCPU the earlier ends before the later begins
  pub ends_before : (j k : ℕ) (p q : RanPiece) → j < k → slice_get pieces j ≡ Some p → slice_get pieces k ≡ Some q
      → p.vcpu ≡ q.vcpu → p.end ≤ q.from
  ends_before j k p q lt at there same = elim (cases_lt q.from p.end) [
    | inl over ↦
        let rises = places_rise j k p q (omega arith) at there in
        let some = tell.some k q there in
        let one_covers : covers_for q.vcpu q.from p ≡ true =
        subst (λ (v : ℕ). covers_for v q.from p ≡ true) same (covers_true p q.from (omega arith) over) in
        let two = two_counted (covers_for q.vcpu q.from) pieces j k p q lt at there one_covers
        (covers_true q q.from (omega arith) some) in
        absurd (at_most (runs_at s q.vcpu q.from) two (tell.count q.vcpu q.from))
    | inr le ↦ le
  ]
    where
      at_most : {n : ℕ} (b : Bool) → 2 ≤ n → n ≡ one b → ⊥
      at_most true le is = omega arith
      at_most false le is = omega arith

  -- a piece of the vCPU that begins before the tick is one of the first
  begun_before : (v t n k : ℕ) (p : RanPiece) → CountsBegunPieces pieces v t n → slice_get pieces k ≡ Some p → p.vcpu ≡ v → p.from < t
      → k < n
  begun_before v t n k p begun at of low = elim (cases_lt k n) [
    | inl earlier ↦ earlier
    | inr later ↦ absurd (let le = begun.behind k p later at in omega arith)
  ]

  -- where none of the first is of the vCPU, it didn't run before the tick
  ran_nothing : (v t n : ℕ) → CountsBegunPieces pieces v t n
      → ((k : ℕ) (p : RanPiece) → k < n → slice_get pieces k ≡ Some p → p.vcpu ≡ v → ⊥)
      → ticks_run s v 0 t ≡ 0
  ran_nothing v t n begun other = none_run s v 0 t (λ x low high is.
      (let has = runs_piece v x is in
      let begins = has.begun in
      other has.place has.piece
      (begun_before v t n has.place has.piece begun has.at has.of (omega arith)) has.at has.of))

  -- a vCPU without a first piece didn't run before the tick
  pub ran_none : (v t : ℕ) → CountsBegunPieces pieces v t 0 → ticks_run s v 0 t ≡ 0
  ran_none v t begun = ran_nothing v t 0 begun (λ k p lt at of. absurd (omega arith))

  -- or the last of them is another's
  pub ran_other : (v t m : ℕ) (last : RanPiece) → t < 4294967296 → CountsBegunPieces pieces v t (m + 1)
      → slice_get pieces m ≡ Some last → (last.vcpu ≡ v → ⊥) → ticks_run s v 0 t ≡ 0
  ran_other v t m last small begun there other = ran_nothing v t (m + 1) begun (λ k p lt at of.
      (let rises = places_rise k m p last (omega arith) at there in
      let low = begun.before m last (omega arith) there in
      let end = small_end k p at in
      let some = tell.some k p at in
      let last_end = small_end m last there in
      let last_some = tell.some m last there in
      other (omega arith)))

  -- where the last of them is the vCPU's, it ran as much as before that, and in it up to the tick
  pub ran_last : (v t m : ℕ) (last : RanPiece) → t < 4294967296 → CountsBegunPieces pieces v t (m + 1)
      → slice_get pieces m ≡ Some last → last.vcpu ≡ v
      → ticks_run s v 0 t ≡ ticks_run s v 0 last.from + (min last.end t - last.from)
  ran_last v t m last small begun there of =
      let place = begun.before m last (omega arith) there in
      let last_end = small_end m last there in
      let some = tell.some m last there in
      let low : last.from < t = omega arith in
      let e : ℕ = min last.end t in
      let split = from_start s v last.from t (omega arith) in
      let parts = run_split s v last.from (e - last.from) (t - e) in
      let whole = ap (ticks_run s v last.from) (let h : (e - last.from) + (t - e) ≡ t - last.from = omega arith in h) in
      let moved = ap (λ (a : ℕ). ticks_run s v a (t - e)) (let h : last.from + (e - last.from) ≡ e = omega arith in h) in
      let full = all_run s v last.from (e - last.from) (λ x begin end.
      subst (λ (w : ℕ). runs_at s w x ≡ true) of (piece_runs m x last there begin (omega arith))) in
      let none = none_run s v e (t - e) (λ x begin end is. (let has = runs_piece v x is in
      let p : RanPiece = has.piece in
      let begins = has.begun in
      let goes = has.going in
      let k_of = has.of in
      let first = begun_before v t (m + 1) has.place p begun has.at has.of (omega arith) in
      elim (cases_lt has.place m) [
        | inl earlier ↦
            absurd (let ends = ends_before has.place m p last earlier has.at there (cc (k_of, of)) in omega arith)
        | inr at_last ↦
            (let same : has.place ≡ m = omega arith in
            absurd (same_piece has.place m x p last same has.at there goes (omega arith)))
      ])) in
      omega arith
    where
      same_piece : (j m x : ℕ) (p last : RanPiece) → j ≡ m → slice_get pieces j ≡ Some p → slice_get pieces m ≡ Some last
          → x < p.end → last.end ≤ x → ⊥
      same_piece j m x p last same at there goes past =
          let one : p ≡ last = cc in
          let end = ap (λ (q : RanPiece). q.end) one in
          omega arith

  -- each piece's begin is such a tick of its vCPU
  pub begun_here : (k : ℕ) (p : RanPiece) → slice_get pieces k ≡ Some p → CountsBegunPieces pieces p.vcpu p.from k
  begun_here k p at = record {
    within = (let lt = slice_get_within pieces k p at in omega arith);
    before = λ j q lt there. (let rises = places_rise j k q p (omega arith) there at in
        let end = small_end k p at in
        let some = tell.some k p at in
        let other_end = small_end j q there in
        let other_some = tell.some j q there in
        elim (cases_lt (place_of q.vcpu q.from) (place_of p.vcpu p.from)) [
          | inl less ↦ less
          | inr le ↦
              (let same : q.vcpu ≡ p.vcpu = omega arith in
              absurd (let ends = ends_before j k q p lt there at same in omega arith))
        ]);
    behind = λ j q le there. places_rise k j p q le at there;
  }

  -- a vCPU ran at as many ticks as the piece has up to its end
  pub ran_by_end : (k : ℕ) (p : RanPiece) → slice_get pieces k ≡ Some p
      → ticks_run s p.vcpu 0 p.end ≡ ticks_run s p.vcpu 0 p.from + (p.end - p.from)
  ran_by_end k p at =
      let some = tell.some k p at in
      let split = from_start s p.vcpu p.from p.end (omega arith) in
      let full = all_run s p.vcpu p.from (p.end - p.from) (λ x begin end. piece_runs k x p at begin (omega arith)) in
      omega arith

-- ---- what is kept of a run

module _ (rounds : ℕ) (s : State) (pieces : List RanPiece) (before : List ℕ) (few : rounds ≤ MAX_ROUNDS)
    (are : AreRuns rounds s pieces before) where
  -- the number of a piece's place
  pub before_at : (k : ℕ) (p : RanPiece) → slice_get pieces k ≡ Some p → slice_get before k ≡ Some (get_or before k 0)
  before_at k p at =
      let lt = slice_get_within pieces k p at in
      let size = are.size in
      slice_get-get_or before k 0 (omega arith)

  -- at how many ticks a piece's vCPU ran before it
  pub before_is : (k : ℕ) (p : RanPiece) → slice_get pieces k ≡ Some p → get_or before k 0 ≡ ticks_run s p.vcpu 0 p.from
  before_is k p at = are.ran k (get_or before k 0) p at (before_at k p at)

  -- at how many ticks a piece's vCPU ran up to its end
  pub after_is : (k : ℕ) (p : RanPiece) → slice_get pieces k ≡ Some p
      → ticks_run s p.vcpu 0 p.end ≡ get_or before k 0 + (p.end - p.from)
  after_is k p at =
      omega (arith, before_is k p at, ran_by_end rounds s pieces few are.tell are.order k p at)

  -- which is no more than there are
  pub after_fits : (k : ℕ) (p : RanPiece) → slice_get pieces k ≡ Some p
      → get_or before k 0 + (p.end - p.from) < 4294967296
  after_fits k p at =
      omega (arith, after_is k p at, ticks_few s p.vcpu 0 p.end, are.tell.in_run k p at)

  -- what has run before a tick
  pub ran_at_last : (v t n : ℕ) → t < 4294967296 → CountsBegunPieces pieces v t n → (last : RanPiece)
      → 1 ≤ n → slice_get pieces (n - 1) ≡ Some last → last.vcpu ≡ v
      → ticks_run s v 0 t ≡ get_or before (n - 1) 0 + (min last.end t - last.from)
  ran_at_last v t n small begun last some at of =
      let next : n ≡ n - 1 + 1 = omega arith in
      let ran = ran_last rounds s pieces few are.tell are.order v t (n - 1) last small
      (subst (CountsBegunPieces pieces v t) next begun) at of in
      let here = before_is (n - 1) last at in
      let same = ap (λ (w : ℕ). ticks_run s w 0 last.from) of in
      omega arith

  -- nothing, where the last that began is another's
  pub ran_at_other : (v t n : ℕ) → t < 4294967296 → CountsBegunPieces pieces v t n → (last : RanPiece)
      → 1 ≤ n → slice_get pieces (n - 1) ≡ Some last → (last.vcpu ≡ v → ⊥) → ticks_run s v 0 t ≡ 0
  ran_at_other v t n small begun last some at other =
      let next : n ≡ n - 1 + 1 = omega arith in
      ran_other rounds s pieces few are.tell are.order v t (n - 1) last small
      (subst (CountsBegunPieces pieces v t) next begun) at other

  -- nothing ran where no piece began
  pub ran_at_none : (v t n : ℕ) → n ≡ 0 → CountsBegunPieces pieces v t n → ticks_run s v 0 t ≡ 0
  ran_at_none v t n none begun =
      ran_none rounds s pieces few are.tell are.order v t (subst (CountsBegunPieces pieces v t) none begun)

  -- the last that began began before the tick
  pub last_begun : (v t n : ℕ) → t < 4294967296 → CountsBegunPieces pieces v t n → (last : RanPiece)
      → 1 ≤ n → slice_get pieces (n - 1) ≡ Some last → last.vcpu ≡ v → (last.from < t) × (last.from < last.end)
  last_begun v t n small begun last some at of =
      let low = begun.before (n - 1) last (omega arith) at in
      (omega arith, are.tell.some (n - 1) last at)

  -- the numbers after pieces rise
  after_rise : (j k : ℕ) (p q : RanPiece) → j ≤ k → slice_get pieces j ≡ Some p → slice_get pieces k ≡ Some q
      → place_of p.vcpu (after_piece (get_or before j 0) p) ≤ place_of q.vcpu (after_piece (get_or before k 0) q)
  after_rise j k p q le at there =
      let rises = places_rise rounds s pieces few are.tell are.order j k p q le at there in
      let small = after_fits j p at in
      let big = after_fits k q there in
      let p_end = are.tell.in_run j p at in
      let q_end = are.tell.in_run k q there in
      let p_some = are.tell.some j p at in
      let q_some = are.tell.some k q there in
      elim (cases_lt p.vcpu q.vcpu) [
        | inl less ↦ omega arith
        | inr ge ↦
            let same : p.vcpu ≡ q.vcpu = omega arith in
            let one = after_is j p at in
            let two = after_is k q there in
            let moved = ap (λ (w : ℕ). ticks_run s w 0 p.end) same in
            let ends = ends_rise j k p q le at there same in
            let more = ticks_rise s q.vcpu 0 p.end q.end ends in
            omega arith
      ]
    where
      ends_rise : (j k : ℕ) (p q : RanPiece) → j ≤ k → slice_get pieces j ≡ Some p → slice_get pieces k ≡ Some q
          → p.vcpu ≡ q.vcpu → p.end ≤ q.end
      ends_rise j k p q le at there same = elim (cases_lt j k) [
        | inl lt ↦
            (let ends = ends_before rounds s pieces few are.tell are.order j k p q lt at there same in
            let some = are.tell.some k q there in
            omega arith)
        | inr ge ↦ (let e : j ≡ k = omega arith in let same : p ≡ q = cc in omega (arith, ap (λ (r : RanPiece). r.end) same))
      ]

  -- one piece more comes before so many ticks of the vCPU: so do all before it
  pub less_to : (v ticks m k b : ℕ) (p q : RanPiece) → slice_get pieces m ≡ Some q
      → place_of q.vcpu (after_piece (get_or before m 0) q) < place_of v ticks → k < m + 1
      → slice_get pieces k ≡ Some p → slice_get before k ≡ Some b
      → place_of p.vcpu (after_piece b p) < place_of v ticks
  less_to v ticks m k b p q there less lt at is =
      let rises = after_rise k m p q (omega arith) at there in
      let same = get_or_from_slice_get before k b 0 is in
      omega arith

  -- it doesn't: nor do those after it
  pub rest_from : (v ticks m k b : ℕ) (p q : RanPiece) → slice_get pieces m ≡ Some q
      → place_of v ticks ≤ place_of q.vcpu (after_piece (get_or before m 0) q) → m ≤ k
      → slice_get pieces k ≡ Some p → slice_get before k ≡ Some b
      → place_of v ticks ≤ place_of p.vcpu (after_piece b p)
  rest_from v ticks m k b p q there more le at is =
      let rises = after_rise m k q p le there at in
      let same = get_or_from_slice_get before k b 0 is in
      omega arith

  -- the vCPU never ran at so many ticks, where no piece of it is from the place on
  pub never_reached : (v ticks n : ℕ) → 1 ≤ ticks → IsFirstWith pieces before v ticks n
      → ((k : ℕ) (p : RanPiece) → n ≤ k → slice_get pieces k ≡ Some p → p.vcpu ≡ v → ⊥)
      → (x : ℕ) → ticks_run s v 0 x < ticks
  never_reached v ticks n some first none zero = (let nothing = ticks_few s v 0 0 in omega arith)
  never_reached v ticks n some first none (suc x) =
      by_test (runs_at s v x) refl (never_reached v ticks n some first none x)
    where
      by_test : (b : Bool) → runs_at s v x ≡ b → ticks_run s v 0 x < ticks → ticks_run s v 0 (suc x) < ticks
      by_test false is less = (let here = ap one is in omega (arith, ticks_more s v x))
      by_test true is less =
          let has = runs_piece rounds s pieces few are.tell are.order v x is in
          let p : RanPiece = has.piece in
          elim (cases_lt has.place n) [
            | inl earlier ↦
                (let lt = first.less has.place (get_or before has.place 0) p earlier has.at (before_at has.place p has.at) in
                let after = after_is has.place p has.at in
                let moved = ap (λ (w : ℕ). ticks_run s w 0 p.end) has.of in
                let up = ticks_rise s v 0 (suc x) p.end (let goes = has.going in omega arith) in
                let of = has.of in
                let small = after_fits has.place p has.at in
                omega arith)
            | inr later ↦ absurd (none has.place p later has.at has.of)
          ]

  -- it did by the end of the piece there, if that is the vCPU's
  pub reached_there : (v ticks n : ℕ) (p : RanPiece) → 1 ≤ ticks → ticks < 4294967296
      → IsFirstWith pieces before v ticks n → slice_get pieces n ≡ Some p → p.vcpu ≡ v
      → (get_or before n 0 < ticks) × (p.from + (ticks - get_or before n 0) ≤ p.end)
      × IsReachedAt rounds s v ticks (p.from + (ticks - get_or before n 0))
  reached_there v ticks n p some small first at of =
      let b : ℕ = get_or before n 0 in
      let here = before_is n p at in
      let fits = after_fits n p at in
      let in_piece = are.tell.some n p at in
      let in_run = are.tell.in_run n p at in
      let more = first.rest n b p (omega arith) at (before_at n p at) in
      let low : b < ticks = begins_less n refl in
      let high : ticks ≤ b + (p.end - p.from) = omega arith in
      let e : ℕ = p.from + (ticks - b) in
      let up = λ (t : ℕ) (begin : p.from ≤ t) (end : t ≤ p.end). ran_in t begin end in
      let at_e = up e (omega arith) (omega arith) in (
        low,
        omega arith,
        record {
          in_run = omega arith;
          enough = omega arith;
          least = λ x reaches. (elim (cases_lt x e) [
            | inl earlier ↦
                (let at_x = up (e - 1) (omega arith) (omega arith) in
                let less = ticks_rise s v 0 x (e - 1) (omega arith) in
                absurd (omega arith))
            | inr le ↦ le
          ]);
        },
      )
    where
      -- up to a tick of the piece
      ran_in : (t : ℕ) → p.from ≤ t → t ≤ p.end → ticks_run s v 0 t ≡ get_or before n 0 + (t - p.from)
      ran_in t begin end =
          let split = from_start s v p.from t begin in
          let full = all_run s v p.from (t - p.from) (λ x low high. subst (λ (w : ℕ). runs_at s w x ≡ true) of
          (piece_runs rounds s pieces few are.tell are.order n x p at low (omega arith))) in
          let here = before_is n p at in
          let moved = ap (λ (w : ℕ). ticks_run s w 0 p.from) of in
          omega arith

      -- it ran at fewer ticks before the piece
      begins_less : (m : ℕ) → m ≡ n → get_or before n 0 < ticks
      begins_less zero is =
          let begun = begun_here rounds s pieces few are.tell are.order n p at in
          let none = ran_at_none p.vcpu p.from n (sym is) begun in
          omega (arith, before_is n p at)
      begins_less (suc m) is =
          let begun = begun_here rounds s pieces few are.tell are.order n p at in
          let last = element_at pieces m (let lt = slice_get_within pieces n p at in omega arith) in
          let prior : n - 1 ≡ m = omega arith in
          let last_at : slice_get pieces (n - 1) ≡ Some last.0 = rw prior last.1 in
          let p_small = are.tell.in_run n p at in
          let p_some = are.tell.some n p at in
          elim (cases_lt last.0.vcpu p.vcpu) [
            | inl less ↦
                (let none = ran_at_other p.vcpu p.from n (omega arith) begun last.0 (omega arith) last_at (λ same. omega arith) in
                omega (arith, before_is n p at))
            | inr ge ↦
                (let rises = places_rise rounds s pieces few are.tell are.order m n last.0 p (omega arith) last.1 at in
                let last_small = are.tell.in_run m last.0 last.1 in
                let last_some = are.tell.some m last.0 last.1 in
                let same : last.0.vcpu ≡ p.vcpu = omega arith in
                let ran = ran_at_last p.vcpu p.from n (omega arith) begun last.0 (omega arith) last_at same in
                let ends = ends_before rounds s pieces few are.tell are.order m n last.0 p (omega arith) last.1 at same in
                let less = first.less m (get_or before m 0) last.0 (omega arith) last.1 (before_at m last.0 last.1) in
                let moved = ap (λ (k : ℕ). get_or before k 0) prior in
                let fits = after_fits m last.0 last.1 in
                omega (arith, before_is n p at))
          ]

-- what bisection by their begins finds
pub begun_at : (pieces : List RanPiece) (v t n : ℕ) → n ≤ length pieces
    → IsPartitionPoint (λ (p : RanPiece). ltb (place_of p.vcpu p.from) (place_of v t) ≡ true)
    (λ (p : RanPiece). ltb (place_of p.vcpu p.from) (place_of v t) ≡ false) pieces n
    → CountsBegunPieces pieces v t n
begun_at pieces v t n le at = record {
  within = le;
  before = λ k p lt is. (let test = at.0 k p (omega arith) lt in
      let same = get_or_from_slice_get pieces k p p is in
      grind (arith, nat_tests));
  behind = λ k p low is. (let lt = slice_get_within pieces k p is in
      let test = at.1 k p low lt in
      let same = get_or_from_slice_get pieces k p p is in
      grind (arith, nat_tests));
}

-- stands for a piece that a list doesn't have
abbrev pub no_piece : RanPiece
no_piece = record { vcpu = 0; from = 0; end = 0 }

-- the piece there is another's, so it never was
pub other_there : (rounds : ℕ) (s : State) (pieces : List RanPiece) (before : List ℕ) (v ticks n : ℕ) (q : RanPiece)
    → rounds ≤ MAX_ROUNDS → AreRuns rounds s pieces before → 1 ≤ ticks → ticks < 4294967296
    → IsFirstWith pieces before v ticks n → slice_get pieces n ≡ Some q → (q.vcpu ≡ v → ⊥)
    → (x : ℕ) → ticks_run s v 0 x < ticks
other_there rounds s pieces before v ticks n q few are some small first at other =
    never_reached rounds s pieces before few are v ticks n some first (λ k p le here of.
    (let more = first.rest n (get_or before n 0) q (omega arith) at (before_at rounds s pieces before few are n q at) in
    let rises = places_rise rounds s pieces few are.tell are.order n k q p le at here in
    let fits = after_fits rounds s pieces before few are n q at in
    let q_end = are.tell.in_run n q at in
    let q_some = are.tell.some n q at in
    let p_end = are.tell.in_run k p here in
    let p_some = are.tell.some k p here in
    other (omega arith)))

-- where there is no piece, the work was never done there
pub none_there : (rounds : ℕ) (s : State) (pieces : List RanPiece) (before : List ℕ) (v ticks n : ℕ)
    → rounds ≤ MAX_ROUNDS → AreRuns rounds s pieces before → 1 ≤ ticks → IsFirstWith pieces before v ticks n
    → n ≡ length pieces → (x : ℕ) → ticks_run s v 0 x < ticks
none_there rounds s pieces before v ticks n few are some first end =
    never_reached rounds s pieces before few are v ticks n some first (λ k p le here of.
    (let lt = slice_get_within pieces k p here in absurd (omega arith)))

-- ---- work

-- work that counts from a tick on is done when as many ticks more than before it are run
pub done_reached : (rounds : ℕ) (s : State) (v work seen e : ℕ) → 1 ≤ work
    → IsReachedAt rounds s v (ticks_run s v 0 seen + work) e → IsDoneAt rounds s v work seen e
done_reached rounds s v work seen e some reached =
    let after : seen ≤ e = elim (cases_lt e seen) [
      | inl early ↦ absurd (let less = ticks_rise s v 0 e seen (omega arith) in let enough = reached.enough in omega arith)
      | inr le ↦ le
    ] in
    record {
      in_run = reached.in_run;
      after = after;
      enough = (let split = from_start s v seen e after in let enough = reached.enough in omega arith);
      least = λ x low more. reached.least x (let split = from_start s v seen x low in omega arith);
    }

-- work is never done where as many ticks more are never run
pub never_done : (rounds : ℕ) (s : State) (v work seen e : ℕ)
    → ((x : ℕ) → ticks_run s v 0 x < ticks_run s v 0 seen + work) → IsDoneAt rounds s v work seen e → ⊥
never_done rounds s v work seen e never at =
    let split = from_start s v seen e at.after in
    let less = never e in
    let enough = at.enough in
    omega arith

-- no work is done at once
pub done_at_once : (rounds : ℕ) (s : State) (v seen : ℕ) → seen ≤ rounds * ROUND → IsDoneAt rounds s v 0 seen seen
done_at_once rounds s v seen le = record {
  in_run = le;
  after = omega arith;
  enough = omega arith;
  least = λ e low more. low;
}

-- more ticks than any run has are never run
pub beyond : (s : State) (v work seen : ℕ) (rounds e : ℕ) → rounds ≤ MAX_ROUNDS
    → 4294967296 ≤ ticks_run s v 0 seen + work → seen ≤ rounds * ROUND → IsDoneAt rounds s v work seen e → ⊥
beyond s v work seen rounds e few many le at =
    let split = from_start s v seen e at.after in
    let most = ticks_few s v 0 e in
    let enough = at.enough in
    let in_run = at.in_run in
    omega arith

-- the tick of what is reached, if anything is, is that of the work
pub done_if_reached : (rounds : ℕ) (s : State) (v work seen : ℕ) (result : Option ℕ) → 1 ≤ work
    → IsReached rounds s v (ticks_run s v 0 seen + work) result → IsOneIfAny (IsDoneAt rounds s v work seen) result
done_if_reached rounds s v work seen None some never = λ e at. never_done rounds s v work seen e never at
done_if_reached rounds s v work seen (Some e) some reached = done_reached rounds s v work seen e some reached
