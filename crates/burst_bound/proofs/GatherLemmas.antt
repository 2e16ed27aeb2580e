-- The pieces of all cores tell of the run, in any order.
use Rattle.std.proofs.Common.{◌≡◌, ℕ, zero, suc, ◌+◌, ◌-◌, ◌*◌, ◌<◌, ◌≤◌, All, Bool, true, false, cond, List, [], ◌∷◌, ◌++◌, get_or, inl, inr, length, length-append, take, flat_map, Option, None, Some, refl, sym, ap, subst, ◌∙◌, arith}
use Rattle.std.specs.Prelude.{slice_get, count_by, nat_le, nat_lt, ◌&&◌}
use Rattle.std.specs.List.Sorted.{IsPermutation}
use Rattle.std.proofs.Math.ListN.{get_or-append}
use Rattle.std.proofs.Math.Seq.{get_or-append_seam}
use Rattle.std.proofs.lemmas.Bool.{cases_lt}
use Rattle.std.proofs.lemmas.List.{flat_map_more, take_more}
use Rattle.std.proofs.lemmas.List.Concat.{length-flat_map}
use Rattle.std.proofs.lemmas.List.Sorted.{All-permutation, sum_by-IsPermutation}
use Rattle.std.proofs.lemmas.List.Sums.{sum_by-append, sum_by-cons, sum_by-le-sum_by, sum_by_more_le_part}
use Rattle.std.proofs.lemmas.Option.{get_or_from_slice_get, slice_get-get_or, slice_get_within}
use Rattle.run_limit.specs.StintBounds.{stints_in}
use Rattle.tab_core.specs.Timelines.{AreContiguous}
use Rattle.tab_core.specs.declared.TheConstants.{MAX_ROUNDS, ROUND}
use Rattle.tab_core.specs.declared.stint.Stint.{Stint}
use Rattle.table_form.specs.Promises.Capped.{runs_in, ticks_run}
use Rattle.table_form.specs.Running.Courses.{CourseView, IsCourse}
use Rattle.table_form.specs.Running.Complete.{IsComplete}
use Rattle.table_form.specs.Running.Invariant.{StateInvariant}
use Rattle.table_form.specs.Running.State.{State, CoreState, IsCore}
use Rattle.table_form.specs.Tables.Serves.{is_cell_of}
use Rattle.burst_bound.specs.Inside.Runs.{AreInPlace, AreRanBefore, CountsBegunPieces, TellRuns, covers_for, piece_of, piece_with, pieces_of, ran_pieces}
use Rattle.burst_bound.specs.declared.ran.RanPiece.{RanPiece}
use Rattle.burst_bound.proofs.CountLemmas.{runs_once, stints_running, ticks_few}
use Rattle.burst_bound.proofs.RanLemmas.{begun_here, ends_before, ran_by_end, ran_last, ran_none, ran_other}

-- ---- how many

-- a stint has one piece at most
few_with : (ran : Option ℕ) (from end : ℕ) → length (piece_with ran from end) ≤ 1
few_with None from end = omega arith
few_with (Some v) from end = omega arith

-- stints have no more pieces than they are
pub pieces_few : (stints : List Stint) → length (pieces_of stints) ≤ length stints
pieces_few [] = omega arith
pieces_few (st ∷ stints) =
    let one = few_with st.ran st.from st.end in
    let rest = pieces_few stints in
    let both = length-append (piece_of st) (pieces_of stints) in
    omega arith

-- the pieces of one core more
pub pieces_on_more : (s : State) (c : ℕ) (core : CoreState) → IsCore s c core
    → ran_pieces (take (c + 1) s.cores) ≡ ran_pieces (take c s.cores) ++ pieces_of core.stints
pieces_on_more s c core at =
    let lt = slice_get_within s.cores c core at in
    let here = get_or_from_slice_get s.cores c core core at in
    let f : CoreState → List RanPiece = λ (k : CoreState). pieces_of k.stints in
    ap ran_pieces (take_more s.cores c core lt)
    ∙ sym (flat_map_more f [] (take c s.cores) (get_or s.cores c core))
    ∙ ap (λ (k : CoreState). ran_pieces (take c s.cores) ++ pieces_of k.stints) here

-- the pieces of one stint more
pub pieces_more : (old : List RanPiece) (stints : List Stint) (k : ℕ) (st : Stint) → k < length stints
    → st ≡ get_or stints k st → old ++ pieces_of (take (k + 1) stints) ≡ (old ++ pieces_of (take k stints)) ++ piece_of st
pieces_more old stints k st lt is =
    ap (λ (ss : List Stint). old ++ pieces_of ss) (take_more stints k st lt)
    ∙ sym (flat_map_more piece_of old (take k stints) (get_or stints k st))
    ∙ ap (λ (u : Stint). (old ++ pieces_of (take k stints)) ++ piece_of u) (sym is)

-- the pieces so far and the stints of one core more are no more than all stints
pub pieces_on_room : (s : State) (c : ℕ) (core : CoreState) → IsCore s c core
    → length (ran_pieces (take c s.cores)) + length core.stints ≤ stints_in s
pieces_on_room s c core at =
    let f : CoreState → ℕ = λ (k : CoreState). length (pieces_of k.stints) in
    let g : CoreState → ℕ = λ (k : CoreState). length k.stints in
    let lt = slice_get_within s.cores c core at in
    let here = ap g (get_or_from_slice_get s.cores c core core at) in
    let most = sum_by_more_le_part f g s.cores c core lt (λ k. pieces_few k.stints) in
    let size = length-flat_map (λ (k : CoreState). pieces_of k.stints) (take c s.cores) in
    omega arith

-- all pieces are no more than all stints
pub pieces_on_few : (s : State) → length (ran_pieces s.cores) ≤ stints_in s
pieces_on_few s =
    let f : CoreState → ℕ = λ (k : CoreState). length (pieces_of k.stints) in
    let g : CoreState → ℕ = λ (k : CoreState). length k.stints in
    let size = length-flat_map (λ (k : CoreState). pieces_of k.stints) s.cores in
    let most = sum_by-le-sum_by f g s.cores (λ k. pieces_few k.stints) in
    omega arith

-- ---- counts

abbrev one : Bool → ℕ
one b = cond b 1 0

-- a stint's piece covers what the stint runs
count_with : (v x : ℕ) (ran : Option ℕ) (from end : ℕ) → count_by (covers_for v x) (piece_with ran from end)
    ≡ one (nat_le from x && (nat_lt x end && is_cell_of v ran))
count_with v x None from end = no_cell (nat_le from x) (nat_lt x end) where
  no_cell : (a b : Bool) → 0 ≡ one (a && (b && false))
  no_cell true true = refl
  no_cell true false = refl
  no_cell false b = refl
count_with v x (Some w) from end = omega arith

-- the pieces of stints cover what the stints run
count_of : (v x : ℕ) (stints : List Stint) → count_by (covers_for v x) (pieces_of stints) ≡ count_by (runs_in v x) stints
count_of v x [] = refl
count_of v x (st ∷ stints) =
    omega (
      arith,
      sum_by-append (λ (p : RanPiece). one (covers_for v x p)) (piece_of st) (pieces_of stints),
      sum_by-cons (λ (u : Stint). one (runs_in v x u)) st stints,
      count_with v x st.ran st.from st.end,
      count_of v x stints,
    )

-- the pieces of cores cover what their stints run
count_on : (v x : ℕ) (cores : List CoreState) → count_by (covers_for v x) (ran_pieces cores) ≡ stints_running v x cores
count_on v x [] = refl
count_on v x (core ∷ cores) =
    omega (
      arith,
      sum_by-append (λ (p : RanPiece). one (covers_for v x p)) (pieces_of core.stints) (ran_pieces cores),
      sum_by-cons (λ (k : CoreState). count_by (runs_in v x) k.stints) core cores,
      count_of v x core.stints,
      count_on v x cores,
    )

-- ---- each piece

-- what holds of each piece of two lists holds of each of both
each_both : (P : RanPiece → Type 0) (a b : List RanPiece) → ((k : ℕ) (p : RanPiece) → slice_get a k ≡ Some p → P p)
    → ((k : ℕ) (p : RanPiece) → slice_get b k ≡ Some p → P p)
    → (k : ℕ) (p : RanPiece) → slice_get (a ++ b) k ≡ Some p → P p
each_both P [] b one two k p at = two k p at
each_both P (x ∷ a) b one two zero p at = one 0 p at
each_both P (x ∷ a) b one two (suc k) p at = each_both P a b (λ j q there. one (suc j) q there) two k p at

-- in as many as a list has elements
each_flat : {X : Type 0} (P : RanPiece → Type 0) (f : X → List RanPiece) (xs : List X)
    → ((j : ℕ) (x : X) → slice_get xs j ≡ Some x → (k : ℕ) (p : RanPiece) → slice_get (f x) k ≡ Some p → P p)
    → (k : ℕ) (p : RanPiece) → slice_get (flat_map f xs) k ≡ Some p → P p
each_flat P f [] each k p at = absurd cc
each_flat P f (x ∷ xs) each k p at =
    each_both P (f x) (flat_map f xs) (each 0 x refl) (each_flat P f xs (λ j y there. each (suc j) y there)) k p at

-- a stint's piece has its ticks
with_ticks : (P : ℕ → ℕ → Type 0) (ran : Option ℕ) (from end : ℕ) → P from end
    → (k : ℕ) (p : RanPiece) → slice_get (piece_with ran from end) k ≡ Some p → P p.from p.end
with_ticks P None from end is k p at = absurd cc
with_ticks P (Some v) from end is zero p at =
    (let same : (record { vcpu = v; from = from; end = end }) ≡ p = cc in
    subst (λ (q : RanPiece). P q.from q.end) same is)
with_ticks P (Some v) from end is (suc k) p at = absurd cc

-- a chain goes on
chain_on : (from to : ℕ) (ss : List Stint) → AreContiguous from ss to
    → ((i : ℕ) (u : Stint) → slice_get ss i ≡ Some u → u.from < u.end) → from ≤ to
chain_on from to [] chain ticks = omega (arith, chain)
chain_on from to (s ∷ ss) chain ticks =
    omega (arith, ticks 0 s refl, chain.0, chain_on s.end to ss chain.1 (λ i u g. ticks (suc i) u g))

-- no stint of it ends after it
ends_within : (from to : ℕ) (ss : List Stint) (k : ℕ) (t : Stint) → AreContiguous from ss to
    → ((i : ℕ) (u : Stint) → slice_get ss i ≡ Some u → u.from < u.end) → slice_get ss k ≡ Some t → t.end ≤ to
ends_within from to [] k t chain ticks h = absurd cc
ends_within from to (s ∷ ss) zero t chain ticks h =
    let e : s ≡ t = cc in
    omega (arith, ap (λ (u : Stint). u.end) e, chain_on s.end to ss chain.1 (λ i u g. ticks (suc i) u g))
ends_within from to (s ∷ ss) (suc k) t chain ticks h =
    ends_within s.end to ss k t chain.1 (λ i u g. ticks (suc i) u g) h

-- ---- all

-- it is some ticks of the run
abbrev IsSome : ℕ → ℕ → ℕ → Type 0
IsSome rounds from end = (from < end) × (end ≤ rounds * ROUND)

each_on : (course : CourseView) (rounds : ℕ) (s : State) → StateInvariant course rounds s → IsComplete course rounds s
    → (k : ℕ) (p : RanPiece) → slice_get (ran_pieces s.cores) k ≡ Some p → IsSome rounds p.from p.end
each_on course rounds s kept whole =
    each_flat (λ p. IsSome rounds p.from p.end) (λ (core : CoreState). pieces_of core.stints) s.cores (λ c core at.
    each_flat (λ p. IsSome rounds p.from p.end) piece_of core.stints (λ j st there.
    (let line = (kept.cores c core at).timeline in
    let some = (line.each j st there).some_ticks in
    let end = ends_within 0 core.clock core.stints j st line.contiguous (λ i u h. (line.each i u h).some_ticks) there in
    let clock = whole.clocks c core at in
    with_ticks (IsSome rounds) st.ran st.from st.end (some, omega arith))))

-- the pieces of all cores tell of the run
pub pieces_tell : (course : CourseView) (rounds : ℕ) (s : State) → IsCourse course
    → StateInvariant course rounds s → IsComplete course rounds s → TellRuns rounds s (ran_pieces s.cores)
pieces_tell course rounds s ok kept whole = record {
  some = λ k p here. (each_on course rounds s kept whole k p here).0;
  in_run = λ k p here. (each_on course rounds s kept whole k p here).1;
  count = λ v x. count_on v x s.cores ∙ runs_once course rounds s v x ok kept;
}

-- the pieces of all cores in another order are those of the run too
pub tell_moved : (rounds : ℕ) (s : State) (first pieces : List RanPiece) → IsPermutation first pieces
    → TellRuns rounds s first → TellRuns rounds s pieces
tell_moved rounds s first pieces moved tell =
    let all : All (λ (p : RanPiece). IsSome rounds p.from p.end) first =
    λ k d lt. (let here = slice_get-get_or first k d lt in
    (tell.some k (get_or first k d) here, tell.in_run k (get_or first k d) here)) in
    let each = All-permutation (λ (p : RanPiece). IsSome rounds p.from p.end) first pieces moved all in
    record {
      some = λ k p here. (at_place k p each here).0;
      in_run = λ k p here. (at_place k p each here).1;
      count = λ v x. sum_by-IsPermutation (λ (p : RanPiece). one (covers_for v x p)) first pieces moved ∙ tell.count v x;
    }
  where
    at_place : (k : ℕ) (p : RanPiece) → All (λ (q : RanPiece). IsSome rounds q.from q.end) pieces
        → slice_get pieces k ≡ Some p → IsSome rounds p.from p.end
    at_place k p all here =
        let lt = slice_get_within pieces k p here in
        rw (get_or_from_slice_get pieces k p p here) at (all k p lt)

-- ---- sums

-- before the first piece nothing ran
pub sum_none : (rounds : ℕ) (s : State) (pieces : List RanPiece) (k : ℕ) (p : RanPiece) → rounds ≤ MAX_ROUNDS
    → TellRuns rounds s pieces → AreInPlace pieces → slice_get pieces k ≡ Some p → k ≡ 0
    → ticks_run s p.vcpu 0 p.from ≡ 0
sum_none rounds s pieces k p few tell order at first =
    ran_none rounds s pieces few tell order p.vcpu p.from
    (subst (CountsBegunPieces pieces p.vcpu p.from) first (begun_here rounds s pieces few tell order k p at))

-- before a piece of another vCPU than the last nothing more ran
pub sum_other : (rounds : ℕ) (s : State) (pieces : List RanPiece) (k : ℕ) (p last : RanPiece) → rounds ≤ MAX_ROUNDS
    → TellRuns rounds s pieces → AreInPlace pieces → slice_get pieces k ≡ Some p → 1 ≤ k
    → slice_get pieces (k - 1) ≡ Some last → (last.vcpu ≡ p.vcpu → ⊥) → ticks_run s p.vcpu 0 p.from ≡ 0
sum_other rounds s pieces k p last few tell order at some before other =
    let next : k ≡ k - 1 + 1 = omega arith in
    let in_run = tell.in_run k p at in
    let ticks = tell.some k p at in
    ran_other rounds s pieces few tell order p.vcpu p.from (k - 1) last (omega arith)
    (subst (CountsBegunPieces pieces p.vcpu p.from) next (begun_here rounds s pieces few tell order k p at)) before other

-- before a piece of the last one's vCPU as much ran as by the end of the last
pub sum_same : (rounds : ℕ) (s : State) (pieces : List RanPiece) (k : ℕ) (p last : RanPiece) → rounds ≤ MAX_ROUNDS
    → TellRuns rounds s pieces → AreInPlace pieces → slice_get pieces k ≡ Some p → 1 ≤ k
    → slice_get pieces (k - 1) ≡ Some last → last.vcpu ≡ p.vcpu
    → ticks_run s p.vcpu 0 p.from ≡ ticks_run s last.vcpu 0 last.from + (last.end - last.from)
sum_same rounds s pieces k p last few tell order at some before same =
    let next : k ≡ k - 1 + 1 = omega arith in
    let in_run = tell.in_run k p at in
    let ticks = tell.some k p at in
    let ends = ends_before rounds s pieces few tell order (k - 1) k last p (omega arith) before at same in
    let ran = ran_last rounds s pieces few tell order p.vcpu p.from (k - 1) last (omega arith)
    (subst (CountsBegunPieces pieces p.vcpu p.from) next (begun_here rounds s pieces few tell order k p at)) before same in
    let moved = ap (λ (v : ℕ). ticks_run s v 0 last.from) same in
    omega arith

-- which fits
pub sum_fits : (rounds : ℕ) (s : State) (pieces : List RanPiece) (k : ℕ) (last : RanPiece) → rounds ≤ MAX_ROUNDS
    → TellRuns rounds s pieces → AreInPlace pieces → slice_get pieces k ≡ Some last
    → ticks_run s last.vcpu 0 last.from + (last.end - last.from) < 4294967296
sum_fits rounds s pieces k last few tell order at =
    omega (
      arith,
      ran_by_end rounds s pieces few tell order k last at,
      ticks_few s last.vcpu 0 last.end,
      tell.in_run k last at,
    )

-- the numbers so far and that of one piece more
pub sums_more : (s : State) (pieces : List RanPiece) (before : List ℕ) (k ticks : ℕ) → AreRanBefore s pieces before
    → length before ≡ k → ((p : RanPiece) → slice_get pieces k ≡ Some p → ticks ≡ ticks_run s p.vcpu 0 p.from)
    → AreRanBefore s pieces (before ++ ticks ∷ [])
sums_more s pieces before k ticks ran size here j n p at is =
    let lt = slice_get_within (before ++ ticks ∷ []) j n is in
    let long = length-append before (ticks ∷ []) in
    let read = get_or_from_slice_get (before ++ ticks ∷ []) j n 0 is in
    elim (cases_lt j k) [
      | inl earlier ↦
          let old = get_or-append before (ticks ∷ []) 0 j (omega arith) in
          let there : slice_get before j ≡ Some n =
          slice_get-get_or before j 0 (omega arith) ∙ ap Some (sym old ∙ read) in
          ran j n p at there
      | inr last ↦
          let place : j ≡ length before = omega arith in
          let number : j ≡ k = omega arith in
          let new = get_or-append_seam before ticks [] 0 in
          let same : n ≡ ticks = sym read ∙ ap (λ (i : ℕ). get_or (before ++ ticks ∷ []) i 0) place ∙ new in
          same ∙ here p (rw (← number) at)
    ]
