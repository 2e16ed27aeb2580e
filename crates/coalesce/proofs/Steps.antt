-- Each step of the pass: the next maximal segment comes to those before it.
use Rattle.std.proofs.Common.{◌≡◌, ◌≢◌, ℕ, suc, ◌+◌, ◌-◌, ◌<◌, ◌≤◌, List, [], ◌∷◌, ◌++◌, length, map, drop, get_or, Option, refl, ap, subst, sym, ◌∙◌, arith, add-one}
use Rattle.std.proofs.Math.Seq.{drop-cons}
use Rattle.std.proofs.lemmas.List.{drop_all}
use Rattle.tab_core.specs.declared.TheConstants.{ROUND}
use Rattle.tab_core.specs.declared.piece.Piece.{Piece}
use Rattle.table_form.specs.Tables.Segments.{put_before, AreMaximal, SegmentView, segment_view}
use Rattle.table_form.specs.declared.segment.Segment.{Segment}
use Rattle.table_form.proofs.AppendingLemmas.{before_last_two, before_nothing, before_one_more, maximal_append}
use Rattle.table_form.proofs.SegmentLemmas.{front_stays, maximal_end}
use Rattle.coalesce.specs.Joining.{CanSwap, SwapsTo, swapped}
use Rattle.coalesce.specs.Joining.SwapsTo.{Again, Done}
use Rattle.coalesce.specs.Inside.Passing.{CanSwapLast, EndBelow, IsPassed, IsPieceTableOf, StandInRow}
use Rattle.coalesce.proofs.Ends.{ends_before}
use Rattle.coalesce.proofs.Quiet.{append_quiet, none_quiet, two_grow}
use Rattle.coalesce.proofs.Swapping.{parts_of}

-- the last two after a swap with the next
abbrev pub first_after : SegmentView → SegmentView → SegmentView → SegmentView
first_after u t s = record { owner = u.owner; end = u.end + (s.end - t.end) }

-- the second of the last two after a swap, which comes to the end
abbrev pub second_after : SegmentView → SegmentView → SegmentView
second_after t s = record { owner = t.owner; end = s.end }

-- a swap keeps the two parts of the row
pub stands_after_swap : (xs : List SegmentView) (u t s : SegmentView) (rest : List SegmentView)
    → StandInRow (xs ++ u ∷ t ∷ [])
    (s ∷ rest)
    → StandInRow (xs ++ first_after u t s ∷ second_after t s ∷ []) rest
stands_after_swap xs u t s rest stand =
    let parts = parts_of 0 xs u (t ∷ []) stand.reached stand.before in
    let two = parts.second in
    record {
      reached = s.end;
      before = parts.instead (first_after u t s) (second_after t s ∷ []) s.end refl
          (omega (arith, two.0), two.1, (omega (arith, two.2.0, two.2.2, stand.after.0), tt, refl));
      after = stand.after.2;
    }

-- a swap of the two parts is one leftmost swap of the row
pub passed_after_swap : (pieces : List Piece) (sliver : ℕ) (row xs : List SegmentView) (u t s : SegmentView)
    (rest : List SegmentView)
    → StandInRow (xs ++ u ∷ t ∷ []) (s ∷ rest) → CanSwap pieces sliver u t s → IsPassed pieces sliver row
    (xs ++ u ∷ t ∷ []) (s ∷ rest)
    → IsPassed pieces sliver row (xs ++ first_after u t s ∷ second_after t s ∷ []) rest
passed_after_swap pieces sliver row xs u t s rest stand can passed =
    let parts = parts_of 0 xs u (t ∷ []) stand.reached stand.before in
    let two = parts.second in
    let late : t.end < s.end = omega (arith, two.2.2, stand.after.0) in
    let apart : t.owner ≢ s.owner = λ same. two.1 (can.first_owns ∙ sym can.first_again ∙ sym same) in
    let old : put_before (xs ++ u ∷ t ∷ []) (s ∷ rest) ≡ xs ++ u ∷ t ∷ s ∷ rest =
    before_last_two xs u t (s ∷ rest)
    ∙ ap (λ ts. xs ++ u ∷ ts) (front_stays t (s ∷ rest) apart) in
    let new : put_before
    (xs ++ first_after u t s ∷ second_after t s ∷ []) rest ≡ xs ++ swapped u t s rest = before_last_two xs
    (first_after u t s) (second_after t s) rest in
    record {
      quiet = two_grow pieces sliver xs u (first_after u t s) t (second_after t s) refl (omega arith) refl
          (omega (arith, late)) passed.quiet;
      leads = λ end swaps. passed.leads end
          (Again _ xs rest u t s old can passed.quiet (subst (SwapsTo pieces sliver end) new swaps));
    }

-- a segment that is appended keeps what holds of the two parts
pub stands_after_append : (out : List SegmentView) (s : SegmentView) (rest : List SegmentView)
    → StandInRow out (s ∷ rest)
    → StandInRow (put_before out (s ∷ [])) rest
stands_after_append out s rest stand = record {
  reached = s.end;
  before = maximal_append 0 out stand.reached (s ∷ []) s.end stand.before (stand.after.0, tt, refl);
  after = stand.after.2;
}

-- which makes no swap possible before it
pub passed_after_append : (pieces : List Piece) (sliver : ℕ) (row out : List SegmentView) (s : SegmentView)
    (rest : List SegmentView) → StandInRow out (s ∷ rest)
    → (CanSwapLast pieces sliver out s → ⊥) → IsPassed pieces sliver row out (s ∷ rest)
    → IsPassed pieces sliver row
    (put_before out (s ∷ [])) rest
passed_after_append pieces sliver row out s rest stand cannot passed =
    let same : put_before (put_before out (s ∷ [])) rest ≡ put_before out (s ∷ rest) =
    before_one_more out s rest ∙ ap
    (put_before out) (front_stays s rest stand.after.1) in
    record {
      quiet = append_quiet pieces sliver out s passed.quiet
          (λ before x y is can. cannot (record { before = before; x = x; y = y; is = is; can = can }))
          (λ before t is. (let last = ends_before 0 before t [] stand.reached
          (subst (λ ts. AreMaximal 0 ts stand.reached) is stand.before)
          in omega (arith, last.1, stand.after.0)));
      leads = λ end swaps. passed.leads end (subst (SwapsTo pieces sliver end) same swaps);
    }

-- the pass has come to the segment of this index
pub record HasPassed (segments : List Segment) (table : List (Option Piece)) (sliver at : ℕ)
    (out : List SegmentView) : Type 0 where
  pub stands : StandInRow out (map segment_view (drop at segments))
  pub passed : (pieces : List Piece) → IsPieceTableOf pieces table
      → IsPassed pieces sliver (map segment_view segments) out (map segment_view (drop at segments))

-- before the first segment
pub none_passed : (segments : List Segment) (table : List (Option Piece)) (sliver : ℕ)
    → AreMaximal 0 (map segment_view segments) ROUND → HasPassed segments table sliver 0 []
none_passed segments table sliver maximal = record {
  stands = record { reached = 0; before = refl; after = maximal };
  passed = λ pieces is. record { quiet = none_quiet pieces sliver; leads = λ end swaps. swaps };
}

-- the next segment is before the rest, so what is known of both is what `take_next` asks
pub record Comes (segments : List Segment) (table : List (Option Piece)) (sliver at : ℕ)
    (out : List SegmentView) (s : Segment) : Type 0 where
  pub rest : List SegmentView
  pub in_round : s.end ≤ ROUND
  pub stands : StandInRow out (segment_view s ∷ rest)
  pub passed : (pieces : List Piece) → IsPieceTableOf pieces table
      → IsPassed pieces sliver (map segment_view segments) out (segment_view s ∷ rest)
  pub after : (new : List SegmentView) → StandInRow new rest →
      ((pieces : List Piece) → IsPieceTableOf pieces table
      → IsPassed pieces sliver (map segment_view segments) new rest)
      → HasPassed segments table sliver (at + 1) new

-- what is known of the segments is so for each index below the count
pub one_comes : (segments : List Segment) (table : List (Option Piece)) (sliver at : ℕ)
    (out : List SegmentView)
    (s : Segment) → at < length segments → s ≡ get_or segments at s
    → HasPassed segments table sliver at out → Comes segments table sliver at out s
one_comes segments table sliver at out s lt is passed =
    let ss = drop (at + 1) segments in
    let here : map segment_view (drop at segments) ≡ segment_view s ∷ map segment_view ss =
    ap (map segment_view) (drop-cons segments at s lt
    ∙ ap (λ (x : Segment). x ∷ drop (suc at) segments) (sym is)
    ∙ ap (λ n. s ∷ drop n segments) (sym (add-one at))) in
    let stands = subst (StandInRow out) here passed.stands in
    record {
      rest = map segment_view ss;
      in_round = maximal_end s.end (map segment_view ss) ROUND stands.after.2;
      stands = stands;
      passed = λ pieces of. subst (IsPassed pieces sliver (map segment_view segments) out) here
          (passed.passed pieces of);
      after = λ new stands' passed'. record { stands = stands'; passed = passed' };
    }

-- what comes before the next segment ends below its end
pub below_next : (out : List SegmentView) (s : SegmentView) (rest : List SegmentView)
    → StandInRow out (s ∷ rest)
    → EndBelow out s.end
below_next out s rest stand = record {
  reached = stand.reached;
  maximal = stand.before;
  below = stand.after.0;
}

-- after the last segment
pub record Ended (segments : List Segment) (table : List (Option Piece)) (sliver : ℕ)
    (out : List SegmentView) : Type 0 where
  pub maximal : AreMaximal 0 out ROUND
  pub swaps : (pieces : List Piece) → IsPieceTableOf pieces table
      → SwapsTo pieces sliver out (map segment_view segments)

-- what came is then the row that no swap changes
pub all_passed : (segments : List Segment) (table : List (Option Piece)) (sliver at : ℕ)
    (out : List SegmentView)
    → length segments ≤ at → HasPassed segments table sliver at out
    → Ended segments table sliver out
all_passed segments table sliver at out past passed =
    let none : map segment_view (drop at segments) ≡ [] = ap (map segment_view) (drop_all at segments past) in
    let stands = subst (StandInRow out) none passed.stands in
    record {
      maximal = subst (AreMaximal 0 out) stands.after stands.before;
      swaps = λ pieces of. (
          let end = subst (IsPassed pieces sliver (map segment_view segments) out) none
          (passed.passed pieces of) in
          end.leads out (subst (SwapsTo pieces sliver out) (sym (before_nothing out)) (Done end.quiet)));
    }
