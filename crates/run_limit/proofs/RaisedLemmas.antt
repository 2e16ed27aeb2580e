-- A number that each stint of a core raises: the rounds' shares of the bound, the ends of spans that were
-- reached in the round, and the whole lags and quanta in it.
use Rattle.std.proofs.Common.{◌≡◌, ℕ, suc, ◌+◌, ◌-◌, ◌*◌, ◌/◌, ◌%◌, ◌<◌, ◌≤◌, ◌⊎◌, inl, inr, min, cond, Bool, true, false, List, [], ◌∷◌, length, Option, Some, None, refl, ap, subst, arith}
use Rattle.std.specs.Prelude.{slice_get}
use Rattle.std.proofs.Math.Nat.{add-div_right, div-mul-le_self, le-div_iff_mul-le, mul-le-mul_right, suc-mul, zero-div}
use Rattle.std.proofs.lemmas.Bool.{cases_eq, cases_lt}
use Rattle.tab_core.specs.Timelines.{AreContiguous}
use Rattle.tab_core.specs.declared.TheConstants.{ROUND}
use Rattle.tab_core.specs.declared.stint.Stint.{Stint}
use Rattle.table_form.proofs.SpotLemmas.{one_end}
use Rattle.table_form.specs.Running.Choice.{IsDispatch, is_shared}
use Rattle.table_form.specs.Running.Courses.{CourseView, IsCourse, plan_after}
use Rattle.table_form.specs.Tables.Spots.{HasSpans, IsSpanEnd}
use Rattle.run_limit.specs.StintBounds.{stints_of_round}
use Rattle.run_limit.proofs.EndLemmas.{reached, reached_more, reached_most, reached_one}
use Rattle.run_limit.proofs.SpanLemmas.{in_spans, none_reached}

-- a quotient grows with its dividend
div_more : (k p q : ℕ) → 1 ≤ k → p ≤ q → p / k ≤ q / k
div_more k p q some le =
    let low = div-mul-le_self p k in
    (le-div_iff_mul-le {k = k} {x = p / k} {y = q} (omega arith)).1 (omega (arith, low))

-- the three ways in which a stint ends: with its span, after the lag, after the quantum
ends_by : (b : Bool) (f e span lag quantum : ℕ)
    → e ≡ cond b (min (min (f - f % ROUND + span) (f + lag)) (f + quantum))
    (min (f - f % ROUND + span) (f + lag))
    → f % ROUND < span → 1 ≤ lag → 1 ≤ quantum
    → (f < e) × ((f % ROUND + (e - f) ≡ span) ⊎ ((e ≡ f + lag) ⊎ (e ≡ f + quantum)))
ends_by true f e span lag quantum is after l q = (
  omega arith,
  elim (cases_eq e (f - f % ROUND + span)) [
    | inl at_span ↦ inl (omega arith)
    | inr other ↦ elim (cases_eq e (f + lag)) [
      | inl at_lag ↦ inr (inl at_lag)
      | inr last ↦ inr (inr (omega arith))
    ]
  ],
)
ends_by false f e span lag quantum is after l q = (
  omega arith,
  elim (cases_eq e (f - f % ROUND + span)) [
    | inl at_span ↦ inl (omega arith)
    | inr other ↦ inr (inl (omega arith))
  ],
)

-- the ends of the spans of core c in a round of this count, and none where it has no count: they are few,
-- none is at the round's begin, and each place of the round is in a span that ends at one of them
pub record EndsBy (course : CourseView) (count : Option ℕ) (c most : ℕ) : Type 0 where
  pub ends : List ℕ
  pub few : length ends ≤ most
  pub start : reached ends 0 ≡ 0
  pub stand : (d place : ℕ) → count ≡ Some d → place < ROUND
      → (k : ℕ) × (e : ℕ) × (slice_get ends k ≡ Some e) × IsSpanEnd (plan_after course d) c place e

-- as the row's spans give them
pub ends_by_count : (course : CourseView) (count : Option ℕ) (c most : ℕ)
    → ((d : ℕ) → count ≡ Some d → (n : ℕ) × HasSpans (plan_after course d) c ROUND n × (n ≤ most))
    → EndsBy course count c most
ends_by_count course None c most each = record {
  ends = [];
  few = omega arith;
  start = refl;
  stand = λ d place is lt. absurd cc;
}
ends_by_count course (Some n) c most each =
    let found = each n refl in
    let spans : HasSpans (plan_after course n) c ROUND found.0 = found.1 in
    record {
      ends = spans.ends;
      few = omega (arith, spans.count_is, found.2);
      start = none_reached (plan_after course n) c 0 spans.ends ROUND spans.spans;
      stand = λ d place is lt.
          let same : n ≡ d = cc in
          subst (λ (m : ℕ). (k : ℕ) × (x : ℕ) × (slice_get spans.ends k ≡ Some x)
          × IsSpanEnd (plan_after course m) c place x)
          same (in_spans (plan_after course n) c 0 spans.ends ROUND place spans.spans (omega arith) lt);
    }

module _ (course : CourseView) (decided : List ℕ) (c most : ℕ) (ok : IsCourse course)
    (e : (r : ℕ) → EndsBy course (slice_get decided r) c most) where
  -- what a round's stints have raised the number by, up to a place
  within_round : ℕ → ℕ → ℕ
  within_round r p = reached (e r).ends p + p / course.lag + p / course.quantum

  -- the number at a tick
  pub raised : ℕ → ℕ
  raised x = x / ROUND * stints_of_round course most + within_round (x / ROUND) (x % ROUND)

  -- a round raises it by its share at most
  at_most_share : (r p : ℕ) → p ≤ ROUND → within_round r p ≤ stints_of_round course most
  unfolding within_round
  at_most_share r p le =
      omega (
        arith,
        reached_most (e r).ends p,
        (e r).few,
        div_more course.lag p ROUND ok.form.outline.some_lag le,
        div_more course.quantum p ROUND ok.form.outline.some_quantum le,
      )

  -- a round begins with nothing raised
  at_begin : (r : ℕ) → within_round r 0 ≡ 0
  unfolding within_round
  at_begin r = omega (arith, (e r).start, zero-div course.lag, zero-div course.quantum)

  -- the end of a span raises it
  up_span : (r p q : ℕ) → p ≤ q → reached (e r).ends p + 1 ≤ reached (e r).ends q
      → within_round r p + 1 ≤ within_round r q
  unfolding within_round
  up_span r p q le more =
      omega (
        arith,
        more,
        div_more course.lag p q ok.form.outline.some_lag le,
        div_more course.quantum p q ok.form.outline.some_quantum le,
      )

  -- a lag raises it
  up_lag : (r p q : ℕ) → q ≡ p + course.lag → within_round r p + 1 ≤ within_round r q
  unfolding within_round
  up_lag r p q is =
      let next : q / course.lag ≡ p / course.lag + 1 = rw is (add-div_right p ok.form.outline.some_lag) in
      omega (
        arith,
        next,
        reached_more (e r).ends p q (omega (arith, is)),
        div_more course.quantum p q ok.form.outline.some_quantum (omega (arith, is)),
      )

  -- a quantum raises it
  up_quantum : (r p q : ℕ) → q ≡ p + course.quantum → within_round r p + 1 ≤ within_round r q
  unfolding within_round
  up_quantum r p q is =
      let next : q / course.quantum ≡ p / course.quantum + 1 =
      rw is (add-div_right p ok.form.outline.some_quantum) in
      omega (
        arith,
        next,
        reached_more (e r).ends p q (omega (arith, is)),
        div_more course.lag p q ok.form.outline.some_lag (omega (arith, is)),
      )

  -- each stint raises the number, within its round
  up_stint : (earlier : List Stint) (s : Stint) → IsDispatch course c earlier s
      → slice_get decided (s.from / ROUND) ≡ Some s.used
      → within_round (s.from / ROUND) (s.from % ROUND) + 1
      ≤ within_round (s.from / ROUND) (s.from % ROUND + (s.end - s.from))
  up_stint earlier s f used =
      let r = s.from / ROUND in
      let p = s.from % ROUND in
      let ways = ends_by (is_shared course c s) s.from s.end f.span_end course.lag course.quantum f.end
      f.span.after ok.form.outline.some_lag ok.form.outline.some_quantum in
      elim ways.1 [
        | inl at_span ↦ (let found = (e r).stand s.used p used (omega arith) in
            let one : found.1 ≡ f.span_end = one_end (plan_after course s.used) c p found.1 f.span_end
            found.3 f.span in
            let after = f.span.after in
            up_span r p (p + (s.end - s.from)) (omega arith)
            (reached_one (e r).ends found.0 found.1 p (p + (s.end - s.from)) found.2
            (omega (arith, one, after)) (omega (arith, one, at_span))))
        | inr later ↦ elim later [
          | inl at_lag ↦ up_lag r p (p + (s.end - s.from)) (omega (arith, at_lag))
          | inr at_quantum ↦ up_quantum r p (p + (s.end - s.from)) (omega (arith, at_quantum))
        ]
      ]

  -- the number at a place of a round
  raised_at : (x r p : ℕ) → x / ROUND ≡ r → x % ROUND ≡ p
      → raised x ≡ r * stints_of_round course most + within_round r p
  unfolding raised
  raised_at x r p round place = rw (round, place) refl

  -- the number at the begin of a round
  raised_begin : (x r : ℕ) → x ≡ r * ROUND → raised x ≡ r * stints_of_round course most
  raised_begin x r is =
      (let at = raised_at x r 0 (omega (arith, is)) (omega (arith, is)) in omega (arith, at, at_begin r))

  -- each stint raises the number, also where it ends its round
  pub raises : (earlier : List Stint) (s : Stint) → IsDispatch course c earlier s
      → slice_get decided (s.from / ROUND) ≡ Some s.used → s.from < s.end
      → s.end ≤ (s.from / ROUND + 1) * ROUND → raised s.from + 1 ≤ raised s.end
  raises earlier s f used some inside =
      let r = s.from / ROUND in
      let p = s.from % ROUND in
      let up = up_stint earlier s f used in
      let from = raised_at s.from r p refl refl in
      elim (cases_lt s.end ((r + 1) * ROUND)) [
        | inl within ↦ (let to = raised_at s.end r (p + (s.end - s.from)) (omega arith) (omega arith) in
            omega (arith, up, from, to))
        | inr whole ↦ (let to = raised_begin s.end (suc r) (omega arith) in
            let share = at_most_share r (p + (s.end - s.from)) (omega arith) in
            omega (arith, up, from, to, share, suc-mul r (stints_of_round course most)))
      ]

  -- contiguous stints raise the number by their count
  pub counts : (from to : ℕ) (ss : List Stint) → AreContiguous from ss to
      → ((k : ℕ) (s : Stint) → slice_get ss k ≡ Some s → raised s.from + 1 ≤ raised s.end)
      → raised from + length ss ≤ raised to
  counts from to [] chain each = (let same = ap raised chain in omega (arith, same))
  counts from to (s ∷ ss) chain each =
      let same = ap raised chain.0 in
      let first = each 0 s refl in
      let rest = counts s.end to ss chain.1 (λ k t at. each (suc k) t at) in
      omega (arith, same, first, rest)

  -- in a run of so many rounds it is at most that many shares
  pub raised_most : (rounds x : ℕ) → x ≤ rounds * ROUND → raised x ≤ rounds * stints_of_round course most
  raised_most rounds x le = elim (cases_lt x (rounds * ROUND)) [
    | inl inside ↦ (let r = x / ROUND in
        let at = raised_at x r (x % ROUND) refl refl in
        let share = at_most_share r (x % ROUND) (omega arith) in
        let more : suc r * stints_of_round course most ≤ rounds * stints_of_round course most =
        mul-le-mul_right (stints_of_round course most) (omega arith) in
        omega (arith, at, share, more, suc-mul r (stints_of_round course most)))
    | inr whole ↦ (let at = raised_begin x rounds (omega arith) in omega (arith, at))
  ]
