-- The spans of a core's row by the place that they hold, and how many there are.
use Rattle.std.proofs.Common.{◌≡◌, ℕ, suc, ◌<◌, ◌≤◌, inl, inr, List, [], ◌∷◌, length, Some, refl, ap, sym, subst, ◌∙◌, arith}
use Rattle.std.specs.Prelude.{slice_get}
use Rattle.std.proofs.lemmas.Bool.{cases_lt}
use Rattle.table_form.specs.Tables.Plans.{PlanView}
use Rattle.table_form.specs.Tables.Spots.{AreSpans, HasSpans, IsSpanEnd, SameSpot}
use Rattle.table_form.proofs.SpotLemmas.{one_end, spot_through}
use Rattle.run_limit.proofs.EndLemmas.{below, reached, reached_more}

-- a later place of a span has its end
span_later : (plan : PlanView) (c x y e : ℕ) → IsSpanEnd plan c x e → x ≤ y → y < e → IsSpanEnd plan c y e
span_later plan c x y e a low lt =
    let same = a.alike y low lt in
    let back : SameSpot plan c y x = record { owner = sym same.owner; away = same.back; back = same.away } in
    record {
      after = lt;
      within = a.within;
      alike = λ z from to. spot_through plan c y x z back (a.alike z (omega arith) to);
      maximal = elim a.maximal [
        | inl whole ↦ inl whole
        | inr unlike ↦ inr (λ alike. unlike (spot_through plan c x y e same alike))
      ];
    }

-- the end of the span that holds a place is one of the row's ends
pub in_spans : (plan : PlanView) (c from : ℕ) (ends : List ℕ) (to place : ℕ) → AreSpans plan c from ends to
    → from ≤ place → place < to
    → (k : ℕ) × (e : ℕ) × (slice_get ends k ≡ Some e) × IsSpanEnd plan c place e
in_spans plan c from [] to place are low lt = absurd (omega (arith, are))
in_spans plan c from (e ∷ es) to place are low lt = elim (cases_lt place e) [
  | inl here ↦ (0, e, refl, span_later plan c from place e are.0 low here)
  | inr there ↦ (let rest = in_spans plan c e es to place are.1 there lt in
      (suc rest.0, rest.1, rest.2, rest.3))
]

-- no end is reached where the row begins
pub none_reached : (plan : PlanView) (c from : ℕ) (es : List ℕ) (to : ℕ) → AreSpans plan c from es to
    → reached es from ≡ 0
none_reached plan c from [] to are = refl
none_reached plan c from (e ∷ es) to are =
    let after = are.0.after in
    omega (arith, below e from after, reached_more es from e (omega arith), none_reached plan c e es to are.1)

-- spans go on from where they begin
spans_rise : (plan : PlanView) (c from : ℕ) (ends : List ℕ) (to : ℕ)
    → AreSpans plan c from ends to → from ≤ to
spans_rise plan c from [] to are = omega (arith, are)
spans_rise plan c from (e ∷ es) to are =
    (let after = are.0.after in let rest = spans_rise plan c e es to are.1 in omega arith)

-- for `one_count`: the spans from one place to another are as many, however they are listed
one_length : (plan : PlanView) (c from : ℕ) (ends others : List ℕ) (to : ℕ) → AreSpans plan c from ends to
    → AreSpans plan c from others to → length ends ≡ length others
one_length plan c from [] [] to a b = refl
one_length plan c from [] (e ∷ es) to a b =
    absurd (let after = b.0.after in let rest = spans_rise plan c e es to b.1 in
    omega (arith, a, after, rest))
one_length plan c from (e ∷ es) [] to a b =
    absurd (let after = a.0.after in let rest = spans_rise plan c e es to a.1 in
    omega (arith, b, after, rest))
one_length plan c from (e ∷ es) (f ∷ fs) to a b =
    let same : f ≡ e = one_end plan c from f e b.0 a.0 in
    ap suc (one_length plan c e es fs to a.1 (subst (λ (x : ℕ). AreSpans plan c x fs to) same b.1))

-- a row has one number of spans
pub one_count : (plan : PlanView) (c to m n : ℕ) → HasSpans plan c to m → HasSpans plan c to n → m ≡ n
one_count plan c to m n a b =
    sym a.count_is ∙ (one_length plan c 0 a.ends b.ends to a.spans b.spans ∙ b.count_is)
