-- A core's next stint is determined: the end of its span, its pick, and so all of it.
use Rattle.std.proofs.Common.{◌≡◌, ℕ, ◌%◌, inl, inr, Bool, true, false, List, Option, Some, None, refl, ap, sym, ◌∙◌, arith}
use Rattle.std.specs.Prelude.{slice_get}
use Rattle.tab_core.specs.declared.TheConstants.{ROUND}
use Rattle.table_form.proofs.SpotLemmas.{one_end}
use Rattle.table_form.specs.Tables.Serves.{owner_at}
use Rattle.tab_core.specs.declared.stint.Stint.{Stint}
use Rattle.tab_core.specs.Least.{IsLeast}
use Rattle.tab_core.specs.declared.entry.Entry.{Entry}
use Rattle.tab_core.proofs.Lists.{same}
use Rattle.tab_core.proofs.Alike.{same_stint}
use Rattle.table_form.specs.Tables.Plans.{PlanView}
use Rattle.table_form.specs.Tables.Spots.{IsSpanEnd}
use Rattle.table_form.specs.Running.Courses.{CourseView, plan_after, runnable_after}
use Rattle.table_form.specs.Running.State.{CoreState}
use Rattle.table_form.specs.Running.Choice.{IsDispatch, IsEligible, IsPick, IsChoice, owner_runs, last_shared, after_last}
use Rattle.table_form.specs.Running.Stints.{IsNextStint}
use Rattle.table_form.specs.Running.Phases.{round_of}

-- the least number from one on that passes a test is one
one_least : (P Q : ℕ → Type 0) (above v w : ℕ) → ((u : ℕ) → P u → Q u) → ((u : ℕ) → Q u → P u)
    → IsLeast P above v → IsLeast Q above w → v ≡ w
one_least P Q above v w to back a b =
    (let le = a.first w (back w b.holds) b.high in let le' = b.first v (to v a.holds) a.high in omega arith)

-- a pick is one
one_pick : (P Q : ℕ → Type 0) (last x y : Option ℕ) → ((u : ℕ) → P u → Q u) → ((u : ℕ) → Q u → P u)
    → IsPick P last x → IsPick Q last y → x ≡ y
one_pick P Q last None None to back a b = refl
one_pick P Q last None (Some w) to back a b =
    absurd (elim b [ inl l ↦ a w (back w l.holds) | inr r ↦ a w (back w r.1.holds) ])
one_pick P Q last (Some v) None to back a b =
    absurd (elim a [ inl l ↦ b v (to v l.holds) | inr r ↦ b v (to v r.1.holds) ])
one_pick P Q last (Some v) (Some w) to back a b = elim a [
  | inl l ↦ elim b [
    | inl m ↦ ap Some (one_least P Q (after_last last) v w to back l m)
    | inr n ↦
        absurd (n.0 v (to v l.holds) l.high)
  ]
  | inr r ↦ elim b [
    | inl m ↦ absurd (r.0 w (back w m.holds) m.high)
    | inr n ↦
        ap Some (one_least P Q 0 v w to back r.1 n.1)
  ]
]

-- a choice is one, since the test of the owner decides who is asked
one_choice : (plan : PlanView) (c place : ℕ) (runnable : List Bool) (last x y : Option ℕ)
    → IsChoice plan c place runnable last x → IsChoice plan c place runnable last y → x ≡ y
one_choice plan c place runnable last x y f g = go (owner_runs (owner_at plan.rows c place) runnable) refl
  where
    go : (r : Bool) → owner_runs (owner_at plan.rows c place) runnable ≡ r → x ≡ y
    go true is = f.slot is ∙ sym (g.slot is)
    go false is = one_pick (IsEligible plan c place runnable)
        (IsEligible plan c place runnable) last x y (λ u e. e) (λ u e. e) (f.shared is)
        (g.shared is)

-- counts and a begin make one stint
pub one_follows : (course : CourseView) (c : ℕ) (earlier : List Stint) (s t : Stint)
    → s.from ≡ t.from → s.seen ≡ t.seen → s.used ≡ t.used → IsDispatch course c earlier s
    → IsDispatch course c earlier t → (s.ran ≡ t.ran) × (s.end ≡ t.end)
one_follows course c earlier s t from seen used f g =
    let plan : PlanView = plan_after course t.used in
    let place = t.from % ROUND in
    let choice : IsChoice plan c place (runnable_after course t.seen)
    (last_shared course c earlier) s.ran = rw (← used, ← seen, ← from) f.choice in
    let ran : s.ran ≡ t.ran = one_choice plan c place (runnable_after course t.seen)
    (last_shared course c earlier) s.ran t.ran choice g.choice in
    let span : IsSpanEnd plan c place f.span_end = rw (← used, ← from) f.span in
    let end : f.span_end ≡ g.span_end = one_end plan c place f.span_end g.span_end span g.span in
    (ran, f.end ∙ (rw (end, from, used, ran) refl ∙ sym g.end))

-- the law: a core has one next stint
pub one_next : (course : CourseView) (rounds c : ℕ) (core : CoreState) (s t : Stint)
    → IsNextStint course rounds c core s → IsNextStint course rounds c core t → s ≡ t
one_next course rounds c core s t a b =
    let seen : s.seen ≡ t.seen = same core.seen s.seen t.seen a.has_seen b.has_seen in
    let entry : a.entry ≡ b.entry =
    same (slice_get core.entries (round_of core)) a.entry b.entry a.entered b.entered in
    let used : s.used ≡ t.used = a.uses ∙ (ap (λ (e : Entry). e.used) entry ∙ sym b.uses) in
    let from : s.from ≡ t.from = a.from ∙ sym b.from in
    let rest = one_follows course c core.stints s t from seen used a.follows b.follows in
    same_stint s t from rest.1 seen used rest.0
