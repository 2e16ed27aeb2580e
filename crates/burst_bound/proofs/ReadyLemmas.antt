-- Who stays runnable, counted from the last event down.
use Rattle.std.proofs.Common.{◌≡◌, ℕ, ◌+◌, ◌-◌, ◌<◌, ◌≤◌, inl, inr, ◌⊎◌, Bool, true, false, not, ◌&&◌, List, length, get_or, refl, sym, ap, subst, ◌∙◌, arith}
use Rattle.std.specs.Prelude.{IsTrue, if◌then◌else◌}
use Rattle.std.proofs.Math.ListN.{set}
use Rattle.std.proofs.lemmas.Bool.{cases_Bool, cases_eq, cases_lt, true≢false}
use Rattle.std.proofs.lemmas.List.{get_or-set_other, get_or-set_same}
use Rattle.tab_core.specs.Least.{IsLeast}
use Rattle.tab_core.specs.declared.TheConstants.{MAX_VCPUS}
use Rattle.tab_core.specs.VcpuSets.{IsInBoth, has_vcpu}
use Rattle.table_form.specs.Running.Courses.{CourseView, runnable_after}
use Rattle.burst_bound.specs.Inside.Bounding.{IsReadyFrom}

-- who is left wasn't taken away
stays : (s r g : Bool) → g ≡ (s && not r) → (s && not g) ≡ true → (s ≡ true) × (r ≡ true)
stays true true g is left = (refl, refl)
stays true false g is left = absurd (true≢false (sym left ∙ ap not is))
stays false r g is left = absurd (true≢false (sym left))

-- who isn't left was taken away, or wasn't there
leaves : (s r g : Bool) → g ≡ (s && not r) → (s && not g) ≡ false
    → ((g ≡ true) × (s ≡ true) × (r ≡ false)) ⊎ ((g ≡ false) × (s ≡ false))
leaves true true g is left = absurd (true≢false (sym (ap not is) ∙ left))
leaves true false g is left = inl (is, refl, refl)
leaves false r g is left = inr (is, refl)

-- the members of the set are runnable after each count from this one on
abbrev pub AreSteady : CourseView → ℕ → List Bool → Type 0
AreSteady course first steady = (v n : ℕ) → has_vcpu steady v ≡ true → first ≤ n → n ≤ length course.ticks
    → IsTrue (has_vcpu (runnable_after course n) v)

-- who isn't runnable after the last count never stays so
pub ready_behind : (course : CourseView) (v : ℕ)
    → has_vcpu (runnable_after course (length course.ticks)) v ≡ false
    → IsReadyFrom course v (length course.ticks + 1)
ready_behind course v off = record {
  within = omega arith;
  ready = λ n low high. absurd (omega arith);
  blocked = λ n is yes.
      (let last : n ≡ length course.ticks = omega arith in
      let on = subst (λ (k : ℕ). IsTrue (has_vcpu (runnable_after course k) v)) last yes in
      true≢false (sym on ∙ off));
}

-- who is left at the first count always is
pub ready_always : (course : CourseView) (steady : List Bool) (v first old new : ℕ) → first ≡ 0
    → AreSteady course first steady → (has_vcpu steady v ≡ false → IsReadyFrom course v old)
    → new ≡ (if has_vcpu steady v then 0 else old) → IsReadyFrom course v new
ready_always course steady v first old new none are other is = elim (cases_Bool (has_vcpu steady v)) [
  | inl on ↦
      (let e : new ≡ 0 = is ∙ ap (λ (b : Bool). if b then 0 else old) on in
      subst (λ (k : ℕ). IsReadyFrom course v k) (sym e) (record {
        within = omega arith;
        ready = λ n low high. are v n on (omega arith) high;
        blocked = λ n is _. absurd (omega arith);
      }))
  | inr off ↦
      (let e : new ≡ old = is ∙ ap (λ (b : Bool). if b then 0 else old) off in
      subst (λ (k : ℕ). IsReadyFrom course v k) (sym e) (other off))
]

module _ (course : CourseView) (first : ℕ) (steady gone next : List Bool) (some : 0 < first)
    (within : first ≤ length course.ticks) (are : AreSteady course first steady)
    (gone_is : (v : ℕ) → has_vcpu gone v
    ≡ (has_vcpu steady v && not (has_vcpu (runnable_after course (first - 1)) v)))
    (next_is : (v : ℕ) → has_vcpu next v ≡ (has_vcpu steady v && not (has_vcpu gone v))) where
  -- who is left is runnable after the count before too
  pub steady_before : AreSteady course (first - 1) next
  steady_before v n on low high =
      let both = stays (has_vcpu steady v) (has_vcpu (runnable_after course (first - 1)) v) (has_vcpu gone v) (gone_is v)
      (sym (next_is v) ∙ on) in
      elim (cases_lt n first) [
        | inl lt ↦
            (let e : first - 1 ≡ n = omega arith in
            subst (λ (k : ℕ). IsTrue (has_vcpu (runnable_after course k) v)) e both.1)
        | inr le ↦ are v n both.0 le high
      ]

  -- who goes is runnable from this count on, and no earlier
  pub ready_before : (v old new : ℕ) → (has_vcpu steady v ≡ false → IsReadyFrom course v old)
      → new ≡ (if has_vcpu gone v then first else old) → has_vcpu next v ≡ false → IsReadyFrom course v new
  ready_before v old new other is off =
      elim (leaves (has_vcpu steady v) (has_vcpu (runnable_after course (first - 1)) v) (has_vcpu gone v) (gone_is v)
      (sym (next_is v) ∙ off)) [
        | inl went ↦
            (let e : new ≡ first = is ∙ ap (λ (b : Bool). if b then first else old) went.0 in
            subst (λ (k : ℕ). IsReadyFrom course v k) (sym e) (record {
              within = omega arith;
              ready = λ n low high. are v n went.1 low high;
              blocked = λ n is yes.
                  (let e : n ≡ first - 1 = omega arith in
                  let on = subst (λ (k : ℕ). IsTrue (has_vcpu (runnable_after course k) v)) e yes in
                  true≢false (sym on ∙ went.2));
            }))
        | inr stayed ↦
            (let e : new ≡ old = is ∙ ap (λ (b : Bool). if b then first else old) stayed.0 in
            subst (λ (k : ℕ). IsReadyFrom course v k) (sym e) (other stayed.1))
      ]

-- the members below a number have the count; where none is left, all have
pub given_none : (members : List Bool) (count from v : ℕ) (old before : List ℕ)
    → ((w : ℕ) → w < from → get_or before w 0 ≡ (if has_vcpu members w then count else get_or old w 0))
    → ((w : ℕ) → from ≤ w → get_or before w 0 ≡ get_or old w 0)
    → ((w : ℕ) → IsInBoth members members w → from ≤ w → w ≤ v → ⊥)
    → get_or before v 0 ≡ (if has_vcpu members v then count else get_or old v 0)
given_none members count from v old before given rest none = elim (cases_lt v from) [
  | inl lt ↦ given v lt
  | inr le ↦
      elim (cases_Bool (has_vcpu members v)) [
        | inl on ↦ absurd (none v (record { one = on; other = on }) le (omega arith))
        | inr off ↦ rest v le ∙ sym (ap (λ (b : Bool). if b then count else get_or old v 0) off)
      ]
]

-- the next member has it too
pub given_more : (members : List Bool) (count from place v : ℕ) (old before : List ℕ)
    → length before ≡ MAX_VCPUS → place < MAX_VCPUS → IsLeast (IsInBoth members members) from place
    → ((w : ℕ) → w < from → get_or before w 0 ≡ (if has_vcpu members w then count else get_or old w 0))
    → ((w : ℕ) → from ≤ w → get_or before w 0 ≡ get_or old w 0)
    → v < place + 1
    → get_or (set before place count) v 0 ≡ (if has_vcpu members v then count else get_or old v 0)
given_more members count from place v old before size small least given rest lt = elim (cases_eq v place) [
  | inl here ↦
      (let on = least.holds.one in
      let same = get_or-set_same before place count 0 (omega arith) in
      subst (λ (w : ℕ). get_or (set before place count) w 0 ≡ (if has_vcpu members w then count else get_or old w 0))
      (sym here) (same ∙ sym (ap (λ (b : Bool). if b then count else get_or old place 0) on)))
  | inr other ↦
      (let same = get_or-set_other before place v count 0 other in
      same ∙ given_none members count from v old before given rest (λ w both low high.
      (let le = least.first w both low in absurd (omega arith))))
]
