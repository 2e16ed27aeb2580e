-- A step has one answer, and one state after it.
use Rattle.std.proofs.Common.{◌≡◌, ℕ, ◌<◌, inl, inr, List, Option, Some, refl, ap, sym, subst, ◌∙◌, arith}
use Rattle.std.specs.Prelude.{slice_get}
use Rattle.std.proofs.lemmas.Bool.{cases_lt}
use Rattle.std.proofs.lemmas.Option.{slice_get_within}
use Rattle.tab_core.specs.declared.stint.Stint.{Stint}
use Rattle.table_form.specs.Running.Courses.{CourseView}
use Rattle.script_doc.specs.declared.step.Step.{Step}
use Rattle.step_machine.specs.declared.answer.Phase.{Phase}
use Rattle.step_machine.specs.declared.answer.Answer.{Answer}
use Rattle.table_form.specs.Running.State.{State, CoreState}
use Rattle.step_machine.specs.Answers.{AnswersStep, shown}
use Rattle.table_form.specs.Running.Waiting.{AreWithinLag, IsFirstBehind}
use Rattle.table_form.specs.Running.Stints.{IsNextStint}
use Rattle.table_form.specs.Running.Entering.{Decides, EntersFirst, EntersAfter}
use Rattle.table_form.specs.Running.Phases.{phase_of, round_of, to_decide}
use Rattle.script_doc.specs.declared.step.Step.TheVariants as steps
use Rattle.tab_core.specs.declared.actor.Actor.TheVariants.{Core, Controller}
use Rattle.tab_core.proofs.Lists.{same}
use Rattle.step_machine.specs.declared.answer.Answer.TheVariants.{Done, Behind, NotNow}
use Rattle.step_machine.proofs.StintLemmas.{one_next}

-- a clock is not both near enough and too slow
low_or_near : (lag : ℕ) (cores : List CoreState) (skip : Option ℕ) (tick d clock : ℕ)
    → AreWithinLag lag cores skip tick → IsFirstBehind lag cores skip tick d clock → ⊥
low_or_near lag cores skip tick d clock near low =
    (let le = near d low.other low.at low.not_skipped in let lt = low.low in absurd (omega arith))

-- for `one_low`: no core below the first one that is too slow is too slow
not_lower : (lag : ℕ) (cores : List CoreState) (skip : Option ℕ) (tick d clock e clock' : ℕ)
    → IsFirstBehind lag cores skip tick d clock → IsFirstBehind lag cores skip tick e clock' → d < e → ⊥
not_lower lag cores skip tick d clock e clock' a b lt =
    (let le = b.lowest d a.other lt a.at a.not_skipped in let low = a.low in absurd (omega arith))

-- the first core that is too slow is one, and so is its clock
one_low : (lag : ℕ) (cores : List CoreState) (skip : Option ℕ) (tick d clock e clock' : ℕ)
    → IsFirstBehind lag cores skip tick d clock → IsFirstBehind lag cores skip tick e clock'
    → (d ≡ e) × (clock ≡ clock')
one_low lag cores skip tick d clock e clock' a b =
    let is : d ≡ e = elim (cases_lt d e) [
      | inl lt ↦ absurd (not_lower lag cores skip tick d clock e clock' a b lt)
      | inr le ↦ elim (cases_lt e d) [
        | inl lt ↦
            absurd (not_lower lag cores skip tick e clock' d clock b a lt)
        | inr le' ↦ omega arith
      ]
    ] in
    let core : a.other ≡ b.other =
    same (slice_get cores e) a.other b.other
    (subst (λ (i : ℕ). slice_get cores i ≡ Some a.other) is a.at) b.at in
    (is, a.clock_is ∙ (ap (λ (x : CoreState). x.clock) core ∙ sym b.clock_is))

-- equal parts make equal answers
behind_same : (d e t u : ℕ) → d ≡ e → t ≡ u → Behind (Core d) t ≡ Behind (Core e) u
behind_same d e t u p q = cc

-- equal phases make equal answers
not_now_same : (f g : Phase) → f ≡ g → NotNow f ≡ NotNow g
not_now_same f g p = cc

-- Post has one answer
post_one : (course : CourseView) (rounds : ℕ) (s : State) (a b : Answer) (new new' : State)
    → AnswersStep course rounds s steps.Post a new → AnswersStep course rounds s steps.Post b new'
    → (a ≡ b) × (new ≡ new')
post_one course rounds s Done Done n m p q = (refl, p.becomes ∙ sym q.becomes)
post_one course rounds s Done (Behind (Core d) t) n m p q = absurd (low_or_near _ _ _ _ _ _ p.near q.0.low)
post_one course rounds s Done (Behind Controller t) n m p q = absurd q.0
post_one course rounds s Done (NotNow f) n m p q = absurd (let due = p.due in let all = q.0.0 in omega arith)
post_one course rounds s (Behind (Core d) t) Done n m p q = absurd (low_or_near _ _ _ _ _ _ q.near p.0.low)
post_one course rounds s (Behind (Core d) t) (Behind (Core e) u) n m p q =
    (let is = one_low _ _ _ _ _ _ _ _ p.0.low q.0.low in
    (behind_same d e t u is.0 is.1, p.1 ∙ sym q.1))
post_one course rounds s (Behind (Core d) t) (Behind Controller u) n m p q = absurd q.0
post_one course rounds s (Behind (Core d) t) (NotNow f) n m p q =
    absurd (let due = p.0.due in let all = q.0.0 in omega arith)
post_one course rounds s (Behind Controller t) b n m p q = absurd p.0
post_one course rounds s (NotNow f) Done n m p q = absurd (let due = q.due in let all = p.0.0 in omega arith)
post_one course rounds s (NotNow f) (Behind (Core d) t) n m p q =
    absurd (let due = q.0.due in let all = p.0.0 in omega arith)
post_one course rounds s (NotNow f) (Behind Controller t) n m p q = absurd q.0
post_one course rounds s (NotNow f) (NotNow g) n m p q = (not_now_same f g (p.0.1 ∙ sym q.0.1), p.1 ∙ sym q.1)

-- the phase of the core that both speak of
phases_same : (rounds c : ℕ) (s : State) (x y : CoreState) → slice_get s.cores c ≡ Some x
    → slice_get s.cores c ≡ Some y → phase_of rounds x ≡ phase_of rounds y
phases_same rounds c s x y h g =
    ap (λ (z : CoreState). phase_of rounds z) (same (slice_get s.cores c) x y h g)

-- See has one answer
see_one : (course : CourseView) (rounds c : ℕ) (s : State) (a b : Answer) (new new' : State)
    → AnswersStep course rounds s (steps.See c) a new → AnswersStep course rounds s (steps.See c) b new'
    → (a ≡ b) × (new ≡ new')
see_one course rounds c s Done Done n m p q =
    (let is : p.core ≡ q.core = same (slice_get s.cores c) p.core q.core p.at q.at in
    (refl, p.becomes ∙ (rw is refl ∙ sym q.becomes)))
see_one course rounds c s Done (Behind (Core d) t) n m p q = absurd q.0
see_one course rounds c s Done (Behind Controller t) n m p q =
    (let is : q.0.core ≡ p.core = same (slice_get s.cores c) q.0.core p.core q.0.at p.at in absurd
    (q.0.lacks (rw is p.has)))
see_one course rounds c s Done (NotNow f) n m p q =
    absurd (p.due (phases_same rounds c s p.core q.0.core p.at q.0.at ∙ q.0.finished))
see_one course rounds c s (Behind (Core d) t) b n m p q = absurd p.0
see_one course rounds c s (Behind Controller t) Done n m p q =
    (let is : p.0.core ≡ q.core = same (slice_get s.cores c) p.0.core q.core p.0.at q.at in absurd
    (p.0.lacks (rw is q.has)))
see_one course rounds c s (Behind Controller t) (Behind (Core d) u) n m p q = absurd q.0
see_one course rounds c s (Behind Controller t) (Behind Controller u) n m p q = (
  let is : t ≡ u = p.0.tick_is ∙ sym q.0.tick_is in ap (λ (x : ℕ). Behind Controller x) is,
  p.1 ∙ sym q.1,
)
see_one course rounds c s (Behind Controller t) (NotNow f) n m p q =
    absurd (p.0.due (phases_same rounds c s p.0.core q.0.core p.0.at q.0.at ∙ q.0.finished))
see_one course rounds c s (NotNow f) Done n m p q =
    absurd (q.due (phases_same rounds c s q.core p.0.core q.at p.0.at ∙ p.0.finished))
see_one course rounds c s (NotNow f) (Behind (Core d) t) n m p q = absurd q.0
see_one course rounds c s (NotNow f) (Behind Controller t) n m p q =
    absurd (q.0.due (phases_same rounds c s q.0.core p.0.core q.0.at p.0.at ∙ p.0.finished))
see_one course rounds c s (NotNow f) (NotNow g) n m p q =
    (not_now_same f g (p.0.found_is ∙ sym q.0.found_is), p.1 ∙ sym q.1)

-- a round has a count or has none
first_or_after : (rounds c : ℕ) (s n m : State) → EntersFirst rounds c s n → EntersAfter rounds c s m → ⊥
first_or_after rounds c s n m p q =
    let is : p.round.core ≡ q.round.core = same (slice_get s.cores c) p.round.core q.round.core p.round.at q.round.at in
    let round = ap (λ (x : CoreState). round_of x) is in
    let lt = slice_get_within s.decided (round_of q.round.core) q.used q.count in
    let first = p.first in
    absurd (omega arith)

-- who enters first leads to one state
one_first : (rounds c : ℕ) (s n m : State) → EntersFirst rounds c s n → EntersFirst rounds c s m → n ≡ m
one_first rounds c s n m p q =
    let is : p.round.core ≡ q.round.core = same (slice_get s.cores c) p.round.core q.round.core p.round.at q.round.at in
    let seen : p.round.seen ≡ q.round.seen = same q.round.core.seen p.round.seen q.round.seen
    (subst (λ (x : CoreState). x.seen ≡ Some p.round.seen) is p.round.has_seen) q.round.has_seen in
    p.becomes ∙ (rw (is, seen) refl ∙ sym q.becomes)

-- who enters after others leads to one state
one_after : (rounds c : ℕ) (s n m : State) → EntersAfter rounds c s n → EntersAfter rounds c s m → n ≡ m
one_after rounds c s n m p q =
    let is : p.round.core ≡ q.round.core = same (slice_get s.cores c) p.round.core q.round.core p.round.at q.round.at in
    let seen : p.round.seen ≡ q.round.seen = same q.round.core.seen p.round.seen q.round.seen
    (subst (λ (x : CoreState). x.seen ≡ Some p.round.seen) is p.round.has_seen) q.round.has_seen in
    let used : p.used ≡ q.used = same (slice_get s.decided (round_of q.round.core)) p.used q.used
    (subst (λ (x : CoreState). slice_get s.decided (round_of x) ≡ Some p.used) is p.count)
    q.count in
    p.becomes ∙ (rw (is, seen, used) refl ∙ sym q.becomes)

-- Decide leads to one state
one_entering : (rounds c : ℕ) (s n m : State) → Decides rounds c s n → Decides rounds c s m → n ≡ m
one_entering rounds c s n m p q = elim p [
  | inl w ↦ elim q [ inl v ↦ one_first rounds c s n m w v | inr j ↦ absurd (first_or_after rounds c s n m w j) ]
  | inr i ↦ elim q [ inl v ↦ absurd (first_or_after rounds c s m n v i) | inr j ↦ one_after rounds c s n m i j ]
]

-- who enters is to decide
entering_due : (rounds c : ℕ) (s n : State) → Decides rounds c s n
    → (core : CoreState) × (slice_get s.cores c ≡ Some core) × (phase_of rounds core ≡ to_decide)
entering_due rounds c s n p = elim p [
  | inl w ↦ (w.round.core, w.round.at, w.round.due)
  | inr j ↦ (j.round.core, j.round.at, j.round.due)
]

-- Decide has one answer
decide_one : (course : CourseView) (rounds c : ℕ) (s : State) (a b : Answer) (new new' : State)
    → AnswersStep course rounds s (steps.Decide c) a new
    → AnswersStep course rounds s (steps.Decide c) b new' → (a ≡ b) × (new ≡ new')
decide_one course rounds c s Done Done n m p q = (refl, one_entering rounds c s n m p q)
decide_one course rounds c s Done (Behind w t) n m p q = absurd q.0
decide_one course rounds c s Done (NotNow f) n m p q =
    (let due = entering_due rounds c s n p in absurd
    (q.0.differs (phases_same rounds c s q.0.core due.0 q.0.at due.1 ∙ due.2)))
decide_one course rounds c s (Behind w t) b n m p q = absurd p.0
decide_one course rounds c s (NotNow f) Done n m p q =
    (let due = entering_due rounds c s m q in absurd
    (p.0.differs (phases_same rounds c s p.0.core due.0 p.0.at due.1 ∙ due.2)))
decide_one course rounds c s (NotNow f) (Behind w t) n m p q = absurd q.0
decide_one course rounds c s (NotNow f) (NotNow g) n m p q = (
  not_now_same f g
      (p.0.found_is ∙ (ap shown (phases_same rounds c s p.0.core q.0.core p.0.at q.0.at)
      ∙ sym q.0.found_is)),
  p.1 ∙ sym q.1,
)

-- the stint that both speak of
stint_same : (course : CourseView) (rounds c : ℕ) (s : State) (x y : CoreState) (st su : Stint)
    → slice_get s.cores c ≡ Some x → slice_get s.cores c ≡ Some y → IsNextStint course rounds c x st
    → IsNextStint course rounds c y su → (x ≡ y) × (st ≡ su)
stint_same course rounds c s x y st su h g a b =
    let is : x ≡ y = same (slice_get s.cores c) x y h g in (
      is,
      one_next course rounds c y st su
          (subst (λ (z : CoreState). IsNextStint course rounds c z st) is a) b,
    )

-- Run has one answer, since the stint is determined
run_one : (course : CourseView) (rounds c : ℕ) (s : State) (a b : Answer) (new new' : State)
    → AnswersStep course rounds s (steps.Run c) a new → AnswersStep course rounds s (steps.Run c) b new'
    → (a ≡ b) × (new ≡ new')
run_one course rounds c s Done Done n m p q =
    (let is = stint_same course rounds c s p.core q.core p.stint q.stint p.at q.at p.next q.next in
    (refl, p.becomes ∙ (rw (is.0, is.1) refl ∙ sym q.becomes)))
run_one course rounds c s Done (Behind (Core d) t) n m p q =
    (let is = stint_same course rounds c s p.core q.0.core p.stint q.0.stint p.at q.0.at p.next q.0.next in
    absurd (low_or_near course.lag s.cores (Some c) q.0.stint.end d t
    (subst (λ (x : Stint). AreWithinLag course.lag s.cores (Some c) x.end) is.1 p.near) q.0.low))
run_one course rounds c s Done (Behind Controller t) n m p q = absurd q.0
run_one course rounds c s Done (NotNow f) n m p q =
    absurd (q.0.differs (phases_same rounds c s q.0.core p.core q.0.at p.at ∙ p.next.due))
run_one course rounds c s (Behind (Core d) t) Done n m p q =
    (let is = stint_same course rounds c s q.core p.0.core q.stint p.0.stint q.at p.0.at q.next p.0.next in
    absurd (low_or_near course.lag s.cores (Some c) p.0.stint.end d t
    (subst (λ (x : Stint). AreWithinLag course.lag s.cores (Some c) x.end) is.1 q.near) p.0.low))
run_one course rounds c s (Behind (Core d) t) (Behind (Core e) u) n m p q =
    (let is = stint_same course rounds c s p.0.core q.0.core p.0.stint q.0.stint p.0.at q.0.at
    p.0.next q.0.next in
    let low = one_low course.lag s.cores (Some c) q.0.stint.end d t e u
    (subst (λ (x : Stint). IsFirstBehind course.lag s.cores (Some c) x.end d t) is.1 p.0.low)
    q.0.low in
    (behind_same d e t u low.0 low.1, p.1 ∙ sym q.1))
run_one course rounds c s (Behind (Core d) t) (Behind Controller u) n m p q = absurd q.0
run_one course rounds c s (Behind (Core d) t) (NotNow f) n m p q =
    absurd (q.0.differs (phases_same rounds c s q.0.core p.0.core q.0.at p.0.at ∙ p.0.next.due))
run_one course rounds c s (Behind Controller t) b n m p q = absurd p.0
run_one course rounds c s (NotNow f) Done n m p q =
    absurd (p.0.differs (phases_same rounds c s p.0.core q.core p.0.at q.at ∙ q.next.due))
run_one course rounds c s (NotNow f) (Behind (Core d) t) n m p q =
    absurd (p.0.differs (phases_same rounds c s p.0.core q.0.core p.0.at q.0.at ∙ q.0.next.due))
run_one course rounds c s (NotNow f) (Behind Controller t) n m p q = absurd q.0
run_one course rounds c s (NotNow f) (NotNow g) n m p q = (
  not_now_same f g
      (p.0.found_is ∙ (ap shown (phases_same rounds c s p.0.core q.0.core p.0.at q.0.at)
      ∙ sym q.0.found_is)),
  p.1 ∙ sym q.1,
)

-- the law, over the four kinds of step
pub one_answer : (course : CourseView) (rounds : ℕ) (s : State) (step : Step) (a b : Answer)
    (new new' : State) → AnswersStep course rounds s step a new → AnswersStep course rounds s step b new'
    → (a ≡ b) × (new ≡ new')
one_answer course rounds s steps.Post a b n m p q = post_one course rounds s a b n m p q
one_answer course rounds s (steps.See c) a b n m p q = see_one course rounds c s a b n m p q
one_answer course rounds s (steps.Decide c) a b n m p q = decide_one course rounds c s a b n m p q
one_answer course rounds s (steps.Run c) a b n m p q = run_one course rounds c s a b n m p q
