-- A list of steps leads from a state to one state at most and makes one list of entries and stints; or one
-- step of it is the first that isn't done, with one answer; never both.
use Rattle.std.proofs.Common.{◌≡◌, ◌≢◌, ℕ, zero, suc, ◌++◌, List, [], ◌∷◌, length, length-append, take, Some, refl, ap, sym, subst, ◌∙◌, arith}
use Rattle.std.specs.Prelude.{slice_get}
use Rattle.tab_core.proofs.Lists.{push_new, same}
use Rattle.script_doc.specs.declared.step.Step.{Step}
use Rattle.script_doc.specs.declared.step.Step.TheVariants as steps
use Rattle.table_form.specs.Running.Courses.{CourseView}
use Rattle.table_form.specs.Running.State.{State, opening}
use Rattle.step_machine.specs.Answers.{AnswersStep, Moves}
use Rattle.step_machine.specs.Refusals.{IsRefused}
use Rattle.step_machine.specs.Runs.{Leads}
use Rattle.step_machine.specs.Traces.{AreMadeBy, EndsWith, IsTrace}
use Rattle.step_machine.specs.declared.answer.Answer.{Answer}
use Rattle.step_machine.specs.declared.answer.Answer.TheVariants.{Done}
use Rattle.step_machine.specs.declared.trace.Made.{Made}
use Rattle.step_machine.specs.declared.trace.Made.TheVariants.{Entered, Ran}
use Rattle.step_machine.proofs.AnswerLemmas.{one_answer}

-- ---- one end and one trace

-- an allowed step leads to one state, since the answer `Done` has one
one_move : (course : CourseView) (rounds : ℕ) (old : State) (step : Step) (new other : State)
    → Moves course rounds old step new → Moves course rounds old step other → new ≡ other
one_move course rounds old step new other p q = (one_answer course rounds old step Done Done new other p q).1

-- a list has one last element, so that what a step made is read off the state after it
one_last : {X : Type 0} (xs : List X) (x y : X) → EndsWith xs x → EndsWith xs y → x ≡ y
one_last xs x y p q =
    let at_x : slice_get xs (length p.0) ≡ Some x = rw p.1 (push_new p.0 x) in
    let at_y : slice_get xs (length q.0) ≡ Some y = rw q.1 (push_new q.0 y) in
    let size : length p.0 ≡ length q.0 =
    (let e = ap length (sym p.1 ∙ q.1) in
    let a = length-append p.0 (x ∷ []) in
    let b = length-append q.0 (y ∷ []) in omega arith) in
    same (slice_get xs (length q.0)) x y (subst (λ i. slice_get xs i ≡ Some x) size at_x) at_y

-- a step that led to a state made one list
one_made : (step : Step) (s : State) (made others : List Made) → AreMadeBy step s made
    → AreMadeBy step s others → made ≡ others
one_made steps.Post s made others p q = p ∙ sym q
one_made (steps.See c) s made others p q = p ∙ sym q
one_made (steps.Decide c) s made others p q =
    p.2 ∙ ap (λ e. Entered c e ∷ []) (one_last _ p.0 q.0 p.1 q.1) ∙ sym q.2
one_made (steps.Run c) s made others p q =
    p.2 ∙ ap (λ t. Ran c t ∷ []) (one_last _ p.0 q.0 p.1 q.1) ∙ sym q.2

-- steps lead to one state and make one list: the text of a run is one
pub one_trace : (course : CourseView) (rounds : ℕ) (old : State) (taken : List Step) (new other : State)
    (made others : List Made) → IsTrace course rounds old taken new made
    → IsTrace course rounds old taken other others → (new ≡ other) × (made ≡ others)
one_trace course rounds old [] new other made others p q = (sym p.0 ∙ q.0, p.1 ∙ sym q.1)
one_trace course rounds old (step ∷ taken) new other made others p q =
    let mid = one_move course rounds old step p.0 q.0 p.3 q.3 in
    let later = one_trace course rounds q.0 taken new other p.2 q.2
    (subst (λ s. IsTrace course rounds s taken new p.2) mid p.5) q.5 in
    let first = one_made step q.0 p.1 q.1 (subst (λ s. AreMadeBy step s p.1) mid p.4) q.4 in
    (later.0, p.6 ∙ ap (λ ms. ms ++ p.2) first ∙ ap (λ ms. q.1 ++ ms) later.1 ∙ sym q.6)

-- ---- one refusal

-- a refusal from any state, since an induction over the steps leaves the opening
record IsRefusedFrom (course : CourseView) (rounds : ℕ) (old : State) (taken : List Step) (place : ℕ)
    (answer : Answer) : Type 0 where
  pub mid : State
  pub before : Leads course rounds old (take place taken) mid
  pub step : Step
  pub at : slice_get taken place ≡ Some step
  pub answered : AnswersStep course rounds mid step answer mid
  pub not_done : answer ≢ Done

-- a refusal of a list of steps is one from the opening
from_opening : (course : CourseView) (rounds : ℕ) (taken : List Step) (place : ℕ) (answer : Answer)
    → IsRefused course rounds taken place answer
    → IsRefusedFrom course rounds (opening course.cores) taken place answer
from_opening course rounds taken place answer is = record {
  mid = is.mid;
  before = is.before;
  step = is.step;
  at = is.at;
  answered = is.answered;
  not_done = is.not_done;
}

-- the answer to the first step, where that is the one refused
at_once : (course : CourseView) (rounds : ℕ) (old : State) (first : Step) (taken : List Step) (answer : Answer)
    → IsRefusedFrom course rounds old (first ∷ taken) zero answer → AnswersStep course rounds old first answer old
at_once course rounds old first taken answer is =
    let at = is.at in
    let step : is.step ≡ first = cc in
    subst (λ t. AnswersStep course rounds old t answer old) step
    (subst (λ s. AnswersStep course rounds s is.step answer s) (sym is.before) is.answered)

-- that step isn't allowed
not_allowed : (course : CourseView) (rounds : ℕ) (old : State) (first : Step) (taken : List Step)
    (answer : Answer) (new : State) → IsRefusedFrom course rounds old (first ∷ taken) zero answer
    → Moves course rounds old first new → ⊥
not_allowed course rounds old first taken answer new is moves =
    is.not_done (one_answer course rounds old first answer Done old new
    (at_once course rounds old first taken answer is) moves).0

-- a refusal after the first step is one from wherever that leads
behind_first : (course : CourseView) (rounds : ℕ) (old : State) (first : Step) (taken : List Step) (place : ℕ)
    (answer : Answer) (new : State) → IsRefusedFrom course rounds old (first ∷ taken) (suc place) answer
    → Moves course rounds old first new → IsRefusedFrom course rounds new taken place answer
behind_first course rounds old first taken place answer new is moves = record {
  mid = is.mid;
  before = subst (λ s. Leads course rounds s (take place taken) is.mid)
      (one_move course rounds old first is.before.0 new is.before.1 moves) is.before.2;
  step = is.step;
  at = is.at;
  answered = is.answered;
  not_done = is.not_done;
}

-- steps of which one is refused lead nowhere
leads_nowhere : (course : CourseView) (rounds : ℕ) (old : State) (taken : List Step) (place : ℕ)
    (answer : Answer) (new : State) → IsRefusedFrom course rounds old taken place answer
    → Leads course rounds old taken new → ⊥
leads_nowhere course rounds old [] place answer new is leads = let at = is.at in absurd cc
leads_nowhere course rounds old (first ∷ taken) zero answer new is leads =
    not_allowed course rounds old first taken answer leads.0 is leads.1
leads_nowhere course rounds old (first ∷ taken) (suc place) answer new is leads =
    leads_nowhere course rounds leads.0 taken place answer new
    (behind_first course rounds old first taken place answer leads.0 is leads.1) leads.2

-- steps are refused at one place with one answer
one_from : (course : CourseView) (rounds : ℕ) (old : State) (taken : List Step) (place other : ℕ)
    (a b : Answer) → IsRefusedFrom course rounds old taken place a
    → IsRefusedFrom course rounds old taken other b → (place ≡ other) × (a ≡ b)
one_from course rounds old [] place other a b p q = let at = p.at in absurd cc
one_from course rounds old (first ∷ taken) zero zero a b p q = (
  refl,
  (one_answer course rounds old first a b old old (at_once course rounds old first taken a p)
      (at_once course rounds old first taken b q)).0,
)
one_from course rounds old (first ∷ taken) zero (suc other) a b p q =
    absurd (not_allowed course rounds old first taken a q.before.0 p q.before.1)
one_from course rounds old (first ∷ taken) (suc place) zero a b p q =
    absurd (not_allowed course rounds old first taken b p.before.0 q p.before.1)
one_from course rounds old (first ∷ taken) (suc place) (suc other) a b p q =
    let rest = one_from course rounds p.before.0 taken place other a b
    (behind_first course rounds old first taken place a p.before.0 p p.before.1)
    (behind_first course rounds old first taken other b p.before.0 q p.before.1) in
    (ap suc rest.0, rest.1)

-- a list of steps is refused or leads to a state, never both
pub refused_or_leads : (course : CourseView) (rounds : ℕ) (taken : List Step) (place : ℕ) (answer : Answer)
    (new : State) → IsRefused course rounds taken place answer
    → Leads course rounds (opening course.cores) taken new → ⊥
refused_or_leads course rounds taken place answer new is =
    leads_nowhere course rounds (opening course.cores) taken place answer new
    (from_opening course rounds taken place answer is)

-- a list of steps is refused in one way
pub one_refused : (course : CourseView) (rounds : ℕ) (taken : List Step) (place other : ℕ) (a b : Answer)
    → IsRefused course rounds taken place a → IsRefused course rounds taken other b
    → (place ≡ other) × (a ≡ b)
one_refused course rounds taken place other a b p q =
    one_from course rounds (opening course.cores) taken place other a b
    (from_opening course rounds taken place a p) (from_opening course rounds taken other b q)
