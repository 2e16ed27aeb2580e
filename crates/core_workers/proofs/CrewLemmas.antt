-- A crew of which some actors stepped.
use Rattle.std.proofs.Common.{◌≡◌, ℕ, ◌<◌, Option, Some, None, refl, sym, ◌∙◌, subst}
use Rattle.table_form.specs.Running.Courses.{CourseView, FitsRounds, IsCourse}
use Rattle.round_words.specs.declared.view.View.{View}
use Rattle.round_words.specs.Views.{controller}
use Rattle.crew_turns.specs.Going.{SameActors}
use Rattle.dispatch_core.specs.States.{IsSameCore, StateView}
use Rattle.core_workers.specs.ActorLaws.{same_actor, same_more}
use Rattle.core_workers.specs.Crews.{HoldsAll, IsCrew, IsSameAt, IsSameCrew, IsWhole}
use Rattle.core_workers.specs.Views.{CrewView, actor_of}

-- actors that are the same, one after another
pub at_same : (o : Option StateView) → IsSameAt o o
at_same None = tt
at_same (Some a) = same_actor a

pub at_more : (o p q : Option StateView) → IsSameAt o p → IsSameAt p q → IsSameAt o q
at_more None None None x y = tt
at_more (Some a) (Some b) (Some c) x y = same_more a b c x y
at_more None None (Some c) x y = absurd y
at_more None (Some b) q x y = absurd x
at_more (Some a) None q x y = absurd x
at_more (Some a) (Some b) None x y = absurd y

-- one actor, some steps on, is another of the same core
pub at_some : (o p : Option StateView) (a : StateView) → IsSameAt o p → o ≡ Some a → (b : StateView) × (p ≡ Some b) × IsSameCore a b
at_some (Some x) (Some b) a same h = let e : x ≡ a = cc in (b, refl, subst (λ (y : StateView). IsSameCore y b) e same)
at_some None p a same h = absurd cc
at_some (Some x) None a same h = absurd same

pub at_was : (o p : Option StateView) (b : StateView) → IsSameAt o p → p ≡ Some b → (a : StateView) × (o ≡ Some a) × IsSameCore a b
at_was (Some x) (Some y) b same h = let e : y ≡ b = cc in (x, refl, subst (IsSameCore x) e same)
at_was None (Some y) b same h = absurd same
at_was o None b same h = absurd cc

pub crew_more : (x y z : CrewView) → IsSameCrew x y → IsSameCrew y z → IsSameCrew x z
crew_more x y z s t = record {
  course = t.course ∙ s.course;
  rounds = t.rounds ∙ s.rounds;
  each = λ c. at_more (actor_of x c) (actor_of y c) (actor_of z c) (s.each c) (t.each c);
}

pub whole_on : (x y : CrewView) → IsSameCrew x y → IsWhole x → IsWhole y
whole_on x y same whole c lt =
    let a = whole c (subst (λ (k : CourseView). c < k.cores) same.course lt) in
    let b = at_some (actor_of x c) (actor_of y c) a.0 (same.each c) a.1 in (b.0, b.1)

pub crew_on : (x y : CrewView) → IsSameCrew x y → IsCrew x → IsCrew y
crew_on x y same is = record {
  course_kept = subst IsCourse (sym same.course) is.course_kept;
  fits = subst (λ (r : ℕ). FitsRounds y.course r) (sym same.rounds) (subst (λ (k : CourseView). FitsRounds k x.rounds) (sym same.course) is.fits);
  each = λ c b at. (let a = at_was (actor_of x c) (actor_of y c) b (same.each c) at in
      let was = is.each c a.0 a.1 in
      record {
        core = a.2.core ∙ was.core;
        within = subst (λ (k : CourseView). c < k.cores) (sym same.course) was.within;
        rounds_is = a.2.rounds ∙ (was.rounds_is ∙ sym same.rounds);
      });
}

pub held_on : (x y : CrewView) (v w : View) → IsSameCrew x y → SameActors v w → HoldsAll x v → HoldsAll y w
held_on x y v w same actors all = record {
  cores = λ c lt. actors.actors c ∙ all.cores c (subst (λ (k : CourseView). c < k.cores) same.course lt);
  control = actors.actors controller ∙ all.control;
}
