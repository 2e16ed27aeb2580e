-- A board that was just started for a course.
use Rattle.std.proofs.Common.{◌≡◌, ℕ, zero, suc, ◌+◌, ◌-◌, ◌<◌, ◌≤◌, true, List, [], ◌∷◌, ◌++◌, replicate, Option, Some, None, is_some, length, refl, sym, ap, ◌∙◌, subst, arith}
use Rattle.table_form.specs.Running.Courses.{CourseView}
use Rattle.round_words.specs.declared.view.Part.{Part}
use Rattle.round_words.specs.declared.view.View.{View}
use Rattle.round_words.specs.Views.{all_new, controller, heard_of, just_started, new_part, part, part_at}
use Rattle.round_words.proofs.StartLemmas.{all_are_new}
use Rattle.dispatch_core.specs.Parts.{IsNewPart}
use Rattle.plan_switch.specs.Controllers as controllers
use Rattle.core_workers.specs.Crews.{HoldsAll, IsNewView}
use Rattle.core_workers.specs.Views.{CrewView}

there : (n : ℕ) (rest : List (Option Part)) (a : ℕ) → a < n → is_some (part_at (replicate n (Some new_part) ++ rest) a) ≡ true
there zero rest a lt = absurd (omega arith)
there (suc n) rest zero lt = refl
there (suc n) rest (suc a) lt = there n rest a (omega arith)

past : (n : ℕ) (o : Option Part) (rest : List (Option Part)) (a : ℕ) → part_at (replicate n o ++ rest) (n + a) ≡ part_at rest a
past zero o rest a = let e : 0 + a ≡ a = omega arith in ap (part_at rest) e
past (suc n) o rest a = let e : suc n + a ≡ suc (n + a) = omega arith in ap (part_at (o ∷ (replicate n o ++ rest))) e ∙ past n o rest a

none_heard : (n d : ℕ) → heard_of (record new_part { heard = replicate n [] }) d ≡ []
none_heard zero d = refl
none_heard (suc n) zero = refl
none_heard (suc n) (suc d) = none_heard n d

new_is_new : (p : Part) → p ≡ new_part → IsNewPart p
new_is_new p is = subst IsNewPart (sym is) (record { clock = refl; heard = none_heard 32; entries = refl; stints = refl })

-- nothing has happened in it
pub fresh : (course : CourseView) (v : View) → v ≡ just_started course.lag course.cores (length course.ticks) → IsNewView course v
fresh course v is = subst (IsNewView course) (sym is) (record {
  started = record { started = refl; lag_is = refl; cores_are = refl; events_are = refl };
  cores = λ c core. new_is_new (part (just_started course.lag course.cores (length course.ticks)) c) (all_are_new course.cores c);
  control = λ has. subst controllers.IsNewControlPart (sym (all_are_new course.cores controller)) (record { heard = none_heard 32; floors = refl });
})

-- it holds all parts
pub holds_started : (crew : CrewView) (v : View) → v ≡ just_started crew.course.lag crew.course.cores (length crew.course.ticks) → crew.course.cores ≤ 32 → HoldsAll crew v
holds_started crew v is le = subst (HoldsAll crew) (sym is) (record {
  cores = λ c lt. there crew.course.cores (replicate (32 - crew.course.cores) None ++ Some new_part ∷ []) c lt;
  control = (let a : crew.course.cores + ((32 - crew.course.cores) + 0) ≡ 32 = omega arith in
      let rest : List (Option Part) = Some new_part ∷ [] in
      ap is_some (ap (part_at (all_new crew.course.cores)) (sym a) ∙ (past crew.course.cores (Some new_part) (replicate (32 - crew.course.cores) None ++ rest) ((32 - crew.course.cores) + 0) ∙ past (32 - crew.course.cores) None rest 0)));
})

-- a crew of nobody, by a course
abbrev pub nobody : CourseView → CrewView
nobody course = record { course = course; rounds = 0; control = record { posted = 0; known = [] }; actors = [] }

-- a crew of nobody, of a board started with what the course tells
pub fresh_as : (course : CourseView) (v : View) (lag cores events : ℕ) → lag ≡ course.lag → cores ≡ course.cores → events ≡ length course.ticks → v ≡ just_started lag cores events → IsNewView course v
fresh_as course v lag cores events a b c is = fresh course v (is ∙ (ap (λ (l : ℕ). just_started l cores events) a ∙ (ap (λ (n : ℕ). just_started course.lag n events) b ∙ ap (just_started course.lag course.cores) c)))
