-- A crew that is made.
use Rattle.std.proofs.Common.{◌≡◌, ℕ, inl, inr, List, [], ◌∷◌, ◌++◌, length, Some, true, sym, ap, ◌∙◌, subst, arith}
use Rattle.std.specs.Prelude.{slice_index}
use Rattle.std.proofs.lemmas.Option.{slice_get_within}
use Rattle.tab_core.proofs.Lists.{push_split}
use Rattle.table_form.specs.Running.Courses.{CourseView, FitsRounds, IsCourse}
use Rattle.round_words.specs.declared.view.View.{View}
use Rattle.round_words.specs.Shown.{HoldsCore}
use Rattle.round_words.specs.Views.{controller, holds}
use Rattle.run_state.proofs.Lists.{of_map}
use Rattle.crew_turns.specs.declared.player.Player.{Player}
use Rattle.dispatch_core.specs.States.{ActorView, AgreesWith, StateView}
use Rattle.plan_switch.specs.Controllers as controllers
use Rattle.plan_switch.specs.Controllers.{ControllerView}
use Rattle.core_workers.specs.Crews.{AllAgree, IsNewView}
use Rattle.core_workers.specs.Views.{actor_of, crew_view, state_in}
use Rattle.core_workers.specs.Inside.Making.{ArePlayersNew, IsNewActor}
use Rattle.core_workers.specs.Inside.Players.{ArePlayers}

-- one more core
pub new_more : (course : CourseView) (rounds : ℕ) (keeps : List ℕ) (cores : List (Player ActorView)) (p : Player ActorView) → ArePlayersNew course rounds keeps cores
    → IsNewActor course rounds (length cores) (slice_index keeps (length cores)) p.actor → ArePlayersNew course rounds keeps (cores ++ p ∷ [])
new_more course rounds keeps cores p are new i q at = elim (push_split cores i p q at) [
  | inl old ↦ are i q old
  | inr here ↦ subst (λ (x : Player ActorView). IsNewActor course rounds i (slice_index keeps i) x.actor) here.1
      (subst (λ (k : ℕ). IsNewActor course rounds k (slice_index keeps k) p.actor) (sym here.0) new)
]

module _ (course : CourseView) (rounds : ℕ) (keeps : List ℕ) (cores : List (Player ActorView)) (lead : Player ControllerView)
    (are : ArePlayersNew course rounds keeps cores) (count : length cores ≡ course.cores) (lead_is : lead.actor.course ≡ course) where
  pub players_made : IsCourse course → FitsRounds course rounds → ArePlayers course rounds cores lead
  players_made kept fits = record {
    course_kept = kept;
    fits = fits;
    count = count;
    each = λ i p at. (are i p at).actor;
    lead_is = lead_is;
  }

  -- each actor keeps as many stints as was said
  pub keeps_made : (c : ℕ) (a : StateView) → actor_of (crew_view course rounds cores lead) c ≡ Some a → a.keep ≡ slice_index keeps c
  keeps_made c a at = let p = of_map state_in cores c a at in
      ap (λ (s : StateView). s.keep) p.2 ∙ (are c p.0 p.1).keep_is

  pub agree_made : (v : View) → IsNewView course v → (holds v controller ≡ true → controllers.ControlAgreesWith course lead.actor.state v) → AllAgree (crew_view course rounds cores lead) v
  agree_made v fresh control = record {
    cores = λ c a at has. (let p = of_map state_in cores c a at in
        let core : HoldsCore v c = (omega (arith, slice_get_within cores c p.0 p.1, count, fresh.started.cores_are), has) in
        subst (λ (s : StateView). AgreesWith course s v) (sym p.2) ((are c p.0 p.1).agrees v fresh.started core (fresh.cores c core)));
    control = control;
  }
