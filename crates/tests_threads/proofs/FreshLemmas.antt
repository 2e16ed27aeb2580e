-- Views of a board that was just started, of whose parts a seat gives some to another.
use Rattle.std.proofs.Common.{◌≡◌, ◌≢◌, ℕ, ◌*◌, ◌^◌, ◌%◌, ◌<◌, ◌≤◌, Bool, true, false, true≢false, refl, sym, ap, ◌∙◌, subst, arith, pow_mono, mod-eq_of_lt, one-mul}
use Rattle.table_form.specs.Running.Courses.{CourseView}
use Rattle.round_words.specs.declared.view.View.{View}
use Rattle.round_words.specs.Shown.{HoldsCore}
use Rattle.round_words.specs.Views.{controller, holds, names, only, part, without}
use Rattle.round_words.proofs.MaskLemmas.{names_none, names_one}
use Rattle.round_words.proofs.ViewsLemmas.{only_named, only_others, without_named, without_others}
use Rattle.dispatch_core.specs.Parts.{IsNewPart}
use Rattle.plan_switch.specs.Controllers as controllers
use Rattle.core_workers.specs.Crews.{IsNewView}

-- the actor's part is the same in both views
abbrev IsSamePart : View → View → ℕ → Type 0
IsSamePart v w a = (holds w a ≡ holds v a) × (part w a ≡ part v a)

-- a part that is kept is as it was
kept_part : (m : ℕ) (v : View) (a : ℕ) → holds (without m v) a ≡ true → IsSamePart v (without m v) a
kept_part m v a held = kept_by (names m a) refl
  where
    kept_by : (b : Bool) → names m a ≡ b → IsSamePart v (without m v) a
    kept_by true on = absurd (true≢false (sym held ∙ without_named m v a on))
    kept_by false off = without_others m v a off

-- a part that is given is as it was
given_part : (m : ℕ) (v : View) (a : ℕ) → holds (only m v) a ≡ true → IsSamePart v (only m v) a
given_part m v a held = given_by (names m a) refl
  where
    given_by : (b : Bool) → names m a ≡ b → IsSamePart v (only m v) a
    given_by true on = only_named m v a on
    given_by false off = absurd (true≢false (sym held ∙ only_others m v a off))

-- nothing has happened to the parts that are kept
fresh_kept : (course : CourseView) (m : ℕ) (v : View) → IsNewView course v → IsNewView course (without m v)
fresh_kept course m v fresh = record {
  started = record {
    started = fresh.started.started;
    lag_is = fresh.started.lag_is;
    cores_are = fresh.started.cores_are;
    events_are = fresh.started.events_are;
  };
  cores = λ c core. (let same = kept_part m v c core.1 in
      subst IsNewPart (sym same.1) (fresh.cores c (core.0, sym same.0 ∙ core.1)));
  control = λ has. (let same = kept_part m v controller has in
      subst controllers.IsNewControlPart (sym same.1) (fresh.control (sym same.0 ∙ has)));
}

-- nothing has happened to the parts that are given
fresh_given : (course : CourseView) (m : ℕ) (v : View) → IsNewView course v → IsNewView course (only m v)
fresh_given course m v fresh = record {
  started = record {
    started = fresh.started.started;
    lag_is = fresh.started.lag_is;
    cores_are = fresh.started.cores_are;
    events_are = fresh.started.events_are;
  };
  cores = λ c core. (let same = given_part m v c core.1 in
      subst IsNewPart (sym same.1) (fresh.cores c (core.0, sym same.0 ∙ core.1)));
  control = λ has. (let same = given_part m v controller has in
      subst controllers.IsNewControlPart (sym same.1) (fresh.control (sym same.0 ∙ has)));
}

-- the bit of a core, as it is computed
pub bit_is : (core : ℕ) → core < 32 → 1 * 2 ^ core % 18446744073709551616 ≡ 2 ^ core
bit_is core small =
    let most : core ≤ 32 = omega (arith, small) in
    let low : 2 ^ core ≤ 2 ^ 32 = pow_mono most in
    let x : ℕ = 2 ^ core in
    let y : x ≤ 4294967296 = low in
    mod-eq_of_lt (omega arith) ∙ one-mul x

-- a seat gave core c alone to another
pub record IsParted (course : CourseView) (v kept given : View) (c : ℕ) : Type 0 where
  pub kept_fresh : IsNewView course kept
  pub given_fresh : IsNewView course given
  pub core : HoldsCore given c
  pub others : (a : ℕ) → a ≢ c → holds kept a ≡ holds v a

-- which it does by the core's bit
pub parted : (course : CourseView) (v kept given : View) (c : ℕ) → c < 32 → IsNewView course v → HoldsCore v c
    → kept ≡ without (1 * 2 ^ c % 18446744073709551616) v → given ≡ only (1 * 2 ^ c % 18446744073709551616) v
    → IsParted course v kept given c
parted course v kept given c small fresh held kept_is given_is =
    let bit = bit_is c small in
    let keeps : kept ≡ without (2 ^ c) v = kept_is ∙ ap (λ (m : ℕ). without m v) bit in
    let gives : given ≡ only (2 ^ c) v = given_is ∙ ap (λ (m : ℕ). only m v) bit in
    record {
      kept_fresh = subst (IsNewView course) (sym keeps) (fresh_kept course (2 ^ c) v fresh);
      given_fresh = subst (IsNewView course) (sym gives) (fresh_given course (2 ^ c) v fresh);
      core = subst (λ (w : View). HoldsCore w c) (sym gives)
          (held.0, (only_named (2 ^ c) v c (names_one c)).0 ∙ held.1);
      others = λ a away. subst (λ (w : View). holds w a ≡ holds v a) (sym keeps)
          (without_others (2 ^ c) v a (names_none c a away)).0;
    }
