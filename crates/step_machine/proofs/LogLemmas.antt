-- The logs that the code keeps, and the cores that they stand for.
use Rattle.std.proofs.Common.{◌≡◌, ℕ, zero, suc, ◌+◌, ◌<◌, inl, inr, List, [], ◌∷◌, length, Option, Some, refl, ap, subst, ◌∙◌, arith}
use Rattle.std.specs.Prelude.{slice_get, slice_index_or, slice_set}
use Rattle.std.proofs.lemmas.Option.{slice_get_read, slice_get_within}
use Rattle.std.proofs.lemmas.List.{map-set}
use Rattle.tab_core.proofs.Lists.{same}
use Rattle.step_machine.specs.declared.core_log.CoreLog.{CoreLog}
use Rattle.table_form.specs.Running.State.{CoreState}
use Rattle.step_machine.specs.Inside.Logs.{core_of_log, cores_of_logs, LogHasRoom, LogsHaveRoom, ChangesLog}
use Rattle.step_machine.proofs.Lists.{set_split}

-- what an index finds is the element
pub found_at : {X : Type 0} (xs : List X) (i : ℕ) (x y : X) → slice_get xs i ≡ Some y
    → x ≡ slice_index_or xs i x → y ≡ x
found_at xs i x y h is = same (slice_get xs i) y x h
    (slice_get_read xs (length xs) i x refl (slice_get_within xs i y h) is)

-- a core stands for a log
pub log_at : (logs : List CoreLog) (k : ℕ) (core : CoreState)
    → slice_get (cores_of_logs logs) k ≡ Some core
    → (log : CoreLog) × (slice_get logs k ≡ Some log) × (core_of_log log ≡ core)
log_at [] k core h = absurd cc
log_at (log ∷ logs) zero core h = (log, refl, cc)
log_at (log ∷ logs) (suc k) core h = log_at logs k core h

-- a log stands for a core
pub core_at : (logs : List CoreLog) (k : ℕ) (log : CoreLog) → slice_get logs k ≡ Some log
    → slice_get (cores_of_logs logs) k ≡ Some (core_of_log log)
core_at [] k log h = absurd cc
core_at (x ∷ logs) zero log h = cc
core_at (x ∷ logs) (suc k) log h = core_at logs k log h

-- an edited log edits the core that it stands for
pub cores_edited : (old new : List CoreLog) (c : ℕ) (before : CoreLog) (changed : CoreState)
    (last : Option ℕ) → ChangesLog old new c before changed last
    → cores_of_logs new ≡ slice_set (cores_of_logs old) c changed
cores_edited old new c before changed last e = ap cores_of_logs e.becomes ∙ map-set core_of_log old c e.log
    ∙ ap (λ (x : CoreState). slice_set (cores_of_logs old) c x) e.core

-- an edited log leaves room for all steps but one
pub rooms_edited : (rounds n : ℕ) (old new : List CoreLog) (c : ℕ) (before : CoreLog)
    (changed : CoreState) (last : Option ℕ) → slice_get old c ≡ Some before
    → ChangesLog old new c before changed last → LogsHaveRoom rounds (n + 1) old → LogsHaveRoom rounds n new
rooms_edited rounds n old new c before changed last at e room =
    λ k log h. elim (set_split old c k e.log log
    (subst (λ (xs : List CoreLog). slice_get xs k ≡ Some log) e.becomes h)) [
      | inl here ↦ subst (λ (x : CoreLog). LogHasRoom rounds n x) here.1 (e.room rounds n (room c before at))
      | inr other ↦
          (let was = room k log other.1 in record {
            entries = omega (arith, was.entries);
            stints = omega (arith, was.stints);
            few = omega (arith, was.few);
          })
    ]

-- a core's number is below the number of logs
pub core_within : (logs : List CoreLog) (k : ℕ) (core : CoreState)
    → slice_get (cores_of_logs logs) k ≡ Some core → k < length logs
core_within logs k core h = (let found = log_at logs k core h in slice_get_within logs k found.0 found.1)
