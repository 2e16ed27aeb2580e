-- Whether a count has every event up to a tick shows by its next event, since events come in the order
-- of their ticks.
use Rattle.std.proofs.Common.{◌≡◌, ℕ, zero, suc, ◌+◌, ◌-◌, ◌<◌, ◌≤◌, inl, inr, length, refl, arith}
use Rattle.std.specs.Prelude.{slice_index}
use Rattle.std.proofs.lemmas.Bool.{cases_lt}
use Rattle.table_form.specs.Running.Outlines.{IsOutline, OutlineView}
use Rattle.dispatch_core.specs.Parts.{HasEvents}

-- each event is at least as late as one n places before
ticks_rise : (o : OutlineView) → IsOutline o → (i n j : ℕ) → j ≡ i + n
    → j < length o.ticks → slice_index o.ticks i ≤ slice_index o.ticks j
ticks_rise o ok i zero j is lt = (let e : j ≡ i = omega arith in rw e (omega arith))
ticks_rise o ok i (suc n) j is lt =
    let before = ticks_rise o ok i n (i + n) refl (omega arith) in
    let step = ok.rising (i + n) (omega arith) in
    let e : j ≡ suc (i + n) = omega arith in
    rw e (omega arith)

-- a count has all that it must if the next event is late enough
pub has_by_next : (o : OutlineView) → IsOutline o → (count x : ℕ)
    → x < slice_index o.ticks count + o.lag → HasEvents o count x
has_by_next o ok count x late =
    λ i lt due. elim (cases_lt i count) [
      | inl low ↦ low
      | inr high ↦
          absurd (let le = ticks_rise o ok count (i - count) i (omega arith) lt in omega arith)
    ]
