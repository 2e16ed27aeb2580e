use Rattle.std.proofs.Common.{ℕ, ◌<◌, set, get_or-set_same, get_or-set_other, inl, inr, length, sym, subst, ◌∙◌, arith}
use Rattle.std.proofs.lemmas.Bool.{cases_eq}
use Rattle.std.proofs.lemmas.List.{length-set}
use Rattle.tab_core.specs.declared.TheConstants.{ROUND}
use Rattle.table_form.specs.Promises.Offered.{some_row_has}
use Rattle.run_counts.specs.declared.walk.Slot.{Slot}
use Rattle.run_counts.specs.Inside.Sweeps.{IsToldTo}
use Rattle.run_counts.specs.Inside.Walks.{IsNext, slot_at}
use Rattle.run_counts.proofs.SweepLemmas.{start_told}
use Rattle.run_counts.proofs.WalkLemmas.{next_stays, walk_last, walk_step}
use Rattle.run_counts.proofs.walk.walk.Goals as goal

pub walking-init : goal.walking-init
walking-init c = record {
  size = c.first_slots-slots.ensures.size;
  within = omega arith;
  told = subst (IsToldTo (some_row_has c.args.rows.now c.args.vcpu) 0) (sym c.none-stretch.ensures)
      (start_told (some_row_has c.args.rows.now c.args.vcpu) 0 (λ x lt. absurd (omega arith)));
  next = c.first_slots-slots.ensures.next;
}

pub returns-then-begin-ge-ROUND : goal.returns-then-begin-ge-ROUND
returns-then-begin-ge-ROUND c =
    walk_last c.args.rows.now c.args.vcpu c.walking.place c.earliest-core.result.1 c.walking.stretch
    c.walking.slots c.walking.invariant.told c.walking.invariant.next c.earliest-core.ensures.least
    c.if-begin-ge-ROUND.true c.walking.invariant.within

pub walking-preserved : goal.walking-preserved
walking-preserved c =
    let rows = c.args.rows.now in
    let v = c.args.vcpu in
    let slots = c.walking.slots in
    let core : ℕ = c.earliest-core.result.0 in
    let begin : ℕ = c.earliest-core.result.1 in
    let lt : begin < ROUND = c.if-begin-ge-ROUND.false in
    let there = c.earliest-core.ensures.there lt in
    let here : Slot = slot_at slots core in
    let empty : Slot = record { begin = 0; end = 0; number = 0 } in
    let few : core < length slots = omega (arith, there.0, c.requires.few, c.walking.invariant.size) in
    record {
      size = length-set slots core c.next_slot.result ∙ c.walking.invariant.size;
      within = (c.walking.invariant.next core there.0).within;
      told = subst (IsToldTo (some_row_has rows v) here.end) (sym c.offered_to-stretch.ensures)
          (walk_step rows v c.walking.place begin core c.walking.stretch slots c.walking.invariant.told
          c.walking.invariant.next c.earliest-core.ensures.least there.0 there.1 lt);
      next = λ d small. elim (cases_eq d core) [
        | inl same ↦ subst (λ (j : ℕ). IsNext rows j v here.end (slot_at (set slots core c.next_slot.result) j))
            (sym same) (subst (IsNext rows core v here.end)
            (sym (get_or-set_same slots core c.next_slot.result empty few)) c.next_slot.ensures)
        | inr other ↦ subst (IsNext rows d v here.end)
            (sym (get_or-set_other slots core d c.next_slot.result empty other))
            (next_stays rows core d v c.walking.place here (slot_at slots d) c.requires.apart other
            (c.walking.invariant.next core there.0) (c.walking.invariant.next d small)
            (omega (arith, there.1, lt)) (omega (arith, there.1, c.earliest-core.ensures.least d small)))
      ];
    }
