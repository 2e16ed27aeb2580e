use Rattle.std.proofs.Common.{◌≡◌, ◌++◌, drop, length, rules, subst, sym, take}
use Rattle.std.proofs.lemmas.List.{take_at}
use Rattle.view_table.specs.Figures.{AreWaitMarks, AreWaits}
use Rattle.view_table.specs.Inside.Walks.{AreByBegin}
use Rattle.view_table.proofs.waits.waits_of.Goals as goal

pub returns-clause-waits : goal.returns-clause-waits
returns-clause-waits c =
    let same : take c.in_ok-waits.waits.len (c.walk_rounds.new.waits
    ++ drop (length c.walk_rounds.new.waits) c.in_ok-waits.waits.items) ≡ c.walk_rounds.new.waits =
    take_at _ _ _ (search rules) in
    let are : AreByBegin c.args.slots.now c.deref.result.now =
    subst (AreByBegin c.args.slots.now) (sym c.deref.ensures.value) c.in_ok-order.ensures in
    subst (AreWaits c.args.slots.now c.args.count) (sym same) (record {
      size = search rules;
      each = λ v low. c.walk_rounds.ensures.waits c.args.slots.now v (search rules) are;
    })

pub returns-clause-marks : goal.returns-clause-marks
returns-clause-marks c =
    let same : take c.in_ok-marks.marks.len (c.walk_rounds.new.marks
    ++ drop (length c.walk_rounds.new.marks) c.in_ok-marks.marks.items) ≡ c.walk_rounds.new.marks =
    take_at _ _ _ (search rules) in
    let are : AreByBegin c.args.slots.now c.deref.result.now =
    subst (AreByBegin c.args.slots.now) (sym c.deref.ensures.value) c.in_ok-order.ensures in
    subst (AreWaitMarks c.args.slots.now c.args.count) (sym same) (record {
      size = search rules;
      each = λ v low. c.walk_rounds.ensures.marks c.args.slots.now v (search rules) are;
    })
