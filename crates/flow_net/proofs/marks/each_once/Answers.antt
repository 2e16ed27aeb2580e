use Rattle.std.proofs.Common.{◌<◌, Contains, get_or, length, ap, arith, subst, sym, inl, inr}
use Rattle.std.proofs.lemmas.Bool.{cases_eq}
use Rattle.std.proofs.lemmas.List.Elements.{Contains-get_or}
use Rattle.flow_net.proofs.Marking.{all_listed}
use Rattle.flow_net.proofs.marks.each_once.Goals as goal

pub loop-v-preserved : goal.loop-v-preserved
loop-v-preserved c =
    let ps = c.args.periods.now in
    let v = c.loop-v.v in
    let inv = c.loop-v.invariant in
    let new = c.add_once.new.few.items in
    let h : v < length ps = omega (arith, c.loop-v-test.true, c.loop-v.auto.v-end) in
    record {
      all = λ w lt. elim (cases_eq w v) [
        | inl e ↦ subst (λ x. Contains new x) (ap (λ j. get_or ps j 0) (sym e)) c.in_ok-add_once.ensures.added
        | inr ne ↦ c.in_ok-add_once.ensures.kept (get_or ps w 0) (inv.all w (omega (arith, lt, ne)))
      ];
      no_more = λ n found. elim (c.in_ok-add_once.ensures.no_more n found) [
        | inl old ↦ inv.no_more n old
        | inr e ↦ subst (λ x. Contains ps x) (sym e) (Contains-get_or ps v 0 h)
      ];
    }

pub returns-clause-all : goal.returns-clause-all
returns-clause-all c =
    all_listed c.args.periods.now c.loop-v.few.items
    (λ w lt. c.loop-v.invariant.all w (omega (arith, lt, c.loop-v-test.false, c.loop-v.auto.v-end)))
