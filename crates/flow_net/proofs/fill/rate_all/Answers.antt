use Rattle.std.proofs.Common.{◌≡◌, ℕ, ◌+◌, ◌<◌, ◌≤◌, Bool, true, false, List, length, set, length-set, ltb, arith, inl, inr}
use Rattle.std.proofs.lemmas.Bool.{cases_eq}
use Rattle.std.proofs.lemmas.List.{get_or-set_same, get_or-set_other}
use Rattle.flow_net.specs.Counts.{is_due}
use Rattle.flow_net.specs.Inside.Demanded.{load}
use Rattle.flow_net.specs.Inside.Filling.{AreVcpus}
use Rattle.flow_net.specs.declared.fill.Wanting.{Wanting}
use Rattle.tab_core.proofs.Totals.{total-step}
use Rattle.flow_net.proofs.fill.rate_all.Goals as goal
use mir.Val.{bool_byte}

-- a test counts for one at most
byte_le : (b : Bool) → bool_byte b ≤ 1
byte_le true = omega arith
byte_le false = omega arith

-- the entries are of vCPUs with one more entry, whether it is counted or not
listed_more : (width : ℕ) (wanting : List Wanting) (tail more : ℕ) (next : Wanting) → tail < length wanting
    → next.vcpu < width → more ≤ 1 → AreVcpus width wanting tail
    → AreVcpus width (set wanting tail next) (tail + more)
listed_more width wanting tail more next within is few old n lt = elim (cases_eq n tail) [
  | inl e ↦ rw (e, get_or-set_same wanting tail next (record { class = 0; vcpu = 0 }) within) is
  | inr ne ↦ rw (get_or-set_other wanting tail n next (record { class = 0; vcpu = 0 }) ne)
      (old n (omega (arith, lt, few, ne)))
]

pub loop-v-preserved : goal.loop-v-preserved
loop-v-preserved g c =
    let l = load c.args.demands.now in
    let inv = c.loop-v.invariant in
    let few : c.from-tail.result ≤ 1 = rw c.from-tail.ensures (byte_le (ltb c.urgency-class.result 64)) in
    let in_width : c.loop-v.v < l.width = omega (arith, c.loop-v-test.true, c.len-v-end.ensures) in
    record {
      watches = c.urgency-class.ensures.watches;
      wanting = rw length-set inv.wanting;
      most = omega (arith, few, inv.most);
      listed = listed_more l.width c.loop-v.wanting.items c.loop-v.tail c.from-tail.result
          (record { class = c.urgency-class.result; vcpu = c.loop-v.v })
          (omega (arith, inv.most, inv.wanting, in_width)) in_width few inv.listed;
      cost = omega (arith, total-step (is_due l) c.loop-v.v, c.urgency-class.ensures.cost, inv.cost);
    }

pub returns-clause-cost : goal.returns-clause-cost
returns-clause-cost g c =
    let last : c.loop-v.v ≡ (load c.args.demands.now).width =
    omega (arith, c.loop-v-test.false, c.loop-v.auto.v-end, c.len-v-end.ensures) in
    rw last at c.loop-v.invariant.cost
