use Rattle.std.proofs.Common.{◌≡◌, ◌+◌, [], ◌∷◌, length, length-append, get_or, arith, ap, ◌∙◌, inl, inr}
use Rattle.std.proofs.lemmas.Bool.{cases_eq}
use Rattle.flow_net.specs.Load.{jobs, given}
use Rattle.flow_net.specs.Flows.{flow_of}
use Rattle.flow_net.specs.Inside.Demanded.{load}
use Rattle.flow_net.proofs.Cells.{push_rows, ticks-push_here, ticks-push_else}
use Rattle.flow_net.proofs.opening.lacks_of.Goals as goal

pub loop-v-preserved : goal.loop-v-preserved
loop-v-preserved c =
    let l = load c.args.demands.now in
    let rows = c.loop-v.lacks.items in
    let row = c.in_ok-lacks_of_vcpu.field-0 in
    let inv = c.loop-v.invariant in
    let items = c.in_ok-push.ensures.items in
    let f = flow_of c.args.rows.now.items in
    record {
      len = rw items (length-append rows (row ∷ []) ∙ ap (λ n. n + 1) inv.len);
      widths = rw items (push_rows rows row c.loop-v.v (λ w r. length r
          ≡ jobs l w) inv.len inv.widths c.in_ok-lacks_of_vcpu.ensures.len);
      due = λ w k h lt. rw items (elim (cases_eq w c.loop-v.v) [
        | inl e ↦ (let new = c.in_ok-lacks_of_vcpu.ensures.due k (rw e at lt) in
            let same = ticks-push_here rows row w k (omega (arith, e, inv.len)) in
            let new' : get_or row k 0 + given l f w k ≡ l.cost w = rw e new in
            omega (arith, same, new'))
        | inr ne ↦ omega (
          arith,
          ticks-push_else rows row w k (omega (arith, h, ne, inv.len)),
          inv.due w k
              (omega (arith, h, ne)) lt,
        )
      ]);
    }
