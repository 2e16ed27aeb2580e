use Rattle.std.proofs.Common.{◌≡◌, ◌+◌, [], ◌∷◌, length, length-append, arith, ap, ◌∙◌}
use Rattle.flow_net.specs.Inside.Demanded.{load}
use Rattle.flow_net.proofs.Cells.{push_rows}
use Rattle.flow_net.proofs.making.blank.Goals as goal

pub loop-preserved : goal.loop-preserved
loop-preserved c =
    let inv = c.loop.invariant in
    let rows = c.loop.scans.items in
    let row = c.in_ok-zeros.field-0 in
    let d = c.args.demands.now in
    record {
      near = rw c.in_ok-push.ensures.items (length-append c.loop.near.items _ ∙ ap (λ n. n + 1) inv.near);
      scans = rw c.in_ok-push-2.ensures.items (length-append rows (row ∷ []) ∙ ap (λ n. n + 1) inv.scans);
      scan = rw c.in_ok-push-2.ensures.items (push_rows rows row c.loop.counter (λ i r. length r
          ≡ (load d).width) inv.scans inv.scan
          (c.in_ok-zeros.ensures ∙ c.len.ensures ∙ omega (arith, d.costs.ok.0)));
      queue = rw c.in_ok-push-3.ensures.items (length-append c.loop.queue.items _
          ∙ ap (λ n. n + 1) inv.queue);
    }
