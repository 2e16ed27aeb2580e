use Rattle.std.proofs.Common.{◌≡◌, ◌+◌, ◌*◌, [], ◌∷◌, length-append, ap, ◌∙◌}
use Rattle.flow_net.specs.Flows.{flow_of}
use Rattle.flow_net.specs.Load.{span, used}
use Rattle.flow_net.specs.Inside.Demanded.{load}
use Rattle.flow_net.proofs.Pushed.{push_numbers}
use Rattle.flow_net.proofs.opening.rooms_of.Goals as goal

pub loop-i-preserved : goal.loop-i-preserved
loop-i-preserved c =
    let l = load c.args.demands.now in
    let f = flow_of c.args.rows.now.items in
    let inv = c.loop-i.invariant in
    let left = c.room_left.result in
    record {
      len = rw c.in_ok-push.ensures.items
          (length-append c.loop-i.room.items (left ∷ []) ∙ ap (λ n. n + 1) inv.len);
      fits = rw c.in_ok-push.ensures.items
          (push_numbers c.loop-i.room.items left c.loop-i.i (λ j x. x + used l f j ≡ l.cores * span l j)
          inv.len inv.fits c.room_left.ensures);
    }
