use Rattle.std.proofs.Common.{◌≡◌, ◌*◌, ap, arith}
use Rattle.std.proofs.lemmas.List.{get_or_read}
use Rattle.flow_net.specs.Load.{span}
use Rattle.flow_net.specs.Inside.Demanded.{load}
use Rattle.flow_net.proofs.Opened.{offered}
use Rattle.flow_net.proofs.edge.left_for_sink.Goals as goal

pub overflow_mul-offered : goal.overflow_mul-offered
overflow_mul-offered c =
    omega (arith, offered c.args.demands.now c.args.i c.length.result c.requires.interval c.length.ensures)

pub overflow_sub-result : goal.overflow_sub-result
overflow_sub-result c =
    let room = get_or_read c.args.flow.now.room.items c.args.i _
    (omega (arith, c.requires.interval, c.requires.net.room_len)) c.index-room.ensures 0 in
    let product : c.args.demands.now.cores * c.length.result
    ≡ c.args.demands.now.cores * span (load c.args.demands.now) c.args.i
    = ap (λ n. c.args.demands.now.cores * n) c.length.ensures in
    omega (arith, c.requires.net.flow.fits c.args.i c.requires.interval, room, product)
