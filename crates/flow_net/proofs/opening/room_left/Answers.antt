use Rattle.std.proofs.Common.{◌≡◌, refl, arith}
use Rattle.flow_net.specs.Load.{span}
use Rattle.flow_net.specs.Inside.Demanded.{load}
use Rattle.flow_net.proofs.Opened.{offered}
use Rattle.flow_net.proofs.opening.room_left.Goals as goal

pub overflow_mul-offered : goal.overflow_mul-offered
overflow_mul-offered c =
    omega (arith, offered c.args.demands.now c.args.i c.length.result c.requires.interval c.length.ensures)

pub row_sum-taken-requires-clause-small : goal.row_sum-taken-requires-clause-small
row_sum-taken-requires-clause-small c =
    let d = c.args.demands.now in
    let width : c.len.result ≡ (load d).width = omega (arith, c.len.ensures, d.costs.ok.0) in
    let most = offered d c.args.i (span (load d) c.args.i) c.requires.interval refl in
    rw width (omega (arith, most, c.requires.fits))
