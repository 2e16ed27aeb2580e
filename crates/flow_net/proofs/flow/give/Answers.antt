use Rattle.std.proofs.Common.{arith}
use Rattle.flow_net.specs.Inside.Demanded.{load}
use Rattle.flow_net.proofs.Nets.{close_net, lack_place, span_le}
use Rattle.flow_net.proofs.Spans.{job_in}
use Rattle.flow_net.proofs.flow.give.Goals as goal

pub raise_at-requires-clause-room : goal.raise_at-requires-clause-room
raise_at-requires-clause-room c =
    let d = c.args._demands.now in
    omega (arith, span_le (load d) d.ok c.args.j c.requires.interval, c.requires.short)

pub lower_at-requires-clause-at : goal.lower_at-requires-clause-at
lower_at-requires-clause-at c =
    let d = c.args._demands.now in
    let l = load d in
    let f = c.args.flow.now in
    let below = job_in l d.ok c.args.v c.args.j c.requires.vcpu c.requires.interval in
    lack_place l f.rows.items f.lacks.items f.room.items c.args.j c.args.v c.args.k c.requires.net
    c.requires.vcpu
    (rw c.requires.job below)

pub returns-clause-net : goal.returns-clause-net
returns-clause-net c =
    let d = c.args._demands.now in
    let l = load d in
    let f = c.args.flow.now in
    let net = close_net l d.ok f.rows.items f.lacks.items f.room.items c.args.v c.args.j c.requires.net
    c.requires.vcpu
    c.requires.interval c.requires.short (rw c.requires.job at c.requires.lacks) in
    rw c.lower_at.ensures (rw c.raise_at.ensures (rw c.requires.job net))
