use Rattle.std.proofs.Common.{arith}
use Rattle.flow_net.specs.Inside.Demanded.{load}
use Rattle.flow_net.proofs.Nets.{net_place, raised_place, raised_more, shift_net, shift_others, span_le}
use Rattle.flow_net.proofs.flow.shift.Goals as goal

pub raise_at-requires-clause-room : goal.raise_at-requires-clause-room
raise_at-requires-clause-room c =
    let d = c.args._demands.now in
    omega (arith, span_le (load d) d.ok c.args.j c.requires.to, c.requires.short)

pub lower_at-requires-clause-at : goal.lower_at-requires-clause-at
lower_at-requires-clause-at c =
    let l = load c.args._demands.now in
    let f = c.args.flow.now in
    let at_j = net_place l f.rows.items f.lacks.items f.room.items c.args.j c.args.v c.args.j c.requires.net
    c.requires.vcpu c.requires.to in
    let at_p = net_place l f.rows.items f.lacks.items f.room.items c.args.j c.args.v c.args.p c.requires.net
    c.requires.vcpu c.requires.from in
    rw c.raise_at.ensures (raised_place f.rows.items c.args.j c.args.v c.args.p c.args.v at_j at_p)

pub lower_at-requires-clause-some : goal.lower_at-requires-clause-some
lower_at-requires-clause-some c =
    let l = load c.args._demands.now in
    let f = c.args.flow.now in
    let at_j = net_place l f.rows.items f.lacks.items f.room.items c.args.j c.args.v c.args.j c.requires.net
    c.requires.vcpu c.requires.to in
    rw c.raise_at.ensures (omega (
      arith,
      c.requires.some,
      raised_more f.rows.items c.args.j c.args.v c.args.p
          c.args.v at_j,
    ))

pub returns-clause-net : goal.returns-clause-net
returns-clause-net c =
    let l = load c.args._demands.now in
    let f = c.args.flow.now in
    let at_j = net_place l f.rows.items f.lacks.items f.room.items c.args.j c.args.v c.args.j c.requires.net
    c.requires.vcpu c.requires.to in
    rw c.lower_at.ensures (rw c.raise_at.ensures (
    shift_net l f.rows.items f.lacks.items f.room.items c.args.v c.args.j c.args.p c.requires.net
    c.requires.vcpu c.requires.to
    c.requires.from c.requires.short c.requires.same
    (omega (arith, c.requires.some, raised_more f.rows.items c.args.j c.args.v c.args.p c.args.v at_j))))

pub returns-clause-others : goal.returns-clause-others
returns-clause-others c w i ne =
    let l = load c.args._demands.now in
    let f = c.args.flow.now in
    rw c.lower_at.ensures (rw c.raise_at.ensures (
    shift_others l f.rows.items f.lacks.items f.room.items c.args.v c.args.j c.args.p c.requires.net
    c.requires.vcpu c.requires.to
    c.requires.from c.requires.same w i ne))
