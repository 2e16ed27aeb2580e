use Rattle.std.proofs.Common.{arith}
use Rattle.flow_net.specs.Inside.Demanded.{load}
use Rattle.flow_net.proofs.Nets.{lack_place}
use Rattle.flow_net.proofs.Searched.{lacks_less}
use Rattle.flow_net.proofs.Spans.{job_in}
use Rattle.flow_net.proofs.fill.hand_out.Goals as goal

pub read-lack-requires : goal.read-lack-requires
read-lack-requires c =
    let d = c.args.demands.now in
    let f = c.args.flow.now in
    lack_place (load d) f.rows.items f.lacks.items f.room.items (load d).count c.args.v c.job-k.result
    c.requires.net c.requires.vcpu
    (rw c.job-k.ensures (job_in (load d) d.ok c.args.v c.args.i c.requires.vcpu c.requires.interval))

pub returns-clause-lacks : goal.returns-clause-lacks
returns-clause-lacks c =
    let d = c.args.demands.now in
    let f = c.args.flow.now in
    let less = lacks_less (load d) f.rows.items f.lacks.items f.room.items (load d).count c.args.v
    c.job-k.result c.requires.net c.requires.vcpu
    (rw c.job-k.ensures (job_in (load d) d.ok c.args.v c.args.i c.requires.vcpu c.requires.interval))
    (omega (arith, c.read-lack.ensures, c.if-lack-eq0.false)) in
    rw c.give.ensures.lacks (rw c.take_room.ensures.lacks (omega (arith, less)))
