use Rattle.flow_net.specs.Inside.Demanded.{load}
use Rattle.flow_net.proofs.Nets.{lack_place}
use Rattle.flow_net.proofs.Spans.{job_in}
use Rattle.flow_net.proofs.fill.watch_at.Goals as goal

pub read-requires : goal.read-requires
read-requires c =
    let d = c.args.demands.now in
    let f = c.args.flow.now in
    lack_place (load d) f.rows.items f.lacks.items f.room.items (load d).count c.args.v c.job-job.result
    c.requires.net c.requires.vcpu
    (rw c.job-job.ensures (job_in (load d) d.ok c.args.v c.args.at.number c.requires.vcpu
    c.requires.interval))
