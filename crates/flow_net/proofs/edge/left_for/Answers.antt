use Rattle.std.proofs.Common.{ap, ◌∙◌}
use Rattle.flow_net.specs.Inside.Demanded.{load, net_view}
use Rattle.flow_net.specs.Inside.Edges.{left_at}
use Rattle.flow_net.specs.declared.edge.Edge.TheVariants.{ToInterval, ToJob, ToSink}
use Rattle.flow_net.proofs.EdgeLemmas.{one_edge}
use Rattle.flow_net.proofs.edge.left_for.Goals as goal

pub returns-in-ToJob : goal.returns-in-ToJob
returns-in-ToJob c = λ edge is.
    c.left_for_job.ensures
    ∙ ap (λ e. left_at (net_view c.args.demands.now c.args.flow.now) e c.args.back)
    (one_edge (load c.args.demands.now) c.args.number (ToJob c.in-ToJob.vcpu c.in-ToJob.job) edge
    c.in-ToJob.ensures is)

pub returns-in-ToInterval : goal.returns-in-ToInterval
returns-in-ToInterval c = λ edge is.
    c.left_for_interval.ensures
    ∙ ap (λ e. left_at (net_view c.args.demands.now c.args.flow.now) e c.args.back)
    (one_edge (load c.args.demands.now) c.args.number
    (ToInterval c.in-ToInterval.vcpu c.in-ToInterval.interval) edge c.in-ToInterval.ensures is)

pub returns-in-ToSink : goal.returns-in-ToSink
returns-in-ToSink c = λ edge is.
    c.left_for_sink.ensures
    ∙ ap (λ e. left_at (net_view c.args.demands.now c.args.flow.now) e c.args.back)
    (one_edge (load c.args.demands.now) c.args.number (ToSink c.in-ToSink.interval) edge c.in-ToSink.ensures
    is)
