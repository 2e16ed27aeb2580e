use Rattle.std.proofs.Common.{◌≡◌, ℕ, subst}
use Rattle.flow_net.specs.Networks.{IsToInterval, IsToJob, IsToSink, NetView, left_to_interval, left_to_job, left_to_sink, load_of_view}
use Rattle.flow_net.specs.declared.edge.Edge.TheVariants.{ToInterval, ToJob, ToSink}
use Rattle.flow_net.proofs.net.Net.left.Goals as goal

pub returns-clause-to_job : goal.returns-clause-to_job
returns-clause-to_job g c =
    subst (λ (n : NetView). (v k : ℕ) → IsToJob (load_of_view n.demands) c.args.edge v k
    → c.left_for.result ≡ left_to_job n v k c.args.back)
    c.self.view_is (λ v k is. c.left_for.ensures (ToJob v k) is)

pub returns-clause-to_interval : goal.returns-clause-to_interval
returns-clause-to_interval g c =
    subst (λ (n : NetView). (v i : ℕ) → IsToInterval (load_of_view n.demands) c.args.edge v i
    → c.left_for.result ≡ left_to_interval n v i c.args.back)
    c.self.view_is (λ v i is. c.left_for.ensures (ToInterval v i) is)

pub returns-clause-to_sink : goal.returns-clause-to_sink
returns-clause-to_sink g c =
    subst (λ (n : NetView). (i : ℕ) → IsToSink (load_of_view n.demands) c.args.edge i
    → c.left_for.result ≡ left_to_sink n i c.args.back)
    c.self.view_is (λ i is. c.left_for.ensures (ToSink i) is)
