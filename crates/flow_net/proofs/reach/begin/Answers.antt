use Rattle.std.proofs.Common.{refl}
use Rattle.flow_net.specs.Flows.{flow_of}
use Rattle.flow_net.specs.Inside.Demanded.{load}
use Rattle.flow_net.proofs.Beginning.{search_begins}
use Rattle.flow_net.proofs.reach.begin.Goals as goal

pub returns-clause-search : goal.returns-clause-search
returns-clause-search c =
    search_begins (load c.args.demands.now) (flow_of c.args.flow.now.rows.items) c.args.u c.args.k _ refl
    c.forget.ensures.none
    (λ v i. c.clear_rows.ensures.none i v)
