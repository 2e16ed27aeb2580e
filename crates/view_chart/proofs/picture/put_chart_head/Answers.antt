use Rattle.std.proofs.Common.{subst, ℕ, length}
use Rattle.tab_io.specs.Sinks.{Writes}
use Rattle.view_chart.specs.Charts.{tall_of}
use Rattle.view_chart.specs.Heads.{head_text}
use Rattle.view_chart.specs.Legends.{listed_in}
use Rattle.view_lanes.specs.declared.titles.Head.{Head}
use Rattle.view_chart.proofs.picture.put_chart_head.Goals as goal

pub returns : goal.returns
returns g c =
    let tall = subst (λ (t : ℕ). Writes {U = Unit {0}} (g.K.Sink.state c.args.sink.now)
    (g.K.Sink.state c.put_head.new.sink) (head_text c.args.width t c.head_in-head.result) c.put_head.result)
    c.tall_of.ensures c.put_head.ensures in
    let listed = subst (λ (k : ℕ). Writes {U = Unit {0}} (g.K.Sink.state c.args.sink.now)
    (g.K.Sink.state c.put_head.new.sink)
    (head_text c.args.width (tall_of (length c.args.lanes.now) k) c.head_in-head.result) c.put_head.result)
    c.listed_in-keys.ensures.value tall in
    subst (λ (h : Head). Writes {U = Unit {0}} (g.K.Sink.state c.args.sink.now)
    (g.K.Sink.state c.put_head.new.sink)
    (head_text c.args.width (tall_of (length c.args.lanes.now) (listed_in c.args.lanes.now c.args.names.now)) h)
    c.put_head.result) c.head_in-head.ensures listed
