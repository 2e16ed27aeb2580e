-- The edges of a network, by their numbers.
use Rattle.std.specs.Prelude.{ℕ, Bool}
use Rattle.flow_net.specs.Load.{Load}
use Rattle.flow_net.specs.Networks.{IsToInterval, IsToJob, IsToSink, NetView, left_to_interval, left_to_job, left_to_sink}
use Rattle.flow_net.specs.declared.edge.Edge.{Edge}
use Rattle.flow_net.specs.declared.edge.Edge.TheVariants.{ToInterval, ToJob, ToSink}

-- the number is the edge's
abbrev pub IsEdge : Load → ℕ → Edge → Type 0
IsEdge l n (ToJob v k) = IsToJob l n v k
IsEdge l n (ToInterval v i) = IsToInterval l n v i
IsEdge l n (ToSink i) = IsToSink l n i

-- what it can still take, or give back
abbrev pub left_at : NetView → Edge → Bool → ℕ
left_at net (ToJob v k) back = left_to_job net v k back
left_at net (ToInterval v i) back = left_to_interval net v i back
left_at net (ToSink i) back = left_to_sink net i back
