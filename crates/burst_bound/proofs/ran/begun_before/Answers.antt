use Rattle.std.proofs.Common.{ltb, rules}
use Rattle.std.proofs.lemmas.List.Sorted.{IsPartitionPoint-from_clause, IsPartitionedBy-ltb}
use Rattle.burst_bound.specs.Inside.Runs.{place_of}
use Rattle.burst_bound.specs.declared.ran.RanPiece.{RanPiece}
use Rattle.burst_bound.proofs.RanLemmas.{begun_at}
use Rattle.burst_bound.proofs.ran.begun_before.Goals as goal

pub returns : goal.returns
returns c = begun_at c.args.pieces.now c.args.vcpu c.args.tick c.partition_point.result c.partition_point.ensures.bound
    (IsPartitionPoint-from_clause (λ (p : RanPiece). ltb (place_of p.vcpu p.from) (place_of c.args.vcpu c.args.tick)) _ _
    c.partition_point.ensures.partitioned
    (IsPartitionedBy-ltb (λ (p : RanPiece). place_of p.vcpu p.from) c.args.pieces.now
    (place_of c.args.vcpu c.args.tick) c.requires) (λ a r q k. search rules))
