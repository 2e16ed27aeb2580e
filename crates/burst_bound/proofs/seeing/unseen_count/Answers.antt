use Rattle.std.proofs.Common.{leb, rules}
use Rattle.std.proofs.lemmas.List.Sorted.{IsPartitionPoint-from_clause, IsPartitionedBy-leb}
use Rattle.tab_core.specs.declared.stint.Stint.{Stint}
use Rattle.burst_bound.proofs.UnseenLemmas.{parts_at, seen_rise}
use Rattle.burst_bound.proofs.seeing.unseen_count.Goals as goal

pub returns : goal.returns
returns c = parts_at c.args.event c.partition_point.result c.args.stints.now c.partition_point.ensures.bound
    (IsPartitionPoint-from_clause (λ (s : Stint). leb s.seen c.args.event) _ _
    c.partition_point.ensures.partitioned
    (IsPartitionedBy-leb (λ (s : Stint). s.seen) c.args.stints.now c.args.event
    (seen_rise c.args.stints.now c.requires)) (λ a r q k. search rules))
