use Rattle.std.proofs.Common.{leb, rules}
use Rattle.std.proofs.lemmas.List.Sorted.{IsPartitionPoint-from_clause, IsPartitionedBy-leb}
use Rattle.table_form.specs.declared.segment.Segment.{Segment}
use Rattle.table_form.proofs.Search.{ends_rise, parts_at}
use Rattle.stint_text.proofs.NearLemmas.{holds_parted}
use Rattle.stint_text.proofs.first_owner.place_near.Goals as goal

pub returns : goal.returns
returns c =
    let ss = c.args.segments.now in
    let tick = c.args.tick in
    holds_parted ss tick c.partition_point.result c.requires.rises c.requires.in_round
    (parts_at ss tick c.partition_point.result c.partition_point.ensures.bound
    (IsPartitionPoint-from_clause (λ (s : Segment). leb s.end tick) _ _
    c.partition_point.ensures.partitioned
    (IsPartitionedBy-leb (λ (s : Segment). s.end) ss tick
    (ends_rise 0 ss _ c.requires.rises)) (λ a r q k. search rules)))
