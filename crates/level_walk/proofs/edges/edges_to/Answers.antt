use Rattle.std.proofs.Common.{leb, rules}
use Rattle.std.proofs.lemmas.List.Sorted.{IsPartitionPoint-from_clause, IsPartitionedBy-leb}
use Rattle.mtx_reader.specs.Places.{Place}
use Rattle.level_walk.proofs.Between.{point_is}
use Rattle.level_walk.proofs.edges.edges_to.Goals as goal

pub returns : goal.returns
returns c =
    let test = λ (edge : Place). leb edge.0 c.args.vertex in
    let parted = IsPartitionedBy-leb (λ (edge : Place). edge.0) _ c.args.vertex c.requires.in_order in
    point_is test c.args.edges.now c.partition_point.result c.partition_point.ensures.bound
    (IsPartitionPoint-from_clause test _ _ c.partition_point.ensures.partitioned parted (λ a r q k. search rules))
