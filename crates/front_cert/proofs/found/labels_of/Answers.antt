use Rattle.std.proofs.Common.{drop, length, rules, take, ◌-◌}
use Rattle.std.proofs.lemmas.List.Sorted.{IsPartitionPoint-from_clause}
use Rattle.front_cert.proofs.FoundLemmas.{is_less, is_same, less_partitioned, same_partitioned, labels_there, rest_is}
use Rattle.front_cert.proofs.found.labels_of.Goals as goal

pub returns : goal.returns
returns c =
    let labels = c.args.labels.now in let v = c.args.node.0 in
    let first = c.partition_point-first.result in let count = c.partition_point-count.result in
    let less = is_less labels v c.requires in let same = is_same labels v c.requires in
    let bound = c.partition_point-first.ensures.bound in
    let cut = IsPartitionPoint-from_clause less labels first c.partition_point-first.ensures.partitioned (less_partitioned labels v c.requires) (λ a r f k. search rules) in
    let rest = rest_is labels v c.requires first in
    let there = rw rest at (IsPartitionPoint-from_clause same (take (length labels - first) (drop first labels)) count c.partition_point-count.ensures.partitioned
    (rw rest (same_partitioned labels v c.requires first bound cut)) (λ a r f k. search rules)) in
    let within = rw rest at c.partition_point-count.ensures.bound in
    rw rest (labels_there labels v c.requires first bound cut count within there)
