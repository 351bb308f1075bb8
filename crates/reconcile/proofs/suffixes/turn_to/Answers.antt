use Rattle.reconcile.proofs.Common.{ltb, rules, IsPartitionPoint-from_clause, IsPartitionedBy-ltb}
use Rattle.reconcile.specs.declared.suffixes.Suffix.{Suffix}
use Rattle.reconcile.proofs.Turned.{rise-sorted, turned-at}
use Rattle.reconcile.proofs.suffixes.turn_to.Goals as goal

pub returns : goal.returns
returns c =
    let starts = IsPartitionPoint-from_clause (λ (x : Suffix). ltb x.owner c.args.rotation) _ _ c.partition_point-start.ensures.partitioned (IsPartitionedBy-ltb (λ x. x.owner) _ c.args.rotation (rise-sorted c.args.suffixes.now c.requires)) (λ a r q k. search rules) in
    turned-at c.args.rotation c.args.suffixes.now c.rotate_left.new.self c.partition_point-start.result c.partition_point-start.ensures.bound starts c.rotate_left.ensures.after
