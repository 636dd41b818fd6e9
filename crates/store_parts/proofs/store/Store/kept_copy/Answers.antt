use Rattle.std.proofs.Common.{rules}
use Rattle.migration_plan.specs.Steps.{holds}
use Rattle.store_parts.proofs.Sides.{AreSided-filter}
use Rattle.store_parts.proofs.store.Store.kept_copy.Goals as goal

pub invariant_of-result : goal.invariant_of-result
invariant_of-result c = (
  AreSided-filter (holds c.args.shape.k c.args.shape.shift c.args.id)
      c.self.inside.r.tuples c.self.inside.s.tuples _ _ c.self.invariant.0 (search rules) (search rules),
  search rules,
  search rules,
)
