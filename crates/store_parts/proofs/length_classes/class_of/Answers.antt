use Rattle.std.proofs.Common.{◌∙◌, ap}
use Rattle.std.proofs.lemmas.Int.{to_z-of_z}
use mir.Syntax.{w128}
use Rattle.store_parts.specs.Stands.{class_of}
use Rattle.store_parts.proofs.length_classes.class_of.Goals as goal

pub returns-clause-value : goal.returns-clause-value
unfolding class_of
returns-clause-value c = c.class_from.ensures.value ∙ ap class_of (to_z-of_z w128 c.args.length c.ranges.length)
