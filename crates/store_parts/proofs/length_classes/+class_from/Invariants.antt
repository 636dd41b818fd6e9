use Rattle.store_parts.proofs.length_classes.+class_from.Given as goal

abbrev pub decreases-class_from : goal.decreases-class_from
decreases-class_from l = l.left
