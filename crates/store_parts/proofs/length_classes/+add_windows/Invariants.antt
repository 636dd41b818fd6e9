use Rattle.store_parts.proofs.length_classes.+add_windows.Given as goal

abbrev pub decreases-add_windows : goal.decreases-add_windows
decreases-add_windows l = l.left
