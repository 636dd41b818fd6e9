use Rattle.std.proofs.Common.{◌≡◌, ◌-◌, ◌≤◌, ◌+◌, ◌^◌, List, ℕ, Some, length, take}
use Rattle.join_rows.specs.Shelves.{Lacks, Tells}
use Rattle.join_rows.proofs.read.read_whole.Given as goal

abbrev pub invariant-pieces : goal.invariant-pieces
invariant-pieces g l = record {
  told : g.H.Shelf.told l.shelf ≡ g.H.Shelf.told l.fn.shelf;
  count : g.H.Shelf.faults l.shelf ≡ g.H.Shelf.faults l.fn.shelf;
  sound : g.H.Shelf.sound l.fn.shelf → g.H.Shelf.sound l.shelf;
  known : Lacks (g.H.Shelf.told l.fn.shelf) l.fn.name → ⊥;
  spot : g.H.Shelf.picked l.shelf ≡ Some (l.fn.name, length l.bytes.items);
  few : length l.bytes.items ≤ 2 ^ 24 + 1;
  so_far : (file : List ℕ) → Tells (g.H.Shelf.told l.fn.shelf) l.fn.name file → (length l.bytes.items ≤ length file)
      × (l.bytes.items ≡ take (length l.bytes.items) file);
}

abbrev pub decreases-pieces : goal.decreases-pieces
decreases-pieces g l = 2 ^ 24 + 1 - length l.bytes.items
