-- What lists that are mostly short hold.
use Rattle.std.specs.Prelude.{List, []}
use Rattle.row_cells.specs.declared.few.Held.{Held}
use Rattle.row_cells.specs.declared.few.Held.TheVariants as held

-- the items in their order
abbrev pub items_in : {T : Type 0} → Held T → List T
items_in held.None = []
items_in (held.One items) = items
items_in (held.Two items) = items
items_in (held.More items) = items.items
