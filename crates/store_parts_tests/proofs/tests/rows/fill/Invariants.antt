use Rattle.store_parts.specs.Accessed.{IsOwnAccess}
use Rattle.store_parts.specs.Keyed.{IsOwn}
use Rattle.store_parts.specs.Stored.{HaveWidths}
use Rattle.store_parts_tests.proofs.tests.rows.fill.Given as goal

abbrev pub invariant-loop-line : goal.invariant-loop-line
invariant-loop-line l = record {
  widths : HaveWidths l.theta l.store;
  own : IsOwn l.theta l.store.key;
  access : IsOwnAccess l.theta l.store.access;
}
