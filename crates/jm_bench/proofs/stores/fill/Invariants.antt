use Rattle.store_parts.specs.Accessed.{IsOwnAccess}
use Rattle.store_parts.specs.Keyed.{IsOwn}
use Rattle.store_parts.specs.Stored.{HaveWidths}
use Rattle.jm_bench.proofs.stores.fill.Given as goal

abbrev pub invariant-loop-number : goal.invariant-loop-number
invariant-loop-number l = record {
  widths : HaveWidths l.theta l.store;
  own : IsOwn l.theta l.store.key;
  access : IsOwnAccess l.theta l.store.access;
}
