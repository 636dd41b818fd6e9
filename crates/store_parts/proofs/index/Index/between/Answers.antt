use Rattle.std.proofs.Common.{subst, sym}
use Rattle.store_parts.specs.Places.{IsMapOf}
use Rattle.store_parts.proofs.MapRanges.{sorted_places}
use Rattle.store_parts.proofs.index.Index.between.Goals as goal

pub returns : goal.returns
returns c = λ values indexed.
    sorted_places c.args.from c.args.to values _ c.in_ok-found.found c.in_ok-rising.rising
    (subst (IsMapOf values) (sym c.self.view_is) indexed) c.in_ok-found.ensures c.in_ok-rising.ensures.same
    c.in_ok-rising.ensures.rising
