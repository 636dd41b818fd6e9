use Rattle.std.proofs.Common.{subst, sym}
use Rattle.store_parts.specs.Places.{IsMapOf}
use Rattle.store_parts.proofs.MapRanges.{sorted_windows}
use Rattle.store_parts.proofs.index.Index.within.Goals as goal

pub returns : goal.returns
returns c = λ values indexed.
    sorted_windows c.args.windows.now c.requires values _ c.in_ok-found.found c.in_ok-rising.rising
    (subst (IsMapOf values) (sym c.self.view_is) indexed) c.in_ok-found.ensures c.in_ok-rising.ensures.same
    c.in_ok-rising.ensures.rising
