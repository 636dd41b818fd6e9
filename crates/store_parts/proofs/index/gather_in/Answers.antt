use Rattle.std.proofs.Common.{◌∙◌, ap, pos, ◌++◌}
use Rattle.store_parts.specs.declared.places.Window.{Window}
use Rattle.store_parts.specs.Places.{entries_of}
use Rattle.store_parts.proofs.MapRanges.{one_window_more}
use Rattle.store_parts.proofs.index.gather_in.Goals as goal

pub loop-window-preserved : goal.loop-window-preserved
loop-window-preserved c =
    let d : Window = record { from = pos 0; to = pos 0 } in
    one_window_more c.args.windows.now c.loop-window.window-index d (entries_of c.args.map.now)
    c.loop-window.found
    c.in_ok-more.more c.append.new.self _ c.loop-window-test.true c.loop-window.invariant
    c.in_ok-more.ensures (c.in_ok-append.ensures ∙ ap (λ xs. c.loop-window.found ++ xs)
    c.as_slice.ensures)
