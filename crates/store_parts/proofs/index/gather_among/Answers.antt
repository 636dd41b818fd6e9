use Rattle.std.proofs.Common.{◌∙◌, sym}
use Rattle.store_parts.specs.Places.{entries_of}
use Rattle.store_parts.proofs.MapRanges.{gathered-beyond}
use Rattle.store_parts.proofs.index.gather_among.Goals as goal

pub returns-then-is_beyond : goal.returns-then-is_beyond
returns-then-is_beyond c =
    c.new.ensures ∙ sym (gathered-beyond c.args.ends c.args.window (entries_of c.args.map.now) c.requires
    (sym c.is_beyond.ensures ∙ c.if-is_beyond.true))
