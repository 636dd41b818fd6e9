use Rattle.store_parts.proofs.Columns.{FitsKey-width}
use Rattle.store_parts.proofs.store.Store.fits_key.Goals as goal

pub returns : goal.returns
returns c = FitsKey-width c.args.theta.now c.args.self.now.key c.args.tuple.now c.key_law.ensures c.requires.own
    c.requires.width
