use Rattle.std.proofs.Common.{refl}
use Rattle.load_controller.specs.Journal.{start_line}
use Rattle.load_controller.proofs.Fresh.{start_fits}
use Rattle.load_controller.proofs.laws.start_fits.Goals as goal

pub returns : goal.returns
returns c = λ rules low. start_fits rules.k rules.feeders rules.fixed rules.weights (start_line rules) low refl
