use Rattle.join_cli.proofs.Past.{past_is_too_long}
use Rattle.join_cli.proofs.laws.past_is_too_long.Goals as goal

pub returns : goal.returns
returns c = λ told spot asked trees old new outcome name place none over is past.
    past_is_too_long told spot asked trees old new outcome name place none over is past
