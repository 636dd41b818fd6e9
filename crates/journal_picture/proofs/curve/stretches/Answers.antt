use Rattle.std.proofs.Common.{◌≡◌, arith}
use Rattle.std.proofs.lemmas.Grind.{common_steps}
use Rattle.std.proofs.lemmas.List.Elements.{All-same}
use Rattle.journal_picture.specs.Curve.{IsAmong, stretches_of}
use Rattle.journal_picture.proofs.Covered.{stretches_among, stretches_cover}
use Rattle.journal_picture.proofs.curve.stretches.Goals as goal

pub returns-clause-among : goal.returns-clause-among
returns-clause-among c =
    let is : c.push-2.new.self ≡ stretches_of c.args.total c.args.points.now = grind (arith, common_steps) in
    All-same (IsAmong c.args.points.now) c.push-2.new.self (stretches_of c.args.total c.args.points.now) is
    (stretches_among c.args.total c.args.points.now)

pub returns-clause-highest : goal.returns-clause-highest
returns-clause-highest c =
    let is : stretches_of c.args.total c.args.points.now ≡ c.push-2.new.self = grind (arith, common_steps) in
    rw is at (stretches_cover c.args.total c.args.points.now)
