use Rattle.std.proofs.Common.{◌≡◌, take, sum_by}
use Rattle.ruled_links.specs.Parts.{known_left}
use Rattle.ruled_links.proofs.parts.sum_of.Given as goal

abbrev pub invariant-loop-part : goal.invariant-loop-part
invariant-loop-part l = l.sum ≡ sum_by known_left (take l.part-index l.parts)
