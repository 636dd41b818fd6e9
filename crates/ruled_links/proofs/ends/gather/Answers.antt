use Rattle.std.proofs.Common.{rules}
use Rattle.ruled_links.proofs.OrderLemmas.{meets, looks, parts, left_of}
use Rattle.ruled_links.proofs.ends.gather.Goals as goal

pub absorb-requires-clause-rule : goal.absorb-requires-clause-rule
absorb-requires-clause-rule g c = meets _ _ _ _ (search rules) (search rules)

pub len_as-left-requires-clause-rule : goal.len_as-left-requires-clause-rule
len_as-left-requires-clause-rule g c = looks _ _ (search rules) (search rules)

pub another-requires-clause-rule : goal.another-requires-clause-rule
another-requires-clause-rule g c = parts _ _ (search rules) (search rules)

pub returns-clause-left : goal.returns-clause-left
returns-clause-left g c = left_of c.absorb.new.pass.me.view.client (search rules) (search rules) (search rules)
