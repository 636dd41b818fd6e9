use Rattle.std.proofs.Common.{sym}
use Rattle.theta_text.proofs.Fronts.{next_some, next_none}
use Rattle.theta_text.proofs.lexer.next_kind.Goals as goal

pub returns-in-Some-clause-next : goal.returns-in-Some-clause-next
returns-in-Some-clause-next c = (next_some c.args.text.now c.in-Some.kind c.in-Some.len (sym c.in-Some.ensures)).0

pub returns-in-Some-clause-within : goal.returns-in-Some-clause-within
returns-in-Some-clause-within c = (next_some c.args.text.now c.in-Some.kind c.in-Some.len (sym c.in-Some.ensures)).1

pub returns-in-Some-clause-some : goal.returns-in-Some-clause-some
returns-in-Some-clause-some c = (next_some c.args.text.now c.in-Some.kind c.in-Some.len (sym c.in-Some.ensures)).2

pub returns-in-None-clause-next : goal.returns-in-None-clause-next
returns-in-None-clause-next c = next_none c.args.text.now (sym c.in-None.ensures)
