use Rattle.trace_law.proofs.Links.{none_sent, none_received}
use Rattle.trace_law.proofs.laws.no_link_no_message.Goals as goal

pub returns : goal.returns
returns c = λ input setting rest f valid stands agrees i j h h' apart.
    let none = none_sent input setting valid.some rest f agrees i j h apart in
    (none, none_received input setting valid.some rest f agrees i j h h' none)
