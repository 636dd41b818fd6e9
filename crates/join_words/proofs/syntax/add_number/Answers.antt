use Rattle.join_words.proofs.syntax.add_number.Goals as goal

pub returns : goal.returns
returns c before have = rw (← c.number.ensures.rule) (c.add.ensures before have c.number.ensures.local)
