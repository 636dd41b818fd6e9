use Rattle.join_words.proofs.syntax.add_number_or.Goals as goal

pub returns : goal.returns
returns c before have = rw (← c.number_or.ensures.rule) (c.add.ensures before have c.number_or.ensures.local)
