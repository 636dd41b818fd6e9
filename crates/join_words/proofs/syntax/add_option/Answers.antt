use Rattle.join_words.proofs.syntax.add_option.Goals as goal

pub returns : goal.returns
returns c before have = rw (← c.option.ensures.rule) (c.add.ensures before have c.option.ensures.local)
