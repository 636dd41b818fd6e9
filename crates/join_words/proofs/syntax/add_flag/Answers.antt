use Rattle.join_words.proofs.syntax.add_flag.Goals as goal

pub returns : goal.returns
returns c before have = rw (← c.flag.ensures.rule) (c.add.ensures before have c.flag.ensures.local)
