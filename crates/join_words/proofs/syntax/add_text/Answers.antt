use Rattle.join_words.proofs.syntax.add_text.Goals as goal

pub returns : goal.returns
returns c before have = rw (← c.text.ensures.rule) (c.add.ensures before have c.text.ensures.local)
