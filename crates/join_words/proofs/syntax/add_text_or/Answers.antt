use Rattle.join_words.proofs.syntax.add_text_or.Goals as goal

pub returns : goal.returns
returns c before have = rw (← c.text_or.ensures.rule) (c.add.ensures before have c.text_or.ensures.local)
