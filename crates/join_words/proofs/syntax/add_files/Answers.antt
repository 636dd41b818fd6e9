use Rattle.join_words.proofs.syntax.add_files.Goals as goal

pub returns : goal.returns
returns c before have = rw (← c.files.ensures.rule) (c.add.ensures before have c.files.ensures.local)
