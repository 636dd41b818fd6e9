use Rattle.store_parts.proofs.store.find_from.Given as goal

abbrev pub ghosts-look_from : goal.ghosts-look_from
ghosts-look_from g a = record { name = a.blank.name; parts = a.blank.parts }
