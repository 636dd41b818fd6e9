use Rattle.ruled_links.proofs.mailbox.Inbox.open.Given as goal

abbrev pub ghosts-new_pass : goal.ghosts-new_pass
ghosts-new_pass a = record { number = a.sender }
