use Rattle.load_controller.proofs.Numbers.{epoch_fits}
use Rattle.load_controller.proofs.KeptCounts.{count_fits, noted_sound}
use Rattle.load_controller.proofs.ledger.Ledger.count.Goals as goal

pub keeps_open-opens-requires : goal.keeps_open-opens-requires
keeps_open-opens-requires c = count_fits c.args.self.now c.requires.sound

pub next_line-line-requires-clause-epoch : goal.next_line-line-requires-clause-epoch
next_line-line-requires-clause-epoch c = let s = c.requires.sound in
    epoch_fits c.args.self.now.k c.args.self.now.line s.k s.bounded

pub note-requires-clause-count : goal.note-requires-clause-count
note-requires-clause-count c = count_fits c.args.self.now c.requires.sound

pub returns-in_err-post_line-clause-sound : goal.returns-in_err-post_line-clause-sound
returns-in_err-post_line-clause-sound c =
    noted_sound c.args.cause c.args.self.now c.note.new.self c.next_line-line.result c.keeps_open-opens.result
    c.requires.sound c.requires.fits c.keeps_open-opens.ensures c.next_line-line.ensures c.in_ok-note.ensures.ok

pub returns-clause-sound : goal.returns-clause-sound
returns-clause-sound c =
    noted_sound c.args.cause c.args.self.now c.note.new.self c.next_line-line.result c.keeps_open-opens.result
    c.requires.sound c.requires.fits c.keeps_open-opens.ensures c.next_line-line.ensures c.in_ok-note.ensures.ok
