use Rattle.std.proofs.Common.{◌≡◌, Result, Ok, Err, refl}
use Rattle.join_words.specs.Words.{Asked, asked_of}
use Rattle.join_words.specs.declared.options.WordsFault.{WordsFault}
use Rattle.why_law.specs.Agreement.{SayTheSame}
use Rattle.why_law.proofs.Agreement.{of_asked, of_fault}
use Rattle.why_law.proofs.laws.verdicts_agree.Goals as goal

pub returns : goal.returns
returns g c words looked_old looked_new old new before after verdict outcome quiet judges promises has_memory memory =
    by (asked_of words) refl
  where
    by : (found : Result Asked WordsFault) → asked_of words ≡ found → SayTheSame verdict outcome
    by (Err fault) is =
        of_fault fault verdict outcome (judges.words_fault fault is).0 (promises.words_fault fault is).0
        has_memory memory
    by (Ok asked) is =
        of_asked (g.H.Shelf.told old) quiet.files asked verdict outcome quiet.told
        ((judges.tells asked is).answer quiet.files quiet.told_looked quiet.no_fault_looked)
        ((promises.answers asked is).answer quiet.no_fault quiet.no_fault_sink)
        has_memory memory
