use Rattle.report_picture.specs.Drawing.{grown_words_of}
use Rattle.report_picture.proofs.words.write_grown.Goals as goal

pub returns : goal.returns
unfolding grown_words_of
returns c = c.write.ensures.bytes
