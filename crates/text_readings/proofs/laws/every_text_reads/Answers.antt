use Rattle.text_readings.proofs.Readings.{every_text}
use Rattle.text_readings.proofs.laws.every_text_reads.Goals as goal

pub returns : goal.returns
returns c limits text = every_text limits text
