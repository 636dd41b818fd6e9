use Rattle.text_readings.proofs.Readings.{one_reading}
use Rattle.text_readings.proofs.laws.texts_read_one_way.Goals as goal

pub returns : goal.returns
returns c limits text one other is is' = one_reading limits text one other is is'
