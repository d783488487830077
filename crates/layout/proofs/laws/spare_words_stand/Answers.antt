use Rattle.layout.proofs.Spare.{spare-words}
use Rattle.layout.proofs.laws.spare_words_stand.Goals as goal

pub returns : goal.returns
returns c = spare-words
