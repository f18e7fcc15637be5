use Rattle.event_words.proofs.Reading.{exactly}
use Rattle.event_words.proofs.laws.words_are_read_again.Goals as goal

pub returns : goal.returns
returns c = exactly
