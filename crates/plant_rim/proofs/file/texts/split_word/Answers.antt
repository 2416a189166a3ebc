use Rattle.plant_rim.proofs.Words.{no_rest, only_word, parted_rest, parted_word}
use Rattle.plant_rim.proofs.file.texts.split_word.Goals as goal

pub returns-in-Some-clause-word : goal.returns-in-Some-clause-word
returns-in-Some-clause-word c = parted_word _ _ _ _ c.in-Some.is c.split_once.ensures.cases

pub returns-in-Some-clause-rest : goal.returns-in-Some-clause-rest
returns-in-Some-clause-rest c = parted_rest _ _ _ _ c.in-Some.is c.split_once.ensures.cases

pub returns-in-None-clause-word : goal.returns-in-None-clause-word
returns-in-None-clause-word c = only_word _ _ c.in-None.is c.split_once.ensures.cases

pub returns-in-None-clause-rest : goal.returns-in-None-clause-rest
returns-in-None-clause-rest c = no_rest _ _ c.in-None.is c.split_once.ensures.cases
