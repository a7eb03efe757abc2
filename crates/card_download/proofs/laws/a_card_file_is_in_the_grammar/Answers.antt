use Rattle.card_download.proofs.ReadBack.{file_in_grammar, readable}
use Rattle.card_download.proofs.laws.a_card_file_is_in_the_grammar.Goals as goal

pub returns-clause-grammar : goal.returns-clause-grammar
returns-clause-grammar c = file_in_grammar

pub returns-clause-exactly : goal.returns-clause-exactly
returns-clause-exactly c = readable
