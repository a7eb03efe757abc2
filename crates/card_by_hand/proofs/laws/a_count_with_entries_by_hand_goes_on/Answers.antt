use Rattle.card_by_hand.proofs.Wider.{entry_wider, expected_wider, retains_wider}
use Rattle.card_by_hand.proofs.laws.a_count_with_entries_by_hand_goes_on.Goals as goal

pub returns-clause-entry : goal.returns-clause-entry
returns-clause-entry c = λ by_hand covered all bare e same wide. entry_wider by_hand covered all bare e same wide

pub returns-clause-expected : goal.returns-clause-expected
returns-clause-expected c = λ by_hand covered next all bare same wide. expected_wider by_hand covered next all bare same wide

pub returns-clause-retains : goal.returns-clause-retains
returns-clause-retains c = λ length slack more marked counted expected all days shown le wide r. retains_wider length slack more marked counted expected all days shown le wide r
