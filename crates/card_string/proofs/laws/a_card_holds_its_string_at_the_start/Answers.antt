use Rattle.card_by_hand.specs.card_image.Fields.{card_days, end_mark}
use Rattle.card_by_hand.specs.card_image.Own.{own_sizes}
use Rattle.card_by_hand.specs.card_model.Changes.{trimmed}
use Rattle.card_string.proofs.Small.{card_small, trimmed_small, last_of_small}
use Rattle.card_string.proofs.Start.{starts_open, starts_shut}
use Rattle.card_string.proofs.laws.a_card_holds_its_string_at_the_start.Goals as goal

pub returns-clause-open : goal.returns-clause-open
returns-clause-open c = λ image brought next bytes are follow after session.
    starts_open image brought next follow are after session
    (last_of_small (trimmed (end_mark (own_sizes image) image) (card_days (own_sizes image) image)) (trimmed_small (end_mark (own_sizes image) image) (card_days (own_sizes image) image) (card_small (own_sizes image) image bytes)))

pub returns-clause-shut : goal.returns-clause-shut
returns-clause-shut c = λ image brought next bytes are follow valid none after.
    starts_shut image brought next follow are valid none after (last_of_small (card_days (own_sizes image) image) (card_small (own_sizes image) image bytes))
