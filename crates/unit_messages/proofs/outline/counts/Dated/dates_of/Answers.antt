use Rattle.std.proofs.Common.{◌≡◌, ◌||◌, not, true, sym, subst}
use Rattle.std.specs.Prelude.{◌==◌}
use Rattle.card_layout.specs.Images.{number_at}
use Rattle.unit_messages.specs.declared.outline.counts.Dated.{Dated}
use Rattle.unit_messages.specs.Chosen.{is_meant}
use Rattle.unit_messages.specs.Counts.{entries_on}
use Rattle.unit_messages.proofs.Dating.{insertion_dates, place_dates}
use Rattle.unit_messages.proofs.outline.counts.Dated.dates_of.Goals as goal

pub returns-in-Insertions : goal.returns-in-Insertions
returns-in-Insertions c = λ date.
    let a = c.date_of.result in
    let b = c.date_of-in-Insertions.result in
    let there = subst (λ (k : Dated). not (number_at c.args.entry.now (entries_on k 0).gate 4 == 0) ≡ true) c.in-Insertions.is c.requires.there in
    subst (λ (k : Dated). is_meant (entries_on k date) c.args.entry.now ≡ (date == a || date == b)) (sym c.in-Insertions.is)
    (insertion_dates date a b c.args.entry.now there (c.date_of.ensures date) (c.date_of-in-Insertions.ensures date))

pub returns-in-Places : goal.returns-in-Places
returns-in-Places c = λ date.
    let a = c.date_of-date.result in
    let there = subst (λ (k : Dated). not (number_at c.args.entry.now (entries_on k 0).gate 4 == 0) ≡ true) c.in-Places.is c.requires.there in
    subst (λ (k : Dated). is_meant (entries_on k date) c.args.entry.now ≡ (date == a || date == a)) (sym c.in-Places.is)
    (place_dates date a c.args.entry.now there (c.date_of-date.ensures date))
