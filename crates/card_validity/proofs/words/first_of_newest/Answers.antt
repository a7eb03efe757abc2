use Rattle.std.proofs.Common.{◌≡◌, ◌∙◌, List, [], Option, sym, ap, subst}
use Rattle.card_image.specs.card_model.Days.{Day}
use Rattle.card_image.specs.card_model.Image.{oldest_pointer}
use Rattle.card_image.specs.card_model.Walk.{days_of}
use Rattle.card_image.specs.card_model.Checks.{first_failing}
use Rattle.card_image.specs.Judging.{newest_rises}
use Rattle.card_validity.specs.declared.walk.Met.{Met}
use Rattle.card_validity.specs.Walks.{IsLastOf, IsLastMet}
use Rattle.card_validity.proofs.Checking.{newest_rises-met}
use Rattle.card_validity.proofs.words.first_of_newest.Goals as goal

pub returns-in-None : goal.returns-in-None
returns-in-None c =
    let r = c.args.days.now.shape in
    let x = c.args.image.now in
    let none : days_of r x ≡ [] = subst (λ (o : Option Met). IsLastOf r x (days_of r x) o) c.in-None.is c.requires.newest in
    sym (ap (λ (ds : List Day). first_failing (newest_rises r.size (oldest_pointer r x) 0 ds)) none)

pub first_not_later-requires-clause-place : goal.first_not_later-requires-clause-place
first_not_later-requires-clause-place c =
    let r = c.args.days.now.shape in
    let x = c.args.image.now in
    let last : IsLastMet r x (days_of r x) c.in-Some.met = subst (λ (o : Option Met). IsLastOf r x (days_of r x) o) c.in-Some.is c.requires.newest in
    last.met.place

pub first_not_later-requires-clause-near : goal.first_not_later-requires-clause-near
first_not_later-requires-clause-near c =
    let r = c.args.days.now.shape in
    let x = c.args.image.now in
    let last : IsLastMet r x (days_of r x) c.in-Some.met = subst (λ (o : Option Met). IsLastOf r x (days_of r x) o) c.in-Some.is c.requires.newest in
    last.met.near

pub returns-in-Some : goal.returns-in-Some
returns-in-Some c =
    let r = c.args.days.now.shape in
    let x = c.args.image.now in
    let last : IsLastMet r x (days_of r x) c.in-Some.met = subst (λ (o : Option Met). IsLastOf r x (days_of r x) o) c.in-Some.is c.requires.newest in
    c.first_not_later.ensures last.older last.day last.met ∙ sym (ap first_failing (newest_rises-met r.size (oldest_pointer r x) r x (days_of r x) c.in-Some.met last))
