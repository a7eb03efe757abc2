use Rattle.std.proofs.Common.{◌≡◌, ◌∙◌, ◌+◌, ℕ, [], Option, sym, ap, subst}
use Rattle.card_image.specs.card_model.Image.{oldest_pointer}
use Rattle.card_image.specs.card_model.Walk.{days_of}
use Rattle.card_image.specs.card_model.Changes.{date_of, until, early}
use Rattle.card_image.specs.card_model.Checks.{first_failing}
use Rattle.card_image.specs.Judging.{words_placed, rising_checks}
use Rattle.card_validity.specs.declared.walk.Met.{Met}
use Rattle.card_validity.specs.Walks.{IsLastOf, IsLastMet}
use Rattle.card_validity.specs.Words.{limit_of}
use Rattle.card_validity.proofs.Checking.{cut_rises-none, cut_rises-met}
use Rattle.card_validity.proofs.words.first_of_cut.Goals as goal

pub returns-in-None : goal.returns-in-None
returns-in-None c =
    let r = c.args.days.now.shape in
    let x = c.args.image.now in
    let none : until (date_of c.args.mark) (days_of r x) ≡ [] = subst (λ (o : Option Met). IsLastOf r x (until (date_of c.args.mark) (days_of r x)) o) c.in-None.is c.requires.cut in
    sym (ap first_failing (cut_rises-none r.size (oldest_pointer r x) c.args.mark r x (days_of r x) none))

pub first_not_later-requires-clause-place : goal.first_not_later-requires-clause-place
first_not_later-requires-clause-place c =
    let r = c.args.days.now.shape in
    let x = c.args.image.now in
    let last : IsLastMet r x (until (date_of c.args.mark) (days_of r x)) c.in-Some.met = subst (λ (o : Option Met). IsLastOf r x (until (date_of c.args.mark) (days_of r x)) o) c.in-Some.is c.requires.cut in
    last.met.place

pub first_not_later-requires-clause-near : goal.first_not_later-requires-clause-near
first_not_later-requires-clause-near c =
    let r = c.args.days.now.shape in
    let x = c.args.image.now in
    let last : IsLastMet r x (until (date_of c.args.mark) (days_of r x)) c.in-Some.met = subst (λ (o : Option Met). IsLastOf r x (until (date_of c.args.mark) (days_of r x)) o) c.in-Some.is c.requires.cut in
    last.met.near

pub returns-in-Some : goal.returns-in-Some
returns-in-Some c =
    let r = c.args.days.now.shape in
    let x = c.args.image.now in
    let m = c.in-Some.met in
    let last : IsLastMet r x (until (date_of c.args.mark) (days_of r x)) m = subst (λ (o : Option Met). IsLastOf r x (until (date_of c.args.mark) (days_of r x)) o) c.in-Some.is c.requires.cut in
    let limit : c.limit_of-limit.result ≡ limit_of c.args.mark last.day.date = c.limit_of-limit.ensures ∙ ap (limit_of c.args.mark) last.met.date in
    c.first_not_later.ensures last.older last.day last.met
    ∙ ap (λ (n : ℕ). first_failing (rising_checks (words_placed r.size (oldest_pointer r x) (m.so_far + 12) last.day.date (early n last.day.words)))) limit
    ∙ sym (ap first_failing (cut_rises-met r.size (oldest_pointer r x) c.args.mark r x (days_of r x) m last))
