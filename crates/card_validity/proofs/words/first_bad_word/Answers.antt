use Rattle.std.proofs.Common.{◌≡◌, ◌∙◌, ℕ, true, false, Option, sym, ap, arith}
use Rattle.std.specs.Prelude.{nat_eq}
use Rattle.std.proofs.lemmas.Grind.{common_steps}
use Rattle.card_image.specs.card_model.Image.{oldest_pointer}
use Rattle.card_image.specs.card_model.Walk.{days_of}
use Rattle.card_image.specs.card_model.Changes.{trimmed}
use Rattle.card_image.specs.card_model.Checks.{first_failing}
use Rattle.card_image.specs.Judging.{newest_rises, words_behind_mark, days_placed}
use Rattle.card_validity.specs.Words.{first_of}
use Rattle.card_validity.proofs.Behinds.{behind_answer}
use Rattle.card_validity.proofs.Checking.{checks_open, checks_closed}
use Rattle.card_validity.proofs.words.first_bad_word.Goals as goal

pub returns-then-session-ne0 : goal.returns-then-session-ne0
returns-then-session-ne0 c =
    let r = c.args.days.now.shape in
    let x = c.args.image.now in
    let unclosed : nat_eq c.args.session 0 ≡ false = grind (arith, common_steps) in
    c.first_of_cut-cut.ensures ∙ sym (checks_open r.size (oldest_pointer r x) c.args.mark c.args.session (days_of r x) unclosed)

pub returns : goal.returns
returns c =
    let r = c.args.days.now.shape in
    let x = c.args.image.now in
    let o = oldest_pointer r x in
    let ds = days_of r x in
    let m = c.args.mark in
    let closed : nat_eq c.args.session 0 ≡ true = grind (arith, common_steps) in
    let behind : c.answer.result ≡ first_failing (words_behind_mark m (days_placed r.size o 0 ds)) = c.answer.ensures ∙ behind_answer m (days_placed r.size o 0 ds) c.walk-walked.result.behind c.walk-walked.ensures.behind in
    c.first_of.ensures ∙ ap (λ (q : Option ℕ). first_of q c.first_of-rising.result) behind ∙ ap (λ (q : Option ℕ). first_of (first_failing (words_behind_mark m (days_placed r.size o 0 ds))) q) (
    c.first_of-rising.ensures ∙ ap (λ (q : Option ℕ). first_of q c.first_of_newest-newest.result) c.first_of_cut-cut.ensures
    ∙ ap (λ (q : Option ℕ). first_of (first_failing (newest_rises r.size o 0 (trimmed m ds))) q) c.first_of_newest-newest.ensures
    ) ∙ sym (checks_closed r.size o m c.args.session ds closed)
