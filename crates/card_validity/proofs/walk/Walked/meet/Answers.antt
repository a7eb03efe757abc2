use Rattle.std.proofs.Common.{◌≡◌, ◌∙◌, ◌+◌, ℕ, Bool, true, false, cond, [], ◌∷◌, ◌++◌, Option, Some, sym, ap, subst}
use Rattle.std.specs.Prelude.{nat_le}
use Rattle.card_image.specs.card_model.Days.{total}
use Rattle.card_image.specs.card_model.Image.{oldest_pointer}
use Rattle.card_image.specs.card_model.Changes.{date_of}
use Rattle.card_image.specs.Judging.{days_placed, words_placed}
use Rattle.card_validity.specs.declared.walk.Met.{Met}
use Rattle.card_validity.specs.Words.{IsBehind, HasMet}
use Rattle.card_validity.proofs.Meeting.{met_more}
use Rattle.card_validity.proofs.walk.Walked.meet.Goals as goal

pub returns : goal.returns
returns c = λ older d met has.
    let r = c.args.days.now.shape in
    let x = c.args.image.now in
    let o = oldest_pointer r x in
    let mark = c.args.mark in
    let late : cond (nat_le d.date (date_of mark)) false true ≡ c.is_later_day-late.result = sym (c.is_later_day-late.ensures ∙ ap (λ (n : ℕ). cond (nat_le n (date_of mark)) false true) met.date) in
    let seen : IsBehind mark (days_placed r.size o 0 older ++ words_placed r.size o (total older + 12) d.date d.words) c.see_words-behind.result =
    subst (λ (n : ℕ). IsBehind mark (days_placed r.size o 0 older ++ words_placed r.size o (n + 12) d.date d.words) c.see_words-behind.result) met.so_far (c.see_words-behind.ensures older d met (days_placed r.size o 0 older) has.behind) in
    let whole = met_more r x mark older d c.args.met met c.args.self c.see_words-behind.result c.is_later_day-late.result late has seen in
    subst (λ (q : Option Met). HasMet r x mark (older ++ d ∷ []) (record { behind = c.see_words-behind.result; past = c.either-past.result; cut = q; newest = Some c.args.met })) (sym c.last_counting.ensures)
    (subst (λ (p : Bool). HasMet r x mark (older ++ d ∷ []) (record { behind = c.see_words-behind.result; past = p; cut = cond p c.args.self.cut (Some c.args.met); newest = Some c.args.met })) (sym c.either-past.ensures) whole)
