use Rattle.std.proofs.Common.{List, ℕ, ◌∙◌, ◌++◌, ap}
use Rattle.std.specs.Prelude.{codes}
use Rattle.card_match.specs.Text.{place_words}
use Rattle.card_match.proofs.text.differs_text.Goals as goal

pub returns : goal.returns
returns c = (
  c.day_text-date.result.items,
  c.day_text-date.ensures,
  c.in_ok-write_place.ensures
      ∙ ap (λ (l : List ℕ). l ++ place_words c.args.minute c.args.slot)
      (c.in_ok-extend_from_slice-2.ensures.items
      ∙ ap (λ (l : List ℕ). c.extend_from_slice.new.self.items ++ l) c.as_slice.ensures.value
      ∙ ap (λ (l : List ℕ). l ++ c.day_text-date.result.items) (c.in_ok-extend_from_slice.ensures.items ∙ ap (λ (l : List ℕ). l ++ codes "differs ") c.new-text.ensures.items)),
)
