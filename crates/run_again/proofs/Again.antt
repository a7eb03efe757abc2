-- What a run has left begins a run.
use Rattle.std.proofs.Common.{◌≡◌, ◌∙◌, inl, ℕ, List, Option, Some, None, refl, sym, ap}
use Rattle.trace_model.specs.declared.Card.{Card}
use Rattle.trace_model.specs.declared.Card.TheVariants.{A, B}
use Rattle.log_model.specs.declared.lines.Mark.{Mark}
use Rattle.card_layout.specs.declared.files.Fid.{Fid}
use Rattle.tach_media.specs.Medium.{State}
use Rattle.card_image.specs.Own.{own_bad_file, own_number, IsOwnValid}
use Rattle.safety_model.specs.Recording.{Recording, card_image}
use Rattle.safety_model.specs.Cards.{CardSafe}
use Rattle.safety_model.specs.Safe.{Devices, IsSafe, MayBegin}
use Rattle.run_again.specs.Left.{BeginsWithLeft, IsLaterRun, HasTwoNumbers}

-- the card was valid, or it was not
by_start : {P : Type 0} → (bad : Option (Fid × ℕ)) → (bad ≡ None → P) → ((bad ≡ None → ⊥) → P) → P
by_start None was was_not = was refl
by_start (Some place) was was_not = was_not (λ bad. cc)

-- a card that is valid in an image since was valid at the start, and has its number
has_number : (r : Recording) (c : Card) (marks : List Mark) (since : ℕ) (card : State) → CardSafe r c marks since card → (x : List ℕ) → card.left_since since x → IsOwnValid x →
    IsOwnValid (card_image r c) × (own_number x ≡ own_number (card_image r c))
has_number r c marks since card safe x left valid =
    by_start (own_bad_file (card_image r c))
    (λ was. (was, safe.number was x left))
    (λ was_not. let nothing : ⊥ = was_not (ap own_bad_file (sym (safe.untouched (inl was_not) x left)) ∙ valid) in absurd nothing)

pub begins_again : (r next : Recording) (marks : List Mark) (began now : Devices) → IsSafe r marks began now → HasTwoNumbers r → BeginsWithLeft began now next → IsLaterRun next → MayBegin next
begins_again r next marks began now safe two left later =
    record {
      decodes = safe.unit.decodes next.unit left.of_unit;
      clock = later;
      numbers = λ valid_a valid_b same.
          let of_a = has_number r A marks began.card_a.clock now.card_a (safe.card A) next.card_a left.of_a valid_a in
          let of_b = has_number r B marks began.card_b.clock now.card_b (safe.card B) next.card_b left.of_b valid_b in
          two of_a.0 of_b.0 (sym of_a.1 ∙ (same ∙ of_b.1));
    }
