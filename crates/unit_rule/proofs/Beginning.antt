-- A moment of the beginning of a row, as the image says it, is one of the rule's beginning.
use Rattle.std.proofs.Common.{◌≡◌, ◌≢◌, inl, ℕ, List, Some, map, refl, sym, ◌∙◌, ap, arith}
use Rattle.tach_media.specs.Medium.{SameOutside}
use Rattle.unit_minutes.specs.gated_ring.Ring.{IsShape, PointsInside}
use Rattle.unit_minutes.proofs.gated_ring.Elsewhere.{ring_outside, list_elsewhere}
use Rattle.tach_media.proofs.card_layout.Spelled.{number_before}
use Rattle.unit_minutes.specs.unit_model.declared.layout.TheConstants.{LAST_KEPT, OWED}
use Rattle.unit_minutes.specs.unit_model.Days.{days_shown}
use Rattle.unit_minutes.specs.unit_model.Image.{day_ring, last_kept, unit_day, unit_days, recorded}
use Rattle.unit_minutes.specs.unit_owed.Rows.{IsRowBeginning, IsRowBegun}
use Rattle.unit_minutes.proofs.unit_owed.Laws.{view_by_row, begun_view}
use Rattle.unit_minutes.proofs.unit_owed.Taking.{begun_is}
use Rattle.unit_minutes.specs.unit_owed.Owed.{rows_in}
use Rattle.run_unit_course.specs.trace_model.declared.Card.TheVariants.{A, B}
use Rattle.safety_model.specs.device_rule.Views.{unit_view}
use Rattle.safety_model.specs.device_rule.Steps.{IsBeginning, IsBegun}

day_shape : IsShape day_ring
day_shape = record { some = omega arith; gate = omega arith; pointer = omega arith; holds = λ _. omega arith; short = omega arith }

module _ (x c : List ℕ) (outside : SameOutside OWED.place OWED.size x c) where
  pub last_same : last_kept c ≡ last_kept x
  unfolding last_kept
  last_same = number_before OWED.place OWED.size LAST_KEPT.place LAST_KEPT.size x c outside (omega arith)

  pub recorded_same : PointsInside day_ring x → recorded c ≡ recorded x
  unfolding recorded unit_days
  recorded_same known =
      ap (λ (k : ℕ). days_shown k (unit_days c)) last_same
      ∙ ap (λ (l : List (List ℕ)). days_shown (last_kept x) (map unit_day l)) (list_elsewhere day_ring day_shape x c (ring_outside day_ring OWED.place OWED.size x c (inl (omega arith)) outside) known)

module _ (a b : List ℕ) (session : ℕ) (x c : List ℕ) (apart : a ≢ b) (known : PointsInside day_ring x) where
  back : b ≢ a
  back is = apart (sym is)

  pub first_beginning : IsRowBeginning a session (Some b) x c → IsBeginning A (unit_view a b x) (unit_view a b c)
  unfolding unit_view
  first_beginning is = record { days = recorded_same x c is.outside known; last = last_same x c is.outside; other = view_by_row x c b (is.spares b back refl) }

  pub second_beginning : IsRowBeginning b session (Some a) x c → IsBeginning B (unit_view a b x) (unit_view a b c)
  unfolding unit_view
  second_beginning is = record { days = recorded_same x c is.outside known; last = last_same x c is.outside; other = view_by_row x c a (is.spares a apart refl) }

  pub first_begun : IsRowBegun a session (Some b) x c → IsBegun A session (unit_view a b x) (unit_view a b c)
  unfolding unit_view
  first_begun is = let some = begun_is a (Some b) (rows_in x) in record { beginning = first_beginning is.beginning; taken = begun_view a session (Some b) x c is some.0 some.1.0 }

  pub second_begun : IsRowBegun b session (Some a) x c → IsBegun B session (unit_view a b x) (unit_view a b c)
  unfolding unit_view
  second_begun is = let some = begun_is b (Some a) (rows_in x) in record { beginning = second_beginning is.beginning; taken = begun_view b session (Some a) x c is some.0 some.1.0 }
