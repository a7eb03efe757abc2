-- The marks of a card that has kept an entry, and those of the others.
use Rattle.std.proofs.Common.{◌≡◌, ◌-◌, ◌+◌, ◌∙◌, ℕ, ◌<◌, ◌≤◌, List, [], ◌∷◌, ◌++◌, All, Contains, Some, refl, ap, sym, subst, arith}
use Rattle.std.proofs.lemmas.List.{append-nil}
use Rattle.std.proofs.lemmas.List.Elements.{filter-append, All-weaker, All-push, All-head, All-tail}
use Rattle.activity_codec.specs.declared.entries.Entry.{Entry}
use Rattle.trace_model.specs.declared.Card.{Card}
use Rattle.trace_model.specs.declared.Card.TheVariants.{A, B}
use Rattle.run_model.specs.declared.Device.TheVariants.{Unit as Recorder, CardA, CardB}
use Rattle.tach_media.specs.Medium.{State, IsCoherent, IsSettled, LeavesOnly}
use Rattle.log_model.specs.declared.lines.Mark.{Mark}
use Rattle.log_model.specs.Causes.{device_of}
use Rattle.hand_model.specs.card_image.View.{CardView}
use Rattle.hand_model.specs.card_image.Own.{IsOwnValid, own_view, own_sizes}
use Rattle.run_devices.specs.history_model.Minutes.{card_history}
use Rattle.run_devices.specs.history_model.Book.{Book}
use Rattle.run_devices.specs.device_rule.Views.{other}
use Rattle.run_devices.specs.device_rule.Device.{LeavesViews, EndsWith}
use Rattle.run_devices.specs.device_rule.Steps.{IsOnCard, IsNowOnCard}
use Rattle.run_devices.specs.device_rule.Marked.{of_card, AnyAdded}
use Rattle.run_devices.proofs.device_rule.Staying.{kept-marks, kept-marked}
use Rattle.run_devices.specs.safety_model.Unit.{marks_of, is_of, Increase}
use Rattle.run_devices.specs.run_promise.Found.{CardFound}
use Rattle.device_calls.specs.unit_rule.Cards.{mark_writes, IsPromptOn}
use Rattle.run_devices.specs.run_promise.Cards.{IsCardHeld, CardMarksHold}
use Rattle.device_calls.specs.card_string.Deeds.{IsMadeSince}
use Rattle.run_devices.proofs.OnCards.{prompt-on, stood-on, stood-now}
use Rattle.run_minutes.specs.Keeping.{Fate, Still, Has, Fell, marks_by}

-- ---- whose marks they are

-- what a fate adds is of its card
pub unit-none : (fate : Fate) (c : Card) (minute : ℕ) → marks_of Recorder (marks_by fate (Some c) minute) ≡ []
unit-none Still c minute = refl
unit-none (Has a n) A minute = refl
unit-none (Has a n) B minute = refl
unit-none Fell c minute = refl

others-none : (fate : Fate) (c : Card) (minute : ℕ) → marks_of (device_of (other c)) (marks_by fate (Some c) minute) ≡ []
others-none Still c minute = refl
others-none (Has a n) A minute = refl
others-none (Has a n) B minute = refl
others-none Fell c minute = refl

mine-more : (c : Card) (marks : List Mark) (minute clock : ℕ) → marks_of (device_of c) (marks ++ record { device = device_of c; minute = minute; clock = clock } ∷ []) ≡ marks_of (device_of c) marks ++ record { device = device_of c; minute = minute; clock = clock } ∷ []
mine-more A marks minute clock = filter-append (λ (m : Mark). is_of CardA m.device) marks (record { device = CardA; minute = minute; clock = clock } ∷ [])
mine-more B marks minute clock = filter-append (λ (m : Mark). is_of CardB m.device) marks (record { device = CardB; minute = minute; clock = clock } ∷ [])

-- the other card has its marks
pub others-hold : (f : CardFound) (b : Book) (marks : List Mark) (fate : Fate) (c : Card) (minute : ℕ) (X : State) → CardMarksHold f (other c) b marks X → CardMarksHold f (other c) b (marks ++ marks_by fate (Some c) minute) X
others-hold f b marks fate c minute X h = record {
  held = subst (All (IsCardHeld f (other c) b X)) (sym same) h.held;
  rise = subst Increase (sym same) h.rise;
  none = λ bad. same ∙ h.none bad;
}
  where
    same : marks_of (device_of (other c)) (marks ++ marks_by fate (Some c) minute) ≡ marks_of (device_of (other c)) marks
    same = filter-append (λ (m : Mark). is_of (device_of (other c)) m.device) marks (marks_by fate (Some c) minute)
        ∙ ap (λ (ms : List Mark). marks_of (device_of (other c)) marks ++ ms) (others-none fate c minute) ∙ append-nil (marks_of (device_of (other c)) marks)

-- no mark more
pub same-marks : (f : CardFound) (c : Card) (b : Book) (marks : List Mark) (X : State) → CardMarksHold f c b marks X → CardMarksHold f c b (marks ++ []) X
same-marks f c b marks X h = subst (λ (ms : List Mark). CardMarksHold f c b ms X) (sym (append-nil marks)) h

-- ---- a keep

rise-push : (marks : List Mark) (m : Mark) → Increase marks → All (λ n. n.minute < m.minute) marks → Increase (marks ++ m ∷ [])
rise-push [] m rise each = tt
rise-push (n ∷ []) m rise each = (All-head (λ (k : Mark). k.minute < m.minute) n [] each, tt)
rise-push (n ∷ k ∷ marks) m rise each = (rise.0, rise-push (k ∷ marks) m rise.1 (All-tail (λ (l : Mark). l.minute < m.minute) n (k ∷ marks) each))

module _ (f : CardFound) (c : Card) (b : Book) (marks : List Mark) (e : Entry) (X Y : State) (whole : IsCoherent X) (R : List ℕ → List ℕ → Type 0) (run : LeavesOnly X Y R) (made : (n : ℕ) (x y : List ℕ) → X.image ≡ Some x → n < e.minute → R x y → IsMadeSince (own_sizes f.image) n x y) (low : (x : CardView) → (of_card X).may_leave x → x.mark < e.minute)
    (views : LeavesViews (of_card X) (of_card Y) (IsOnCard AnyAdded e)) (h : CardMarksHold f c b marks X) where
  -- it was acknowledged of an earlier minute
  before-it : (m : Mark) → IsCardHeld f c b X m → (x : List ℕ) → X.image ≡ Some x → m.minute < e.minute
  before-it m k x is =
      let at = k.holds.1 (own_view x) (x, whole.counts_now m.clock x k.holds.0 (whole.is_left x is), refl) in
      let late = low (own_view x) (x, whole.is_left x is, refl) in
      omega (arith, at, late)

  still : (m : Mark) → IsCardHeld f c b X m → IsCardHeld f c b Y m
  still m k = record {
    began = k.began;
    holds = kept-marks e X Y whole (λ x there. omega (arith, low x there)) views m.minute m.clock k.holds;
    prompt = prompt-on X Y m run.keeps k.holds.0 k.prompt;
    stood = stood-on (own_sizes f.image) R X Y m whole run k.holds.0 (λ x y is on. made m.minute x y is (before-it m k x is) on) k.stood;
    sure = k.sure;
  }

  -- at each moment it has what it had
  pub moment-hold : CardMarksHold f c b marks Y
  moment-hold = record { held = All-weaker (IsCardHeld f c b X) (IsCardHeld f c b Y) still (marks_of (device_of c) marks) h.held; rise = h.rise; none = h.none }

  -- and at the end the new one
  module _ (after : IsCoherent Y) (valid : IsOwnValid f.image) (some : (x : CardView) × (of_card X).may_leave x) (told : (z : List ℕ) × (Y.image ≡ Some z)) (wrote : Y.clock ≤ X.clock + 49) (began : f.began ≤ Y.clock) (settled : IsSettled Y) (ends : EndsWith (of_card X) (of_card Y) (IsNowOnCard AnyAdded e))
      (sure : Contains (f.start.owed ++ card_history c b.sure) e) where
    abbrev new : Mark
    new = record { device = device_of c; minute = e.minute; clock = Y.clock }

    earlier : (m : Mark) → IsCardHeld f c b X m → m.minute < e.minute
    earlier m k =
        let there = some.1 in
        let at = k.holds.1 some.0 (there.0, whole.counts_now m.clock there.0 k.holds.0 there.1, there.2) in
        omega (arith, at, low some.0 some.1)

    -- it is told at once: the image before the keep has not come to it
    prompt-now : IsPromptOn Y new
    prompt-now =
        let there = some.1 in
        let many : mark_writes ≡ 1068 = refl in
        let before : Y.clock - mark_writes ≤ X.clock = omega (arith, wrote, many) in
        let late = low some.0 some.1 in (
          there.0,
          run.keeps (Y.clock - mark_writes) there.0 before (whole.counts_now (Y.clock - mark_writes) there.0 before there.1),
          subst (λ (v : CardView). v.mark < e.minute) (sym there.2) late,
        )

    pub kept-hold : CardMarksHold f c b (marks ++ new ∷ []) Y
    kept-hold = record {
      held = subst (All (IsCardHeld f c b Y)) (sym (mine-more c marks e.minute Y.clock))
          (All-push (IsCardHeld f c b Y) (marks_of (device_of c) marks) new moment-hold.held (record { began = began; holds = kept-marked X Y e after settled ends; prompt = prompt-now; stood = stood-now (own_sizes f.image) (device_of c) e.minute Y after settled told.0 told.1; sure = (e, sure, refl) }));
      rise = subst Increase (sym (mine-more c marks e.minute Y.clock))
          (rise-push (marks_of (device_of c) marks) new h.rise (All-weaker (IsCardHeld f c b X) (λ m. m.minute < e.minute) earlier (marks_of (device_of c) marks) h.held));
      none = λ bad. absurd (bad valid);
    }
