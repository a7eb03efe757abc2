-- THE THEOREM IN SHORT follows from the crash-safety theorem.
use Rattle.std.proofs.Common.{◌≡◌, ℕ, ◌+◌, ◌/◌, ◌<◌, ◌≤◌, true, List, Contains, filter, length}
use Rattle.tach_media.specs.Medium.{IsCoherent, last_count}
use Rattle.safety_model.specs.device_rule.trace_model.declared.Card.{Card}
use Rattle.safety_model.specs.device_rule.run_model.declared.Device.TheVariants.{Unit as Recorder}
use Rattle.safety_model.specs.device_rule.unit_model.Image.{last_kept}
use Rattle.safety_model.specs.device_rule.unit_model.Decoding.{Decodes}
use Rattle.safety_model.specs.device_rule.log_model.declared.lines.Mark.{Mark}
use Rattle.safety_model.specs.device_rule.log_model.Causes.{device_of, cuts, cards_torn}
use Rattle.safety_model.specs.device_rule.log_model.Slots.{same_card}
use Rattle.safety_model.specs.device_rule.log_model.Spans.{AreInOrder}
use Rattle.safety_model.specs.device_rule.history_model.Book.{IsMark}
use Rattle.safety_model.specs.Recording.{Recording, start_of, told_of}
use Rattle.safety_model.specs.Unit.{marks_of}
use Rattle.safety_model.specs.Safe.{Devices, card_of, IsSafe, IsCaused}
use Rattle.short_promise.specs.InShort.{KeepsInShort}
use Rattle.short_promise.proofs.Short.{keeps-alone}
use Rattle.short_promise.proofs.Cards.{card-keeps}
use Rattle.short_promise.proofs.Together.{together}

pub keeps-in-short : (r : Recording) (from : ℕ) → Decodes r.unit → last_kept r.unit < from / 60 → AreInOrder from r.trace → (marks : List Mark) (began now : Devices) → IsCoherent now.unit → began.unit.clock ≤ now.unit.clock → (safe : IsSafe r marks began now) →
    IsCaused r marks began now →
    ((x : List ℕ) (left : now.unit.left_since began.unit.clock x) → IsMark (last_kept r.unit) (safe.unit.minutes x left).some (last_kept x)) →
    ((m : Mark) → Contains (marks_of Recorder marks) m → began.unit.clock ≤ m.clock) →
    ((m : Mark) → Contains (marks_of Recorder marks) m → (x : List ℕ) → now.unit.left_since m.clock x → m.minute ≤ last_kept x) →
    (now.unit.breakdowns < last_count → now.unit.breakdowns ≡ began.unit.breakdowns + length (cuts true r.log)) →
    ((c : Card) (m : Mark) → Contains (marks_of (device_of c) marks) m → (card_of began c).clock ≤ m.clock) →
    (now.card_a.breakdowns < last_count → now.card_b.breakdowns < last_count → (c : Card) → (card_of now c).breakdowns ≡ (card_of began c).breakdowns + length (filter (same_card c) (cards_torn (told_of r)))) →
    KeepsInShort r marks began now
keeps-in-short r from decodes later order marks began now coherent early safe caused last since held counted since_on torn =
    let alone = keeps-alone r.unit r.rule (start_of r) r.log r.trace from decodes later order marks began.unit now.unit safe.unit last since held (record { acknowledged = caused.complete.unit; counted = counted }) in
    record {
      unit = alone.unit;
      acknowledged = alone.acknowledged;
      card = λ c. card-keeps r c marks began now (safe.card c) caused.complete (since_on c) (λ a b. torn a b c);
      together = λ c u x valid here there. together r c from decodes later order u x (safe.both c u x valid here there) (alone.unit u (coherent.counts_now began.unit.clock u early here));
      complete = alone.complete;
    }
