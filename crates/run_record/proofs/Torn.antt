-- The card of a slot is torn or pulled out: how the cards stand behind that, who is back, and unit and cards where no device was called.
use Rattle.std.proofs.Common.{◌≡◌, ◌⊎◌, inl, inr, ⊎_elim, ℕ, ◌+◌, ◌/◌, ◌≤◌, true, false, Option, Some, None, IfSome, is_some, List, Contains, refl, ap, sym, subst, ◌∙◌, arith}
use Rattle.minute_rules.specs.activity_codec.declared.values.Slot.{Slot}
use Rattle.run_devices.specs.trace_model.declared.Card.{Card}
use Rattle.run_devices.specs.trace_model.declared.Card.TheVariants.{A, B}
use Rattle.run_devices.specs.log_model.Slots.{Slots, same_card, in_slot}
use Rattle.run_devices.specs.log_model.Course.{ToldSecond, Course, Visit, with_slot}
use Rattle.run_devices.specs.history_model.Minutes.{HistoryMinute}
use Rattle.run_devices.specs.history_model.Presence.{Start}
use Rattle.run_devices.specs.card_image.Own.{IsOwnValid}
use Rattle.run_devices.specs.device_rule.Rules.{Standing, In, Torn}
use Rattle.run_devices.specs.safety_model.Safe.{Devices}
use Rattle.run_devices.specs.card_slots.Calls.{seat_in, card_in, is_card}
use Rattle.run_devices.specs.card_slots.Kept.{Kept, left_of, taken}
use Rattle.run_devices.specs.run_crew.declared.cards.Accepted.{Accepted}
use Rattle.run_devices.specs.run_crew.declared.cards.Cards.{Cards}
use Rattle.run_devices.specs.run_crew.declared.cabin.Cabin.{Cabin}
use Rattle.run_devices.specs.run_crew.Cards.{session_of, with_session}
use Rattle.run_devices.specs.run_crew.Cabin.{left_from, torn_out}
use Rattle.run_devices.proofs.run_crew.Sessions.{same_is}
use Rattle.run_devices.specs.run_promise.Found.{Found, found_of}
use Rattle.run_devices.specs.run_promise.Between.{RunLedger}
use Rattle.run_devices.specs.run_course.Presence.{SlotsTell}
use Rattle.run_devices.specs.run_course.Kept.{StaysOut}
use Rattle.run_devices.specs.Told.{AreFoundCards, DevicesPowered, for_card, with_standing}
use Rattle.run_devices.proofs.Begun.{tear-powered}
use Rattle.run_devices.specs.Presence.{PresentStand, StaysSo, IsTornOut, sits}
use Rattle.run_devices.proofs.Presence.{step-leaves}
use Rattle.run_record.specs.Recorded.{AreBack}
use Rattle.run_record.proofs.Seats.{no-both, this-or, for-this, for-other, still-has, other-has, old-less, found-less, card-seated, seat-tells, one-slot, which-slot, sits-back, emptied, seat-left}

module _ (start : Start) (told : List ToldSecond) (past : List HistoryMinute) (left : List Card) (number from : ℕ) (slots : Slots) (cabin : Cabin) (h : SlotsTell start told past left number from slots cabin.slots) (slot : Slot) (card : Card) (seated : card_in (seat_in cabin.slots.seats slot) ≡ Some card) where
  here : is_card (seat_in cabin.slots.seats slot) card ≡ true
  here = card-seated card (seat_in cabin.slots.seats slot) seated

  -- the slots are those that the card was taken out of
  pub slots-taken : (torn_out card number cabin).slots ≡ taken slot number cabin.slots
  slots-taken = ap (λ (q : Option Slot). left_from q number cabin.slots) (which-slot start told past left number from slots cabin.slots h slot card here)

  pub past-same : (torn_out card number cabin).slots.past ≡ cabin.slots.past
  past-same = ap (λ (k : Kept). k.past) slots-taken

  -- who sits accepted elsewhere is another card
  pub another-there : (sl : Slot) (x : Card) (u : ℕ) → (slot ≡ sl → ⊥) → in_slot slots sl ≡ sits x u → same_card card x ≡ false
  another-there sl x u other there = ⊎_elim
      (λ own. absurd (other (one-slot start told past left number from slots cabin.slots h slot sl card here
      (subst (λ (y : Card). is_card (seat_in cabin.slots.seats sl) y ≡ true) (sym (same_is card x own))
      (sits-back start past from cabin.slots x u (seat_in cabin.slots.seats sl) (in_slot slots sl) (seat-tells start told past left number from slots cabin.slots h sl) there)))))
      (λ ne. ne)
      (this-or card x)

  -- the other cards are back as they were
  pub back-torn : (low : ℕ) → AreBack low cabin → AreBack low (torn_out card number cabin)
  back-torn low back x some =
      let ne = other-has card x cabin.cards some in
      subst (λ (q : Option ℕ). IfSome q (λ l. l ≤ low)) (sym (ap (λ (k : Kept). left_of k.left x) slots-taken ∙ seat-left card x (seat_in cabin.slots.seats slot) (number / 60) cabin.slots.left seated ne))
      (back x (old-less card x cabin.cards some))

  module _ (f : Found) (z : Card → Standing) (c now : Course) (stands : PresentStand f z told c number from cabin) (course : c.slots ≡ slots) (gone : now.slots ≡ with_slot c.slots slot None) (out : StaysOut c now) where
    -- one that had a session
    pub torn-present : (t n : ℕ) → z card ≡ In t n → number / 60 ≤ from + 4 → (v : Visit) → v.card ≡ card → Contains now.torn v ⊎ Contains now.pulled v →
        PresentStand f (for_card card (Torn t n from) z) told now number from (torn_out card number cabin)
    torn-present t n was few v own told_ =
        step-leaves f z new told c now number from from cabin (torn_out card number cabin) stands h.newest h.minute (omega arith) past-same out
        (λ x. ⊎_elim (λ mine_. inr (inr (subst (λ (y : Card). IsTornOut number from z new now y) (same_is card x mine_) mine))) (λ ne. inl (stays x ne)) (this-or card x))
        (λ sl x u there.
        let e = emptied c.slots slot sl (record { card = x; accepted = Some u }) (ap (λ (q : Slots). in_slot q sl) (sym gone) ∙ there) in
        (e.0, inl (stays x (another-there sl x u e.1 (ap (λ (q : Slots). in_slot q sl) (sym course) ∙ e.0)))))
      where
        new : Card → Standing
        new = for_card card (Torn t n from) z

        stays : (x : Card) → same_card card x ≡ false → StaysSo z new cabin.cards (torn_out card number cabin).cards x
        stays x ne = (for-other card x (Torn t n from) z ne, λ some. ap (λ (q : Option Accepted). is_some q) (still-has card x cabin.cards ne) ∙ some)

        mine : IsTornOut number from z new now card
        mine = record {
          time = t;
          before = n;
          newest = n;
          floor = from;
          was = was;
          is = for-this card (Torn t n from) z;
          low = inl (omega arith);
          from_ = omega arith;
          few = few;
          out = v;
          card_is = own;
          told = told_;
        }

    -- or had none
    pub bare-present : session_of cabin.cards card ≡ None → PresentStand f z told now number from (torn_out card number cabin)
    bare-present none_ =
        step-leaves f z z told c now number from from cabin (torn_out card number cabin) stands h.newest h.minute (omega arith) past-same out
        (λ x. inl (stays x))
        (λ sl x u there. ((emptied c.slots slot sl (record { card = x; accepted = Some u }) (ap (λ (q : Slots). in_slot q sl) (sym gone) ∙ there)).0, inl (stays x)))
      where
        stays : (x : Card) → StaysSo z z cabin.cards (torn_out card number cabin).cards x
        stays x = (
          refl,
          λ some. ⊎_elim
              (λ own. no-both (is_some (session_of cabin.cards x)) some (subst (λ (y : Card). is_some (session_of cabin.cards y) ≡ false) (same_is card x own) (ap (λ (q : Option Accepted). is_some q) none_)))
              (λ ne. ap (λ (q : Option Accepted). is_some q) (still-has card x cabin.cards ne) ∙ some)
              (this-or card x),
        )

-- UNIT AND CARDS, where a card is pulled out and no device is called
pub pull-powered : (f : Found) (w : RunLedger) (cards : Cards) (d : Devices) (card : Card) → DevicesPowered f w cards d → AreFoundCards f cards → (a : Accepted) → session_of cards card ≡ Some a → (time floor : ℕ) → (IsOwnValid (found_of f card).image → w.standing card ≡ In time a.session.minute) →
    DevicesPowered f (with_standing card (Torn time a.session.minute floor) w) (with_session card None cards) d
pull-powered f w cards d A p found a has time floor stands = tear-powered f w cards (with_session A None cards) A d.unit d.card_a d.card_b (found-less f A cards found) refl refl p a has time floor stands found
pull-powered f w cards d B p found a has time floor stands = tear-powered f w cards (with_session B None cards) B d.unit d.card_b d.card_a (found-less f B cards found) refl refl p a has time floor stands found
