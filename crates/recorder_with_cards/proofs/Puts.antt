-- A card is put into a slot.
use Rattle.std.proofs.Common.{◌≡◌, ◌∙◌, ℕ, ◌+◌, Option, None, Some, IfSome, refl, ap, sym, subst, arith}
use Rattle.activity_codec.specs.declared.values.Slot.{Slot}
use Rattle.activity_codec.specs.declared.values.Slot.TheVariants.{Driver, CoDriver}
use Rattle.trace_model.specs.declared.Card.{Card}
use Rattle.tach_media.specs.Medium.{State}
use Rattle.tach_media.specs.card_layout.declared.command.CardState.{CardState}
use Rattle.minute_rules.specs.minute_model.Span.{ungiven_of}
use Rattle.run_minutes.specs.card_slots.declared.seats.Seat.{Seat}
use Rattle.run_minutes.specs.card_slots.Calls.{seat_in}
use Rattle.run_acts.specs.run_crew.declared.cabin.Cabin.{Cabin}
use Rattle.run_acts.specs.run_crew.Cards.{session_of}
use Rattle.run_acts.specs.run_crew.Cabin.{CabinIsSound, with_card_in}
use Rattle.run_minutes.proofs.Seats.{sessions-none}
use Rattle.run_outcome.specs.declared.outcome.Outcome.{Outcome}
use Rattle.run_acts.specs.declared.run.Run.{Run}
use Rattle.run_acts.specs.Going.{CanBeCut, RunHasPowerAllSeated}
use Rattle.run_acts.specs.Room.{bare_count, falls_of, Takes}
use Rattle.run_acts.proofs.Kept.{moved-going}
use Rattle.run_acts.specs.Acting.{IsBareIn}
use Rattle.recorder_with_cards.specs.Accepting.{put_run}
use Rattle.recorder_with_cards.proofs.Comes.{bare-of}

module _ (slot : Slot) (card : Card) (to : ℕ) (run : Run) {U M O : State} {chip_a chip_b : CardState} where
  pub put-held : (from : ℕ) → CabinIsSound from None (with_card_in slot card run.keeper.cabin) → CanBeCut to run U chip_a chip_b M O → CanBeCut to (put_run slot card run) U chip_a chip_b M O
  put-held from stands h = record { is_unit = h.is_unit; odometer = h.odometer; minute = h.minute; card_a = h.card_a; card_b = h.card_b; stand = (from, None, stands) }

  pub put-going : ((from : ℕ) → CabinIsSound from None run.keeper.cabin → CabinIsSound from None (with_card_in slot card run.keeper.cabin)) → RunHasPowerAllSeated to run U chip_a chip_b M O → RunHasPowerAllSeated to (put_run slot card run) U chip_a chip_b M O
  put-going stands g =
      moved-going None None to run (put_run slot card run) g refl refl refl
      (record { unit_ready = record { is_unit = g.ready.unit_ready.is_unit; works = g.ready.unit_ready.works; agrees = g.ready.unit_ready.agrees }; card_a = g.ready.card_a; card_b = g.ready.card_b })
      (λ c row. row) refl (stands (ungiven_of g.span) g.cabin) (sessions-none run.keeper.cabin.cards) refl refl (λ known. known)

-- one more card can fall
pub put-falls : (slot : Slot) (card : Card) (cabin : Cabin) → seat_in cabin.slots.seats slot ≡ None → falls_of (with_card_in slot card cabin) ≡ falls_of cabin + 1
put-falls Driver card cabin empty = let none = ap bare_count empty in omega (arith, none)
put-falls CoDriver card cabin empty = let none = ap bare_count empty in omega (arith, none)

pub seat-put : (slot : Slot) (card : Card) (cabin : Cabin) → seat_in (with_card_in slot card cabin).slots.seats slot ≡ Some (record { card = card; newest = None })
seat-put Driver card cabin = refl
seat-put CoDriver card cabin = refl

pub put-bare : (slot : Slot) (card : Card) (cabin : Cabin) (from : ℕ) → CabinIsSound from None (with_card_in slot card cabin) → IsBareIn (with_card_in slot card cabin) slot
put-bare slot card cabin from stands =
    subst (λ (o : Option Seat). IfSome o (λ s. session_of cabin.cards s.card ≡ None)) (sym (seat-put slot card cabin)) (bare-of from slot card (with_card_in slot card cabin) None (seat-put slot card cabin) stands)

module _ (slot : Slot) (card : Card) (old : Run) (empty : seat_in old.keeper.cabin.slots.seats slot ≡ None) where
  pub put-takes : (new : Run) (o p : Outcome) → Takes 0 0 0 (put_run slot card old) new o p → Takes 1 1 0 old new o p
  put-takes new o p t =
      let f = put-falls slot card old.keeper.cabin empty in
      let m = t.marks in let b = t.breaks in let fi = t.finds in let r = t.refused in
      record { rooms = t.rooms; marks = omega (arith, m); breaks = omega (arith, b, f); finds = omega (arith, fi); refused = omega (arith, r) }

  pub put-then : (mid new : Run) (o p q : Outcome) → Takes 0 0 0 (put_run slot card old) mid o p → Takes 1 0 0 mid new p q → Takes 1 1 0 old new o q
  put-then mid new o p q t u =
      let f = put-falls slot card old.keeper.cabin empty in
      let m = t.marks in let b = t.breaks in let fi = t.finds in let r = t.refused in
      let m2 = u.marks in let b2 = u.breaks in let f2 = u.finds in let r2 = u.refused in
      record {
        rooms = (u.rooms.0 ∙ t.rooms.0, u.rooms.1 ∙ t.rooms.1, u.rooms.2 ∙ t.rooms.2, u.rooms.3 ∙ t.rooms.3);
        marks = omega (arith, m, m2);
        breaks = omega (arith, b, f, b2);
        finds = omega (arith, fi, f2);
        refused = omega (arith, r, r2);
      }
