-- A run from which a card was pulled out.
use Rattle.std.proofs.Common.{◌≡◌, ℕ, ◌/◌, ◌≤◌, Option, Some, None, [], ◌∷◌, refl, arith}
use Rattle.activity_codec.specs.declared.values.Slot.{Slot}
use Rattle.trace_model.specs.declared.Card.{Card}
use Rattle.trace_model.specs.declared.Card.TheVariants.{A, B}
use Rattle.tach_media.specs.Medium.{State}
use Rattle.tach_media.specs.card_layout.declared.command.CardState.{CardState}
use Rattle.minute_rules.specs.minute_model.Span.{ungiven_of}
use Rattle.run_minutes.specs.card_slots.Calls.{seat_in, card_in}
use Rattle.run_acts.specs.run_crew.declared.cards.Cards.{Cards}
use Rattle.run_acts.specs.run_crew.Cards.{with_session}
use Rattle.run_acts.specs.run_crew.Cabin.{CabinIsSound, torn_out}
use Rattle.run_outcome.specs.declared.outcome.Outcome.{Outcome}
use Rattle.run_minutes.specs.declared.keeper.Moment.{Moment}
use Rattle.run_minutes.specs.Keeping.{CardMayBeCalled, with_lines}
use Rattle.run_minutes.proofs.Counts.{lines-length}
use Rattle.run_minutes.proofs.Sessions.{number-set, row-set}
use Rattle.run_minutes.proofs.Units.{has-row}
use Rattle.run_acts.specs.declared.run.Run.{Run}
use Rattle.run_acts.specs.Going.{CardAt, CanBeCut, RunHasPowerAllSeated}
use Rattle.run_acts.specs.Room.{Takes}
use Rattle.run_acts.proofs.Torn.{torn-past, torn-minute, torn-sessions, sitting-falls, is-there}
use Rattle.run_acts.specs.Acting.{pulled_run, pulled_breaks, pull_of}
use Rattle.run_acts.proofs.Cabins.{cabin-going, cabin-held}
use Rattle.recorder_with_cards.specs.Acting.{StaysIn}

-- a card whose session was taken, or the other one
bare-a : (card : Card) (cards : Cards) {chip : CardState} {state : State} → CardMayBeCalled cards.a chip state → CardMayBeCalled (with_session card None cards).a chip state
bare-a A cards h = record { is_known = record { sized = tt; numbered = tt }; port = h.port; works = tt }
bare-a B cards h = h

bare-b : (card : Card) (cards : Cards) {chip : CardState} {state : State} → CardMayBeCalled cards.b chip state → CardMayBeCalled (with_session card None cards).b chip state
bare-b A cards h = h
bare-b B cards h = record { is_known = record { sized = tt; numbered = tt }; port = h.port; works = tt }

at-a : (card : Card) (cards : Cards) {chip : CardState} {state : State} → CardAt cards.a chip state → CardAt (with_session card None cards).a chip state
at-a A cards h = record { port = h.port; size = h.size }
at-a B cards h = h

at-b : (card : Card) (cards : Cards) {chip : CardState} {state : State} → CardAt cards.b chip state → CardAt (with_session card None cards).b chip state
at-b A cards h = h
at-b B cards h = record { port = h.port; size = h.size }

-- it is the same second still
pub pulled-stays : (o : Option Card) (second : ℕ) (run : Run) → StaysIn run (pulled_run o second run)
pulled-stays None second run = record { power = refl; next = refl; begun = refl; unfound = refl }
pulled-stays (Some card) second run = record { power = refl; next = refl; begun = refl; unfound = refl }

module _ {U A0 B0 : State} {chip_a chip_b : CardState} (run : Run) (second : ℕ) (here : second / 60 ≤ run.next / 60) where
  pub pulled-held : (o : Option Card) → ((from : ℕ) (leaving : Option Card) → CabinIsSound from leaving run.keeper.cabin → CabinIsSound from leaving (pulled_run o second run).keeper.cabin) → CanBeCut (run.next / 60) run U chip_a chip_b A0 B0
      → CanBeCut ((pulled_run o second run).next / 60) (pulled_run o second run) U chip_a chip_b A0 B0
  pulled-held None stands h = h
  pulled-held (Some card) stands h =
      cabin-held (run.next / 60) run (pulled_run (Some card) second run) (torn_out card second run.keeper.cabin) refl h h.is_unit (torn-minute card second run.keeper.cabin (run.next / 60) h.minute here)
      (at-a card run.keeper.cabin.cards h.card_a) (at-b card run.keeper.cabin.cards h.card_b) (h.stand.0, h.stand.1, stands h.stand.0 h.stand.1 h.stand.2)

  pub pulled-going : (o : Option Card) → ((from : ℕ) (leaving : Option Card) → CabinIsSound from leaving run.keeper.cabin → CabinIsSound from leaving (pulled_run o second run).keeper.cabin) → RunHasPowerAllSeated (run.next / 60) run U chip_a chip_b A0 B0
      → RunHasPowerAllSeated ((pulled_run o second run).next / 60) (pulled_run o second run) U chip_a chip_b A0 B0
  pulled-going None stands g = g
  pulled-going (Some card) stands g =
      let u = g.ready.unit_ready in
      cabin-going (run.next / 60) run (pulled_run (Some card) second run) (torn_out card second run.keeper.cabin) refl None None g (record { is_unit = u.is_unit; works = u.works; agrees = u.agrees })
      (bare-a card run.keeper.cabin.cards g.ready.card_a) (bare-b card run.keeper.cabin.cards g.ready.card_b)
      (λ c h. has-row run.keeper.cabin.cards (pulled_run (Some card) second run).keeper.cabin.cards U U c (number-set card c None run.keeper.cabin.cards) (row-set card c None run.keeper.cabin.cards) (λ r n at. at) h)
      (torn-past card second run.keeper.cabin) (stands (ungiven_of g.span) None g.cabin) (torn-sessions card second run.keeper.cabin) (λ known. known)

pub pulled-takes : (o : Option Card) (run : Run) (slot : Slot) (at : Moment) (before : Outcome) (from : ℕ) (leaving : Option Card) → card_in (seat_in run.keeper.cabin.slots.seats slot) ≡ o → CabinIsSound from leaving run.keeper.cabin
    → Takes 0 0 0 run (pulled_run o at.second run) before (record before { breaks = with_lines (pulled_breaks o slot at) before.breaks })
pulled-takes None run slot at before from leaving is stands =
    let same = lines-length (pulled_breaks None slot at) before.breaks in
    record { rooms = (refl, refl, refl, refl); marks = omega arith; breaks = omega (arith, same); finds = omega arith; refused = omega arith }
pulled-takes (Some card) run slot at before from leaving is stands =
    let one = lines-length (pull_of slot at ∷ []) before.breaks in
    let less = sitting-falls card slot at.second from leaving run.keeper.cabin (is-there (seat_in run.keeper.cabin.slots.seats slot) card is) stands in
    record { rooms = (refl, refl, refl, refl); marks = omega arith; breaks = omega (arith, one, less); finds = omega arith; refused = omega arith }
