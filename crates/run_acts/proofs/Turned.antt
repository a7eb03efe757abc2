-- What a turn decides, and the room behind it.
use Rattle.std.proofs.Common.{◌≡◌, ◌∙◌, ℕ, ◌+◌, ◌-◌, ◌/◌, ◌%◌, ◌<◌, ◌≤◌, true, false, List, ◌++◌, All, Option, None, refl, ap, sym, subst, arith}
use Rattle.std.specs.Prelude.{max}
use Rattle.tach_media.specs.Medium.{State}
use Rattle.card_files.specs.card_layout.declared.command.CardState.{CardState}
use Rattle.unit_model.specs.minute_model.declared.Minute.{Minute}
use Rattle.unit_model.specs.minute_model.declared.Rule.{Rule}
use Rattle.unit_model.specs.minute_model.declared.Rule.TheVariants.{Original, Amended}
use Rattle.unit_model.specs.minute_model.Minute.{minutes_ahead}
use Rattle.unit_model.specs.minute_model.Span.{Span, end_of, ungiven_of, latest, decided_in, fed_many}
use Rattle.unit_model.proofs.minute_model.Spans.{fed_many-end, fed_many-rule, fed_many-first_number, fed_many-settlings, fed_many-numbered, fed_many-settled}
use Rattle.trace_model.specs.declared.Card.{Card}
use Rattle.minute_rules.specs.Kept.{CountsSpan, Kept as Minutes}
use Rattle.unit_model.specs.Image.{IsUnit}
use Rattle.run_crew.specs.Cabin.{CabinIsSound}
use Rattle.run_events.specs.declared.watch.Watch.{Watch}
use Rattle.run_events.specs.Watching.{Watches}
use Rattle.run_events.specs.Blocks.{KnowsNewest}
use Rattle.run_minutes.specs.declared.keeper.Keeper.{Keeper}
use Rattle.run_minutes.specs.Keeping.{DevicesMayBeCalled, CardMayBeCalled, HasItsRow, SessionsGoOn}
use Rattle.run_minutes.specs.Minutes.{kept_after}
use Rattle.run_acts.specs.declared.run.Run.{Run}
use Rattle.run_acts.specs.declared.run.Power.TheVariants.{Lit, Lost}
use Rattle.run_acts.specs.Power.{is_lit, cut_run, passed}
use Rattle.run_acts.specs.Going.{end_of_seconds, CanBeCut, RunHasPowerAllSeated, IsInsideSecond, IsBetweenSeconds}
use Rattle.run_acts.proofs.Due.{Decides, decides}
use Rattle.run_acts.proofs.Kept.{kept-going}
use Rattle.run_acts.proofs.Standing.{cut-at, dark-at}

abbrev ungiven_by : (ahead first end settled : ℕ) → ℕ
ungiven_by ahead first end settled = max (first / 60) (max (end / 60 - ahead) (settled / 60))

-- of n seconds more
ungiven-fed : (span : Span) (speed n : ℕ) → ungiven_of (fed_many span speed n) ≡ ungiven_by (minutes_ahead span.rule) span.first (end_of span + n) (latest span.settlings)
ungiven-fed span speed n =
    ap (λ (r : Rule). ungiven_by (minutes_ahead r) (fed_many span speed n).first (end_of (fed_many span speed n)) (latest (fed_many span speed n).settlings)) (fed_many-rule span speed n)
    ∙ ap (λ (f : ℕ). ungiven_by (minutes_ahead span.rule) f (end_of (fed_many span speed n)) (latest (fed_many span speed n).settlings)) (fed_many-first_number span speed n)
    ∙ ap (λ (e : ℕ). ungiven_by (minutes_ahead span.rule) span.first e (latest (fed_many span speed n).settlings)) (fed_many-end span speed n)
    ∙ ap (λ (s : List ℕ). ungiven_by (minutes_ahead span.rule) span.first (end_of span + n) (latest s)) (fed_many-settlings span speed n)

ahead-least : (r : Rule) → 2 ≤ minutes_ahead r
ahead-least Original = omega arith
ahead-least Amended = omega arith

module _ {U A0 B0 : State} {chip_a chip_b : CardState} (run : Run) (g : RunHasPowerAllSeated (run.next / 60) run U chip_a chip_b A0 B0) (speed n : ℕ) where
  pub turn-end : end_of (fed_many g.span speed n) ≡ run.next + n
  turn-end = fed_many-end g.span speed n ∙ ap (λ (m : ℕ). m + n) g.next

  pub turn-first : (fed_many g.span speed n).first ≡ g.span.first
  turn-first = fed_many-first_number g.span speed n

  pub turn-later : ungiven_of g.span ≤ ungiven_of (fed_many g.span speed n)
  turn-later = let is = ungiven-fed g.span speed n in omega (arith, is)

  pub turn-most : run.next % 60 + n ≤ 60 → ungiven_of (fed_many g.span speed n) ≤ run.next / 60
  turn-most one =
      let is = ungiven-fed g.span speed n in
      let ahead = ahead-least g.span.rule in
      let due = g.due in
      let end = g.next in
      let a : ℕ = minutes_ahead g.span.rule in
      omega (arith, is, ahead, due, end, one)

  -- one minute more at most
  pub turn-one : run.next % 60 + n ≤ 60 → ungiven_of (fed_many g.span speed n) ≤ ungiven_of g.span + 1
  turn-one one =
      let is = ungiven-fed g.span speed n in
      let end = g.next in
      let a : ℕ = minutes_ahead g.span.rule in
      omega (arith, is, end, one)

  pub turn-decides : (items : List Minute) → run.next + n ≤ end_of_seconds → decided_in (fed_many g.span speed n) ≡ decided_in g.span ++ items → Decides (ungiven_of g.span) (ungiven_of (fed_many g.span speed n)) run.keeper.journal.kept items
  turn-decides items small given =
      decides g.span (fed_many g.span speed n) run.keeper.journal.kept items turn-first g.stands.numbered g.stands.settled (fed_many-numbered g.span speed n g.stands.numbered) (fed_many-settled g.span speed n g.stands.settled)
      turn-later given g.later g.low (let end = turn-end in omega (arith, end, small))

-- ---- the run behind it

module _ {U V A0 A1 B0 B1 : State} {chip_a chip_b next_a next_b : CardState} (run : Run) (h : IsInsideSecond run U chip_a chip_b A0 B0) (g : RunHasPowerAllSeated (run.next / 60) run U chip_a chip_b A0 B0) (speed n : ℕ) (items : List Minute) (minutes : Minutes) (keeper : Keeper) (watch : Watch)
    (d : Decides (ungiven_of g.span) (ungiven_of (fed_many g.span speed n)) run.keeper.journal.kept items) (unit : IsUnit V) (odometer : keeper.odometer ≡ run.keeper.odometer) (minute : keeper.cabin.slots.minute ≤ (run.next + n - 1) / 60)
    (a : CardMayBeCalled keeper.cabin.cards.a next_a A1) (b : CardMayBeCalled keeper.cabin.cards.b next_b B1) (size_a : A1.size ≡ A0.size) (size_b : B1.size ≡ B0.size)
    (stands : (from : ℕ) (l : Option Card) → All (λ (m : Minute). from ≤ m.minute) items → CabinIsSound from l run.keeper.cabin → (next : ℕ) → from ≤ next → kept_after run.keeper.journal.kept items < next → CabinIsSound next l keeper.cabin) where
  abbrev pub turned_run : Run
  turned_run = record run { minutes = minutes; keeper = keeper; watch = watch }

  pub turned-held : CanBeCut ((run.next + n - 1) / 60) turned_run V next_a next_b A1 B1
  turned-held = record {
    is_unit = unit;
    odometer = let most = h.held.odometer in omega (arith, odometer, most);
    minute = minute;
    card_a = record { port = a.port; size = let size = h.held.card_a.size in omega (arith, size, size_a) };
    card_b = record { port = b.port; size = let size = h.held.card_b.size in omega (arith, size, size_b) };
    stand = (ungiven_of (fed_many g.span speed n), None, stands (ungiven_of g.span) None d.from g.cabin (ungiven_of (fed_many g.span speed n)) (turn-later run g speed n) d.last);
  }

  -- power was lost in its last second
  pub turned-cut : (begun : ℕ) → 0 < n → run.next % 60 + n ≤ 60 → run.next + n ≤ end_of_seconds → IsBetweenSeconds (passed n begun (cut_run (run.next + n - 1) turned_run)) V next_a next_b A1 B1
  turned-cut begun some one small =
      let at = cut-at turned_run ((run.next + n - 1) / 60) ((run.next + n - 1) / 60) (run.next + n - 1) h.low h.small turned-held minute (omega arith) in
      dark-at (cut_run (run.next + n - 1) turned_run) ((run.next + n - 1) / 60) ((run.next + n - 1) / 60) Lost (run.next + n) begun refl refl (omega arith) small (omega arith) at

  -- it goes on
  pub turned-lit : (begun : ℕ) → run.power ≡ Lit → 0 < n → run.next % 60 + n ≤ 60 → run.next + n ≤ end_of_seconds → CountsSpan minutes (fed_many g.span speed n) → DevicesMayBeCalled keeper V next_a next_b A1 B1
      → ((card : Card) → HasItsRow run.keeper.cabin.cards U card → HasItsRow keeper.cabin.cards V card) → keeper.cabin.slots.past ≡ run.keeper.cabin.slots.past → keeper.journal.kept ≡ kept_after run.keeper.journal.kept items
      → SessionsGoOn run.keeper.cabin.cards keeper.cabin.cards → Watches watch (run.next + n) → watch.limit ≡ watch.over.limit → KnowsNewest watch.newest V → IsBetweenSeconds (passed n begun turned_run) V next_a next_b A1 B1
  turned-lit begun power some one small fed ready rows past last sessions watches limit newest =
      let same : run.next / 60 ≡ (run.next + n - 1) / 60 = omega (arith, some, one) in
      let lit : RunHasPowerAllSeated (run.next / 60) (passed n begun turned_run) V next_a next_b A1 B1 =
      kept-going None (run.next / 60) run (passed n begun turned_run) g (fed_many g.span speed n) items d fed (turn-end run g speed n) (turn-first run g speed n) (turn-later run g speed n) (turn-most run g speed n one) ready rows past last stands sessions refl watches limit newest in
      record {
        low = let low = h.low in omega (arith, low);
        small = small;
        held = record { is_unit = turned-held.is_unit; odometer = turned-held.odometer; minute = turned-held.minute; card_a = turned-held.card_a; card_b = turned-held.card_b; stand = turned-held.stand };
        dark = λ dark. absurd (let bad : true ≡ false = sym (ap is_lit power) ∙ dark in cc);
        lit = λ yes. subst (λ (t : ℕ). RunHasPowerAllSeated t (passed n begun turned_run) V next_a next_b A1 B1) same lit;
      }
