-- What is known of a run where power is lost, goes on, or comes back.
use Rattle.std.proofs.Common.{◌≡◌, ◌∙◌, ℕ, ◌+◌, ◌-◌, ◌/◌, ◌%◌, ◌<◌, ◌≤◌, Bool, true, false, Option, None, IfSome, [], is_some, refl, ap, sym, subst, arith, eqb-true}
use Rattle.std.specs.Prelude.{nat_eq}
use Rattle.trace_model.specs.declared.Card.{Card}
use Rattle.trace_model.specs.declared.Card.TheVariants.{A, B}
use Rattle.tach_media.specs.Medium.{State}
use Rattle.card_files.specs.card_layout.declared.command.CardState.{CardState}
use Rattle.unit_model.specs.minute_model.declared.Rule.{Rule}
use Rattle.unit_model.specs.minute_model.declared.Rule.TheVariants.{Original, Amended}
use Rattle.unit_model.specs.minute_model.Minute.{minutes_ahead}
use Rattle.unit_model.specs.minute_model.Span.{begin, ungiven_of}
use Rattle.event_rules.specs.Bare.{Bare}
use Rattle.event_rules.specs.declared.speeding.Fast.{Fast}
use Rattle.run_crew.specs.card_slots.Calls.{present_in, ending}
use Rattle.run_crew.specs.card_slots.Kept.{left_in}
use Rattle.run_crew.proofs.card_slots.Newest.{cut-knows, end-knows}
use Rattle.unit_model.specs.declared.layout.TheConstants.{HIGHEST_ODOMETER}
use Rattle.run_events.specs.message_model.Records.{insertion_ring, speed_ring}
use Rattle.run_events.specs.gated_ring.Ring.{PointsInside}
use Rattle.run_crew.specs.declared.cards.Accepted.{Accepted}
use Rattle.run_crew.specs.declared.cards.Known.{Known}
use Rattle.run_crew.specs.declared.cabin.Cabin.{Cabin}
use Rattle.run_crew.specs.Cards.{session_of, with_session, IsKnown}
use Rattle.run_crew.specs.Cabin.{CabinIsSound, KnowsEnded}
use Rattle.run_crew.proofs.Moves.{cut-stands, end-stands}
use Rattle.run_events.specs.Watching.{Watches}
use Rattle.run_events.specs.Blocks.{KnowsNewest}
use Rattle.run_events.specs.Watching as watching
use Rattle.run_events.specs.speed_store.Feeding as minute_speeds
use Rattle.run_events.specs.declared.watch.Watch.{Watch}
use Rattle.unit_minutes.specs.declared.notes.Notes.{Notes}
use Rattle.run_minutes.specs.declared.keeper.Keeper.{Keeper}
use Rattle.run_minutes.specs.Keeping.{UnitMayBeCalled, CardMayBeCalled, HaveRows}
use Rattle.run_acts.specs.declared.run.Run.{Run}
use Rattle.run_acts.specs.declared.run.Power.{Power}
use Rattle.run_acts.specs.declared.run.Power.TheVariants.{Lit, Due, Lost}
use Rattle.run_acts.specs.Power.{is_lit, cut_run, darkened, off_run, over_by, minute_over, passed, IsSpanBegun}
use Rattle.run_acts.specs.Going.{first_second, end_of_seconds, CardAt, StandSomehow, CanBeCut, RunHasPowerAllSeated, IsAt, IsBetweenSeconds, IsInsideSecond}
use Rattle.run_acts.proofs.Past.{none-later, one-more, ended-rows}

pub lit-is : (p : Power) → is_lit p ≡ true → p ≡ Lit
lit-is Lit is = refl
lit-is Due is = absurd (cc)
lit-is Lost is = absurd (cc)

ahead-most : (r : Rule) → minutes_ahead r ≤ 3
ahead-most Original = omega arith
ahead-most Amended = omega arith

-- ---- power is lost

gone : (cabin : Cabin) (card : Card) → session_of (with_session B None (with_session A None cabin.cards)) card ≡ None
gone cabin A = refl
gone cabin B = refl

module _ {U A0 B0 : State} {chip_a chip_b : CardState} (run : Run) where
  -- in a second of a minute that is not over
  cut-stand : (to second : ℕ) → CanBeCut to run U chip_a chip_b A0 B0 → run.keeper.cabin.slots.minute ≤ second / 60 → (from : ℕ) → CabinIsSound from None (cut_run second run).keeper.cabin
  cut-stand to second h le from =
      cut-stands run.keeper.cabin second h.stand.0 from h.stand.1 le (cut-knows run.keeper.cabin.slots second le h.stand.2.newest) h.stand.2

  pub cut-at : (to later second : ℕ) → first_second ≤ run.next → run.next ≤ end_of_seconds → CanBeCut to run U chip_a chip_b A0 B0 → run.keeper.cabin.slots.minute ≤ second / 60 → second / 60 ≤ later → IsAt later (cut_run second run) U chip_a chip_b A0 B0
  cut-at to later second low small h le late = record {
    low = low;
    small = small;
    held = record {
      is_unit = h.is_unit;
      odometer = h.odometer;
      minute = late;
      card_a = record { port = h.card_a.port; size = h.card_a.size };
      card_b = record { port = h.card_b.port; size = h.card_b.size };
      stand = (0, None, cut-stand to second h le 0);
    };
    dark = λ is. record { stands = cut-stand to second h le; bare = gone run.keeper.cabin };
    lit = λ is. absurd (let no : false ≡ true = is in cc);
  }

  -- so many seconds later, without power
  pub dark-at : (to later : ℕ) (power : Power) (next begun : ℕ) → is_lit power ≡ false → is_lit run.power ≡ false → run.next ≤ next → next ≤ end_of_seconds → to ≤ later → IsAt to run U chip_a chip_b A0 B0
      → IsAt later (record run { power = power; next = next; begun = begun }) U chip_a chip_b A0 B0
  dark-at to later power next begun is was more small late h = record {
    low = let low = h.low in omega (arith, low, more);
    small = small;
    held = record {
      is_unit = h.held.is_unit;
      odometer = h.held.odometer;
      minute = let le = h.held.minute in omega (arith, le, late);
      card_a = h.held.card_a;
      card_b = h.held.card_b;
      stand = h.held.stand;
    };
    dark = λ no. h.dark was;
    lit = λ no. absurd (let bad : false ≡ true = sym is ∙ no in cc);
  }

  pub off-at : (seconds : ℕ) → run.next + seconds ≤ end_of_seconds → IsBetweenSeconds run U chip_a chip_b A0 B0 → IsBetweenSeconds (off_run seconds run) U chip_a chip_b A0 B0
  off-at seconds small h = by run.power refl
    where
      by : (p : Power) → run.power ≡ p → IsBetweenSeconds (record (darkened (is_lit p) run) { power = Due; next = run.next + seconds; begun = 0 }) U chip_a chip_b A0 B0
      by Lit is =
          let at = cut-at ((run.next - 1) / 60) ((run.next - 1) / 60) (run.next - 1) h.low h.small h.held h.held.minute (omega arith) in
          record {
            low = let low = h.low in omega (arith, low);
            small = small;
            held = record {
              is_unit = at.held.is_unit;
              odometer = at.held.odometer;
              minute = omega arith;
              card_a = at.held.card_a;
              card_b = at.held.card_b;
              stand = at.held.stand;
            };
            dark = λ no. at.dark refl;
            lit = λ no. absurd (let bad : false ≡ true = no in cc);
          }
      by Due is = dark-at ((run.next - 1) / 60) ((run.next + seconds - 1) / 60) Due (run.next + seconds) 0 refl (ap is_lit is) (omega arith) small (omega arith) h
      by Lost is = dark-at ((run.next - 1) / 60) ((run.next + seconds - 1) / 60) Due (run.next + seconds) 0 refl (ap is_lit is) (omega arith) small (omega arith) h

  pub passed-at : (n begun : ℕ) → is_lit run.power ≡ false → run.next + n ≤ end_of_seconds → 0 < n → IsInsideSecond run U chip_a chip_b A0 B0 → IsBetweenSeconds (passed n begun run) U chip_a chip_b A0 B0
  passed-at n begun dark small some h = dark-at (run.next / 60) ((run.next + n - 1) / 60) run.power (run.next + n) begun dark dark (omega arith) small (omega (arith, some)) h

  -- a second begins without power
  pub still-dark : is_lit run.power ≡ false → IsBetweenSeconds run U chip_a chip_b A0 B0 → IsInsideSecond run U chip_a chip_b A0 B0
  still-dark dark h = dark-at ((run.next - 1) / 60) (run.next / 60) run.power run.next run.begun dark dark (omega arith) h.small (omega arith) h

  -- ---- a second begins with power

  over-held : (b : Bool) → nat_eq (run.next % 60) 0 ≡ b → first_second ≤ run.next → CanBeCut ((run.next - 1) / 60) run U chip_a chip_b A0 B0 → (lit : RunHasPowerAllSeated ((run.next - 1) / 60) run U chip_a chip_b A0 B0) → CanBeCut (run.next / 60) (over_by b run) U chip_a chip_b A0 B0
  over-held false is low h lit = record {
    is_unit = h.is_unit;
    odometer = h.odometer;
    minute = let le = h.minute in omega (arith, le);
    card_a = h.card_a;
    card_b = h.card_b;
    stand = h.stand;
  }
  over-held true is low h lit =
      let m : ℕ = run.next / 60 - 1 in
      let at : run.next % 60 ≡ 0 = eqb-true (run.next % 60) 0 is in
      let same : (run.next - 1) / 60 ≡ m = omega (arith, at, low) in
      let le : run.keeper.cabin.slots.minute ≤ m = let was = h.minute in omega (arith, was, same) in
      let early : ungiven_of lit.span ≤ m = let was = lit.due in omega (arith, was, same) in
      record {
        is_unit = h.is_unit;
        odometer = h.odometer;
        minute = omega (arith, low);
        card_a = h.card_a;
        card_b = h.card_b;
        stand = (ungiven_of lit.span, None, end-stands run.keeper.cabin m (ungiven_of lit.span) le early (end-knows run.keeper.cabin.slots m le lit.cabin.newest) lit.cabin);
      }

  over-lit : (b : Bool) → nat_eq (run.next % 60) 0 ≡ b → first_second ≤ run.next → CanBeCut ((run.next - 1) / 60) run U chip_a chip_b A0 B0 → RunHasPowerAllSeated ((run.next - 1) / 60) run U chip_a chip_b A0 B0
      → ((from : ℕ) → run.next / 60 ≤ from + 4 → KnowsEnded from ((run.next - 1) / 60) run.keeper.cabin.slots → KnowsEnded from (run.next / 60) (over_by b run).keeper.cabin.slots)
      → RunHasPowerAllSeated (run.next / 60) (over_by b run) U chip_a chip_b A0 B0
  over-lit false is low h lit ended =
      let few = lit.ended.few in
      let at : run.next % 60 ≡ 0 → ⊥ = λ zero. let yes : true ≡ false = sym (ap (λ (n : ℕ). nat_eq n 0) zero) ∙ is in cc in
      let same : (run.next - 1) / 60 ≡ run.next / 60 = same-minute run.next at in
      record {
        ready = lit.ready;
        span = lit.span;
        stands = lit.stands;
        next = lit.next;
        low = lit.low;
        due = let due = lit.due in omega (arith, due, same);
        later = lit.later;
        cabin = lit.cabin;
        ended = ended (ungiven_of lit.span) (omega (arith, few, same)) lit.ended;
        rows = lit.rows;
        present = lit.present;
        entries = lit.entries;
        watches = lit.watches;
        limit = lit.limit;
        newest = lit.newest;
      }
    where
      same-minute : (n : ℕ) → (n % 60 ≡ 0 → ⊥) → (n - 1) / 60 ≡ n / 60
      same-minute n other = omega arith
  over-lit true is low h lit ended =
      let m : ℕ = run.next / 60 - 1 in
      let at : run.next % 60 ≡ 0 = eqb-true (run.next % 60) 0 is in
      let same : (run.next - 1) / 60 ≡ m = omega (arith, at, low) in
      let le : run.keeper.cabin.slots.minute ≤ m = let was = h.minute in omega (arith, was, same) in
      let u : ℕ = ungiven_of lit.span in
      let early : u ≤ m = let was = lit.due in omega (arith, was, same) in
      let end = lit.next in
      let most = ahead-most lit.span.rule in
      let ahead : run.next / 60 ≤ u + 4 = omega (arith, end, most) in
      let cards = run.keeper.cabin.cards in
      let slots = run.keeper.cabin.slots in
      record {
        ready = record {
          unit_ready = record { is_unit = lit.ready.unit_ready.is_unit; works = lit.ready.unit_ready.works; agrees = lit.ready.unit_ready.agrees };
          card_a = lit.ready.card_a;
          card_b = lit.ready.card_b;
        };
        span = lit.span;
        stands = lit.stands;
        next = lit.next;
        low = lit.low;
        due = omega (arith, early);
        later = lit.later;
        cabin = end-stands run.keeper.cabin m u le early (end-knows slots m le lit.cabin.newest) lit.cabin;
        ended = ended u ahead lit.ended;
        rows = lit.rows;
        present = λ k late. one-more (HaveRows cards U) k (ending (left_in slots.left) m slots.seats) slots.past
            (ended-rows cards U lit.rows (left_in slots.left) m u slots.seats lit.cabin.driver lit.cabin.codriver) (lit.present k late);
        entries = lit.entries;
        watches = lit.watches;
        limit = lit.limit;
        newest = lit.newest;
      }

  pub begun-at : is_lit run.power ≡ true → ((from : ℕ) → run.next / 60 ≤ from + 4 → KnowsEnded from ((run.next - 1) / 60) run.keeper.cabin.slots → KnowsEnded from (run.next / 60) (minute_over run).keeper.cabin.slots)
      → IsBetweenSeconds run U chip_a chip_b A0 B0 → IsInsideSecond (minute_over run) U chip_a chip_b A0 B0
  begun-at is ended h = by (nat_eq (run.next % 60) 0) refl ended
    where
      by : (b : Bool) → nat_eq (run.next % 60) 0 ≡ b → ((from : ℕ) → run.next / 60 ≤ from + 4 → KnowsEnded from ((run.next - 1) / 60) run.keeper.cabin.slots → KnowsEnded from (run.next / 60) (over_by b run).keeper.cabin.slots)
          → IsInsideSecond (over_by b run) U chip_a chip_b A0 B0
      by true at ends = record {
        low = h.low;
        small = h.small;
        held = over-held true at h.low h.held (h.lit is);
        dark = λ no. absurd (let bad : true ≡ false = sym is ∙ no in cc);
        lit = λ yes. over-lit true at h.low h.held (h.lit is) ends;
      }
      by false at ends = record {
        low = h.low;
        small = h.small;
        held = over-held false at h.low h.held (h.lit is);
        dark = λ no. absurd (let bad : true ≡ false = sym is ∙ no in cc);
        lit = λ yes. over-lit false at h.low h.held (h.lit is) ends;
      }

-- ---- a span begins

fresh-watches : (w : Watch) (next : ℕ) → watching.WatchesSpan w [] → minute_speeds.KeepsSpeedsOf w.speeds [] next → Watches w next
fresh-watches w next stands speeds = record {
  events = record {
    seconds = [];
    stands = stands;
    bare_next = λ some. absurd (let none = ap (λ (b : Bare). b.seconds) stands.bare.run in omega (arith, some, none));
    over_next = λ some. absurd (let none = ap (λ (f : Fast). f.seconds) stands.over.run in omega (arith, some, none));
    late = tt;
  };
  speeds = ([], speeds);
}

ready-bare : (known : Known) (chip : CardState) (card : State) → known.accepted ≡ None → CardAt known chip card → IsKnown known → CardMayBeCalled known chip card
ready-bare known chip card none at is = record { is_known = is; port = at.port; works = subst (λ (o : Option Accepted). IfSome o (λ a. card.works ≡ true)) (sym none) tt }

module _ {U V A0 B0 : State} {chip_a chip_b : CardState} (rule : Rule) (old new : Run) (journal : Notes) where
  -- where the unit was mended, the last-kept minute is earlier, and the pointer of its blocks is an index, the run goes on
  -- with power
  pub span-lit : is_lit old.power ≡ false → IsAt (old.next / 60) old U chip_a chip_b A0 B0 → IsSpanBegun rule old new journal → journal.kept < old.next / 60 → UnitMayBeCalled new.keeper V → IfSome V.image (PointsInside speed_ring) → RunHasPowerAllSeated (old.next / 60) new V chip_a chip_b A0 B0
  span-lit dark h begun late unit points =
      let d = h.dark dark in
      let bare = d.bare in
      let u : ℕ = ungiven_of (begin rule old.next) in
      let is : u ≡ old.next / 60 = omega arith in
      let cabin : new.keeper.cabin ≡ old.keeper.cabin = ap (λ (k : Keeper). k.cabin) begun.keeper in
      record {
        ready = record {
          unit_ready = unit;
          card_a = subst (λ (c : Cabin). CardMayBeCalled c.cards.a chip_a A0) (sym cabin) (ready-bare old.keeper.cabin.cards.a chip_a A0 (bare A) h.held.card_a (d.stands 0).a);
          card_b = subst (λ (c : Cabin). CardMayBeCalled c.cards.b chip_b B0) (sym cabin) (ready-bare old.keeper.cabin.cards.b chip_b B0 (bare B) h.held.card_b (d.stands 0).b);
        };
        span = begin rule old.next;
        stands = begun.minutes;
        next = let e : old.next + 0 ≡ old.next = omega arith in e ∙ sym begun.next;
        low = h.low;
        due = omega (arith, is);
        later = let k = ap (λ (q : Keeper). q.journal.kept) begun.keeper in omega (arith, k, late, is);
        cabin = subst (λ (c : Cabin). CabinIsSound u None c) (sym cabin) (d.stands u);
        ended = record { few = omega (arith, is); each = λ k less. absurd (omega (arith, less, is)) };
        rows = λ card some. absurd (let none = ap (λ (c : Cabin). is_some (session_of c.cards card)) cabin ∙ ap is_some (bare card) in let no : false ≡ true = sym none ∙ some in cc);
        present = λ m from. subst (λ (c : Cabin). IfSome (present_in c.slots.past m) (HaveRows c.cards V)) (sym cabin)
            (none-later (HaveRows old.keeper.cabin.cards V) 0 old.keeper.cabin.slots.minute m old.keeper.cabin.cards old.keeper.cabin.slots.past
            (let le = h.held.minute in omega (arith, le, from, is)) (d.stands 0).past);
        entries = λ card. subst (λ (o : Option Accepted). IfSome o (λ (s : Accepted). (s.entry < insertion_ring.count) × (s.noted ≤ new.noted))) (sym (ap (λ (c : Cabin). session_of c.cards card) cabin ∙ bare card)) tt;
        watches = fresh-watches new.watch new.next begun.watch (begun.speeds new.next);
        limit = begun.limit.1 ∙ sym begun.limit.0;
        newest = subst (λ (o : Option ℕ). KnowsNewest o V) (sym begun.newest) points;
      }

  -- it is held so
  pub span-held : IsAt (old.next / 60) old U chip_a chip_b A0 B0 → IsSpanBegun rule old new journal → UnitMayBeCalled new.keeper V → new.keeper.odometer ≤ HIGHEST_ODOMETER → CanBeCut (old.next / 60) new V chip_a chip_b A0 B0
  span-held h begun unit most =
      let cabin : new.keeper.cabin ≡ old.keeper.cabin = ap (λ (k : Keeper). k.cabin) begun.keeper in
      record {
        is_unit = unit.is_unit;
        odometer = most;
        minute = subst (λ (c : Cabin). c.slots.minute ≤ old.next / 60) (sym cabin) h.held.minute;
        card_a = subst (λ (c : Cabin). CardAt c.cards.a chip_a A0) (sym cabin) h.held.card_a;
        card_b = subst (λ (c : Cabin). CardAt c.cards.b chip_b B0) (sym cabin) h.held.card_b;
        stand = subst StandSomehow (sym cabin) h.held.stand;
      }
