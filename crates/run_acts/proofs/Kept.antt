-- A run that has kept what its seconds have decided.
use Rattle.std.proofs.Common.{◌≡◌, ◌∙◌, ◌⊎◌, ⊎_elim, ℕ, ◌+◌, ◌-◌, ◌/◌, ◌<◌, ◌≤◌, true, Option, Some, None, IfSome, List, All, is_some, refl, ap, sym, subst, arith}
use Rattle.std.specs.Prelude.{get_or}
use Rattle.std.proofs.lemmas.List.Elements.{All-weaker}
use Rattle.trace_model.specs.declared.Card.{Card}
use Rattle.trace_model.specs.declared.Card.TheVariants.{A, B}
use Rattle.tach_media.specs.Medium.{State}
use Rattle.card_files.specs.card_layout.declared.command.CardState.{CardState}
use Rattle.run_events.specs.message_model.Records.{insertion_ring}
use Rattle.unit_model.specs.minute_model.declared.Minute.{Minute}
use Rattle.unit_model.specs.minute_model.Span.{Span, end_of, ungiven_of}
use Rattle.minute_rules.specs.Kept.{CountsSpan, Kept as Minutes}
use Rattle.unit_model.proofs.minute_model.Counted.{ungiven-most}
use Rattle.run_crew.specs.card_slots.declared.seats.Present.{Present}
use Rattle.run_crew.specs.card_slots.declared.seats.Ended.{Ended}
use Rattle.run_crew.specs.card_slots.declared.seats.Seat.{Seat}
use Rattle.run_crew.specs.card_slots.Calls.{Seats, present_in}
use Rattle.run_crew.specs.declared.cards.Accepted.{Accepted}
use Rattle.run_crew.specs.declared.cards.Cards.{Cards}
use Rattle.run_crew.specs.Cards.{session_of}
use Rattle.run_crew.specs.Cabin.{CabinIsSound}
use Rattle.run_crew.proofs.Ended.{ended-known, ended-later, ended-same}
use Rattle.run_events.specs.declared.watch.Watch.{Watch}
use Rattle.run_events.specs.Watching.{Watches}
use Rattle.run_events.specs.Blocks.{KnowsNewest}
use Rattle.run_minutes.specs.Keeping.{DevicesMayBeCalled, HasItsRow, HaveRows, AreEmptied, GoesOnFrom, SessionsGoOn}
use Rattle.run_minutes.specs.Minutes.{kept_after}
use Rattle.run_minutes.proofs.Decided.{rows-on}
use Rattle.run_acts.specs.declared.run.Run.{Run}
use Rattle.run_acts.specs.Going.{RunHasPower}
use Rattle.run_acts.specs.Room.{bare_count, bare_seats}
use Rattle.run_acts.proofs.Due.{Decides}

-- ---- what the keeping is given

module _ {U A0 B0 : State} {chip_a chip_b : CardState} (leaving : Option Card) (to later : ℕ) (run : Run) (g : RunHasPower leaving to run U chip_a chip_b A0 B0) (items : List Minute) (d : Decides (ungiven_of g.span) later run.keeper.journal.kept items) (most : later ≤ to) where
  pub given-ended : All (λ (m : Minute). is_some (present_in run.keeper.cabin.slots.past m.minute) ≡ true) items
  given-ended = λ k x less.
      let low = d.from k x less in
      let high = d.before k x less in
      ended-known (ungiven_of g.span) to (get_or items k x).minute run.keeper.cabin.slots low (omega (arith, high, most)) g.ended

  pub given-rows : All (λ (m : Minute). IfSome (present_in run.keeper.cabin.slots.past m.minute) (HaveRows run.keeper.cabin.cards U)) items
  given-rows = All-weaker (λ (m : Minute). ungiven_of g.span ≤ m.minute) (λ (m : Minute). IfSome (present_in run.keeper.cabin.slots.past m.minute) (HaveRows run.keeper.cabin.cards U)) (λ m late. g.present m.minute late) items d.from

-- ---- what is known behind it

went : (o n : Option Accepted) → GoesOnFrom o n → is_some n ≡ true → is_some o ≡ true
went o None h is = absurd (cc)
went None (Some a) h is = absurd h
went (Some b) (Some a) h is = refl

pub session-went : (card : Card) (old new : Cards) → SessionsGoOn old new → is_some (session_of new card) ≡ true → is_some (session_of old card) ≡ true
session-went A old new h is = went old.a.accepted new.a.accepted h.a is
session-went B old new h is = went old.b.accepted new.b.accepted h.b is

abbrev HasEntry : (noted : ℕ) → Accepted → Type 0
HasEntry noted s = (s.entry < insertion_ring.count) × (s.noted ≤ noted)

entry-went : (noted : ℕ) (o n : Option Accepted) → GoesOnFrom o n → IfSome o (HasEntry noted) → IfSome n (HasEntry noted)
entry-went noted o None h e = tt
entry-went noted None (Some a) h e = absurd h
entry-went noted (Some b) (Some a) h e = (let same = h.0 in let less = e.0 in omega (arith, same, less), let same = h.1 in let less = e.1 in omega (arith, same, less))

pub entries-went : (noted : ℕ) (card : Card) (old new : Cards) → SessionsGoOn old new → IfSome (session_of old card) (HasEntry noted) → IfSome (session_of new card) (HasEntry noted)
entries-went noted A old new h e = entry-went noted old.a.accepted new.a.accepted h.a e
entries-went noted B old new h e = entry-went noted old.b.accepted new.b.accepted h.b e

pub present-went : (P Q : Present → Type 0) → ((p : Present) → P p → Q p) → (o : Option Present) → IfSome o P → IfSome o Q
present-went P Q goes None h = tt
present-went P Q goes (Some p) h = goes p h

-- the minutes up to a later one are given, and kept
module _ {U V A0 A1 B0 B1 : State} {chip_a chip_b next_a next_b : CardState} (leaving : Option Card) (to : ℕ) (old new : Run) (g : RunHasPower leaving to old U chip_a chip_b A0 B0) (later : Span) (items : List Minute)
    (d : Decides (ungiven_of g.span) (ungiven_of later) old.keeper.journal.kept items) where
  pub kept-going : CountsSpan new.minutes later → end_of later ≡ new.next → later.first ≡ g.span.first → ungiven_of g.span ≤ ungiven_of later → ungiven_of later ≤ to → DevicesMayBeCalled new.keeper V next_a next_b A1 B1
      → ((card : Card) → HasItsRow old.keeper.cabin.cards U card → HasItsRow new.keeper.cabin.cards V card) → new.keeper.cabin.slots.past ≡ old.keeper.cabin.slots.past → new.keeper.journal.kept ≡ kept_after old.keeper.journal.kept items
      → ((from : ℕ) (l : Option Card) → All (λ (m : Minute). from ≤ m.minute) items → CabinIsSound from l old.keeper.cabin → (next : ℕ) → from ≤ next → kept_after old.keeper.journal.kept items < next → CabinIsSound next l new.keeper.cabin)
      → SessionsGoOn old.keeper.cabin.cards new.keeper.cabin.cards → new.noted ≡ old.noted → Watches new.watch new.next → new.watch.limit ≡ new.watch.over.limit → KnowsNewest new.watch.newest V → RunHasPower leaving to new V next_a next_b A1 B1
  kept-going minutes end first more most ready rows past last stands sessions noted watches limit newest = record {
    ready = ready;
    span = later;
    stands = minutes;
    next = end;
    low = let low = g.low in omega (arith, low, first);
    due = most;
    later = let less = d.last in omega (arith, less, last);
    cabin = stands (ungiven_of g.span) leaving d.from g.cabin (ungiven_of later) more d.last;
    ended = ended-same (ungiven_of later) to old.keeper.cabin.slots new.keeper.cabin.slots past (ended-later (ungiven_of g.span) (ungiven_of later) to old.keeper.cabin.slots more g.ended);
    rows = λ card some. rows card (g.rows card (session-went card old.keeper.cabin.cards new.keeper.cabin.cards sessions some));
    present = λ m late. subst (λ (es : List Ended). IfSome (present_in es m) (HaveRows new.keeper.cabin.cards V)) (sym past)
        (present-went (HaveRows old.keeper.cabin.cards U) (HaveRows new.keeper.cabin.cards V) (λ p h. rows-on old.keeper.cabin.cards new.keeper.cabin.cards U V p rows h) (present_in old.keeper.cabin.slots.past m)
        (g.present m (omega (arith, more, late))));
    entries = λ card. subst (λ (n : ℕ). IfSome (session_of new.keeper.cabin.cards card) (HasEntry n)) (sym noted) (entries-went old.noted card old.keeper.cabin.cards new.keeper.cabin.cards sessions (g.entries card));
    watches = watches;
    limit = limit;
    newest = newest;
  }

-- nothing is decided, and slots and sessions have changed: no session is new, and the minutes that have ended are the same;
-- what is known of the newest block is known still
module _ {U V A0 A1 B0 B1 : State} {chip_a chip_b next_a next_b : CardState} (leaving other : Option Card) (to : ℕ) (old new : Run) (g : RunHasPower leaving to old U chip_a chip_b A0 B0) where
  pub moved-going : new.minutes ≡ old.minutes → new.next ≡ old.next → new.keeper.journal.kept ≡ old.keeper.journal.kept → DevicesMayBeCalled new.keeper V next_a next_b A1 B1
      → ((card : Card) → HasItsRow old.keeper.cabin.cards U card → HasItsRow new.keeper.cabin.cards V card) → new.keeper.cabin.slots.past ≡ old.keeper.cabin.slots.past → CabinIsSound (ungiven_of g.span) other new.keeper.cabin
      → SessionsGoOn old.keeper.cabin.cards new.keeper.cabin.cards → new.noted ≡ old.noted → new.watch ≡ old.watch → (KnowsNewest old.watch.newest U → KnowsNewest old.watch.newest V) → RunHasPower other to new V next_a next_b A1 B1
  moved-going minutes next kept ready rows past stands sessions noted watch knows = record {
    ready = ready;
    span = g.span;
    stands = subst (λ (k : Minutes). CountsSpan k g.span) (sym minutes) g.stands;
    next = g.next ∙ sym next;
    low = g.low;
    due = g.due;
    later = let less = g.later in omega (arith, less, kept);
    cabin = stands;
    ended = ended-same (ungiven_of g.span) to old.keeper.cabin.slots new.keeper.cabin.slots past g.ended;
    rows = λ card some. rows card (g.rows card (session-went card old.keeper.cabin.cards new.keeper.cabin.cards sessions some));
    present = λ m late. subst (λ (es : List Ended). IfSome (present_in es m) (HaveRows new.keeper.cabin.cards V)) (sym past)
        (present-went (HaveRows old.keeper.cabin.cards U) (HaveRows new.keeper.cabin.cards V) (λ p h. rows-on old.keeper.cabin.cards new.keeper.cabin.cards U V p rows h) (present_in old.keeper.cabin.slots.past m) (g.present m late));
    entries = λ card. subst (λ (n : ℕ). IfSome (session_of new.keeper.cabin.cards card) (HasEntry n)) (sym noted) (entries-went old.noted card old.keeper.cabin.cards new.keeper.cabin.cards sessions (g.entries card));
    watches = subst (λ (w : Watch). Watches w new.next) (sym watch) (subst (λ (n : ℕ). Watches old.watch n) (sym next) g.watches);
    limit = subst (λ (w : Watch). w.limit ≡ w.over.limit) (sym watch) g.limit;
    newest = subst (λ (w : Watch). KnowsNewest w.newest V) (sym watch) (knows g.newest);
  }

-- ---- room

bare-less : (o n : Option Seat) → (n ≡ o) ⊎ (n ≡ None) → bare_count n ≤ bare_count o
bare-less o n h = ⊎_elim (λ same. let e = ap bare_count same in omega (arith, e)) (λ none. let e = ap bare_count none in omega (arith, e)) h

pub seats-less : (old new : Seats) → AreEmptied old new → bare_seats new ≤ bare_seats old
seats-less old new h = let a = bare-less old.driver new.driver h.0 in let b = bare-less old.codriver new.codriver h.1 in omega (arith, a, b)

-- the minutes that wait
pub owing-is : (k : Minutes) (span : Span) → CountsSpan k span → k.owing ≡ end_of span / 60 - ungiven_of span
owing-is k span stands = ap (λ (m : Minutes). m.owing) stands.kept

pub owing-sum : (k : Minutes) (span : Span) → CountsSpan k span → ungiven_of span + k.owing ≡ end_of span / 60
owing-sum k span stands = let is = owing-is k span stands in let most = ungiven-most span stands.settled in omega (arith, is, most)
