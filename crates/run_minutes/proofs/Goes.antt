-- What goes on over any calls, and how it stands behind them, from call to call.
use Rattle.std.proofs.Common.{◌≡◌, ◌∙◌, ℕ, ◌+◌, ◌-◌, ◌/◌, ◌≤◌, Bool, false, Option, Some, length, is_some, refl, ap, sym, subst, arith}
use Rattle.trace_model.specs.declared.Card.{Card}
use Rattle.trace_model.specs.declared.Card.TheVariants.{A, B}
use Rattle.tach_media.specs.Medium.{State, HasCause}
use Rattle.tach_media.proofs.Runs.{cause_after, no_reads}
use Rattle.tach_media.proofs.Breakdowns.{none_broken, both_broken, fewer_broken}
use Rattle.tach_media.specs.card_layout.declared.command.CardState.{CardState}
use Rattle.unit_model.specs.Image.{IsUnit}
use Rattle.log_model.specs.declared.lines.Break.{Break}
use Rattle.log_model.specs.declared.lines.Mark.{Mark}
use Rattle.card_session.specs.declared.session.Kept.{Kept}
use Rattle.run_crew.specs.declared.cabin.Cabin.{Cabin}
use Rattle.run_crew.specs.declared.cards.Accepted.{Accepted}
use Rattle.run_crew.specs.declared.cards.Cards.{Cards}
use Rattle.run_outcome.specs.Lines.{Listed}
use Rattle.run_devices.specs.run_promise.Between.{devices}
use Rattle.run_minutes.specs.declared.keeper.Keeper.{Keeper}
use Rattle.run_minutes.specs.declared.keeper.Moment.{Moment}
use Rattle.run_minutes.specs.Keeping.{Fate, Still, Has, Fell, IsBrought, UnitMayBeCalled, CardMayBeCalled, HasItsRow, HasLeftMore, AreEmptied, SessionsGoOn, cabin_by, tears_of, most_tears}
use Rattle.run_minutes.specs.Later.{IsLater, AreAfter, AreCalm, RestBy}
use Rattle.run_minutes.specs.Stand.{Stand, StandsAfter, CardGoes, Goes, KeepingGoes, UnitGoes, IsReadyFor, AreBare, standing, cards_of}
use Rattle.run_minutes.proofs.Units.{left-then}
use Rattle.run_minutes.proofs.Seats.{emptied-none, emptied-then, sessions-none, sessions-then, stays-none, fate-seats, brought-sessions}
use Rattle.run_minutes.proofs.Rounds.{brought-minute, brought-past, brought-tears, brought-more, brought-tear-room, brought-mark-room}
use Rattle.run_minutes.proofs.Later.{state-by, after-same, after-then, after-of-unit}
use Rattle.run_minutes.proofs.Calm.{calm-same, calm-then, calm-of-unit}
use Rattle.run_minutes.proofs.Rests.{rest-none, rest-then}

-- ---- one card

card-none : (a : Option Accepted) (s : State) → CardGoes a a s s
card-none a s = record {
  size = refl;
  tells = refl;
  keeps = λ t x le left. left;
  broken = let few : tears_of a - tears_of a ≤ 0 = omega arith in fewer_broken few (none_broken s);
}

card-then : (a b c : Option Accepted) (x y z : State) → IsLater x y → CardGoes a b x y → CardGoes b c y z → CardGoes a c x z
card-then a b c x y z later first next = record {
  size = next.size ∙ first.size;
  tells = next.tells ∙ first.tells;
  keeps = left-then x y z first.keeps later.clock next.keeps;
  broken = let few : tears_of a - tears_of c ≤ (tears_of a - tears_of b) + (tears_of b - tears_of c) = omega arith in fewer_broken few (both_broken first.broken next.broken);
}

-- a card that is not called
pub bare-none : {C D : Type 0} (cards : Cards) (a : C) (b : D) → AreBare cards a a b b
bare-none cards a b = record { card_a = λ none. refl; card_b = λ none. refl }

pub bare-then : {C D : Type 0} (x y : Cards) (a b c : C) (d e f : D) → SessionsGoOn x y → AreBare x a b d e → AreBare y b c e f → AreBare x a c d f
bare-then x y a b c d e f goes first next = record {
  card_a = λ none. next.card_a (stays-none x.a.accepted y.a.accepted goes.a none) ∙ first.card_a none;
  card_b = λ none. next.card_b (stays-none x.b.accepted y.b.accepted goes.b none) ∙ first.card_b none;
}

-- ---- all

pub goes_none : (s : Stand) → Goes s s
goes_none s = record { later = after-same s.devices; calm = calm-same s.devices; mark_room = refl; break_room = refl; more = omega arith }

pub goes_then : {s t u : Stand} → Goes s t → Goes t u → Goes s u
goes_then {s} {t} {u} first next = record {
  later = after-then s.devices t.devices u.devices first.later next.later;
  calm = calm-then s.devices t.devices u.devices first.calm next.calm;
  mark_room = next.mark_room ∙ first.mark_room;
  break_room = next.break_room ∙ first.break_room;
  more = let a = first.more in let b = next.more in omega (arith, a, b);
}

-- ---- keepings

pub keeping_none : (s : Stand) → KeepingGoes s s
keeping_none s = record {
  all = goes_none s;
  memory = refl;
  odometer = refl;
  past = refl;
  seats = emptied-none s.keeper.cabin.slots.seats;
  sessions = sessions-none (cards_of s);
  tears = omega arith;
  unit_keeps = λ t x le left. left;
  unit_tells = refl;
  card_a = card-none (cards_of s).a.accepted s.devices.card_a;
  card_b = card-none (cards_of s).b.accepted s.devices.card_b;
  rests = rest-none (cards_of s) (cards_of s) s.devices.unit s.devices.unit s.devices.card_a s.devices.card_b;
}

pub keeping_then : {s t u : Stand} → KeepingGoes s t → KeepingGoes t u → KeepingGoes s u
keeping_then {s} {t} {u} first next = record {
  all = goes_then first.all next.all;
  memory = next.memory ∙ first.memory;
  odometer = next.odometer ∙ first.odometer;
  past = next.past ∙ first.past;
  seats = emptied-then s.keeper.cabin.slots.seats t.keeper.cabin.slots.seats u.keeper.cabin.slots.seats first.seats next.seats;
  sessions = sessions-then (cards_of s) (cards_of t) (cards_of u) first.sessions next.sessions;
  tears = let a = first.tears in let b = next.tears in omega (arith, a, b);
  unit_keeps = left-then s.devices.unit t.devices.unit u.devices.unit first.unit_keeps first.all.later.unit.clock next.unit_keeps;
  unit_tells = next.unit_tells ∙ first.unit_tells;
  card_a = card-then (cards_of s).a.accepted (cards_of t).a.accepted (cards_of u).a.accepted s.devices.card_a t.devices.card_a u.devices.card_a first.all.later.card_a first.card_a next.card_a;
  card_b = card-then (cards_of s).b.accepted (cards_of t).b.accepted (cards_of u).b.accepted s.devices.card_b t.devices.card_b u.devices.card_b first.all.later.card_b first.card_b next.card_b;
  rests = rest-then (cards_of s) (cards_of t) (cards_of u) s.devices t.devices u.devices first.sessions next.sessions first.rests next.rests;
}

-- a call on the unit alone, behind which the journal may be another, and there may be marks more
pub goes_on_unit : (k v : Keeper) (ms ns : Listed Mark) (bs : Listed Break) (U V X Y : State) (chip_a chip_b : CardState) → v ≡ record k { journal = v.journal } → ns.room ≡ ms.room → HasLeftMore U V → is_some V.image ≡ is_some U.image
    → IsLater U V → KeepingGoes (standing k ms bs U X Y chip_a chip_b) (standing v ns bs V X Y chip_a chip_b)
goes_on_unit k v ms ns bs U V X Y chip_a chip_b is room keeps tells later =
    let most : most_tears v.cabin.cards ≡ most_tears k.cabin.cards = ap (λ (q : Keeper). most_tears q.cabin.cards) is in
    let more : length bs.items ≤ length bs.items = omega arith in
    let tears : length bs.items + most_tears v.cabin.cards ≤ length bs.items + most_tears k.cabin.cards = omega (arith, most) in
    record {
      all = record { later = after-of-unit U V X Y later; calm = calm-of-unit U V X Y; mark_room = room; break_room = refl; more = more };
      memory = ap (λ (q : Keeper). q.memory) is;
      odometer = ap (λ (q : Keeper). q.odometer) is;
      past = ap (λ (q : Keeper). q.cabin.slots.past) is;
      seats = subst (λ (q : Keeper). AreEmptied k.cabin.slots.seats q.cabin.slots.seats) (sym is) (emptied-none k.cabin.slots.seats);
      sessions = subst (λ (q : Keeper). SessionsGoOn k.cabin.cards q.cabin.cards) (sym is) (sessions-none k.cabin.cards);
      tears = tears;
      unit_keeps = keeps;
      unit_tells = tells;
      card_a = subst (λ (q : Keeper). CardGoes k.cabin.cards.a.accepted q.cabin.cards.a.accepted X X) (sym is) (card-none k.cabin.cards.a.accepted X);
      card_b = subst (λ (q : Keeper). CardGoes k.cabin.cards.b.accepted q.cabin.cards.b.accepted Y Y) (sym is) (card-none k.cabin.cards.b.accepted Y);
      rests = rest-none k.cabin.cards v.cabin.cards U V X Y;
    }

pub goes_of_unit : (k v : Keeper) (ms ns : Listed Mark) (bs : Listed Break) {U V : State} (X Y : State) (chip_a chip_b : CardState) {failed : Bool} → v ≡ record k { journal = v.journal } → ns.room ≡ ms.room → UnitGoes failed U V
    → KeepingGoes (standing k ms bs U X Y chip_a chip_b) (standing v ns bs V X Y chip_a chip_b)
goes_of_unit k v ms ns bs {U} {V} X Y chip_a chip_b {failed} is room goes =
    goes_on_unit k v ms ns bs U V X Y chip_a chip_b is room goes.keeps goes.tells (state-by U V failed goes.clock goes.cause)

-- ---- an entry was brought to a card

-- the other card was not called
beside-a : (fate : Fate) (second : ℕ) (cabin : Cabin) (Z : State) → CardGoes cabin.cards.b.accepted (cabin_by fate (Some A) second cabin).cards.b.accepted Z Z
beside-a Still second cabin Z = card-none cabin.cards.b.accepted Z
beside-a (Has accepted clock) second cabin Z = card-none cabin.cards.b.accepted Z
beside-a Fell second cabin Z = card-none cabin.cards.b.accepted Z

beside-b : (fate : Fate) (second : ℕ) (cabin : Cabin) (Z : State) → CardGoes cabin.cards.a.accepted (cabin_by fate (Some B) second cabin).cards.a.accepted Z Z
beside-b Still second cabin Z = card-none cabin.cards.a.accepted Z
beside-b (Has accepted clock) second cabin Z = card-none cabin.cards.a.accepted Z
beside-b Fell second cabin Z = card-none cabin.cards.a.accepted Z

module _ (kept : Kept) (at : Moment) (failed : Bool) (k v : Keeper) (ms ns : Listed Mark) (bs cs : Listed Break) (fate : Fate) (U V X Y Z : State) (chip chip_after beside : CardState) (keeps : HasLeftMore U V) (tells : is_some V.image ≡ is_some U.image) where
  pub goes_of_a : IsBrought (Some A) kept at failed k v ms ns bs cs fate U V X Y → CardGoes k.cabin.cards.a.accepted v.cabin.cards.a.accepted X Y → AreAfter (devices U X Z) (devices V Y Z) → AreCalm bs.items cs.items (devices U X Z) (devices V Y Z)
      → RestBy k.cabin.cards v.cabin.cards (devices U X Z) (devices V Y Z) → KeepingGoes (standing k ms bs U X Z chip beside) (standing v ns cs V Y Z chip_after beside)
  goes_of_a b card later calm rests = record {
    all = record {
      later = later;
      calm = calm;
      mark_room = brought-mark-room (Some A) kept at failed k v ms ns bs cs fate U V X Y b;
      break_room = brought-tear-room (Some A) kept at failed k v ms ns bs cs fate U V X Y b;
      more = brought-more (Some A) kept at failed k v ms ns bs cs fate U V X Y b;
    };
    memory = ap (λ (q : Keeper). q.memory) b.keeper;
    odometer = ap (λ (q : Keeper). q.odometer) b.keeper;
    past = brought-past (Some A) kept at failed k v ms ns bs cs fate U V X Y b;
    seats = subst (λ (q : Keeper). AreEmptied k.cabin.slots.seats q.cabin.slots.seats) (sym b.keeper) (fate-seats fate (Some A) at.second k.cabin);
    sessions = brought-sessions fate (Some A) kept at.second k v b.is b.keeper;
    tears = brought-tears (Some A) kept at failed k v ms ns bs cs fate U V X Y b;
    unit_keeps = keeps;
    unit_tells = tells;
    card_a = card;
    card_b = subst (λ (q : Keeper). CardGoes k.cabin.cards.b.accepted q.cabin.cards.b.accepted Z Z) (sym b.keeper) (beside-a fate at.second k.cabin Z);
    rests = rests;
  }

  pub goes_of_b : IsBrought (Some B) kept at failed k v ms ns bs cs fate U V X Y → CardGoes k.cabin.cards.b.accepted v.cabin.cards.b.accepted X Y → AreAfter (devices U Z X) (devices V Z Y) → AreCalm bs.items cs.items (devices U Z X) (devices V Z Y)
      → RestBy k.cabin.cards v.cabin.cards (devices U Z X) (devices V Z Y) → KeepingGoes (standing k ms bs U Z X beside chip) (standing v ns cs V Z Y beside chip_after)
  goes_of_b b card later calm rests = record {
    all = record {
      later = later;
      calm = calm;
      mark_room = brought-mark-room (Some B) kept at failed k v ms ns bs cs fate U V X Y b;
      break_room = brought-tear-room (Some B) kept at failed k v ms ns bs cs fate U V X Y b;
      more = brought-more (Some B) kept at failed k v ms ns bs cs fate U V X Y b;
    };
    memory = ap (λ (q : Keeper). q.memory) b.keeper;
    odometer = ap (λ (q : Keeper). q.odometer) b.keeper;
    past = brought-past (Some B) kept at failed k v ms ns bs cs fate U V X Y b;
    seats = subst (λ (q : Keeper). AreEmptied k.cabin.slots.seats q.cabin.slots.seats) (sym b.keeper) (fate-seats fate (Some B) at.second k.cabin);
    sessions = brought-sessions fate (Some B) kept at.second k v b.is b.keeper;
    tears = brought-tears (Some B) kept at failed k v ms ns bs cs fate U V X Y b;
    unit_keeps = keeps;
    unit_tells = tells;
    card_b = card;
    card_a = subst (λ (q : Keeper). CardGoes k.cabin.cards.a.accepted q.cabin.cards.a.accepted Z Z) (sym b.keeper) (beside-b fate at.second k.cabin Z);
    rests = rests;
  }

-- ---- how it stands

pub stands_none : (s : Stand) (at : Moment) → IsReadyFor s → s.keeper.cabin.slots.minute ≤ at.second / 60 → StandsAfter at false s s
stands_none s at ready minute = record {
  unit = ready.unit_ready.is_unit;
  card_a = ready.card_a;
  card_b = ready.card_b;
  minute = minute;
  cause = (no_reads s.devices.unit ready.unit_ready.works).cause;
  ready = λ well. ready;
  rows = λ well card h. h;
}

pub stands_then : {at : Moment} {failed : Bool} {s t u : Stand} → StandsAfter at false s t → StandsAfter at failed t u → StandsAfter at failed s u
stands_then first next = record {
  unit = next.unit;
  card_a = next.card_a;
  card_b = next.card_b;
  minute = next.minute;
  cause = cause_after first.cause next.cause;
  ready = next.ready;
  rows = λ well card h. next.rows well card (first.rows refl card h);
}

-- whatever the answer is called
pub stands_by : {f g : Bool} {at : Moment} {s t : Stand} → f ≡ g → StandsAfter at f s t → StandsAfter at g s t
stands_by {at = at} {s = s} {t = t} is h = subst (λ (failed : Bool). StandsAfter at failed s t) is h

-- the other card may be called still
ready-beside-a : (fate : Fate) (second : ℕ) (cabin : Cabin) (chip : CardState) (Z : State) → CardMayBeCalled cabin.cards.b chip Z → CardMayBeCalled (cabin_by fate (Some A) second cabin).cards.b chip Z
ready-beside-a Still second cabin chip Z h = h
ready-beside-a (Has accepted clock) second cabin chip Z h = h
ready-beside-a Fell second cabin chip Z h = h

ready-beside-b : (fate : Fate) (second : ℕ) (cabin : Cabin) (chip : CardState) (Z : State) → CardMayBeCalled cabin.cards.a chip Z → CardMayBeCalled (cabin_by fate (Some B) second cabin).cards.a chip Z
ready-beside-b Still second cabin chip Z h = h
ready-beside-b (Has accepted clock) second cabin chip Z h = h
ready-beside-b Fell second cabin chip Z h = h

-- so it stands behind an entry
module _ (kept : Kept) (at : Moment) (failed : Bool) (k v : Keeper) (ms ns : Listed Mark) (bs cs : Listed Break) (fate : Fate) (U V X Y Z : State) (chip chip_after beside : CardState) (unit : IsUnit V) (cause : HasCause U V failed)
    (ready : failed ≡ false → UnitMayBeCalled v V) (rows : failed ≡ false → (card : Card) → HasItsRow k.cabin.cards U card → HasItsRow v.cabin.cards V card) where
  pub stands_of_a : IsBrought (Some A) kept at failed k v ms ns bs cs fate U V X Y → k.cabin.slots.minute ≤ at.second / 60 → CardMayBeCalled v.cabin.cards.a chip_after Y → CardMayBeCalled k.cabin.cards.b beside Z
      → StandsAfter at failed (standing k ms bs U X Z chip beside) (standing v ns cs V Y Z chip_after beside)
  stands_of_a b minute card other =
      let still : CardMayBeCalled v.cabin.cards.b beside Z = subst (λ (q : Keeper). CardMayBeCalled q.cabin.cards.b beside Z) (sym b.keeper) (ready-beside-a fate at.second k.cabin beside Z other) in
      record {
        unit = unit;
        card_a = card;
        card_b = still;
        minute = brought-minute (Some A) kept at failed k v ms ns bs cs fate U V X Y b minute;
        cause = cause;
        ready = λ well. record { unit_ready = ready well; card_a = card; card_b = still };
        rows = rows;
      }

  pub stands_of_b : IsBrought (Some B) kept at failed k v ms ns bs cs fate U V X Y → k.cabin.slots.minute ≤ at.second / 60 → CardMayBeCalled v.cabin.cards.b chip_after Y → CardMayBeCalled k.cabin.cards.a beside Z
      → StandsAfter at failed (standing k ms bs U Z X beside chip) (standing v ns cs V Z Y beside chip_after)
  stands_of_b b minute card other =
      let still : CardMayBeCalled v.cabin.cards.a beside Z = subst (λ (q : Keeper). CardMayBeCalled q.cabin.cards.a beside Z) (sym b.keeper) (ready-beside-b fate at.second k.cabin beside Z other) in
      record {
        unit = unit;
        card_b = card;
        card_a = still;
        minute = brought-minute (Some B) kept at failed k v ms ns bs cs fate U V X Y b minute;
        cause = cause;
        ready = λ well. record { unit_ready = ready well; card_b = card; card_a = still };
        rows = rows;
      }
