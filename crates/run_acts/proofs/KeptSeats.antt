-- A card that no failed call tears out keeps its session and its seat, whichever minutes are kept.
use Rattle.std.proofs.Common.{◌≡◌, ◌∙◌, inl, inr, ℕ, ◌<◌, ◌≤◌, Bool, true, false, Option, Some, None, is_some, List, [], ◌∷◌, length, filter, refl, ap, sym, subst, arith}
use Rattle.activity_codec.specs.declared.values.Slot.TheVariants.{Driver, CoDriver}
use Rattle.trace_model.specs.declared.Card.{Card}
use Rattle.trace_model.specs.declared.Card.TheVariants.{A, B}
use Rattle.trace_model.specs.Trace.{TraceSecond}
use Rattle.tach_media.specs.Medium.{State, last_count}
use Rattle.unit_model.specs.minute_model.declared.Minute.{Minute}
use Rattle.log_model.specs.Log.{RunLog, Phase}
use Rattle.log_model.specs.Slots.{same_card}
use Rattle.log_model.specs.Course.{Visit, went}
use Rattle.log_model.specs.Causes.{device_of, RoseBy, cards_torn}
use Rattle.device_calls.specs.safety_model.Safe.{Devices, breakdowns_of}
use Rattle.run_crew.specs.card_slots.declared.seats.Present.{Present}
use Rattle.run_crew.specs.declared.cards.Accepted.{Accepted}
use Rattle.run_crew.specs.declared.cards.Cards.{Cards}
use Rattle.run_crew.specs.declared.cabin.Cabin.{Cabin}
use Rattle.run_crew.specs.Cards.{session_of}
use Rattle.run_crew.specs.Cabin.{torn_out}
use Rattle.run_events.specs.run_course.Lines.{times_of}
use Rattle.run_events.specs.run_course.Reached.{course_at}
use Rattle.run_minutes.specs.run_promise.Origin.{Origin}
use Rattle.run_minutes.specs.run_promise.Whole.{NothingFailed}
use Rattle.run_minutes.specs.Later.{AreLater}
use Rattle.run_record.specs.Recorded.{Values}
use Rattle.run_record.specs.Within.{RecordInSecond}
use Rattle.run_minutes.specs.declared.keeper.Keeper.{Keeper}
use Rattle.run_minutes.specs.declared.keeper.Moment.{Moment}
use Rattle.run_minutes.specs.Keeping.{Fate, Still, Has, Fell, cabin_by, kept_in}
use Rattle.run_minutes.specs.Minutes.{KeepingState, Done, Reach, Whole, Short, IsReach, AreRounds, told_after, told_by, present_at, minute_of}
use Rattle.run_acts.specs.Devices.{CardGoesOn, DevicesGoOn}
use Rattle.run_acts.specs.Stays.{Whose, Both, Only, covers, AreKnown}
use Rattle.run_acts.proofs.SeatsThen.{same-as, torn-other, torn-slot}
use Rattle.run_acts.proofs.RoundBroken.{gone, had, fell-asked, fell-gone, second-is, first-on, second-on, round-on, rounds-on}
use Rattle.run_acts.proofs.AllStay.{KeepsSeat, StoodBefore, stood-grown, none-rises}

-- ---- its seat

not-gone : {T : Type 0} (q : Option Accepted) → is_some q ≡ true → q ≡ None → T
not-gone q some none = absurd (let wrong : false ≡ true = sym (ap (λ (o : Option Accepted). is_some o) none) ∙ some in cc)

seat-then : (a b d : Cabin) (c : Card) → KeepsSeat a b c → KeepsSeat b d c → KeepsSeat a d c
seat-then a b d c x y = record { sits = y.sits ∙ x.sits; there = λ slot at. x.there slot (y.there slot at) }

-- where another card falls, or none
one-seat : (fate : Fate) (present : Option Card) (second : ℕ) (cabin : Cabin) (c : Card) → (fate ≡ Fell → present ≡ Some c → ⊥) → KeepsSeat cabin (cabin_by fate present second cabin) c
one-seat Still None second cabin c up = record { sits = refl; there = λ slot at. at }
one-seat (Has a n) None second cabin c up = record { sits = refl; there = λ slot at. at }
one-seat Fell None second cabin c up = record { sits = refl; there = λ slot at. at }
one-seat Still (Some k) second cabin c up = record { sits = refl; there = λ slot at. at }
one-seat (Has a n) (Some k) second cabin c up = record { sits = refl; there = λ slot at. at }
one-seat Fell (Some k) second cabin c up = by (same_card k c) refl
  where
    by : (b : Bool) → same_card k c ≡ b → KeepsSeat cabin (torn_out k second cabin) c
    by true mine = absurd (up refl (ap (λ (x : Card). Some x) (same-as k c mine)))
    by false other = record { sits = torn-other k c second cabin other; there = λ slot at. torn-slot k c second cabin slot at }

-- A CARD that has a session behind some minutes, if it had one before, keeps its seat in them.
pub seats-kept : (k : Keeper) (at : Moment) (xs : List Done) (t : KeepingState) (c : Card) → AreRounds k at xs t → (is_some (session_of t.keeper.cabin.cards c) ≡ true → is_some (session_of (told_by k at xs t).keeper.cabin.cards c) ≡ true) → KeepsSeat t.keeper.cabin (told_by k at xs t).keeper.cabin c
seats-kept k at [] t c rounds holds = record { sits = refl; there = λ slot is. is }
seats-kept k at (x ∷ xs) t c rounds holds =
    let m : Minute = x.minute in
    let present : Present = present_at k.cabin m.minute in
    let u : KeepingState = told_after present m.minute at x.round t in
    let end : Cards = (told_by k at xs u).keeper.cabin.cards in
    let cabin1 : Cabin = cabin_by x.round.driver present.driver at.second t.keeper.cabin in
    let later = rounds-on k at xs u rounds.1 in
    let first = first-on k at m x.round false t rounds.0 in
    let second = second-on k at m x.round false t rounds.0 in
    seat-then t.keeper.cabin u.keeper.cabin (told_by k at xs u).keeper.cabin c
    (seat-then t.keeper.cabin cabin1 u.keeper.cabin c
    (one-seat x.round.driver present.driver at.second t.keeper.cabin c (λ fell here.
    not-gone (session_of end c) (holds (fell-asked x.round.driver t.keeper.cabin.cards present.driver c (kept_in (minute_of m k) Driver) (inr rounds.0.driver) fell here))
    (gone u.keeper.cabin.cards end c later (gone cabin1.cards u.keeper.cabin.cards c second (fell-gone x.round.driver present.driver c at.second t.keeper.cabin fell here)))))
    (one-seat x.round.codriver present.codriver at.second cabin1 c (λ fell here.
    not-gone (session_of end c) (holds (had t.keeper.cabin.cards cabin1.cards c first (fell-asked x.round.codriver cabin1.cards present.codriver c (kept_in (minute_of m k) CoDriver) (second-is k at m x.round false t rounds.0) fell here)))
    (gone u.keeper.cabin.cards end c later (fell-gone x.round.codriver present.codriver c at.second cabin1 fell here)))))
    (seats-kept k at xs u c rounds.1 (λ some. holds (had t.keeper.cabin.cards u.keeper.cabin.cards c (round-on k at m x.round false t rounds.0) some)))

pub reach-seats : (decided : List Minute) (at : Moment) (t u : KeepingState) (reach : Reach) → IsReach decided at false t u reach → (c : Card) → (is_some (session_of t.keeper.cabin.cards c) ≡ true → is_some (session_of u.keeper.cabin.cards c) ≡ true) → KeepsSeat t.keeper.cabin u.keeper.cabin c
reach-seats decided at t u (Short xs m round) is c holds = absurd is
reach-seats decided at t u (Whole xs) is c holds =
    subst (λ (x : KeepingState). KeepsSeat t.keeper.cabin x.keeper.cabin c) (sym is.2)
    (seats-kept t.keeper at xs t c is.1 (subst (λ (x : KeepingState). is_some (session_of t.keeper.cabin.cards c) ≡ true → is_some (session_of x.keeper.cabin.cards c) ≡ true) is.2 holds))

-- ---- its count

floor-by : (n m o b d : ℕ) → RoseBy n o b → RoseBy m b d → o < last_count → o ≤ d
floor-by n m o b d (inl x) (inl y) low = omega (arith, x, y)
floor-by n m o b d (inr x) (inl y) low = omega (arith, x, y, low)
floor-by n m o b d (inl x) (inr y) low = omega (arith, y, low)
floor-by n m o b d (inr x) (inr y) low = omega (arith, y, low)

-- A COUNT has not fallen below that of the begin, where that was below its last value
pub floor-in : (o : Origin) (done : List TraceSecond) (s : TraceSecond) (at : Phase) (waits : List Visit) (speed : Option ℕ) (rest : List Minute) (v : Values) (d : Devices) (w : RecordInSecond o done s at waits speed rest v d) → (c : Card) → o.breakdowns (device_of c) < last_count → o.breakdowns (device_of c) ≤ breakdowns_of d (device_of c)
floor-in o done s at waits speed rest v d w c low =
    floor-by (length (filter (same_card c) (cards_torn (went w.b.run.log done).told))) (times_of c (course_at v.log (went w.b.run.log done).before s at).torn) (o.breakdowns (device_of c)) (w.b.broken (device_of c)) (breakdowns_of d (device_of c))
    (w.began.caused.caused.torn_cards c) (w.moment.torn_cards c) low

-- nor does it fall in calls that keep minutes
pub stood-kept : (o : Origin) (failed : Bool) (cards after : Cards) (d e : Devices) → DevicesGoOn failed cards after d e → ((c : Card) → o.breakdowns (device_of c) < last_count → o.breakdowns (device_of c) ≤ breakdowns_of d (device_of c)) → StoodBefore o d e
stood-kept o failed cards after d e devices floor = stood-grown o d e floor grows
  where
    grows : (c : Card) → breakdowns_of d (device_of c) ≤ breakdowns_of e (device_of c)
    grows A = devices.card_a.more
    grows B = devices.card_b.more

-- nor in any calls behind which the devices are later
pub stood-later : (o : Origin) (done : List TraceSecond) (s : TraceSecond) (at : Phase) (waits : List Visit) (speed : Option ℕ) (rest : List Minute) (v : Values) (d : Devices) → RecordInSecond o done s at waits speed rest v d → (e : Devices) → AreLater d e → StoodBefore o d e
stood-later o done s at waits speed rest v d w e later = stood-grown o d e (floor-in o done s at waits speed rest v d w) grows
  where
    grows : (c : Card) → breakdowns_of d (device_of c) ≤ breakdowns_of e (device_of c)
    grows A = later.card_a.breakdowns
    grows B = later.card_b.breakdowns

-- ---- its session

still-has : (q r : Option Accepted) (x y : State) (o : ℕ) → CardGoesOn q r x y → o < last_count → o ≤ x.breakdowns → y.breakdowns ≡ o → is_some q ≡ true → is_some r ≡ true
still-has q (Some b) x y o g low floor is some = refl
still-has None None x y o g low floor is some = some
still-has (Some a) None x y o g low floor is some = none-rises o x.breakdowns y.breakdowns low floor g.broken.breakdowns is

-- A CARD WHOSE STAYS ARE KNOWN HAS ITS SESSION STILL: where no call has failed, by what is told; of one card, since its
-- count stands.
pub session-stays : (whose : Whose) (o : Origin) (log : RunLog) (failed : Bool) (cards after : Cards) (d e : Devices) (c : Card) → DevicesGoOn failed cards after d e → (o.breakdowns (device_of c) < last_count → o.breakdowns (device_of c) ≤ breakdowns_of d (device_of c)) →
    (NothingFailed log → is_some (session_of cards c) ≡ true → is_some (session_of after c) ≡ true) → covers whose c ≡ true → AreKnown whose o log e → is_some (session_of cards c) ≡ true → is_some (session_of after c) ≡ true
session-stays Both o log failed cards after d e c devices floor none in_ known some = none known some
session-stays (Only A) o log failed cards after d e A devices floor none in_ known some = still-has cards.a.accepted after.a.accepted d.card_a e.card_a (o.breakdowns (device_of A)) devices.card_a known.low (floor known.low) known.stands some
session-stays (Only A) o log failed cards after d e B devices floor none in_ known some = absurd (let wrong : false ≡ true = in_ in cc)
session-stays (Only B) o log failed cards after d e A devices floor none in_ known some = absurd (let wrong : false ≡ true = in_ in cc)
session-stays (Only B) o log failed cards after d e B devices floor none in_ known some = still-has cards.b.accepted after.b.accepted d.card_b e.card_b (o.breakdowns (device_of B)) devices.card_b known.low (floor known.low) known.stands some
