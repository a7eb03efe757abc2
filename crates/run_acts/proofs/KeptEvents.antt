-- The faults of a keeping, and what has ended with a second, noted on the unit: what each image shows.
use Rattle.std.proofs.Common.{◌≡◌, ◌∙◌, ◌⊎◌, inl, inr, ⊎_elim, ℕ, Bool, true, false, Option, Some, None, List, [], ◌∷◌, ◌++◌, length, refl, sym, subst, arith}
use Rattle.trace_model.specs.declared.Card.{Card}
use Rattle.tach_media.specs.Medium.{State, IsCoherent}
use Rattle.unit_model.specs.Image.{IsUnit}
use Rattle.unit_notes.specs.event_model.declared.kinds.TheConstants.{CARD_FAULT}
use Rattle.unit_notes.specs.event_model.Events.{Event, Seen}
use Rattle.tacho_types.specs.declared.card_number.FullCardNumber.{FullCardNumber}
use Rattle.unit_notes.specs.declared.unit_event.UnitEvent.{UnitEvent}
use Rattle.unit_notes.specs.Entries.{fault_bytes}
use Rattle.unit_notes.specs.Noting.{IsEventNoted, IsNotingEvent}
use Rattle.run_minutes.specs.run_promise.Between.{devices}
use Rattle.run_crew.specs.declared.cabin.Cabin.{Cabin}
use Rattle.run_events.specs.Shown.{by_kind, none_sure, all_sure, ShowsEvents, AreNumbers}
use Rattle.run_events.proofs.Shows.{more-then, moment-first, moment-then, nothing-more, nothing-of}
use Rattle.run_events.specs.Seconds.{bares_by, overs_by}
use Rattle.run_events.proofs.Frames.{event-more, event-coming}
use Rattle.run_minutes.specs.run_promise.Origin.{Origin}
use Rattle.run_note_record.specs.Evented.{number_in}
use Rattle.run_events.specs.declared.watch.Ended.{Ended}
use Rattle.run_events.specs.Noting.{AreNoted, AreBeingNoted}
use Rattle.run_events.specs.Watched.{number_bytes}
use Rattle.run_events.specs.Turned.{AreEnded, AreLow}
use Rattle.run_events.proofs.Turned.{says-same, turn-shown, turn-coming}
use Rattle.run_crew.specs.card_slots.declared.seats.Present.{Present}
use Rattle.run_minutes.specs.declared.keeper.Keeper.{Keeper}
use Rattle.run_minutes.specs.declared.keeper.Moment.{Moment}
use Rattle.run_minutes.specs.Keeping.{Fate, Still, Has, Fell, cabin_by}
use Rattle.run_minutes.specs.Minutes.{Round, KeepingState, Done, Reach, Whole, Short, cabin_after, told_after, told_by, present_at}
use Rattle.run_minutes.specs.Faults.{faults_by, round_faults, last_faults, faults_of, faults_to, TellsFaults, TellsFirst, NotesFaults}
use Rattle.run_acts.specs.NotedEvents.{NoteTellsEvent, AreTold, NotesSo, NotesEvents}
use Rattle.run_acts.specs.KeptEvents.{AreFaults, AreNumbered}

-- ---- what a keeping notes are faults

both : (vs ws : List UnitEvent) → AreFaults vs → AreFaults ws → AreFaults (vs ++ ws)
both [] ws h k = k
both (v ∷ vs) ws h k = (h.0, both vs ws h.1 k)

fate-faults : (fate : Fate) (second : ℕ) (cabin : Cabin) → AreFaults (faults_by fate second cabin)
fate-faults Still second cabin = tt
fate-faults (Has accepted clock) second cabin = tt
fate-faults Fell second cabin = (refl, tt)

round-are : (p : Present) (at : Moment) (round : Round) (cabin : Cabin) → AreFaults (round_faults p at round cabin)
round-are p at round cabin =
    both (faults_by round.driver at.second (cabin_by round.driver p.driver at.second cabin)) (faults_by round.codriver at.second (cabin_after p at.second round cabin))
    (fate-faults round.driver at.second (cabin_by round.driver p.driver at.second cabin)) (fate-faults round.codriver at.second (cabin_after p at.second round cabin))

last-are : (p : Present) (at : Moment) (round : Option Round) (cabin : Cabin) → AreFaults (last_faults p at round cabin)
last-are p at None cabin = tt
last-are p at (Some round) cabin = round-are p at round cabin

done-are : (k : Keeper) (at : Moment) (xs : List Done) (t : KeepingState) → AreFaults (faults_of k at xs t)
done-are k at [] t = tt
done-are k at (x ∷ xs) t =
    let next : KeepingState = told_after (present_at k.cabin x.minute.minute) x.minute.minute at x.round t in
    both (round_faults (present_at k.cabin x.minute.minute) at x.round t.keeper.cabin) (faults_of k at xs next) (round-are (present_at k.cabin x.minute.minute) at x.round t.keeper.cabin) (done-are k at xs next)

pub faults-are : (k : Keeper) (at : Moment) (reach : Reach) (t : KeepingState) → AreFaults (faults_to k at reach t)
faults-are k at (Whole xs) t = done-are k at xs t
faults-are k at (Short xs m round) t =
    both (faults_of k at xs t) (last_faults (present_at k.cabin m.minute) at round (told_by k at xs t).keeper.cabin) (done-are k at xs t) (last-are (present_at k.cabin m.minute) at round (told_by k at xs t).keeper.cabin)

-- ---- each image is as long as a unit's

pub as-long : (U : State) → IsCoherent U → IsUnit U → (x : List ℕ) → U.may_leave x → length x ≡ 2485808
as-long U whole unit x at = let all = whole.left_sized x at in let size = unit.sized in let none_behind = unit.behind in omega (arith, all, size, none_behind)

-- ---- faults

module _ (number : Card → List ℕ) (long : AreNumbers number) where
  one-fault : (v : UnitEvent) (e : Event) → v.kind ≡ CARD_FAULT → NoteTellsEvent number e v → (y z : List ℕ) → length y ≡ 2485808 → IsEventNoted CARD_FAULT (fault_bytes v) y z → ShowsEvents number all_sure y (by_kind (e ∷ [])) z
  one-fault v e is told y z sized noted =
      event-more number long e told.there y z sized v told.other told.begin told.end told.is (subst (λ (k : ℕ). IsEventNoted k (fault_bytes v) y z) (sym is ∙ told.is.kind) noted)

  faults-shown : (vs : List UnitEvent) (es : List Event) (x c : List ℕ) → length x ≡ 2485808 → AreFaults vs → AreTold number vs es → TellsFaults vs x c → ShowsEvents number all_sure x (by_kind es) c
  faults-shown [] [] x c sized are told h = nothing-more number all_sure x c h.0
  faults-shown [] (e ∷ es) x c sized are told h = absurd told
  faults-shown (v ∷ vs) [] x c sized are told h = absurd told
  faults-shown (v ∷ vs) (e ∷ es) x c sized are told h =
      let y : List ℕ = h.0 in
      let z : List ℕ = h.1 in
      let y_long : length y ≡ 2485808 = h.2.1 ∙ sized in
      more-then number all_sure [] (e ∷ es) x y c (nothing-more number all_sure x y h.2.0)
      (more-then number all_sure (e ∷ []) es y z c (one-fault v e are.0 told.0 y z y_long h.3)
      (faults-shown vs es z c (h.3.outside.same_length ∙ y_long) are.1 told.1 h.4))

  -- the first of them, where the unit failed
  faults-coming : (vs : List UnitEvent) (es : List Event) (x c : List ℕ) → length x ≡ 2485808 → AreFaults vs → AreTold number vs es → TellsFirst vs x c → ShowsEvents number none_sure x (by_kind es) c
  faults-coming [] es x c sized are told h = nothing-of number (by_kind es) x c h.0
  faults-coming (v ∷ vs) [] x c sized are told h = absurd told
  faults-coming (v ∷ vs) (e ∷ es) x c sized are told (inl same) = nothing-of number (by_kind (e ∷ es)) x c same.0
  faults-coming (v ∷ vs) (e ∷ es) x c sized are told (inr (y, same, inl moment)) =
      moment-then number [] (e ∷ es) x y c (nothing-more number all_sure x y same.0)
      (moment-first number (e ∷ []) es y c
      (event-coming number long e told.0.there y c (same.1 ∙ sized) v told.0.other told.0.begin told.0.end told.0.is (subst (λ (k : ℕ). IsNotingEvent k (fault_bytes v) y c) (sym are.0 ∙ told.0.is.kind) moment)))
  faults-coming (v ∷ vs) (e ∷ es) x c sized are told (inr (y, same, inr (z, noted, rest))) =
      moment-then number [] (e ∷ es) x y c (nothing-more number all_sure x y same.0)
      (moment-then number (e ∷ []) es y z c (one-fault v e are.0 told.0 y z (same.1 ∙ sized) noted)
      (faults-coming vs es z c (noted.outside.same_length ∙ same.1 ∙ sized) are.1 told.1 rest))

pub faults-noted : (vs : List UnitEvent) (failed : Bool) (U V A B C D : State) → IsCoherent U → IsUnit U → AreFaults vs → NotesFaults failed vs U V → NotesEvents vs failed (devices U A B) (devices V C D)
faults-noted vs false U V A B C D whole unit are h o long es told = λ c at.
    let x = h c at in
    (x.0, x.1, faults-shown (number_in o) long vs es x.0 c (as-long U whole unit x.0 x.1) are told x.2)
faults-noted vs true U V A B C D whole unit are h o long es told = λ c at.
    let x = h c at in
    (x.0, x.1, faults-coming (number_in o) long vs es x.0 c (as-long U whole unit x.0 x.1) are told x.2)

-- ---- what has ended

-- functions that agree are one
fun-same : {X : Type 0} (f g : Card → X) → ((c : Card) → f c ≡ g c) → f ≡ g
fun-same f g h = λ i. λ c. h c i

module _ (o : Origin) (long : AreNumbers (number_in o)) (number : Card → FullCardNumber) (named : AreNumbered o number) (limit : ℕ) (span new : List Seen) (ended : Ended) (are : AreEnded number limit span new ended) (low : AreLow span)
    (lows : AreLow new) where
  abbrev es : List Event
  es = bares_by span new ++ overs_by limit span new

  same-numbers : number_in o ≡ number_bytes number
  same-numbers = fun-same (number_in o) (number_bytes number) named

  as-many : AreNumbers (number_bytes number)
  as-many = subst AreNumbers same-numbers long

  ended-shown : (x c : List ℕ) → length x ≡ 2485808 → AreNoted ended x c → ShowsEvents (number_in o) all_sure x (by_kind es) c
  ended-shown x c sized noted = subst (λ (f : Card → List ℕ). ShowsEvents f all_sure x (by_kind es) c) (sym same-numbers) (turn-shown number as-many limit span new ended are low lows x c sized noted)

  ended-coming : (x c : List ℕ) → length x ≡ 2485808 → AreBeingNoted ended x c → ShowsEvents (number_in o) none_sure x (by_kind es) c
  ended-coming x c sized moment = subst (λ (f : Card → List ℕ). ShowsEvents f none_sure x (by_kind es) c) (sym same-numbers) (turn-coming number as-many limit span new ended are low lows x c sized moment)

-- ---- the faults of a turn's keeping, and then what has ended

pub tells-long : (vs : List UnitEvent) (x c : List ℕ) → TellsFaults vs x c → length x ≡ 2485808 → length c ≡ 2485808
tells-long [] x c h sized = h.1 ∙ sized
tells-long (v ∷ vs) x c h sized = tells-long vs h.1 c h.4 (h.3.outside.same_length ∙ h.2.1 ∙ sized)

module _ (vs : List UnitEvent) (ended : Ended) (U V A B C D : State) (whole : IsCoherent U) (unit : IsUnit U) (are : AreFaults vs) (o : Origin) (long : AreNumbers (number_in o)) (faults : List Event) (told : AreTold (number_in o) vs faults)
    (number : Card → FullCardNumber) (named : AreNumbered o number) (limit : ℕ) (span new : List Seen) (ends : AreEnded number limit span new ended) (low : AreLow span) (lows : AreLow new) where
  abbrev brought : List Event
  brought = bares_by span new ++ overs_by limit span new

  pub turn-noted : ((c : List ℕ) → V.may_leave c → (x : List ℕ) × U.may_leave x × (y : List ℕ) × TellsFaults vs x y × AreNoted ended y c) → NotesSo false o (faults ++ brought) (devices U A B) (devices V C D)
  turn-noted noted = λ c at.
      let h = noted c at in
      let sized : length h.0 ≡ 2485808 = as-long U whole unit h.0 h.1 in (
        h.0,
        h.1,
        more-then (number_in o) all_sure faults brought h.0 h.2 c (faults-shown (number_in o) long vs faults h.0 h.2 sized are told h.3)
            (ended-shown o long number named limit span new ended ends low lows h.2 c (tells-long vs h.0 h.2 h.3 sized) h.4),
      )

  pub turn-cut : ((c : List ℕ) → V.may_leave c → (x : List ℕ) × U.may_leave x × (y : List ℕ) × TellsFaults vs x y × ((c ≡ y) ⊎ AreBeingNoted ended y c)) → NotesSo true o (faults ++ brought) (devices U A B) (devices V C D)
  turn-cut noted = λ c at.
      let h = noted c at in
      let sized : length h.0 ≡ 2485808 = as-long U whole unit h.0 h.1 in (
        h.0,
        h.1,
        moment-then (number_in o) faults brought h.0 h.2 c (faults-shown (number_in o) long vs faults h.0 h.2 sized are told h.3)
            (⊎_elim
            (λ same. nothing-of (number_in o) (by_kind brought) h.2 c (says-same h.2 c same))
            (λ moment. ended-coming o long number named limit span new ended ends low lows h.2 c (tells-long vs h.0 h.2 h.3 sized) moment)
            h.4),
      )
