-- What the notes of a card that enters show of its events.
use Rattle.std.proofs.Common.{◌≡◌, ◌≢◌, inl, inr, ℕ, ◌^◌, ◌<◌, Bool, true, false, cond, not, nat_lt, nat_eq, Some, List, [], ◌∷◌, ◌++◌, length, Contains, refl, ap, sym, subst, ◌∙◌, arith}
use Rattle.std.proofs.lemmas.Bool.{eq-eqb}
use Rattle.std.proofs.lemmas.Bool.Decides.{nat_tests}
use Rattle.tach_media.specs.card_layout.Images.{SameOutside}
use Rattle.trace_model.specs.declared.Card.{Card}
use Rattle.log_model.specs.declared.lines.Verdict.TheVariants.{Accepted}
use Rattle.log_model.specs.Course.{Visit}
use Rattle.device_calls.specs.event_model.declared.kinds.TheConstants.{CARD_NOT_VALID, TIME_OVERLAP, INSERTION_WHILE_DRIVING, SESSION_NOT_CLOSED, CARD_FAULT, OVER_SPEEDING}
use Rattle.device_calls.specs.event_model.Events.{Event, Crew, Seen, Tearing, number_of, noted_with, crew_judged}
use Rattle.run_acts.specs.unit_notes.declared.unit_event.UnitEvent.{UnitEvent}
use Rattle.run_acts.specs.unit_notes.Entries.{fault_bytes}
use Rattle.run_acts.specs.unit_notes.Noting.{IsEventNoted, IsNotingEvent}
use Rattle.run_acts.specs.unit_events.Shown.{all_kinds}
use Rattle.run_acts.specs.run_events.Shown.{by_kind, none_sure, all_sure, ShowsEvents, AreNumbers, SaysNothing}
use Rattle.run_acts.specs.run_events.Running.{judged_notes}
use Rattle.run_acts.proofs.run_events.Shows.{more-then, moment-first, moment-then, nothing-more, nothing-of}
use Rattle.run_acts.proofs.run_events.Frames.{event-more, event-coming, between-nothing}
use Rattle.run_acts.proofs.run_events.Turned.{says-same}
use Rattle.run_acts.specs.run_crew.declared.cabin.Cabin.{Cabin}
use Rattle.run_acts.specs.run_crew.declared.cards.Crew.{Crew as Numbers}
use Rattle.run_acts.specs.run_crew.Cabin.{torn_out, crew_of}
use Rattle.run_acts.specs.run_events.Entries.{IsCrewOf, entry_of}
use Rattle.run_insertion.specs.declared.lines.Entering.{Entering}
use Rattle.run_insertion.specs.Entering.{Ending, Unfit, Ahead, Fell, Unasked, Unnoted, Seated, Lost, seated}
use Rattle.run_insertion.specs.Noted.{AreDone, AreBeingDone, UnitNote, Inserts, BeginsRow, Tells, IsOnUnit, IsComing, event_of, fault_of, moving_notes, unclosed_notes, notes_by}
use Rattle.recorder_with_cards.specs.EnteredTold.{NoteTellsEvent, TellEvents, moving_events, unclosed_events, events_by, IsLow, AreNamed}

-- rings and rows tell of none
ring-says : (x y : List ℕ) → SameOutside 2115044 264196 x y → SaysNothing x y
ring-says x y same = between-nothing 2115044 264196 x y same (omega arith) (omega arith)

rows-says : (x y : List ℕ) → SameOutside 624 384 x y → SaysNothing x y
rows-says x y same = between-nothing 624 384 x y same (omega arith) (omega arith)

module _ (number : Card → List ℕ) (long : AreNumbers number) where
  one-told : (v : UnitEvent) (e : Event) → NoteTellsEvent number e v → (x z : List ℕ) → length x ≡ 2485808 → IsEventNoted v.kind (fault_bytes v) x z → ShowsEvents number all_sure x (by_kind (e ∷ [])) z
  one-told v e told x z sized one =
      event-more number long e told.there x z sized v told.other told.begin told.end told.is (subst (λ (k : ℕ). IsEventNoted k (fault_bytes v) x z) told.is.kind one)

  -- ALL WERE NOTED
  pub told-shown : (notes : List UnitNote) (events : List Event) (x y : List ℕ) → length x ≡ 2485808 → TellEvents number notes events → AreDone IsOnUnit notes x y → ShowsEvents number all_sure x (by_kind events) y
  told-shown [] [] x y sized told done = nothing-more number all_sure x y (says-same x y done)
  told-shown [] (e ∷ events) x y sized told done = absurd told
  told-shown (Inserts insertion ∷ notes) events x y sized told (z, one, rest) =
      more-then number all_sure [] events x z y (nothing-more number all_sure x z (ring-says x z one.outside)) (told-shown notes events z y (one.outside.same_length ∙ sized) told rest)
  told-shown (BeginsRow card session spared ∷ notes) events x y sized told (z, one, rest) =
      more-then number all_sure [] events x z y (nothing-more number all_sure x z (rows-says x z one.beginning.outside)) (told-shown notes events z y (one.beginning.outside.same_length ∙ sized) told rest)
  told-shown (Tells v ∷ notes) [] x y sized told done = absurd told
  told-shown (Tells v ∷ notes) (e ∷ events) x y sized told (z, one, rest) =
      more-then number all_sure (e ∷ []) events x z y (one-told v e told.0 x z sized one) (told-shown notes events z y (one.outside.same_length ∙ sized) told.1 rest)

  -- OR THAT WAS CUT SHORT: the first were noted, and the next one was, or nothing has come of it, or its place is empty
  pub told-coming : (notes : List UnitNote) (events : List Event) (x c : List ℕ) → length x ≡ 2485808 → TellEvents number notes events → AreBeingDone IsOnUnit IsComing notes x c → ShowsEvents number none_sure x (by_kind events) c
  told-coming [] events x c sized told moment = absurd moment
  told-coming (Inserts insertion ∷ notes) events x c sized told (inl moment) = nothing-of number (by_kind events) x c (ring-says x c moment.outside)
  told-coming (Inserts insertion ∷ notes) events x c sized told (inr (z, one, rest)) =
      moment-then number [] events x z c (nothing-more number all_sure x z (ring-says x z one.outside)) (told-coming notes events z c (one.outside.same_length ∙ sized) told rest)
  told-coming (BeginsRow card session spared ∷ notes) events x c sized told (inl moment) = nothing-of number (by_kind events) x c (rows-says x c moment.outside)
  told-coming (BeginsRow card session spared ∷ notes) events x c sized told (inr (z, one, rest)) =
      moment-then number [] events x z c (nothing-more number all_sure x z (rows-says x z one.beginning.outside)) (told-coming notes events z c (one.beginning.outside.same_length ∙ sized) told rest)
  told-coming (Tells v ∷ notes) [] x c sized told moment = absurd told
  told-coming (Tells v ∷ notes) (e ∷ events) x c sized told (inl moment) =
      let first = told.0 in
      moment-first number (e ∷ []) events x c
      (event-coming number long e first.there x c sized v first.other first.begin first.end first.is (subst (λ (k : ℕ). IsNotingEvent k (fault_bytes v) x c) first.is.kind moment))
  told-coming (Tells v ∷ notes) (e ∷ events) x c sized told (inr (z, one, rest)) =
      moment-then number (e ∷ []) events x z c (one-told v e told.0 x z sized one) (told-coming notes events z c (one.outside.same_length ∙ sized) told.1 rest)

-- WHICH EVENTS ARE TOLD

module _ (number : Card → List ℕ) (second : ℕ) (low : second < 2 ^ 32) where
  entry-told : (kind begin end : ℕ) (crew : Crew) (numbers : Numbers) → Contains all_kinds kind → kind ≢ OVER_SPEEDING → begin < 2 ^ 32 → end < 2 ^ 32 → IsCrewOf number crew numbers →
      NoteTellsEvent number (noted_with kind begin end crew) (entry_of kind begin end numbers numbers)
  entry-told kind begin end crew numbers there other small large named = record {
    is = record {
      kind = refl;
      purpose = refl;
      begin = refl;
      end = refl;
      driver_begin = named.driver;
      codriver_begin = named.codriver;
      driver_end = named.driver;
      codriver_end = named.codriver;
      average = refl;
    };
    there = there;
    other = other;
    begin = small;
    end = large;
  }

  invalid-there : Contains all_kinds CARD_NOT_VALID
  invalid-there = (0, omega arith, refl)

  overlap-there : Contains all_kinds TIME_OVERLAP
  overlap-there = (1, omega arith, refl)

  moving-there : Contains all_kinds INSERTION_WHILE_DRIVING
  moving-there = (3, omega arith, refl)

  unclosed-there : Contains all_kinds SESSION_NOT_CLOSED
  unclosed-there = (4, omega arith, refl)

  fault-there : Contains all_kinds CARD_FAULT
  fault-there = (7, omega arith, refl)

  differs : (a : ℕ) → nat_eq a OVER_SPEEDING ≡ false → a ≢ OVER_SPEEDING
  differs a is e = absurd (let same : nat_eq a OVER_SPEEDING ≡ true = eq-eqb a OVER_SPEEDING e in let wrong : true ≡ false = sym same ∙ is in cc)

  tell-append : (notes others : List UnitNote) (events more : List Event) → TellEvents number notes events → TellEvents number others more → TellEvents number (notes ++ others) (events ++ more)
  tell-append [] others [] more h k = k
  tell-append [] others (e ∷ events) more h k = absurd h
  tell-append (Inserts insertion ∷ notes) others events more h k = tell-append notes others events more h k
  tell-append (BeginsRow card session spared ∷ notes) others events more h k = tell-append notes others events more h k
  tell-append (Tells v ∷ notes) others [] more h k = absurd h
  tell-append (Tells v ∷ notes) others (e ∷ events) more h k = (h.0, tell-append notes others events more h.1 k)

  module _ (e : Entering) (at : e.at.second ≡ second) where
    now-low : e.at.second < 2 ^ 32
    now-low = subst (λ (n : ℕ). n < 2 ^ 32) (sym at) low

    moving-told : (cabin : Cabin) (crew : Crew) → IsCrewOf number crew (crew_of cabin) → TellEvents number (moving_notes e cabin) (moving_events e.speed e.at.second crew)
    moving-told cabin crew named = by (nat_lt 0 e.speed)
      where
        by : (b : Bool) → TellEvents number (cond b (event_of INSERTION_WHILE_DRIVING e.at.second e.at.second cabin ∷ []) []) (cond b (noted_with INSERTION_WHILE_DRIVING e.at.second e.at.second crew ∷ []) [])
        by true = (entry-told INSERTION_WHILE_DRIVING e.at.second e.at.second crew (crew_of cabin) moving-there (differs INSERTION_WHILE_DRIVING refl) now-low now-low named, tt)
        by false = tt

    unclosed-told : (session : ℕ) (cabin : Cabin) (crew : Crew) → session < 2 ^ 32 → IsCrewOf number crew (crew_of cabin) → TellEvents number (unclosed_notes session e cabin) (unclosed_events session e.at.second crew)
    unclosed-told session cabin crew small named = by (nat_eq session 0)
      where
        by : (b : Bool) → TellEvents number (cond b [] (event_of SESSION_NOT_CLOSED session e.at.second cabin ∷ [])) (cond b [] (noted_with SESSION_NOT_CLOSED session e.at.second crew ∷ []))
        by true = tt
        by false = (entry-told SESSION_NOT_CLOSED session e.at.second crew (crew_of cabin) unclosed-there (differs SESSION_NOT_CLOSED refl) small now-low named, tt)

    fault-told : (cabin : Cabin) (crew : Crew) → IsCrewOf number crew (crew_of (torn_out e.which e.at.second cabin)) → NoteTellsEvent number (noted_with CARD_FAULT e.at.second e.at.second crew)
        (entry_of CARD_FAULT e.at.second e.at.second (crew_of (torn_out e.which e.at.second cabin)) (crew_of (torn_out e.which e.at.second cabin)))
    fault-told cabin crew named = entry-told CARD_FAULT e.at.second e.at.second crew (crew_of (torn_out e.which e.at.second cabin)) fault-there (differs CARD_FAULT refl) now-low now-low named

    pub events-told : (ending : Ending) (noted : ℕ) (cabin : Cabin) (before accepted left : Crew) → IsLow ending → AreNamed number ending e noted cabin before accepted left →
        TellEvents number (notes_by ending e noted cabin) (events_by ending e.speed e.at.second before accepted left)
    events-told (Unfit fid place) noted cabin before accepted left small named =
        (entry-told CARD_NOT_VALID e.at.second e.at.second before (crew_of cabin) invalid-there (differs CARD_NOT_VALID refl) now-low now-low named.at_first, tt)
    events-told (Ahead stored) noted cabin before accepted left small named =
        (entry-told TIME_OVERLAP e.at.second stored before (crew_of cabin) overlap-there (differs TIME_OVERLAP refl) now-low small named.at_first, tt)
    events-told Fell noted cabin before accepted left small named = (fault-told cabin left named.without_it, tt)
    events-told Unasked noted cabin before accepted left small named = tt
    events-told (Unnoted entered clock) noted cabin before accepted left small named = tt
    events-told (Seated entered clock entry) noted cabin before accepted left small named =
        let now : Cabin = seated entered.look entered.session entered.row entry noted e cabin in
        tell-append (moving_notes e now) (unclosed_notes entered.look.session e now) (moving_events e.speed e.at.second accepted) (unclosed_events entered.look.session e.at.second accepted)
        (moving-told now accepted named.with_it) (unclosed-told entered.look.session now accepted small named.with_it)
    events-told (Lost entered clock entry) noted cabin before accepted left small named =
        let now : Cabin = seated entered.look entered.session entered.row entry noted e cabin in
        tell-append (moving_notes e now) (fault_of e now ∷ unclosed_notes entered.look.session e now) (moving_events e.speed e.at.second accepted)
        (noted_with CARD_FAULT e.at.second e.at.second left ∷ unclosed_events entered.look.session e.at.second accepted)
        (moving-told now accepted named.with_it) (fault-told now left named.without_it, unclosed-told entered.look.session now accepted small named.with_it)

-- THEY ARE THOSE OF THE RUN
lt-eq : (n : ℕ) → nat_lt 0 n ≡ not (nat_eq n 0)
lt-eq n = grind (arith, nat_tests)

turned : (b : Bool) (es : List Event) → cond (not b) es [] ≡ cond b [] es
turned true es = refl
turned false es = refl

pub accepted-are : (session : ℕ) (t : Tearing) (x : Seen) (v : Visit) (replayed : ℕ) → moving_events x.told.second.speed (number_of x) (crew_judged t x v (Some v.card)) ++ unclosed_events session (number_of x) (crew_judged t x v (Some v.card)) ≡ judged_notes session t x v (Accepted replayed)
accepted-are session t x v replayed =
    let six : Event = noted_with SESSION_NOT_CLOSED session (number_of x) (crew_judged t x v (Some v.card)) in
    ap (λ (es : List Event). moving_events x.told.second.speed (number_of x) (crew_judged t x v (Some v.card)) ++ es)
    (sym (ap (λ (b : Bool). cond b (six ∷ []) []) (lt-eq session) ∙ turned (nat_eq session 0) (six ∷ [])))
