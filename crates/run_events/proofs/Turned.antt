-- What a turn of seconds ends is what it brings, and what is noted of it is shown.
use Rattle.std.proofs.Common.{◌≡◌, inl, inr, ℕ, Bool, true, false, cond, Option, Some, None, List, [], ◌∷◌, ◌++◌, length, map, fold, Contains, refl, ap, sym, subst, ◌∙◌, arith}
use Rattle.std.specs.Prelude.{option_map, option_to_list}
use Rattle.std.specs.List.{AllByRecursion, filter_map, cons_option}
use Rattle.std.proofs.lemmas.List.{map-append}
use Rattle.std.proofs.lemmas.List.Elements.{filter_map-append}
use Rattle.trace_model.specs.declared.Card.{Card}
use Rattle.tacho_types.specs.declared.card_number.FullCardNumber.{FullCardNumber}
use Rattle.event_model.specs.declared.kinds.TheConstants.{DRIVING_WITHOUT_CARD, OVER_SPEEDING}
use Rattle.event_model.specs.declared.entries.Over.{Over}
use Rattle.event_model.specs.Runs.{run_with, last_run, runs_behind, ended_runs}
use Rattle.event_model.specs.Spans.{over_of}
use Rattle.event_model.proofs.RunLemmas.{ended_runs-append}
use Rattle.event_model.specs.Events.{Event, Seen, number_of, last_seen, is_bare, bare_event, speed_second, over_event, run_event}
use Rattle.unit_notes.specs.declared.unit_event.UnitEvent.{UnitEvent}
use Rattle.unit_notes.specs.Entries.{fault_bytes}
use Rattle.unit_model.specs.declared.layout.TheConstants.{FIRST_OVER, OVER_COUNT}
use Rattle.unit_model.specs.Image as image
use Rattle.note_model.specs.Tables.{table_in}
use Rattle.unit_notes.specs.Noting.{IsEventNoted, IsNotingEvent}
use Rattle.unit_events.specs.Shown.{all_kinds}
use Rattle.run_events.specs.Shown.{by_kind, none_sure, all_sure, ShowsEvents, AreNumbers, SaysNothing}
use Rattle.run_events.specs.Seconds.{bares_by, is_fast, overs_by}
use Rattle.run_events.proofs.Shows.{over-there, more-then, nothing-more, moment-first, moment-then}
use Rattle.run_events.proofs.Frames.{event-more, event-coming, over-more, over-coming}
use Rattle.run_crew.specs.declared.cards.Crew.{Crew}
use Rattle.run_events.specs.declared.watch.Ended.{Ended}
use Rattle.run_events.specs.declared.watch.Watch.{Watch}
use Rattle.run_events.specs.Watching.{BareWith, OverWith, CrewSecond, WatchesSpan, seconds_with, bares_with, overs_with, bare_ended, over_ended}
use Rattle.run_events.specs.Entries.{number_or_no_card, entry_of}
use Rattle.run_events.specs.Noting.{IsBareNoted, IsNotingBare, IsFastNoted, IsNotingFast, AreNoted, AreBeingNoted, IsFed}
use Rattle.run_events.specs.Watched.{watched, number_bytes, ArePairs, IsBareOf, IsFastOf}
use Rattle.run_events.specs.Turned.{AreEnded, IsLow, AreLow}
use Rattle.run_events.proofs.Pairs.{bares-are, fasts-are}

-- PAIRS of what comes behind
pairs-rest : {A B : Type 0} (R : A → B → Type 0) (a c : List A) (b d : List B) → ArePairs R a b → ArePairs R (a ++ c) (b ++ d) → ArePairs R c d
pairs-rest R [] c [] d first all = all
pairs-rest R [] c (y ∷ b) d first all = absurd first
pairs-rest R (x ∷ a) c [] d first all = absurd first
pairs-rest R (x ∷ a) c (y ∷ b) d first all = pairs-rest R a c b d first.1 all.1

module _ (number : Card → FullCardNumber) where
  bare-parts : (span new : List Seen) → filter_map bare_event (ended_runs is_bare (span ++ new)) ≡ filter_map bare_event (ended_runs is_bare span) ++ bares_by span new
  bare-parts span new = ap (filter_map bare_event) (ended_runs-append is_bare span new) ∙ filter_map-append bare_event (ended_runs is_bare span) (runs_behind is_bare (last_run is_bare span) new)

  over-parts : (limit : ℕ) (span new : List Seen) → filter_map over_event (ended_runs (is_fast limit) (span ++ new)) ≡ filter_map over_event (ended_runs (is_fast limit) span) ++ overs_by limit span new
  over-parts limit span new =
      ap (filter_map over_event) (ended_runs-append (is_fast limit) span new) ∙ filter_map-append over_event (ended_runs (is_fast limit) span) (runs_behind (is_fast limit) (last_run (is_fast limit) span) new)

  module _ (w v : Watch) (span new : List Seen) (first n speed : ℕ) (crew : Crew) (ended : Ended) (fed : IsFed w v first n speed crew ended) (stands : WatchesSpan w (map (watched number) span)) (are : map (watched number) new ≡ seconds_with first n speed crew) where
    together : map (watched number) (span ++ new) ≡ map (watched number) span ++ seconds_with first n speed crew
    together = map-append (watched number) span new ∙ ap (λ (l : List CrewSecond). map (watched number) span ++ l) are

    pub turn-ends : AreEnded number w.over.limit span new ended
    turn-ends = record {
      bares = pairs-rest (IsBareOf number) (filter_map bare_event (ended_runs is_bare span)) (bares_by span new) (bares_with (map (watched number) span)) (option_to_list (bare_ended ended)) (bares-are number span)
          (subst (λ (bs : List BareWith). ArePairs (IsBareOf number) (filter_map bare_event (ended_runs is_bare span) ++ bares_by span new) bs) (ap bares_with together ∙ fed.bares (map (watched number) span) stands)
          (subst (λ (es : List Event). ArePairs (IsBareOf number) es (bares_with (map (watched number) (span ++ new)))) (bare-parts span new) (bares-are number (span ++ new))));
      overs = pairs-rest (IsFastOf number) (filter_map over_event (ended_runs (is_fast w.over.limit) span)) (overs_by w.over.limit span new) (overs_with w.over.limit (map (watched number) span)) (option_to_list (over_ended ended))
          (fasts-are number w.over.limit span)
          (subst (λ (os : List OverWith). ArePairs (IsFastOf number) (filter_map over_event (ended_runs (is_fast w.over.limit) span) ++ overs_by w.over.limit span new) os)
          (ap (overs_with w.over.limit) together ∙ fed.overs (map (watched number) span) stands)
          (subst (λ (es : List Event). ArePairs (IsFastOf number) es (overs_with w.over.limit (map (watched number) (span ++ new)))) (over-parts w.over.limit span new) (fasts-are number w.over.limit (span ++ new))));
    }

    pub turn-stands : WatchesSpan v (map (watched number) (span ++ new))
    turn-stands = subst (WatchesSpan v) (sym together) (fed.stands (map (watched number) span) stands)

-- EVENTS OF LOW SECONDS
record IsLowEvent (e : Event) : Type 0 where
  begin : IsLow e.begin
  end : IsLow e.end

abbrev AreLowEvents : List Event → Type 0
AreLowEvents es = AllByRecursion IsLowEvent es

low-push : (xs : List Seen) (x : Seen) → AreLow xs → IsLow (number_of x) → AreLow (xs ++ x ∷ [])
low-push [] x all is = (is, tt)
low-push (y ∷ xs) x all is = (all.0, low-push xs x all.1 is)

low-with : (passes : Seen → Bool) (run : List Seen) (x : Seen) → AreLow run → IsLow (number_of x) → AreLow (run_with passes run x)
low-with passes run x all is = by (passes x)
  where
    by : (b : Bool) → AreLow (cond b (run ++ x ∷ []) [])
    by true = low-push run x all is
    by false = tt

low-run : (passes : Seen → Bool) (run xs : List Seen) → AreLow run → AreLow xs → AreLow (fold (run_with passes) run xs)
low-run passes run [] all are = all
low-run passes run (x ∷ xs) all are = low-run passes (run_with passes run x) xs (low-with passes run x all are.0) are.1

low-last : (x : Seen) (run : List Seen) → IsLow (number_of x) → AreLow run → IsLow (number_of (last_seen x run))
low-last x [] is all = is
low-last x (y ∷ run) is all = low-last y run all.0 all.1

abbrev MadeLow : Option Event → Type 0
MadeLow None = Unit {0}
MadeLow (Some e) = IsLowEvent e

low-cons : (o : Option Event) (es : List Event) → MadeLow o → AreLowEvents es → AreLowEvents (cons_option o es)
low-cons None es is all = all
low-cons (Some e) es is all = (is, all)

module _ (passes : Seen → Bool) (made : List Seen → Option Event) (each : (run : List Seen) → AreLow run → MadeLow (made run)) where
  low-runs : (run xs : List Seen) → AreLow run → AreLow xs → AreLowEvents (filter_map made (runs_behind passes run xs))
  low-runs run [] all are = tt
  low-runs run (x ∷ xs) all are = by (passes x) (low-runs (run_with passes run x) xs (low-with passes run x all are.0) are.1)
    where
      by : (b : Bool) → AreLowEvents (filter_map made (runs_behind passes (run_with passes run x) xs)) → AreLowEvents (filter_map made (cond b [] (run ∷ []) ++ runs_behind passes (run_with passes run x) xs))
      by true rest = rest
      by false rest = low-cons (made run) (filter_map made (runs_behind passes (run_with passes run x) xs)) (each run all) rest

low-bare : (run : List Seen) → AreLow run → MadeLow (bare_event run)
low-bare [] all = tt
low-bare (x ∷ run) all = record { begin = all.0; end = low-last x run all.0 all.1 }

low-over : (run : List Seen) → AreLow run → MadeLow (over_event run)
low-over [] all = tt
low-over (x ∷ run) all = by (over_of (map speed_second (x ∷ run)))
  where
    by : (o : Option Over) → MadeLow (option_map {T = Over} {U = Event} (λ over. run_event OVER_SPEEDING over.most over.average x run) o)
    by None = tt
    by (Some over) = record { begin = all.0; end = low-last x run all.0 all.1 }

low-bares : (span new : List Seen) → AreLow span → AreLow new → AreLowEvents (bares_by span new)
low-bares span new all are = low-runs is_bare bare_event low-bare (last_run is_bare span) new (low-run is_bare [] span tt all) are

low-overs : (limit : ℕ) (span new : List Seen) → AreLow span → AreLow new → AreLowEvents (overs_by limit span new)
low-overs limit span new all are = low-runs (is_fast limit) over_event low-over (last_run (is_fast limit) span) new (low-run (is_fast limit) [] span tt all) are

-- WHAT IS NOTED is shown
bare-there : Contains all_kinds DRIVING_WITHOUT_CARD
bare-there = (2, omega arith, refl)

four-not-seven : (k : ℕ) → DRIVING_WITHOUT_CARD ≡ k → k ≡ OVER_SPEEDING → ⊥
four-not-seven k is other = let wrong : 4 ≡ 7 = is ∙ other in omega (arith, wrong)

-- the same image
pub says-same : (x y : List ℕ) → y ≡ x → SaysNothing x y
says-same x y is = record {
  tables = λ kind there. ap (table_in kind) is;
  first_over = ap (λ (l : List ℕ). image.number_of l FIRST_OVER) is;
  over_count = ap (λ (l : List ℕ). image.number_of l OVER_COUNT) is;
}

module _ (number : Card → FullCardNumber) (long : AreNumbers (number_bytes number)) where
  bare-shown : (bares : List Event) (o : Option BareWith) (x y : List ℕ) → length x ≡ 2485808 → AreLowEvents bares → ArePairs (IsBareOf number) bares (option_to_list o) → IsBareNoted o x y → ShowsEvents (number_bytes number) all_sure x (by_kind bares) y
  bare-shown [] None x y sized low pairs noted = nothing-more (number_bytes number) all_sure x y (says-same x y noted)
  bare-shown (e ∷ bares) None x y sized low pairs noted = absurd pairs
  bare-shown [] (Some b) x y sized low pairs noted = absurd pairs
  bare-shown (e ∷ f ∷ bares) (Some b) x y sized low pairs noted = absurd pairs.1
  bare-shown (e ∷ []) (Some b) x y sized low pairs noted =
      let is = pairs.0 in
      let v : UnitEvent = entry_of DRIVING_WITHOUT_CARD b.span.begin b.span.end b.begin b.end in
      event-more (number_bytes number) long e (subst (Contains all_kinds) is.kind bare-there) x y sized v (four-not-seven e.kind is.kind) low.0.begin.1 low.0.end.1 is
      (subst (λ (k : ℕ). IsEventNoted k (fault_bytes v) x y) is.kind noted)

  fast-shown : (overs : List Event) (o : Option OverWith) (x y : List ℕ) → length x ≡ 2485808 → AreLowEvents overs → ArePairs (IsFastOf number) overs (option_to_list o) → IsFastNoted o x y → ShowsEvents (number_bytes number) all_sure x (by_kind overs) y
  fast-shown [] None x y sized low pairs noted = nothing-more (number_bytes number) all_sure x y (says-same x y noted)
  fast-shown (e ∷ overs) None x y sized low pairs noted = absurd pairs
  fast-shown [] (Some b) x y sized low pairs noted = absurd pairs
  fast-shown (e ∷ f ∷ overs) (Some o) x y sized low pairs noted = absurd pairs.1
  fast-shown (e ∷ []) (Some o) x y sized low pairs noted =
      let is = pairs.0 in
      over-more (number_bytes number) long e (subst (Contains all_kinds) (sym is.kind) over-there) x y sized o.over (number_or_no_card o.begin.driver) low.0.begin.1 low.0.end.1 is noted

  -- at a moment of it
  bare-coming : (bares : List Event) (o : Option BareWith) (x y : List ℕ) → length x ≡ 2485808 → AreLowEvents bares → ArePairs (IsBareOf number) bares (option_to_list o) → IsNotingBare o x y → ShowsEvents (number_bytes number) none_sure x (by_kind bares) y
  bare-coming [] None x y sized low pairs moment = nothing-more (number_bytes number) none_sure x y (says-same x y moment)
  bare-coming (e ∷ bares) None x y sized low pairs moment = absurd pairs
  bare-coming [] (Some b) x y sized low pairs moment = absurd pairs
  bare-coming (e ∷ f ∷ bares) (Some b) x y sized low pairs moment = absurd pairs.1
  bare-coming (e ∷ []) (Some b) x y sized low pairs moment =
      let is = pairs.0 in
      let v : UnitEvent = entry_of DRIVING_WITHOUT_CARD b.span.begin b.span.end b.begin b.end in
      event-coming (number_bytes number) long e (subst (Contains all_kinds) is.kind bare-there) x y sized v (four-not-seven e.kind is.kind) low.0.begin.1 low.0.end.1 is
      (subst (λ (k : ℕ). IsNotingEvent k (fault_bytes v) x y) is.kind moment)

  fast-coming : (overs : List Event) (o : Option OverWith) (x y : List ℕ) → length x ≡ 2485808 → AreLowEvents overs → ArePairs (IsFastOf number) overs (option_to_list o) → IsNotingFast o x y → ShowsEvents (number_bytes number) none_sure x (by_kind overs) y
  fast-coming [] None x y sized low pairs moment = nothing-more (number_bytes number) none_sure x y (says-same x y moment)
  fast-coming (e ∷ overs) None x y sized low pairs moment = absurd pairs
  fast-coming [] (Some o) x y sized low pairs moment = absurd pairs
  fast-coming (e ∷ f ∷ overs) (Some o) x y sized low pairs moment = absurd pairs.1
  fast-coming (e ∷ []) (Some o) x y sized low pairs moment =
      let is = pairs.0 in
      over-coming (number_bytes number) long e (subst (Contains all_kinds) (sym is.kind) over-there) x y sized o.over (number_or_no_card o.begin.driver) low.0.begin.1 low.0.end.1 is moment

  between-sized : (o : Option BareWith) (x y : List ℕ) → length x ≡ 2485808 → IsBareNoted o x y → length y ≡ 2485808
  between-sized None x y sized noted = ap (λ (l : List ℕ). length l) noted ∙ sized
  between-sized (Some b) x y sized noted = noted.outside.same_length ∙ sized

  module _ (limit : ℕ) (span new : List Seen) (ended : Ended) (are : AreEnded number limit span new ended) (low : AreLow span) (lows : AreLow new) (x c : List ℕ) (sized : length x ≡ 2485808) where
    -- both were noted
    pub turn-shown : AreNoted ended x c → ShowsEvents (number_bytes number) all_sure x (by_kind (bares_by span new ++ overs_by limit span new)) c
    turn-shown noted =
        more-then (number_bytes number) all_sure (bares_by span new) (overs_by limit span new) x noted.between c
        (bare-shown (bares_by span new) (bare_ended ended) x noted.between sized (low-bares span new low lows) are.bares noted.bare)
        (fast-shown (overs_by limit span new) (over_ended ended) noted.between c (between-sized (bare_ended ended) x noted.between sized noted.bare) (low-overs limit span new low lows) are.overs noted.over)

    -- OR A STOP CAME at a moment of that
    pub turn-coming : AreBeingNoted ended x c → ShowsEvents (number_bytes number) none_sure x (by_kind (bares_by span new ++ overs_by limit span new)) c
    turn-coming (inl moment) =
        moment-first (number_bytes number) (bares_by span new) (overs_by limit span new) x c
        (bare-coming (bares_by span new) (bare_ended ended) x c sized (low-bares span new low lows) are.bares moment)
    turn-coming (inr after) =
        moment-then (number_bytes number) (bares_by span new) (overs_by limit span new) x after.between c
        (bare-shown (bares_by span new) (bare_ended ended) x after.between sized (low-bares span new low lows) are.bares after.bare)
        (fast-coming (overs_by limit span new) (over_ended ended) after.between c (between-sized (bare_ended ended) x after.between sized after.bare) (low-overs limit span new low lows) are.overs after.over)
