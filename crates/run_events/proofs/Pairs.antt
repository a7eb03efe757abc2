-- What has ended of a span's seconds, and of these as they are watched, one for one.
use Rattle.std.proofs.Common.{◌≡◌, ◌∙◌, ℕ, Bool, true, false, cond, Option, Some, None, List, [], ◌∷◌, ◌++◌, length, map, fold, max, sum, ◌/◌, refl, ap, sym, subst, nat_lt}
use Rattle.std.specs.Prelude.{option_map, not, ◌&&◌, is_some, flat_map}
use Rattle.std.specs.List.{filter_map, cons_option}
use Rattle.trace_model.specs.declared.Card.{Card}
use Rattle.tacho_types.specs.CardNumber.{card_number_bytes}
use Rattle.tacho_types.specs.declared.card_number.FullCardNumber.{FullCardNumber}
use Rattle.log_model.specs.Slots.{Sitting, is_accepted}
use Rattle.event_model.specs.declared.entries.Over.{Over}
use Rattle.event_model.specs.declared.kinds.TheConstants.{OVER_SPEEDING}
use Rattle.event_model.specs.Runs.{runs_behind, ended_runs}
use Rattle.event_model.specs.Spans.{SpeedSecond, first_of, last_of, over_of, numbers, speeds, is_above}
use Rattle.trace_model.specs.Trace.{TraceSecond}
use Rattle.log_model.specs.Log.{RunLog}
use Rattle.event_model.specs.Events.{Event, Seen, seen_of, seen_spans, is_bare, bare_event, bare_events, over_event, over_events, speed_second, number_of, last_seen, run_event, crew_of, accepted_card}
use Rattle.note_model.specs.Tables.{number_or_none}
use Rattle.run_crew.specs.declared.cards.Crew.{Crew}
use Rattle.run_events.specs.Entries.{number_or_no_card}
use Rattle.run_events.specs.Watching.{CrewSecond, OverWith, bare_with, over_with, bares_with, overs_with, driver_second, is_fast, last_crew}
use Rattle.run_events.specs.Watching as watch
use Rattle.run_events.specs.Watched.{watched, named, number_bytes, ArePairs, IsBareOf, IsFastOf}

-- ---- runs of what is turned

module _ {S T : Type 0} (f : S → T) (p : T → Bool) (q : S → Bool) (same : (s : S) → q s ≡ p (f s)) where
  push : (run : List S) (x : S) → map f run ++ f x ∷ [] ≡ map f (run ++ x ∷ [])
  push [] x = refl
  push (y ∷ ys) x = ap (λ (l : List T). f y ∷ l) (push ys x)

  pub runs_turned : (run xs : List S) → runs_behind p (map f run) (map f xs) ≡ map (map f) (runs_behind q run xs)
  runs_turned run [] = refl
  runs_turned run (x ∷ xs) = by (λ r. runs_turned r xs) (q x) refl
    where
      by : ((r : List S) → runs_behind p (map f r) (map f xs) ≡ map (map f) (runs_behind q r xs)) → (b : Bool) → q x ≡ b
          → runs_behind p (map f run) (f x ∷ map f xs) ≡ map (map f) (runs_behind q run (x ∷ xs))
      by rest true is =
          ap (λ (b : Bool). cond b [] (map f run ∷ []) ++ runs_behind p (cond b (map f run ++ f x ∷ []) []) (map f xs)) (sym (same x) ∙ is)
          ∙ ap (λ (r : List T). runs_behind p r (map f xs)) (push run x)
          ∙ rest (run ++ x ∷ [])
          ∙ sym (ap (λ (b : Bool). map (map f) (cond b [] (run ∷ []) ++ runs_behind q (cond b (run ++ x ∷ []) []) xs)) is)
      by rest false is =
          ap (λ (b : Bool). cond b [] (map f run ∷ []) ++ runs_behind p (cond b (map f run ++ f x ∷ []) []) (map f xs)) (sym (same x) ∙ is)
          ∙ ap (λ (rs : List (List T)). map f run ∷ rs) (rest [])
          ∙ sym (ap (λ (b : Bool). map (map f) (cond b [] (run ∷ []) ++ runs_behind q (cond b (run ++ x ∷ []) []) xs)) is)

-- ---- pairs

abbrev MayPair : {A B : Type 0} → (A → B → Type 0) → Option A → Option B → Type 0
MayPair R None None = Unit {0}
MayPair R None (Some b) = ⊥
MayPair R (Some a) None = ⊥
MayPair R (Some a) (Some b) = R a b

pairs_with : {A B : Type 0} (R : A → B → Type 0) (a : Option A) (b : Option B) (rest : List A) (others : List B) → MayPair R a b → ArePairs R rest others → ArePairs R (cons_option a rest) (cons_option b others)
pairs_with R None None rest others may all = all
pairs_with R None (Some b) rest others may all = absurd may
pairs_with R (Some a) None rest others may all = absurd may
pairs_with R (Some a) (Some b) rest others may all = (may, all)

pairs_made : {S T A B : Type 0} (R : A → B → Type 0) (f : S → T) (h : List S → Option A) (k : List T → Option B) → ((run : List S) → MayPair R (h run) (k (map f run))) → (runs : List (List S))
    → ArePairs R (filter_map h runs) (filter_map k (map (map f) runs))
pairs_made R f h k each [] = tt
pairs_made R f h k each (run ∷ runs) = pairs_with R (h run) (k (map f run)) (filter_map h runs) (filter_map k (map (map f) runs)) (each run) (pairs_made R f h k each runs)

pairs_append : {A B : Type 0} (R : A → B → Type 0) (a c : List A) (b d : List B) → ArePairs R a b → ArePairs R c d → ArePairs R (a ++ c) (b ++ d)
pairs_append R [] c [] d first rest = rest
pairs_append R [] c (y ∷ b) d first rest = absurd first
pairs_append R (x ∷ a) c [] d first rest = absurd first
pairs_append R (x ∷ a) c (y ∷ b) d first rest = (first.0, pairs_append R a c b d first.1 rest)

pairs_mapped : {S A B : Type 0} (R : A → B → Type 0) (h : S → List A) (k : S → List B) → ((s : S) → ArePairs R (h s) (k s)) → (xs : List S) → ArePairs R (flat_map h xs) (flat_map k xs)
pairs_mapped R h k each [] = tt
pairs_mapped R h k each (x ∷ xs) = pairs_append R (h x) (flat_map h xs) (k x) (flat_map k xs) (each x) (pairs_mapped R h k each xs)

-- ---- one run

module _ (number : Card → FullCardNumber) where
  -- the number of a card, or zeros
  told_number : (o : Option Card) → card_number_bytes (number_or_no_card (option_map number o)) ≡ number_or_none (number_bytes number) o
  told_number None = refl
  told_number (Some c) = refl

  last_number : (x : Seen) (run : List Seen) → fold (λ (last k : ℕ). k) (number_of x) (map (λ s. s.number) (map driver_second (map (watched number) run))) ≡ number_of (last_seen x run)
  last_number x [] = refl
  last_number x (y ∷ run) = last_number y run

  last_fast : (x : Seen) (run : List Seen) → fold (λ (last k : ℕ). k) (number_of x) (numbers (map speed_second run)) ≡ number_of (last_seen x run)
  last_fast x [] = refl
  last_fast x (y ∷ run) = last_fast y run

  last_named : (x : Seen) (run : List Seen) → fold (λ (last : Crew) (s : CrewSecond). s.crew) (named number (crew_of x.itself)) (map (watched number) run) ≡ named number (crew_of (last_seen x run).itself)
  last_named x [] = refl
  last_named x (y ∷ run) = last_named y run

  speeds_turned : (run : List Seen) → map speed_second run ≡ map watch.speed_second (map (watched number) run)
  speeds_turned [] = refl
  speeds_turned (x ∷ run) = ap (λ (l : List SpeedSecond). speed_second x ∷ l) (speeds_turned run)

  bare_pair : (run : List Seen) → MayPair (IsBareOf number) (bare_event run) (bare_with (map (watched number) run))
  bare_pair [] = tt
  bare_pair (x ∷ run) =
      let crew = last_named x run in
      record {
        kind = refl;
        purpose = refl;
        begin = refl;
        end = last_number x run;
        driver_begin = told_number (accepted_card x.itself.driver);
        codriver_begin = told_number (accepted_card x.itself.codriver);
        driver_end = ap (λ (c : Crew). card_number_bytes (number_or_no_card c.driver)) crew ∙ told_number (accepted_card (last_seen x run).itself.driver);
        codriver_end = ap (λ (c : Crew). card_number_bytes (number_or_no_card c.codriver)) crew ∙ told_number (accepted_card (last_seen x run).itself.codriver);
        average = refl;
      }

  fast_pair : (run : List Seen) → MayPair (IsFastOf number) (over_event run) (over_with (map (watched number) run))
  fast_pair [] = tt
  fast_pair (x ∷ run) =
      subst (λ (ys : List SpeedSecond). MayPair (IsFastOf number) (over_event (x ∷ run))
      (option_map {T = Over} {U = OverWith} (λ over. record { over = over; begin = named number (crew_of x.itself); end = last_crew (map (watched number) (x ∷ run)) }) (over_of ys)))
      (speeds_turned (x ∷ run)) (by (nat_lt 60 (length (map speed_second (x ∷ run)))))
    where
      by : (b : Bool) → MayPair (IsFastOf number)
          (option_map {T = Over} {U = Event} (λ over. run_event OVER_SPEEDING over.most over.average x run)
          (cond b (Some (record { begin = first_of (numbers (map speed_second (x ∷ run))); end = last_of (numbers (map speed_second (x ∷ run))); most = fold max 0 (speeds (map speed_second (x ∷ run))); average = sum (speeds (map speed_second (x ∷ run))) / length (map speed_second (x ∷ run)) })) None))
          (option_map {T = Over} {U = OverWith} (λ over. record { over = over; begin = named number (crew_of x.itself); end = last_crew (map (watched number) (x ∷ run)) })
          (cond b (Some (record { begin = first_of (numbers (map speed_second (x ∷ run))); end = last_of (numbers (map speed_second (x ∷ run))); most = fold max 0 (speeds (map speed_second (x ∷ run))); average = sum (speeds (map speed_second (x ∷ run))) / length (map speed_second (x ∷ run)) })) None))
      by false = tt
      by true = record { kind = refl; begin = refl; end = last_fast x run; most = refl; average = refl; driver = told_number (accepted_card x.itself.driver) }

  -- ---- a span

  same_bare : (x : Seen) → is_bare x ≡ watch.is_bare (watched number x)
  same_bare x = ap (λ (b : Bool). nat_lt 0 x.told.second.speed && not b) (by x.itself.driver)
    where
      by_accepted : (s : Sitting) (o : Option ℕ) → s.accepted ≡ o → is_accepted (Some s) ≡ is_some (option_map number (accepted_card (Some s)))
      by_accepted s None is =
          ap is_some is ∙ sym (ap (λ (o : Option ℕ). is_some (option_map number (option_map {T = ℕ} {U = Card} (λ u. s.card) o))) is)
      by_accepted s (Some u) is =
          ap is_some is ∙ sym (ap (λ (o : Option ℕ). is_some (option_map number (option_map {T = ℕ} {U = Card} (λ u. s.card) o))) is)

      by : (o : Option Sitting) → is_accepted o ≡ is_some (option_map number (accepted_card o))
      by None = refl
      by (Some s) = by_accepted s s.accepted refl

  pub bares-are : (span : List Seen) → ArePairs (IsBareOf number) (filter_map bare_event (ended_runs is_bare span)) (bares_with (map (watched number) span))
  unfolding bares_with
  bares-are span =
      subst (λ (runs : List (List CrewSecond)). ArePairs (IsBareOf number) (filter_map bare_event (ended_runs is_bare span)) (filter_map bare_with runs)) (sym (runs_turned (watched number) watch.is_bare is_bare same_bare [] span))
      (pairs_made (IsBareOf number) (watched number) bare_event bare_with bare_pair (ended_runs is_bare span))

  pub fasts-are : (limit : ℕ) (span : List Seen) → ArePairs (IsFastOf number) (filter_map over_event (ended_runs (λ x. is_above limit (speed_second x)) span)) (overs_with limit (map (watched number) span))
  unfolding overs_with
  fasts-are limit span =
      subst (λ (runs : List (List CrewSecond)). ArePairs (IsFastOf number) (filter_map over_event (ended_runs (λ x. is_above limit (speed_second x)) span)) (filter_map over_with runs))
      (sym (runs_turned (watched number) (is_fast limit) (λ x. is_above limit (speed_second x)) (λ x. refl) [] span))
      (pairs_made (IsFastOf number) (watched number) over_event over_with fast_pair (ended_runs (λ x. is_above limit (speed_second x)) span))

  -- ---- all spans of a run

  pub bare_events-are : (log : RunLog) (ss : List TraceSecond) → ArePairs (IsBareOf number) (bare_events log ss) (flat_map (λ span. bares_with (map (watched number) span)) (seen_spans (seen_of log ss)))
  bare_events-are log ss =
      pairs_mapped (IsBareOf number) (λ (span : List Seen). filter_map bare_event (ended_runs is_bare span)) (λ (span : List Seen). bares_with (map (watched number) span)) bares-are (seen_spans (seen_of log ss))

  pub over_events-are : (limit : ℕ) (log : RunLog) (ss : List TraceSecond) →
      ArePairs (IsFastOf number) (over_events limit log ss) (flat_map (λ span. overs_with limit (map (watched number) span)) (seen_spans (seen_of log ss)))
  over_events-are limit log ss =
      pairs_mapped (IsFastOf number) (λ (span : List Seen). filter_map over_event (ended_runs (λ x. is_above limit (speed_second x)) span)) (λ (span : List Seen). overs_with limit (map (watched number) span)) (fasts-are limit)
      (seen_spans (seen_of log ss))
