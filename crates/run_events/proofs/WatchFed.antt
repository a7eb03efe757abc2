-- What is kept of a span's events, once more seconds of one kind were fed.
use Rattle.std.proofs.Common.{◌≡◌, ◌∙◌, inl, inr, ⊎_elim, ℕ, zero, suc, ◌+◌, ◌<◌, Bool, true, false, cond, Option, Some, None, List, [], ◌++◌, map, refl, ap, sym, subst, arith, append-nil, nat_lt}
use Rattle.std.specs.Prelude.{option_map, option_to_list, unwrap_or}
use Rattle.std.specs.List.{AllByRecursion}
use Rattle.std.proofs.lemmas.List.{append_cancel_left, map-append}
use Rattle.activity_codec.proofs.ByTest.{by_test}
use Rattle.event_model.specs.declared.entries.Over.{Over}
use Rattle.event_model.specs.declared.entries.Span.{Span}
use Rattle.event_model.specs.Runs.{last_run}
use Rattle.event_model.specs.Spans.{DriverSecond, SpeedSecond, bare_of, bares_of, over_of, overs_of, is_above, all_bare, at_speed}
use Rattle.event_model.proofs.RunLemmas.{last_run-append, row-on, row-off, ended-on, ended-off}
use Rattle.event_rules.specs.Bare as bare_feed
use Rattle.event_rules.specs.Speeding as over_feed
use Rattle.unit_events.proofs.Watching.{each-append}
use Rattle.run_crew.specs.declared.cards.Crew.{Crew}
use Rattle.run_events.specs.declared.watch.Watch.{Watch}
use Rattle.run_events.specs.Watching.{CrewSecond, seconds_with, is_bare, is_bare_at, is_fast, driver_second, speed_second, first_crew, BareWith, OverWith, bare_with, over_with, bares_with, overs_with, WatchesSpan}
use Rattle.run_events.proofs.Crews.{last_turned, bare_turned, row_turned, each_turned, last_with, first_with, last_of_run, bare_is, over_is}

one_option : {T : Type 0} (a b : Option T) → option_to_list a ≡ option_to_list b → a ≡ b
one_option None None is = refl
one_option None (Some y) is = absurd (cc)
one_option (Some x) None is = absurd (cc)
one_option (Some x) (Some y) is = cc

no_option : {T : Type 0} (a : Option T) → option_to_list a ≡ [] → a ≡ None
no_option None is = refl
no_option (Some x) is = absurd (cc)

-- one of a row
abbrev one : (speed : ℕ) → Crew → ℕ → CrewSecond
one speed crew k = record { number = k; speed = speed; crew = crew }

-- the begin of a run is that of its first second
begin_is : (o : Option Crew) (run : List CrewSecond) (crew : Crew) → o ≡ first_crew run → (c : Crew) → first_crew run ≡ Some c → unwrap_or o crew ≡ c
begin_is o run crew is c first = ap (λ (p : Option Crew). unwrap_or p crew) (is ∙ first)

module _ (w : Watch) (ss : List CrewSecond) (stands : WatchesSpan w ss) (first n speed : ℕ) (crew : Crew) (some : 0 < n) where
  drivers : map driver_second (ss ++ seconds_with first n speed crew) ≡ map driver_second ss ++ all_bare first n (is_bare_at speed crew)
  drivers = map-append driver_second ss (seconds_with first n speed crew) ∙ ap (λ (l : List DriverSecond). map driver_second ss ++ l) (row_turned driver_second (one speed crew) first n)

  speeds : map speed_second (ss ++ seconds_with first n speed crew) ≡ map speed_second ss ++ at_speed first n speed
  speeds = map-append speed_second ss (seconds_with first n speed crew) ∙ ap (λ (l : List SpeedSecond). map speed_second ss ++ l) (row_turned speed_second (one speed crew) first n)

  fast_turned : (limit : ℕ) → last_run (is_above limit) (map speed_second ss) ≡ map speed_second (last_run (is_fast limit) ss)
  fast_turned limit = last_turned speed_second (is_above limit) [] ss

  -- DRIVING WITHOUT A CARD, where these seconds go on with it
  bare-on : is_bare_at speed crew ≡ true → (r : Option Span) → bares_of (map driver_second ss ++ all_bare first n (is_bare_at speed crew)) ≡ bares_of (map driver_second ss) ++ option_to_list r → r ≡ None
  unfolding bares_of
  bare-on on r given =
      no_option r (append_cancel_left (bares_of (map driver_second ss)) (option_to_list r) []
      (sym given ∙ ended-on (λ (s : DriverSecond). s.bare) (λ (k : ℕ). record { number = k; bare = is_bare_at speed crew }) bare_of (λ k. on) (map driver_second ss) first n ∙ sym (append-nil (bares_of (map driver_second ss)))))

  bare-off : is_bare_at speed crew ≡ false → (r : Option Span) → bares_of (map driver_second ss ++ all_bare first n (is_bare_at speed crew)) ≡ bares_of (map driver_second ss) ++ option_to_list r
      → r ≡ bare_of (map driver_second (last_run is_bare ss))
  unfolding bares_of
  bare-off off r given = go n refl
    where
      go : (m : ℕ) → m ≡ n → r ≡ bare_of (map driver_second (last_run is_bare ss))
      go zero is = absurd (omega (arith, some, is))
      go (suc m) is =
          one_option r (bare_of (last_run (λ (s : DriverSecond). s.bare) (map driver_second ss)))
          (append_cancel_left (bares_of (map driver_second ss)) (option_to_list r) (option_to_list (bare_of (last_run (λ (s : DriverSecond). s.bare) (map driver_second ss))))
          (sym given ∙ ap (λ (k : ℕ). bares_of (map driver_second ss ++ all_bare first k (is_bare_at speed crew))) (sym is)
          ∙ ended-off (λ (s : DriverSecond). s.bare) (λ (k : ℕ). record { number = k; bare = is_bare_at speed crew }) bare_of refl (λ k. off) (map driver_second ss) first m))
          ∙ ap bare_of (bare_turned ss)

  pub bares-given : (r : Option Span) → bares_of (map driver_second ss ++ all_bare first n (is_bare_at speed crew)) ≡ bares_of (map driver_second ss) ++ option_to_list r
      → bares_with (ss ++ seconds_with first n speed crew)
      ≡ bares_with ss ++ option_to_list (option_map {T = Span} {U = BareWith} (λ span. record { span = span; begin = unwrap_or w.bare_begin crew; end = w.last }) r)
  unfolding bares_with
  bares-given r given = by_test (is_bare_at speed crew)
      (λ on.
      ended-on is_bare (one speed crew) bare_with (λ k. on) ss first n
      ∙ sym (append-nil (bares_with ss))
      ∙ ap (λ (o : Option Span). bares_with ss ++ option_to_list (option_map {T = Span} {U = BareWith} (λ span. record { span = span; begin = unwrap_or w.bare_begin crew; end = w.last }) o)) (sym (bare-on on r given)))
      (λ off. go off n refl)
    where
      go : is_bare_at speed crew ≡ false → (m : ℕ) → m ≡ n → bares_with (ss ++ seconds_with first n speed crew)
          ≡ bares_with ss ++ option_to_list (option_map {T = Span} {U = BareWith} (λ span. record { span = span; begin = unwrap_or w.bare_begin crew; end = w.last }) r)
      go off zero is = absurd (omega (arith, some, is))
      go off (suc m) is =
          ap (λ (k : ℕ). bares_with (ss ++ seconds_with first k speed crew)) (sym is)
          ∙ ended-off is_bare (one speed crew) bare_with refl (λ k. off) ss first m
          ∙ ap (λ (o : Option BareWith). bares_with ss ++ option_to_list o)
          (bare_is (last_run is_bare ss) (unwrap_or w.bare_begin crew) w.last (begin_is w.bare_begin (last_run is_bare ss) crew stands.bare_begin)
          (⊎_elim (λ none. inl none) (λ same. inr (same ∙ sym stands.last)) (last_of_run is_bare ss))
          ∙ ap (option_map {T = Span} {U = BareWith} (λ span. record { span = span; begin = unwrap_or w.bare_begin crew; end = w.last })) (sym (bare-off off r given)))

  -- OVER SPEEDING
  over-on : nat_lt w.over.limit speed ≡ true → (r : Option Over) → overs_of w.over.limit (map speed_second ss ++ at_speed first n speed) ≡ overs_of w.over.limit (map speed_second ss) ++ option_to_list r → r ≡ None
  unfolding overs_of
  over-on on r given =
      no_option r (append_cancel_left (overs_of w.over.limit (map speed_second ss)) (option_to_list r) []
      (sym given ∙ ended-on (is_above w.over.limit) (λ (k : ℕ). record { number = k; speed = speed }) over_of (λ k. on) (map speed_second ss) first n ∙ sym (append-nil (overs_of w.over.limit (map speed_second ss)))))

  over-off : nat_lt w.over.limit speed ≡ false → (r : Option Over) → overs_of w.over.limit (map speed_second ss ++ at_speed first n speed) ≡ overs_of w.over.limit (map speed_second ss) ++ option_to_list r
      → r ≡ over_of (map speed_second (last_run (is_fast w.over.limit) ss))
  unfolding overs_of
  over-off off r given = go n refl
    where
      go : (m : ℕ) → m ≡ n → r ≡ over_of (map speed_second (last_run (is_fast w.over.limit) ss))
      go zero is = absurd (omega (arith, some, is))
      go (suc m) is =
          one_option r (over_of (last_run (is_above w.over.limit) (map speed_second ss)))
          (append_cancel_left (overs_of w.over.limit (map speed_second ss)) (option_to_list r) (option_to_list (over_of (last_run (is_above w.over.limit) (map speed_second ss))))
          (sym given ∙ ap (λ (k : ℕ). overs_of w.over.limit (map speed_second ss ++ at_speed first k speed)) (sym is)
          ∙ ended-off (is_above w.over.limit) (λ (k : ℕ). record { number = k; speed = speed }) over_of refl (λ k. off) (map speed_second ss) first m))
          ∙ ap over_of (fast_turned w.over.limit)

  pub overs-given : (r : Option Over) → overs_of w.over.limit (map speed_second ss ++ at_speed first n speed) ≡ overs_of w.over.limit (map speed_second ss) ++ option_to_list r
      → overs_with w.over.limit (ss ++ seconds_with first n speed crew)
      ≡ overs_with w.over.limit ss ++ option_to_list (option_map {T = Over} {U = OverWith} (λ over. record { over = over; begin = unwrap_or w.over_begin crew; end = w.last }) r)
  unfolding overs_with
  overs-given r given = by_test (nat_lt w.over.limit speed)
      (λ on.
      ended-on (is_fast w.over.limit) (one speed crew) over_with (λ k. on) ss first n
      ∙ sym (append-nil (overs_with w.over.limit ss))
      ∙ ap (λ (o : Option Over). overs_with w.over.limit ss ++ option_to_list (option_map {T = Over} {U = OverWith} (λ over. record { over = over; begin = unwrap_or w.over_begin crew; end = w.last }) o)) (sym (over-on on r given)))
      (λ off. go off n refl)
    where
      go : nat_lt w.over.limit speed ≡ false → (m : ℕ) → m ≡ n → overs_with w.over.limit (ss ++ seconds_with first n speed crew)
          ≡ overs_with w.over.limit ss ++ option_to_list (option_map {T = Over} {U = OverWith} (λ over. record { over = over; begin = unwrap_or w.over_begin crew; end = w.last }) r)
      go off zero is = absurd (omega (arith, some, is))
      go off (suc m) is =
          ap (λ (k : ℕ). overs_with w.over.limit (ss ++ seconds_with first k speed crew)) (sym is)
          ∙ ended-off (is_fast w.over.limit) (one speed crew) over_with refl (λ k. off) ss first m
          ∙ ap (λ (o : Option OverWith). overs_with w.over.limit ss ++ option_to_list o)
          (over_is (last_run (is_fast w.over.limit) ss) (unwrap_or w.over_begin crew) w.last (begin_is w.over_begin (last_run (is_fast w.over.limit) ss) crew stands.over_begin)
          (⊎_elim (λ none. inl none) (λ same. inr (same ∙ sym stands.last)) (last_of_run (is_fast w.over.limit) ss))
          ∙ ap (option_map {T = Over} {U = OverWith} (λ over. record { over = over; begin = unwrap_or w.over_begin crew; end = w.last })) (sym (over-off off r given)))

  -- THE CARDS AT THE FIRST SECOND of a run that goes on
  pub goes-from : (p : CrewSecond → Bool) (b : Bool) → ((k : ℕ) → p (one speed crew k) ≡ b) → (begin : Option Crew) → begin ≡ first_crew (last_run p ss)
      → cond b (Some (unwrap_or begin crew)) None ≡ first_crew (last_run p (ss ++ seconds_with first n speed crew))
  goes-from p true each begin is =
      first_with (last_run p ss) crew first n speed begin some is
      ∙ sym (ap first_crew (last_run-append p ss (seconds_with first n speed crew) ∙ row-on p (one speed crew) each (last_run p ss) first n))
  goes-from p false each begin is = go n refl
    where
      go : (m : ℕ) → m ≡ n → None ≡ first_crew (last_run p (ss ++ seconds_with first n speed crew))
      go zero same = absurd (omega (arith, some, same))
      go (suc m) same =
          sym (ap (λ (k : ℕ). first_crew (last_run p (ss ++ seconds_with first k speed crew))) (sym same)
          ∙ ap first_crew (last_run-append p ss (seconds_with first (suc m) speed crew) ∙ row-off p (one speed crew) each (last_run p ss) first m))

  -- WHAT IS KEPT
  pub stands-on : (now : Watch) → bare_feed.CountsDriverSeconds now.bare (map driver_second ss ++ all_bare first n (is_bare_at speed crew)) → over_feed.CountsSpeedSeconds now.over (map speed_second ss ++ at_speed first n speed)
      → now.over.limit ≡ w.over.limit → now.bare_begin ≡ cond (is_bare_at speed crew) (Some (unwrap_or w.bare_begin crew)) None
      → now.over_begin ≡ cond (nat_lt w.over.limit speed) (Some (unwrap_or w.over_begin crew)) None → now.last ≡ crew → WatchesSpan now (ss ++ seconds_with first n speed crew)
  stands-on now bare over limit bare_begin over_begin last = record {
    bare = subst (bare_feed.CountsDriverSeconds now.bare) (sym drivers) bare;
    over = subst (over_feed.CountsSpeedSeconds now.over) (sym speeds) over;
    bare_begin = bare_begin ∙ goes-from is_bare (is_bare_at speed crew) (λ k. refl) w.bare_begin stands.bare_begin;
    over_begin = over_begin ∙ goes-from (is_fast w.over.limit) (nat_lt w.over.limit speed) (λ k. refl) w.over_begin stands.over_begin
        ∙ ap (λ (l : ℕ). first_crew (last_run (is_fast l) (ss ++ seconds_with first n speed crew))) (sym limit);
    last = last ∙ sym (last_with ss crew first n speed some);
  }

-- none of the seconds is at 0
pub late-on : (ss : List CrewSecond) (first n speed : ℕ) (crew : Crew) → 0 < first → AllByRecursion (λ (s : CrewSecond). 0 < s.number) ss → AllByRecursion (λ (s : CrewSecond). 0 < s.number) (ss ++ seconds_with first n speed crew)
late-on ss first n speed crew low late = each-append (λ (s : CrewSecond). 0 < s.number) ss (seconds_with first n speed crew) late (row first n low)
  where
    row : (k m : ℕ) → 0 < k → AllByRecursion (λ (s : CrewSecond). 0 < s.number) (seconds_with k m speed crew)
    row k zero low = tt
    row k (suc m) low = (low, row (k + 1) m (omega (arith, low)))

-- and so what ends begins behind 0
pub drivers-late : (ss : List CrewSecond) → AllByRecursion (λ (s : CrewSecond). 0 < s.number) ss → AllByRecursion (λ (s : DriverSecond). 0 < s.number) (map driver_second ss)
drivers-late ss late = each_turned driver_second (λ (s : CrewSecond). 0 < s.number) (λ (s : DriverSecond). 0 < s.number) (λ s h. h) ss late

pub speeds-late : (ss : List CrewSecond) → AllByRecursion (λ (s : CrewSecond). 0 < s.number) ss → AllByRecursion (λ (s : SpeedSecond). 0 < s.number) (map speed_second ss)
speeds-late ss late = each_turned speed_second (λ (s : CrewSecond). 0 < s.number) (λ (s : SpeedSecond). 0 < s.number) (λ s h. h) ss late
