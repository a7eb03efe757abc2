-- Seconds as they are fed: one, with the cards that are accepted in it; and several in which nothing happens.
use Rattle.std.proofs.Common.{◌≡◌, ℕ, zero, suc, ◌+◌, ◌≤◌, Bool, true, false, cond, Option, Some, None, List, [], ◌∷◌, ◌++◌, map, take, fold, refl, ap, sym, ◌∙◌, arith, append_assoc, append-nil, is_some}
use Rattle.std.specs.Prelude.{slice_get}
use Rattle.std.specs.List.{AllByRecursion}
use Rattle.std.proofs.lemmas.List.Sums.{fold-append}
use Rattle.trace_model.specs.declared.Card.{Card}
use Rattle.trace_model.specs.declared.Action.{Action}
use Rattle.trace_model.specs.Trace.{TraceSecond, driven}
use Rattle.tacho_types.specs.declared.card_number.FullCardNumber.{FullCardNumber}
use Rattle.log_model.specs.Log.{RunLog, Phase, In, Keeping}
use Rattle.log_model.specs.Slots.{Slots}
use Rattle.log_model.specs.Course.{Course, ToldSecond, Before, both_told, unmoved, all_acted, fresh, cut_told, lit_course, has_power, second_told, before_next, went, not_begun}
use Rattle.event_model.specs.Events.{Watched, crew_of, watched_on, course_by, moved_by_action, within_by, seen_by, seen_of}
use Rattle.run_course.specs.Quiet.{quiet_second}
use Rattle.run_course.proofs.Moments.{both-still}
use Rattle.run_events.specs.Seconds.{IsQuiet, seen_next}
use Rattle.run_events.proofs.Growing.{sees-all}
use Rattle.run_events.proofs.Later.{told-number}
use Rattle.run_events.specs.Watching.{CrewSecond, seconds_with}
use Rattle.run_events.specs.Watched.{watched, named}
use Rattle.run_events.specs.Fed.{IsSilentFrom, going_with, still_second, still_seconds}

-- ONE SECOND, with the cards of its slots
told-speed-by : (b : Bool) (x y : ToldSecond) (n : ℕ) → x.second.speed ≡ n → y.second.speed ≡ n → (cond b x y).second.speed ≡ n
told-speed-by true x y n one two = one
told-speed-by false x y n one two = two

told-speed : (log : RunLog) (before : Before) (s : TraceSecond) → (second_told log before s).second.speed ≡ s.speed
told-speed log before s = told-speed-by (has_power before s) _ _ s.speed refl refl

pub one-fed : (number : Card → FullCardNumber) (log : RunLog) (done : List TraceSecond) (s : TraceSecond) →
    map (watched number) (seen_next log done s ∷ []) ≡ seconds_with s.number 1 s.speed (named number (crew_of (seen_next log done s).itself))
one-fed number log done s =
    λ i. record { number = told-number log (went log done).before s i; speed = told-speed log (went log done).before s i; crew = named number (crew_of (seen_next log done s).itself) } ∷ []

-- SECONDS IN WHICH NOTHING HAPPENS
take-none : (n : ℕ) → take {A = Action} n [] ≡ []
take-none zero = refl
take-none (suc n) = refl

abbrev no_actions : List Action
no_actions = []

nothing : (n : ℕ) → slice_get no_actions n ≡ None
nothing zero = refl
nothing (suc n) = refl

module _ (log : RunLog) (next : ℕ) (silent : IsSilentFrom log next) (slots : Slots) where
  abbrev quiet : (number speed : ℕ) → TraceSecond
  quiet number speed = record { number = number; has_power = true; speed = speed; actions = [] }

  module _ (u : ℕ) (le : next ≤ u) where
    still : (p : Phase) (c : Course) → both_told log u p (unmoved false) c ≡ c
    still p c = both-still log u p (unmoved false) c (λ slot. silent.torn u p slot le) (λ slot. silent.found u p slot le)

    course-still : (speed n : ℕ) → course_by log (going_with slots) (quiet u speed) n ≡ fresh false slots
    course-still speed n =
        ap (λ (acts : List Action). all_acted log (quiet u speed) 0 acts (both_told log u (In 0) (unmoved false) (fresh false slots))) (take-none n) ∙ still (In 0) (fresh false slots)

    action-still : (speed n : ℕ) (o : Option Action) → o ≡ None → moved_by_action log (going_with slots) (quiet u speed) n o ≡ slots
    action-still speed n None is = ap (λ (c : Course). c.slots) (course-still speed n)
    action-still speed n (Some a) is = absurd (cc)

    within-still : (speed n : ℕ) → within_by log (going_with slots) (quiet u speed) n ≡ slots
    within-still speed zero = refl
    within-still speed (suc n) = action-still speed n (slice_get no_actions n) (nothing n)

    lit-still : (speed : ℕ) → lit_course log (quiet u speed) false slots ≡ fresh false slots
    lit-still speed =
        ap (λ (o : Option ℕ). cut_told (is_some o) (both_told log u Keeping (unmoved false) (both_told log u (In 0) (unmoved false) (fresh false slots)))) (silent.uncut u le)
        ∙ ap (both_told log u Keeping (unmoved false)) (still (In 0) (fresh false slots)) ∙ still Keeping (fresh false slots)

    told-still : (speed : ℕ) → second_told log (going_with slots) (quiet u speed) ≡ quiet_second u speed slots
    told-still speed = λ i. record {
      second = record { number = u; speed = speed; picks = (lit-still speed i).picks };
      given = true;
      lit = true;
      starts = false;
      cut = is_some (silent.uncut u le i);
      course = lit-still speed i;
    }

    seen-still : (speed : ℕ) → seen_by log (going_with slots) (quiet u speed) ≡ still_second u speed slots
    seen-still speed = λ i. record {
      told = told-still speed i;
      after = λ n. (course-still speed n i).slots;
      within = λ n. within-still speed n i;
      itself = (still (In 0) (fresh false slots) i).slots;
    }

  one-on : (number speed : ℕ) → next ≤ number → (w : Watched) → w.before ≡ going_with slots → watched_on log w (quiet number speed) ≡ record { seen = w.seen ++ still_second number speed slots ∷ []; before = going_with slots }
  one-on number speed le w is =
      (λ i. record { seen = w.seen ++ seen_by log (is i) (quiet number speed) ∷ []; before = before_next (is i) (second_told log (is i) (quiet number speed)) })
      ∙ (λ i. record { seen = w.seen ++ seen-still number le speed i ∷ []; before = before_next (going_with slots) (told-still number le speed i) })

  all-on : (n number speed : ℕ) → next ≤ number → (w : Watched) → w.before ≡ going_with slots → (fold (watched_on log) w (driven n number speed [])).seen ≡ w.seen ++ still_seconds n number speed slots
  all-on zero number speed le w is = sym (append-nil w.seen)
  all-on (suc n) number speed le w is =
      let then : Watched = record { seen = w.seen ++ still_second number speed slots ∷ []; before = going_with slots } in
      ap (λ (v : Watched). (fold (watched_on log) v (driven n (number + 1) speed [])).seen) (one-on number speed le w is)
      ∙ all-on n (number + 1) speed (omega (arith, le)) then refl
      ∙ append_assoc w.seen (still_second number speed slots ∷ []) (still_seconds n (number + 1) speed slots)

  pub still-seen : (done : List TraceSecond) (n speed : ℕ) → (went log done).before ≡ going_with slots → seen_of log (done ++ driven n next speed []) ≡ seen_of log done ++ still_seconds n next speed slots
  unfolding seen_of went
  still-seen done n speed is =
      let begun : Watched = record { seen = []; before = not_begun.before } in
      ap (λ (w : Watched). w.seen) (fold-append (watched_on log) begun done (driven n next speed []))
      ∙ all-on n next speed (omega arith) (fold (watched_on log) begun done) (sees-all log done begun not_begun refl ∙ is)

pub still-quiet : (n number speed : ℕ) (slots : Slots) → AllByRecursion IsQuiet (still_seconds n number speed slots)
still-quiet zero number speed slots = tt
still-quiet (suc n) number speed slots = (record { idle = record { found = refl; torn = refl; entered = refl }; lit = refl; goes_on = refl }, still-quiet n (number + 1) speed slots)

pub still-fed : (number : Card → FullCardNumber) (n from speed : ℕ) (slots : Slots) → map (watched number) (still_seconds n from speed slots) ≡ seconds_with from n speed (named number (crew_of slots))
still-fed number zero from speed slots = refl
still-fed number (suc n) from speed slots = ap (λ (l : List CrewSecond). record { number = from; speed = speed; crew = named number (crew_of slots) } ∷ l) (still-fed number n (from + 1) speed slots)
