-- The side that answers has answered each request once, in the order of numbers.
use Rattle.std.proofs.Common.{◌≡◌, ◌∙◌, ℕ, zero, suc, ◌+◌, Bool, true, false, List, [], ◌∷◌, ◌++◌, Option, Some, None, refl, sym, ap, subst, inl, inr, arith, add-one, append-nil}
use Rattle.std.specs.Prelude.{◌==◌, if◌then◌else◌, option_to_list, slice_get}
use Rattle.std.specs.List.{AllByRecursion}
use Rattle.std.proofs.lemmas.Bool.Decides.{nat_tests}
use Rattle.noisy_model.specs.declared.packet.Packet.{Packet}
use Rattle.noisy_model.specs.declared.event.Event.{Event}
use Rattle.noisy_model.specs.declared.event.Event.TheVariants.{Send, ToUnit, ToLoader}
use Rattle.noisy_model.specs.Ends.{Sides, Taken, Hears, request_of}
use Rattle.noisy_model.specs.Worlds.{World, fresh_world, ComesToUnit, ComesToLoader, Happens, Passes, request_numbered, distinct_requests, Answered}
use Rattle.noisy_model.proofs.Lists.{each_at, each_weaker}
use Rattle.noisy_model.proofs.Arriving.{IsNew, Cases, cases}
use Rattle.noisy_model.proofs.Leading.{IsSent, Holds, holds_first, holds_next, is_wanted}

same_number : (m n : ℕ) → (m == n) ≡ true → m ≡ n
same_number m n is = grind (arith, nat_tests)

other_number : (m n : ℕ) → (m == n) ≡ false → m ≡ n → ⊥
other_number m n is same = grind (arith, nat_tests)

-- what was sent first is found first
still_first : (sent more : List Packet) (n : ℕ) (r : List ℕ) → request_numbered sent n ≡ Some r → request_numbered (sent ++ more) n ≡ Some r
still_first [] more n r is = absurd (cc)
still_first (p ∷ sent) more n r is = by (p.number == n) (still_first sent more n r) is
  where
    by : (b : Bool) → (request_numbered sent n ≡ Some r → request_numbered (sent ++ more) n ≡ Some r) → (if b then p.frame else request_numbered sent n) ≡ Some r → (if b then p.frame else request_numbered (sent ++ more) n) ≡ Some r
    by true later is = is
    by false later is = later is

-- a request of each of these numbers was sent
abbrev HasEach : List Packet → ℕ → Type 0
HasEach sent zero = Unit {0}
HasEach sent (suc n) = HasEach sent n × ((r : List ℕ) × (request_numbered sent (suc n) ≡ Some r))

still_each : (sent more : List Packet) (n : ℕ) → HasEach sent n → HasEach (sent ++ more) n
still_each sent more zero has = tt
still_each sent more (suc n) has = (still_each sent more n has.0, (has.1.0, still_first sent more (suc n) has.1.0 has.1.1))

same_requests : (sent more : List Packet) (n : ℕ) → HasEach sent n → distinct_requests (sent ++ more) n ≡ distinct_requests sent n
same_requests sent more zero has = refl
same_requests sent more (suc n) has =
    let here : request_numbered (sent ++ more) (suc n) ≡ request_numbered sent (suc n) = still_first sent more (suc n) has.1.0 has.1.1 ∙ sym has.1.1 in
    ap (λ (rs : List (List ℕ)). rs ++ option_to_list (request_numbered (sent ++ more) (suc n))) (same_requests sent more n has.0)
    ∙ ap (λ (o : Option (List ℕ)). distinct_requests sent n ++ option_to_list o) here

-- the request of a packet that was sent is the first of its number where all of that number are the same
first_is : (sent : List Packet) (place n : ℕ) (p : Packet) (r : List ℕ) → AllByRecursion (λ q. q.number ≡ n → q.frame ≡ Some r) sent → slice_get sent place ≡ Some p → p.number ≡ n → request_numbered sent n ≡ Some r
first_is [] place n p r each is number = absurd (cc)
first_is (q ∷ sent) place n p r each is number = by (q.number == n) refl (λ k at. first_is sent k n p r each.1 at number) place is
  where
    by : (b : Bool) → (q.number == n) ≡ b → ((k : ℕ) → slice_get sent k ≡ Some p → request_numbered sent n ≡ Some r) → (k : ℕ) → slice_get (q ∷ sent) k ≡ Some p → (if b then q.frame else request_numbered sent n) ≡ Some r
    by true on later k at = each.0 (same_number q.number n on)
    by false off later zero at = let same : q ≡ p = cc in absurd (other_number q.number n off (ap (λ (x : Packet). x.number) same ∙ number))
    by false off later (suc k) at = later k at

module _ {U L : Type 0} (sides : Sides U L) where
  answered_on : (u : U) (requests : List (List ℕ)) (v : U) (request : List ℕ) (answer : Option (List ℕ)) (w : U) → Answered sides.Answers u requests v → sides.Answers v request answer w → Answered sides.Answers u (requests ++ request ∷ []) w
  answered_on u [] v request answer w before next = (answer, w, subst (λ (x : U). sides.Answers x request answer w) before next, refl)
  answered_on u (r ∷ requests) v request answer w before next = (before.0, before.1, before.2, answered_on before.1 requests v request answer w before.3 next)

  record Heard (u : U) (w : World U L) : Type 0 where
    each : HasEach w.sent w.unit.last
    answered : Answered sides.Answers u (distinct_requests w.sent w.unit.last) w.unit.side

  -- nothing new was heard
  heard_same : (u : U) (old new : World U L) (more : List Packet) → Heard u old → new.sent ≡ old.sent ++ more → new.unit ≡ old.unit → Heard u new
  heard_same u old new more h sent unit = record {
    each = rw (sent, unit) (still_each old.sent more old.unit.last h.each);
    answered = rw (sent, unit) (rw (same_requests old.sent more old.unit.last h.each) h.answered);
  }

  -- a packet that was sent comes
  module _ (u : U) (l : L) (old new : World U L) (took : List Taken) (holds : Holds sides u l old took) (h : Heard u old) (place : ℕ) (p : Packet) (is : slice_get old.sent place ≡ Some p) (sent : IsSent sides old.loader p) (answer : Option Packet) where
    -- a new one
    heard_new : IsNew sides.Answers old.unit p new.unit answer → new.sent ≡ old.sent → Heard u new
    heard_new n sent_is =
        let both = is_wanted sides u l old new took holds p sent answer n in
        let last : old.unit.last + 1 ≡ old.loader.number = both.0.last in
        let first = first_is old.sent place (old.unit.last + 1) p n.request (each_weaker (IsSent sides old.loader) (λ q. q.number ≡ old.unit.last + 1 → q.frame ≡ Some n.request) old.sent (one (sym both.1.frame ∙ n.frame) last) holds.sent) is n.number in
        let here : request_numbered old.sent (suc old.unit.last) ≡ Some n.request = subst (λ (k : ℕ). request_numbered old.sent k ≡ Some n.request) (add-one old.unit.last) first in
        record {
          each = rw (sent_is, n.last, add-one) (h.each, (n.request, here));
          answered = rw (sent_is, n.last, add-one, here) (answered_on u (distinct_requests old.sent old.unit.last) old.unit.side n.request new.unit.kept new.unit.side h.answered n.answers);
        }
      where
        one : sides.asks old.loader.side ≡ Some n.request → old.unit.last + 1 ≡ old.loader.number → (q : Packet) → IsSent sides old.loader q → q.number ≡ old.unit.last + 1 → q.frame ≡ Some n.request
        one asked last q (inl low) number = absurd (omega arith)
        one asked last q (inr r) number = r.frame ∙ asked

    heard_comes : Hears sides.Answers old.unit p new.unit answer → new.sent ≡ old.sent → Heard u new
    heard_comes hears sent_is = by (cases sides.Answers old.unit p new.unit answer hears)
      where
        by : Cases sides.Answers old.unit p new.unit answer → Heard u new
        by (inl n) = heard_new n sent_is
        by (inr (inl a)) = heard_same u old new [] h (sent_is ∙ sym (append-nil old.sent)) a.same
        by (inr (inr o)) = heard_same u old new [] h (sent_is ∙ sym (append-nil old.sent)) o.same

  comes_to_unit : (u : U) (l : L) (old new : World U L) (took : List Taken) (place : ℕ) (o : Option Packet) → Holds sides u l old took → Heard u old → slice_get old.sent place ≡ o → ComesToUnit sides old o new → Heard u new
  comes_to_unit u l old new took place None holds h is comes = subst (λ (w : World U L). Heard u w) (sym comes) h
  comes_to_unit u l old new took place (Some p) holds h is comes =
      heard_comes u l old new took holds h place p is (each_at (IsSent sides old.loader) old.sent place p holds.sent is) comes.0 comes.1 comes.2

  comes_to_loader : (u : U) (old new : World U L) (more : List Taken) (o : Option Packet) → Heard u old → ComesToLoader sides old o new more → Heard u new
  comes_to_loader u old new more None h comes = subst (λ (w : World U L). Heard u w) (sym comes.0) h
  comes_to_loader u old new more (Some p) h comes = heard_same u old new [] h (comes.1 ∙ sym (append-nil old.sent)) comes.3

  heard_next : (u : U) (l : L) (old new : World U L) (took more : List Taken) (event : Event) → Holds sides u l old took → Heard u old → Happens sides old event new more → Heard u new
  heard_next u l old new took more Send holds h is = heard_same u old new (option_to_list (request_of sides.asks old.loader)) h is.0 is.2
  heard_next u l old new took more (ToUnit place) holds h is = comes_to_unit u l old new took place (slice_get old.sent place) holds h refl is.0
  heard_next u l old new took more (ToLoader place) holds h is = comes_to_loader u old new more (slice_get old.answers place) h is

  heard_on : (u : U) (l : L) (old new : World U L) (took more : List Taken) (events : List Event) → Holds sides u l old took → Heard u old → Passes sides old events new more → Heard u new
  heard_on u l old new took more [] holds h is = subst (λ (w : World U L). Heard u w) (sym is.0) h
  heard_on u l old new took more (event ∷ events) holds h is =
      heard_on u l is.0 new (took ++ is.1) is.2 events (holds_next sides u l old is.0 took is.1 event holds is.3) (heard_next u l old is.0 took is.1 event holds h is.3) is.4

  -- the side that answers has answered the requests of all numbers up to the last one, each once
  pub heard : (u : U) (l : L) (w : World U L) (took : List Taken) (events : List Event) → Passes sides (fresh_world u l) events w took → Answered sides.Answers u (distinct_requests w.sent w.unit.last) w.unit.side
  heard u l w took events passes = (heard_on u l (fresh_world u l) w [] took events (holds_first sides u l) (record { each = tt; answered = refl }) passes).answered
