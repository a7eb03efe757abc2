-- Where any list of events leads.
use Rattle.std.proofs.Common.{◌≡◌, ◌∙◌, ℕ, ◌+◌, ◌<◌, List, [], ◌∷◌, ◌++◌, Option, Some, None, refl, sym, ap, subst, inl, inr, arith, append_assoc, append-nil, length-append}
use Rattle.std.specs.Prelude.{◌⊎◌, option_to_list, slice_get, IfSome}
use Rattle.std.specs.List.{AllByRecursion}
use Rattle.noisy_model.specs.declared.packet.Packet.{Packet}
use Rattle.noisy_model.specs.declared.event.Event.{Event}
use Rattle.noisy_model.specs.declared.event.Event.TheVariants.{Send, ToUnit, ToLoader}
use Rattle.noisy_model.specs.Ends.{Sides, UnitEnd, LoaderEnd, Taken, packet, Hears, TakesBy, request_of, brought}
use Rattle.noisy_model.specs.Worlds.{World, fresh_world, ComesToUnit, ComesToLoader, Happens, Passes, Talks, Waits, HasAnswered, IsTalk}
use Rattle.noisy_model.proofs.Lists.{each_get, each_if, each_weaker}
use Rattle.noisy_model.proofs.Arriving.{IsNew, Cases, cases, IsRequest, sent_is, brought_is}

module _ {U L : Type 0} (sides : Sides U L) where
  -- a packet that was sent is the request of the number now, or has a lower number
  abbrev pub IsSent : LoaderEnd L → Packet → Type 0
  IsSent e p = (p.number < e.number) ⊎ IsRequest sides.asks e p

  -- an answer that was given is the kept one, or has a lower number
  abbrev pub IsGiven : UnitEnd U → Packet → Type 0
  IsGiven e p = (p.number < e.last) ⊎ ((p.number ≡ e.last) × (p.frame ≡ e.kept))

  -- one exchange more
  talks_on : (u : U) (l : L) (took : List Taken) (mid : U) (m : L) (request frame put : List ℕ) (next : U) (after : L) → Talks sides u l took mid m → sides.asks m ≡ Some request
      → sides.Answers mid request (Some frame) next → sides.Takes m frame after put → Talks sides u l (took ++ record { frame = frame; put = put } ∷ []) next after
  talks_on u l [] mid m request frame put next after talks asked answered taken = (
    request,
    next,
    after,
    subst (λ (x : L). sides.asks x ≡ Some request) talks.1 asked,
    subst (λ (x : U). sides.Answers x request (Some frame) next) talks.0 answered,
    subst (λ (x : L). sides.Takes x frame after put) talks.1 taken,
    (refl, refl),
  )
  talks_on u l (t ∷ took) mid m request frame put next after talks asked answered taken =
      (talks.0, talks.1, talks.2, talks.3, talks.4, talks.5, talks_on talks.1 talks.2 took mid m request frame put next after talks.6 asked answered taken)

  -- what holds after any events
  pub record Holds (u : U) (l : L) (w : World U L) (took : List Taken) : Type 0 where
    pub talk : IsTalk sides u l w took
    pub sent : AllByRecursion (IsSent w.loader) w.sent
    pub given : AllByRecursion (IsGiven w.unit) w.answers

  pub holds_first : (u : U) (l : L) → Holds u l (fresh_world u l) []
  holds_first u l = record {
    talk = record { mid = u; talks = (refl, refl); number = refl; unit = inl (record { side = refl; last = refl }) };
    sent = tt;
    given = tt;
  }

  sent_so : (e : LoaderEnd L) (o : Option Packet) → request_of sides.asks e ≡ o → IfSome o (IsSent e)
  sent_so e None is = tt
  sent_so e (Some p) is = inr (sent_is sides.asks e p is)

  -- the talk is the same
  still : (u : U) (l : L) (old new : World U L) (took : List Taken) → IsTalk sides u l old took → new.unit ≡ old.unit → new.loader ≡ old.loader → IsTalk sides u l new took
  still u l old new took t unit loader = record {
    mid = t.mid;
    talks = subst (λ (e : LoaderEnd L). Talks sides u l took t.mid e.side) (sym loader) t.talks;
    number = ap (λ (e : LoaderEnd L). e.number) loader ∙ t.number;
    unit =
        subst (λ (e : LoaderEnd L). Waits t.mid e.number new.unit ⊎ HasAnswered sides t.mid e.side e.number new.unit) (sym loader)
        (subst (λ (e : UnitEnd U). Waits t.mid old.loader.number e ⊎ HasAnswered sides t.mid old.loader.side old.loader.number e) (sym unit) t.unit);
  }

  -- the loader's end sends
  holds_sent : (u : U) (l : L) (old new : World U L) (took : List Taken) → Holds u l old took → new.sent ≡ old.sent ++ option_to_list (request_of sides.asks old.loader) → new.answers ≡ old.answers → new.unit ≡ old.unit → new.loader ≡ old.loader
      → Holds u l new took
  holds_sent u l old new took h sent answers unit loader = record {
    talk = still u l old new took h.talk unit loader;
    sent = rw (sent, loader) (each_if (IsSent old.loader) old.sent (request_of sides.asks old.loader) h.sent (sent_so old.loader (request_of sides.asks old.loader) refl));
    given = rw (answers, unit) h.given;
  }

  -- nothing changed
  unmoved : (u : U) (l : L) (old new : World U L) (took : List Taken) → Holds u l old took → new.sent ≡ old.sent → new.answers ≡ old.answers → new.unit ≡ old.unit → new.loader ≡ old.loader → Holds u l new took
  unmoved u l old new took h sent answers unit loader = record {
    talk = still u l old new took h.talk unit loader;
    sent = rw (sent, loader) h.sent;
    given = rw (answers, unit) h.given;
  }

  holds_same : (u : U) (l : L) (old new : World U L) (took : List Taken) → Holds u l old took → new ≡ old → Holds u l new took
  holds_same u l old new took h same = subst (λ (w : World U L). Holds u l w took) (sym same) h

  -- The end that answers gets a request that is new: it is the one that is asked.
  module _ (u : U) (l : L) (old new : World U L) (took : List Taken) (h : Holds u l old took) (p : Packet) (sent : IsSent old.loader p) (answer : Option Packet) where
    pub is_wanted : IsNew sides.Answers old.unit p new.unit answer → Waits h.talk.mid old.loader.number old.unit × IsRequest sides.asks old.loader p
    is_wanted n = by h.talk.unit sent
      where
        by : Waits h.talk.mid old.loader.number old.unit ⊎ HasAnswered sides h.talk.mid old.loader.side old.loader.number old.unit → IsSent old.loader p → Waits h.talk.mid old.loader.number old.unit × IsRequest sides.asks old.loader p
        by (inl w) (inl low) = let last = w.last in let number = n.number in absurd (omega arith)
        by (inl w) (inr r) = (w, r)
        by (inr a) (inl low) = let last = a.last in let number = n.number in absurd (omega arith)
        by (inr a) (inr r) = let last = a.last in let number = n.number in let equal = r.number in absurd (omega arith)

    new_stands : IsNew sides.Answers old.unit p new.unit answer → HasAnswered sides h.talk.mid old.loader.side old.loader.number new.unit
    new_stands n =
        let both = is_wanted n in
        record {
          request = n.request;
          asked = sym both.1.frame ∙ n.frame;
          answered = subst (λ (x : U). sides.Answers x n.request new.unit.kept new.unit.side) both.0.side n.answers;
          last = n.last ∙ both.0.last;
        }

    heard_new : IsNew sides.Answers old.unit p new.unit answer → new.sent ≡ old.sent → new.answers ≡ old.answers ++ option_to_list answer → new.loader ≡ old.loader → Holds u l new took
    heard_new n sent_is answers loader = record {
      talk = record {
        mid = h.talk.mid;
        talks = subst (λ (e : LoaderEnd L). Talks sides u l took h.talk.mid e.side) (sym loader) h.talk.talks;
        number = ap (λ (e : LoaderEnd L). e.number) loader ∙ h.talk.number;
        unit = inr (subst (λ (e : LoaderEnd L). HasAnswered sides h.talk.mid e.side e.number new.unit) (sym loader) (new_stands n));
      };
      sent = rw (sent_is, loader) h.sent;
      given = rw (answers, n.answer_is) (each_if (IsGiven new.unit) old.answers (Some (packet new.unit.last new.unit.kept)) (each_weaker (IsGiven old.unit) (IsGiven new.unit) old.answers lower h.given) (inr (refl, refl)));
    }
      where
        lower : (q : Packet) → IsGiven old.unit q → IsGiven new.unit q
        lower q (inl low) = let last = n.last in inl (omega arith)
        lower q (inr same) = let last = n.last in let equal = same.0 in inl (omega arith)

    -- the last request again, or another packet
    heard_old : (o : Option Packet) → answer ≡ o → IfSome o (IsGiven old.unit) → new.unit ≡ old.unit → new.sent ≡ old.sent → new.answers ≡ old.answers ++ option_to_list answer → new.loader ≡ old.loader → Holds u l new took
    heard_old o is ok unit sent_is answers loader = record {
      talk = still u l old new took h.talk unit loader;
      sent = rw (sent_is, loader) h.sent;
      given = rw (answers, is, unit) (each_if (IsGiven old.unit) old.answers o h.given ok);
    }

    pub heard : Hears sides.Answers old.unit p new.unit answer → new.sent ≡ old.sent → new.answers ≡ old.answers ++ option_to_list answer → new.loader ≡ old.loader → Holds u l new took
    heard hears sent_is answers loader = by (cases sides.Answers old.unit p new.unit answer hears)
      where
        by : Cases sides.Answers old.unit p new.unit answer → Holds u l new took
        by (inl n) = heard_new n sent_is answers loader
        by (inr (inl a)) = heard_old (Some (packet old.unit.last old.unit.kept)) a.answer_is (inr (refl, refl)) a.same sent_is answers loader
        by (inr (inr o)) = heard_old None o.answer_is tt o.same sent_is answers loader

  -- The end that asks takes an answer: it is the unit's, to what is asked.
  module _ (u : U) (l : L) (old new : World U L) (took : List Taken) (h : Holds u l old took) (p : Packet) (given : IsGiven old.unit p) (frame : List ℕ) where
    -- the unit has answered, and this frame is the answer
    pub record IsIt : Type 0 where
      pub request : List ℕ
      pub asked : sides.asks old.loader.side ≡ Some request
      pub answered : sides.Answers h.talk.mid request (Some frame) old.unit.side
      pub last : old.unit.last ≡ old.loader.number

    pub is_it : p.number ≡ old.loader.number → p.frame ≡ Some frame → IsIt
    is_it number brings = by h.talk.unit given
      where
        by : Waits h.talk.mid old.loader.number old.unit ⊎ HasAnswered sides h.talk.mid old.loader.side old.loader.number old.unit → IsGiven old.unit p → IsIt
        by (inl w) (inl low) = let last = w.last in absurd (omega arith)
        by (inl w) (inr same) = let last = w.last in let equal = same.0 in absurd (omega arith)
        by (inr a) (inl low) = let last = a.last in absurd (omega arith)
        by (inr a) (inr same) = record {
          request = a.request;
          asked = a.asked;
          answered = subst (λ (o : Option (List ℕ)). sides.Answers h.talk.mid a.request o old.unit.side) (sym same.1 ∙ brings) a.answered;
          last = a.last;
        }

    taken_so : IsIt → (put : List ℕ) → sides.Takes old.loader.side frame new.loader.side put → new.loader.number ≡ old.loader.number + 1 → new.sent ≡ old.sent → new.answers ≡ old.answers → new.unit ≡ old.unit
        → Holds u l new (took ++ record { frame = frame; put = put } ∷ [])
    taken_so it put takes number sent_is answers unit = record {
      talk = record {
        mid = old.unit.side;
        talks = talks_on u l took h.talk.mid old.loader.side it.request frame put old.unit.side new.loader.side h.talk.talks it.asked it.answered takes;
        number = number ∙ ap (λ (n : ℕ). n + 1) h.talk.number ∙ ap (λ (n : ℕ). n + 1) (sym (length-append took (record { frame = frame; put = put } ∷ [])));
        unit = inl (record { side = ap (λ (e : UnitEnd U). e.side) unit; last = let is = it.last in let same : new.unit.last ≡ old.unit.last = ap (λ (e : UnitEnd U). e.last) unit in omega arith });
      };
      sent = rw sent_is (each_weaker (IsSent old.loader) (IsSent new.loader) old.sent lower h.sent);
      given = rw (answers, unit) h.given;
    }
      where
        lower : (q : Packet) → IsSent old.loader q → IsSent new.loader q
        lower q (inl low) = inl (omega arith)
        lower q (inr r) = let equal = r.number in inl (omega arith)

  comes_to_unit : (u : U) (l : L) (old new : World U L) (took : List Taken) (o : Option Packet) → Holds u l old took → IfSome o (IsSent old.loader) → ComesToUnit sides old o new → Holds u l new took
  comes_to_unit u l old new took None h sent comes = holds_same u l old new took h comes
  comes_to_unit u l old new took (Some p) h sent comes = heard u l old new took h p sent comes.0 comes.1 comes.2 comes.3 comes.4

  comes_to_loader : (u : U) (l : L) (old new : World U L) (took more : List Taken) (o : Option Packet) → Holds u l old took → IfSome o (IsGiven old.unit) → ComesToLoader sides old o new more → Holds u l new (took ++ more)
  comes_to_loader u l old new took more None h given comes = rw (comes.1, append-nil took) (holds_same u l old new took h comes.0)
  comes_to_loader u l old new took more (Some p) h given comes = by (brought sides.asks old.loader p) refl comes.0
    where
      by : (o : Option (List ℕ)) → brought sides.asks old.loader p ≡ o → TakesBy sides.Takes old.loader o new.loader more → Holds u l new (took ++ more)
      by None is t = rw (t.1, append-nil took) (unmoved u l old new took h comes.1 comes.2 comes.3 t.0)
      by (Some frame) is t =
          let b = brought_is sides.asks old.loader p frame is in
          rw t.3 (taken_so u l old new took h p given frame (is_it u l old new took h p given frame b.0 b.1) t.0 t.1 t.2 comes.1 comes.2 comes.3)

  pub holds_next : (u : U) (l : L) (old new : World U L) (took more : List Taken) (event : Event) → Holds u l old took → Happens sides old event new more → Holds u l new (took ++ more)
  holds_next u l old new took more Send h is = rw (is.4, append-nil took) (holds_sent u l old new took h is.0 is.1 is.2 is.3)
  holds_next u l old new took more (ToUnit place) h is = rw (is.1, append-nil took) (comes_to_unit u l old new took (slice_get old.sent place) h (each_get (IsSent old.loader) old.sent place h.sent) is.0)
  holds_next u l old new took more (ToLoader place) h is = comes_to_loader u l old new took more (slice_get old.answers place) h (each_get (IsGiven old.unit) old.answers place h.given) is

  holds_on : (u : U) (l : L) (old new : World U L) (took more : List Taken) (events : List Event) → Holds u l old took → Passes sides old events new more → Holds u l new (took ++ more)
  holds_on u l old new took more [] h is = rw (is.1, append-nil took) (holds_same u l old new took h is.0)
  holds_on u l old new took more (event ∷ events) h is =
      rw (is.5, ← append_assoc took is.1 is.2) (holds_on u l is.0 new (took ++ is.1) is.2 events (holds_next u l old is.0 took is.1 event h is.3) is.4)

  -- WHERE ANY EVENTS LEAD
  pub holds : (u : U) (l : L) (w : World U L) (took : List Taken) (events : List Event) → Passes sides (fresh_world u l) events w took → Holds u l w took
  holds u l w took events passes = holds_on u l (fresh_world u l) w [] took events (holds_first u l) passes
