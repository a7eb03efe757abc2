-- The record goes on with sessions that hold other entries by hand.
use Rattle.std.proofs.Common.{◌≡◌, inl, inr, ⊎_elim, ℕ, true, Option, Some, None, IfSome, List, is_some, refl, sym, ◌∙◌, ap, subst}
use Rattle.minute_rules.specs.activity_codec.declared.entries.Entry.{Entry}
use Rattle.run_devices.specs.trace_model.declared.Card.{Card}
use Rattle.run_devices.specs.trace_model.Trace.{TraceSecond}
use Rattle.tach_media.specs.Medium.{State}
use Rattle.minute_rules.specs.minute_model.declared.Minute.{Minute}
use Rattle.run_devices.specs.tacho_types.declared.card_number.FullCardNumber.{FullCardNumber}
use Rattle.run_devices.specs.tacho_types.CardNumber.{card_number_bytes}
use Rattle.run_devices.specs.log_model.Log.{Phase}
use Rattle.run_devices.specs.log_model.Course.{Visit}
use Rattle.run_devices.specs.card_session.Sessions.{Session}
use Rattle.run_devices.specs.hand_model.Written.{Hands}
use Rattle.run_devices.specs.card_by_hand.First.{IsShutAt}
use Rattle.run_devices.specs.device_rule.Rules.{Standing}
use Rattle.run_devices.specs.safety_model.Safe.{Devices, card_of}
use Rattle.run_devices.specs.run_promise.Found.{CardFound, found_of}
use Rattle.run_devices.specs.run_promise.Origin.{Origin}
use Rattle.run_devices.specs.run_course.Seconds.{kept_all}
use Rattle.run_devices.specs.run_crew.declared.cards.Accepted.{Accepted}
use Rattle.run_devices.specs.run_crew.declared.cards.Cards.{Cards}
use Rattle.run_devices.specs.run_crew.declared.cabin.Cabin.{Cabin}
use Rattle.run_devices.specs.run_crew.Cards.{session_of}
use Rattle.run_devices.specs.Told.{SessionIsOnCard, GoesWith, AreFoundCards, DevicesPowered}
use Rattle.run_devices.specs.Presence.{PresentStand}
use Rattle.run_record.specs.Recorded.{Values, carried}
use Rattle.run_record.specs.Within.{AreOneBut, AreAlike, told_before, course_in, RecordInSecond}

-- a card has a session still, and had it
some-still : (a b : Option Accepted) → AreOneBut a b → is_some a ≡ true → is_some b ≡ true
some-still None None one is = is
some-still None (Some b) one is = absurd one
some-still (Some a) None one is = absurd one
some-still (Some a) (Some b) one is = refl

some-was : (a b : Option Accepted) → AreOneBut a b → is_some b ≡ true → is_some a ≡ true
some-was None None one is = is
some-was None (Some b) one is = absurd one
some-was (Some a) None one is = absurd one
some-was (Some a) (Some b) one is = refl

-- it goes with its card as the other does
goes-alike : (f : CardFound) (h : Hands) (has : List Entry) (z : Standing) (card : State) (a b : Option Accepted) → AreOneBut a b → GoesWith f h has z a card → GoesWith f h has z b card
goes-alike f h has z card None None one goes = goes
goes-alike f h has z card None (Some b) one goes = absurd one
goes-alike f h has z card (Some a) None one goes = absurd one
goes-alike f h has z card (Some a) (Some b) one goes = (
  subst (λ (s : Session). SessionIsOnCard f h has z s card) (sym one.0) goes.0,
  λ none. subst (λ (s : Session). IfSome card.image (IsShutAt s.application)) (sym one.0) (goes.1 (sym one.1 ∙ none)),
)

module _ (o : Origin) (done : List TraceSecond) (s : TraceSecond) (at : Phase) (waits : List Visit) (speed : Option ℕ) (rest : List Minute) (v : Values) (d : Devices) (w : RecordInSecond o done s at waits speed rest v d)
    (cards : Cards) (alike : AreAlike v.cabin.cards cards) where
  abbrev cabin : Cabin
  cabin = record { slots = v.cabin.slots; cards = cards }

  pub had : (card : Card) → is_some (session_of cards card) ≡ true → is_some (session_of v.cabin.cards card) ≡ true
  had card = some-was (session_of v.cabin.cards card) (session_of cards card) (alike card).session

  pub powered : DevicesPowered o.found (carried v w.due (kept_all w.new w.b.run.book) w.standing w.brought w.hands w.firsts) cards d
  powered = record {
    lit = w.powered.lit;
    go = record {
      held = w.powered.go.held;
      goes = λ c valid.
          let g = w.powered.go.goes c valid in
          record { has = g.has; all = g.all; goes = goes-alike (found_of o.found c) (w.hands c) g.has (w.standing c) (card_of d c) (session_of v.cabin.cards c) (session_of cards c) (alike c).session g.goes };
    };
  }

  pub found : AreFoundCards o.found cards
  found = record {
    two = w.found.two;
    named = λ c valid. subst (λ (m : Option FullCardNumber). IfSome m (λ (n : FullCardNumber). card_number_bytes n ≡ (found_of o.found c).number)) (sym (alike c).number) (w.found.named c valid);
    told = λ c valid. ap is_some (alike c).number ∙ w.found.told c valid;
    only = λ c has. w.found.only c (sym (ap is_some (alike c).number) ∙ has);
    own = w.found.own;
    sizes = w.found.sizes;
    entries = w.found.entries;
    word = w.found.word;
  }

  pub present : PresentStand o.found w.standing (told_before w.b done) (course_in w.b done s at v.log) s.number w.from cabin
  present = record {
    seated = w.present.seated;
    ended = λ m present card low is in_.
        let h = w.present.ended m present card low is in_ in
        record {
          valid = h.valid;
          present = h.present;
          session = ⊎_elim (λ some. inl (some-still (session_of v.cabin.cards card) (session_of cards card) (alike card).session some)) (λ broken. inr broken) h.session;
        };
  }
