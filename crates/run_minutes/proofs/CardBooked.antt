-- What became of the entry of a card, by the sessions before and behind.
use Rattle.std.proofs.Common.{◌≡◌, ◌*◌, ◌+◌, ◌∙◌, ℕ, ◌<◌, ◌≤◌, true, List, [], ◌∷◌, ◌++◌, length, Option, Some, None, IfSome, refl, ap, sym, subst, arith}
use Rattle.std.specs.Prelude.{Ok}
use Rattle.activity_codec.specs.declared.entries.Entry.{Entry}
use Rattle.trace_model.specs.declared.Card.{Card}
use Rattle.trace_model.specs.declared.Card.TheVariants.{A, B}
use Rattle.tach_media.specs.Medium.{State, IsCoherent, LeavesOnly, IsSettled, last_count}
use Rattle.tach_media.proofs.Runs.{if_told}
use Rattle.log_model.specs.declared.lines.Mark.{Mark}
use Rattle.tach_media.specs.card_layout.declared.command.CardState.{CardState}
use Rattle.tach_media.specs.card_layout.declared.files.Application.{Application}
use Rattle.tach_media.specs.card_layout.Files.{image_size_of}
use Rattle.tach_media.proofs.card_layout.Sizes.{largest_image}
use Rattle.device_calls.specs.card_commands.Ports.{IsPort}
use Rattle.card_session.specs.declared.session.Kept.{Kept}
use Rattle.card_session.specs.Sessions.{IsSession}
use Rattle.activity_codec.specs.declared.entries.Manual.{Manual}
use Rattle.hand_model.specs.Holding.{Holding, LieBetween, begun_by}
use Rattle.hand_model.specs.Written.{Hands}
use Rattle.device_calls.specs.card_by_hand.First.{IsFirstKept, IsFirstKeeping}
use Rattle.device_calls.specs.OnCard.{hands_for}
use Rattle.hand_model.specs.card_image.Own.{own_sizes}
use Rattle.device_calls.proofs.TimedCalls.{keeping-timed}
use Rattle.run_devices.specs.history_model.Book.{Book}
use Rattle.run_devices.specs.device_rule.Rules.{Standing}
use Rattle.run_crew.specs.declared.cards.Accepted.{Accepted}
use Rattle.run_crew.specs.declared.cards.Cards.{Cards}
use Rattle.run_crew.specs.Cards.{known_of, session_of, with_session}
use Rattle.run_crew.specs.Cabin.{CanKeepNext, MayKeepAt}
use Rattle.run_devices.specs.run_promise.Found.{Found, found_of}
use Rattle.run_devices.specs.run_promise.Cards.{FirstKeep}
use Rattle.run_minutes.specs.Keeping.{Still, Has, Fell, CardMayBeCalled, marks_by, held_in}
use Rattle.run_devices.specs.Measured.{reading_at}
use Rattle.run_minutes.specs.Books.{StaysOn, standing_by, hands_by, firsts_by}
use Rattle.run_minutes.specs.Owing.{CardOwing, BooksCard}
use Rattle.run_minutes.proofs.CardEvents.{events-keeping, stays-self}
use Rattle.run_minutes.proofs.FirstMeasured.{first-measures}
use Rattle.run_minutes.specs.Deeds.{KeepsOn}
use Rattle.run_minutes.proofs.CardDeeds.{does-none}
use Rattle.run_minutes.proofs.Deeds.{keeps-has}
use Rattle.run_minutes.proofs.CardBrought.{card-still, card-fell, card-has}

pub session-set : (c : Card) (s : Option Accepted) (cards : Cards) → session_of (with_session c s cards) c ≡ s
session-set A s cards = refl
session-set B s cards = refl

-- the port of a card that has a session
port-of : (c : Card) (cards : Cards) (a : Accepted) (chip : CardState) (X : State) → session_of cards c ≡ Some a → CardMayBeCalled (known_of cards c) chip X → IsPort a.session.application None chip X
port-of A cards a chip X some ready = ready.port a.session.application (subst (λ (o : Option Accepted). IfSome o (λ a. cards.a.sizes ≡ Ok a.session.application)) some ready.is_known.sized)
port-of B cards a chip X some ready = ready.port a.session.application (subst (λ (o : Option Accepted). IfSome o (λ a. cards.b.sizes ≡ Ok a.session.application)) some ready.is_known.sized)

-- a card with bad sizes has none
pub no-session : (c : Card) (cards : Cards) (chip : CardState) (X : State) → CardMayBeCalled (known_of cards c) chip X → ((app : Application) → (known_of cards c).sizes ≡ Ok app → ⊥) → session_of cards c ≡ None
no-session A cards chip X ready bad = by cards.a.accepted refl
  where
    by : (o : Option Accepted) → cards.a.accepted ≡ o → cards.a.accepted ≡ None
    by None is = is
    by (Some a) is = absurd (bad a.session.application (subst (λ (o : Option Accepted). IfSome o (λ a. cards.a.sizes ≡ Ok a.session.application)) is ready.is_known.sized))
no-session B cards chip X ready bad = by cards.b.accepted refl
  where
    by : (o : Option Accepted) → cards.b.accepted ≡ o → cards.b.accepted ≡ None
    by None is = is
    by (Some a) is = absurd (bad a.session.application (subst (λ (o : Option Accepted). IfSome o (λ a. cards.b.sizes ≡ Ok a.session.application)) is ready.is_known.sized))

pub none-there : (o : Option Accepted) → ((a : Accepted) → o ≡ Some a → ⊥) → o ≡ None
none-there None never = refl
none-there (Some a) never = absurd (never a refl)

-- what had no session is as it was without one
pub session-unset : (c : Card) (cards : Cards) → session_of cards c ≡ None → with_session c None cards ≡ cards
session-unset A cards gone = ap (λ (o : Option Accepted). record cards { a = record cards.a { accepted = o } }) (sym gone)
session-unset B cards gone = ap (λ (o : Option Accepted). record cards { b = record cards.b { accepted = o } }) (sym gone)

-- what entries lie between lies apart
lie-apart : (after before : ℕ) (hands : List Manual) → LieBetween after before hands → after < before
lie-apart after before [] lie = lie
lie-apart after before (h ∷ hands) lie = let next = lie-apart h.minute before hands lie.1 in let first = lie.0 in omega (arith, first, next)

-- a call on a card that has a session leaves what is known of its last use, and its events, and measures with its reading alone
timed-of : (f : Found) (c : Card) (b : Book) (z : Standing) (hd : Hands) (firsts : List FirstKeep) (ks : List ℕ) (marks : List Mark) (owes : List Entry) (a : Accepted) (U X Y : State) (by_hand : List Manual) (e : Entry) (odometer : ℕ) → IsCoherent X → a.session.minute < e.minute → CardOwing f c b z hd firsts ks marks owes (Some a) U X
    → LeavesOnly X Y (λ x y. IsSession a.session x → IsFirstKeeping a.session by_hand e odometer x y) → StaysOn (found_of f c) (reading_at e.minute odometer ∷ []) X Y
timed-of f c b z hd firsts ks marks owes a U X Y by_hand e odometer whole late one run =
    let on = one.goes.goes.0 in (
      λ timed. keeping-timed (found_of f c).image (found_of f c).began X Y one.rule.dark.later whole timed a.session by_hand e odometer
          (if_told X.image (λ x. own_sizes x ≡ a.session.application) (λ x is. (one.held.now x (whole.is_left x is)).0 ∙ sym on.sizes)) on.session run,
      events-keeping (own_sizes (found_of f c).image) X Y whole a.session by_hand e odometer on.sizes on.session run,
      first-measures (own_sizes (found_of f c).image) X Y whole a.session by_hand e odometer on.sizes late on.session run,
    )

module _ (c : Card) (said : Kept) (cards : Cards) (U X : State) where
  -- it has no session
  pub booked-still : session_of cards c ≡ None → BooksCard c said Still cards cards U X X
  booked-still gone = λ f w found tells h none time valid present one. (
    subst (λ (o : Option Accepted). CardOwing f c w.book (w.standing c) (w.hands c) (w.firsts c) (w.brought c) (w.marks ++ []) [] o U X) (sym gone)
        (card-still f c w.book (w.standing c) (w.hands c) (w.firsts c) (w.brought c) w.marks (said.entry ∷ []) said.entry.minute U X present
        (subst (λ (o : Option Accepted). CardOwing f c w.book (w.standing c) (w.hands c) (w.firsts c) (w.brought c) w.marks (said.entry ∷ []) o U X) gone one)),
    stays-self (found_of f c) (reading_at said.entry.minute said.odometer.0 ∷ []) X,
    subst (λ (o : Option Accepted). KeepsOn (found_of f c) (said ∷ []) o o X X) (sym gone) (does-none (own_sizes (found_of f c).image) X),
  )

  module _ (behind : Cards) (Y : State) (chip : CardState) (a : Accepted) (unit : IsCoherent U) (whole : IsCoherent X) (after : IsCoherent Y) (some : session_of cards c ≡ Some a) (ready : CardMayBeCalled (known_of cards c) chip X) (may : CanKeepNext cards said.entry.minute (Some c))
      (run : LeavesOnly X Y (λ x y. IsSession a.session x → IsFirstKeeping a.session (hands_for a.held said.entry.minute) said.entry said.odometer.0 x y)) where
    abbrev m : ℕ
    m = said.entry.minute

    -- what its session held
    held-is : held_in (session_of cards c) ≡ a.held
    held-is = ap held_in some

    fits : (x : List ℕ) → X.image ≡ Some x → image_size_of a.session.application ≤ length x
    fits x told =
        let port = port-of c cards a chip X some ready in
        let most = largest_image a.session.application port.good in
        let size = whole.sized x told in
        omega (arith, most, port.size, size)

    ready-now : MayKeepAt said.entry.minute a
    ready-now = subst (λ (o : Option Accepted). IfSome o (MayKeepAt said.entry.minute)) some may

    late : a.session.minute < said.entry.minute
    late = lie-apart a.session.minute said.entry.minute a.held.entries ready-now.lie

    -- its call failed
    pub booked-fell : session_of behind c ≡ None → BooksCard c said Fell cards behind U X Y
    booked-fell gone = λ f w found tells h none time valid present one.
        let before = subst (λ (o : Option Accepted). CardOwing f c w.book (w.standing c) (w.hands c) (w.firsts c) (w.brought c) w.marks (said.entry ∷ []) o U X) some one in (
          subst (λ (g : Holding). CardOwing f c w.book (standing_by Fell m (w.standing c)) (hands_by Fell g m (w.hands c)) (firsts_by Fell c g m (w.firsts c)) (w.brought c) (w.marks ++ marks_by Fell (Some c) m) [] (session_of behind c) U Y) (sym held-is)
              (subst (λ (o : Option Accepted). CardOwing f c w.book (standing_by Fell m (w.standing c)) (hands_by Fell a.held m (w.hands c)) (firsts_by Fell c a.held m (w.firsts c)) (w.brought c) (w.marks ++ marks_by Fell (Some c) m) [] o U Y) (sym gone)
              (card-fell f cards found c w.due w.book (w.standing c) (w.hands c) (w.firsts c) (w.brought c) w.marks a said.entry said.odometer.0 U X Y unit whole after tells h none valid present before fits ready-now run)),
          timed-of f c w.book (w.standing c) (w.hands c) (w.firsts c) (w.brought c) w.marks (said.entry ∷ []) a U X Y (hands_for a.held m) said.entry said.odometer.0 whole late before run,
          subst (λ (o : Option Accepted). KeepsOn (found_of f c) (said ∷ []) o (session_of behind c) X Y) (sym some) (subst (λ (o : Option Accepted). KeepsOn (found_of f c) (said ∷ []) (Some a) o X Y) (sym gone) tt),
        )

    -- it has the entry
    pub booked-has : (t : Accepted) (n : ℕ) → session_of behind c ≡ Some t → Y.works ≡ true → t.session.application ≡ a.session.application → t.session.minute ≡ said.entry.minute
        → t.session.registration ≡ a.session.registration → t.session.odometer ≡ Some said.odometer → t.held ≡ begun_by said.entry.minute a.held
        → IfSome X.image (λ x. IfSome Y.image (λ y. IsSession a.session x → IsFirstKept a.session t.session (hands_for a.held said.entry.minute) said.entry said.odometer.0 x y)) → (Y.clock < last_count → IsSettled Y) → Y.clock ≤ X.clock + (17 + 4 * length (hands_for a.held said.entry.minute)) → n ≡ Y.clock → BooksCard c said (Has t n) cards behind U X Y
    booked-has t n is works sizes at vehicle odometer begun kept settles wrote clock = λ f w found tells h none time valid present one.
        let before = subst (λ (o : Option Accepted). CardOwing f c w.book (w.standing c) (w.hands c) (w.firsts c) (w.brought c) w.marks (said.entry ∷ []) o U X) some one in (
          subst (λ (g : Holding). CardOwing f c w.book (standing_by (Has t n) m (w.standing c)) (hands_by (Has t n) g m (w.hands c)) (firsts_by (Has t n) c g m (w.firsts c)) (w.brought c) (w.marks ++ marks_by (Has t n) (Some c) m) [] (session_of behind c) U Y) (sym held-is)
              (subst (λ (o : Option Accepted). CardOwing f c w.book (standing_by (Has t n) m (w.standing c)) (hands_by (Has t n) a.held m (w.hands c)) (firsts_by (Has t n) c a.held m (w.firsts c)) (w.brought c) (w.marks ++ marks_by (Has t n) (Some c) m) [] o U Y) (sym is)
              (card-has f cards found c w.due w.book (w.standing c) (w.hands c) (w.firsts c) (w.brought c) w.marks a said.entry said.odometer.0 U X Y unit whole after tells h none valid present before fits ready-now run
              t works sizes vehicle at begun kept (settles time) wrote n clock)),
          timed-of f c w.book (w.standing c) (w.hands c) (w.firsts c) (w.brought c) w.marks (said.entry ∷ []) a U X Y (hands_for a.held m) said.entry said.odometer.0 whole late before run,
          subst (λ (o : Option Accepted). KeepsOn (found_of f c) (said ∷ []) o (session_of behind c) X Y) (sym some)
              (subst (λ (o : Option Accepted). KeepsOn (found_of f c) (said ∷ []) (Some a) o X Y) (sym is)
              (keeps-has (found_of f c) said a t X Y before.goes.goes.0.sizes vehicle odometer begun whole after works run.tells before.goes.goes.0.session kept)),
        )
