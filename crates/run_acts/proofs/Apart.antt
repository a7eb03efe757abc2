-- While something is noted on a card its session is held apart, and put back behind it.
use Rattle.std.proofs.Common.{◌≡◌, ◌∙◌, ℕ, ◌+◌, ◌≤◌, true, false, Option, Some, None, is_some, refl, ap, sym, subst, arith}
use Rattle.std.specs.Prelude.{Ok, IfSome}
use Rattle.trace_model.specs.declared.Card.{Card}
use Rattle.trace_model.specs.declared.Card.TheVariants.{A, B}
use Rattle.tach_media.specs.Medium.{State, LeavesOnly, HasCause, HasBroken, broken_by}
use Rattle.tach_media.proofs.Breakdowns.{none_broken, call_broken, fewer_broken}
use Rattle.card_files.specs.card_layout.declared.command.CardState.{CardState}
use Rattle.card_files.specs.card_layout.declared.files.Application.{Application}
use Rattle.device_calls.specs.card_commands.Ports.{IsPort}
use Rattle.device_calls.specs.CardNotes.{IsNote}
use Rattle.run_crew.specs.declared.cards.Accepted.{Accepted}
use Rattle.run_crew.specs.declared.cards.Known.{Known}
use Rattle.run_crew.specs.declared.cards.Cards.{Cards}
use Rattle.run_crew.specs.declared.cabin.Cabin.{Cabin}
use Rattle.run_crew.specs.Cards.{known_of, session_of, with_session}
use Rattle.run_crew.specs.Cabin.{torn_out, left_from, slot_with}
use Rattle.run_minutes.specs.Keeping.{CardMayBeCalled}
use Rattle.run_minutes.proofs.Sessions.{session-twice}
use Rattle.run_acts.specs.Acting.{falls_by}

pub some-one : (o : Option Accepted) → is_some o ≡ true → (a : Accepted) × (o ≡ Some a)
some-one None some = absurd (cc)
some-one (Some a) some = (a, refl)

pub not-both : (o : Option Accepted) → is_some o ≡ true → o ≡ None → ⊥
not-both None some is = cc
not-both (Some a) some is = cc

pub session-back : (c : Card) (a : Accepted) (cards : Cards) → session_of cards c ≡ Some a → with_session c (Some a) (with_session c None cards) ≡ cards
session-back A a cards has = ap (λ (o : Option Accepted). record cards { a = record cards.a { accepted = o } }) (sym has)
session-back B a cards has = ap (λ (o : Option Accepted). record cards { b = record cards.b { accepted = o } }) (sym has)

-- torn out meanwhile
pub torn-apart : (c : Card) (second : ℕ) (cabin : Cabin) (taken : Cards) → taken ≡ with_session c None cabin.cards → torn_out c second (record cabin { cards = taken }) ≡ torn_out c second cabin
torn-apart c second cabin taken is =
    ap (λ (q : Cards). record { slots = left_from (slot_with cabin.slots.seats c) second cabin.slots; cards = with_session c None q }) is
    ∙ ap (λ (q : Cards). record { slots = left_from (slot_with cabin.slots.seats c) second cabin.slots; cards = q }) (session-twice c None None cabin.cards)

-- what was noted on a card was noted by the sizes of its session
pub noted-sizes : (c : Card) (cards : Cards) (app : Application) (chip : CardState) (X Y : State) → CardMayBeCalled (known_of cards c) chip X → (known_of cards c).sizes ≡ Ok app → LeavesOnly X Y (IsNote app)
    → IfSome (session_of cards c) (λ a. LeavesOnly X Y (IsNote a.session.application))
noted-sizes A cards app chip X Y ready told run = by cards.a.accepted refl
  where
    by : (o : Option Accepted) → cards.a.accepted ≡ o → IfSome o (λ a. LeavesOnly X Y (IsNote a.session.application))
    by None is = tt
    by (Some a) is =
        let sized = subst (λ (o : Option Accepted). IfSome o (λ a. cards.a.sizes ≡ Ok a.session.application)) is ready.is_known.sized in
        let same : app ≡ a.session.application = cc in
        subst (λ (p : Application). LeavesOnly X Y (IsNote p)) same run
noted-sizes B cards app chip X Y ready told run = by cards.b.accepted refl
  where
    by : (o : Option Accepted) → cards.b.accepted ≡ o → IfSome o (λ a. LeavesOnly X Y (IsNote a.session.application))
    by None is = tt
    by (Some a) is =
        let sized = subst (λ (o : Option Accepted). IfSome o (λ a. cards.b.sizes ≡ Ok a.session.application)) is ready.is_known.sized in
        let same : app ≡ a.session.application = cc in
        subst (λ (p : Application). LeavesOnly X Y (IsNote p)) same run

-- a card that it went well on is ready again
pub ready-again : (known : Known) (app : Application) (chip next : CardState) (X Y : State) → CardMayBeCalled known chip X → known.sizes ≡ Ok app → IsPort app None next Y → Y.works ≡ true → CardMayBeCalled known next Y
ready-again known app chip next X Y ready told port works = record {
  is_known = ready.is_known;
  port = λ p is. let same : app ≡ p = cc in subst (λ (q : Application). IsPort q None next Y) same port;
  works = by known.accepted;
}
  where
    by : (o : Option Accepted) → IfSome o (λ a. Y.works ≡ true)
    by None = tt
    by (Some a) = works

-- a card with a session works
pub session-works : (c : Card) (cards : Cards) (chip : CardState) (X : State) → CardMayBeCalled (known_of cards c) chip X → is_some (session_of cards c) ≡ true → X.works ≡ true
session-works A cards chip X ready some =
    let one = some-one cards.a.accepted some in
    subst (λ (o : Option Accepted). IfSome o (λ a. X.works ≡ true)) one.1 ready.works
session-works B cards chip X ready some =
    let one = some-one cards.b.accepted some in
    subst (λ (o : Option Accepted). IfSome o (λ a. X.works ≡ true)) one.1 ready.works

-- so a call that failed broke it down
pub fell-broken : (X Y : State) → X.works ≡ true → HasCause X Y true → HasBroken X Y (falls_by true)
fell-broken X Y works cause = let one : 1 ≤ 0 + broken_by X.works true = rw works (omega arith) in fewer_broken one (call_broken true (none_broken X) cause)

pub well-broken : (X Y : State) → HasCause X Y false → HasBroken X Y (falls_by false)
well-broken X Y cause = let faults = cause.faults in let more = cause.breakdowns in record { faults = faults; breakdowns = omega (arith, more) }
