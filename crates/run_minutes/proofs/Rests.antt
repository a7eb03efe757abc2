-- A card whose session goes on, or that had none, has not broken down, from call to call.
use Rattle.std.proofs.Common.{◌≡◌, ◌∙◌, ℕ, ◌≤◌, Bool, Option, Some, None, refl, ap, subst, arith}
use Rattle.trace_model.specs.declared.Card.{Card}
use Rattle.tach_media.specs.Medium.{State}
use Rattle.log_model.specs.declared.lines.Break.{Break}
use Rattle.log_model.specs.declared.lines.Mark.{Mark}
use Rattle.card_session.specs.declared.session.Kept.{Kept}
use Rattle.run_crew.specs.declared.cards.Accepted.{Accepted}
use Rattle.run_crew.specs.declared.cards.Cards.{Cards}
use Rattle.run_crew.specs.Cards.{session_of}
use Rattle.run_crew.proofs.Sessions.{session_set}
use Rattle.run_outcome.specs.Lines.{Listed}
use Rattle.run_devices.specs.safety_model.Safe.{Devices}
use Rattle.run_devices.specs.run_promise.Between.{devices}
use Rattle.run_minutes.specs.declared.keeper.Keeper.{Keeper}
use Rattle.run_minutes.specs.declared.keeper.Moment.{Moment}
use Rattle.run_minutes.specs.Keeping.{Fate, Still, Has, Fell, IsFateOf, IsOnCard, IsBrought, GoesOnFrom, SessionsGoOn, cabin_by, tears_of}
use Rattle.run_minutes.specs.Later.{RestsBy, RestBy}

-- ---- one card

-- no session comes
goes-tears : (a b : Option Accepted) → GoesOnFrom a b → tears_of b ≤ tears_of a
goes-tears None None h = omega arith
goes-tears (Some x) None h = omega arith
goes-tears None (Some y) h = absurd h
goes-tears (Some x) (Some y) h = omega arith

-- calls, and some more
rests-one : (a b c : Option Accepted) (x y z : State) → GoesOnFrom a b → GoesOnFrom b c → RestsBy a b x y → RestsBy b c y z → RestsBy a c x z
rests-one a b c x y z goes on first next = λ le.
    let low = goes-tears a b goes in
    let down = goes-tears b c on in
    let here : tears_of a ≤ tears_of b = omega (arith, le, down) in
    let later : tears_of b ≤ tears_of c = omega (arith, le, low) in
    next later ∙ first here

-- a card that keeps an entry, or is torn out
fate-rests : (session after : Option Accepted) (kept : Kept) (fate : Fate) (X Y : State) → IsFateOf session kept fate → IsOnCard fate X Y → (session ≡ None → Y.breakdowns ≡ X.breakdowns) → (fate ≡ Fell → after ≡ None) → RestsBy session after X Y
fate-rests None after kept Still X Y is on bare gone = λ le. bare refl
fate-rests None after kept (Has accepted clock) X Y is on bare gone = absurd is
fate-rests None after kept Fell X Y is on bare gone = absurd is
fate-rests (Some before) after kept Still X Y is on bare gone = absurd is
fate-rests (Some before) after kept (Has accepted clock) X Y is on bare gone = λ le. on.1.unbroken refl
fate-rests (Some before) after kept Fell X Y is on bare gone = λ le.
    let low : 1 ≤ 0 = subst (λ (o : Option Accepted). tears_of (Some before) ≤ tears_of o) (gone refl) le in
    absurd (omega (arith, low))

-- whose session is gone then
fell-bare : (card : Card) (fate : Fate) (second : ℕ) (k v : Keeper) → v ≡ record k { cabin = cabin_by fate (Some card) second k.cabin } → fate ≡ Fell → session_of v.cabin.cards card ≡ None
fell-bare card fate second k v is fell =
    ap (λ (q : Keeper). session_of q.cabin.cards card) is ∙ ap (λ (f : Fate). session_of (cabin_by f (Some card) second k.cabin).cards card) fell ∙ session_set card None k.cabin.cards

pub brought-rests : (card : Card) (kept : Kept) (at : Moment) (failed : Bool) (k v : Keeper) (marks marks_after : Listed Mark) (breaks breaks_after : Listed Break) (fate : Fate) (U V X Y : State)
    → IsBrought (Some card) kept at failed k v marks marks_after breaks breaks_after fate U V X Y → (session_of k.cabin.cards card ≡ None → Y.breakdowns ≡ X.breakdowns) → RestsBy (session_of k.cabin.cards card) (session_of v.cabin.cards card) X Y
brought-rests card kept at failed k v marks marks_after breaks breaks_after fate U V X Y b bare =
    fate-rests (session_of k.cabin.cards card) (session_of v.cabin.cards card) kept fate X Y b.is b.on_card bare (fell-bare card fate at.second k v b.keeper)

-- ---- both

-- no call on a card
pub rest-none : (cards after : Cards) (u v a b : State) → RestBy cards after (devices u a b) (devices v a b)
rest-none cards after u v a b = record { card_a = λ le. refl; card_b = λ le. refl }

-- calls on one of them
pub rest-of-a : (cards after : Cards) (u v a x b : State) → RestsBy cards.a.accepted after.a.accepted a x → RestBy cards after (devices u a b) (devices v x b)
rest-of-a cards after u v a x b card = record { card_a = card; card_b = λ le. refl }

pub rest-of-b : (cards after : Cards) (u v a b y : State) → RestsBy cards.b.accepted after.b.accepted b y → RestBy cards after (devices u a b) (devices v a y)
rest-of-b cards after u v a b y card = record { card_a = λ le. refl; card_b = card }

-- calls, and some more
pub rest-then : (x y z : Cards) (d e f : Devices) → SessionsGoOn x y → SessionsGoOn y z → RestBy x y d e → RestBy y z e f → RestBy x z d f
rest-then x y z d e f goes on first next = record {
  card_a = rests-one x.a.accepted y.a.accepted z.a.accepted d.card_a e.card_a f.card_a goes.a on.a first.card_a next.card_a;
  card_b = rests-one x.b.accepted y.b.accepted z.b.accepted d.card_b e.card_b f.card_b goes.b on.b first.card_b next.card_b;
}
