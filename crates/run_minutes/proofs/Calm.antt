-- Where no tear of a failed call is told more no card has broken down, from call to call.
use Rattle.std.proofs.Common.{◌≡◌, ◌∙◌, ℕ, zero, suc, ◌+◌, ◌≤◌, ◌<◌, Bool, true, false, Option, Some, None, List, [], ◌∷◌, ◌++◌, length, filter, map, refl, ap, arith, length-append, sym}
use Rattle.std.specs.Prelude.{not, ◌&&◌}
use Rattle.std.proofs.lemmas.List.Elements.{filter-append}
use Rattle.activity_codec.specs.declared.values.Slot.{Slot}
use Rattle.trace_model.specs.declared.Card.{Card}
use Rattle.tach_media.specs.Medium.{State, HasCause, last_count}
use Rattle.log_model.specs.declared.lines.Break.{Break}
use Rattle.log_model.specs.declared.lines.Break.TheVariants.{Cut, Tear}
use Rattle.log_model.specs.declared.lines.Mark.{Mark}
use Rattle.log_model.specs.Causes.{is_cut, has_failed, tears}
use Rattle.card_session.specs.declared.session.Kept.{Kept}
use Rattle.run_crew.specs.declared.cards.Accepted.{Accepted}
use Rattle.run_crew.specs.Cards.{session_of}
use Rattle.run_outcome.specs.Lines.{Listed, with_kept, found_from}
use Rattle.run_devices.specs.safety_model.Safe.{Devices}
use Rattle.run_devices.specs.run_promise.Between.{devices}
use Rattle.run_minutes.specs.declared.keeper.Keeper.{Keeper}
use Rattle.run_minutes.specs.declared.keeper.Moment.{Moment}
use Rattle.run_minutes.specs.Keeping.{Fate, Still, Has, Fell, IsFateOf, IsOnCard, IsBrought, breaks_by, tear_of}
use Rattle.run_minutes.specs.Later.{failed_tears, IsCalm, AreCalm}
use Rattle.log_model.specs.Log.{RunLog}

-- the tears of lines, and of more lines
pub tears-behind : (xs ys : List Break) → failed_tears (xs ++ ys) ≡ failed_tears xs + failed_tears ys
tears-behind xs ys =
    ap (λ (bs : List Break). length bs) (filter-append (λ (b : Break). not (is_cut b) && has_failed b) xs ys)
    ∙ length-append (filter (λ (b : Break). not (is_cut b) && has_failed b) xs) (filter (λ (b : Break). not (is_cut b) && has_failed b) ys)

-- lines more, without such a tear
pub none-told : (before after more : List Break) → after ≡ before ++ more → failed_tears more ≡ 0 → failed_tears after ≡ failed_tears before
none-told before after more is none = let both = ap failed_tears is ∙ tears-behind before more in omega (arith, both, none)

-- what was found after the cuts
found-all : (k : ℕ) (breaks : List Break) → failed_tears (map (with_kept k) breaks) ≡ failed_tears breaks
found-all k [] = refl
found-all k (Cut s old failed n ∷ breaks) = found-all k breaks
found-all k (Tear s slot true n late ∷ breaks) = ap (λ (m : ℕ). suc m) (found-all k breaks)
found-all k (Tear s slot false n late ∷ breaks) = found-all k breaks

pub found-tears : (i k : ℕ) (breaks : List Break) → failed_tears (found_from i k breaks) ≡ failed_tears breaks
found-tears zero k breaks = found-all k breaks
found-tears (suc i) k [] = refl
found-tears (suc i) k (Cut s old failed n ∷ breaks) = found-tears i k breaks
found-tears (suc i) k (Tear s slot true n late ∷ breaks) = ap (λ (m : ℕ). suc m) (found-tears i k breaks)
found-tears (suc i) k (Tear s slot false n late ∷ breaks) = found-tears i k breaks

-- ---- one card

pub card-rests : {before after : List Break} {old new : State} → failed_tears after ≡ failed_tears before → new.breakdowns ≡ old.breakdowns → IsCalm before after old new
card-rests same calm = record { few = omega (arith, same); calm = λ none. calm; grows = omega (arith, calm); most = λ low. omega (arith, same, calm) }

-- lines more, without such a tear
pub card-told : {before after : List Break} {old new : State} (more : List Break) → after ≡ before ++ more → failed_tears more ≡ 0 → new.breakdowns ≡ old.breakdowns → IsCalm before after old new
card-told {before} {after} more is none calm = card-rests (none-told before after more is none) calm

-- no call on it
pub card-beside : {before after : List Break} (s : State) → failed_tears before ≤ failed_tears after → IsCalm before after s s
card-beside s few = record { few = few; calm = λ none. refl; grows = omega arith; most = λ low. omega (arith, few) }

-- it was torn out
pub card-fell : {before after : List Break} (slot : Slot) (at : Moment) {old new : State} → after ≡ before ++ tear_of slot at ∷ [] → old.breakdowns ≤ new.breakdowns → (new.breakdowns < last_count → new.breakdowns ≤ old.breakdowns + 1)
    → IsCalm before after old new
card-fell {before} {after} slot at is grows once =
    let one : failed_tears (tear_of slot at ∷ []) ≡ 1 = refl in
    let more = ap failed_tears is ∙ tears-behind before (tear_of slot at ∷ []) in
    record { few = omega (arith, more, one); calm = λ none. absurd (omega (arith, more, one, none)); grows = grows; most = λ low. let few = once low in omega (arith, more, one, few) }

-- calls in which it did not break down, and some more
pub card-first : {before after : List Break} (old mid new : State) → mid.breakdowns ≡ old.breakdowns → IsCalm before after mid new → IsCalm before after old new
card-first old mid new rests next = record {
  few = next.few;
  calm = λ none. next.calm none ∙ rests;
  grows = let more = next.grows in omega (arith, rests, more);
  most = λ low. let few = next.most low in omega (arith, rests, few);
}

-- calls, and some more
pub card-then : {before mids after : List Break} {old mid new : State} → IsCalm before mids old mid → IsCalm mids after mid new → IsCalm before after old new
card-then first next = record {
  few = let a = first.few in let b = next.few in omega (arith, a, b);
  calm = λ none. let a = first.few in let b = next.few in next.calm (omega (arith, none, a, b)) ∙ first.calm (omega (arith, none, a, b));
  grows = let a = first.grows in let b = next.grows in omega (arith, a, b);
  most =
      λ low.
      let up = next.grows in
      let a = first.most (omega (arith, low, up)) in
      let b = next.most low in
      omega (arith, a, b);
}

-- a call that failed, or did not
pub card-by : {before after : List Break} (fell : Bool) (slot : Slot) (at : Moment) (more : Bool → List Break) {old new : State} → more false ≡ [] → more true ≡ tear_of slot at ∷ [] → after ≡ before ++ more fell → HasCause old new fell → IsCalm before after old new
card-by {before} true slot at more none one is cause = card-fell slot at (is ∙ ap (λ (bs : List Break). before ++ bs) one) cause.breakdowns cause.once
card-by false slot at more none one is cause = card-told (more false) is (ap failed_tears none) (cause.unbroken refl)

-- a card that keeps an entry, or is torn out
fate-calm : (session : Option Accepted) (kept : Kept) (fate : Fate) (slot : Slot) (at : Moment) {before after : List Break} (X Y : State) → IsFateOf session kept fate → IsOnCard fate X Y → after ≡ before ++ breaks_by fate slot at → (session ≡ None → Y.breakdowns ≡ X.breakdowns) → IsCalm before after X Y
fate-calm None kept Still slot at X Y is on told bare = card-told [] told refl (bare refl)
fate-calm None kept (Has accepted clock) slot at X Y is on told bare = absurd is
fate-calm None kept Fell slot at X Y is on told bare = absurd is
fate-calm (Some before) kept Still slot at X Y is on told bare = absurd is
fate-calm (Some before) kept (Has accepted clock) slot at X Y is on told bare = card-told [] told refl (on.1.unbroken refl)
fate-calm (Some before) kept Fell slot at X Y is on told bare = card-fell slot at told on.breakdowns on.once

pub brought-calm : (card : Card) (kept : Kept) (at : Moment) (failed : Bool) (k v : Keeper) (marks marks_after : Listed Mark) (breaks breaks_after : Listed Break) (fate : Fate) (U V X Y : State)
    → IsBrought (Some card) kept at failed k v marks marks_after breaks breaks_after fate U V X Y → (session_of k.cabin.cards card ≡ None → Y.breakdowns ≡ X.breakdowns) → IsCalm breaks.items breaks_after.items X Y
brought-calm card kept at failed k v marks marks_after breaks breaks_after fate U V X Y b bare =
    fate-calm (session_of k.cabin.cards card) kept fate kept.entry.slot at X Y b.is b.on_card (ap (λ (l : Listed Break). l.items) b.told) bare

-- ---- both

pub calm-same : {breaks : List Break} (d : Devices) → AreCalm breaks breaks d d
calm-same d = record { card_a = card-beside d.card_a (omega arith); card_b = card-beside d.card_b (omega arith); most = λ a b. omega arith }

-- as many such tears, and neither broke down
pub calm-rests : {before after : List Break} (d e : Devices) → failed_tears after ≡ failed_tears before → e.card_a.breakdowns ≡ d.card_a.breakdowns → e.card_b.breakdowns ≡ d.card_b.breakdowns → AreCalm before after d e
calm-rests d e same a b = record { card_a = card-rests same a; card_b = card-rests same b; most = λ low_a low_b. omega (arith, same, a, b) }

-- as many such tears, and no call on a card
pub calm-none : {before after : List Break} (d : Devices) → failed_tears after ≡ failed_tears before → AreCalm before after d d
calm-none d same = calm-rests d d same refl refl

-- lines more without such a tear, and no call on a card
pub calm-told : {before after : List Break} (d : Devices) (more : List Break) → after ≡ before ++ more → failed_tears more ≡ 0 → AreCalm before after d d
calm-told {before} {after} d more is none = calm-none d (none-told before after more is none)

pub calm-then : (d e f : Devices) {before mids after : List Break} → AreCalm before mids d e → AreCalm mids after e f → AreCalm before after d f
calm-then d e f first next = record {
  card_a = card-then first.card_a next.card_a;
  card_b = card-then first.card_b next.card_b;
  most =
      λ low_a low_b.
      let up_a = next.card_a.grows in
      let up_b = next.card_b.grows in
      let a = first.most (omega (arith, low_a, up_a)) (omega (arith, low_b, up_b)) in
      let b = next.most low_a low_b in
      omega (arith, a, b);
}

-- lines more without such a tear behind these calls
pub calm-more : (d e : Devices) {before mids after : List Break} (more : List Break) → AreCalm before mids d e → after ≡ mids ++ more → failed_tears more ≡ 0 → AreCalm before after d e
calm-more d e more first is none = calm-then d e e first (calm-told e more is none)

-- calls on the unit alone
pub calm-of-unit : {breaks : List Break} (u v a b : State) → AreCalm breaks breaks (devices u a b) (devices v a b)
calm-of-unit u v a b = record { card_a = card-beside a (omega arith); card_b = card-beside b (omega arith); most = λ low_a low_b. omega arith }

-- on the unit and one card
pub calm-of-a : (u v a x b : State) {before after : List Break} → IsCalm before after a x → AreCalm before after (devices u a b) (devices v x b)
calm-of-a u v a x b card = record { card_a = card; card_b = card-beside b card.few; most = λ low_a low_b. let few = card.most low_a in omega (arith, few) }

pub calm-of-b : (u v a b y : State) {before after : List Break} → IsCalm before after b y → AreCalm before after (devices u a b) (devices v a y)
calm-of-b u v a b y card = record { card_a = card-beside a card.few; card_b = card; most = λ low_a low_b. let few = card.most low_b in omega (arith, few) }

-- a whole run
pub still-all : (log : RunLog) {before : List Break} {d e : Devices} → before ≡ [] → AreCalm before log.breaks d e → tears true log ≡ [] → (e.card_a.breakdowns ≡ d.card_a.breakdowns) × (e.card_b.breakdowns ≡ d.card_b.breakdowns)
still-all log none h untorn =
    let start = ap failed_tears none in
    let few : failed_tears log.breaks ≡ 0 = ap (λ (bs : List Break). length bs) untorn in
    (h.card_a.calm (few ∙ sym start), h.card_b.calm (few ∙ sym start))

-- nor has a card broken down more often than failed calls have torn one out, of both cards together
pub most-still : (log : RunLog) {before : List Break} (d e : Devices) → before ≡ [] → AreCalm before log.breaks d e → e.card_a.breakdowns < last_count → e.card_b.breakdowns < last_count
    → e.card_a.breakdowns + e.card_b.breakdowns ≤ (d.card_a.breakdowns + d.card_b.breakdowns) + length (tears true log)
most-still log d e none h low_a low_b =
    let zero_tears : failed_tears [] ≡ 0 = refl in
    let start = ap failed_tears none ∙ zero_tears in
    let all : failed_tears log.breaks ≡ length (tears true log) = refl in
    let few = h.most low_a low_b in
    omega (arith, start, all, few)
