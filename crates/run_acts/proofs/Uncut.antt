-- No line of what is kept, withdrawn or noted is a cut.
use Rattle.std.proofs.Common.{◌≡◌, ◌∙◌, ⊎_elim, ℕ, Bool, true, false, List, [], ◌∷◌, ◌++◌, Option, Some, None, refl, ap, arith}
use Rattle.activity_codec.specs.declared.values.Slot.{Slot}
use Rattle.activity_codec.specs.declared.values.Slot.TheVariants.{Driver, CoDriver}
use Rattle.trace_model.specs.declared.Card.{Card}
use Rattle.unit_notes.specs.event_model.declared.entries.Span.{Span}
use Rattle.unit_model.specs.minute_model.declared.Minute.{Minute}
use Rattle.log_model.specs.declared.lines.Break.{Break}
use Rattle.run_crew.specs.card_slots.Calls.{seat_in, card_in}
use Rattle.tach_media.specs.Medium.{State, HasCause}
use Rattle.run_outcome.specs.Lines.{Listed, cut_at}
use Rattle.run_outcome.specs.Broken.{failed_cuts, BreaksDown}
use Rattle.run_outcome.proofs.Broken.{cuts-behind, broke-same, broke-once, broke-then}
use Rattle.run_outcome.specs.declared.outcome.Outcome.{Outcome}
use Rattle.run_minutes.specs.declared.keeper.Moment.{Moment}
use Rattle.run_minutes.specs.Keeping.{Fate, Still, Has, Fell as FellThen, breaks_by}
use Rattle.run_minutes.specs.Minutes.{Round, KeepingState, breaks_after, AreKept, none, more, AreKeptUpTo}
use Rattle.run_acts.specs.declared.run.Run.{Run}
use Rattle.run_acts.specs.Acting.{told_of as told_in, IsSettled, Closing, Bare, Closed, Fell, closed_breaks, IsWithdrawn, pulled_breaks, noted_breaks, IsNotedOn, IsPlaced, IsNotedIn}
use Rattle.run_acts.specs.Noting.{GapReach, NoGap, UnitFailed, DriverFell, BothSlots, AreNotedIn, IsGapNoted}
use Rattle.run_acts.specs.Turning.{IsKeptInTurn}

-- lines more of which none is a cut
pub more-uncut : (xs ys : List Break) → failed_cuts ys ≡ 0 → failed_cuts (xs ++ ys) ≡ failed_cuts xs
more-uncut xs ys zero_cuts = let all = cuts-behind xs ys in omega (arith, all, zero_cuts)

-- so no breakdown is told, where no call has failed
pub uncut-broke : (before after : List Break) (old new : State) (failed : Bool) → HasCause old new failed → failed ≡ false → failed_cuts after ≡ failed_cuts before → BreaksDown before after old new
uncut-broke before after old new failed cause well same = broke-same {before = before} {after = after} {old = old} {new = new} same (cause.unbroken well)

-- or a failed call broke the unit down, and is told as a cut behind them
pub cut-broke : (before between after : List Break) (second begun : ℕ) (old new : State) (failed : Bool) → old.works ≡ true → HasCause old new failed → failed ≡ true → failed_cuts between ≡ failed_cuts before
    → after ≡ between ++ cut_at second true begun ∷ [] → BreaksDown before after old new
cut-broke before between after second begun old new failed works cause failing same is =
    broke-then (broke-same {before = before} {after = between} {old = old} {new = old} same refl)
    (broke-once {before = between} {after = after} second begun {old = old} {new = new} is (cause.breaks works failing) cause.once)

-- ---- minutes that are kept

fate-uncut : (fate : Fate) (slot : Slot) (at : Moment) → failed_cuts (breaks_by fate slot at) ≡ 0
fate-uncut Still slot at = refl
fate-uncut (Has accepted clock) slot at = refl
fate-uncut FellThen slot at = refl

round-uncut : (at : Moment) (round : Round) (breaks : Listed Break) → failed_cuts (breaks_after at round breaks).items ≡ failed_cuts breaks.items
round-uncut at round breaks =
    more-uncut (breaks.items ++ breaks_by round.driver Driver at) (breaks_by round.codriver CoDriver at) (fate-uncut round.codriver CoDriver at)
    ∙ more-uncut breaks.items (breaks_by round.driver Driver at) (fate-uncut round.driver Driver at)

kept-uncut : (at : Moment) (ms : List Minute) (t u : KeepingState) → AreKept at ms t u → failed_cuts u.breaks.items ≡ failed_cuts t.breaks.items
kept-uncut at ms t u (none v) = refl
kept-uncut at ms t u (more m front round v mid kept is) = round-uncut at round mid.breaks ∙ kept-uncut at front v mid kept

pub kept-to-uncut : (decided : List Minute) (at : Moment) (failed : Bool) (t u : KeepingState) → AreKeptUpTo decided at failed t u → failed_cuts u.breaks.items ≡ failed_cuts t.breaks.items
kept-to-uncut decided at false t u kept = kept-uncut at decided t u kept
kept-to-uncut decided at true t u kept =
    ⊎_elim (λ same. ap (λ (v : KeepingState). failed_cuts v.breaks.items) same)
    (λ round. ap (λ (v : KeepingState). failed_cuts v.breaks.items) round.2 ∙ round-uncut at round.0 kept.between.breaks) kept.last
    ∙ kept-uncut at kept.front t kept.between kept.kept

pub turn-uncut : (decided : List Minute) (n speed : ℕ) (at : Moment) (failed : Bool) (old new : Run) (before after : Outcome) → IsKeptInTurn decided n speed at failed old new before after → failed_cuts after.breaks.items ≡ failed_cuts before.breaks.items
turn-uncut decided n speed at failed old new before after is =
    ⊎_elim (λ short. kept-to-uncut decided at true _ _ short.1) (λ whole. kept-to-uncut decided at false _ _ whole.0) is.how

pub settled-uncut : (at : Moment) (failed : Bool) (old new : Run) (before after : Outcome) → IsSettled at failed old new before after → failed_cuts after.breaks.items ≡ failed_cuts before.breaks.items
settled-uncut at failed old new before after is = kept-to-uncut is.decided at failed (told_in old before) (told_in new after) is.kept

-- ---- a card that is withdrawn

closing-uncut : (closing : Closing) (slot : Slot) (at : Moment) → failed_cuts (closed_breaks closing slot at) ≡ 0
closing-uncut Bare slot at = refl
closing-uncut Closed slot at = refl
closing-uncut Fell slot at = refl

pub withdrawn-uncut : (card : Option Card) (slot : Slot) (at : Moment) (failed : Bool) (old new : Run) (before after : Outcome) → IsWithdrawn card slot at failed old new before after
    → failed_cuts after.breaks.items ≡ failed_cuts before.breaks.items
withdrawn-uncut None slot at failed old new before after is = ap (λ (o : Outcome). failed_cuts o.breaks.items) is.1
withdrawn-uncut (Some card) slot at failed old new before after is =
    ⊎_elim (λ short. settled-uncut at true _ new before after short.1)
    (λ behind.
    ap (λ (l : Listed Break). failed_cuts l.items) behind.closed.told
    ∙ more-uncut behind.told.breaks.items (closed_breaks behind.closing slot at) (closing-uncut behind.closing slot at)
    ∙ settled-uncut at false _ behind.between before behind.told behind.settled_first) is

-- ---- a card that is pulled out

pub pulled-uncut : (card : Option Card) (slot : Slot) (at : Moment) → failed_cuts (pulled_breaks card slot at) ≡ 0
pulled-uncut None slot at = refl
pulled-uncut (Some card) slot at = refl

-- ---- what is noted

noted-uncut : (fell : Bool) (slot : Slot) (at : Moment) → failed_cuts (noted_breaks fell slot at) ≡ 0
noted-uncut false slot at = refl
noted-uncut true slot at = refl

on-uncut : (card : Card) (slot : Slot) (at : Moment) (old new : Run) (breaks after : Listed Break) (fell : Bool) → IsNotedOn card slot at old new breaks after fell → failed_cuts after.items ≡ failed_cuts breaks.items
on-uncut card slot at old new breaks after fell is = ap (λ (l : Listed Break). failed_cuts l.items) is.told ∙ more-uncut breaks.items (noted_breaks fell slot at) (noted-uncut fell slot at)

pub placed-uncut : (card : Option Card) (slot : Slot) (at : Moment) (old new : Run) (breaks after : Listed Break) (fell : Bool) → IsPlaced card slot at old new breaks after fell → failed_cuts after.items ≡ failed_cuts breaks.items
placed-uncut None slot at old new breaks after fell is = ap (λ (l : Listed Break). failed_cuts l.items) is.1
placed-uncut (Some card) slot at old new breaks after fell is = on-uncut card slot at old new breaks after fell is

in-uncut : (card : Option Card) (slot : Slot) (at : Moment) (old new : Run) (breaks after : Listed Break) (fell : Bool) → IsNotedIn card slot at old new breaks after fell → failed_cuts after.items ≡ failed_cuts breaks.items
in-uncut None slot at old new breaks after fell is = ap (λ (l : Listed Break). failed_cuts l.items) is.1
in-uncut (Some card) slot at old new breaks after fell is = on-uncut card slot at old new breaks after fell is.0

both-uncut : (at : Moment) (old new : Run) (breaks after : Listed Break) (driver codriver : Bool) → AreNotedIn at old new breaks after driver codriver → failed_cuts after.items ≡ failed_cuts breaks.items
both-uncut at old new breaks after driver codriver are =
    in-uncut (card_in (seat_in are.between.keeper.cabin.slots.seats CoDriver)) CoDriver at are.between new are.told after codriver are.second
    ∙ in-uncut (card_in (seat_in old.keeper.cabin.slots.seats Driver)) Driver at old are.between breaks are.told driver are.first

pub gap-uncut : (gap : Option Span) (at : Moment) (failed : Bool) (old new : Run) (breaks after : Listed Break) (reach : GapReach) → IsGapNoted gap at failed old new breaks after reach → failed_cuts after.items ≡ failed_cuts breaks.items
gap-uncut None at failed old new breaks after NoGap is = ap (λ (l : Listed Break). failed_cuts l.items) is.2
gap-uncut None at failed old new breaks after UnitFailed is = absurd is
gap-uncut None at failed old new breaks after DriverFell is = absurd is
gap-uncut None at failed old new breaks after (BothSlots driver codriver) is = absurd is
gap-uncut (Some span) at failed old new breaks after NoGap is = absurd is
gap-uncut (Some span) at failed old new breaks after UnitFailed is = ap (λ (l : Listed Break). failed_cuts l.items) is.2
gap-uncut (Some span) at failed old new breaks after DriverFell is = in-uncut (card_in (seat_in old.keeper.cabin.slots.seats Driver)) Driver at old new breaks after true is.1
gap-uncut (Some span) at failed old new breaks after (BothSlots driver codriver) is = both-uncut at old new breaks after driver codriver is.0
