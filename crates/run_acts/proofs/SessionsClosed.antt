-- A card that is withdrawn tells of no session, where it was closed.
use Rattle.std.proofs.Common.{◌≡◌, ℕ, ◌≤◌, true, false, not, Option, Some, None, List, refl, ap, subst, arith}
use Rattle.activity_codec.specs.declared.values.Activity.{Activity}
use Rattle.trace_model.specs.declared.Card.{Card}
use Rattle.trace_model.specs.declared.Card.TheVariants.{A, B}
use Rattle.trace_model.specs.Trace.{TraceSecond}
use Rattle.tach_media.specs.Medium.{State, IsCoherent}
use Rattle.card_files.specs.card_layout.declared.files.TheConstants.{LARGEST_IMAGE}
use Rattle.hand_model.specs.card_image.Fields.{session_time}
use Rattle.hand_model.specs.card_image.Own.{IsOwnValid}
use Rattle.unit_model.specs.minute_model.declared.Minute.{Minute}
use Rattle.log_model.specs.declared.lines.Break.{Break}
use Rattle.log_model.specs.Log.{RunLog, Phase}
use Rattle.log_model.specs.Slots.{same_card}
use Rattle.log_model.specs.Course.{Visit}
use Rattle.activity_codec.specs.declared.values.Slot.{Slot}
use Rattle.device_calls.specs.device_rule.Views.{other}
use Rattle.device_calls.specs.safety_model.Recording.{card_image}
use Rattle.run_crew.specs.declared.cards.Accepted.{Accepted}
use Rattle.run_crew.specs.Cards.{session_of}
use Rattle.run_minutes.specs.run_devices.Told.{arranged}
use Rattle.run_outcome.specs.Lines.{Listed}
use Rattle.run_outcome.specs.declared.outcome.Outcome.{Outcome}
use Rattle.run_minutes.specs.run_promise.Origin.{Origin}
use Rattle.unit_notes.specs.note_model.Done.{has_failed_in}
use Rattle.run_note_record.specs.Sessions.{Shuts}
use Rattle.run_minutes.specs.declared.keeper.Moment.{Moment}
use Rattle.run_acts.specs.declared.run.Run.{Run}
use Rattle.run_acts.specs.Acting.{Closing, Bare, Closed, Fell, IsClosingOf, IsClosed, closed_falls}
use Rattle.run_acts.specs.CardWrites.{ClosesCard}
use Rattle.run_acts.specs.Recording.{RunWithin}
use Rattle.run_acts.specs.RunCards.{sizes_in}
use Rattle.run_acts.proofs.ActsNoted.{same-closing}
use Rattle.run_acts.proofs.OnCards.{and-first}
use Rattle.run_acts.proofs.CardPlaces.{closed-none}
use Rattle.run_acts.proofs.EnteredFacts.{each}

-- it is closed whichever way that is told
pub closes-alike : (card : Card) (slot : Slot) (at : Moment) (old new : Run) (breaks after : Listed Break) (x y : Closing) → IsClosed card slot at old new breaks after x → IsClosed card slot at old new breaks after y → x ≡ Closed → y ≡ Closed
closes-alike card slot at old new breaks after x Closed h k is = refl
closes-alike card slot at old new breaks after x Bare h k is = absurd (by (session_of old.keeper.cabin.cards card) (subst (λ (z : Closing). IsClosingOf (session_of old.keeper.cabin.cards card) z) is h.is) k.is)
  where
    by : (q : Option Accepted) → IsClosingOf q Closed → IsClosingOf q Bare → ⊥
    by None closed bare = closed
    by (Some a) closed bare = bare
closes-alike card slot at old new breaks after x Fell h k is =
    absurd (let same : closed_falls x ≡ 1 = same-closing card slot at old new breaks after x Fell h k in let none : closed_falls x ≡ 0 = ap closed_falls is in omega (arith, same, none))

other-apart : (x : Card) → same_card x (other x) ≡ true → ⊥
other-apart A is = let wrong : false ≡ true = is in cc
other-apart B is = let wrong : false ≡ true = is in cc

-- SO EACH OF ITS IMAGES tells of none, whatever log is told
pub closing-shuts : {C : Type 0} (state : C → State) (o : Origin) (done : List TraceSecond) (s : TraceSecond) (at : Phase) (waits : List Visit) (rest : List Minute) (run : Run) (out : Outcome) (c : Card) (U V Z : State) (x y : C) → RunWithin o done s at waits rest run out (arranged c U (state x) Z) →
    IsCoherent (state x) → LARGEST_IMAGE ≤ (state x).size → (act : Activity) → ClosesCard Closed (session_of run.keeper.cabin.cards c) act (state x) (state y) → (log : RunLog) (u : ℕ) → Shuts o log (record { second = u; card = c }) (arranged c V (state y) Z)
closing-shuts {C = C} state o done s at waits rest run out c U V Z x y w whole size act closes log u q valid shut =
    each c U V (state x) (state y) Z (λ (k : Card) (a b : State). same_card c k ≡ true → IsOwnValid (card_image o.recording k) → (z : List ℕ) → b.may_leave z → session_time (sizes_in o k) z ≡ 0)
    (λ own v. by v (session_of run.keeper.cabin.cards c) refl closes) (λ own. absurd (other-apart c own)) q (and-first (same_card c q) (not (has_failed_in log u)) shut) valid
  where
    by : IsOwnValid (card_image o.recording c) → (k : Option Accepted) → session_of run.keeper.cabin.cards c ≡ k → ClosesCard Closed k act (state x) (state y) → (z : List ℕ) → (state y).may_leave z → session_time (sizes_in o c) z ≡ 0
    by v None is h = absurd h
    by v (Some a) is h = closed-none o _ run.keeper.cabin.cards c U (state x) Z (state y) w.origin w.within.found whole size a act is w.within.powered h v
