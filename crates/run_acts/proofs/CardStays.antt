-- Calls that leave the events of cards: minutes are kept, a place is noted, a session is closed.
use Rattle.std.proofs.Common.{◌≡◌, ◌∙◌, ⊎_elim, ℕ, ◌≤◌, Bool, true, false, not, ◌||◌, is_some, Option, Some, None, IfSome, List, [], refl, sym, ap, subst, arith}
use Rattle.activity_codec.specs.declared.values.Activity.{Activity}
use Rattle.trace_model.specs.declared.Card.{Card}
use Rattle.trace_model.specs.Trace.{TraceSecond}
use Rattle.tach_media.specs.Medium.{State, IsCoherent, LeavesOnly}
use Rattle.tach_media.proofs.Runs.{at_image}
use Rattle.card_files.specs.card_layout.declared.files.Application.{Application}
use Rattle.card_files.specs.card_layout.declared.files.TheConstants.{LARGEST_IMAGE}
use Rattle.card_files.specs.card_layout.Application.{IsApplication}
use Rattle.card_files.proofs.card_layout.Sizes.{largest_image}
use Rattle.hand_model.specs.card_image.Own.{own_sizes, IsOwnValid}
use Rattle.device_calls.specs.card_session.Sessions.{IsSession}
use Rattle.device_calls.specs.card_session.Cards.{IsCardClosing}
use Rattle.device_calls.proofs.card_session.InsertingUse.{use_inside}
use Rattle.unit_model.specs.minute_model.declared.Minute.{Minute}
use Rattle.log_model.specs.Log.{Phase}
use Rattle.log_model.specs.Course.{Visit}
use Rattle.device_calls.specs.device_rule.Views.{other}
use Rattle.device_calls.specs.safety_model.Recording.{card_image}
use Rattle.device_calls.specs.safety_model.Safe.{Devices, card_of}
use Rattle.run_crew.specs.declared.cards.Accepted.{Accepted}
use Rattle.run_crew.specs.declared.cards.Cards.{Cards}
use Rattle.run_crew.specs.Cards.{session_of}
use Rattle.run_minutes.specs.run_promise.Found.{found_of}
use Rattle.run_minutes.specs.run_promise.Between.{RunLedger}
use Rattle.run_minutes.specs.run_devices.Measured.{Reading}
use Rattle.run_minutes.specs.run_devices.Told.{AreFoundCards, DevicesPowered, SessionIsOnCard, GoesWith, arranged}
use Rattle.run_minutes.proofs.run_devices.Parts.{CardLit, parts-of}
use Rattle.run_outcome.specs.declared.outcome.Outcome.{Outcome}
use Rattle.run_minutes.specs.run_promise.Origin.{Origin}
use Rattle.run_minutes.specs.CardEvents.{LeavesEvents}
use Rattle.run_minutes.specs.Books.{AreTimedOn}
use Rattle.run_insertion.specs.CardEvents.{events_in, ShowsMore}
use Rattle.run_insertion.proofs.CardTables.{same-file}
use Rattle.run_insertion.proofs.CardInserted.{closing-shown}
use Rattle.run_acts.specs.declared.run.Run.{Run}
use Rattle.run_acts.specs.CardNotes.{NotesOn, NotesOnCards}
use Rattle.run_acts.specs.Recording.{IsOrigin, RunWithin}
use Rattle.run_acts.specs.OnCards.{StillShows}
use Rattle.run_acts.specs.RunCards.{sizes_in, StillShow}
use Rattle.run_acts.proofs.OnCards.{still-same, still-then}
use Rattle.run_acts.proofs.EnteredFacts.{each}

pub file-still : (app : Application) (X Y : State) → LeavesEvents app X Y → StillShows app X Y
file-still app X Y leaves y left =
    let was = leaves y left in
    (was.0, was.1, λ kind. same-file app was.0 y was.2 kind)

-- the image that a card had as it was found is that of the start
pub valid-found : (o : Origin) → IsOrigin o → (c : Card) → IsOwnValid (card_image o.recording c) → IsOwnValid (found_of o.found c).image
valid-found o origin c valid = subst IsOwnValid (sym (origin.image c)) valid

-- one after another
pub shows-then : (o : Origin) (d e f : Devices) → StillShow o d e → StillShow o e f → StillShow o d f
shows-then o d e f first next c valid = still-then (sizes_in o c) (card_of d c) (card_of e c) (card_of f c) (first c valid) (next c valid)

pub shows-self : (o : Origin) (d : Devices) → StillShow o d d
shows-self o d c valid = still-same (sizes_in o c) (card_of d c)

-- MINUTES ARE KEPT
pub timed-still : (o : Origin) → IsOrigin o → (values : List Reading) (d e : Devices) → AreTimedOn o.found values d e → StillShow o d e
timed-still o origin values d e h c valid =
    file-still (sizes_in o c) (card_of d c) (card_of e c) (subst (λ (x : List ℕ). LeavesEvents (own_sizes x) (card_of d c) (card_of e c)) (origin.image c) (h c (valid-found o origin c valid)).1)

pub none-shown : (app : Application) (cut : Bool) (x y : List ℕ) → ShowsMore app [] cut x y → (kind : ℕ) → events_in app kind y ≡ events_in app kind x
none-shown app false x y shows kind = shows kind
none-shown app true x y shows kind = shows kind

-- the sizes of an accepted card are those of its image at the start
pub session-sizes : (o : Origin) (done : List TraceSecond) (s : TraceSecond) (at : Phase) (waits : List Visit) (rest : List Minute) (run : Run) (out : Outcome) (d : Devices) → RunWithin o done s at waits rest run out d → (c : Card) → IsOwnValid (card_image o.recording c) → (a : Accepted) →
    session_of run.keeper.cabin.cards c ≡ Some a → a.session.application ≡ sizes_in o c
session-sizes o done s at waits rest run out d w c valid a has =
    let one = w.within.powered.go.goes c (valid-found o w.origin c valid) in
    let on : SessionIsOnCard (found_of o.found c) (w.within.hands c) one.has (w.within.standing c) a.session (card_of d c) = (subst (λ (q : Option Accepted). GoesWith (found_of o.found c) (w.within.hands c) one.has (w.within.standing c) q (card_of d c)) has one.goes).0 in
    on.sizes ∙ ap own_sizes (w.origin.image c)

-- A PLACE IS NOTED
pub place-still : (o : Origin) (done : List TraceSecond) (s : TraceSecond) (at : Phase) (waits : List Visit) (rest : List Minute) (run : Run) (out : Outcome) (d e : Devices) → RunWithin o done s at waits rest run out d → (after : Cards) →
    NotesOnCards false run.keeper.cabin.cards after (λ card. []) d e → StillShow o d e
place-still o done s at waits rest run out d e w after notes c valid = by (session_of run.keeper.cabin.cards c) refl (notes c)
  where
    by : (q : Option Accepted) → session_of run.keeper.cabin.cards c ≡ q → NotesOn false q (session_of after c) [] (card_of d c) (card_of e c) → StillShows (sizes_in o c) (card_of d c) (card_of e c)
    by None is n = λ y left. (y, n y left, λ kind. refl)
    by (Some a) is n = λ y left.
        let was = n y left in
        (was.0, was.1, λ kind. subst (λ (app : Application). events_in app kind y ≡ events_in app kind was.0) (session-sizes o done s at waits rest run out d w c valid a is) (none-shown a.session.application (false || not (is_some (session_of after c))) was.0 y was.2 kind))

-- A SESSION IS CLOSED, or was about to be
closes-still : (o : Origin) (w : RunLedger) (cards : Cards) (c : Card) (U X Z : State) (Y : State) → IsOrigin o → AreFoundCards o.found cards → IsCoherent X → LARGEST_IMAGE ≤ X.size → (a : Accepted) (act : Activity) → session_of cards c ≡ Some a → DevicesPowered o.found w cards (arranged c U X Z) →
    LeavesOnly X Y (λ i n. IsSession a.session i → IsCardClosing a.session act i n) → IsOwnValid (card_image o.recording c) → StillShows (sizes_in o c) X Y
closes-still o w cards c U X Z Y origin found whole size a act has p run valid y left =
    let there : IsOwnValid (found_of o.found c).image = valid-found o origin c valid in
    let one : CardLit o.found w.book (w.standing c) (w.hands c) (w.firsts c) (w.brought c) (Some a) c U X = subst (λ (q : Option Accepted). CardLit o.found w.book (w.standing c) (w.hands c) (w.firsts c) (w.brought c) q c U X) has ((parts-of o.found w cards c U X Z p).mine there) in
    let on : SessionIsOnCard (found_of o.found c) (w.hands c) one.goes.has (w.standing c) a.session X = one.goes.goes.0 in
    let sizes : a.session.application ≡ own_sizes (card_image o.recording c) = on.sizes ∙ ap own_sizes (origin.image c) in
    let fits = largest_image a.session.application (subst IsApplication (sym on.sizes) (found.sizes c there)) in
    ⊎_elim
    (λ before. (y, before, λ kind. refl))
    (λ (x, is, closes).
    let long = whole.sized x is in (
      x,
      whole.is_left x is,
      λ kind. subst (λ (app : Application). events_in app kind y ≡ events_in app kind x) sizes
          (closing-shown a.session act x y (omega (arith, fits, size, long, use_inside a.session.application)) (closes (at_image (IsSession a.session) is on.session)) kind),
    ))
    (run.now y left)

pub closing-still : {C : Type 0} (state : C → State) (o : Origin) (done : List TraceSecond) (s : TraceSecond) (at : Phase) (waits : List Visit) (rest : List Minute) (run : Run) (out : Outcome) (c : Card) (U V Z : State) (x y : C) → RunWithin o done s at waits rest run out (arranged c U (state x) Z) →
    IsCoherent (state x) → LARGEST_IMAGE ≤ (state x).size → IfSome (session_of run.keeper.cabin.cards c) (λ s. (act : Activity) × LeavesOnly (state x) (state y) (λ i n. IsSession s.session i → IsCardClosing s.session act i n)) →
    (session_of run.keeper.cabin.cards c ≡ None → y ≡ x) → StillShow o (arranged c U (state x) Z) (arranged c V (state y) Z)
closing-still {C = C} state o done s at waits rest run out c U V Z x y w whole size left still q0 valid =
    each c U V (state x) (state y) Z (λ (q : Card) (a b : State). IsOwnValid (card_image o.recording q) → StillShows (sizes_in o q) a b)
    (λ v. by v (session_of run.keeper.cabin.cards c) refl left) (λ v. still-same (sizes_in o (other c)) Z) q0 valid
  where
    by : IsOwnValid (card_image o.recording c) → (q : Option Accepted) → session_of run.keeper.cabin.cards c ≡ q → IfSome q (λ s. (act : Activity) × LeavesOnly (state x) (state y) (λ i n. IsSession s.session i → IsCardClosing s.session act i n)) → StillShows (sizes_in o c) (state x) (state y)
    by v None is h = subst (λ (z : C). StillShows (sizes_in o c) (state x) (state z)) (sym (still is)) (still-same (sizes_in o c) (state x))
    by v (Some a) is h = closes-still o _ run.keeper.cabin.cards c U (state x) Z (state y) w.origin w.within.found whole size a h.0 is w.within.powered h.1 v
