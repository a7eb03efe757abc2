-- The rings over each action of a second.
use Rattle.std.proofs.Common.{◌≡◌, inl, inr, ℕ, suc, ◌+◌, Bool, true, cond, Option, Some, List, [], ◌∷◌, ◌++◌, map, length, refl, ap, sym, subst, ◌∙◌, arith, append_assoc, length-append}
use Rattle.std.proofs.lemmas.List.Elements.{Contains-append_right}
use Rattle.run_events.specs.activity_codec.declared.values.Slot.{Slot}
use Rattle.run_devices.specs.trace_model.declared.Action.{Action}
use Rattle.run_devices.specs.trace_model.declared.Action.TheVariants.{Insert, Withdraw, Place}
use Rattle.run_devices.specs.trace_model.declared.Card.{Card}
use Rattle.run_devices.specs.trace_model.Trace.{TraceSecond}
use Rattle.run_devices.specs.log_model.declared.lines.Verdict.{Verdict}
use Rattle.run_devices.specs.log_model.Log.{RunLog, In, cut_in, found_in, is_accepting}
use Rattle.run_devices.specs.log_model.Course.{ToldSecond, went}
use Rattle.run_devices.specs.note_model.Odometer.{SpanFrom}
use Rattle.run_devices.specs.note_model.Noted.{Acceptance, Withdrawal, PlaceNote, Note, Accepts, Withdraws, Enters}
use Rattle.run_devices.specs.safety_model.Safe.{Devices}
use Rattle.run_events.specs.run_rings.Notes.{NotesMore, accepts_by}
use Rattle.run_events.specs.run_rings.Spans.{with_second}
use Rattle.run_events.proofs.run_rings.Same.{rings-left}
use Rattle.run_events.proofs.run_rings.Actions.{places, withdrawals, insertions}
use Rattle.run_note_record.specs.Origin.{Origin}
use Rattle.run_note_record.specs.Moved.{goes_in, IsPutIn, moves_to, moves_in, moves_so_far}
use Rattle.run_note_record.specs.Ringed.{Seating, Ringed, since_at}
use Rattle.run_note_record.specs.RingsSoFar.{notes_so_far, RingedBehind, RingedIn}
use Rattle.run_note_record.specs.Steps.{GoesOnTo, IsCutIn, spans_cut, nobody, AnActionPasses, AnActionIsCut, APlaceIsEntered, APlaceIsCut, ACardIsWithdrawn, AWithdrawalIsCut, ACardIsAccepted, AnAcceptanceIsCut}
use Rattle.run_note_record.proofs.Moved.{moves-front, put-moves}
use Rattle.run_note_record.proofs.OnCards.{stay-itself}
use Rattle.run_note_record.proofs.Rings.{fewer-sit}
use Rattle.run_note_record.proofs.Around.{insertion-around, place-around, withdrawal-around, insertion-cut, place-cut, withdrawal-cut}
use Rattle.run_note_record.proofs.SoFar.{moved-on, left-itself, go-on-in, calls-in, notes-nothing, action-noted, cut-ends}

-- the lines alone, before any call
lines-in : (d : Devices) (o : Origin) (done : List TraceSecond) (s : TraceSecond) (began log later : RunLog) (front : List Action) (spans : List SpanFrom) (base : ℕ) (t : ToldSecond) (seats : Card → Option Seating) →
    RingedIn o done s began front log spans base t seats d → GoesOnTo log later s front → RingedIn o done s began front later spans base t seats d
lines-in d o done s began log later front spans base t seats v g = go-on-in d d o done s began front log later spans base t seats seats v g.lines g.same (rings-left d.unit) (left-itself o d) (stay-itself o (with_second spans base t) d) (λ c. inl refl)

-- and so are the moves of the next action
moved-in : (d : Devices) (o : Origin) (done : List TraceSecond) (s : TraceSecond) (began log : RunLog) (front : List Action) (a : Action) (spans : List SpanFrom) (base : ℕ) (t : ToldSecond) (seats : Card → Option Seating) →
    RingedIn o done s began front log spans base t seats d → Ringed (since_at o began done log s (front ++ a ∷ [])) log (with_second spans base t) (notes_so_far began done log s front) seats d
moved-in d o done s began log front a spans base t seats v = moved-on d o began log log done s front (front ++ a ∷ []) (moves-front log (went began done).before s front (a ∷ [])) log (with_second spans base t) (notes_so_far began done log s front) seats v.ringed

-- AN ACTION NOTES NOTHING
pub passes : (d e : Devices) → AnActionPasses d e
passes d e o done s began log later front a spans base t seats fewer v g none stays left cards few =
    let w = lines-in d o done s began log later front spans base t seats v g in
    calls-in d e o done s began later (front ++ a ∷ []) spans base t seats fewer (notes-nothing d o done s began front a later spans base t seats w none) stays left cards few

-- power is cut behind an action
module _ (d e : Devices) (o : Origin) (done : List TraceSecond) (s : TraceSecond) (began log cut : RunLog) (front : List Action) (a : Action) (rest : List Action) (spans : List SpanFrom) (base : ℕ) (t : ToldSecond) where
  behind-it : (seats : Card → Option Seating) → IsCutIn began log cut done s front a rest → RingedIn o done s began (front ++ a ∷ []) cut spans base t seats e → RingedBehind o (done ++ s ∷ []) cut (suc s.number) (spans_cut spans base cut done s) nobody e
  behind-it seats c v =
      let are : s.actions ≡ (front ++ a ∷ []) ++ rest = c.are ∙ sym (append_assoc front (a ∷ []) rest) in
      let longer : suc (length front) ≡ length (front ++ a ∷ []) = let n = length-append front (a ∷ []) in omega (arith, n) in
      let is : cut_in cut s.number ≡ Some (length (front ++ a ∷ [])) = c.cut_is ∙ ap (λ (n : ℕ). Some n) longer in
      cut-ends e o done s began cut (front ++ a ∷ []) rest spans base t seats nobody v c.behind c.power are is (λ c. inr refl)

pub action-cut : (d e : Devices) → AnActionIsCut d e
action-cut d e o done s began log cut front a rest spans base t seats v c none stays left cards =
    behind-it d e o done s began log cut front a rest spans base t seats c (passes d e o done s began log cut front a spans base t seats seats v c.goes none stays left cards (λ c. inl refl))

-- A PLACE
pub place-entered : (d e : Devices) → APlaceIsEntered d e
place-entered d e o done s began log later front spans base t seats fewer v g slot ending country region x sits accepted head writes long is left own wide on taken_ goes sessions few =
    let now : List SpanFrom = with_second spans base t in
    let w = lines-in d o done s began log later front spans base t seats v g in
    let notes : List Note = notes_so_far began done later s front in
    let p : PlaceNote = record { second = s.number; card = x.card; ending = ending; country = country; region = region } in
    let r : Ringed (since_at o began done later s (front ++ Place slot ending country region ∷ [])) later now (notes ++ Enters p ∷ []) seats e = place-around d e (since_at o began done later s (front ++ Place slot ending country region ∷ [])) later now notes seats (moved-in d o done s began later front (Place slot ending country region) spans base t seats w) left p head writes long is own wide on taken_ goes sessions in
    action-noted d e o done s began front (Place slot ending country region) later spans base t seats fewer (Enters p) w (places later (went began done).before s front g.begun slot ending country region x sits accepted)
    (fewer-sit e (since_at o began done later s (front ++ Place slot ending country region ∷ [])) later now (notes ++ Enters p ∷ []) seats fewer r few)

pub place-is-cut : (d e : Devices) → APlaceIsCut d e
place-is-cut d e o done s began log cut front rest spans base t seats v slot ending country region c x sits accepted head writes long is left own wide on taken_ goes sessions =
    let now : List SpanFrom = with_second spans base t in
    let w = lines-in d o done s began log cut front spans base t seats v c.goes in
    let notes : List Note = notes_so_far began done cut s front in
    let p : PlaceNote = record { second = s.number; card = x.card; ending = ending; country = country; region = region } in
    let r : Ringed (since_at o began done cut s (front ++ Place slot ending country region ∷ [])) cut now (notes ++ Enters p ∷ []) nobody e = place-cut d e (since_at o began done cut s (front ++ Place slot ending country region ∷ [])) cut now notes seats (moved-in d o done s began cut front (Place slot ending country region) spans base t seats w) left p head writes long is c.failed own wide on taken_ goes sessions in
    behind-it d e o done s began log cut front (Place slot ending country region) rest spans base t nobody c
    (action-noted d e o done s began front (Place slot ending country region) cut spans base t seats nobody (Enters p) w (places cut (went began done).before s front c.goes.begun slot ending country region x sits accepted) r)

-- A WITHDRAWAL
pub card-withdrawn : (d e : Devices) → ACardIsWithdrawn d e
card-withdrawn d e o done s began log later front spans base t seats now_ fewer v g slot x sits still torn accepted q seat below time odometer second kilometres low few_ writes each left cards shuts few =
    let now : List SpanFrom = with_second spans base t in
    let w = lines-in d o done s began log later front spans base t seats v g in
    let notes : List Note = notes_so_far began done later s front in
    let n : Withdrawal = record { second = s.number; card = x.card } in
    let r : Ringed (since_at o began done later s (front ++ Withdraw slot ∷ [])) later now (notes ++ Withdraws n ∷ []) now_ e = withdrawal-around d e (since_at o began done later s (front ++ Withdraw slot ∷ [])) later now notes seats now_ (moved-in d o done s began later front (Withdraw slot) spans base t seats w) left n cards q seat below time odometer second kilometres low few_ writes each shuts in
    action-noted d e o done s began front (Withdraw slot) later spans base t seats fewer (Withdraws n) w ((withdrawals later (went began done).before s front g.begun slot x sits still).2 torn accepted)
    (fewer-sit e (since_at o began done later s (front ++ Withdraw slot ∷ [])) later now (notes ++ Withdraws n ∷ []) now_ fewer r few)

pub withdrawal-is-cut : (d e : Devices) → AWithdrawalIsCut d e
withdrawal-is-cut d e o done s began log cut front rest spans base t seats v slot c x sits still torn accepted q seat below time odometer second kilometres low few_ writes left cards =
    let now : List SpanFrom = with_second spans base t in
    let w = lines-in d o done s began log cut front spans base t seats v c.goes in
    let notes : List Note = notes_so_far began done cut s front in
    let n : Withdrawal = record { second = s.number; card = x.card } in
    let r : Ringed (since_at o began done cut s (front ++ Withdraw slot ∷ [])) cut now (notes ++ Withdraws n ∷ []) nobody e = withdrawal-cut d e (since_at o began done cut s (front ++ Withdraw slot ∷ [])) cut now notes seats (moved-in d o done s began cut front (Withdraw slot) spans base t seats w) left n cards q seat below time odometer second kilometres low few_ writes c.failed in
    behind-it d e o done s began log cut front (Withdraw slot) rest spans base t nobody c
    (action-noted d e o done s began front (Withdraw slot) cut spans base t seats nobody (Withdraws n) w ((withdrawals cut (went began done).before s front c.goes.begun slot x sits still).2 torn accepted) r)

-- AN INSERTION
one-accepts : (u : ℕ) (slot : Slot) (card : Card) (vs : List Verdict) (v : Verdict) → vs ≡ v ∷ [] → is_accepting v ≡ true → accepts_by u slot card vs ≡ Accepts (record { second = u; slot = slot; card = card }) ∷ []
one-accepts u slot card vs v are accepting =
    ap (accepts_by u slot card) are ∙ ap (λ (b : Bool). map (λ (w : Verdict). Accepts (record { second = u; slot = slot; card = card })) (cond b (v ∷ []) [])) accepting

pub card-accepted : (d e : Devices) → ACardIsAccepted d e
card-accepted d e o done s began log later front spans base t seats now_ fewer v g slot card fine verdict found accepting head index writes long is each left cards opens few =
    let now : List SpanFrom = with_second spans base t in
    let w = lines-in d o done s began log later front spans base t seats v g in
    let notes : List Note = notes_so_far began done later s front in
    let n : Acceptance = record { second = s.number; slot = slot; card = card } in
    let put : IsPutIn (moves_so_far began done later s (front ++ Insert slot card ∷ [])) card s.number = Contains-append_right (moves_in began done) (moves_to later (went began done).before s (front ++ Insert slot card ∷ [])) (goes_in s.number card) (put-moves later (went began done).before s front g.begun slot card fine) in
    let r : Ringed (since_at o began done later s (front ++ Insert slot card ∷ [])) later now (notes ++ Accepts n ∷ []) now_ e = insertion-around d e (since_at o began done later s (front ++ Insert slot card ∷ [])) later now notes seats now_ (moved-in d o done s began later front (Insert slot card) spans base t seats w) left n put cards opens head index writes long is each in
    let one = one-accepts s.number slot card (found_in later s.number (In (length front + 1)) slot) verdict found accepting in
    let more : NotesMore later (went began done).before s front (Insert slot card) (Accepts n ∷ []) = subst (λ (l : List Note). NotesMore later (went began done).before s front (Insert slot card) l) one (insertions later (went began done).before s front g.begun slot card fine) in
    action-noted d e o done s began front (Insert slot card) later spans base t seats fewer (Accepts n) w more (fewer-sit e (since_at o began done later s (front ++ Insert slot card ∷ [])) later now (notes ++ Accepts n ∷ []) now_ fewer r few)

pub acceptance-is-cut : (d e : Devices) → AnAcceptanceIsCut d e
acceptance-is-cut d e o done s began log cut front rest spans base t seats v slot card c fine verdict found accepting head writes long is left cards =
    let now : List SpanFrom = with_second spans base t in
    let w = lines-in d o done s began log cut front spans base t seats v c.goes in
    let notes : List Note = notes_so_far began done cut s front in
    let n : Acceptance = record { second = s.number; slot = slot; card = card } in
    let put : IsPutIn (moves_so_far began done cut s (front ++ Insert slot card ∷ [])) card s.number = Contains-append_right (moves_in began done) (moves_to cut (went began done).before s (front ++ Insert slot card ∷ [])) (goes_in s.number card) (put-moves cut (went began done).before s front c.goes.begun slot card fine) in
    let r : Ringed (since_at o began done cut s (front ++ Insert slot card ∷ [])) cut now (notes ++ Accepts n ∷ []) nobody e = insertion-cut d e (since_at o began done cut s (front ++ Insert slot card ∷ [])) cut now notes seats (moved-in d o done s began cut front (Insert slot card) spans base t seats w) left n put cards head writes long is c.failed in
    let one = one-accepts s.number slot card (found_in cut s.number (In (length front + 1)) slot) verdict found accepting in
    let more : NotesMore cut (went began done).before s front (Insert slot card) (Accepts n ∷ []) = subst (λ (l : List Note). NotesMore cut (went began done).before s front (Insert slot card) l) one (insertions cut (went began done).before s front c.goes.begun slot card fine) in
    behind-it d e o done s began log cut front (Insert slot card) rest spans base t nobody c (action-noted d e o done s began front (Insert slot card) cut spans base t seats nobody (Accepts n) w more r)
