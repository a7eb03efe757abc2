-- Worked rows of the auxiliary records: a short drive with a card, and a run with a cut.
use Rattle.std.proofs.Common.{◌≡◌, inl, inr, ℕ, true, false, cond, nat_eq, Option, None, Some, List, [], ◌∷◌, ◌++◌, map, refl}
use Rattle.event_model.specs.activity_codec.declared.values.Slot.TheVariants.{Driver}
use Rattle.event_model.specs.trace_model.declared.Card.{Card}
use Rattle.event_model.specs.trace_model.declared.Card.TheVariants.{A}
use Rattle.event_model.specs.trace_model.declared.Action.{Action}
use Rattle.event_model.specs.trace_model.declared.Action.TheVariants.{Insert, Withdraw, Place}
use Rattle.event_model.specs.trace_model.Trace.{TraceSecond}
use Rattle.message_model.specs.unit_model.Ring.{Shape, taken}
use Rattle.history_model.specs.log_model.declared.lines.Break.TheVariants.{Cut, Tear}
use Rattle.history_model.specs.log_model.declared.lines.Find.{Find}
use Rattle.history_model.specs.log_model.declared.lines.Verdict.{Verdict}
use Rattle.history_model.specs.log_model.declared.lines.Verdict.TheVariants.{Accepted, TimeOverlap}
use Rattle.history_model.specs.log_model.Log.{RunLog, cut_in, is_torn_in, found_in, kept_after}
use Rattle.history_model.specs.log_model.Course.{Visit, went}
use Rattle.history_model.specs.log_model.Spans.{spans_of}
use Rattle.note_model.specs.Done.{done_of, has_failed_in}
use Rattle.note_model.specs.Noted.{Accepts, Withdraws, Enters, notes_of, insertions_of}
use Rattle.note_model.specs.Odometer.{driven_before, odometer_before}
use Rattle.note_model.specs.Rings.{LiesAhead}
use Rattle.note_model.specs.Tables.{table_of}
use Rattle.event_model.specs.Events.{Event, Tearing, seen_of, events_of}
use Rattle.note_model.specs.Events.{noting_second}

-- a second with power
abbrev second : (number speed : ℕ) → List Action → TraceSecond
second number speed actions = record { number = number; has_power = true; speed = speed; actions = actions }

abbrev found : (second begun : ℕ) → Verdict → Find
found second begun verdict = record { second = second; slot = Driver; verdict = verdict; begun = begun }

-- no session was found open
abbrev none_open : ℕ → Visit → ℕ
none_open second visit = 0

-- no card is torn out as an interruption is noted, and of two that are in one action the driver's is the first
abbrev plain : Tearing
plain = record { by_gap = λ u slot. false; driver_first = λ u n. true }

-- a card is inserted, the vehicle drives a second, a place is entered, and the card is withdrawn
abbrev drive : List TraceSecond
drive =
    second 1267401600 0 (Insert Driver A ∷ []) ∷ second 1267401601 50 [] ∷ second 1267401602 0 (Place Driver true 17 0 ∷ Withdraw Driver ∷ []) ∷ []

abbrev accepted : RunLog
accepted = record { breaks = []; refused = []; finds = found 1267401600 1 (Accepted 0) ∷ [] }

drive_notes : notes_of accepted (done_of accepted drive)
    ≡ Accepts (record { second = 1267401600; slot = Driver; card = A })
    ∷ Enters (record { second = 1267401602; card = A; ending = true; country = 17; region = 0 })
    ∷ Withdraws (record { second = 1267401602; card = A }) ∷ []
unfolding notes_of done_of cut_in is_torn_in found_in
drive_notes = refl

drive_insertions : map (λ i. i.withdrawn) (insertions_of (notes_of accepted (done_of accepted drive))) ≡ Some 1267401602 ∷ []
unfolding notes_of done_of cut_in is_torn_in found_in
drive_insertions = refl

-- where the card's own settling tears it, it is not withdrawn, and the fault tells no card
abbrev torn : RunLog
torn = record { breaks = Tear 1267401602 Driver true 2 false ∷ []; refused = []; finds = found 1267401600 1 (Accepted 0) ∷ [] }

torn_insertions : map (λ i. i.withdrawn) (insertions_of (notes_of torn (done_of torn drive))) ≡ None ∷ []
unfolding notes_of done_of cut_in is_torn_in found_in
torn_insertions = refl

torn_events : map {B = ℕ × ℕ × Option Card} (λ (e : Event). (e.kind, e.begin, e.at_begin.driver)) (events_of 0x40 90 none_open plain torn drive) ≡ (0x40, 1267401602, None) ∷ []
unfolding seen_of cut_in is_torn_in found_in kept_after
torn_events = refl

-- a card that tells of a later time is an event up to that time; then a second is driven without a card, which is noted in the
-- second after it
abbrev overlapping : RunLog
overlapping = record { breaks = []; refused = []; finds = found 1267401600 1 (TimeOverlap 1267500000 1267401600) ∷ [] }

overlap_events : map {B = ℕ × ℕ × ℕ × ℕ} (λ (e : Event). (e.kind, e.begin, e.end, noting_second e)) (events_of 0x03 90 none_open plain overlapping drive ++ events_of 0x04 90 none_open plain overlapping drive)
    ≡ (0x03, 1267401600, 1267500000, 1267401600) ∷ (0x04, 1267401601, 1267401601, 1267401602) ∷ []
unfolding seen_of cut_in is_torn_in found_in kept_after
overlap_events = refl

-- a call on the unit fails in the second second, whose last-kept minute was 21123300; power is back with the next minute, and the
-- card is accepted anew while the vehicle moves
abbrev cut_drive : List TraceSecond
cut_drive = second 1267401600 0 (Insert Driver A ∷ []) ∷ second 1267401601 50 [] ∷ second 1267401659 50 [] ∷ second 1267401660 50 [] ∷ []

abbrev cut : RunLog
cut = record { breaks = Cut 1267401601 21123300 true 0 ∷ []; refused = []; finds = found 1267401600 1 (Accepted 0) ∷ found 1267401660 0 (Accepted 0) ∷ [] }

cut_events : map {B = ℕ × ℕ × ℕ × ℕ × Option Card} (λ (e : Event). (e.kind, e.begin, e.end, noting_second e, e.at_end.driver)) (events_of 0x05 90 none_open plain cut cut_drive ++ events_of 0x08 90 none_open plain cut cut_drive)
    ≡ (0x05, 1267401660, 1267401660, 1267401660, Some A) ∷ (0x08, 1267398060, 1267401660, 1267401660, Some A) ∷ []
unfolding seen_of cut_in is_torn_in found_in kept_after
cut_events = refl

-- the session that the cut left open is found again: it began when the card was accepted first, and is noted at the power-on
abbrev left_open : ℕ → Visit → ℕ
left_open second visit = cond (nat_eq second 1267401660) 1267401600 0

cut_sessions : map {B = ℕ × ℕ × ℕ} (λ (e : Event). (e.begin, e.end, noting_second e)) (events_of 0x06 90 left_open plain cut (second 1267401600 0 (Insert Driver A ∷ []) ∷ second 1267401601 50 [] ∷ second 1267401659 0 [] ∷ second 1267401660 0 [] ∷ [])) ≡ (1267401600, 1267401660, 1267401660) ∷ []
unfolding seen_of cut_in is_torn_in found_in kept_after
cut_sessions = refl

cut_insertions : map (λ i. i.accepted.second) (insertions_of (notes_of cut (done_of cut cut_drive))) ≡ 1267401600 ∷ 1267401660 ∷ []
unfolding notes_of done_of cut_in is_torn_in found_in
cut_insertions = refl

cut_fails : map (has_failed_in cut) (1267401600 ∷ 1267401601 ∷ []) ≡ false ∷ true ∷ []
cut_fails = refl

-- two seconds at 1800 km/h are a kilometre, which stands behind the second one
abbrev fast : List TraceSecond
fast = second 1267401600 1800 [] ∷ second 1267401601 1800 [] ∷ second 1267401602 0 [] ∷ []

abbrev quiet : RunLog
quiet = record { breaks = []; refused = []; finds = [] }

kilometres : map (λ (u : ℕ). map (driven_before u) (spans_of (went quiet fast).told)) (1267401601 ∷ 1267401602 ∷ []) ≡ (0 ∷ []) ∷ (1 ∷ []) ∷ []
unfolding went cut_in is_torn_in found_in spans_of
kilometres = refl

-- the odometer stays at its highest value
highest : odometer_before 1267401602 (record { base = 9999999; span = [] }) ≡ 9999999
highest = refl

-- where the places of power interruptions, over speedings and faults begin, and how wide they are
places_begin : map (λ (kind : ℕ). (table_of kind).base) (0x01 ∷ 0x08 ∷ 0x07 ∷ 0x40 ∷ []) ≡ 2386384 ∷ 2390534 ∷ 2391364 ∷ 2391674 ∷ []
places_begin = refl

entry_sizes : map (λ (kind : ℕ). (table_of kind).width) (0x01 ∷ 0x07 ∷ 0x40 ∷ []) ≡ 83 ∷ 31 ∷ 82 ∷ []
entry_sizes = refl

-- a ring of four places with a gap at the third, and the newest entry at the second: the next one comes to the gap, and
-- the oldest stands one place further ahead; the first place lies two ahead, round the end
abbrev four : Shape
four = record { base = 0; width = 4; count = 4; pointer_width = 1; gate = 0 }

abbrev gapped : List ℕ
gapped = 1 ∷ 0 ∷ 0 ∷ 0 ∷ 1 ∷ 0 ∷ 0 ∷ 0 ∷ 1 ∷ 0 ∷ 0 ∷ 0 ∷ 0 ∷ 0 ∷ 0 ∷ 0 ∷ 1 ∷ []

gap_is_next : taken four gapped ≡ 2
gap_is_next = refl

oldest_is_ahead : LiesAhead four (taken four gapped) 1 3
oldest_is_ahead = inl refl

first_is_ahead : LiesAhead four (taken four gapped) 2 0
first_is_ahead = inr refl
