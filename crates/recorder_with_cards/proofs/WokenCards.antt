-- Power comes with a second, and so the events of the cards go on: each card in a slot is judged; or the unit failed in that, and power is cut at once.
use Rattle.std.proofs.Common.{◌≡◌, ◌∙◌, ℕ, ◌+◌, ◌≤◌, Bool, true, false, cond, not, ◌||◌, Option, Some, None, option_map, List, [], ◌∷◌, ◌++◌, length, map, refl, ap, sym, subst, arith, option_to_list}
use Rattle.std.specs.Prelude.{◌==◌, ◌&&◌, nat_lt, filter}
use Rattle.std.specs.List.{list_any}
use Rattle.activity_codec.specs.declared.values.Slot.{Slot}
use Rattle.activity_codec.specs.declared.values.Slot.TheVariants.{Driver, CoDriver}
use Rattle.trace_model.specs.declared.Card.{Card}
use Rattle.trace_model.specs.Trace.{TraceSecond}
use Rattle.tacho_types.specs.declared.texts.Registration.{Registration}
use Rattle.device_calls.specs.card_files.declared.card_event.CardEvent.{CardEvent}
use Rattle.device_calls.specs.event_model.declared.kinds.TheConstants.{INSERTION_WHILE_DRIVING, SESSION_NOT_CLOSED, POWER_INTERRUPTION}
use Rattle.device_calls.specs.event_model.Events.{Event, Seen, seen_of, seen_spans, seen_by, noted_with, last_number, first_card, standing}
use Rattle.log_model.specs.declared.lines.Verdict.{Verdict}
use Rattle.log_model.specs.Log.{RunLog, Phase, In, cut_in, is_torn_in, found_in, kept_after, tears_here}
use Rattle.log_model.specs.Slots.{Sitting, in_slot, same_card, other_slot}
use Rattle.log_model.specs.Course.{Course, Visit, Before, has_power, lit_course, went}
use Rattle.device_calls.specs.event_model.declared.entries.Span.{Span}
use Rattle.device_calls.specs.event_model.Spans.{gap_of}
use Rattle.run_acts.specs.run_events.Seconds.{gap_before}
use Rattle.run_acts.proofs.run_note_record.Brought.{lit-course}
use Rattle.run_insertion.specs.CardEvents.{events_in}
use Rattle.device_calls.specs.note_model.Done.{has_failed_in, course_powered}
use Rattle.device_calls.specs.safety_model.Safe.{Devices}
use Rattle.run_outcome.specs.declared.outcome.Outcome.{Outcome}
use Rattle.run_minutes.specs.run_promise.Origin.{Origin}
use Rattle.run_acts.specs.run_note_record.Evented.{images_in}
use Rattle.run_acts.specs.run_note_record.Uses.{notes_now, uses_in}
use Rattle.run_acts.specs.Stays.{Whose, AreKnown}
use Rattle.run_acts.proofs.AllStay.{known-uncut, no-cut}
use Rattle.run_acts.specs.run_note_record.RingsSoFar.{HasMoreBreaks}
use Rattle.run_acts.specs.run_note_record.Waking.{NoneFound, IsFoundAnew}
use Rattle.run_acts.proofs.run_note_record.SoFar.{left-itself, failed-more}
use Rattle.run_acts.specs.Recording.{log_of}
use Rattle.run_acts.specs.RunRinged.{with_cut}
use Rattle.run_acts.specs.OnCards.{is_card, has_card, as_accepted, events_by, gap_entry, gaps_on, enters, falls, may_note, is_sure_in, torn_times}
use Rattle.run_acts.specs.RunCards.{vehicle_in, sizes_in, so_far, seen_behind, gap_behind, CardsBehind, CardsWaking}
use Rattle.run_acts.proofs.CardBrings.{brought-nothing}
use Rattle.run_acts.proofs.CardShown.{interrupting}
use Rattle.run_acts.proofs.CardCourse.{Finding, IsQuiet, sitting_at, powered-as}
use Rattle.run_acts.proofs.CardSecond.{any-more, is_now, standing-is}
use Rattle.run_acts.proofs.CardGaps.{met-power}
use Rattle.run_acts.proofs.CardEnds.{IsLater, ends-shown, cut-short}
use Rattle.run_acts.proofs.CardStays.{shows-self}
use Rattle.run_acts.proofs.CardWaking.{part_torn, part-torn, torn-often, waking-judged, gap-noted}
use Rattle.run_acts.proofs.RingedSecond.{cut-torn, cut-found, cut-failed}
use Rattle.recorder_with_cards.specs.JudgedCards.{once_torn, IsJudgedOnCards}
use Rattle.recorder_with_cards.proofs.RingsHere.{here-then, here-more, here-cut}
use Rattle.recorder_with_cards.proofs.InsertedCards.{mine, any-behind, judged-sure}

-- what was torn stays so in later lines
pub torn-more : (log later : RunLog) (u : ℕ) (p : Phase) (slot : Slot) → HasMoreBreaks log later → is_torn_in log u p slot ≡ true → is_torn_in later u p slot ≡ true
unfolding is_torn_in
torn-more log later u p slot more is = ap (list_any (tears_here u p slot)) more.1 ∙ any-more (tears_here u p slot) log.breaks more.0 is

-- a card that falls at a power-on is torn out
pub torn-sitting : (log : RunLog) (was : Before) (s : TraceSecond) (c : Card) (slot : Slot) (x : Sitting) → was.running ≡ false → in_slot was.slots slot ≡ Some x → same_card x.card c ≡ true → is_torn_in log s.number (In 0) slot ≡ true → mine c (course_powered log was s).torn ≡ true
torn-sitting log was s c slot x off sits own torn = ap (mine c) (powered-as log was s off).torn ∙ at slot sits torn
  where
    one : (sl : Slot) → mine c (sitting_at sl (Some x)) ≡ true
    one sl = ap (λ (b : Bool). b || false) own

    at : (sl : Slot) → in_slot was.slots sl ≡ Some x → is_torn_in log s.number (In 0) sl ≡ true →
        mine c (cond (is_torn_in log s.number (In 0) Driver) (sitting_at Driver was.slots.driver) [] ++ cond (is_torn_in log s.number (In 0) CoDriver) (sitting_at CoDriver was.slots.codriver) []) ≡ true
    at Driver is told =
        any-more (λ (v : Visit). same_card v.card c) (cond (is_torn_in log s.number (In 0) Driver) (sitting_at Driver was.slots.driver) []) (cond (is_torn_in log s.number (In 0) CoDriver) (sitting_at CoDriver was.slots.codriver) [])
        (ap (λ (b : Bool). mine c (cond b (sitting_at Driver was.slots.driver) [])) told ∙ ap (λ (q : Option Sitting). mine c (sitting_at Driver q)) is ∙ one Driver)
    at CoDriver is told =
        any-behind c (cond (is_torn_in log s.number (In 0) Driver) (sitting_at Driver was.slots.driver) []) (cond (is_torn_in log s.number (In 0) CoDriver) (sitting_at CoDriver was.slots.codriver) [])
        (ap (λ (b : Bool). mine c (cond b (sitting_at CoDriver was.slots.codriver) [])) told ∙ ap (λ (q : Option Sitting). mine c (sitting_at CoDriver q)) is ∙ one CoDriver)

-- it was torn out once more than before
once-torn : (log later : RunLog) (was : Before) (s : TraceSecond) (off : was.running ≡ false) (torn : (slot : Slot) → is_torn_in log s.number (In 0) slot ≡ true → is_torn_in later s.number (In 0) slot ≡ true) (c : Card) (slot : Slot) (x : Sitting) → in_slot was.slots slot ≡ Some x → same_card x.card c ≡ true →
    is_torn_in log s.number (In 0) slot ≡ false → torn_times c (so_far was s (course_powered log was s)) + once_torn (is_torn_in later s.number (In 0) slot) ≤ torn_times c (so_far was s (course_powered later was s))
once-torn log later was s off torn c slot x sits own whole = torn-often log later was s off torn c (once_torn (is_torn_in later s.number (In 0) slot)) (at slot sits whole)
  where
    -- of this slot
    here : (sl : Slot) → in_slot was.slots sl ≡ Some x → (b : Bool) → length (filter (λ (v : Visit). same_card v.card c) (cond b (sitting_at sl (in_slot was.slots sl)) [])) ≡ once_torn b
    here sl is true = ap (λ (q : Option Sitting). length (filter (λ (v : Visit). same_card v.card c) (sitting_at sl q))) is ∙ ap (λ (b : Bool). length {A = Visit} (cond b (record { phase = In 0; slot = sl; card = x.card } ∷ []) [])) own
    here sl is false = refl

    none : (sl : Slot) → is_torn_in log s.number (In 0) sl ≡ false → part_torn log later was s off torn c log sl ≡ 0
    none sl is = ap (λ (b : Bool). length (filter (λ (v : Visit). same_card v.card c) (cond b (sitting_at sl (in_slot was.slots sl)) []))) is

    at : (sl : Slot) → in_slot was.slots sl ≡ Some x → is_torn_in log s.number (In 0) sl ≡ false →
        part_torn log later was s off torn c log Driver + part_torn log later was s off torn c log CoDriver + once_torn (is_torn_in later s.number (In 0) sl)
        ≤ part_torn log later was s off torn c later Driver + part_torn log later was s off torn c later CoDriver
    at Driver is well =
        let old : part_torn log later was s off torn c log Driver ≡ 0 = none Driver well in
        let new : part_torn log later was s off torn c later Driver ≡ once_torn (is_torn_in later s.number (In 0) Driver) = here Driver is (is_torn_in later s.number (In 0) Driver) in
        let other : part_torn log later was s off torn c log CoDriver ≤ part_torn log later was s off torn c later CoDriver = part-torn log later was s off torn c CoDriver in
        omega (arith, old, new, other)
    at CoDriver is well =
        let old : part_torn log later was s off torn c log CoDriver ≡ 0 = none CoDriver well in
        let new : part_torn log later was s off torn c later CoDriver ≡ once_torn (is_torn_in later s.number (In 0) CoDriver) = here CoDriver is (is_torn_in later s.number (In 0) CoDriver) in
        let other : part_torn log later was s off torn c log Driver ≤ part_torn log later was s off torn c later Driver = part-torn log later was s off torn c Driver in
        omega (arith, old, new, other)

-- ---- THE CARD OF A SLOT IS JUDGED

-- of the slots before it, and of this one
anew-by : (log later : RunLog) (u : ℕ) (sl : Slot) (vs : List Verdict) → (sl ≡ Driver → found_in log u (In 0) CoDriver ≡ []) → found_in log u (In 0) sl ≡ [] → found_in later u (In 0) (other_slot sl) ≡ found_in log u (In 0) (other_slot sl) → found_in later u (In 0) sl ≡ vs → IsFoundAnew log later u sl vs
anew-by log later u Driver vs none own others found = (both, found, others ∙ none refl)
  where
    both : NoneFound log u
    both Driver = own
    both CoDriver = none refl
anew-by log later u CoDriver vs none own others found = (others, own, found)

module _ (o : Origin) (done : List TraceSecond) (s : TraceSecond) (slot : Slot) (card : Card) (before after : Outcome) (d e : Devices) (began : RunLog) (off : (went began done).before.running ≡ false) (q : Sitting) (sits : in_slot (went began done).before.slots slot ≡ Some q) (card_is : q.card ≡ card)
    (own_none : found_in (log_of before) s.number (In 0) slot ≡ []) (whole : is_torn_in (log_of before) s.number (In 0) slot ≡ false) (first : slot ≡ Driver → found_in (log_of before) s.number (In 0) CoDriver ≡ []) (uncut_before : cut_in (log_of before) s.number ≡ None) (cards : CardsWaking o done s began (log_of before) d)
    (failed : Bool) (j : IsJudgedOnCards failed o began done s 0 slot card before after d e) where
  uncut : cut_in (log_of after) s.number ≡ None
  uncut = j.cut ∙ uncut_before

  -- by a log in which the same is found
  in-log : (later : RunLog) → HasMoreBreaks (log_of before) later → ((sl : Slot) → found_in later s.number (In 0) sl ≡ found_in (log_of after) s.number (In 0) sl) → is_torn_in later s.number (In 0) slot ≡ is_torn_in (log_of after) s.number (In 0) slot
      → ((whose : Whose) → AreKnown whose o later e → later ≡ log_of after) → (failed ≡ true → has_failed_in later s.number ≡ true) → CardsWaking o done s began later e
  in-log later more found torn alike fails =
      waking-judged o done s began (log_of before) later d e off (λ sl is. torn-more (log_of before) later s.number (In 0) sl more is) (failed-more (log_of before) later more) j.left cards slot q sits (found_in (log_of after) s.number (In 0) slot)
      (anew-by (log_of before) later s.number slot (found_in (log_of after) s.number (In 0) slot) first own_none (found (other_slot slot) ∙ j.others) (found slot))
      (λ c valid other. j.beside c valid (ap (λ (k : Card). same_card k c) (sym card_is) ∙ other))
      (λ c other whose in_ known.
      let is : later ≡ log_of after = alike whose known in (
        j.known whose (subst (λ (l : RunLog). AreKnown whose o l e) is known),
        ap (λ (l : RunLog). uses_in o c (notes_now began done l s)) is ∙ j.still c (ap (λ (k : Card). same_card k c) (sym card_is) ∙ other),
      ))
      (λ c valid own entered.
      let x : Seen = seen_behind began done s [] later in
      let torn_ : Bool = is_torn_in (log_of after) s.number (In 0) slot in
      let kept : (sl : Slot) → is_torn_in (log_of before) s.number (In 0) sl ≡ true → is_torn_in later s.number (In 0) sl ≡ true = λ sl is. torn-more (log_of before) later s.number (In 0) sl more is in
      let b = j.own c valid (ap (λ (k : Card). same_card k c) (sym card_is) ∙ own) in (
        b.uses,
        (λ whose in_ known.
            let is : later ≡ log_of after = alike whose known in
            let then : AreKnown whose o (log_of after) e = subst (λ (l : RunLog). AreKnown whose o l e) is known in
            (j.known whose then, ap (λ (l : RunLog). uses_in o c (notes_now began done l s)) is ∙ b.exact whose in_ then)),
        b.are,
        once_torn torn_,
        subst (λ (t : Bool). torn_times c (seen_behind began done s [] (log_of before)) + once_torn t ≤ torn_times c (seen_behind began done s [] later)) torn (once-torn (log_of before) later (went began done).before s off kept c slot q sits own whole),
        b.notes (λ kind. is_sure_in c kind later x) (λ kind sure. judged-sure c later x failed torn_ entered fails (λ is. torn-sitting later (went began done).before s c slot q off sits own (torn ∙ is)) kind sure),
      ))

  -- the second goes on, or the cut is told next
  pub slot-cards : failed ≡ false → CardsWaking o done s began (log_of after) e
  slot-cards well = in-log (log_of after) (here-more (log_of before) (log_of after) s.number j.here) (λ sl. refl) refl (λ whose is. refl) (λ fails. absurd (let clash : true ≡ false = sym fails ∙ well in cc))

  pub slot-cut : CardsWaking o done s began (with_cut (log_of after) s []) e
  slot-cut =
      in-log (with_cut (log_of after) s []) (here-more (log_of before) (with_cut (log_of after) s []) s.number (here-then (log_of before) (log_of after) (with_cut (log_of after) s []) s.number j.here (here-cut (log_of after) s [])))
      (λ sl. cut-found (log_of after) s.number 0 uncut (In 0) sl) (cut-torn (log_of after) s.number 0 uncut (In 0) slot) (λ whose is. no-cut (log_of after) s.number 0 (known-uncut whose o (with_cut (log_of after) s []) e is)) (λ fails. cut-failed (log_of after) s.number 0 uncut)

-- ---- THE UNIT FAILED in that, and power is cut: of the interruption nothing is sure

module _ (o : Origin) (done : List TraceSecond) (s : TraceSecond) (began cut : RunLog) (e : Devices) (l : IsLater began cut done s.number) (power : has_power (went began done).before s ≡ true) (off : (went began done).before.running ≡ false) (cut_is : cut_in cut s.number ≡ Some 0) (fails : has_failed_in cut s.number ≡ true) where
  abbrev was : Before
  was = (went began done).before

  abbrev y : Seen
  y = seen_behind began done s [] cut

  quiet : IsQuiet (course_powered cut (went began done).before s) (lit_course cut s (not (went began done).before.running) (went began done).before.slots)
  quiet = cut-short o done s began cut l power [] s.actions refl cut_is

  stand : (slot : Slot) → standing as_accepted (seen_by cut (went began done).before s) slot ≡ standing as_accepted (seen_behind began done s [] cut) slot
  stand slot =
      standing-is (seen_by cut (went began done).before s) slot
      ∙ ap (λ (fs : List Finding). first_card (filter (is_now slot) fs)) (ap (λ (k : Course). k.found) (lit-course cut (went began done).before s power) ∙ quiet.found)
      ∙ sym (standing-is (seen_behind began done s [] cut) slot)

  module _ (c : Card) where
    -- who was accepted at the power-on entered
    met : has_card (record { driver = standing as_accepted (seen_behind began done s [] cut) Driver; codriver = standing as_accepted (seen_behind began done s [] cut) CoDriver }) c ≡ true → enters c (seen_behind began done s [] cut) ≡ true
    met is =
        sym (ap (λ (k : Course). list_any (λ (v : Visit). same_card v.card c) k.entered) (lit-course cut (went began done).before s power) ∙ ap (list_any (λ (v : Visit). same_card v.card c)) quiet.entered)
        ∙ (met-power c cut (went began done).before s ((λ i. is_card (stand Driver i) c || is_card (stand CoDriver i) c) ∙ is)).entered

    abbrev own : Registration
    own = vehicle_in o

    -- of an interruption that it did not see it has no event
    none-of : (spans : List (List Seen)) → has_card (record { driver = standing as_accepted (seen_behind began done s [] cut) Driver; codriver = standing as_accepted (seen_behind began done s [] cut) CoDriver }) c ≡ false →
        gaps_on c (vehicle_in o) (gap_before as_accepted began spans (seen_behind began done s [] cut)) ≡ []
    none-of [] none = refl
    none-of (span ∷ []) none = by (gap_of (kept_after began (last_number span)) s.number)
      where
        by : (gap : Option Span) → gaps_on c (vehicle_in o) (option_to_list (option_map {T = Span} {U = Event}
            (λ gap. noted_with POWER_INTERRUPTION gap.begin gap.end (record { driver = standing as_accepted (seen_behind began done s [] cut) Driver; codriver = standing as_accepted (seen_behind began done s [] cut) CoDriver })) gap)) ≡ []
        by None = refl
        by (Some gap) =
            let event : Event = noted_with POWER_INTERRUPTION gap.begin gap.end (record { driver = standing as_accepted (seen_behind began done s [] cut) Driver; codriver = standing as_accepted (seen_behind began done s [] cut) CoDriver }) in
            ap (λ (b : Bool). map (gap_entry c (vehicle_in o)) (cond b (event ∷ []) [])) none
    none-of (span ∷ next ∷ spans) none = none-of (next ∷ spans) none

    none-by : (lit starts : Bool) (gs : List Event) → gaps_on c (vehicle_in o) gs ≡ [] → gaps_on c (vehicle_in o) (cond lit (cond starts gs []) []) ≡ []
    none-by true true gs none = none
    none-by true false gs none = refl
    none-by false starts gs none = refl

    rest-none : (q5 q6 : Bool) → cond {A = List CardEvent} q5 [] (cond q6 [] []) ≡ []
    rest-none true q6 = refl
    rest-none false true = refl
    rest-none false false = refl

    or-third : (a b c : Bool) → c ≡ true → (a || (b || c)) ≡ true
    or-third true b c is = refl
    or-third false true c is = refl
    or-third false false c is = is

    nothing : (kind : ℕ) → is_sure_in c kind cut (seen_behind began done s [] cut) ≡ true → events_by kind (gaps_on c (vehicle_in o) (gap_behind began done s [] cut)) [] [] ≡ []
    nothing kind sure = by (kind == POWER_INTERRUPTION) refl
      where
        by : (b : Bool) → (kind == POWER_INTERRUPTION) ≡ b → cond b (gaps_on c (vehicle_in o) (gap_behind began done s [] cut)) (cond (kind == INSERTION_WHILE_DRIVING) [] (cond (kind == SESSION_NOT_CLOSED) [] [])) ≡ []
        by false is = rest-none (kind == INSERTION_WHILE_DRIVING) (kind == SESSION_NOT_CLOSED)
        by true is = crew (has_card (record { driver = standing as_accepted (seen_behind began done s [] cut) Driver; codriver = standing as_accepted (seen_behind began done s [] cut) CoDriver }) c) refl
          where
            may : may_note c kind (seen_behind began done s [] cut) ≡ true
            may = or-third (kind == SESSION_NOT_CLOSED) (kind == INSERTION_WHILE_DRIVING && nat_lt 0 s.speed) (kind == POWER_INTERRUPTION && not (went began done).before.running)
                ((λ i. is i && not (off i)))

            crew : (b : Bool) → has_card (record { driver = standing as_accepted (seen_behind began done s [] cut) Driver; codriver = standing as_accepted (seen_behind began done s [] cut) CoDriver }) c ≡ b → gaps_on c (vehicle_in o) (gap_behind began done s [] cut) ≡ []
            crew false none = none-by true (not (went began done).before.running) (gap_before as_accepted began (seen_spans (seen_of began done)) (seen_behind began done s [] cut)) (none-of (seen_spans (seen_of began done)) none)
            crew true some = absurd (let entered = met some in let wrong : false ≡ true = sym (λ i. not (entered i && may i) || (not (fails i) && not (falls c (seen_behind began done s [] cut)))) ∙ sure in cc)

  -- SO THE SECOND IS OVER
  pub cut-waking : CardsWaking o done s began cut e → CardsBehind o (done ++ s ∷ []) cut e
  cut-waking cards =
      ends-shown o done s began cut l power [] cut e e
      (gap-noted o done s began cut cut e e off (λ slot is. is) (λ u is. is) (left-itself o e) cards (λ slot. refl) (λ c whose in_ known. (known, refl))
      (λ c valid z there. (
        z,
        there,
        λ kind. brought-nothing (images_in o e c) kind (is_sure_in c kind cut (seen_behind began done s [] cut)) (interrupting s.number (gaps_on c (vehicle_in o) (gap_behind began done s [] cut))) (λ sure. nothing c kind sure)
            (events_in (sizes_in o c) kind z) (events_in (sizes_in o c) kind z) refl,
      )))
      (λ c whose in_ known. (known, refl)) (λ u is. is) quiet (left-itself o e) (shows-self o e)
