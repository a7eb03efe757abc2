-- What a card that was judged adds to what its second has brought, by how that ended.
use Rattle.std.proofs.Common.{◌≡◌, ◌⊎◌, inl, inr, ⊎_elim, ℕ, zero, suc, ◌<◌, ◌≤◌, ◌^◌, Bool, true, false, cond, not, ◌&&◌, Option, Some, None, List, [], ◌∷◌, ◌++◌, Contains, map, nat_eq, nat_lt, refl, ap, sym, subst, ◌∙◌, arith, append-nil, append_assoc, length}
use Rattle.std.specs.Prelude.{option_map, slice_get}
use Rattle.std.specs.List.{AllByRecursion}
use Rattle.std.proofs.lemmas.Bool.Decides.{nat_tests}
use Rattle.activity_codec.specs.declared.values.Slot.{Slot}
use Rattle.activity_codec.specs.declared.values.Slot.TheVariants.{Driver, CoDriver}
use Rattle.activity_codec.specs.Activity.{same_slot}
use Rattle.trace_model.specs.declared.Card.{Card}
use Rattle.trace_model.specs.declared.Action.{Action}
use Rattle.trace_model.specs.Trace.{TraceSecond}
use Rattle.log_model.specs.run_model.declared.Device.{Device}
use Rattle.log_model.specs.run_model.declared.Device.TheVariants.{Unit as Recorder}
use Rattle.log_model.specs.Causes.{RoseBy}
use Rattle.device_calls.specs.run_unit_course.Lines.{cut_at}
use Rattle.device_calls.specs.run_unit_course.Followed.{Lost as IsLost}
use Rattle.run_minutes.specs.run_promise.Beside.{HaveLeftMore}
use Rattle.log_model.specs.declared.lines.Break.{Break}
use Rattle.log_model.specs.declared.lines.Break.TheVariants.{Tear}
use Rattle.log_model.specs.declared.lines.Find.{Find}
use Rattle.log_model.specs.declared.lines.Verdict.{Verdict}
use Rattle.log_model.specs.declared.lines.Verdict.TheVariants as verdict
use Rattle.log_model.specs.Log.{RunLog, Phase, In, same_phase, phase_of, is_torn_in, found_in, is_accepting}
use Rattle.log_model.specs.Slots.{Slots, Sitting, in_slot, other_slot}
use Rattle.log_model.specs.Course.{ToldSecond, Visit, Course, Before, card_in, with_slot, visits, went}
use Rattle.device_calls.specs.event_model.declared.kinds.TheConstants.{CARD_NOT_VALID, TIME_OVERLAP, INSERTION_WHILE_DRIVING, SESSION_NOT_CLOSED, CARD_FAULT}
use Rattle.device_calls.specs.event_model.Events.{Event, Crew, crew_of, with_card, noted_with}
use Rattle.tach_media.specs.card_layout.declared.files.Application.{Application}
use Rattle.device_calls.specs.card_image.Fields.{session_time}
use Rattle.device_calls.specs.card_image.Own.{own_sizes}
use Rattle.device_calls.specs.card_validity.declared.looking.CardLook.{CardLook}
use Rattle.device_calls.specs.card_validity.Judged.{IsLook}
use Rattle.device_calls.specs.safety_model.Recording.{card_image}
use Rattle.device_calls.specs.safety_model.Safe.{Devices, card_of}
use Rattle.run_minutes.specs.run_promise.Found.{found_of}
use Rattle.run_acts.specs.unit_events.Shown.{all_kinds}
use Rattle.run_acts.specs.run_course.Moments.{and_break, and_find, finds_here}
use Rattle.run_acts.specs.run_course.Within.{IsFoundOf}
use Rattle.run_acts.proofs.run_course.Lookups.{find-more}
use Rattle.run_acts.proofs.run_course.Moments.{later-lines}
use Rattle.run_acts.specs.run_course.Followed.{Progress}
use Rattle.run_acts.specs.run_course.Moment.{Moment}
use Rattle.run_acts.specs.run_course.Telling.{IsMore, IsLeft, IsOneOut, BrokeDown, WaitBut}
use Rattle.run_acts.proofs.run_course.Telling.{card-torn, card-judged}
use Rattle.run_acts.specs.run_course.Reached.{Reaches, moved_with, course_at, moved_at, IsTearAt, IsFindAt}
use Rattle.run_acts.proofs.run_course.Reached.{lines-reached}
use Rattle.run_acts.proofs.run_course.Lines.{who-sits, find-seen}
use Rattle.run_acts.specs.run_events.Shown.{by_kind, none_sure}
use Rattle.run_acts.proofs.run_events.Shows.{moment-first}
use Rattle.run_minutes.specs.run_promise.Origin.{Origin}
use Rattle.run_acts.specs.run_note_record.Opened.{session_in, HasComeBefore}
use Rattle.run_acts.specs.run_note_record.Evented.{number_in, NotesMore, Evented}
use Rattle.run_acts.specs.run_note_record.Uses.{FindsMore}
use Rattle.run_acts.specs.run_note_record.Noting.{Ended, NotesThese}
use Rattle.run_acts.specs.run_note_record.EventsSoFar.{puts_into, Adds, EventedNow, NotesUnsure, BeginsNow, AreBare, ComesInTurn, IsOpenWith, stage_in, fault_with, judged_with, crew_at}
use Rattle.run_acts.proofs.run_note_record.Cutting.{failure-cuts}
use Rattle.run_acts.proofs.run_note_record.Adding.{call-notes, steps-follow, adds-nothing, adds-as}
use Rattle.run_acts.proofs.run_note_record.Falling.{tear-adds}
use Rattle.run_acts.proofs.run_note_record.Finding.{find-adds}
use Rattle.run_acts.proofs.run_note_record.Tearing.{and-none, slot-apart}
use Rattle.run_acts.proofs.run_note_record.EventsWaking.{waking-tear_adds}
use Rattle.run_acts.proofs.run_note_record.Noting.{by-more}
use Rattle.run_minutes.specs.Keeping.{tear_of}
use Rattle.run_insertion.specs.declared.lines.Entering.{Entering}
use Rattle.run_insertion.specs.Entered.{IsFound}
use Rattle.run_insertion.specs.Entering.{Ending, Unfit, Ahead, Fell, Unasked, Unnoted, Seated, Lost, find_of, finds_by, breaks_by, falls_of}
use Rattle.run_acts.specs.NotedEvents.{AreTold, NotesSo}
use Rattle.run_acts.specs.ActsEvented.{IsFailing}
use Rattle.run_acts.specs.run_crew.declared.cabin.Cabin.{Cabin}
use Rattle.run_insertion.specs.Noted.{UnitNote, Inserts, BeginsRow, Tells, notes_by}
use Rattle.recorder_with_cards.specs.EnteredEvents.{events_in}
use Rattle.recorder_with_cards.specs.EnteredTold.{TellEvents, moving_events, unclosed_events, events_by, IsLow, AreNamed}
use Rattle.recorder_with_cards.proofs.EnteredTold.{events-told}

-- the lines that are told of it
abbrev pub log_with : Ending → Entering → RunLog → RunLog
log_with ending e log = record log { breaks = log.breaks ++ breaks_by ending e; finds = log.finds ++ finds_by ending e }

-- the events that it adds: those that are noted of it; and, where the unit failed as its insertion was to be noted, those that were to be
abbrev pub added_by : Ending → (speed second : ℕ) → (before accepted left : Crew) → List Event
added_by (Unfit fid place) speed second before accepted left = events_by (Unfit fid place) speed second before accepted left
added_by (Ahead stored) speed second before accepted left = events_by (Ahead stored) speed second before accepted left
added_by Fell speed second before accepted left = events_by Fell speed second before accepted left
added_by Unasked speed second before accepted left = []
added_by (Unnoted entered clock) speed second before accepted left = moving_events speed second accepted ++ unclosed_events entered.look.session second accepted
added_by (Seated entered clock entry) speed second before accepted left = events_by (Seated entered clock entry) speed second before accepted left
added_by (Lost entered clock entry) speed second before accepted left = events_by (Lost entered clock entry) speed second before accepted left

-- an accepted card's session was found opened so
abbrev pub IsOpened : Ending → Origin → (told : List ToldSecond) → List TraceSecond → TraceSecond → Card → Devices → Type 0
IsOpened (Unfit fid place) o told done s card d = Unit {0}
IsOpened (Ahead stored) o told done s card d = Unit {0}
IsOpened Fell o told done s card d = Unit {0}
IsOpened Unasked o told done s card d = Unit {0}
IsOpened (Unnoted entered clock) o told done s card d = IsOpenWith o told done s card (verdict.Accepted entered.replayed) entered.look.session d
IsOpened (Seated entered clock entry) o told done s card d = IsOpenWith o told done s card (verdict.Accepted entered.replayed) entered.look.session d
IsOpened (Lost entered clock entry) o told done s card d = IsOpenWith o told done s card (verdict.Accepted entered.replayed) entered.look.session d

-- where no call failed the session of an accepted card is the one of the use that the notes before it have left; of no other a use is found
abbrev pub AreFound : Ending → Origin → (began : RunLog) → List TraceSecond → TraceSecond → RunLog → Entering → Type 0
AreFound (Unfit fid place) o began done s log e = FindsMore o began done s log (and_find log (find_of e (verdict.NotValid fid place))) e.which []
AreFound (Ahead stored) o began done s log e = FindsMore o began done s log (and_find log (find_of e (verdict.TimeOverlap stored e.at.second))) e.which []
AreFound Fell o began done s log e = Unit {0}
AreFound Unasked o began done s log e = Unit {0}
AreFound (Unnoted entered clock) o began done s log e = FindsMore o began done s log (and_find log (find_of e (verdict.Accepted entered.replayed))) e.which (entered.look.session ∷ [])
AreFound (Seated entered clock entry) o began done s log e = FindsMore o began done s log (and_find log (find_of e (verdict.Accepted entered.replayed))) e.which (entered.look.session ∷ [])
AreFound (Lost entered clock entry) o began done s log e = FindsMore o began done s log (and_find log (find_of e (verdict.Accepted entered.replayed))) e.which (entered.look.session ∷ [])

-- AS A CARD IS JUDGED in a second behind these: the image that it is told by, which a stop might have left; that is the one of the start, or it has come
-- before
module _ (o : Origin) (told : List ToldSecond) (done : List TraceSecond) (s : TraceSecond) (card : Card) (d : Devices) (app : Application) (x : List ℕ) (left : (card_of d card).left_since (found_of o.found card).began x)
    (first : (x ≡ card_image o.recording card) ⊎ HasComeBefore told (done ++ s ∷ []) card s.number) (own : own_sizes x ≡ app) where
  opened-by : (v : Verdict) (look : CardLook) → IsLook app x look → IsOpenWith o told done s card v look.session d
  opened-by v look is =
      let told_so : session_in x ≡ look.session = ap (λ (a : Application). session_time a x) own ∙ sym is.session in
      λ accepts. (x, left, told_so, ⊎_elim (λ same. inl (ap (λ (y : List ℕ). session_in y) (sym same) ∙ told_so)) (λ come. inr come) first)

  -- so it was opened, by the image that was found of it
  pub ending-opened : (second : ℕ) (unit : Option (List ℕ)) (ending : Ending) → IsFound app second unit ending x → IsOpened ending o told done s card d
  ending-opened second unit (Unfit fid place) found = tt
  ending-opened second unit (Ahead stored) found = tt
  ending-opened second unit Fell found = tt
  ending-opened second unit Unasked found = tt
  ending-opened second unit (Unnoted entered clock) found = opened-by (verdict.Accepted entered.replayed) entered.look found.looked
  ending-opened second unit (Seated entered clock entry) found = opened-by (verdict.Accepted entered.replayed) entered.look found.looked
  ending-opened second unit (Lost entered clock entry) found = opened-by (verdict.Accepted entered.replayed) entered.look found.looked

-- an accepted card falls at a power-on where the vehicle moves alone
abbrev pub FallsMoving : Ending → (speed : ℕ) → Type 0
FallsMoving (Unfit fid place) speed = Unit {0}
FallsMoving (Ahead stored) speed = Unit {0}
FallsMoving Fell speed = Unit {0}
FallsMoving Unasked speed = Unit {0}
FallsMoving (Unnoted entered clock) speed = Unit {0}
FallsMoving (Seated entered clock entry) speed = Unit {0}
FallsMoving (Lost entered clock entry) speed = 0 < speed

-- ---- lists
not-zero : (n : ℕ) → nat_lt 0 n ≡ not (nat_eq n 0)
not-zero n = grind (arith, nat_tests)

turned : (b : Bool) (es : List Event) → cond (not b) es [] ≡ cond b [] es
turned true es = refl
turned false es = refl

judged-as : (session u speed : ℕ) (slot : Slot) (card : Card) (crew : Crew) (replayed : ℕ) → judged_with session u speed slot card crew (verdict.Accepted replayed) ≡ moving_events speed u (with_card slot (Some card) crew) ++ unclosed_events session u (with_card slot (Some card) crew)
judged-as session u speed slot card crew replayed =
    let six : Event = noted_with SESSION_NOT_CLOSED session u (with_card slot (Some card) crew) in
    ap (λ (es : List Event). moving_events speed u (with_card slot (Some card) crew) ++ es) (ap (λ (b : Bool). cond b (six ∷ []) []) (not-zero session) ∙ turned (nat_eq session 0) (six ∷ []))

-- one of two notes of other types may come first
swapped : (kind : ℕ) (e : Event) (b : Bool) (g : Event) → nat_eq e.kind g.kind ≡ false → by_kind (e ∷ cond b [] (g ∷ [])) kind ≡ by_kind (cond b [] (g ∷ []) ++ e ∷ []) kind
swapped kind e true g apart = refl
swapped kind e false g apart = by (nat_eq e.kind kind) (nat_eq g.kind kind) refl refl
  where
    by : (x y : Bool) → nat_eq e.kind kind ≡ x → nat_eq g.kind kind ≡ y → by_kind (e ∷ g ∷ []) kind ≡ by_kind (g ∷ e ∷ []) kind
    by true true is_x is_y = absurd (let wrong : nat_eq e.kind g.kind ≡ true = both e.kind g.kind kind is_x is_y in let clash : true ≡ false = sym wrong ∙ apart in cc)
      where
        both : (a c k : ℕ) → nat_eq a k ≡ true → nat_eq c k ≡ true → nat_eq a c ≡ true
        both a c k h i = grind (arith, nat_tests)
    by true false is_x is_y = (λ i. cond (is_x i) (e ∷ cond (is_y i) (g ∷ []) []) (cond (is_y i) (g ∷ []) [])) ∙ sym (λ i. cond (is_y i) (g ∷ cond (is_x i) (e ∷ []) []) (cond (is_x i) (e ∷ []) []))
    by false true is_x is_y = (λ i. cond (is_x i) (e ∷ cond (is_y i) (g ∷ []) []) (cond (is_y i) (g ∷ []) [])) ∙ sym (λ i. cond (is_y i) (g ∷ cond (is_x i) (e ∷ []) []) (cond (is_x i) (e ∷ []) []))
    by false false is_x is_y = (λ i. cond (is_x i) (e ∷ cond (is_y i) (g ∷ []) []) (cond (is_y i) (g ∷ []) [])) ∙ sym (λ i. cond (is_y i) (g ∷ cond (is_x i) (e ∷ []) []) (cond (is_x i) (e ∷ []) []))

lost-kinds : (speed session u : ℕ) (accepted left : Crew) → AllByRecursion (λ (e : Event). Contains all_kinds e.kind) (moving_events speed u accepted ++ noted_with CARD_FAULT u u left ∷ unclosed_events session u accepted)
lost-kinds speed session u accepted left = by (nat_lt 0 speed) (nat_eq session 0)
  where
    by : (m z : Bool) → AllByRecursion (λ (e : Event). Contains all_kinds e.kind) (cond m (noted_with INSERTION_WHILE_DRIVING u u accepted ∷ []) [] ++ noted_with CARD_FAULT u u left ∷ cond z [] (noted_with SESSION_NOT_CLOSED session u accepted ∷ []))
    by true true = ((3, omega arith, refl), ((7, omega arith, refl), tt))
    by true false = ((3, omega arith, refl), ((7, omega arith, refl), ((4, omega arith, refl), tt)))
    by false true = ((7, omega arith, refl), tt)
    by false false = ((7, omega arith, refl), ((4, omega arith, refl), tt))

-- ---- WHICH NOTES THESE ARE
told-in : (number : Card → List ℕ) (notes : List UnitNote) (events : List Event) → TellEvents number notes events → AreTold number (events_in notes) events
told-in number [] [] told = tt
told-in number [] (e ∷ events) told = absurd told
told-in number (Inserts insertion ∷ notes) events told = told-in number notes events told
told-in number (BeginsRow card session spared ∷ notes) events told = told-in number notes events told
told-in number (Tells v ∷ notes) [] told = absurd told
told-in number (Tells v ∷ notes) (e ∷ events) told = (told.0, told-in number notes events told.1)

pub ending-told : (number : Card → List ℕ) (second : ℕ) → second < 2 ^ 32 → (e : Entering) → e.at.second ≡ second → (ending : Ending) (noted : ℕ) (cabin : Cabin) (beforehand accepted left : Crew) → IsLow ending → AreNamed number ending e noted cabin beforehand accepted left →
    AreTold number (events_in (notes_by ending e noted cabin)) (events_by ending e.speed second beforehand accepted left)
ending-told number second low e at ending noted cabin beforehand accepted left small named =
    subst (λ (u : ℕ). AreTold number (events_in (notes_by ending e noted cabin)) (events_by ending e.speed u beforehand accepted left)) at
    (told-in number (notes_by ending e noted cabin) (events_by ending e.speed e.at.second beforehand accepted left) (events-told number second low e at ending noted cabin beforehand accepted left small named))

-- what was noted is what was added, but where the unit failed as an insertion was to be noted: then nothing was
pub noted-or : (ending : Ending) (speed second : ℕ) (beforehand accepted left : Crew) → (events_by ending speed second beforehand accepted left ≡ added_by ending speed second beforehand accepted left) ⊎ (events_by ending speed second beforehand accepted left ≡ [])
noted-or (Unfit fid place) speed second beforehand accepted left = inl refl
noted-or (Ahead stored) speed second beforehand accepted left = inl refl
noted-or Fell speed second beforehand accepted left = inl refl
noted-or Unasked speed second beforehand accepted left = inl refl
noted-or (Unnoted entered clock) speed second beforehand accepted left = inr refl
noted-or (Seated entered clock entry) speed second beforehand accepted left = inl refl
noted-or (Lost entered clock entry) speed second beforehand accepted left = inl refl

-- where none was noted, none of those that were to be is sure
none-noted : (o : Origin) (all : List Event) (d e : Devices) → NotesMore o none_sure (by_kind []) d e → NotesMore o none_sure (by_kind all) d e
none-noted o all d e none_came = λ c there. let one = none_came c there in (one.0, one.1, moment-first (number_in o) [] all one.0 c one.2)

-- so it is noted, or the unit failed in that
pub unsure-added : (o : Origin) (ending : Ending) (speed second : ℕ) (beforehand accepted left : Crew) (d e : Devices) → NotesSo true o (events_by ending speed second beforehand accepted left) d e → NotesUnsure o (added_by ending speed second beforehand accepted left) d e
unsure-added o ending speed second beforehand accepted left d e notes =
    let all : List Event = added_by ending speed second beforehand accepted left in
    ⊎_elim
    (λ same. subst (λ (es : List Event). NotesMore o none_sure (by_kind es) d e) same notes)
    (λ gone. none-noted o all d e (subst (λ (es : List Event). NotesMore o none_sure (by_kind es) d e) gone notes))
    (noted-or ending speed second beforehand accepted left)

-- ---- WHAT IT ADDS
module _ (d : Devices) (o : Origin) (done : List TraceSecond) (p : Progress) (span : List ToldSecond) (s : TraceSecond) (b : BeginsNow o done p span s) (n : ℕ) (log : RunLog) (r : Reaches p s (In n) log) (e : Entering) (second : e.at.second ≡ s.number) (begun : e.at.begun ≡ n)
    (early : e.at.late ≡ false) (sits : in_slot (course_at log (went p.log done).before s (In n)).slots e.slot ≡ Some (record { card = e.which; accepted = None })) (none : found_in log s.number (In n) e.slot ≡ []) (enters : (moved_at log (went p.log done).before s (In n)).enters e.slot ≡ true)
    (stays : (moved_at log (went p.log done).before s (In n)).leaving e.slot ≡ []) (first : n ≡ 0 → AreBare (went p.log done).before.slots × ComesInTurn e.slot log s.number) (other_unfound : (m : ℕ) → n ≡ suc m → found_in log s.number (In n) (other_slot e.slot) ≡ [])
    (apart : (m : ℕ) → n ≡ suc m → puts_into (other_slot e.slot) (slice_get s.actions m) ≡ false) (starts : n ≡ 0 → span ≡ []) where
  abbrev before : Before
  before = (went p.log done).before

  abbrev crew : Crew
  crew = crew_at p done s (In n) log

  abbrev bare : Crew
  bare = with_card e.slot None crew

  abbrev with_it : Crew
  with_it = with_card e.slot (Some e.which) crew

  found-at : (v : Verdict) → IsFindAt s (In n) (find_of e v)
  found-at v = record { second = second; begun = ap In begun }

  low : n ≤ length s.actions
  low = r.is

  torn-at : IsTearAt s (In n) e.slot true (tear_of e.slot e.at)
  torn-at = (e.at.begun, e.at.late, (λ i. Tear (second i) e.slot true e.at.begun e.at.late), (λ i. phase_of (begun i) (early i)), subst (λ (k : ℕ). k ≤ length s.actions) (sym begun) low, λ late. absurd (never (sym early ∙ late)))
    where
      never : false ≡ true → ⊥
      never wrong = absurd (cc)

  -- a find, by its session
  find-on : (v : Verdict) (session : ℕ) → IsOpenWith o (went p.log done).told done s e.which v session d → FindsMore o p.log done s log (and_find log (find_of e v)) e.which (cond (is_accepting v) (session ∷ []) []) → Adds o done s (stage_in n) log (stage_in n) (and_find log (find_of e v)) (judged_with session s.number s.speed e.slot e.which crew v) d
  find-on v session opened finds = find-adds d o done p span s b n log r (find_of e v) (found-at v) first (record { card = e.which; accepted = None }) sits none enters session opened finds

  -- who sits there by a log of this moment is the one that is out
  one-visit : (q : Option Sitting) (x : Sitting) → x.card ≡ e.which → q ≡ Some x → map {B = Visit} (λ (c : Card). record { phase = In n; slot = e.slot; card = c }) (card_in q) ≡ record { phase = In n; slot = e.slot; card = e.which } ∷ []
  one-visit q x card is = ap (λ (w : Option Sitting). map {B = Visit} (λ (c : Card). record { phase = In n; slot = e.slot; card = c }) (card_in w)) is ∙ ap (λ (c : Card). record { phase = In n; slot = e.slot; card = c } ∷ []) card

  one-out : (later : RunLog) (x : Sitting) → x.card ≡ e.which → in_slot (course_at later before s (In n)).slots e.slot ≡ Some x → ((moved_at later before s (In n)).leaving e.slot ≡ []) →
      IsOneOut (In n) e.slot e.which ((moved_at later before s (In n)).leaving e.slot ++ visits (In n) e.slot (course_at later before s (In n)).slots)
  one-out later x card there leaving =
      ap (λ (vs : List Visit). vs ++ visits (In n) e.slot (course_at later before s (In n)).slots) leaving ∙ one-visit (in_slot (course_at later before s (In n)).slots e.slot) x card there

  -- a tear, of who sits there by a log of this moment
  tear-on : (later : RunLog) → Reaches p s (In n) later → (x : Sitting) → x.card ≡ e.which → in_slot (course_at later before s (In n)).slots e.slot ≡ Some x → ((moved_at later before s (In n)).leaving e.slot ≡ []) → (n ≡ 0 → AreBare before.slots × ComesInTurn e.slot later s.number) →
      ((m : ℕ) → n ≡ suc m → found_in later s.number (In n) (other_slot e.slot) ≡ []) → (n ≡ 0 → s.speed ≡ 0 → x.accepted ≡ None) →
      Adds o done s (stage_in n) later (stage_in n) (and_break later (tear_of e.slot e.at)) (fault_with s.number e.slot (crew_at p done s (In n) later) ∷ []) d
  tear-on later reached x card there leaving turn unfound rest = by n refl
    where
      by : (k : ℕ) → n ≡ k → Adds o done s (stage_in n) later (stage_in n) (and_break later (tear_of e.slot e.at)) (fault_with s.number e.slot (crew_at p done s (In n) later) ∷ []) d
      by zero is = subst (λ (k : ℕ). Adds o done s (stage_in k) later (stage_in k) (and_break later (tear_of e.slot e.at)) (fault_with s.number e.slot (crew_at p done s (In k) later) ∷ []) d) (sym is)
          (waking-tear_adds d o done p s (subst (λ (l : List ToldSecond). BeginsNow o done p l s) (starts is) b) later (subst (λ (k : ℕ). Reaches p s (In k) later) is reached) (turn is).0 e.slot x (tear_of e.slot e.at)
          (subst (λ (k : ℕ). IsTearAt s (In k) e.slot true (tear_of e.slot e.at)) is torn-at) (subst (λ (k : ℕ). in_slot (course_at later before s (In k)).slots e.slot ≡ Some x) is there) (turn is).1 (rest is))
      by (suc m) is = subst (λ (k : ℕ). Adds o done s (stage_in k) later (stage_in k) (and_break later (tear_of e.slot e.at)) (fault_with s.number e.slot (crew_at p done s (In k) later) ∷ []) d) (sym is)
          (tear-adds d o done p span s b (In (suc m)) later (subst (λ (k : ℕ). Reaches p s (In k) later) is reached) e.slot e.which (tear_of e.slot e.at) (subst (λ (k : ℕ). IsTearAt s (In k) e.slot true (tear_of e.slot e.at)) is torn-at)
          (subst (λ (k : ℕ). is_torn_in later s.number (In k) e.slot ≡ false) is (who-sits later before s (In n) e.slot x there))
          (subst (λ (k : ℕ). (moved_at later before s (In k)).leaving e.slot ++ visits (In k) e.slot (course_at later before s (In k)).slots ≡ record { phase = In k; slot = e.slot; card = e.which } ∷ []) is (one-out later x card there leaving))
          (subst (λ (k : ℕ). found_in later s.number (In k) (other_slot e.slot) ≡ []) is (unfound m is)) (λ torn. apart m is))

  -- of the other slot the same may be found
  in-order : e.slot ≡ Driver → ((moved_at log before s (In n)).enters CoDriver ≡ false) ⊎ (found_in log s.number (In n) CoDriver ≡ [])
  in-order is = inr (by n refl)
    where
      by : (k : ℕ) → n ≡ k → found_in log s.number (In n) CoDriver ≡ []
      by zero is_n = (λ i. found_in log s.number (In (is_n i)) CoDriver) ∙ (subst (λ (q : Slot). ComesInTurn q log s.number) is (first is_n).1).1
      by (suc m) is_n = (λ i. found_in log s.number (In n) (other_slot (sym is i))) ∙ other_unfound m is_n

  -- behind the find of an accepted card
  module _ (replayed : ℕ) where
    abbrev f : Find
    f = find_of e (verdict.Accepted replayed)

    abbrev log1 : RunLog
    log1 = and_find log f

    abbrev sat : Sitting
    sat = record { card = e.which; accepted = Some s.number }

    reached : Reaches p s (In n) log1
    reached = (lines-reached p s (In n) log r).1 f (found-at (verdict.Accepted replayed))

    seen : IsFoundOf s.number (In n) e.slot (verdict.Accepted replayed) (course_at log before s (In n)) (course_at log1 before s (In n))
    seen = find-seen log before s (In n) f (found-at (verdict.Accepted replayed)) r.up_to (who-sits log before s (In n) e.slot (record { card = e.which; accepted = None }) sits) none enters in-order

    own-slot : (slot : Slot) (slots : Slots) (x : Sitting) → in_slot slots slot ≡ Some x → in_slot (with_slot slots slot (option_map {T = Sitting} (λ x. record x { accepted = Some s.number }) (in_slot slots slot))) slot ≡ Some (record x { accepted = Some s.number })
    own-slot Driver slots x is = ap (option_map {T = Sitting} {U = Sitting} (λ x. record x { accepted = Some s.number })) is
    own-slot CoDriver slots x is = ap (option_map {T = Sitting} {U = Sitting} (λ x. record x { accepted = Some s.number })) is

    own-crew : (slot : Slot) (slots : Slots) (q : Option Sitting) → with_card slot None (crew_of (with_slot slots slot q)) ≡ with_card slot None (crew_of slots)
    own-crew Driver slots q = refl
    own-crew CoDriver slots q = refl

    sits-then : in_slot (course_at log1 before s (In n)).slots e.slot ≡ Some sat
    sits-then = ap (λ (slots : Slots). in_slot slots e.slot) seen.slots ∙ own-slot e.slot (course_at log before s (In n)).slots (record { card = e.which; accepted = None }) sits

    crew-then : with_card e.slot None (crew_at p done s (In n) log1) ≡ bare
    crew-then = ap (λ (slots : Slots). with_card e.slot None (crew_of slots)) seen.slots
        ∙ own-crew e.slot (course_at log before s (In n)).slots (option_map {T = Sitting} (λ x. record x { accepted = Some s.number }) (in_slot (course_at log before s (In n)).slots e.slot))

    found-else : (q : Phase) (sl : Slot) → finds_here s.number q sl f ≡ false → found_in log1 s.number q sl ≡ found_in log s.number q sl
    found-else q sl off = (find-more log f s.number).found q sl ∙ ap (λ (c : Bool). found_in log s.number q sl ++ cond c (f.verdict ∷ []) []) off ∙ append-nil (found_in log s.number q sl)

    other-off : (q : Phase) → finds_here s.number q (other_slot e.slot) f ≡ false
    other-off q = (λ i. nat_eq f.second s.number && same_phase (In f.begun) q && slot-apart e.slot i) ∙ and-none (nat_eq f.second s.number && same_phase (In f.begun) q)

    earlier-off : (m k : ℕ) (sl : Slot) → n ≡ suc m → k ≤ m → finds_here s.number (In k) sl f ≡ false
    earlier-off m k sl is le =
        let far : nat_eq e.at.begun k ≡ false = (let ne : k < e.at.begun = omega (arith, begun, is, le) in grind (arith, nat_tests)) in
        ap (λ (c : Bool). nat_eq f.second s.number && c && same_slot f.slot sl) far ∙ ap (λ (c : Bool). c && same_slot f.slot sl) (and-none (nat_eq f.second s.number))

    stays-then : (moved_at log1 before s (In n)).leaving e.slot ≡ []
    stays-then = by n refl
      where
        by : (k : ℕ) → n ≡ k → (moved_at log1 before s (In n)).leaving e.slot ≡ []
        by zero is = λ i. (moved_at log1 before s (In (is i))).leaving e.slot
        by (suc m) is =
            (λ i. (moved_at log1 before s (In (is i))).leaving e.slot)
            ∙ ap (λ (c : Course). (moved_with m (slice_get s.actions m) s.speed c).leaving e.slot) (later-lines log log1 before s m (record {
              none = r.up_to.uncut;
              behind = inl ((find-more log f s.number).cut ∙ r.up_to.uncut);
              torn = λ k sl le. (find-more log f s.number).torn (In k) sl;
              found = λ k sl le. found-else (In k) sl (earlier-off m k sl is le);
            }))
            ∙ (λ i. (moved_at log before s (In (sym is i))).leaving e.slot)
            ∙ stays

    turn-then : n ≡ 0 → AreBare before.slots × ComesInTurn e.slot log1 s.number
    turn-then is = ((first is).0, by e.slot refl (first is).1)
      where
        by : (sl : Slot) → e.slot ≡ sl → ComesInTurn sl log s.number → ComesInTurn sl log1 s.number
        by CoDriver is_slot turn = tt
        by Driver is_slot turn = (
          (find-more log f s.number).torn (In 0) CoDriver ∙ turn.0,
          (λ i. found_in log1 s.number (In 0) (other_slot (sym is_slot i))) ∙ found-else (In 0) (other_slot e.slot) (other-off (In 0)) ∙ (λ i. found_in log s.number (In 0) (other_slot (is_slot i))) ∙ turn.1,
        )

    -- ACCEPTED, AND TORN OUT in the same call
    lost-adds : (session : ℕ) → IsOpenWith o (went p.log done).told done s e.which (verdict.Accepted replayed) session d → FindsMore o p.log done s log (and_find log (find_of e (verdict.Accepted replayed))) e.which (session ∷ []) → (n ≡ 0 → 0 < s.speed) →
        Adds o done s (stage_in n) log (stage_in n) (and_break log1 (tear_of e.slot e.at)) (moving_events s.speed s.number with_it ++ noted_with CARD_FAULT s.number s.number bare ∷ unclosed_events session s.number with_it) d
    lost-adds session opened finds moves =
        let judged : List Event = judged_with session s.number s.speed e.slot e.which crew (verdict.Accepted replayed) in
        let fault : Event = fault_with s.number e.slot (crew_at p done s (In n) log1) in
        let one : Event = noted_with CARD_FAULT s.number s.number bare in
        let moving : List Event = moving_events s.speed s.number with_it in
        let unclosed : List Event = unclosed_events session s.number with_it in
        let are : judged ++ fault ∷ [] ≡ moving ++ (unclosed ++ one ∷ []) =
        (λ i. judged-as session s.number s.speed e.slot e.which crew replayed i ++ noted_with CARD_FAULT s.number s.number (crew-then i) ∷ []) ∙ append_assoc moving unclosed (one ∷ []) in
        adds-as d o done s (stage_in n) log (stage_in n) (and_break log1 (tear_of e.slot e.at)) (judged ++ fault ∷ []) (moving ++ one ∷ unclosed)
        (λ kind. by-more moving (one ∷ unclosed) kind
        ∙ ap (λ (l : List Event). by_kind moving kind ++ l) (swapped kind one (nat_eq session 0) (noted_with SESSION_NOT_CLOSED session s.number with_it) refl)
        ∙ sym (by-more moving (unclosed ++ one ∷ []) kind) ∙ ap (λ (l : List Event). by_kind l kind) (sym are))
        (lost-kinds s.speed session s.number with_it bare)
        (steps-follow d o done s (stage_in n) (stage_in n) (stage_in n) log log1 (and_break log1 (tear_of e.slot e.at)) judged (fault ∷ [])
        (find-on (verdict.Accepted replayed) session opened finds)
        (tear-on log1 reached sat refl sits-then stays-then turn-then (λ m is. found-else (In n) (other_slot e.slot) (other-off (In n)) ∙ other_unfound m is) (λ is rest. absurd (moving-not rest (moves is)))))
      where
        moving-not : s.speed ≡ 0 → 0 < s.speed → ⊥
        moving-not rest moves = omega (arith, rest, moves)

  accepted-adds : (replayed session : ℕ) → IsOpenWith o (went p.log done).told done s e.which (verdict.Accepted replayed) session d → FindsMore o p.log done s log (and_find log (find_of e (verdict.Accepted replayed))) e.which (session ∷ []) →
      Adds o done s (stage_in n) log (stage_in n) (and_find log (find_of e (verdict.Accepted replayed))) (moving_events s.speed s.number with_it ++ unclosed_events session s.number with_it) d
  accepted-adds replayed session opened finds =
      subst (λ (es : List Event). Adds o done s (stage_in n) log (stage_in n) (and_find log (find_of e (verdict.Accepted replayed))) es d) (judged-as session s.number s.speed e.slot e.which crew replayed) (find-on (verdict.Accepted replayed) session opened finds)

  -- lines that are none
  found-only : (f : Find) → and_find log f ≡ record log { breaks = log.breaks ++ []; finds = log.finds ++ f ∷ [] }
  found-only f = λ i. record log { breaks = sym (append-nil log.breaks) i; finds = log.finds ++ f ∷ [] }

  torn-only : (line : Break) → and_break log line ≡ record log { breaks = log.breaks ++ line ∷ []; finds = log.finds ++ [] }
  torn-only line = λ i. record log { breaks = log.breaks ++ line ∷ []; finds = sym (append-nil log.finds) i }

  no-lines : log ≡ record log { breaks = log.breaks ++ []; finds = log.finds ++ [] }
  no-lines = λ i. record log { breaks = sym (append-nil log.breaks) i; finds = sym (append-nil log.finds) i }

  abbrev AddsTo : RunLog → List Event → Type 0
  AddsTo later es = Adds o done s (stage_in n) log (stage_in n) later es d

  pub ending-adds : (ending : Ending) → IsOpened ending o (went p.log done).told done s e.which d → AreFound ending o p.log done s log e → (n ≡ 0 → FallsMoving ending s.speed) → Adds o done s (stage_in n) log (stage_in n) (log_with ending e log) (added_by ending s.speed s.number bare with_it bare) d
  ending-adds (Unfit fid place) opened finds moves = subst (λ (l : RunLog). AddsTo l (noted_with CARD_NOT_VALID s.number s.number bare ∷ [])) (found-only (find_of e (verdict.NotValid fid place))) (find-on (verdict.NotValid fid place) 0 (λ wrong. absurd (unaccepted wrong)) finds)
    where
      unaccepted : false ≡ true → ⊥
      unaccepted wrong = absurd (cc)
  ending-adds (Ahead stored) opened finds moves =
      subst (λ (l : RunLog). AddsTo l (noted_with TIME_OVERLAP s.number stored bare ∷ [])) (found-only (find_of e (verdict.TimeOverlap stored e.at.second))) (find-on (verdict.TimeOverlap stored e.at.second) 0 (λ wrong. absurd (unaccepted wrong)) finds)
    where
      unaccepted : false ≡ true → ⊥
      unaccepted wrong = absurd (cc)
  ending-adds Fell opened finds moves = subst (λ (l : RunLog). AddsTo l (noted_with CARD_FAULT s.number s.number bare ∷ [])) (torn-only (tear_of e.slot e.at)) (tear-on log r (record { card = e.which; accepted = None }) refl sits stays first other_unfound (λ is rest. refl))
  ending-adds Unasked opened finds moves = subst (λ (l : RunLog). AddsTo l []) no-lines (adds-nothing d o done s (stage_in n) log)
  ending-adds (Unnoted entered clock) opened finds moves =
      subst (λ (l : RunLog). AddsTo l (moving_events s.speed s.number with_it ++ unclosed_events entered.look.session s.number with_it)) (found-only (find_of e (verdict.Accepted entered.replayed))) (accepted-adds entered.replayed entered.look.session opened finds)
  ending-adds (Seated entered clock entry) opened finds moves =
      subst (λ (l : RunLog). AddsTo l (moving_events s.speed s.number with_it ++ unclosed_events entered.look.session s.number with_it)) (found-only (find_of e (verdict.Accepted entered.replayed))) (accepted-adds entered.replayed entered.look.session opened finds)
  ending-adds (Lost entered clock entry) opened finds moves = lost-adds entered.replayed entered.look.session opened finds moves

  -- IT IS NOTED: the second goes on;
  pub judged-goes : (old : Devices) (ending : Ending) → IsOpened ending o (went p.log done).told done s e.which d → AreFound ending o p.log done s log e → (n ≡ 0 → FallsMoving ending s.speed) → EventedNow o done s p (stage_in n) log old → NotesSo false o (events_by ending s.speed s.number bare with_it bare) old d →
      events_by ending s.speed s.number bare with_it bare ≡ added_by ending s.speed s.number bare with_it bare → HaveLeftMore o old d → EventedNow o done s p (stage_in n) (log_with ending e log) d
  judged-goes old ending opened finds moves now notes same left =
      call-notes old d o done s p (stage_in n) (stage_in n) log (log_with ending e log) (added_by ending s.speed s.number bare with_it bare) now (ending-adds ending opened finds moves) (subst (λ (es : List Event). NotesThese o es old d) same notes) left

  -- or the unit failed in that, and the cut that is told ends it.
  pub judged-cut : (old : Devices) (ending : Ending) → IsOpened ending o (went p.log done).told done s e.which d → AreFound ending o p.log done s log e → (n ≡ 0 → FallsMoving ending s.speed) → EventedNow o done s p (stage_in n) log old → NotesSo true o (events_by ending s.speed s.number bare with_it bare) old d → HaveLeftMore o old d →
      (waits : List Visit) (mid now after : Device → ℕ) → Moment p before s (In n) (log_with ending e log) waits mid now → IsMore now after → RoseBy 1 (mid Recorder) (after Recorder) → (rest : List Action) → IsLeft s (In n) rest →
      Evented o (done ++ s ∷ []) (and_break (log_with ending e log) (cut_at s.number true n)) p.unfound (suc p.next) IsLost d
  judged-cut old ending opened finds moves now notes left waits mid counted after m rose broke rest is_left =
      failure-cuts old d o done p span s b (stage_in n) (stage_in n) log (log_with ending e log) (added_by ending s.speed s.number bare with_it bare) now (ending-adds ending opened finds moves)
      (unsure-added o ending s.speed s.number bare with_it bare old d notes) left (In n) waits mid counted after m rose broke rest is_left (λ ended. absurd (going n ended))
    where
      going : (k : ℕ) → stage_in k ≡ Ended → ⊥
      going zero ended = absurd (cc)
      going (suc k) ended = absurd (cc)

  -- ---- THE MOMENT that it reaches: what was found of it is told, and that it was torn out
  power-comes : In n ≡ In 0 → before.running ≡ false
  power-comes is =
      let here : n ≡ 0 = cc in
      let starts_ : not before.running ≡ true = subst (λ (k : ℕ). (moved_at log before s (In k)).enters e.slot ≡ true) here enters in
      by before.running starts_
    where
      by : (running : Bool) → not running ≡ true → running ≡ false
      by false is_ = refl
      by true is_ = absurd (cc)

  module _ (mid was later : Device → ℕ) (waits fewer : List Visit) (m : Moment p before s (In n) log waits mid was) (but : WaitBut (In n) e.slot e.which waits fewer) (behind : AllByRecursion (λ (x : Visit). x.phase ≡ In n) fewer)
      (rose : RoseBy 1 (mid Recorder) (later Recorder)) (rest : List Action) (is_left : IsLeft s (In n) rest) where
    judged-moment : (v : Verdict) → Moment p before s (In n) (and_find log (find_of e v)) fewer mid was
    judged-moment v = (card-judged p before s (In n) log waits fewer mid was m (find_of e v) (found-at v) (record { card = e.which; accepted = None }) sits none enters in-order but behind).0

    torn-moment : (l : RunLog) (many : List Visit) → Moment p before s (In n) l many mid was → (x : Sitting) → x.card ≡ e.which → in_slot (course_at l before s (In n)).slots e.slot ≡ Some x → (moved_at l before s (In n)).leaving e.slot ≡ [] → BrokeDown e.which was later →
        Moment p before s (In n) (and_break l (tear_of e.slot e.at)) many mid later
    torn-moment l many at x card there leaving broke =
        (card-torn p before s (In n) l many mid was later at e.slot (tear_of e.slot e.at) torn-at power-comes (who-sits l before s (In n) e.slot x there) e.which (one-out l x card there leaving) broke).0

    failing : (l : RunLog) (many : List Visit) (counted : Device → ℕ) → Moment p before s (In n) l many mid counted → IsMore counted later → IsFailing o done s p (In n) l later
    failing l many counted at up = record { waits = many; mid = mid; now = counted; moment = at; more = up; rose = rose; rest = rest; left = is_left }

    judged-fails : IsMore was later → (v : Verdict) → IsFailing o done s p (In n) (record log { breaks = log.breaks ++ []; finds = log.finds ++ find_of e v ∷ [] }) later
    judged-fails more v = subst (λ (l : RunLog). IsFailing o done s p (In n) l later) (found-only (find_of e v)) (failing (and_find log (find_of e v)) fewer was (judged-moment v) more)

    pub ending-fails : (ending : Ending) → (falls_of ending ≡ 0 → IsMore was later) → (falls_of ending ≡ 1 → BrokeDown e.which was later) → IsFailing o done s p (In n) (log_with ending e log) later
    ending-fails (Unfit fid place) more broke = judged-fails (more refl) (verdict.NotValid fid place)
    ending-fails (Ahead stored) more broke = judged-fails (more refl) (verdict.TimeOverlap stored e.at.second)
    ending-fails Fell more broke = subst (λ (l : RunLog). IsFailing o done s p (In n) l later) (torn-only (tear_of e.slot e.at))
        (failing (and_break log (tear_of e.slot e.at)) waits later (torn-moment log waits m (record { card = e.which; accepted = None }) refl sits stays (broke refl)) (record { unit = omega arith; cards = λ card. refl }))
    ending-fails Unasked more broke = subst (λ (l : RunLog). IsFailing o done s p (In n) l later) no-lines (failing log waits was m (more refl))
    ending-fails (Unnoted entered clock) more broke = judged-fails (more refl) (verdict.Accepted entered.replayed)
    ending-fails (Seated entered clock entry) more broke = judged-fails (more refl) (verdict.Accepted entered.replayed)
    ending-fails (Lost entered clock entry) more broke =
        failing (and_break (log1 entered.replayed) (tear_of e.slot e.at)) fewer later (torn-moment (log1 entered.replayed) fewer (judged-moment (verdict.Accepted entered.replayed)) (sat entered.replayed) refl (sits-then entered.replayed) (stays-then entered.replayed) (broke refl)) (record { unit = omega arith; cards = λ card. refl })
