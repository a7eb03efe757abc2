-- The interruption that ends as power is back, on the cards of a run: it is noted, or the unit failed in that; and where no span was before there is none.
use Rattle.std.proofs.Common.{◌≡◌, ◌∙◌, ℕ, ◌<◌, Bool, true, false, not, ◌||◌, ◌&&◌, nat_eq, Option, Some, None, is_some, List, [], ◌∷◌, ◌++◌, refl, ap, sym, subst, arith, append-nil, append_assoc}
use Rattle.std.specs.List.{AllByRecursion}
use Rattle.std.proofs.lemmas.Bool.Decides.{nat_tests}
use Rattle.activity_codec.specs.declared.values.Slot.{Slot}
use Rattle.activity_codec.specs.declared.values.Slot.TheVariants.{Driver, CoDriver}
use Rattle.trace_model.specs.declared.Card.{Card}
use Rattle.trace_model.specs.declared.Card.TheVariants.{A, B}
use Rattle.trace_model.specs.Trace.{TraceSecond}
use Rattle.device_calls.specs.event_model.declared.entries.Span.{Span}
use Rattle.device_calls.specs.event_model.Events.{Crew, Seen, seen_of, seen_spans}
use Rattle.device_calls.specs.event_model.Spans.{gap_of}
use Rattle.log_model.specs.declared.lines.Break.{Break}
use Rattle.log_model.specs.declared.lines.Find.{Find}
use Rattle.log_model.specs.Causes.{second_of}
use Rattle.log_model.specs.Log.{RunLog, Phase, In, cut_in, is_torn_in, found_in, tears_here}
use Rattle.log_model.specs.Slots.{in_slot, same_card}
use Rattle.log_model.specs.Course.{fresh, unmoved, went}
use Rattle.device_calls.specs.note_model.Done.{has_failed_in}
use Rattle.run_minutes.specs.card_slots.Calls.{seat_in, card_in}
use Rattle.tacho_types.specs.declared.texts.Registration.{Registration}
use Rattle.device_calls.specs.safety_model.Safe.{Devices, card_of}
use Rattle.device_calls.specs.run_unit_course.Followed.{UnitPower, MayPower}
use Rattle.device_calls.specs.run_unit_course.Lines.{cut_at}
use Rattle.run_acts.specs.run_crew.declared.cards.Cards.{Cards}
use Rattle.run_acts.specs.run_crew.declared.cards.Accepted.{Accepted}
use Rattle.run_acts.specs.run_crew.declared.cabin.Cabin.{Cabin}
use Rattle.run_acts.specs.run_crew.Cards.{session_of, with_session}
use Rattle.run_acts.specs.run_crew.Cabin.{CabinIsSound}
use Rattle.run_acts.specs.run_course.Followed.{Progress, BookFollowsRun}
use Rattle.run_acts.specs.run_course.Moments.{and_break}
use Rattle.run_acts.specs.run_course.Seconds.{GoesOnBy}
use Rattle.run_acts.proofs.run_course.Lookups.{break-more}
use Rattle.run_minutes.specs.Keeping.{with_lines, tear_of}
use Rattle.run_minutes.specs.declared.keeper.Moment.{Moment}
use Rattle.run_outcome.specs.Lines.{Listed}
use Rattle.run_outcome.specs.declared.outcome.Outcome.{Outcome}
use Rattle.run_minutes.specs.run_promise.Origin.{Origin, rule_of, start_at, first_of}
use Rattle.run_minutes.specs.run_promise.Beside.{HaveLeftMore}
use Rattle.run_minutes.specs.run_promise.Seconds.{found_again}
use Rattle.run_acts.specs.run_record.Recorded.{Values, RecordBetweenSeconds, progress}
use Rattle.run_acts.proofs.run_record.Pulling.{sitting-now}
use Rattle.run_acts.proofs.run_record.Seats.{card-seated}
use Rattle.run_acts.specs.run_note_record.Evented.{NotesNothing, Evented}
use Rattle.run_acts.specs.run_note_record.EventsSoFar.{AreBare, interruption}
use Rattle.run_acts.specs.run_note_record.Kept.{interruption_of}
use Rattle.run_acts.proofs.AllStay.{StoodBefore, known-fewer}
use Rattle.run_acts.specs.run_note_record.RingsSoFar.{HasMoreBreaks}
use Rattle.run_acts.proofs.run_note_record.SoFar.{failed-more}
use Rattle.run_acts.specs.declared.run.Run.{Run}
use Rattle.run_acts.specs.Acting.{IsNotedIn, now_moment}
use Rattle.run_acts.specs.Noting.{GapReach, NoGap, UnitFailed, DriverFell, BothSlots, IsGapNoted}
use Rattle.run_acts.specs.CardNotes.{NotesOn, NotesOnCards, gap_on}
use Rattle.run_acts.specs.Recording.{log_of, values_of, RunWithin}
use Rattle.run_acts.specs.RunRinged.{with_cut}
use Rattle.run_acts.specs.OnCards.{falls}
use Rattle.run_acts.specs.RunCards.{vehicle_in, seen_behind, CardsBehind, CardsIn, CardsWaking}
use Rattle.run_acts.proofs.CardUses.{woken-found}
use Rattle.run_acts.proofs.RingedSecond.{cut-found, cut-failed, power-here}
use Rattle.recorder_with_cards.specs.JudgedRings.{TellsHere}
use Rattle.recorder_with_cards.specs.CardsWoken.{CardsWoken}
use Rattle.recorder_with_cards.proofs.RingsHere.{here-then, here-cut}
use Rattle.recorder_with_cards.proofs.GapEvented.{gap_events as gap_list, gap-is, driver-gone}
use Rattle.recorder_with_cards.proofs.GapCards.{same-self, gap-cards}
use Rattle.recorder_with_cards.proofs.ActsCards.{cut-cards}
use Rattle.recorder_with_cards.proofs.WokenCards.{torn-more, torn-sitting}
use Rattle.recorder_with_cards.proofs.WokenEvented.{q-list, q-none, q-some}
use Rattle.recorder_with_cards.proofs.WokenRinged.{SatThere, sat-both}
use Rattle.recorder_with_cards.proofs.WakesCards.{waking-later}

-- ---- the list of the interruption, by the log as its second began

module _ (o : Origin) (done : List TraceSecond) (s : TraceSecond) (supply : UnitPower) (v : Values) (d e : Devices) (r : RecordBetweenSeconds o done supply v d) (may : MayPower supply v.next) (number : s.number ≡ v.next) (given : s.has_power ≡ true) (k : ℕ)
    (evented : Evented o done v.log v.unfound v.next supply d) (quiet : NotesNothing d e) (left : HaveLeftMore o d e) (followed : BookFollowsRun (rule_of o) (start_at o) o.from (first_of o) done (found_again k (progress v supply r.book))) where
  abbrev q : Progress
  q = found_again k (progress v supply r.book)

  goes-now : GoesOnBy q q.log s
  goes-now = record { number = number; given = given; breaks = ([], sym (append-nil q.log.breaks), tt); finds = ([], sym (append-nil q.log.finds), tt) }

  at-now : (crew : Crew) → interruption q.log (seen_spans (seen_of q.log done)) s.number crew ≡ interruption_of k (seen_spans (seen_of v.log done)) s.number crew
  at-now crew = q-list o done s supply v d e r may number given k evented quiet left followed q.log goes-now crew

  -- where a break was told before
  pub some-list : (log : RunLog) → log ≡ (found_again k (progress v supply r.book)).log → (v.log.breaks ≡ [] → ⊥) → (crew : Crew) → interruption log (seen_spans (seen_of log done)) s.number crew ≡ gap_list (gap_of k s.number) crew
  some-list log is some crew =
      ap (λ (l : RunLog). interruption l (seen_spans (seen_of l done)) s.number crew) is ∙ at-now crew ∙ gap-is k (seen_spans (seen_of v.log done)) s.number crew (q-some o done s supply v d e r may number given k evented quiet left followed some)

  -- and where none was
  pub none-list : (log : RunLog) → log ≡ (found_again k (progress v supply r.book)).log → v.log.breaks ≡ [] → (crew : Crew) → interruption log (seen_spans (seen_of log done)) s.number crew ≡ gap_list None crew
  none-list log is none crew =
      ap (λ (l : RunLog). interruption l (seen_spans (seen_of l done)) s.number crew) is ∙ at-now crew
      ∙ ap (λ (spans : List (List Seen)). interruption_of k spans s.number crew) (q-none o done s supply v d e r may number given k evented quiet left followed none)

-- ---- what a note tells

-- lines of a second
abbrev pub HasLines : (u : ℕ) → (breaks after : Listed Break) → Type 0
HasLines u breaks after = (more : List Break) × (after.items ≡ breaks.items ++ more) × AllByRecursion (λ (b : Break). second_of b ≡ u) more

lines-none : (u : ℕ) (breaks after : Listed Break) → after ≡ breaks → HasLines u breaks after
lines-none u breaks after is = ([], ap (λ (l : Listed Break). l.items) is ∙ sym (append-nil breaks.items), tt)

lines-both : (u : ℕ) (xs ys : List Break) → AllByRecursion (λ (b : Break). second_of b ≡ u) xs → AllByRecursion (λ (b : Break). second_of b ≡ u) ys → AllByRecursion (λ (b : Break). second_of b ≡ u) (xs ++ ys)
lines-both u [] ys one two = two
lines-both u (x ∷ xs) ys one two = (one.0, lines-both u xs ys one.1 two)

lines-then : (u : ℕ) (a b c : Listed Break) → HasLines u a b → HasLines u b c → HasLines u a c
lines-then u a b c first next = (
  first.0 ++ next.0,
  next.1 ∙ ap (λ (bs : List Break). bs ++ next.0) first.1 ∙ append_assoc a.items first.0 next.0,
  lines-both u first.0 next.0 first.2 next.2,
)

note-lines : (who : Option Card) (slot : Slot) (at : Moment) (old new : Run) (breaks after : Listed Break) (fell : Bool) → IsNotedIn who slot at old new breaks after fell → HasLines at.second breaks after
note-lines None slot at old new breaks after fell is = lines-none at.second breaks after is.1
note-lines (Some card) slot at old new breaks after false is = ([], ap (λ (l : Listed Break). l.items) is.0.told, tt)
note-lines (Some card) slot at old new breaks after true is = (tear_of slot at ∷ [], ap (λ (l : Listed Break). l.items) is.0.told, (refl, tt))

pub gap-lines : (gap : Option Span) (at : Moment) (failed : Bool) (old new : Run) (breaks after : Listed Break) (reach : GapReach) → IsGapNoted gap at failed old new breaks after reach → HasLines at.second breaks after
gap-lines None at failed old new breaks after NoGap is = lines-none at.second breaks after is.2
gap-lines None at failed old new breaks after UnitFailed is = absurd is
gap-lines None at failed old new breaks after DriverFell is = absurd is
gap-lines None at failed old new breaks after (BothSlots driver codriver) is = absurd is
gap-lines (Some gap) at failed old new breaks after NoGap is = absurd is
gap-lines (Some gap) at failed old new breaks after UnitFailed is = lines-none at.second breaks after is.2
gap-lines (Some gap) at failed old new breaks after DriverFell is = note-lines (card_in (seat_in old.keeper.cabin.slots.seats Driver)) Driver at old new breaks after true is.1
gap-lines (Some gap) at failed old new breaks after (BothSlots driver codriver) is =
    lines-then at.second breaks is.0.told after (note-lines (card_in (seat_in old.keeper.cabin.slots.seats Driver)) Driver at old is.0.between breaks is.0.told driver is.0.first)
    (note-lines (card_in (seat_in is.0.between.keeper.cabin.slots.seats CoDriver)) CoDriver at is.0.between new is.0.told after codriver is.0.second)

-- ---- WHO LOSES ITS SESSION in it fell: its slot has a tear line

-- another card keeps its own
session-left : (gone c : Card) (cards : Cards) → is_some (session_of cards c) ≡ true → is_some (session_of (with_session gone None cards) c) ≡ false → gone ≡ c
session-left A A cards some none = refl
session-left A B cards some none = absurd (let wrong : true ≡ false = sym some ∙ none in cc)
session-left B A cards some none = absurd (let wrong : true ≡ false = sym some ∙ none in cc)
session-left B B cards some none = refl

-- the line that tells it
abbrev pub IsFallen : Option Card → Slot → Moment → (breaks after : Listed Break) → Card → Type 0
IsFallen who slot at breaks after c = (who ≡ Some c) × (after ≡ with_lines (tear_of slot at ∷ []) breaks)

note-fell : (who : Option Card) (slot : Slot) (at : Moment) (old new : Run) (breaks after : Listed Break) (fell : Bool) → IsNotedIn who slot at old new breaks after fell → (c : Card) → is_some (session_of old.keeper.cabin.cards c) ≡ true → is_some (session_of new.keeper.cabin.cards c) ≡ false →
    IsFallen who slot at breaks after c
note-fell None slot at old new breaks after fell is c some none = absurd (let wrong : true ≡ false = sym some ∙ sym (ap (λ (r : Run). is_some (session_of r.keeper.cabin.cards c)) is.0) ∙ none in cc)
note-fell (Some card) slot at old new breaks after false is c some none = absurd (let wrong : true ≡ false = sym some ∙ sym (ap (λ (r : Run). is_some (session_of r.keeper.cabin.cards c)) is.0.run) ∙ none in cc)
note-fell (Some card) slot at old new breaks after true is c some none = (
  ap (λ (k : Card). Some k) (session-left card c old.keeper.cabin.cards some (sym (ap (λ (r : Run). is_some (session_of r.keeper.cabin.cards c)) is.0.run) ∙ none)),
  is.0.told,
)

-- the first note leaves the co-driver's seat
note-beside : (who : Option Card) (at : Moment) (old new : Run) (breaks after : Listed Break) (fell : Bool) → card_in (seat_in old.keeper.cabin.slots.seats Driver) ≡ who → IsNotedIn who Driver at old new breaks after fell → seat_in new.keeper.cabin.slots.seats CoDriver ≡ seat_in old.keeper.cabin.slots.seats CoDriver
note-beside None at old new breaks after fell sits is = ap (λ (r : Run). r.keeper.cabin.slots.seats.codriver) is.0
note-beside (Some card) at old new breaks after false sits is = ap (λ (r : Run). r.keeper.cabin.slots.seats.codriver) is.0.run
note-beside (Some card) at old new breaks after true sits is =
    ap (λ (r : Run). r.keeper.cabin.slots.seats.codriver) is.0.run
    ∙ ap (λ (k : Cabin). k.slots.seats.codriver) (driver-gone card at.second old.keeper.cabin (card-seated card old.keeper.cabin.slots.seats.driver sits))

-- a slot with a tear line at a moment, and lines behind it
abbrev pub HasTear : Slot → Moment → (breaks after : Listed Break) → Type 0
HasTear slot at breaks after = (front : List Break) × (rest : List Break) × (after.items ≡ ((breaks.items ++ front) ++ tear_of slot at ∷ []) ++ rest)

record Lost (at : Moment) (old : Run) (breaks after : Listed Break) (c : Card) : Type 0 where
  slot : Slot
  sits : card_in (seat_in old.keeper.cabin.slots.seats slot) ≡ Some c
  tear : HasTear slot at breaks after

gap-fell : (gap : Option Span) (at : Moment) (failed : Bool) (old new : Run) (breaks after : Listed Break) (reach : GapReach) → IsGapNoted gap at failed old new breaks after reach → (c : Card) → is_some (session_of old.keeper.cabin.cards c) ≡ true → is_some (session_of new.keeper.cabin.cards c) ≡ false →
    Lost at old breaks after c
gap-fell None at failed old new breaks after NoGap is c some none = absurd (let wrong : true ≡ false = sym some ∙ sym (ap (λ (r : Run). is_some (session_of r.keeper.cabin.cards c)) is.1) ∙ none in cc)
gap-fell None at failed old new breaks after UnitFailed is c some none = absurd is
gap-fell None at failed old new breaks after DriverFell is c some none = absurd is
gap-fell None at failed old new breaks after (BothSlots driver codriver) is c some none = absurd is
gap-fell (Some gap) at failed old new breaks after NoGap is c some none = absurd is
gap-fell (Some gap) at failed old new breaks after UnitFailed is c some none = absurd (let wrong : true ≡ false = sym some ∙ sym (ap (λ (r : Run). is_some (session_of r.keeper.cabin.cards c)) is.1) ∙ none in cc)
gap-fell (Some gap) at failed old new breaks after DriverFell is c some none =
    let f = note-fell (card_in (seat_in old.keeper.cabin.slots.seats Driver)) Driver at old new breaks after true is.1 c some none in
    record {
      slot = Driver;
      sits = f.0;
      tear = ([], [], ap (λ (l : Listed Break). l.items) f.1 ∙ ap (λ (bs : List Break). bs ++ tear_of Driver at ∷ []) (sym (append-nil breaks.items)) ∙ sym (append-nil ((breaks.items ++ []) ++ tear_of Driver at ∷ [])));
    }
gap-fell (Some gap) at failed old new breaks after (BothSlots driver codriver) is c some none = by (is_some (session_of is.0.between.keeper.cabin.cards c)) refl
  where
    second-lines : HasLines at.second is.0.told after
    second-lines = note-lines (card_in (seat_in is.0.between.keeper.cabin.slots.seats CoDriver)) CoDriver at is.0.between new is.0.told after codriver is.0.second

    first-lines : HasLines at.second breaks is.0.told
    first-lines = note-lines (card_in (seat_in old.keeper.cabin.slots.seats Driver)) Driver at old is.0.between breaks is.0.told driver is.0.first

    by : (b : Bool) → is_some (session_of is.0.between.keeper.cabin.cards c) ≡ b → Lost at old breaks after c
    by false gone =
        let f = note-fell (card_in (seat_in old.keeper.cabin.slots.seats Driver)) Driver at old is.0.between breaks is.0.told driver is.0.first c some gone in
        record {
          slot = Driver;
          sits = f.0;
          tear = ([], second-lines.0, second-lines.1 ∙ ap (λ (l : Listed Break). l.items ++ second-lines.0) f.1 ∙ ap (λ (bs : List Break). (bs ++ tear_of Driver at ∷ []) ++ second-lines.0) (sym (append-nil breaks.items)));
        }
    by true still =
        let f = note-fell (card_in (seat_in is.0.between.keeper.cabin.slots.seats CoDriver)) CoDriver at is.0.between new is.0.told after codriver is.0.second c still none in
        record {
          slot = CoDriver;
          sits = sym (ap card_in (note-beside (card_in (seat_in old.keeper.cabin.slots.seats Driver)) at old is.0.between breaks is.0.told driver refl is.0.first)) ∙ f.0;
          tear = (first-lines.0, [], ap (λ (l : Listed Break). l.items) f.1 ∙ ap (λ (bs : List Break). bs ++ tear_of CoDriver at ∷ []) first-lines.1 ∙ sym (append-nil ((breaks.items ++ first-lines.0) ++ tear_of CoDriver at ∷ [])));
        }

number-same : (u : ℕ) → nat_eq u u ≡ true
number-same u = grind (arith, nat_tests)

or-true : (b t : Bool) → t ≡ true → (b || t) ≡ true
or-true true t is = refl
or-true false t is = is

told-here : (u : ℕ) (slot : Slot) → tears_here u (In 0) slot (tear_of slot (record { second = u; begun = 0; late = false })) ≡ true
told-here u Driver = ap (λ (b : Bool). b && true && true) (number-same u)
told-here u CoDriver = ap (λ (b : Bool). b && true && true) (number-same u)

tear-told : (log : RunLog) (u : ℕ) (slot : Slot) → is_torn_in (and_break log (tear_of slot (record { second = u; begun = 0; late = false }))) u (In 0) slot ≡ true
tear-told log u slot =
    (break-more log (tear_of slot (record { second = u; begun = 0; late = false })) u).torn (In 0) slot
    ∙ or-true (is_torn_in log u (In 0) slot) (tears_here u (In 0) slot (tear_of slot (record { second = u; begun = 0; late = false }))) (told-here u slot)

finds-same : (log later : RunLog) → later.finds ≡ log.finds → (u : ℕ) (p : Phase) (slot : Slot) → found_in later u p slot ≡ found_in log u p slot
unfolding found_in
finds-same log later same u p slot = ap (λ (l : List Find). found_in (record log { finds = l }) u p slot) same

-- ---- THE INTERRUPTION IS NOTED on the cards; or the unit has failed in that, and they are as the cut leaves them that is told next

abbrev pub GapOn : (failed : Bool) → Origin → List TraceSecond → TraceSecond → (began log : RunLog) → Devices → Type 0
GapOn false o done s began log d = CardsIn o done s began [] log d
GapOn true o done s began log d = CardsBehind o (done ++ s ∷ []) (with_cut log s []) d

module _ (o : Origin) (done : List TraceSecond) (s : TraceSecond) (run : Run) (out : Outcome) (d e : Devices) (w : RunWithin o done s (In 0) [] [] run out d) (low : ℕ) (stands : CabinIsSound low None run.keeper.cabin) (off : (went w.within.b.run.log done).before.running ≡ false)
    (bare : AreBare (went w.within.b.run.log done).before.slots) (some : 0 < s.number) (gap : Option Span) (list : (crew : Crew) → interruption w.within.b.run.log (seen_spans (seen_of w.within.b.run.log done)) s.number crew ≡ gap_list gap crew) (vehicle : run.keeper.memory.registration ≡ vehicle_in o)
    (cards : CardsWaking o done s w.within.b.run.log (log_of out) d) (failed : Bool) (new : Run) (after : Listed Break) (reach : GapReach) (is : IsGapNoted gap (now_moment run) failed run new out.breaks after reach) (stood : StoodBefore o d e) (left : HaveLeftMore o d e)
    (uncut : failed ≡ true → cut_in (log_of (record out { breaks = after })) s.number ≡ None) (notes : NotesOnCards failed run.keeper.cabin.cards new.keeper.cabin.cards (λ card. gap_on gap run.keeper.memory.registration) d e) where
  abbrev told : RunLog
  told = log_of (record out { breaks = after })

  here : run.next ≡ s.number
  here = w.within.next ∙ sym w.within.moment.number

  lines : HasLines s.number out.breaks after
  lines = subst (λ (u : ℕ). HasLines u out.breaks after) here (gap-lines gap (now_moment run) failed run new out.breaks after reach is)

  tells : TellsHere (log_of out) (log_of (record out { breaks = after })) s.number
  tells = record { breaks = lines; finds = ([], sym (append-nil (log_of out).finds), tt) }

  -- by a log with all these lines
  module _ (later : RunLog) (more : HasMoreBreaks (log_of (record out { breaks = after })) later) (found : (k : ℕ) (slot : Slot) → found_in later s.number (In k) slot ≡ found_in (log_of (record out { breaks = after })) s.number (In k) slot) where
    all : HasMoreBreaks (log_of out) later
    all = (lines.0 ++ more.0, more.1 ∙ ap (λ (bs : List Break). bs ++ more.0) lines.1 ∙ append_assoc (log_of out).breaks lines.0 more.0)

    torn-then : (slot : Slot) → HasTear slot (now_moment run) out.breaks after → is_torn_in later s.number (In 0) slot ≡ true
    torn-then slot tear =
        let first : RunLog = record (log_of out) { breaks = (log_of out).breaks ++ tear.0 } in
        let line : Break = tear_of slot (record { second = s.number; begun = 0; late = false }) in
        let same : tear_of slot (now_moment run) ≡ line = ap (λ (u : ℕ). tear_of slot (record { second = u; begun = 0; late = false })) here in
        torn-more (and_break first line) later s.number (In 0) slot
        (tear.1 ++ more.0, more.1 ∙ ap (λ (bs : List Break). bs ++ more.0) (tear.2 ∙ ap (λ (b : Break). (((log_of out).breaks ++ tear.0) ++ b ∷ []) ++ tear.1) same) ∙ append_assoc (((log_of out).breaks ++ tear.0) ++ line ∷ []) tear.1 more.0)
        (tear-told first s.number slot)

    fell : (c : Card) → is_some (session_of run.keeper.cabin.cards c) ≡ true → is_some (session_of new.keeper.cabin.cards c) ≡ false → falls c (seen_behind w.within.b.run.log done s [] later) ≡ true
    fell c had gone =
        let l : Lost (now_moment run) run out.breaks after c = gap-fell gap (now_moment run) failed run new out.breaks after reach is c had gone in
        let sits = sitting-now o done s (In 0) (values_of run out) d w.within l.slot c l.sits low stands had in
        let sat : SatThere (record { card = c; accepted = Some sits.0 }) (in_slot (went w.within.b.run.log done).before.slots l.slot) =
        sat-both (log_of out) s.number (In 0) (unmoved (not (went w.within.b.run.log done).before.running)) l.slot (fresh (not (went w.within.b.run.log done).before.running) (went w.within.b.run.log done).before.slots) (record { card = c; accepted = Some sits.0 }) sits.1 in
        torn-sitting later (went w.within.b.run.log done).before s c l.slot sat.0 off sat.1 (ap (λ (k : Card). same_card k c) sat.2 ∙ same-self c) (torn-then l.slot l.tear)

    -- no find is told
    same : (k : ℕ) (slot : Slot) → found_in later s.number (In k) slot ≡ found_in (log_of out) s.number (In k) slot
    same k slot = found k slot ∙ finds-same (log_of out) (log_of (record out { breaks = after })) refl s.number (In k) slot

    shown : (failed ≡ true → has_failed_in later s.number ≡ true) → CardsIn o done s w.within.b.run.log [] later e
    shown fails =
        gap-cards o done s run out d w low stands off bare later (λ slot. same 0 slot) (λ slot torn. torn-more (log_of out) later s.number (In 0) slot all torn)
        e left (failed-more (log_of out) later all) cards failed new.keeper.cabin.cards run.keeper.memory.registration vehicle gap (list _) fails fell notes
        (λ c whose in_ known. (known-fewer whose o (log_of out) later all.0 d e all.1 stood known, woken-found o w.within.b.run.log done s (power-here o done s (In 0) [] None [] (values_of run out) d w.within) off c (log_of out) later same (λ k slot lt. w.within.moment.up_to.found (In k) slot lt)))

  by : (b : Bool) → failed ≡ b → GapOn b o done s w.within.b.run.log (log_of (record out { breaks = after })) e
  by false well = shown (log_of (record out { breaks = after })) ([], sym (append-nil after.items)) (λ k slot. refl) (λ fails. absurd (let clash : true ≡ false = sym fails ∙ well in cc))
  by true fails =
      let free = uncut fails in
      let cut : RunLog = with_cut (log_of (record out { breaks = after })) s [] in
      cut-cards o done s 0 run out d e w (record out { breaks = after }) [] s.actions refl
      (waking-later o done s (In 0) [] None [] (values_of run out) d w.within cut (here-then (log_of out) (log_of (record out { breaks = after })) cut s.number tells (here-cut (log_of (record out { breaks = after })) s [])) some) free
      (shown cut (cut_at s.number true 0 ∷ [], refl) (λ k slot. cut-found (log_of (record out { breaks = after })) s.number 0 free (In k) slot) (λ f. cut-failed (log_of (record out { breaks = after })) s.number 0 free))

  pub gap-shown : GapOn failed o done s w.within.b.run.log (log_of (record out { breaks = after })) e
  gap-shown = by failed refl

-- nothing is noted where there was none
pub none-noted : (cards : Cards) (own : Registration) (d : Devices) → NotesOnCards false cards cards (λ card. gap_on None own) d d
none-noted cards own d c = by (session_of cards c)
  where
    by : (q : Option Accepted) → NotesOn false q q [] (card_of d c) (card_of d c)
    by None = λ y there. there
    by (Some a) = λ y there. (y, there, λ kind. refl)

-- by the log as the second began
pub woken-all : (failed : Bool) (o : Origin) (done : List TraceSecond) (s : TraceSecond) (began first : RunLog) (run : Run) (log : RunLog) (d : Devices) → began ≡ first → run.keeper.memory.registration ≡ vehicle_in o → GapOn failed o done s began log d → CardsWoken failed first o done s run log d
woken-all false o done s began first run log d is vehicle h = (vehicle, subst (λ (l : RunLog). CardsIn o done s l [] log d) is h)
woken-all true o done s began first run log d is vehicle h = (vehicle, h)

-- and no call failed in that
pub none-fails : {T : Type 0} → false ≡ true → T
none-fails is = absurd (let wrong : false ≡ true = is in cc)
