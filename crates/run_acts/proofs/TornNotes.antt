-- What is noted of a card stays, as lines tell that the other was torn out at the moment that a second has come to.
use Rattle.std.proofs.Common.{◌≡◌, ◌∙◌, inl, inr, ℕ, zero, suc, ◌+◌, ◌<◌, ◌≤◌, Bool, true, false, cond, not, Option, Some, None, is_some, List, [], ◌∷◌, ◌++◌, length, map, filter, take, option_map, refl, ap, sym, subst, arith, append-nil}
use Rattle.std.specs.Prelude.{nat_lt, slice_get}
use Rattle.std.specs.List.{list_any}
use Rattle.std.proofs.lemmas.Bool.Decides.{nat_tests}
use Rattle.activity_codec.specs.declared.values.Slot.{Slot}
use Rattle.activity_codec.specs.declared.values.Slot.TheVariants.{Driver, CoDriver}
use Rattle.activity_codec.specs.Activity.{same_slot}
use Rattle.trace_model.specs.declared.Card.{Card}
use Rattle.trace_model.specs.declared.Action.{Action}
use Rattle.trace_model.specs.declared.Action.TheVariants.{Select, Insert, Withdraw, Tear, Place, Manual}
use Rattle.trace_model.specs.Trace.{TraceSecond}
use Rattle.tach_media.specs.Medium.{last_count}
use Rattle.unit_model.specs.minute_model.declared.Minute.{Minute}
use Rattle.log_model.specs.declared.lines.SlotFault.{SlotFault}
use Rattle.log_model.specs.declared.lines.SlotFault.TheVariants.{Moving, Empty, NoCard}
use Rattle.log_model.specs.declared.lines.Verdict.{Verdict}
use Rattle.log_model.specs.Log.{RunLog, Phase, In, Keeping, same_phase, cut_in, is_torn_in, found_in, is_accepting}
use Rattle.log_model.specs.Slots.{Sitting, same_card, in_slot, is_accepted, refusal}
use Rattle.log_model.specs.Causes.{device_of, RoseBy, cards_torn}
use Rattle.log_model.specs.Course.{Course, Visit, Before, Moved, visits, card_in, leaves, with_slot, moved_by, both_told, slot_told, begins, all_acted, went}
use Rattle.unit_notes.specs.note_model.Done.{course_powered}
use Rattle.unit_notes.specs.note_model.Noted.{PlaceNote, Withdrawal, Note, Withdraws, Enters}
use Rattle.device_calls.specs.safety_model.Safe.{Devices, breakdowns_of}
use Rattle.run_events.specs.run_course.Lines.{times_of}
use Rattle.run_events.specs.run_course.Reached.{course_at, course_with, moved_with}
use Rattle.run_events.proofs.run_course.Lines.{times-append}
use Rattle.run_events.proofs.run_course.Moments.{later-lines as same-course-by}
use Rattle.run_events.specs.run_rings.Notes.{accepts_by, sits_accepted, notes_to, TellSameTo, NotesMore, course_behind}
use Rattle.run_events.proofs.run_rings.Notes.{judged_at, verdicts_at, later-lines}
use Rattle.run_events.proofs.run_rings.Actions.{power-notes, selections, pulls, entries, refusals, places, withdrawals, insertions}
use Rattle.run_minutes.specs.run_promise.Origin.{Origin}
use Rattle.run_note_record.specs.Ringed.{notes_in}
use Rattle.run_note_record.specs.RingsSoFar.{notes_so_far}
use Rattle.run_record.specs.Recorded.{Values}
use Rattle.run_record.specs.Within.{Beginning, RecordInSecond}
use Rattle.run_acts.specs.Closings.{spells_of, notes_within}
use Rattle.run_acts.specs.Stays.{IsUnhurt}
use Rattle.run_acts.proofs.Closings.{withdraws-others}
use Rattle.run_acts.proofs.RingedLines.{TellsBeside}
use Rattle.run_acts.proofs.RingedWithdrawn.{stands-still}
use Rattle.run_acts.proofs.SeatsThen.{same-itself, same-as}
use Rattle.run_acts.proofs.AllStay.{StoodBefore}
use Rattle.run_acts.proofs.NotesThen.{Parts, split, get-at, actions-at, notes-then, notes-later}

-- ---- a card that has not been torn out

none-rose : (n m o b d : ℕ) → RoseBy n o b → RoseBy m b d → o < last_count → d ≡ o → m ≡ 0
none-rose n m o b d (inl x) (inl y) low is = omega (arith, x, y, is)
none-rose n m o b d (inr x) (inl y) low is = absurd (omega (arith, x, y, low, is))
none-rose n m o b d (inl x) (inr y) low is = absurd (omega (arith, y, low, is))
none-rose n m o b d (inr x) (inr y) low is = absurd (omega (arith, y, low, is))

-- A CARD WHOSE COUNT STANDS was not torn out in a second so far
pub untorn-in : (o : Origin) (done : List TraceSecond) (s : TraceSecond) (at : Phase) (waits : List Visit) (speed : Option ℕ) (rest : List Minute) (v : Values) (d : Devices) (w : RecordInSecond o done s at waits speed rest v d) → (c : Card) → o.breakdowns (device_of c) < last_count → breakdowns_of d (device_of c) ≡ o.breakdowns (device_of c) →
    times_of c (course_at v.log (went w.b.run.log done).before s at).torn ≡ 0
untorn-in o done s at waits speed rest v d w c low is =
    none-rose (length (filter (same_card c) (cards_torn (went w.b.run.log done).told))) (times_of c (course_at v.log (went w.b.run.log done).before s at).torn) (o.breakdowns (device_of c)) (w.b.broken (device_of c)) (breakdowns_of d (device_of c))
    (w.began.caused.caused.torn_cards c) (w.moment.torn_cards c) low is

-- what is torn out of a slot
slot-torn : (log : RunLog) (u : ℕ) (p : Phase) (moved : Moved) (slot : Slot) (c : Course) → (slot_told log u p moved slot c).torn ≡ cond (is_torn_in log u p slot) (c.torn ++ (moved.leaving slot ++ visits p slot c.slots)) c.torn
slot-torn log u p moved slot c = by (is_torn_in log u p slot) (list_any is_accepting (verdicts_at log u p moved slot))
  where
    by : (b d : Bool) → (cond b (record (leaves slot (judged_at log u p moved slot c)) { torn = c.torn ++ (moved.leaving slot ++ visits p slot c.slots) })
        (cond d (record (judged_at log u p moved slot c) { slots = with_slot c.slots slot (option_map {T = Sitting} (λ x. record x { accepted = Some u }) (in_slot c.slots slot)) }) (judged_at log u p moved slot c))).torn ≡ cond b (c.torn ++ (moved.leaving slot ++ visits p slot c.slots)) c.torn
    by true d = refl
    by false true = refl
    by false false = refl

slot-more : (log : RunLog) (u : ℕ) (p : Phase) (moved : Moved) (slot : Slot) (c : Course) (k : Card) → times_of k c.torn ≤ times_of k (slot_told log u p moved slot c).torn
slot-more log u p moved slot c k = subst (λ (vs : List Visit). times_of k c.torn ≤ times_of k vs) (sym (slot-torn log u p moved slot c)) (by (is_torn_in log u p slot))
  where
    by : (b : Bool) → times_of k c.torn ≤ times_of k (cond b (c.torn ++ (moved.leaving slot ++ visits p slot c.slots)) c.torn)
    by true = let both = times-append k c.torn (moved.leaving slot ++ visits p slot c.slots) in omega (arith, both)
    by false = omega arith

itself : (v : Visit) → times_of v.card (v ∷ []) ≡ 1
itself v = ap (λ (b : Bool). length (cond {A = List Card} b (v.card ∷ []) [])) (same-itself v.card)

slot-one : (log : RunLog) (u : ℕ) (p : Phase) (moved : Moved) (slot : Slot) (c : Course) (v : Visit) → moved.leaving slot ≡ v ∷ [] → is_torn_in log u p slot ≡ true → 1 ≤ times_of v.card (slot_told log u p moved slot c).torn
slot-one log u p moved slot c v leaving torn =
    let now : (slot_told log u p moved slot c).torn ≡ c.torn ++ (v ∷ [] ++ visits p slot c.slots) =
    slot-torn log u p moved slot c ∙ ap (λ (b : Bool). cond b (c.torn ++ (moved.leaving slot ++ visits p slot c.slots)) c.torn) torn ∙ ap (λ (vs : List Visit). c.torn ++ (vs ++ visits p slot c.slots)) leaving in
    let times : times_of v.card (slot_told log u p moved slot c).torn ≡ times_of v.card (c.torn ++ (v ∷ [] ++ visits p slot c.slots)) = ap (times_of v.card) now in
    let first = times-append v.card c.torn (v ∷ [] ++ visits p slot c.slots) in
    let second = times-append v.card (v ∷ []) (visits p slot c.slots) in
    let one = itself v in
    omega (arith, times, first, second, one)

-- WHO LEAVES A SLOT is torn out with it
leaving-torn : (log : RunLog) (u : ℕ) (p : Phase) (moved : Moved) (slot : Slot) (c : Course) (v : Visit) → moved.leaving slot ≡ v ∷ [] → is_torn_in log u p slot ≡ true → 1 ≤ times_of v.card (both_told log u p moved c).torn
leaving-torn log u p moved Driver c v leaving torn =
    let first = slot-one log u p moved Driver c v leaving torn in
    let second = slot-more log u p moved CoDriver (slot_told log u p moved Driver c) v.card in
    omega (arith, first, second)
leaving-torn log u p moved CoDriver c v leaving torn = slot-one log u p moved CoDriver (slot_told log u p moved Driver c) v leaving torn

-- ---- what one action notes, by two logs

-- a place is entered by an accepted card
accepted-some : (b : Bool) (fault : SlotFault) → cond {A = Option SlotFault} b None (Some fault) ≡ None → b ≡ true
accepted-some true fault is = refl
accepted-some false fault is = absurd (cc)

-- and a withdrawal is of a card
withdrawn-some : (e m : Bool) (f g : SlotFault) → cond {A = Option SlotFault} (not e) (Some f) (cond m (Some g) None) ≡ None → e ≡ true
withdrawn-some true m f g is = refl
withdrawn-some false m f g is = absurd (cc)

slot-itself : (slot : Slot) → same_slot slot slot ≡ true
slot-itself Driver = refl
slot-itself CoDriver = refl

module _ (log later : RunLog) (was : Before) (s : TraceSecond) (front : List Action) (c : Card) (begun : begins (cut_in log s.number) (length front) ≡ true) (begun-later : begins (cut_in later s.number) (length front) ≡ true)
    (alike : course_behind later was s front ≡ course_behind log was s front) (found : (slot : Slot) → found_in later s.number (In (length front + 1)) slot ≡ found_in log s.number (In (length front + 1)) slot) where
  abbrev c0 : Course
  c0 = course_behind log was s front

  -- by either log it notes what makes the same of the spells of a card
  record Alike (a : Action) : Type 0 where
    one : List Note
    other : List Note
    by_log : NotesMore log was s front a one
    by_later : NotesMore later was s front a other
    same : (notes : List Note) → spells_of c (notes ++ other) ≡ spells_of c (notes ++ one)

  both-note : (a : Action) (more : List Note) → NotesMore log was s front a more → NotesMore later was s front a more → Alike a
  both-note a more first second = record { one = more; other = more; by_log = first; by_later = second; same = λ notes. refl }

  -- a card that leaves a slot with it is not torn out by either log
  abbrev Untorn : Action → Type 0
  Untorn a = (slot : Slot) → a ≡ Withdraw slot → refusal c0.slots s.speed (Withdraw slot) ≡ None → (x : Sitting) → in_slot c0.slots slot ≡ Some x → x.card ≡ c →
      (is_torn_in log s.number (In (length front + 1)) slot ≡ false) × (is_torn_in later s.number (In (length front + 1)) slot ≡ false)

  place-alike : (slot : Slot) (ending : Bool) (country region : ℕ) (q : Option Sitting) → in_slot c0.slots slot ≡ q → is_accepted q ≡ true → Alike (Place slot ending country region)
  place-alike slot ending country region None is accepted = absurd (let wrong : false ≡ true = accepted in cc)
  place-alike slot ending country region (Some x) is accepted =
      let p : PlaceNote = record { second = s.number; card = x.card; ending = ending; country = country; region = region } in
      both-note (Place slot ending country region) (Enters p ∷ []) (places log was s front begun slot ending country region x is accepted)
      (places later was s front begun-later slot ending country region x (ap (λ (k : Course). in_slot k.slots slot) alike ∙ is) accepted)

  -- a withdrawal
  module _ (slot : Slot) (x : Sitting) (is : in_slot c0.slots slot ≡ Some x) (still : nat_lt 0 s.speed ≡ false) where
    abbrev leaves_it : Withdrawal
    leaves_it = record { second = s.number; card = x.card }

    there-later : in_slot (course_behind later was s front).slots slot ≡ Some x
    there-later = ap (λ (k : Course). in_slot k.slots slot) alike ∙ is

    abbrev torn-note : Bool → List Note
    torn-note b = cond b [] (Withdraws (record { second = s.number; card = x.card }) ∷ [])

    by-log : is_some x.accepted ≡ true → (b : Bool) → is_torn_in log s.number (In (length front + 1)) slot ≡ b → NotesMore log was s front (Withdraw slot) (torn-note b)
    by-log accepted true torn = (withdrawals log was s front begun slot x is still).0 torn
    by-log accepted false torn = (withdrawals log was s front begun slot x is still).2 torn accepted

    by-later : is_some x.accepted ≡ true → (b : Bool) → is_torn_in later s.number (In (length front + 1)) slot ≡ b → NotesMore later was s front (Withdraw slot) (torn-note b)
    by-later accepted true torn = (withdrawals later was s front begun-later slot x there-later still).0 torn
    by-later accepted false torn = (withdrawals later was s front begun-later slot x there-later still).2 torn accepted

    -- of another card nothing is said either way
    either : same_card c x.card ≡ false → (b : Bool) (notes : List Note) → spells_of c (notes ++ torn-note b) ≡ spells_of c notes
    either other true notes = ap (λ (l : List Note). spells_of c l) (append-nil notes)
    either other false notes = withdraws-others c notes leaves_it other

    withdraw-alike : ((x.card ≡ c) → (is_torn_in log s.number (In (length front + 1)) slot ≡ false) × (is_torn_in later s.number (In (length front + 1)) slot ≡ false)) → Alike (Withdraw slot)
    withdraw-alike untorn = by x.accepted refl
      where
        accepted-by : (n : ℕ) → x.accepted ≡ Some n → is_some x.accepted ≡ true
        accepted-by n has = ap (λ (q : Option ℕ). is_some q) has

        own : (b : Bool) → same_card c x.card ≡ b → is_some x.accepted ≡ true → Alike (Withdraw slot)
        own true mine accepted =
            let out = untorn (sym (same-as c x.card mine)) in
            both-note (Withdraw slot) (torn-note false) (by-log accepted false out.0) (by-later accepted false out.1)
        own false other accepted = record {
          one = torn-note (is_torn_in log s.number (In (length front + 1)) slot);
          other = torn-note (is_torn_in later s.number (In (length front + 1)) slot);
          by_log = by-log accepted (is_torn_in log s.number (In (length front + 1)) slot) refl;
          by_later = by-later accepted (is_torn_in later s.number (In (length front + 1)) slot) refl;
          same = λ notes. either other (is_torn_in later s.number (In (length front + 1)) slot) notes ∙ sym (either other (is_torn_in log s.number (In (length front + 1)) slot) notes);
        }

        by : (q : Option ℕ) → x.accepted ≡ q → Alike (Withdraw slot)
        by None bare = both-note (Withdraw slot) [] ((withdrawals log was s front begun slot x is still).1 bare) ((withdrawals later was s front begun-later slot x there-later still).1 bare)
        by (Some n) has = own (same_card c x.card) refl (accepted-by n has)

  withdrawn : (slot : Slot) → refusal c0.slots s.speed (Withdraw slot) ≡ None → Untorn (Withdraw slot) → (q : Option Sitting) → in_slot c0.slots slot ≡ q → is_some q ≡ true → Alike (Withdraw slot)
  withdrawn slot fine untorn None is there = absurd (let wrong : false ≡ true = there in cc)
  withdrawn slot fine untorn (Some x) is there =
      withdraw-alike slot x is (stands-still (not (is_some (in_slot c0.slots slot))) (nat_lt 0 s.speed) (Empty slot) (Moving s.speed) fine) (λ mine. untorn slot refl fine x is mine)

  -- ONE ACTION, refused or not
  action-alike : (a : Action) (r : Option SlotFault) → refusal c0.slots s.speed a ≡ r → Untorn a → Alike a
  action-alike a (Some fault) is untorn = both-note a [] (refusals log was s front a fault is) (refusals later was s front a fault (ap (λ (k : Course). refusal k.slots s.speed a) alike ∙ is))
  action-alike (Select slot pick) None is untorn = both-note (Select slot pick) [] (selections log was s front slot pick) (selections later was s front slot pick)
  action-alike (Insert slot card) None is untorn =
      both-note (Insert slot card) (accepts_by s.number slot card (found_in log s.number (In (length front + 1)) slot)) (insertions log was s front begun slot card is)
      (subst (λ (vs : List Verdict). NotesMore later was s front (Insert slot card) (accepts_by s.number slot card vs)) (found slot) (insertions later was s front begun-later slot card (ap (λ (k : Course). refusal k.slots s.speed (Insert slot card)) alike ∙ is)))
  action-alike (Withdraw slot) None is untorn =
      withdrawn slot is untorn (in_slot c0.slots slot) refl (withdrawn-some (is_some (in_slot c0.slots slot)) (nat_lt 0 s.speed) (Empty slot) (Moving s.speed) is)
  action-alike (Tear slot) None is untorn = both-note (Tear slot) [] (pulls log was s front slot) (pulls later was s front slot)
  action-alike (Place slot ending country region) None is untorn =
      place-alike slot ending country region (in_slot c0.slots slot) refl (accepted-some (is_accepted (in_slot c0.slots slot)) (NoCard slot) is)
  action-alike (Manual slot pick minute) None is untorn = both-note (Manual slot pick minute) [] (entries log was s front slot pick minute) (entries later was s front slot pick minute)

  -- SO IT IS behind the action
  pub behind-alike : (b : Beginning) (done : List TraceSecond) → was ≡ (went b.run.log done).before → (rest : List Action) (a : Action) → s.actions ≡ front ++ a ∷ rest → TellSameTo log later s.number (length front) → Untorn a →
      spells_of c (notes_within b done s (In (suc (length front))) later) ≡ spells_of c (notes_within b done s (In (suc (length front))) log)
  behind-alike b done before rest a are same untorn =
      let x : Alike a = action-alike a (refusal c0.slots s.speed a) refl untorn in
      let more = λ (l : RunLog) (ns : List Note) (n : NotesMore l was s front a ns). subst (λ (w : Before). NotesMore l w s front a ns) before n in
      ap (λ (l : List Note). spells_of c l) (notes-then b done s front rest a later x.other are (more later x.other x.by_later))
      ∙ ap (λ (l : List Note). spells_of c (l ++ x.other)) (notes-later b done s front (a ∷ rest) log later are same)
      ∙ x.same (notes_within b done s (In (length front)) log)
      ∙ sym (ap (λ (l : List Note). spells_of c l) (notes-then b done s front rest a log x.one are (more log x.one x.by_log)))

-- ---- at a power-on

-- what is noted hangs on what was found alone
power-alike : (b : Beginning) (done : List TraceSecond) (s : TraceSecond) (log later : RunLog) → ((slot : Slot) → found_in later s.number (In 0) slot ≡ found_in log s.number (In 0) slot) → notes_within b done s (In 0) later ≡ notes_within b done s (In 0) log
power-alike b done s log later found = first later ∙ ap (λ (l : List Note). notes_in b.run.log done ++ l) (by (went b.run.log done).before.running refl) ∙ sym (first log)
  where
    was : Before
    was = (went b.run.log done).before

    first : (l : RunLog) → notes_within b done s (In 0) l ≡ notes_in b.run.log done ++ notes_to l (went b.run.log done).before s []
    first l = ap (λ (as_ : List Action). notes_so_far b.run.log done l s as_) (actions-at [] s.actions s.actions refl)

    by : (on : Bool) → (went b.run.log done).before.running ≡ on → notes_to later (went b.run.log done).before s [] ≡ notes_to log (went b.run.log done).before s []
    by true on = (power-notes later (went b.run.log done).before s).1 on ∙ sym ((power-notes log (went b.run.log done).before s).1 on)
    by false off =
        (power-notes later (went b.run.log done).before s).0 off
        ∙ (λ i. sits_accepted s.number Driver (went b.run.log done).before.slots.driver (found Driver i) ++ sits_accepted s.number CoDriver (went b.run.log done).before.slots.codriver (found CoDriver i))
        ∙ sym ((power-notes log (went b.run.log done).before s).0 off)

-- ---- AT A MOMENT

behind-apart : (n k : ℕ) → k ≤ n → same_phase (In (suc n)) (In k) ≡ false
behind-apart n k le = grind (arith, nat_tests)

module _ (b : Beginning) (done : List TraceSecond) (s : TraceSecond) (log later : RunLog) (c : Card) (uncut : cut_in log s.number ≡ None) where
  abbrev before_ : Before
  before_ = (went b.run.log done).before

  -- in an action
  module _ (m : ℕ) (p : Parts s.actions m) (beside : TellsBeside log later s.number (In (suc m))) (untorn : times_of c (course_at log (went b.run.log done).before s (In (suc m))).torn ≡ 0) (untorn-later : times_of c (course_at later (went b.run.log done).before s (In (suc m))).torn ≡ 0) where
    n-is : suc m ≡ suc (length p.front)
    n-is = let k = p.count in omega (arith, k)

    uncut-later : cut_in later s.number ≡ None
    uncut-later = beside.cut ∙ uncut

    apart : (k : ℕ) → k ≤ length p.front → same_phase (In (suc m)) (In k) ≡ false
    apart k le = ap (λ (j : ℕ). same_phase (In j) (In k)) n-is ∙ behind-apart (length p.front) k le

    same-to : TellSameTo log later s.number (length p.front)
    same-to = record {
      begun = λ k lt. ap (λ (q : Option ℕ). begins q k) uncut;
      begun_later = λ k lt. ap (λ (q : Option ℕ). begins q k) uncut-later;
      torn = λ k slot le. beside.torn (In k) slot (apart k le);
      found = λ k slot le. beside.found (In k) slot;
    }

    same-course : course_behind later before_ s p.front ≡ course_behind log before_ s p.front
    same-course =
        ap (λ (as_ : List Action). all_acted later s 0 as_ (course_powered later before_ s)) (sym (actions-at p.front (p.a ∷ p.rest) s.actions p.are))
        ∙ same-course-by log later before_ s (length p.front) (record { none = uncut; behind = inl uncut-later; torn = same-to.torn; found = same-to.found })
        ∙ ap (λ (as_ : List Action). all_acted log s 0 as_ (course_powered log before_ s)) (actions-at p.front (p.a ∷ p.rest) s.actions p.are)

    -- a card that leaves a slot with the action is not torn out by a log that tells so
    moment-torn : (l : RunLog) → course_behind l before_ s p.front ≡ course_behind log before_ s p.front → times_of c (course_at l before_ s (In (suc m))).torn ≡ 0 → (slot : Slot) → p.a ≡ Withdraw slot → refusal (course_behind log before_ s p.front).slots s.speed (Withdraw slot) ≡ None →
        (x : Sitting) → in_slot (course_behind log before_ s p.front).slots slot ≡ Some x → x.card ≡ c → is_torn_in l s.number (In (length p.front + 1)) slot ≡ false
    moment-torn l alike none slot is fine x there mine = sym same ∙ off (is_torn_in l s.number (In (suc m)) slot) refl
      where
        got : slice_get s.actions m ≡ Some (Withdraw slot)
        got = ap (λ (as_ : List Action). slice_get as_ m) p.are ∙ ap (λ (k : ℕ). slice_get (p.front ++ p.a ∷ p.rest) k) (sym p.count) ∙ get-at p.front p.a p.rest ∙ ap (λ (a : Action). Some a) is

        by-course : all_acted l s 0 (take m s.actions) (course_powered l before_ s) ≡ course_behind log before_ s p.front
        by-course =
            ap (λ (j : ℕ). all_acted l s 0 (take j s.actions) (course_powered l before_ s)) (sym p.count)
            ∙ ap (λ (as_ : List Action). all_acted l s 0 as_ (course_powered l before_ s)) (actions-at p.front (p.a ∷ p.rest) s.actions p.are)
            ∙ alike

        long : suc m ≡ length p.front + 1
        long = let k = p.count in omega (arith, k)

        same : is_torn_in l s.number (In (suc m)) slot ≡ is_torn_in l s.number (In (length p.front + 1)) slot
        same = ap (λ (j : ℕ). is_torn_in l s.number (In j) slot) long

        next : m + 1 ≡ suc m
        next = omega arith

        leaving : (moved_with m (slice_get s.actions m) s.speed (all_acted l s 0 (take m s.actions) (course_powered l before_ s))).leaving slot ≡ record { phase = In (suc m); slot = slot; card = c } ∷ []
        leaving =
            (λ i. (moved_with m (got i) s.speed (by-course i)).leaving slot)
            ∙ ap (λ (r : Option SlotFault). (moved_by m r (Withdraw slot) (course_behind log before_ s p.front).slots).leaving slot) fine
            ∙ ap (λ (b_ : Bool). cond {A = List Visit} b_ (visits (In (m + 1)) slot (course_behind log before_ s p.front).slots) []) (slot-itself slot)
            ∙ ap (λ (q : Option Sitting). map (λ (card : Card). record { phase = In (m + 1); slot = slot; card = card }) (card_in q)) there
            ∙ (λ i. record { phase = In (next i); slot = slot; card = mine i } ∷ [])

        off : (t : Bool) → is_torn_in l s.number (In (suc m)) slot ≡ t → is_torn_in l s.number (In (suc m)) slot ≡ false
        off false out = out
        off true torn =
            let some : 1 ≤ times_of c (course_at l before_ s (In (suc m))).torn =
            leaving-torn l s.number (In (suc m)) (moved_with m (slice_get s.actions m) s.speed (all_acted l s 0 (take m s.actions) (course_powered l before_ s))) slot (course_with m (slice_get s.actions m) s.speed (all_acted l s 0 (take m s.actions) (course_powered l before_ s))) (record { phase = In (suc m); slot = slot; card = c }) leaving torn in
            absurd (omega (arith, some, none))

    in-action : spells_of c (notes_within b done s (In (suc m)) later) ≡ spells_of c (notes_within b done s (In (suc m)) log)
    in-action =
        ap (λ (k : ℕ). spells_of c (notes_within b done s (In k) later)) n-is
        ∙ behind-alike log later before_ s p.front c (ap (λ (q : Option ℕ). begins q (length p.front)) uncut) (ap (λ (q : Option ℕ). begins q (length p.front)) uncut-later) same-course (λ slot. beside.found (In (length p.front + 1)) slot)
        b done refl p.rest p.a p.are same-to (λ slot is fine x there mine. (moment-torn log refl untorn slot is fine x there mine, moment-torn later same-course untorn-later slot is fine x there mine))
        ∙ ap (λ (k : ℕ). spells_of c (notes_within b done s (In k) log)) (sym n-is)

  -- WHAT IS NOTED OF A CARD that was not torn out in a second so far, by the one log and by the other
  pub spells-alike : (n : ℕ) → n ≤ length s.actions → TellsBeside log later s.number (In n) → times_of c (course_at log (went b.run.log done).before s (In n)).torn ≡ 0 → times_of c (course_at later (went b.run.log done).before s (In n)).torn ≡ 0 →
      spells_of c (notes_within b done s (In n) later) ≡ spells_of c (notes_within b done s (In n) log)
  spells-alike zero few beside untorn untorn-later = ap (λ (l : List Note). spells_of c l) (power-alike b done s log later (λ slot. beside.found (In 0) slot))
  spells-alike (suc m) few beside untorn untorn-later = in-action m (split s.actions m few) beside untorn untorn-later

  -- and behind all of its actions, as lines of its keeping are told
  pub spells-kept : TellsBeside log later s.number Keeping → spells_of c (notes_within b done s Keeping later) ≡ spells_of c (notes_within b done s Keeping log)
  spells-kept beside =
      ap (λ (l : List Note). spells_of c (notes_in b.run.log done ++ l)) (later-lines log later (went b.run.log done).before s s.actions (record {
        begun = λ k lt. ap (λ (q : Option ℕ). begins q k) uncut;
        begun_later = λ k lt. ap (λ (q : Option ℕ). begins q k) (beside.cut ∙ uncut);
        torn = λ k slot le. beside.torn (In k) slot refl;
        found = λ k slot le. beside.found (In k) slot;
      }))

-- SO IT IS OF A CARD that is unhurt behind a call, of which lines are told at a moment of an action; it stood before it
pub spells-unhurt : (o : Origin) (done : List TraceSecond) (s : TraceSecond) (n : ℕ) (waits more : List Visit) (rest left : List Minute) (v V : Values) (d e : Devices) (w : RecordInSecond o done s (In n) waits None rest v d) (x : RecordInSecond o done s (In n) more None left V e) → x.b ≡ w.b → n ≤ length s.actions → cut_in v.log s.number ≡ None →
    TellsBeside v.log V.log s.number (In n) → StoodBefore o d e → (k c : Card) → same_card k c ≡ true → IsUnhurt o V.log k e → spells_of c (notes_within w.b done s (In n) V.log) ≡ spells_of c (notes_within w.b done s (In n) v.log)
spells-unhurt o done s n waits more rest left v V d e w x began few uncut beside stood k c mine known =
    let own : IsUnhurt o V.log c e = subst (λ (y : Card). IsUnhurt o V.log y e) (same-as k c mine) known in
    spells-alike w.b done s v.log V.log c uncut n few beside
    (untorn-in o done s (In n) waits None rest v d w c own.low (stood c own.low own.stands))
    (subst (λ (b : Beginning). times_of c (course_at V.log (went b.run.log done).before s (In n)).torn ≡ 0) began (untorn-in o done s (In n) more None left V e x c own.low own.stands))
