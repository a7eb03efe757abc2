-- A card is put into a slot, and so the events of the cards go on: the minutes before note none, and what its judging brings it is noted.
use Rattle.std.proofs.Common.{◌≡◌, ◌∙◌, inl, inr, ℕ, suc, ◌+◌, ◌≤◌, Bool, true, false, cond, not, ◌||◌, Option, Some, None, option_map, List, [], ◌∷◌, ◌++◌, length, map, refl, ap, sym, subst, arith, append-nil, length-append}
use Rattle.std.specs.Prelude.{◌==◌, ◌&&◌, filter, flat_map, nat_lt}
use Rattle.std.specs.List.{list_any}
use Rattle.std.proofs.lemmas.List.Elements.{filter-append}
use Rattle.activity_codec.specs.declared.values.Slot.{Slot}
use Rattle.activity_codec.specs.declared.values.Slot.TheVariants.{Driver, CoDriver}
use Rattle.trace_model.specs.declared.Action.{Action}
use Rattle.trace_model.specs.declared.Action.TheVariants.{Insert}
use Rattle.trace_model.specs.declared.Card.{Card}
use Rattle.trace_model.specs.Trace.{TraceSecond}
use Rattle.device_calls.specs.card_files.declared.card_event.CardEvent.{CardEvent}
use Rattle.device_calls.specs.card_files.declared.current_use.CurrentUse.{CurrentUse}
use Rattle.device_calls.specs.event_model.declared.kinds.TheConstants.{INSERTION_WHILE_DRIVING, SESSION_NOT_CLOSED, POWER_INTERRUPTION}
use Rattle.device_calls.specs.event_model.Events.{Seen, number_of}
use Rattle.log_model.specs.declared.lines.Break.{Break}
use Rattle.log_model.specs.declared.lines.SlotFault.{SlotFault}
use Rattle.log_model.specs.declared.lines.Verdict.{Verdict}
use Rattle.log_model.specs.Log.{RunLog, Phase, In, cut_in, is_torn_in, found_in, is_accepting}
use Rattle.log_model.specs.Slots.{Sitting, in_slot, refusal, same_card}
use Rattle.log_model.specs.Course.{Course, Before, Moved, Visit, visits, leaves, with_slot, carried_out, answered, moved_by, slot_told, both_told, begins, acted, card_in, went}
use Rattle.device_calls.specs.safety_model.Safe.{Devices, card_of}
use Rattle.run_outcome.specs.declared.outcome.Outcome.{Outcome}
use Rattle.device_calls.specs.note_model.Done.{has_failed_in}
use Rattle.run_minutes.specs.run_promise.Origin.{Origin}
use Rattle.run_minutes.specs.run_promise.Beside.{HaveLeftMore}
use Rattle.run_acts.specs.run_note_record.Evented.{images_in}
use Rattle.run_acts.specs.run_note_record.Uses.{notes_now, uses_in}
use Rattle.run_acts.specs.Stays.{Whose, AreKnown}
use Rattle.run_acts.proofs.AllStay.{StoodBefore, known-uncut, no-cut}
use Rattle.run_insertion.specs.CardEvents.{events_in}
use Rattle.run_acts.specs.run_rings.Notes.{TellSameTo, course_behind}
use Rattle.run_acts.specs.run_note_record.RingsSoFar.{HasMoreBreaks}
use Rattle.run_acts.specs.run_note_record.Steps.{GoesOnTo, IsCutIn}
use Rattle.run_acts.proofs.run_note_record.SoFar.{failed-more}
use Rattle.run_acts.specs.run_record.Within.{course_in}
use Rattle.run_acts.specs.declared.run.Run.{Run}
use Rattle.run_acts.specs.Recording.{log_of, values_of, RunWithin}
use Rattle.run_acts.specs.RunRinged.{with_cut}
use Rattle.run_acts.specs.OnCards.{events_by, accepts, enters, falls, may_note, is_clear, is_sure_in, torn_times, judging, ComesTo, AreUses}
use Rattle.run_acts.specs.RunCards.{vehicle_in, sizes_in, seen_behind, CardsIn, CardsGoOn, StillShow}
use Rattle.run_acts.proofs.CardCourse.{quiet-same, behind-more, behind-same}
use Rattle.run_acts.proofs.CardBrings.{brought-nothing}
use Rattle.run_acts.proofs.CardSecond.{any-more, count-more, quiet-shown, put-shown}
use Rattle.run_acts.proofs.CardShown.{FindsUses, FindsStill}
use Rattle.run_acts.proofs.CardUses.{lines-still, cut-unknown, cut-still}
use Rattle.run_acts.proofs.RingedLines.{AreTears}
use Rattle.run_acts.proofs.RingedSecond.{cut-found, cut-torn, cut-failed, power-here}
use Rattle.recorder_with_cards.specs.JudgedCards.{IsSureHere, once_torn, IsJudgedOnCards}
use Rattle.recorder_with_cards.proofs.SettledLines.{TellsOn, tears-on}
use Rattle.recorder_with_cards.proofs.RingsHere.{here-then, here-more, goes-to, course-then, course-cut, is-cut}

-- ---- a card that is put in, and falls as it is judged, is torn out

abbrev pub mine : Card → List Visit → Bool
mine c vs = list_any (λ (v : Visit). same_card v.card c) vs

pub any-behind : (c : Card) (xs ys : List Visit) → mine c ys ≡ true → mine c (xs ++ ys) ≡ true
any-behind c [] ys is = is
any-behind c (x ∷ xs) ys is = ap (λ (b : Bool). same_card x.card c || b) (any-behind c xs ys is) ∙ by (same_card x.card c)
  where
    by : (b : Bool) → (b || true) ≡ true
    by true = refl
    by false = refl

module _ (log : RunLog) (u : ℕ) (p : Phase) (moved : Moved) (slot : Slot) (k : Course) where
  abbrev verdicts : List Verdict
  verdicts = cond (moved.enters slot) (found_in log u p slot) []

  abbrev judged : Course
  judged = record k { found = k.found ++ flat_map (λ visit. map (λ v. (visit, v)) (cond (moved.enters slot) (found_in log u p slot) [])) (visits p slot k.slots) }

  abbrev torn_out : Course
  torn_out = record (leaves slot judged) { torn = k.torn ++ (moved.leaving slot ++ visits p slot k.slots) }

  abbrev taken : Course
  taken = record judged { slots = with_slot k.slots slot (option_map {T = Sitting} (λ x. record x { accepted = Some u }) (in_slot k.slots slot)) }

  torn-told_ : is_torn_in log u p slot ≡ true → (slot_told log u p moved slot k).torn ≡ k.torn ++ (moved.leaving slot ++ visits p slot k.slots)
  torn-told_ is = ap (λ (b : Bool). (cond b torn_out (cond (list_any is_accepting verdicts) taken judged)).torn) is

  torn-more : (c : Card) → mine c k.torn ≡ true → mine c (slot_told log u p moved slot k).torn ≡ true
  torn-more c is = by (is_torn_in log u p slot) (list_any is_accepting verdicts)
    where
      by : (b e : Bool) → mine c (cond b torn_out (cond e taken judged)).torn ≡ true
      by true e = any-more (λ (v : Visit). same_card v.card c) k.torn (moved.leaving slot ++ visits p slot k.slots) is
      by false true = is
      by false false = is

  still-codriver : (b e : Bool) → slot ≡ Driver → (cond b torn_out (cond e taken judged)).slots.codriver ≡ k.slots.codriver
  still-codriver true e is = ap (λ (q : Slot). (with_slot k.slots q None).codriver) is
  still-codriver false true is = ap (λ (q : Slot). (with_slot k.slots q (option_map {T = Sitting} (λ x. record x { accepted = Some u }) (in_slot k.slots slot))).codriver) is
  still-codriver false false is = refl

put-torn : (log : RunLog) (s : TraceSecond) (n : ℕ) (slot : Slot) (card c : Card) (k : Course) → same_card card c ≡ true → begins (cut_in log s.number) n ≡ true → refusal k.slots s.speed (Insert slot card) ≡ None →
    is_torn_in log s.number (In (n + 1)) slot ≡ true → mine c (acted log s n (Insert slot card) k).torn ≡ true
put-torn log s n slot card c k own begun allowed torn =
    subst (λ (b : Bool). mine c (cond b (both_told log s.number (In (n + 1)) (moved_by n (refusal k.slots s.speed (Insert slot card)) (Insert slot card) k.slots) (answered n (refusal k.slots s.speed (Insert slot card)) (Insert slot card) k))
    (record k { settled = k.settled || true })).torn ≡ true) (sym begun)
    (subst (λ (r : Option SlotFault). mine c (both_told log s.number (In (n + 1)) (moved_by n r (Insert slot card) k.slots) (answered n r (Insert slot card) k)).torn ≡ true) (sym allowed) (put slot torn))
  where
    only : (sl : Slot) → mine c (record { phase = In (n + 1); slot = sl; card = card } ∷ []) ≡ true
    only sl = ap (λ (b : Bool). b || false) own

    put : (sl : Slot) → is_torn_in log s.number (In (n + 1)) sl ≡ true → mine c (both_told log s.number (In (n + 1)) (moved_by n None (Insert sl card) k.slots) (answered n None (Insert sl card) k)).torn ≡ true
    put Driver is =
        let moves : Moved = moved_by n None (Insert Driver card) k.slots in
        let begun_ : Course = carried_out n (Insert Driver card) k in
        torn-more log s.number (In (n + 1)) moves CoDriver (slot_told log s.number (In (n + 1)) moves Driver begun_) c
        (ap (mine c) (torn-told_ log s.number (In (n + 1)) moves Driver begun_ is) ∙ any-behind c k.torn (record { phase = In (n + 1); slot = Driver; card = card } ∷ []) (only Driver))
    put CoDriver is =
        let moves : Moved = moved_by n None (Insert CoDriver card) k.slots in
        let begun_ : Course = carried_out n (Insert CoDriver card) k in
        let mid : Course = slot_told log s.number (In (n + 1)) moves Driver begun_ in
        let sits : visits (In (n + 1)) CoDriver mid.slots ≡ record { phase = In (n + 1); slot = CoDriver; card = card } ∷ [] =
        ap (λ (q : Option Sitting). map (λ (x : Card). record { phase = In (n + 1); slot = CoDriver; card = x }) (card_in q))
        (still-codriver log s.number (In (n + 1)) moves Driver begun_ (is_torn_in log s.number (In (n + 1)) Driver) (list_any is_accepting (verdicts log s.number (In (n + 1)) moves Driver begun_)) refl) in
        ap (mine c) (torn-told_ log s.number (In (n + 1)) moves CoDriver mid is) ∙ any-behind c mid.torn (visits (In (n + 1)) CoDriver mid.slots) (ap (mine c) sits ∙ only CoDriver)

-- how often a card is among these
abbrev pub times : Card → List Visit → ℕ
times c vs = length (filter (λ (v : Visit). same_card v.card c) vs)

once-more : (c : Card) (xs ys : List Visit) → times c ys ≡ 1 → times c xs + 1 ≤ times c (xs ++ ys)
once-more c xs ys one =
    let both : times c (xs ++ ys) ≡ times c xs + times c ys = ap length (filter-append (λ (v : Visit). same_card v.card c) xs ys) ∙ length-append (filter (λ (v : Visit). same_card v.card c) xs) (filter (λ (v : Visit). same_card v.card c) ys) in
    omega (arith, both, one)

torn-no_fewer : (log : RunLog) (u : ℕ) (p : Phase) (moved : Moved) (slot : Slot) (k : Course) (c : Card) → times c k.torn ≤ times c (slot_told log u p moved slot k).torn
torn-no_fewer log u p moved slot k c = by (is_torn_in log u p slot) (list_any is_accepting (verdicts log u p moved slot k))
  where
    by : (b e : Bool) → times c k.torn ≤ times c (cond b (torn_out log u p moved slot k) (cond e (taken log u p moved slot k) (judged log u p moved slot k))).torn
    by true e = count-more (λ (v : Visit). same_card v.card c) k.torn (moved.leaving slot ++ visits p slot k.slots)
    by false true = omega arith
    by false false = omega arith

put-often : (log : RunLog) (s : TraceSecond) (n : ℕ) (slot : Slot) (card c : Card) (k : Course) → same_card card c ≡ true → begins (cut_in log s.number) n ≡ true → refusal k.slots s.speed (Insert slot card) ≡ None →
    is_torn_in log s.number (In (n + 1)) slot ≡ true → times c k.torn + 1 ≤ times c (acted log s n (Insert slot card) k).torn
put-often log s n slot card c k own begun allowed torn =
    subst (λ (b : Bool). times c k.torn + 1 ≤ times c (cond b (both_told log s.number (In (n + 1)) (moved_by n (refusal k.slots s.speed (Insert slot card)) (Insert slot card) k.slots) (answered n (refusal k.slots s.speed (Insert slot card)) (Insert slot card) k))
    (record k { settled = k.settled || true })).torn) (sym begun)
    (subst (λ (r : Option SlotFault). times c k.torn + 1 ≤ times c (both_told log s.number (In (n + 1)) (moved_by n r (Insert slot card) k.slots) (answered n r (Insert slot card) k)).torn) (sym allowed) (put slot torn))
  where
    only : (sl : Slot) → times c (record { phase = In (n + 1); slot = sl; card = card } ∷ []) ≡ 1
    only sl = ap (λ (b : Bool). length {A = Visit} (cond b (record { phase = In (n + 1); slot = sl; card = card } ∷ []) [])) own

    put : (sl : Slot) → is_torn_in log s.number (In (n + 1)) sl ≡ true → times c k.torn + 1 ≤ times c (both_told log s.number (In (n + 1)) (moved_by n None (Insert sl card) k.slots) (answered n None (Insert sl card) k)).torn
    put Driver is =
        let moves : Moved = moved_by n None (Insert Driver card) k.slots in
        let begun_ : Course = carried_out n (Insert Driver card) k in
        let first : Course = slot_told log s.number (In (n + 1)) moves Driver begun_ in
        let one : times c k.torn + 1 ≤ times c (slot_told log s.number (In (n + 1)) moves Driver begun_).torn =
        subst (λ (vs : List Visit). times c k.torn + 1 ≤ times c vs) (sym (torn-told_ log s.number (In (n + 1)) moves Driver begun_ is)) (once-more c k.torn (record { phase = In (n + 1); slot = Driver; card = card } ∷ []) (only Driver)) in
        let rest : times c (slot_told log s.number (In (n + 1)) moves Driver begun_).torn ≤ times c (slot_told log s.number (In (n + 1)) moves CoDriver first).torn = torn-no_fewer log s.number (In (n + 1)) moves CoDriver first c in
        omega (arith, one, rest)
    put CoDriver is =
        let moves : Moved = moved_by n None (Insert CoDriver card) k.slots in
        let begun_ : Course = carried_out n (Insert CoDriver card) k in
        let mid : Course = slot_told log s.number (In (n + 1)) moves Driver begun_ in
        let sits : visits (In (n + 1)) CoDriver mid.slots ≡ record { phase = In (n + 1); slot = CoDriver; card = card } ∷ [] =
        ap (λ (q : Option Sitting). map (λ (x : Card). record { phase = In (n + 1); slot = CoDriver; card = x }) (card_in q))
        (still-codriver log s.number (In (n + 1)) moves Driver begun_ (is_torn_in log s.number (In (n + 1)) Driver) (list_any is_accepting (verdicts log s.number (In (n + 1)) moves Driver begun_)) refl) in
        let first : times c k.torn ≤ times c mid.torn = torn-no_fewer log s.number (In (n + 1)) moves Driver begun_ c in
        let one : times c mid.torn + 1 ≤ times c (slot_told log s.number (In (n + 1)) moves CoDriver mid).torn =
        subst (λ (vs : List Visit). times c mid.torn + 1 ≤ times c vs) (sym (torn-told_ log s.number (In (n + 1)) moves CoDriver mid is))
        (once-more c mid.torn (visits (In (n + 1)) CoDriver mid.slots) (ap (times c) sits ∙ only CoDriver)) in
        omega (arith, first, one)

-- ---- what is sure of a card that enters

parts : (a b g : Bool) → (a || (b || g)) ≡ false → (a ≡ false) × (b ≡ false)
parts true b g is = absurd (let wrong : true ≡ false = is in cc)
parts false true g is = absurd (let wrong : true ≡ false = is in cc)
parts false false g is = (refl, refl)

fine : (f t : Bool) → (not f && not t) ≡ true → (f ≡ false) × (t ≡ false)
fine true t is = absurd (let wrong : false ≡ true = is in cc)
fine false true is = absurd (let wrong : false ≡ true = is in cc)
fine false false is = (refl, refl)

off : (b : Bool) (f : Bool) → (b ≡ true → f ≡ true) → f ≡ false → b ≡ false
off true f then is = absurd (let clash : true ≡ false = sym (then refl) ∙ is in cc)
off false f then is = refl

pub judged-sure : (c : Card) (log : RunLog) (x : Seen) (failed torn : Bool) → enters c x ≡ true → (failed ≡ true → has_failed_in log (number_of x) ≡ true) → (torn ≡ true → falls c x ≡ true) → (kind : ℕ) → is_sure_in c kind log x ≡ true → IsSureHere failed torn kind x.told.second.speed
judged-sure c log x failed torn entered fails falls_ kind sure = by (may_note c kind x) (is_clear c log x) refl refl
  where
    by : (m b : Bool) → may_note c kind x ≡ m → is_clear c log x ≡ b → IsSureHere failed torn kind x.told.second.speed
    by false b may clear = inr (parts (kind == SESSION_NOT_CLOSED) (kind == INSERTION_WHILE_DRIVING && nat_lt 0 x.told.second.speed) (kind == POWER_INTERRUPTION && x.told.starts) may)
    by true true may clear =
        let well = fine (has_failed_in log (number_of x)) (falls c x) clear in
        inl (off failed (has_failed_in log (number_of x)) fails well.0, off torn (falls c x) falls_ well.1)
    by true false may clear = absurd (let wrong : false ≡ true = sym (λ i. not (entered i && may i) || clear i) ∙ sure in cc)

-- ---- THE CARD IS PUT IN

module _ (o : Origin) (done : List TraceSecond) (s : TraceSecond) (front rest : List Action) (slot : Slot) (card : Card) (are : s.actions ≡ front ++ Insert slot card ∷ rest) (old : Run) (before : Outcome) (d : Devices) (w : RunWithin o done s (In (length front)) [] [] old before d)
    (cards : CardsIn o done s w.within.b.run.log front (log_of before) d) (allowed : refusal (course_in w.within.b done s (In (length front)) (log_of before)).slots s.speed (Insert slot card) ≡ None)
    (told : Outcome) (e : Devices) (lines : List Break) (log_is : log_of told ≡ record (log_of before) { breaks = before.breaks.items ++ lines }) (tears : AreTears (record { second = s.number; begun = suc (length front); late = false }) lines)
    (stood : StoodBefore o d e) (left : HaveLeftMore o d e) (still : StillShow o d e) where
  abbrev was : Before
  was = (went w.within.b.run.log done).before

  uncut : cut_in (log_of before) s.number ≡ None
  uncut = w.within.moment.up_to.uncut

  told-on : TellsOn (log_of before) (log_of told) s.number (length front)
  told-on = tears-on (log_of before) (log_of told) s.number (length front) lines log_is tears uncut

  -- no line that was told tells of a find
  quiet-lines : (c : Card) → FindsStill o c (log_of before) (log_of told) d e (uses_in o c (notes_now w.within.b.run.log done (log_of before) s)) (uses_in o c (notes_now w.within.b.run.log done (log_of told) s))
  quiet-lines =
      lines-still o w.within.b.run.log done s (power-here o done s (In (length front)) [] None [] (values_of old before) d w.within) (log_of before) (log_of told) front (Insert slot card ∷ rest) are told-on.same
      (λ k x lt. w.within.moment.up_to.found (In k) x lt) (λ k x lt. told-on.beside.found (In k) x ∙ w.within.moment.up_to.found (In k) x lt) lines (ap (λ (l : RunLog). l.breaks) log_is) d e stood

  -- the cards as this one is to be judged
  settled-on : CardsIn o done s w.within.b.run.log front (log_of told) e
  settled-on =
      let same : course_behind (log_of told) was s front ≡ course_behind (log_of before) was s front = behind-same (log_of before) (log_of told) s was front told-on.same in
      quiet-shown o done s w.within.b.run.log front front (log_of before) (log_of told) d e cards quiet-lines (failed-more (log_of before) (log_of told) told-on.more)
      (quiet-same (course_behind (log_of before) was s front) (course_behind (log_of told) was s front) (ap (λ (q : Course). q.found) same) (ap (λ (q : Course). q.entered) same) (ap (λ (q : Course). q.torn) same)) left still

  none-told : found_in (log_of told) s.number (In (suc (length front))) slot ≡ []
  none-told = told-on.beside.found (In (suc (length front))) slot ∙ w.within.moment.up_to.found (In (suc (length front))) slot (omega arith)

  longer : length front + 1 ≡ suc (length front)
  longer = omega arith

  -- ---- THE UNIT FAILED in the minutes before: nothing is found of it
  told-cut : IsCutIn w.within.b.run.log (log_of before) (with_cut (log_of told) s (front ++ Insert slot card ∷ [])) done s front (Insert slot card) rest
  told-cut = is-cut (log_of before) (log_of told) s front rest (Insert slot card) are uncut told-on.more told-on.same told-on.uncut o done (In (length front)) [] None [] (values_of old before) d w.within told-on.here

  pub unsettled-cards : CardsGoOn true o done s w.within.b.run.log (front ++ Insert slot card ∷ []) (log_of told) e
  unsettled-cards =
      let cut : RunLog = with_cut (log_of told) s (front ++ Insert slot card ∷ []) in
      let found : found_in cut s.number (In (length front + 1)) slot ≡ [] = ap (λ (k : ℕ). found_in cut s.number (In k) slot) longer ∙ cut-found (log_of told) s.number (length (front ++ Insert slot card ∷ [])) told-on.uncut (In (suc (length front))) slot ∙ none-told in
      put-shown o done s w.within.b.run.log front slot card (log_of before) cut d e cards (failed-more (log_of before) cut told-cut.goes.lines) told-cut.goes.same told-cut.goes.begun
      (ap (λ (q : Course). refusal q.slots s.speed (Insert slot card)) (course-cut (log_of before) (log_of told) s front rest (Insert slot card) are uncut told-on.more told-on.same told-on.uncut was) ∙ allowed)
      left (λ c valid other. still c valid)
      (λ c other. cut-still o c (log_of told) (log_of before) s.number (length (front ++ Insert slot card ∷ [])) d e (uses_in o c (notes_now w.within.b.run.log done (log_of before) s)) (uses_in o c (notes_now w.within.b.run.log done cut s)))
      (λ c valid own entered often.
      let x : Seen = seen_behind w.within.b.run.log done s (front ++ Insert slot card ∷ []) cut in
      let before_ : Seen = seen_behind w.within.b.run.log done s front (log_of before) in
      let least : torn_times c before_ ≤ torn_times c x = often in
      subst (λ (vs : List Verdict). (more : List CurrentUse) × FindsUses o c (log_of before) cut d e (uses_in o c (notes_now w.within.b.run.log done (log_of before) s)) more (uses_in o c (notes_now w.within.b.run.log done cut s)) × AreUses (images_in o e c) more (accepts s.number vs)
      × (many : ℕ) × (torn_times c before_ + many ≤ torn_times c x)
      × ComesTo (images_in o e c) (sizes_in o c) (λ kind. is_sure_in c kind cut x) (judging c (vehicle_in o) s.number s.speed many (accepts s.number vs) more) (card_of d c) (card_of e c)) (sym found) (
        [],
        cut-unknown o c (log_of told) (log_of before) s.number (length (front ++ Insert slot card ∷ [])) d e (uses_in o c (notes_now w.within.b.run.log done (log_of before) s)) [] (uses_in o c (notes_now w.within.b.run.log done cut s)),
        tt,
        0,
        omega (arith, least),
        λ y at.
            let now = still c valid y at in
            (now.0, now.1, λ kind. brought-nothing (images_in o e c) kind (is_sure_in c kind cut x) (judging c (vehicle_in o) s.number s.speed 0 [] []) (λ sure. nothing kind (nat_lt 0 s.speed)) (events_in (sizes_in o c) kind now.0) (events_in (sizes_in o c) kind y) (now.2 kind)),
      ))
    where
      empty : (q8 q5 q6 : Bool) → cond {A = List CardEvent} q8 [] (cond q5 [] (cond q6 [] [])) ≡ []
      empty true q5 q6 = refl
      empty false true q6 = refl
      empty false false true = refl
      empty false false false = refl

      nothing : (kind : ℕ) (l : Bool) → events_by kind [] (cond {A = List CardEvent} l [] []) [] ≡ []
      nothing kind true = empty (kind == POWER_INTERRUPTION) (kind == INSERTION_WHILE_DRIVING) (kind == SESSION_NOT_CLOSED)
      nothing kind false = empty (kind == POWER_INTERRUPTION) (kind == INSERTION_WHILE_DRIVING) (kind == SESSION_NOT_CLOSED)

  -- ---- or the card is judged
  module _ (failed : Bool) (after : Outcome) (f : Devices) (j : IsJudgedOnCards failed o w.within.b.run.log done s (suc (length front)) slot card told after e f) where
    uncut-after : cut_in (log_of after) s.number ≡ None
    uncut-after = j.cut ∙ told-on.uncut

    more-after : HasMoreBreaks (log_of told) (log_of after)
    more-after = here-more (log_of told) (log_of after) s.number j.here

    same-after : TellSameTo (log_of told) (log_of after) s.number (length front)
    same-after = j.same (length front) refl

    goes : GoesOnTo (log_of told) (log_of after) s front
    goes = goes-to (log_of told) (log_of after) s front rest (Insert slot card) are told-on.uncut more-after same-after uncut-after

    told-course : course_in w.within.b done s (In (length front)) (log_of told) ≡ course_in w.within.b done s (In (length front)) (log_of before)
    told-course = sym (behind-told (log_of told) told-on.same told-on.uncut) ∙ course-then (log_of before) (log_of told) s front rest (Insert slot card) are uncut told-on.more told-on.same told-on.uncut was
      where
        behind-told : (later : RunLog) → TellSameTo (log_of before) later s.number (length front) → cut_in later s.number ≡ None → course_behind later was s front ≡ course_in w.within.b done s (In (length front)) later
        behind-told later same none = course-then later later s front rest (Insert slot card) are none ([], sym (append-nil later.breaks)) (record { begun = same.begun_later; begun_later = same.begun_later; torn = λ k x le. refl; found = λ k x le. refl }) none was

    allowed-told : refusal (course_in w.within.b done s (In (length front)) (log_of told)).slots s.speed (Insert slot card) ≡ None
    allowed-told = ap (λ (q : Course). refusal q.slots s.speed (Insert slot card)) told-course ∙ allowed

    -- a card that falls as it is judged was torn out once more
    put-times : (c : Card) (later : RunLog) → TellSameTo (log_of told) later s.number (length front) → begins (cut_in later s.number) (length front) ≡ true → refusal (course_behind later was s front).slots s.speed (Insert slot card) ≡ None → same_card card c ≡ true →
        (torn : Bool) → is_torn_in later s.number (In (length front + 1)) slot ≡ torn →
        torn_times c (seen_behind w.within.b.run.log done s front (log_of told)) ≤ torn_times c (seen_behind w.within.b.run.log done s (front ++ Insert slot card ∷ []) later) →
        torn_times c (seen_behind w.within.b.run.log done s front (log_of told)) + once_torn torn ≤ torn_times c (seen_behind w.within.b.run.log done s (front ++ Insert slot card ∷ []) later)
    put-times c later same begun allowed_ own false is often = omega (arith, often)
    put-times c later same begun allowed_ own true is often =
        subst (λ (k : Course). times c k.torn + 1 ≤ times c (course_behind later was s (front ++ Insert slot card ∷ [])).torn) (behind-same (log_of told) later s was front same)
        (subst (λ (k : Course). times c (course_behind later was s front).torn + 1 ≤ times c k.torn) (sym (behind-more later was s front (Insert slot card)))
        (put-often later s (length front) slot card c (course_behind later was s front) own begun allowed_ is))

    -- by a log in which it begins so, and in which the same is found
    in-log : (later : RunLog) → HasMoreBreaks (log_of told) later → TellSameTo (log_of told) later s.number (length front) → begins (cut_in later s.number) (length front) ≡ true
        → refusal (course_behind later was s front).slots s.speed (Insert slot card) ≡ None
        → found_in later s.number (In (suc (length front))) slot ≡ found_in (log_of after) s.number (In (suc (length front))) slot
        → is_torn_in later s.number (In (suc (length front))) slot ≡ is_torn_in (log_of after) s.number (In (suc (length front))) slot
        → ((whose : Whose) → AreKnown whose o later f → later ≡ log_of after) → (failed ≡ true → has_failed_in later s.number ≡ true) → CardsIn o done s w.within.b.run.log (front ++ Insert slot card ∷ []) later f
    in-log later lines_ same begun allowed_ found torn alike fails =
        put-shown o done s w.within.b.run.log front slot card (log_of told) later e f settled-on (failed-more (log_of told) later lines_) same begun allowed_ j.left j.beside
        (λ c other whose in_ known.
        let is : later ≡ log_of after = alike whose known in
        (j.known whose (subst (λ (l : RunLog). AreKnown whose o l f) is known), ap (λ (l : RunLog). uses_in o c (notes_now w.within.b.run.log done l s)) is ∙ j.still c other))
        (λ c valid own entered often.
        let x : Seen = seen_behind w.within.b.run.log done s (front ++ Insert slot card ∷ []) later in
        let before_ : Seen = seen_behind w.within.b.run.log done s front (log_of told) in
        let torn_ : Bool = is_torn_in (log_of after) s.number (In (suc (length front))) slot in
        let torn_is : is_torn_in later s.number (In (length front + 1)) slot ≡ torn_ = ap (λ (k : ℕ). is_torn_in later s.number (In k) slot) longer ∙ torn in
        let b = j.own c valid own in
        let verdicts_ : found_in later s.number (In (length front + 1)) slot ≡ found_in (log_of after) s.number (In (suc (length front))) slot = ap (λ (k : ℕ). found_in later s.number (In k) slot) longer ∙ found in
        subst (λ (vs : List Verdict). (more : List CurrentUse) × FindsUses o c (log_of told) later e f (uses_in o c (notes_now w.within.b.run.log done (log_of told) s)) more (uses_in o c (notes_now w.within.b.run.log done later s)) × AreUses (images_in o f c) more (accepts s.number vs)
        × (many : ℕ) × (torn_times c before_ + many ≤ torn_times c x)
        × ComesTo (images_in o f c) (sizes_in o c) (λ kind. is_sure_in c kind later x) (judging c (vehicle_in o) s.number s.speed many (accepts s.number vs) more) (card_of e c) (card_of f c)) (sym verdicts_) (
          b.uses,
          (λ whose in_ known.
              let is : later ≡ log_of after = alike whose known in
              let then : AreKnown whose o (log_of after) f = subst (λ (l : RunLog). AreKnown whose o l f) is known in
              (j.known whose then, ap (λ (l : RunLog). uses_in o c (notes_now w.within.b.run.log done l s)) is ∙ b.exact whose in_ then)),
          b.are,
          once_torn torn_,
          put-times c later same begun allowed_ own torn_ torn_is often,
          b.notes (λ kind. is_sure_in c kind later x) (λ kind sure. judged-sure c later x failed torn_ entered fails
              (λ is. ap (λ (q : Course). mine c q.torn) (behind-more later was s front (Insert slot card))
              ∙ put-torn later s (length front) slot card c (course_behind later was s front) own begun allowed_ (torn_is ∙ is))
              kind sure),
        ))

    by : (b : Bool) → failed ≡ b → CardsGoOn b o done s w.within.b.run.log (front ++ Insert slot card ∷ []) (log_of after) f
    by false is = in-log (log_of after) more-after same-after goes.begun
        (ap (λ (q : Course). refusal q.slots s.speed (Insert slot card)) (course-then (log_of told) (log_of after) s front rest (Insert slot card) are told-on.uncut more-after same-after uncut-after was) ∙ allowed-told)
        refl refl (λ whose is. refl) (λ fails. absurd (let clash : true ≡ false = sym fails ∙ is in cc))
    by true is =
        let cuts : IsCutIn w.within.b.run.log (log_of told) (with_cut (log_of after) s (front ++ Insert slot card ∷ [])) done s front (Insert slot card) rest =
        is-cut (log_of told) (log_of after) s front rest (Insert slot card) are told-on.uncut more-after same-after uncut-after o done (In (length front)) [] None [] (values_of old before) d w.within
        (here-then (log_of before) (log_of told) (log_of after) s.number told-on.here j.here) in
        in-log (with_cut (log_of after) s (front ++ Insert slot card ∷ [])) cuts.goes.lines cuts.goes.same cuts.goes.begun
        (ap (λ (q : Course). refusal q.slots s.speed (Insert slot card)) (course-cut (log_of told) (log_of after) s front rest (Insert slot card) are told-on.uncut more-after same-after uncut-after was) ∙ allowed-told)
        (cut-found (log_of after) s.number (length (front ++ Insert slot card ∷ [])) uncut-after (In (suc (length front))) slot)
        (cut-torn (log_of after) s.number (length (front ++ Insert slot card ∷ [])) uncut-after (In (suc (length front))) slot)
        (λ whose is. no-cut (log_of after) s.number (length (front ++ Insert slot card ∷ [])) (known-uncut whose o (with_cut (log_of after) s (front ++ Insert slot card ∷ [])) f is))
        (λ fails. cut-failed (log_of after) s.number (length (front ++ Insert slot card ∷ [])) uncut-after)

    -- SO THE EVENTS OF THE CARDS GO ON
    pub inserted-cards : CardsGoOn failed o done s w.within.b.run.log (front ++ Insert slot card ∷ []) (log_of after) f
    inserted-cards = by failed refl
