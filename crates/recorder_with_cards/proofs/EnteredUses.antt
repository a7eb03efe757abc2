-- The uses that are found as a card is judged: where it is accepted the one that it has by the notes so far, and none on the other card.
use Rattle.std.proofs.Common.{◌≡◌, ◌∙◌, ◌⊎◌, inl, inr, ℕ, ◌<◌, Bool, true, false, cond, ◌&&◌, nat_eq, Option, None, List, [], ◌∷◌, ◌++◌, map, length, take, drop, refl, ap, sym, subst, arith, append-nil}
use Rattle.std.specs.Prelude.{filter}
use Rattle.std.proofs.lemmas.Bool.Decides.{nat_tests}
use Rattle.std.proofs.lemmas.List.{take-append-drop, length-take-le}
use Rattle.activity_codec.specs.declared.values.Slot.{Slot}
use Rattle.activity_codec.specs.declared.values.Slot.TheVariants.{Driver, CoDriver}
use Rattle.activity_codec.specs.Activity.{same_slot}
use Rattle.trace_model.specs.declared.Card.{Card}
use Rattle.trace_model.specs.Trace.{TraceSecond}
use Rattle.tacho_types.specs.declared.texts.Registration.{Registration}
use Rattle.tach_media.specs.Medium.{last_count}
use Rattle.tach_media.specs.card_layout.Application.{place_of_field}
use Rattle.tach_media.specs.card_layout.declared.files.Application.{Application}
use Rattle.device_calls.specs.card_image.Fields.{current_use, session_time}
use Rattle.device_calls.specs.card_image.Own.{own_sizes, IsOwnValid}
use Rattle.device_calls.specs.card_validity.declared.looking.CardLook.{CardLook}
use Rattle.device_calls.specs.card_validity.Judged.{IsLook}
use Rattle.device_calls.specs.card_files.declared.current_use.CurrentUse.{CurrentUse}
use Rattle.log_model.specs.declared.lines.Break.{Break}
use Rattle.log_model.specs.declared.lines.Find.{Find}
use Rattle.log_model.specs.declared.lines.Verdict.{Verdict}
use Rattle.log_model.specs.declared.lines.Verdict.TheVariants as verdict
use Rattle.log_model.specs.Log.{RunLog, Phase, In, same_phase, found_in, is_accepting}
use Rattle.log_model.specs.Slots.{same_card}
use Rattle.log_model.specs.Causes.{tears, cards_torn, device_of}
use Rattle.log_model.specs.Course.{Course, Visit, has_power, second_told, went}
use Rattle.device_calls.specs.note_model.Noted.{Note}
use Rattle.device_calls.specs.safety_model.Recording.{card_image}
use Rattle.device_calls.specs.safety_model.Safe.{Devices, card_of, breakdowns_of}
use Rattle.run_acts.specs.run_course.Moments.{and_break, and_find}
use Rattle.run_acts.proofs.run_course.Lookups.{break-more, find-more}
use Rattle.run_acts.specs.run_course.Reached.{IsTearAt, IsFindAt, moved_at, course_at}
use Rattle.run_acts.specs.run_rings.Notes.{accepts_by}
use Rattle.run_acts.specs.run_crew.Cards.{session_of}
use Rattle.run_minutes.specs.run_promise.Origin.{Origin}
use Rattle.run_minutes.specs.declared.keeper.Moment.{Moment}
use Rattle.run_minutes.specs.Keeping.{tear_of}
use Rattle.run_acts.specs.run_note_record.Uses.{uses_from, inserted, insertions_at, times_of, notes_now, vehicle_in, uses_in, use_now, told_so_far, NoneFailedOn, FindsMore}
use Rattle.run_acts.proofs.run_note_record.Uses.{times-append, card-is, card-self, card-turned}
use Rattle.run_acts.proofs.run_note_record.Brought.{lit-course}
use Rattle.run_acts.proofs.run_note_record.Whole.{whole-told}
use Rattle.run_acts.proofs.run_note_record.Exact.{torn-front, torn-last}
use Rattle.run_insertion.specs.declared.lines.Entering.{Entering}
use Rattle.run_insertion.specs.Entering.{Ending, Unfit, Ahead, Fell, Unasked, Unnoted, Seated, Lost, Way, Unread, Unsized, Judged, ending_of, find_of, APPLICATION_FILE}
use Rattle.run_insertion.specs.Entered.{IsFound, IsFoundIn}
use Rattle.run_acts.specs.run_record.Recorded.{Values}
use Rattle.run_acts.specs.run_record.Within.{RecordInSecond}
use Rattle.run_acts.specs.run_record.Judging.{IsNext}
use Rattle.run_acts.specs.Closings.{notes_within}
use Rattle.run_acts.specs.Recording.{IsOrigin}
use Rattle.run_acts.specs.RunCards.{sizes_in}
use Rattle.run_acts.specs.Truths.{truths_within, marked}
use Rattle.run_acts.specs.Stays.{Whose, Both, Only, covers, AreKnown, AllStay}
use Rattle.run_acts.proofs.CardStays.{valid-found}
use Rattle.run_acts.proofs.run_note_record.UsesSoFar.{FoundTo}
use Rattle.run_acts.proofs.CardUses.{others-found, mine-found}
use Rattle.run_acts.proofs.EnteredStays.{tear-at}
use Rattle.run_acts.proofs.NotesThen.{judged-notes, fallen-notes, lost-notes}
use Rattle.run_acts.proofs.RingedSecond.{power-here}
use Rattle.run_acts.proofs.StayUses.{use-now}
use Rattle.recorder_with_cards.proofs.EnteredAdds.{AreFound, log_with}
use Rattle.recorder_with_cards.proofs.EnteredLines.{verdicts_of}

neither : (a b c : Bool) → b ≡ false → (a && b && c) ≡ false
neither true true c is = absurd (let wrong : true ≡ false = is in cc)
neither true false c is = refl
neither false b c is = refl

-- LINES OF A SECOND, behind these notes, tell this of a card: it finds so, and the other card the same
pub record FindsBy (o : Origin) (began : RunLog) (done : List TraceSecond) (s : TraceSecond) (slot : Slot) (card : Card) (notes : List Note) (log later : RunLog) (verdicts : List Verdict) : Type 0 where
  pub others : (c : Card) → same_card card c ≡ false → uses_in o c (notes_now began done later s) ≡ uses_in o c (notes_now began done log s)
  pub own : (c : Card) → same_card card c ≡ true →
      uses_in o c (notes_now began done later s) ≡ uses_in o c (notes_now began done log s) ++ uses_from (vehicle_in o) (use_now o c notes) (insertions_at s.number slot c verdicts)

-- ---- A FIND, at the moment of a card that is the next

module _ (o : Origin) (done : List TraceSecond) (s : TraceSecond) (n : ℕ) (waits fewer : List Visit) (v : Values) (d : Devices) (w : RecordInSecond o done s (In n) waits None [] v d) (slot : Slot) (card : Card) (next : IsNext o done s (In n) waits fewer v d w slot card)
    (none : found_in v.log s.number (In n) slot ≡ []) (order : slot ≡ Driver → ((moved_at v.log (went w.b.run.log done).before s (In n)).enters CoDriver ≡ false) ⊎ (found_in v.log s.number (In n) CoDriver ≡ [])) where
  -- what was noted before it, and the uses that were found on a card by a log
  abbrev pub noted_before : List Note
  noted_before = notes_within w.b done s (In n) v.log

  abbrev pub uses_by : RunLog → Card → List CurrentUse
  uses_by log c = uses_in o c (notes_now w.b.run.log done log s)

  power : has_power (went w.b.run.log done).before s ≡ true
  power = power-here o done s (In n) waits None [] v d w

  parts : s.actions ≡ take n s.actions ++ drop n s.actions
  parts = sym (take-append-drop n s.actions)

  long : length (take n s.actions) ≡ n
  long = length-take-le n s.actions w.moment.is

  to : FoundTo v.log s.number (length (take n s.actions))
  to k x lt = w.moment.up_to.found (In k) x (let is = long in omega (arith, lt, is))

  -- by a log that tells of no find behind the moment, and by which this is noted
  noted-finds : (later : RunLog) (verdicts : List Verdict) → ((k : ℕ) (x : Slot) → n < k → found_in later s.number (In k) x ≡ []) → notes_within w.b done s (In n) later ≡ notes_within w.b done s (In n) v.log ++ accepts_by s.number slot card verdicts →
      FindsBy o w.b.run.log done s slot card noted_before v.log later verdicts
  noted-finds later verdicts behind noted =
      let to-later : FoundTo later s.number (length (take n s.actions)) = λ k x lt. behind k x (let is = long in omega (arith, lt, is)) in
      record {
        others = others-found o w.b.run.log done s power v.log later (take n s.actions) (drop n s.actions) parts to to-later slot card verdicts noted;
        own = mine-found o w.b.run.log done s power v.log later (take n s.actions) (drop n s.actions) parts to to-later slot card verdicts noted;
      }

  -- it fell
  pub fallen-finds : (b : Break) → IsTearAt s (In n) slot true b → FindsBy o w.b.run.log done s slot card noted_before v.log (and_break v.log b) []
  fallen-finds b tear = noted-finds (and_break v.log b) [] (λ k x lt. (break-more v.log b s.number).found (In k) x ∙ w.moment.up_to.found (In k) x lt) (fallen-notes o done s n waits fewer v d w slot card next b tear)

  pub nothing-finds : FindsBy o w.b.run.log done s slot card noted_before v.log v.log []
  nothing-finds = record { others = λ c other. refl; own = λ c is. sym (append-nil (uses_by v.log c)) }

  module _ (f : Find) (here : IsFindAt s (In n) f) (slot_is : f.slot ≡ slot) where
    behind : (k : ℕ) → n < k → same_phase (In f.begun) (In k) ≡ false
    behind k lt = ap (λ (p : Phase). same_phase p (In k)) here.begun ∙ (let apart : nat_eq n k ≡ false = grind (arith, nat_tests) in apart)

    -- nothing is told behind it
    to-later : FoundTo (and_find v.log f) s.number (length (take n s.actions))
    to-later k x lt =
        let is = long in let behind_ : n < k = omega (arith, lt, is) in
        (find-more v.log f s.number).found (In k) x ∙ ap (λ (b : Bool). found_in v.log s.number (In k) x ++ cond b (f.verdict ∷ []) []) (neither (nat_eq f.second s.number) (same_phase (In f.begun) (In k)) (same_slot f.slot x) (behind k behind_))
        ∙ append-nil (found_in v.log s.number (In k) x) ∙ to k x lt

    pub find-finds : FindsBy o w.b.run.log done s slot card noted_before v.log (and_find v.log f) (f.verdict ∷ [])
    find-finds =
        let noted = judged-notes o done s n waits fewer v d w slot card next none order f here slot_is in
        record {
          others = others-found o w.b.run.log done s power v.log (and_find v.log f) (take n s.actions) (drop n s.actions) parts to to-later slot card (f.verdict ∷ []) noted;
          own = mine-found o w.b.run.log done s power v.log (and_find v.log f) (take n s.actions) (drop n s.actions) parts to to-later slot card (f.verdict ∷ []) noted;
        }

    -- and fell then
    pub lost-finds : (b : Break) → IsTearAt s (In n) slot true b → FindsBy o w.b.run.log done s slot card noted_before v.log (and_break (and_find v.log f) b) (f.verdict ∷ [])
    lost-finds b tear =
        noted-finds (and_break (and_find v.log f) b) (f.verdict ∷ []) (λ k x lt. (break-more (and_find v.log f) b s.number).found (In k) x ∙ to-later k x (let is = long in omega (arith, lt, is)))
        (lost-notes o done s n waits fewer v d w slot card next b tear none order f here slot_is)

    -- as the session times tell it
    pub find-more-found : (session : ℕ) → (NoneFailedOn o v.log (told_so_far w.b.run.log done v.log s) card → IsOwnValid (card_image o.recording card) → is_accepting f.verdict ≡ true → (use_now o card noted_before).session.0 ≡ session) →
        FindsMore o w.b.run.log done s v.log (and_find v.log f) card (cond (is_accepting f.verdict) (session ∷ []) [])
    find-more-found session is c fine valid = by (same_card c card) refl
      where
        more : List CurrentUse
        more = uses_from (vehicle_in o) (use_now o c noted_before) (insertions_at s.number slot c (f.verdict ∷ []))

        told : (a : Bool) → is_accepting f.verdict ≡ a → same_card c card ≡ true →
            times_of (uses_from (vehicle_in o) (use_now o c noted_before) (map (λ (x : Verdict). inserted s.number slot c) (cond a (f.verdict ∷ []) []))) ≡ cond a (session ∷ []) []
        told true accepts own =
            ap (λ (k : ℕ). k ∷ [])
            (subst (λ (q : Card). NoneFailedOn o v.log (told_so_far w.b.run.log done v.log s) q → IsOwnValid (card_image o.recording q) → (use_now o q noted_before).session.0 ≡ session) (sym (card-is c card own)) (λ calm good. is calm good accepts) fine valid)
        told false accepts own = refl

        by : (b : Bool) → same_card c card ≡ b → times_of (uses_by (and_find v.log f) c) ≡ times_of (uses_by v.log c) ++ cond b (cond (is_accepting f.verdict) (session ∷ []) []) []
        by false other = ap times_of (find-finds.others c (card-turned card c ∙ other)) ∙ sym (append-nil (times_of (uses_by v.log c)))
        by true own =
            ap times_of (find-finds.own c (card-turned card c ∙ own)) ∙ times-append (uses_by v.log c) more
            ∙ ap (λ (l : List ℕ). times_of (uses_by v.log c) ++ l) (told (is_accepting f.verdict) refl own)

  -- ---- where no call has failed on it, nor on the unit, its stays are known
  untorn : filter (same_card card) (cards_torn (told_so_far w.b.run.log done v.log s)) ≡ [] → breakdowns_of d (device_of card) ≡ o.breakdowns (device_of card)
  untorn none_torn =
      let course : (second_told v.log (went w.b.run.log done).before s).course.torn ≡ (course_at v.log (went w.b.run.log done).before s (In n)).torn =
      ap (λ (k : Course). k.torn) (lit-course v.log (went w.b.run.log done).before s power) ∙ (whole-told v.log (went w.b.run.log done).before s (In n) w.moment.up_to w.moment.is).torn in
      let now : filter (same_card card) (map (λ (x : Visit). x.card) (course_at v.log (went w.b.run.log done).before s (In n)).torn) ≡ [] =
      ap (λ (vs : List Visit). filter (same_card card) (map (λ (x : Visit). x.card) vs)) (sym course) ∙ torn-last card (went w.b.run.log done).told (second_told v.log (went w.b.run.log done).before s) none_torn in
      let before : filter (same_card card) (cards_torn (went w.b.run.log done).told) ≡ [] = torn-front card (went w.b.run.log done).told (second_told v.log (went w.b.run.log done).before s ∷ []) none_torn in
      w.moment.calm_cards card (ap (λ (cs : List Card). length cs) now) ∙ w.began.caused.caused.calm_cards card (ap (λ (cs : List Card). length cs) before)

  pub known-by : NoneFailedOn o v.log (told_so_far w.b.run.log done v.log s) card → (whose : Whose) × AreKnown whose o v.log d × (covers whose card ≡ true)
  known-by fine = by fine.1
    where
      by : (tears true v.log ≡ []) ⊎ ((filter (same_card card) (cards_torn (told_so_far w.b.run.log done v.log s)) ≡ []) × (o.breakdowns (device_of card) < last_count)) → (whose : Whose) × AreKnown whose o v.log d × (covers whose card ≡ true)
      by (inl none_at_all) = (Both, (fine.0, none_at_all), refl)
      by (inr own) = (Only card, record { uncut = fine.0; low = own.1; stands = untorn own.0 }, card-self card)

  -- ---- the use that it has now, where its stays are known
  module _ (origin : IsOrigin o) (vehicle : Registration) (stay : AllStay o (marked v.marks (truths_within o w.b.run.log done s)) s.number v.log noted_before vehicle v.cabin d) (bare : session_of v.cabin.cards card ≡ None) where
    pub sizes-are : IsOwnValid (card_image o.recording card) → (x : List ℕ) → (card_of d card).may_leave x → own_sizes x ≡ sizes_in o card
    sizes-are valid x at = ((w.powered.go.held card (valid-found o origin card valid)).now x at).0 ∙ ap own_sizes (origin.image card)

    pub use-is : (whose : Whose) → covers whose card ≡ true → AreKnown whose o v.log d → IsOwnValid (card_image o.recording card) → (x : List ℕ) → (card_of d card).may_leave x → current_use (own_sizes x) x ≡ use_now o card noted_before
    use-is whose in_ known valid x at =
        ap (λ (a : Application). current_use a x) (sizes-are valid x at) ∙ use-now o origin (marked v.marks (truths_within o w.b.run.log done s)) s.number v.log noted_before vehicle v.cabin d stay card whose in_ known valid bare x at

-- ---- BY WHAT BECAME OF IT

module _ (o : Origin) (done : List TraceSecond) (s : TraceSecond) (n : ℕ) (waits fewer : List Visit) (v : Values) (d : Devices) (w : RecordInSecond o done s (In n) waits None [] v d) (e : Entering) (next : IsNext o done s (In n) waits fewer v d w e.slot e.which)
    (none : found_in v.log s.number (In n) e.slot ≡ []) (order : e.slot ≡ Driver → ((moved_at v.log (went w.b.run.log done).before s (In n)).enters CoDriver ≡ false) ⊎ (found_in v.log s.number (In n) CoDriver ≡ []))
    (moment : e.at ≡ record { second = s.number; begun = n; late = false }) where
  abbrev Finds : RunLog → List Verdict → Type 0
  Finds later verdicts = FindsBy o w.b.run.log done s e.slot e.which (notes_within w.b done s (In n) v.log) v.log later verdicts

  second : e.at.second ≡ s.number
  second = ap (λ (m : Moment). m.second) moment

  begun : e.at.begun ≡ n
  begun = ap (λ (m : Moment). m.begun) moment

  tear : IsTearAt s (In n) e.slot true (tear_of e.slot e.at)
  tear = tear-at s n e.slot e.at w.moment.is moment

  found-at : (x : Verdict) → IsFindAt s (In n) (find_of e x)
  found-at x = record { second = second; begun = ap In begun }

  -- its find alone
  alone : (x : Verdict) → Finds (record v.log { breaks = v.log.breaks ++ []; finds = v.log.finds ++ find_of e x ∷ [] }) (x ∷ [])
  alone x =
      subst (λ (bs : List Break). Finds (record v.log { breaks = bs; finds = v.log.finds ++ find_of e x ∷ [] }) (x ∷ [])) (sym (append-nil v.log.breaks))
      (find-finds o done s n waits fewer v d w e.slot e.which next none order (find_of e x) (found-at x) refl)

  -- its lines tell so
  pub ending-finds : (ending : Ending) → FindsBy o w.b.run.log done s e.slot e.which (notes_within w.b done s (In n) v.log) v.log (log_with ending e v.log) (verdicts_of ending e)
  ending-finds (Unfit fid place) = alone (verdict.NotValid fid place)
  ending-finds (Ahead stored) = alone (verdict.TimeOverlap stored e.at.second)
  ending-finds Fell =
      subst (λ (fs : List Find). Finds (record v.log { breaks = v.log.breaks ++ tear_of e.slot e.at ∷ []; finds = fs }) []) (sym (append-nil v.log.finds))
      (fallen-finds o done s n waits fewer v d w e.slot e.which next none order (tear_of e.slot e.at) tear)
  ending-finds Unasked =
      subst (λ (bs : List Break). Finds (record v.log { breaks = bs; finds = v.log.finds ++ [] }) []) (sym (append-nil v.log.breaks))
      (subst (λ (fs : List Find). Finds (record v.log { finds = fs }) []) (sym (append-nil v.log.finds)) (nothing-finds o done s n waits fewer v d w e.slot e.which next none order))
  ending-finds (Unnoted entered clock) = alone (verdict.Accepted entered.replayed)
  ending-finds (Seated entered clock entry) = alone (verdict.Accepted entered.replayed)
  ending-finds (Lost entered clock entry) = lost-finds o done s n waits fewer v d w e.slot e.which next none order (find_of e (verdict.Accepted entered.replayed)) (found-at (verdict.Accepted entered.replayed)) refl (tear_of e.slot e.at) tear

  -- ---- and the session that it found open is the one of the use that it has now
  module _ (origin : IsOrigin o) (vehicle : Registration) (stay : AllStay o (marked v.marks (truths_within o w.b.run.log done s)) s.number v.log (notes_within w.b done s (In n) v.log) vehicle v.cabin d) (bare : session_of v.cabin.cards e.which ≡ None) (y : List ℕ) (at : (card_of d e.which).may_leave y) where
    turned-away : (x : Verdict) → is_accepting x ≡ false → FindsMore o w.b.run.log done s v.log (and_find v.log (find_of e x)) e.which []
    turned-away x away =
        subst (λ (b : Bool). FindsMore o w.b.run.log done s v.log (and_find v.log (find_of e x)) e.which (cond b (0 ∷ []) [])) away
        (find-more-found o done s n waits fewer v d w e.slot e.which next none order (find_of e x) (found-at x) refl 0 (λ fine valid accepts. absurd (let wrong : true ≡ false = sym accepts ∙ away in cc)))

    accepted : (a : Application) → own_sizes y ≡ a → (replayed : ℕ) (look : CardLook) → IsLook a y look → FindsMore o w.b.run.log done s v.log (and_find v.log (find_of e (verdict.Accepted replayed))) e.which (look.session ∷ [])
    accepted a sizes replayed look is =
        find-more-found o done s n waits fewer v d w e.slot e.which next none order (find_of e (verdict.Accepted replayed)) (found-at (verdict.Accepted replayed)) refl look.session
        (λ fine valid accepts.
        let known = known-by o done s n waits fewer v d w e.slot e.which next none order fine in
        ap (λ (held : CurrentUse). held.session.0) (sym (use-is o done s n waits fewer v d w e.slot e.which next none order origin vehicle stay bare known.0 known.2 known.1 valid y at))
        ∙ ap (λ (b : Application). session_time b y) sizes ∙ sym is.session)

    ending-found : (a : Application) → own_sizes y ≡ a → (u : ℕ) (unit : Option (List ℕ)) (ending : Ending) → IsFound a u unit ending y → AreFound ending o w.b.run.log done s v.log e
    ending-found a sizes u unit (Unfit fid place) found = turned-away (verdict.NotValid fid place) refl
    ending-found a sizes u unit (Ahead stored) found = turned-away (verdict.TimeOverlap stored e.at.second) refl
    ending-found a sizes u unit Fell found = tt
    ending-found a sizes u unit Unasked found = tt
    ending-found a sizes u unit (Unnoted entered clock) found = accepted a sizes entered.replayed entered.look found.looked
    ending-found a sizes u unit (Seated entered clock entry) found = accepted a sizes entered.replayed entered.look found.looked
    ending-found a sizes u unit (Lost entered clock entry) found = accepted a sizes entered.replayed entered.look found.looked

    pub way-found : (u : ℕ) (unit : Option (List ℕ)) (way : Way) → IsFoundIn u unit way y → AreFound (ending_of way) o w.b.run.log done s v.log e
    way-found u unit Unread found = tt
    way-found u unit (Unsized field) found = turned-away (verdict.NotValid APPLICATION_FILE (place_of_field field)) refl
    way-found u unit (Judged a ending) found = ending-found a found.0 u unit ending found.1
