-- What an acceptance brings of a card that enters for the first time: so many entries as the unit owed to it at the start, and each of them is marked.
use Rattle.std.proofs.Common.{◌≡◌, ◌⊎◌, inl, inr, ⊎_elim, ℕ, ◌≤◌, ◌<◌, None, List, [], ◌∷◌, ◌++◌, All, length, refl, ap, sym, subst, ◌∙◌, arith, append-nil}
use Rattle.std.specs.Prelude.{option_to_list}
use Rattle.std.proofs.lemmas.Bool.{cases_lt}
use Rattle.std.proofs.lemmas.List.Elements.{All-head, All-append}
use Rattle.activity_codec.specs.declared.entries.Entry.{Entry}
use Rattle.trace_model.specs.declared.Card.{Card}
use Rattle.trace_model.specs.declared.Card.TheVariants.{A, B}
use Rattle.trace_model.specs.Trace.{TraceSecond}
use Rattle.tach_media.specs.Medium.{State, IsCoherent}
use Rattle.minute_rules.specs.Kept.{Kept}
use Rattle.hand_model.specs.card_image.View.{CardView}
use Rattle.hand_model.specs.card_image.Own.{own_view}
use Rattle.log_model.specs.Causes.{device_of}
use Rattle.log_model.specs.Log.{In}
use Rattle.log_model.specs.Course.{ToldSecond, Visit, went}
use Rattle.device_calls.specs.history_model.Minutes.{card_history, up_to}
use Rattle.device_calls.specs.history_model.Completeness.{IsMarked}
use Rattle.device_calls.specs.history_model.Presence.{CardStart}
use Rattle.device_calls.specs.history_model.Book.{Book, all}
use Rattle.device_calls.proofs.history_model.Filters.{all-front, all-back}
use Rattle.device_calls.specs.device_rule.Rules.{Out, Meets}
use Rattle.device_calls.specs.device_rule.Views.{UnitView, unit_view, owed}
use Rattle.device_calls.proofs.device_rule.Pairs.{owed-above}
use Rattle.device_calls.specs.safety_model.Recording.{Recording, card_image, unit_seen, brought}
use Rattle.device_calls.specs.safety_model.Cards.{entered as often_entered}
use Rattle.device_calls.specs.safety_model.Safe.{entered_by}
use Rattle.run_minutes.specs.run_promise.Found.{found_of, AnyKept}
use Rattle.run_events.specs.run_course.Seconds.{kept_all}
use Rattle.run_events.specs.run_course.Lines.{times_of}
use Rattle.run_minutes.specs.run_devices.Told.{arranged, with_standing, card_marks}
use Rattle.run_outcome.specs.declared.outcome.Outcome.{Outcome}
use Rattle.run_minutes.specs.run_promise.Origin.{Origin, rule_of, start_at}
use Rattle.run_minutes.specs.run_promise.Ends.{recording_by, IsAllOwed}
use Rattle.run_minutes.proofs.run_promise.Beside.{before-next}
use Rattle.run_minutes.proofs.run_promise.Unentered.{IsBare, StaysOut, stays-out, others-told, entered-then, entered-at, minutes-bare, unit-bare, up-bare, bare-history}
use Rattle.run_minutes.specs.declared.keeper.Keeper.{Keeper}
use Rattle.device_calls.specs.declared.entering.Entered.{Entered}
use Rattle.run_insertion.specs.declared.lines.Entering.{Entering}
use Rattle.run_insertion.specs.Told.{IsToldSo}
use Rattle.run_record.specs.Within.{course_in, often, BringsBy, MayBeWrittenSo, RecordInSecond}
use Rattle.log_model.specs.declared.lines.Verdict.TheVariants.{Accepted}
use Rattle.run_acts.specs.Entered.{values_with, MayJudge}
use Rattle.run_acts.proofs.EnteredFacts.{before, was}
use Rattle.run_acts.proofs.EnteredLines.{own-marks}
use Rattle.run_acts.proofs.EnteredNewest.{past-is, written-or}

-- entries in front of which none is later than a mark, where all are later than it
front-none : (mark : ℕ) (more due es : List Entry) → more ++ due ≡ es → All (λ (e : Entry). e.minute ≤ mark) more → All (λ (e : Entry). mark < e.minute) es → more ≡ []
front-none mark [] due es is low high = refl
front-none mark (e ∷ more) due es is low high =
    let early = All-head (λ (d : Entry). d.minute ≤ mark) e more low in
    let late = All-head (λ (d : Entry). mark < d.minute) e (more ++ due) (subst (All (λ (d : Entry). mark < d.minute)) (sym is) high) in
    absurd (omega (arith, early, late))

module _ (o : Origin) (done : List TraceSecond) (s : TraceSecond) (n : ℕ) (waits fewer : List Visit) (e : Entering) (k : Keeper) (out : Outcome) (unfound next_ begun : ℕ) (minutes : Kept) (U X Z : State) (w : RecordInSecond o done s (In n) waits None [] (values_with k out unfound next_ begun minutes) (arranged e.which U X Z)) (m : MayJudge o done s n waits fewer e k out unfound next_ begun minutes U X Z w) (coherent : IsCoherent X) where
  abbrev r : Recording
  r = recording_by o done w.b.run.log

  abbrev told_so_far : List ToldSecond
  told_so_far = (went w.b.run.log done).told

  abbrev book : Book
  book = kept_all w.new w.b.run.book

  abbrev img : List ℕ
  img = card_image o.recording e.which

  abbrev st : CardStart
  st = (found_of o.found e.which).start

  -- ---- it has entered before

  earlier : 0 < often_entered r e.which → (t : ℕ) × (t < s.number) × (0 < entered_by r e.which t)
  earlier some =
      let x = entered-then e.which told_so_far some in
      let low = before-next o done w.b.run w.began.followed x.0 x.1 in
      let is = w.moment.number in
      (x.0.second.number, omega (arith, low, is), entered-at e.which told_so_far x.0 x.1 x.2)

  waits-one : 1 ≤ times_of e.which waits
  waits-one = let less = m.next_.but.fewer_by e.which in let own : times_of e.which (record { phase = In n; slot = e.slot; card = e.which } ∷ []) ≡ 1 = own-visit e.which in omega (arith, less, own)
    where
      own-visit : (c : Card) → times_of c (record { phase = In n; slot = e.slot; card = c } ∷ []) ≡ 1
      own-visit A = refl
      own-visit B = refl

  abbrev times : ℕ
  times = often o w.b done (course_in w.b done s (In n) (values_with k out unfound next_ begun minutes).log) s.number e.which

  written-before : MayBeWrittenSo o w.b done (course_in w.b done s (In n) (values_with k out unfound next_ begun minutes).log) waits s.number k.cabin.slots e.which → (1 < times) ⊎ ((t : ℕ) × (t < s.number) × (0 < entered_by r e.which t))
  written-before may = ⊎_elim
      (λ then.
      let past = may.since.past in
      let counted = w.moment.counted e.which in
      let one_ = waits-one in
      ⊎_elim
      (λ (lt : may.time < s.number). inr (may.time, lt, then))
      (λ late.
      let same : may.time ≡ s.number = omega (arith, late, past) in
      let here : 0 < entered_by r e.which s.number = subst (λ (t : ℕ). 0 < entered_by r e.which t) same then in
      inl (omega (arith, here, counted, one_)))
      (cases_lt may.time s.number))
      (λ now. let less = now.1 in let one_ = waits-one in inl (omega (arith, less, one_)))
      may.entered_then

  -- ---- or it has not, and is on no minute

  module _ (none : often_entered r e.which ≡ 0) where
    none-sits : All (StaysOut e.which) told_so_far
    none-sits = stays-out e.which w.b.run.log done (others-told e.which told_so_far none)

    sure-bare : All (IsBare e.which) w.b.run.book.sure
    sure-bare =
        let follows = w.began.followed.follows in
        all-front (IsBare e.which) w.b.run.book.sure (option_to_list w.b.run.book.maybe)
        (all-front (IsBare e.which) (all w.b.run.book) follows.front.0 (subst (All (IsBare e.which)) follows.front.1 (unit-bare e.which (rule_of o) (start_at o) w.b.run.log told_so_far none-sits)))

    new-bare : All (IsBare e.which) w.new
    new-bare = subst (All (IsBare e.which)) (sym w.decided.seated_) (minutes-bare e.which (start_at o) told_so_far w.b.run.book.sure w.ds none-sits)

    book-bare : All (IsBare e.which) (all book)
    book-bare = subst (All (IsBare e.which)) (past-is o done s n waits fewer e k out unfound next_ begun minutes U X Z w m coherent) (All-append (IsBare e.which) w.b.run.book.sure w.new sure-bare new-bare)

    history-empty : (k_ : ℕ) → card_history e.which (up_to k_ (all book)) ≡ []
    history-empty k_ = bare-history e.which (up_to k_ (all book)) (up-bare e.which k_ (all book) book-bare)

    -- so a card that is as it was lacks what was owed at the start
    module _ (entered : Entered) (told : IsToldSo o.found (with_standing e.which Out (before o done s n waits fewer e k out unfound next_ begun minutes U X Z w m)) e entered U X) (whole : (y : List ℕ) → X.may_leave y → y ≡ img) where
      abbrev u : UnitView
      u = unit_view o.found.card_a.number o.found.card_b.number told.found.unit_image

      abbrev v : CardView
      v = own_view told.found.card_image

      meets : Meets e.which st AnyKept (all book) (w.standing e.which) u v
      meets = ((was o done s n waits fewer e k out unfound next_ begun minutes U X Z w m).mine told.valid).rule.dark.meets u v (told.found.unit_image, told.found.on, refl) (told.found.card_image, told.found.there, refl)

      owed-start : st.owed ≡ (brought o.recording e.which).owed
      owed-start = ap (λ (t : CardStart). t.owed) (m.origin.start e.which)

      whole-is : meets.more ++ owed e.which u v ≡ st.owed
      whole-is = meets.whole ∙ ap (λ (es : List Entry). st.owed ++ es) (history-empty u.last) ∙ append-nil st.owed

      late : All (λ (d : Entry). v.mark < d.minute) st.owed
      late = subst (All (λ (d : Entry). v.mark < d.minute)) (sym owed-start)
          (subst (λ (y : List ℕ). All (λ (d : Entry). (own_view y).mark < d.minute) (brought o.recording e.which).owed) (sym (whole told.found.card_image told.found.there))
          (owed-above e.which (unit_seen o.recording o.recording.unit) (own_view img)))

      none-more : meets.more ≡ []
      none-more = front-none v.mark meets.more (owed e.which u v) st.owed whole-is (all-back (λ (d : Entry). d.minute ≤ v.mark) st.entries meets.more meets.had) late

      all-owed : owed e.which u v ≡ (brought o.recording e.which).owed
      all-owed = ap (λ (es : List Entry). es ++ owed e.which u v) (sym none-more) ∙ whole-is ∙ owed-start

      -- so many are put on it, and each of them is marked
      all-brought : (clock : ℕ) → IsAllOwed o.recording (out.marks.items ++ card_marks e.which clock entered.owed.items) e.which entered.replayed
      all-brought clock = (
        sym told.found.number ∙ ap length all-owed,
        subst (All (λ (d : Entry). IsMarked (out.marks.items ++ card_marks e.which clock entered.owed.items) (device_of e.which) d.minute)) (sym told.found.owes ∙ all-owed) (own-marks e.which clock out.marks.items entered.owed.items),
      )

  pub brings : (entered : Entered) (clock : ℕ) → IsToldSo o.found (with_standing e.which Out (before o done s n waits fewer e k out unfound next_ begun minutes U X Z w m)) e entered U X → BringsBy o w.b done times (out.marks.items ++ card_marks e.which clock entered.owed.items) e.which s.number (Accepted entered.replayed)
  brings entered clock told = ⊎_elim
      (λ whole. ⊎_elim
      (λ some. inr (inr (earlier some)))
      (λ few. let none : often_entered r e.which ≡ 0 = omega (arith, few) in inl (all-brought none entered told whole clock))
      (cases_lt 0 (often_entered r e.which)))
      (λ may. inr (written-before may))
      (written-or o done s n waits fewer e k out unfound next_ begun minutes U X Z w m coherent)
