-- A card that enters is found to be accepted: it is seated, or torn out since, or the unit fails.
use Rattle.std.proofs.Common.{◌≡◌, ◌⊎◌, inl, inr, ⊎_elim, ℕ, ◌/◌, ◌≤◌, ◌<◌, Bool, true, false, Option, Some, None, is_some, List, [], ◌∷◌, ◌++◌, Contains, refl, ap, sym, subst, ◌∙◌, arith}
use Rattle.std.specs.Prelude.{Result}
use Rattle.std.proofs.lemmas.List.Elements.{Contains-append_left, Contains-append_right, Contains-push}
use Rattle.activity_codec.specs.declared.values.Slot.{Slot}
use Rattle.activity_codec.specs.declared.values.Slot.TheVariants.{Driver, CoDriver}
use Rattle.tacho_types.specs.declared.card_number.FullCardNumber.{FullCardNumber}
use Rattle.trace_model.specs.declared.Card.{Card}
use Rattle.trace_model.specs.declared.Card.TheVariants.{A, B}
use Rattle.trace_model.specs.Trace.{TraceSecond}
use Rattle.tach_media.specs.Medium.{State, HasBroken}
use Rattle.tach_media.proofs.Runs.{at_image}
use Rattle.minute_rules.specs.Kept.{Kept}
use Rattle.card_files.specs.card_layout.declared.files.Application.{Application}
use Rattle.log_model.specs.declared.lines.Verdict.TheVariants.{Accepted}
use Rattle.log_model.specs.Log.{In}
use Rattle.log_model.specs.Slots.{other_slot, same_card}
use Rattle.log_model.specs.Course.{Visit}
use Rattle.unit_minutes.specs.Image.{Agrees}
use Rattle.unit_model.specs.Image.{last_kept}
use Rattle.device_calls.specs.device_rule.Rules.{Standing, Out, In as IsIn, Torn}
use Rattle.run_crew.specs.card_slots.Calls.{seat_in, is_card}
use Rattle.run_crew.specs.card_slots.Kept.{Kept as SlotsKept, put_in, taken}
use Rattle.device_calls.specs.safety_model.Safe.{card_of}
use Rattle.hand_model.specs.Holding.{none_held}
use Rattle.run_crew.specs.declared.cabin.Cabin.{Cabin}
use Rattle.run_crew.specs.declared.cards.Cards.{Cards}
use Rattle.run_crew.specs.declared.cards.Accepted.{Accepted as Session}
use Rattle.run_crew.specs.Cards.{session_of, with_sizes, with_session, with_number}
use Rattle.run_crew.specs.Cabin.{slot_with, left_from, torn_out, with_sizes_of, with_power_lost}
use Rattle.run_minutes.specs.run_promise.Found.{found_of}
use Rattle.run_events.specs.run_course.Presence.{IsNewestAt}
use Rattle.run_events.specs.run_course.Seconds.{kept_all}
use Rattle.run_minutes.specs.run_promise.Going.{IsTakenAt}
use Rattle.run_minutes.specs.run_devices.Presence.{IsSeated}
use Rattle.run_minutes.specs.run_devices.Told.{AreFoundCards, DevicesUnpowered, arranged, for_card, card_marks, with_marks, with_standing, HasFoundSo}
use Rattle.run_minutes.proofs.run_devices.Known.{session-sized, early-accepted}
use Rattle.run_outcome.specs.declared.outcome.Outcome.{Outcome}
use Rattle.run_minutes.specs.run_promise.Origin.{Origin, start_at, first_of}
use Rattle.run_minutes.specs.declared.keeper.Keeper.{Keeper}
use Rattle.run_minutes.specs.declared.keeper.Moment.{Moment as KeepingAt}
use Rattle.run_minutes.specs.Keeping.{tear_of}
use Rattle.device_calls.specs.declared.entering.Entered.{Entered}
use Rattle.run_insertion.specs.declared.lines.Entering.{Entering}
use Rattle.run_insertion.specs.Entering.{Way, ending_of, falls_of, find_of, seated, and_one, Unnoted, Seated, Lost}
use Rattle.run_insertion.specs.Told.{IsTakenOn, IsToldSo}
use Rattle.run_record.specs.Recorded.{Values, carried}
use Rattle.run_record.specs.Within.{course_in, often, VerdictBy, AreOld, RecordInSecond, RecordAtFailure}
use Rattle.run_record.specs.Judging.{IsJudged, judged_values}
use Rattle.run_record.specs.Losing.{lost_values, IsLostSo}
use Rattle.run_record.proofs.Known.{cut-same, taken-now, kept-before}
use Rattle.run_record.proofs.Judging.{judged-so, judging-fails}
use Rattle.run_record.proofs.Losing.{card-lost, losing-fails}
use Rattle.run_acts.specs.Entered.{values_with, MayJudge, HasGone, AreSound, IsCut, GoesOnOrIsCut}
use Rattle.run_acts.proofs.EnteredFacts.{unit-back, for-own, for-other, before, now-is, unit-told, left, there, breakdowns, broke-once, unit-broke, travels, untouched}
use Rattle.run_acts.proofs.EnteredTurned.{not-keeping, own-card, slot-there}
use Rattle.run_record.proofs.HandedSteps.{less-stay}
use Rattle.device_calls.specs.history_model.Presence.{trimmed_by, newest_minute}
use Rattle.run_minutes.specs.run_promise.Cards.{brought_by}

-- ---- small facts

-- what was brought before
brought-more : (c d : Card) (kept n : ℕ) (had : Card → List ℕ) → Contains (had d) n → Contains (for_card c (kept ∷ had c) had d) n
brought-more A A kept n had among = Contains-append_right (kept ∷ []) (had A) n among
brought-more A B kept n had among = among
brought-more B A kept n had among = among
brought-more B B kept n had among = Contains-append_right (kept ∷ []) (had B) n among

brought-first : (c : Card) (kept : ℕ) (had : Card → List ℕ) → Contains (for_card c (kept ∷ had c) had c) kept
brought-first A kept had = Contains-append_left (kept ∷ []) (had A) kept (Contains-push [] kept)
brought-first B kept had = Contains-append_left (kept ∷ []) (had B) kept (Contains-push [] kept)

-- which cards have a session
seated-sessions : (c x : Card) (number : FullCardNumber) (row : ℕ) (a : Session) (sizes : Result Application ℕ) (cards : Cards) → is_some (session_of (with_session c (Some a) (with_number c number row (with_sizes c sizes cards))) x) ≡ true →
    (is_some (session_of cards x) ≡ true) ⊎ (x ≡ c)
seated-sessions A A number row a sizes cards some = inr refl
seated-sessions A B number row a sizes cards some = inl some
seated-sessions B A number row a sizes cards some = inl some
seated-sessions B B number row a sizes cards some = inr refl

seated-own : (c : Card) (number : FullCardNumber) (row : ℕ) (a : Session) (sizes : Result Application ℕ) (cards : Cards) → session_of (with_session c (Some a) (with_number c number row (with_sizes c sizes cards))) c ≡ Some a
seated-own A number row a sizes cards = refl
seated-own B number row a sizes cards = refl

seated-others : (c x : Card) (number : FullCardNumber) (row : ℕ) (a : Session) (sizes : Result Application ℕ) (cards : Cards) → same_card c x ≡ false → session_of (with_session c (Some a) (with_number c number row (with_sizes c sizes cards))) x ≡ session_of cards x
seated-others A A number row a sizes cards apart = absurd (cc)
seated-others A B number row a sizes cards apart = refl
seated-others B A number row a sizes cards apart = refl
seated-others B B number row a sizes cards apart = absurd (cc)

own-is : (a b : Session) → Some a ≡ Some b → a ≡ b
own-is a b is = cc

-- the unit and the card of three devices
both-back : (c : Card) (U X Z : State) (P : State → State → Type 0) → P U X → P (arranged c U X Z).unit (card_of (arranged c U X Z) c)
both-back A U X Z P p = p
both-back B U X Z P p = p

old-lost : (c : Card) (number : FullCardNumber) (row : ℕ) (a : Session) (sizes : Result Application ℕ) (cards : Cards) → AreOld cards (with_session c None (with_session c (Some a) (with_number c number row (with_sizes c sizes cards))))
old-lost A number row a sizes cards A some = absurd (cc)
old-lost A number row a sizes cards B some = some
old-lost B number row a sizes cards A some = some
old-lost B number row a sizes cards B some = absurd (cc)

-- the slot in which a card was put
slot-put : (slot : Slot) (card : Card) (newest : Option ℕ) (kept : SlotsKept) → is_card (seat_in kept.seats (other_slot slot)) card ≡ false → slot_with (put_in slot card newest kept).seats card ≡ Some slot
slot-put Driver card newest kept elsewhere = slot-there (put_in Driver card newest kept).seats Driver card (own-card card newest) elsewhere
slot-put CoDriver card newest kept elsewhere = slot-there (put_in CoDriver card newest kept).seats CoDriver card (own-card card newest) elsewhere

module _ (o : Origin) (done : List TraceSecond) (s : TraceSecond) (n : ℕ) (waits fewer : List Visit) (e : Entering) (k : Keeper) (out : Outcome) (unfound next_ begun : ℕ) (minutes : Kept) (U X Z : State) (w : RecordInSecond o done s (In n) waits None [] (values_with k out unfound next_ begun minutes) (arranged e.which U X Z)) (m : MayJudge o done s n waits fewer e k out unfound next_ begun minutes U X Z w) (failed : Bool) (k' : Keeper) (noted noted' : ℕ) (out' : Outcome) (W Y : State) (way : Way) (g : HasGone e failed k k' noted noted' out out' U W X Y Z way) (sound : AreSound U W X Y) (entered : Entered) (clock : ℕ) (told : IsToldSo o.found (with_standing e.which Out (before o done s n waits fewer e k out unfound next_ begun minutes U X Z w m)) e entered U X)
    (answered : IsNewestAt (start_at o) (w.b.run.book.sure ++ w.new) k.cabin.slots e.which entered.session.minute s.number)
    (under : entered.session.minute ≤ newest_minute (start_at o) (kept_all w.new w.b.run.book).sure e.which s.number)
    (may : (many : ℕ) × (many ≤ often o w.b done (course_in w.b done s (In n) (values_with k out unfound next_ begun minutes).log) s.number e.which) × VerdictBy o w.b done many (out.marks.items ++ card_marks e.which clock entered.owed.items) ((arranged e.which W Y Z).unit.left_since o.found.unit.began) ((card_of (arranged e.which W Y Z) e.which).left_since (found_of o.found e.which).began) e.which s.number (Accepted entered.replayed)) where
  -- the unit had kept this minute last
  last-is : last_kept (unit-told o done s n waits fewer e k out unfound next_ begun minutes U X Z w m).0 ≡ k.journal.kept
  last-is = (at_image (Agrees k.journal) (unit-told o done s n waits fewer e k out unfound next_ begun minutes U X Z w m).1 m.ready.agrees).kept

  on-unit : (arranged e.which U X Z).unit.may_leave (unit-told o done s n waits fewer e k out unfound next_ begun minutes U X Z w m).0
  on-unit = unit-back e.which U X Z (λ (a : State). a.may_leave (unit-told o done s n waits fewer e k out unfound next_ begun minutes U X Z w m).0) (sound.unit_before.is_left (unit-told o done s n waits fewer e k out unfound next_ begun minutes U X Z w m).0 (unit-told o done s n waits fewer e k out unfound next_ begun minutes U X Z w m).1)

  taken-at : IsTakenAt (first_of o) w.b.run.book (kept_all w.new w.b.run.book) w.new k.journal.kept
  taken-at = subst (λ (m_ : ℕ). IsTakenAt (first_of o) w.b.run.book (kept_all w.new w.b.run.book) w.new m_) last-is (taken-now o done s (In n) waits None [] (values_with k out unfound next_ begun minutes) (arranged e.which U X Z) w m.origin.first (unit-told o done s n waits fewer e k out unfound next_ begun minutes U X Z w m).0 on-unit)

  kept-low : k.journal.kept < w.due
  kept-low = subst (λ (m_ : ℕ). m_ < w.due) last-is (kept-before o done s (In n) waits None [] (values_with k out unfound next_ begun minutes) (arranged e.which U X Z) w m.origin.first (unit-told o done s n waits fewer e k out unfound next_ begun minutes U X Z w m).0 on-unit)

  -- what was owed to it, of the devices as they were
  told-here : HasFoundSo o.found e.which (arranged e.which U X Z).unit (card_of (arranged e.which U X Z) e.which) s.number entered.owed.items entered.replayed
  told-here = both-back e.which U X Z (λ (u c : State). HasFoundSo o.found e.which u c s.number entered.owed.items entered.replayed)
      (subst (λ (at : ℕ). HasFoundSo o.found e.which U X at entered.owed.items entered.replayed) (now-is o done s n waits fewer e k out unfound next_ begun minutes U X Z w m) told.found)

  -- IT IS FOUND TO BE ACCEPTED, with these slots and sessions
  module _ (cabin : Cabin) (slots_are : cabin.slots ≡ put_in e.slot e.which (Some entered.session.minute) k.cabin.slots) (found : AreFoundCards o.found cabin.cards)
      (sessions : (x : Card) → is_some (session_of cabin.cards x) ≡ true → (is_some (session_of k.cabin.cards x) ≡ true) ⊎ (x ≡ e.which))
      (fresh : (b : Session) → session_of cabin.cards e.which ≡ Some b → b.held ≡ none_held (s.number / 60)) (apart_ : (x : Card) → same_card e.which x ≡ false → session_of cabin.cards x ≡ session_of k.cabin.cards x)
      (above_ : (b : Session) → session_of cabin.cards e.which ≡ Some b → trimmed_by (found_of o.found e.which).start ((found_of o.found e.which).start.entries ++ brought_by e.which (found_of o.found e.which).start (kept_all w.new w.b.run.book)) ≤ b.session.minute)
      (under_ : (b : Session) → session_of cabin.cards e.which ≡ Some b → b.session.minute ≤ newest_minute (start_at o) (kept_all w.new w.b.run.book).sure e.which s.number) where
    taken-judged : IsJudged o done s (In n) waits fewer (values_with k out unfound next_ begun minutes) (arranged e.which U X Z) (arranged e.which W Y Z) w e.which (find_of e (Accepted entered.replayed)) (out.marks.items ++ card_marks e.which clock entered.owed.items) cabin (for_card e.which (k.journal.kept ∷ w.brought e.which) w.brought)
    taken-judged = record {
      next = m.next_;
      here = record { second = now-is o done s n waits fewer e k out unfound next_ begun minutes U X Z w m; begun = ap (λ (a : KeepingAt). In a.begun) m.moment };
      none = m.none;
      order = m.order;
      seats = record {
        newest = entered.session.minute;
        slots_are = slots_are;
        free = record { here = inr m.seat; elsewhere = m.elsewhere };
        answered = answered;
        kept = k.journal.kept;
        brings = brought-first e.which k.journal.kept w.brought;
        taken_at = taken-at;
      };
      may = may;
      stay = λ mark among. Contains-append_left out.marks.items (card_marks e.which clock entered.owed.items) mark among;
      found = found;
      more = λ c m_ among. brought-more e.which c k.journal.kept m_ w.brought among;
      early = early-accepted (before o done s n waits fewer e k out unfound next_ begun minutes U X Z w m) e.which 0 0 k.journal.kept kept-low w.early;
      left = left o done s n waits fewer e k out unfound next_ begun minutes U X Z w m failed k' noted noted' out' W Y way g sound;
      there = there o done s n waits fewer e k out unfound next_ begun minutes U X Z w m failed k' noted noted' out' W Y way g sound;
      sessions = λ x some. ⊎_elim (λ had. inl had) (λ is. inr (is, refl)) (sessions x some);
      first = m.origin.first;
      start = m.origin.start e.which;
      opens = record { clock = clock; owed = entered.owed.items; marks = refl; told = told-here; fresh = fresh };
      others = apart_;
      above = λ accepts b some. above_ b some;
      under = λ accepts b some. under_ b some;
      untouched = λ x same. ⊎_elim (λ still. inl still) (λ wrote. inr (inr (wrote.0, refl))) (untouched o done s n waits fewer e k out unfound next_ begun minutes U X Z w m failed k' noted noted' out' W Y way g sound x same);
      travels = travels o done s n waits fewer e k out unfound next_ begun minutes U X Z w m failed k' noted noted' out' W Y way g sound;
    }

    -- and the unit failed behind that
    taken-fails : falls_of (ending_of way) ≡ 0 → (z : Card → Standing) → failed ≡ true → DevicesUnpowered o.found (carried (judged_values (find_of e (Accepted entered.replayed)) (out.marks.items ++ card_marks e.which clock entered.owed.items) cabin (values_with k out unfound next_ begun minutes)) w.due (kept_all w.new w.b.run.book) z (for_card e.which (k.journal.kept ∷ w.brought e.which) w.brought) w.hands w.firsts) (arranged e.which W Y Z) → RecordAtFailure o done s (In n) fewer None (judged_values (find_of e (Accepted entered.replayed)) (out.marks.items ++ card_marks e.which clock entered.owed.items) cabin (values_with k out unfound next_ begun minutes)) (arranged e.which W Y Z)
    taken-fails calm z fails powerless = judging-fails (arranged e.which U X Z) (arranged e.which W Y Z) o done s (In n) waits fewer (values_with k out unfound next_ begun minutes) w e.which (find_of e (Accepted entered.replayed)) (out.marks.items ++ card_marks e.which clock entered.owed.items) cabin (for_card e.which (k.journal.kept ∷ w.brought e.which) w.brought) taken-judged
        (breakdowns o done s n waits fewer e k out unfound next_ begun minutes U X Z w m failed k' noted noted' out' W Y way g sound calm)
        (record { standing = z; powerless = powerless; broke = unit-broke o done s n waits fewer e k out unfound next_ begun minutes U X Z w m failed k' noted noted' out' W Y way g sound fails; no_keeping = λ keeping. not-keeping n keeping })

  -- ---- the unit failed as its insertion was noted: slots and sessions are as before

  module _ (sizes : Result Application ℕ) (found : AreFoundCards o.found (with_sizes e.which sizes k.cabin.cards)) where
    abbrev pretended : Cabin
    pretended = record { slots = put_in e.slot e.which (Some entered.session.minute) k.cabin.slots; cards = with_sizes e.which sizes k.cabin.cards }

    bare-still : (b : Session) → session_of (with_sizes e.which sizes k.cabin.cards) e.which ≡ Some b → ⊥
    bare-still b some = let both : None ≡ Some b = sym m.bare ∙ sym (session-sized e.which e.which sizes k.cabin.cards) ∙ some in cc

    none-yet : (b : Session) → session_of (with_sizes e.which sizes k.cabin.cards) e.which ≡ Some b → b.held ≡ none_held (s.number / 60)
    none-yet b some = absurd (bare-still b some)

    pub unnoted : falls_of (ending_of way) ≡ 0 → failed ≡ true → values_with k' out' unfound next_ begun minutes ≡ judged_values (find_of e (Accepted entered.replayed)) (out.marks.items ++ card_marks e.which clock entered.owed.items) (with_sizes_of e.which sizes k.cabin) (values_with k out unfound next_ begun minutes)
        → IsTakenOn (Unnoted entered clock) true e k.journal.kept o.found (with_marks (card_marks e.which clock entered.owed.items) (with_standing e.which Out (before o done s n waits fewer e k out unfound next_ begun minutes U X Z w m))) (with_sizes e.which sizes k.cabin.cards) (arranged e.which W Y Z)
        → GoesOnOrIsCut failed o done s n waits fewer (values_with k out unfound next_ begun minutes) (values_with k' out' unfound next_ begun minutes) (arranged e.which U X Z) (arranged e.which W Y Z) w
    unnoted calm fails same powerless =
        subst (λ (b : Bool). GoesOnOrIsCut b o done s n waits fewer (values_with k out unfound next_ begun minutes) (values_with k' out' unfound next_ begun minutes) (arranged e.which U X Z) (arranged e.which W Y Z) w) (sym fails)
        (subst (λ (v : Values). IsCut o done s n v (arranged e.which W Y Z)) (sym same) (record {
          left = fewer;
          cabin = pretended;
          same = ap (λ (q : SlotsKept). record (with_power_lost s.number (with_sizes_of e.which sizes k.cabin)) { slots = q }) (cut-same k.cabin.slots e.slot e.which (Some entered.session.minute) s.number m.seat);
          within = taken-fails pretended refl found (λ x some. inl (subst (λ (q : Option Session). is_some q ≡ true) (session-sized e.which x sizes k.cabin.cards) some)) none-yet (λ x apart. session-sized e.which x sizes k.cabin.cards) (λ b some. absurd (bare-still b some)) (λ b some. absurd (bare-still b some)) calm (for_card e.which Out w.standing) fails powerless;
        }))

  -- ---- it is seated

  module _ (entry : ℕ) (sizes : Result Application ℕ) where
    abbrev here : Cabin
    here = (seated entered.look entered.session entered.row entry noted e (with_sizes_of e.which sizes k.cabin))

    abbrev a : Session
    a = record { session = entered.session; held = none_held (e.at.second / 60); entry = entry; noted = and_one noted }

    abbrev z : Card → Standing
    z = for_card e.which (IsIn e.at.second entered.session.minute) (for_card e.which Out w.standing)

    seated-fresh : (b : Session) → session_of (seated entered.look entered.session entered.row entry noted e (with_sizes_of e.which sizes k.cabin)).cards e.which ≡ Some b → b.held ≡ none_held (s.number / 60)
    seated-fresh b some = sym (ap (λ (x : Session). x.held) (own-is a b (sym (seated-own e.which entered.look.number entered.row a sizes k.cabin.cards) ∙ some))) ∙ ap (λ (u : ℕ). none_held (u / 60)) (now-is o done s n waits fewer e k out unfound next_ begun minutes U X Z w m)

    seated-apart : (x : Card) → same_card e.which x ≡ false → session_of (seated entered.look entered.session entered.row entry noted e (with_sizes_of e.which sizes k.cabin)).cards x ≡ session_of k.cabin.cards x
    seated-apart x apart = seated-others e.which x entered.look.number entered.row a sizes k.cabin.cards apart

    seated-above : (b : Session) → session_of (seated entered.look entered.session entered.row entry noted e (with_sizes_of e.which sizes k.cabin)).cards e.which ≡ Some b → trimmed_by (found_of o.found e.which).start ((found_of o.found e.which).start.entries ++ brought_by e.which (found_of o.found e.which).start (kept_all w.new w.b.run.book)) ≤ b.session.minute
    seated-above b some =
        let least = told.answers.least in
        let same : entered.session.minute ≡ b.session.minute = ap (λ (x : Session). x.session.minute) (own-is a b (sym (seated-own e.which entered.look.number entered.row a sizes k.cabin.cards) ∙ some)) in
        omega (arith, least, same)

    seated-under : (b : Session) → session_of (seated entered.look entered.session entered.row entry noted e (with_sizes_of e.which sizes k.cabin)).cards e.which ≡ Some b → b.session.minute ≤ newest_minute (start_at o) (kept_all w.new w.b.run.book).sure e.which s.number
    seated-under b some =
        let same : entered.session.minute ≡ b.session.minute = ap (λ (x : Session). x.session.minute) (own-is a b (sym (seated-own e.which entered.look.number entered.row a sizes k.cabin.cards) ∙ some)) in
        subst (λ (j : ℕ). j ≤ newest_minute (start_at o) (kept_all w.new w.b.run.book).sure e.which s.number) same under

    others-stand : (x : Card) → (x ≡ e.which → ⊥) → z x ≡ w.standing x
    others-stand x apart = for-other e.which x (IsIn e.at.second entered.session.minute) (for_card e.which Out w.standing) apart ∙ for-other e.which x Out w.standing apart

    own-stands : IsSeated o.found z e.which s.number
    own-stands = (told.valid, (entered.session.minute, for-own e.which (IsIn e.at.second entered.session.minute) (for_card e.which Out w.standing) ∙ ap (λ (u : ℕ). IsIn u entered.session.minute) (now-is o done s n waits fewer e k out unfound next_ begun minutes U X Z w m)))

    module _ (found : AreFoundCards o.found ((seated entered.look entered.session entered.row entry noted e (with_sizes_of e.which sizes k.cabin))).cards) where
      seated-judged : IsJudged o done s (In n) waits fewer (values_with k out unfound next_ begun minutes) (arranged e.which U X Z) (arranged e.which W Y Z) w e.which (find_of e (Accepted entered.replayed)) (out.marks.items ++ card_marks e.which clock entered.owed.items) (seated entered.look entered.session entered.row entry noted e (with_sizes_of e.which sizes k.cabin)) (for_card e.which (k.journal.kept ∷ w.brought e.which) w.brought)
      seated-judged = taken-judged (seated entered.look entered.session entered.row entry noted e (with_sizes_of e.which sizes k.cabin)) refl found (λ x some. seated-sessions e.which x entered.look.number entered.row a sizes k.cabin.cards some) seated-fresh seated-apart seated-above seated-under

      seated-goes : falls_of (ending_of way) ≡ 0 → (b : Bool) → failed ≡ b → IsTakenOn (Seated entered clock entry) b e k.journal.kept o.found (with_marks (card_marks e.which clock entered.owed.items) (with_standing e.which Out (before o done s n waits fewer e k out unfound next_ begun minutes U X Z w m))) ((seated entered.look entered.session entered.row entry noted e (with_sizes_of e.which sizes k.cabin))).cards (arranged e.which W Y Z)
          → GoesOnOrIsCut b o done s n waits fewer (values_with k out unfound next_ begun minutes) (judged_values (find_of e (Accepted entered.replayed)) (out.marks.items ++ card_marks e.which clock entered.owed.items) (seated entered.look entered.session entered.row entry noted e (with_sizes_of e.which sizes k.cabin)) (values_with k out unfound next_ begun minutes)) (arranged e.which U X Z) (arranged e.which W Y Z) w
      seated-goes calm false is powered = judged-so (arranged e.which U X Z) (arranged e.which W Y Z) o done s (In n) waits fewer (values_with k out unfound next_ begun minutes) w e.which (find_of e (Accepted entered.replayed)) (out.marks.items ++ card_marks e.which clock entered.owed.items) (seated entered.look entered.session entered.row entry noted e (with_sizes_of e.which sizes k.cabin)) (for_card e.which (k.journal.kept ∷ w.brought e.which) w.brought) z seated-judged
          (breakdowns o done s n waits fewer e k out unfound next_ begun minutes U X Z w m failed k' noted noted' out' W Y way g sound calm) (record { powered = powered; others = others-stand; stands = λ accepts. own-stands })
      seated-goes calm true is powerless = record {
        left = fewer;
        cabin = (seated entered.look entered.session entered.row entry noted e (with_sizes_of e.which sizes k.cabin));
        same = refl;
        within = ⊎_elim
            (λ out_. taken-fails (seated entered.look entered.session entered.row entry noted e (with_sizes_of e.which sizes k.cabin)) refl found (λ x some. seated-sessions e.which x entered.look.number entered.row a sizes k.cabin.cards some) seated-fresh seated-apart seated-above seated-under calm (for_card e.which Out w.standing) is out_)
            (λ in_. taken-fails (seated entered.look entered.session entered.row entry noted e (with_sizes_of e.which sizes k.cabin)) refl found (λ x some. seated-sessions e.which x entered.look.number entered.row a sizes k.cabin.cards some) seated-fresh seated-apart seated-above seated-under calm z is in_)
            powerless;
      }

      pub seated-so : falls_of (ending_of way) ≡ 0 → values_with k' out' unfound next_ begun minutes ≡ judged_values (find_of e (Accepted entered.replayed)) (out.marks.items ++ card_marks e.which clock entered.owed.items) (seated entered.look entered.session entered.row entry noted e (with_sizes_of e.which sizes k.cabin)) (values_with k out unfound next_ begun minutes)
          → IsTakenOn (Seated entered clock entry) failed e k.journal.kept o.found (with_marks (card_marks e.which clock entered.owed.items) (with_standing e.which Out (before o done s n waits fewer e k out unfound next_ begun minutes U X Z w m))) ((seated entered.look entered.session entered.row entry noted e (with_sizes_of e.which sizes k.cabin))).cards (arranged e.which W Y Z)
          → GoesOnOrIsCut failed o done s n waits fewer (values_with k out unfound next_ begun minutes) (values_with k' out' unfound next_ begun minutes) (arranged e.which U X Z) (arranged e.which W Y Z) w
      seated-so calm same taken_ = subst (λ (v : Values). GoesOnOrIsCut failed o done s n waits fewer (values_with k out unfound next_ begun minutes) v (arranged e.which U X Z) (arranged e.which W Y Z) w) (sym same) (seated-goes calm failed refl taken_)

    -- ---- and torn out since

    module _ (found_in_ : AreFoundCards o.found ((seated entered.look entered.session entered.row entry noted e (with_sizes_of e.which sizes k.cabin))).cards) (found : AreFoundCards o.found (torn_out e.which e.at.second (seated entered.look entered.session entered.row entry noted e (with_sizes_of e.which sizes k.cabin))).cards) (broken : HasBroken X Y 1) where
      abbrev y : Card → Standing
      y = for_card e.which (Torn e.at.second entered.session.minute (e.at.second / 60)) (for_card e.which (IsIn e.at.second entered.session.minute) (for_card e.which Out w.standing))

      others-left : (x : Card) → (x ≡ e.which → ⊥) → y x ≡ w.standing x
      others-left x apart = for-other e.which x (Torn e.at.second entered.session.minute (e.at.second / 60)) z apart ∙ others-stand x apart

      is-lost : IsLostSo o done s (In n) waits fewer (values_with k out unfound next_ begun minutes) (arranged e.which U X Z) (arranged e.which W Y Z) w e.which (find_of e (Accepted entered.replayed)) (seated entered.look entered.session entered.row entry noted e (with_sizes_of e.which sizes k.cabin)) (torn_out e.which e.at.second (seated entered.look entered.session entered.row entry noted e (with_sizes_of e.which sizes k.cabin))) (tear_of e.slot e.at)
      is-lost = record {
        accepts = refl;
        torn_here = (n, false, ap (tear_of e.slot) m.moment, refl, w.moment.is, λ late. absurd (cc));
        broke = broke-once o done s n waits fewer e k out unfound next_ begun minutes U X Z w m failed k' noted noted' out' W Y way g sound broken;
        slots_are = ap (λ (slot : Option Slot). left_from slot e.at.second ((seated entered.look entered.session entered.row entry noted e (with_sizes_of e.which sizes k.cabin))).slots) (slot-put e.slot e.which (Some entered.session.minute) k.cabin.slots m.elsewhere) ∙ ap (λ (u : ℕ). taken e.slot u ((seated entered.look entered.session entered.row entry noted e (with_sizes_of e.which sizes k.cabin))).slots) (now-is o done s n waits fewer e k out unfound next_ begun minutes U X Z w m);
        found = found;
        sessions = old-lost e.which entered.look.number entered.row a sizes k.cabin.cards;
        lasts = less-stay e.which (seated entered.look entered.session entered.row entry noted e (with_sizes_of e.which sizes k.cabin)).cards;
      }

      lost-goes : (b : Bool) → failed ≡ b → IsTakenOn (Lost entered clock entry) b e k.journal.kept o.found (with_marks (card_marks e.which clock entered.owed.items) (with_standing e.which Out (before o done s n waits fewer e k out unfound next_ begun minutes U X Z w m))) (torn_out e.which e.at.second (seated entered.look entered.session entered.row entry noted e (with_sizes_of e.which sizes k.cabin))).cards (arranged e.which W Y Z)
          → GoesOnOrIsCut b o done s n waits fewer (values_with k out unfound next_ begun minutes) (lost_values (find_of e (Accepted entered.replayed)) (tear_of e.slot e.at) (out.marks.items ++ card_marks e.which clock entered.owed.items) (seated entered.look entered.session entered.row entry noted e (with_sizes_of e.which sizes k.cabin)) (torn_out e.which e.at.second (seated entered.look entered.session entered.row entry noted e (with_sizes_of e.which sizes k.cabin))) (values_with k out unfound next_ begun minutes)) (arranged e.which U X Z) (arranged e.which W Y Z) w
      lost-goes false is powered = card-lost (arranged e.which U X Z) (arranged e.which W Y Z) o done s (In n) waits fewer (values_with k out unfound next_ begun minutes) w e.which (find_of e (Accepted entered.replayed)) (out.marks.items ++ card_marks e.which clock entered.owed.items) (seated entered.look entered.session entered.row entry noted e (with_sizes_of e.which sizes k.cabin)) (torn_out e.which e.at.second (seated entered.look entered.session entered.row entry noted e (with_sizes_of e.which sizes k.cabin))) (for_card e.which (k.journal.kept ∷ w.brought e.which) w.brought) (tear_of e.slot e.at) y (seated-judged found_in_) is-lost
          (record { powered = powered; others = others-left })
      lost-goes true is powerless = record {
        left = fewer;
        cabin = torn_out e.which e.at.second (seated entered.look entered.session entered.row entry noted e (with_sizes_of e.which sizes k.cabin));
        same = refl;
        within = losing-fails (arranged e.which U X Z) (arranged e.which W Y Z) o done s (In n) waits fewer (values_with k out unfound next_ begun minutes) w e.which (find_of e (Accepted entered.replayed)) (out.marks.items ++ card_marks e.which clock entered.owed.items) (seated entered.look entered.session entered.row entry noted e (with_sizes_of e.which sizes k.cabin)) (torn_out e.which e.at.second (seated entered.look entered.session entered.row entry noted e (with_sizes_of e.which sizes k.cabin))) (for_card e.which (k.journal.kept ∷ w.brought e.which) w.brought) (tear_of e.slot e.at) (seated-judged found_in_) is-lost
            (record { standing = y; powerless = powerless; broke = unit-broke o done s n waits fewer e k out unfound next_ begun minutes U X Z w m failed k' noted noted' out' W Y way g sound is; no_keeping = λ keeping. not-keeping n keeping });
      }

      pub lost-since : values_with k' out' unfound next_ begun minutes ≡ lost_values (find_of e (Accepted entered.replayed)) (tear_of e.slot e.at) (out.marks.items ++ card_marks e.which clock entered.owed.items) (seated entered.look entered.session entered.row entry noted e (with_sizes_of e.which sizes k.cabin)) (torn_out e.which e.at.second (seated entered.look entered.session entered.row entry noted e (with_sizes_of e.which sizes k.cabin))) (values_with k out unfound next_ begun minutes)
          → IsTakenOn (Lost entered clock entry) failed e k.journal.kept o.found (with_marks (card_marks e.which clock entered.owed.items) (with_standing e.which Out (before o done s n waits fewer e k out unfound next_ begun minutes U X Z w m))) (torn_out e.which e.at.second (seated entered.look entered.session entered.row entry noted e (with_sizes_of e.which sizes k.cabin))).cards (arranged e.which W Y Z)
          → GoesOnOrIsCut failed o done s n waits fewer (values_with k out unfound next_ begun minutes) (values_with k' out' unfound next_ begun minutes) (arranged e.which U X Z) (arranged e.which W Y Z) w
      lost-since same taken_ = subst (λ (v : Values). GoesOnOrIsCut failed o done s n waits fewer (values_with k out unfound next_ begun minutes) v (arranged e.which U X Z) (arranged e.which W Y Z) w) (sym same) (lost-goes failed refl taken_)
