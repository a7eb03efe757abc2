-- A card that enters is turned away, or torn out before it is judged, or the unit fails before that.
use Rattle.std.proofs.Common.{◌≡◌, ◌⊎◌, inl, inr, ⊎_elim, ℕ, ◌≤◌, Bool, true, false, Option, Some, None, is_some, List, [], refl, ap, sym, subst, ◌∙◌, arith}
use Rattle.std.specs.Prelude.{Result, cond}
use Rattle.activity_codec.specs.declared.values.Slot.{Slot}
use Rattle.activity_codec.specs.declared.values.Slot.TheVariants.{Driver, CoDriver}
use Rattle.trace_model.specs.declared.Card.{Card}
use Rattle.trace_model.specs.declared.Card.TheVariants.{A, B}
use Rattle.trace_model.specs.Trace.{TraceSecond}
use Rattle.tach_media.specs.Medium.{State, HasBroken}
use Rattle.minute_rules.specs.Kept.{Kept}
use Rattle.card_files.specs.card_layout.declared.files.Application.{Application}
use Rattle.hand_model.specs.card_image.Own.{own_view, IsOwnValid}
use Rattle.log_model.specs.declared.lines.Verdict.{Verdict}
use Rattle.log_model.specs.Log.{Phase, In, Keeping, is_accepting}
use Rattle.log_model.specs.Slots.{other_slot}
use Rattle.log_model.specs.Course.{Visit}
use Rattle.device_calls.specs.device_rule.Rules.{Out}
use Rattle.run_crew.specs.card_slots.Calls.{Seats, seat_in, is_card}
use Rattle.run_crew.specs.card_slots.Kept.{taken}
use Rattle.device_calls.specs.safety_model.Recording.{card_image}
use Rattle.device_calls.specs.safety_model.Safe.{Devices, card_of}
use Rattle.run_crew.specs.card_slots.declared.seats.Seat.{Seat}
use Rattle.run_crew.specs.declared.cards.Accepted.{Accepted}
use Rattle.run_crew.specs.declared.cards.Cards.{Cards}
use Rattle.run_crew.specs.Cards.{session_of, with_sizes, with_session}
use Rattle.run_crew.specs.Cabin.{slot_with, left_from, torn_out, with_sizes_of}
use Rattle.run_minutes.specs.run_promise.Found.{found_of}
use Rattle.run_minutes.specs.run_promise.Cards.{IsUntouched}
use Rattle.run_minutes.specs.run_devices.Told.{AreFoundCards, arranged, for_card, with_standing}
use Rattle.run_minutes.proofs.run_devices.Known.{session-sized}
use Rattle.run_outcome.specs.declared.outcome.Outcome.{Outcome}
use Rattle.run_minutes.specs.run_promise.Origin.{Origin}
use Rattle.run_minutes.specs.declared.keeper.Keeper.{Keeper}
use Rattle.run_minutes.specs.declared.keeper.Moment.{Moment as KeepingAt}
use Rattle.run_minutes.specs.Keeping.{tear_of}
use Rattle.run_insertion.specs.declared.lines.Entering.{Entering}
use Rattle.run_insertion.specs.Entering.{Way, ending_of, falls_of, find_of}
use Rattle.run_insertion.specs.Told.{IsCarriedOn, MayHaveWritten}
use Rattle.run_record.specs.Recorded.{Values}
use Rattle.run_record.specs.Within.{course_in, often, VerdictBy, AreOld, RecordInSecond, RecordAtFailure}
use Rattle.run_record.specs.Judging.{IsSeatedBy, IsJudged, MayBeWrittenBy, IsTornNext, judged_values, torn_values, OpensBy}
use Rattle.run_record.proofs.Steps.{failure-recorded}
use Rattle.run_record.proofs.Judging.{judged-so, judging-fails}
use Rattle.run_record.proofs.Tearing.{torn-next, tearing-fails}
use Rattle.run_acts.specs.Entered.{values_with, MayJudge, HasGone, AreSound, IsCut, GoesOnOrIsCut}
use Rattle.run_acts.proofs.EnteredFacts.{each, for-other, before, now-is, left, there, breakdowns, broke-once, unit-broke, travels, untouched}
use Rattle.run_record.specs.Handed.{StayOrEnd}

pub not-keeping : (n : ℕ) → In n ≡ Keeping → ⊥
not-keeping n is = cc

-- the power is cut with other sessions and numbers, and the same slots
pub cut-cabin : (o : Origin) (done : List TraceSecond) (s : TraceSecond) (at : Phase) (waits : List Visit) (speed : Option ℕ) (v : Values) (d : Devices) (cards : Cards) → AreFoundCards o.found cards → RecordAtFailure o done s at waits speed v d →
    RecordAtFailure o done s at waits speed (record v { cabin = record v.cabin { cards = cards } }) d
cut-cabin o done s at waits speed v d cards found w = record {
  b = w.b;
  lit = w.lit;
  began = w.began;
  unfound = w.unfound;
  next = w.next;
  odometer = w.odometer;
  counted = w.counted;
  moment = w.moment;
  rise = w.rise;
  broke = w.broke;
  sp = w.sp;
  ds = w.ds;
  lost = w.lost;
  rest = w.rest;
  new = w.new;
  decided = w.decided;
  fed = w.fed;
  kept = w.kept;
  from = w.from;
  kept_to = w.kept_to;
  stay = w.stay;
  due = w.due;
  standing = w.standing;
  brought = w.brought;
  hands = w.hands;
  firsts = w.firsts;
  powerless = w.powerless;
  handed = w.handed;
  found = found;
  early = w.early;
  late = w.late;
  low = w.low;
  more = w.more;
  tells = w.tells;
  verdicts = w.verdicts;
  finds = w.finds;
  there = w.there;
  few = w.few;
  spared = w.spared;
  travels = w.travels;
}

-- the slot in which a card sits
pub slot-there : (seats : Seats) (slot : Slot) (card : Card) → is_card (seat_in seats slot) card ≡ true → is_card (seat_in seats (other_slot slot)) card ≡ false → slot_with seats card ≡ Some slot
slot-there seats Driver card here elsewhere = ap (λ (b : Bool). cond b (Some Driver) (cond (is_card seats.codriver card) (Some CoDriver) None)) here
slot-there seats CoDriver card here elsewhere =
    ap (λ (b : Bool). cond b (Some Driver) (cond (is_card seats.codriver card) (Some CoDriver) None)) elsewhere
    ∙ ap (λ (b : Bool). cond b (Some CoDriver) None) here

pub own-card : (card : Card) (newest : Option ℕ) → is_card (Some (record { card = card; newest = newest })) card ≡ true
own-card A newest = refl
own-card B newest = refl

-- without a session no card has a new one
old-torn : (c : Card) (sizes : Result Application ℕ) (cards : Cards) → AreOld cards (with_session c None (with_sizes c sizes cards))
old-torn A sizes cards A some = absurd (cc)
old-torn A sizes cards B some = some
old-torn B sizes cards A some = some
old-torn B sizes cards B some = absurd (cc)

-- and each session is as it was, or is over
fewer-torn : (c : Card) (sizes : Result Application ℕ) (cards : Cards) → StayOrEnd (session_of cards) (session_of (with_session c None (with_sizes c sizes cards)))
fewer-torn A sizes cards A = inr refl
fewer-torn A sizes cards B = inl refl
fewer-torn B sizes cards A = inl refl
fewer-torn B sizes cards B = inr refl

module _ (o : Origin) (done : List TraceSecond) (s : TraceSecond) (n : ℕ) (waits fewer : List Visit) (e : Entering) (k : Keeper) (out : Outcome) (unfound next_ begun : ℕ) (minutes : Kept) (U X Z : State) (w : RecordInSecond o done s (In n) waits None [] (values_with k out unfound next_ begun minutes) (arranged e.which U X Z)) (m : MayJudge o done s n waits fewer e k out unfound next_ begun minutes U X Z w) (failed : Bool) (k' : Keeper) (noted noted' : ℕ) (out' : Outcome) (W Y : State) (way : Way) (g : HasGone e failed k k' noted noted' out out' U W X Y Z way) (sound : AreSound U W X Y) where
  -- ---- IT IS TURNED AWAY

  module _ (verdict : Verdict) (refused : is_accepting verdict ≡ false) (sizes : Result Application ℕ) (found : AreFoundCards o.found (with_sizes e.which sizes k.cabin.cards))
      (may : (many : ℕ) × (many ≤ often o w.b done (course_in w.b done s (In n) (values_with k out unfound next_ begun minutes).log) s.number e.which) × VerdictBy o w.b done many out.marks.items ((arranged e.which W Y Z).unit.left_since o.found.unit.began) ((card_of (arranged e.which W Y Z) e.which).left_since (found_of o.found e.which).began) e.which s.number verdict)
      (never : MayHaveWritten (ending_of way) → ⊥) where
    accepts-not : is_accepting verdict ≡ true → ⊥
    accepts-not accepts = let both : true ≡ false = sym accepts ∙ refused in cc

    turned : IsJudged o done s (In n) waits fewer (values_with k out unfound next_ begun minutes) (arranged e.which U X Z) (arranged e.which W Y Z) w e.which (find_of e verdict) out.marks.items (with_sizes_of e.which sizes k.cabin) w.brought
    turned = record {
      next = m.next_;
      here = record { second = now-is o done s n waits fewer e k out unfound next_ begun minutes U X Z w m; begun = ap (λ (a : KeepingAt). In a.begun) m.moment };
      none = m.none;
      order = m.order;
      seats = subst (λ (b : Bool). IsSeatedBy b o done s (In n) waits (values_with k out unfound next_ begun minutes) (arranged e.which U X Z) w e.slot e.which (with_sizes_of e.which sizes k.cabin) w.brought) (sym refused) refl;
      may = may;
      stay = λ mark among. among;
      found = found;
      more = λ c m_ among. among;
      early = w.early;
      left = left o done s n waits fewer e k out unfound next_ begun minutes U X Z w m failed k' noted noted' out' W Y way g sound;
      there = there o done s n waits fewer e k out unfound next_ begun minutes U X Z w m failed k' noted noted' out' W Y way g sound;
      sessions = λ x some. inl (subst (λ (q : Option Accepted). is_some q ≡ true) (session-sized e.which x sizes k.cabin.cards) some);
      untouched = λ x same. ⊎_elim (λ still. inl still) (λ wrote. absurd (never wrote.2)) (untouched o done s n waits fewer e k out unfound next_ begun minutes U X Z w m failed k' noted noted' out' W Y way g sound x same);
      first = m.origin.first;
      start = m.origin.start e.which;
      opens = subst (λ (b : Bool). OpensBy b o (arranged e.which U X Z) e.which s.number verdict out.marks.items out.marks.items (session_of k.cabin.cards e.which) (session_of (with_sizes e.which sizes k.cabin.cards) e.which)) (sym refused) (refl, inl (session-sized e.which e.which sizes k.cabin.cards));
      others = λ x apart. session-sized e.which x sizes k.cabin.cards;
      above = λ accepts a some. absurd (accepts-not accepts);
      under = λ accepts a some. absurd (accepts-not accepts);
      travels = travels o done s n waits fewer e k out unfound next_ begun minutes U X Z w m failed k' noted noted' out' W Y way g sound;
    }

    turned-goes : falls_of (ending_of way) ≡ 0 → (b : Bool) → failed ≡ b → IsCarriedOn b o.found (with_standing e.which Out (before o done s n waits fewer e k out unfound next_ begun minutes U X Z w m)) (with_sizes e.which sizes k.cabin.cards) (arranged e.which W Y Z)
        → GoesOnOrIsCut b o done s n waits fewer (values_with k out unfound next_ begun minutes) (judged_values (find_of e verdict) out.marks.items (with_sizes_of e.which sizes k.cabin) (values_with k out unfound next_ begun minutes)) (arranged e.which U X Z) (arranged e.which W Y Z) w
    turned-goes calm false is taken = judged-so (arranged e.which U X Z) (arranged e.which W Y Z) o done s (In n) waits fewer (values_with k out unfound next_ begun minutes) w e.which (find_of e verdict) out.marks.items (with_sizes_of e.which sizes k.cabin) w.brought (for_card e.which Out w.standing) turned
        (breakdowns o done s n waits fewer e k out unfound next_ begun minutes U X Z w m failed k' noted noted' out' W Y way g sound calm)
        (record { powered = taken; others = λ x apart. for-other e.which x Out w.standing apart; stands = λ accepts. absurd (accepts-not accepts) })
    turned-goes calm true is taken = record {
      left = fewer;
      cabin = with_sizes_of e.which sizes k.cabin;
      same = refl;
      within = judging-fails (arranged e.which U X Z) (arranged e.which W Y Z) o done s (In n) waits fewer (values_with k out unfound next_ begun minutes) w e.which (find_of e verdict) out.marks.items (with_sizes_of e.which sizes k.cabin) w.brought turned
          (breakdowns o done s n waits fewer e k out unfound next_ begun minutes U X Z w m failed k' noted noted' out' W Y way g sound calm)
          (record { standing = for_card e.which Out w.standing; powerless = taken; broke = unit-broke o done s n waits fewer e k out unfound next_ begun minutes U X Z w m failed k' noted noted' out' W Y way g sound is; no_keeping = λ keeping. not-keeping n keeping });
    }

    pub turned-away : falls_of (ending_of way) ≡ 0 → values_with k' out' unfound next_ begun minutes ≡ judged_values (find_of e verdict) out.marks.items (with_sizes_of e.which sizes k.cabin) (values_with k out unfound next_ begun minutes)
        → IsCarriedOn failed o.found (with_standing e.which Out (before o done s n waits fewer e k out unfound next_ begun minutes U X Z w m)) (with_sizes e.which sizes k.cabin.cards) (arranged e.which W Y Z)
        → GoesOnOrIsCut failed o done s n waits fewer (values_with k out unfound next_ begun minutes) (values_with k' out' unfound next_ begun minutes) (arranged e.which U X Z) (arranged e.which W Y Z) w
    turned-away calm same taken = subst (λ (v : Values). GoesOnOrIsCut failed o done s n waits fewer (values_with k out unfound next_ begun minutes) v (arranged e.which U X Z) (arranged e.which W Y Z) w) (sym same) (turned-goes calm failed refl taken)

  -- ---- IT IS TORN OUT

  module _ (sizes : Result Application ℕ) (found : AreFoundCards o.found (with_session e.which None (with_sizes e.which sizes k.cabin.cards))) (broken : HasBroken X Y 1)
      (in_time : IsUntouched (found_of o.found e.which) X → IsUntouched (found_of o.found e.which) Y ⊎ (IsOwnValid (card_image o.recording e.which) × ((own_view (card_image o.recording e.which)).stored ≤ s.number))) where
    sits : slot_with k.cabin.slots.seats e.which ≡ Some e.slot
    sits = slot-there k.cabin.slots.seats e.slot e.which (ap (λ (q : Option Seat). is_card q e.which) m.seat ∙ own-card e.which None) m.elsewhere

    torn : IsTornNext o done s (In n) waits fewer (values_with k out unfound next_ begun minutes) (arranged e.which U X Z) (arranged e.which W Y Z) w e.slot e.which (tear_of e.slot e.at) (torn_out e.which e.at.second (with_sizes_of e.which sizes k.cabin))
    torn = record {
      next = m.next_;
      here = (n, false, ap (tear_of e.slot) m.moment, refl, w.moment.is, λ late. absurd (cc));
      broke = broke-once o done s n waits fewer e k out unfound next_ begun minutes U X Z w m failed k' noted noted' out' W Y way g sound broken;
      slots_are = ap (λ (slot : Option Slot). left_from slot e.at.second k.cabin.slots) sits ∙ ap (λ (u : ℕ). taken e.slot u k.cabin.slots) (now-is o done s n waits fewer e k out unfound next_ begun minutes U X Z w m);
      found = found;
      sessions = old-torn e.which sizes k.cabin.cards;
      lasts = fewer-torn e.which sizes k.cabin.cards;
      left = left o done s n waits fewer e k out unfound next_ begun minutes U X Z w m failed k' noted noted' out' W Y way g sound;
      there = there o done s n waits fewer e k out unfound next_ begun minutes U X Z w m failed k' noted noted' out' W Y way g sound;
      untouched = each e.which U W X Y Z (λ (c : Card) (a b : State). IsUntouched (found_of o.found c) a → IsUntouched (found_of o.found c) b ⊎ ((is_some (session_of k.cabin.cards c) ≡ true) ⊎ MayBeWrittenBy o s.number e.which c))
          (λ same. ⊎_elim (λ still. inl still) (λ wrote. inr (inr (refl, wrote.0, wrote.1))) (in_time same)) (λ same. inl same);
      travels = travels o done s n waits fewer e k out unfound next_ begun minutes U X Z w m failed k' noted noted' out' W Y way g sound;
    }

    torn-goes : (b : Bool) → failed ≡ b → IsCarriedOn b o.found (with_standing e.which Out (before o done s n waits fewer e k out unfound next_ begun minutes U X Z w m)) (with_session e.which None (with_sizes e.which sizes k.cabin.cards)) (arranged e.which W Y Z)
        → GoesOnOrIsCut b o done s n waits fewer (values_with k out unfound next_ begun minutes) (torn_values (tear_of e.slot e.at) (torn_out e.which e.at.second (with_sizes_of e.which sizes k.cabin)) (values_with k out unfound next_ begun minutes)) (arranged e.which U X Z) (arranged e.which W Y Z) w
    torn-goes false is taken_ = torn-next (arranged e.which U X Z) (arranged e.which W Y Z) o done s (In n) waits fewer (values_with k out unfound next_ begun minutes) w e.slot e.which (tear_of e.slot e.at) (torn_out e.which e.at.second (with_sizes_of e.which sizes k.cabin)) (for_card e.which Out w.standing) torn
        (record { powered = taken_; others = λ x apart. for-other e.which x Out w.standing apart })
    torn-goes true is taken_ = record {
      left = fewer;
      cabin = torn_out e.which e.at.second (with_sizes_of e.which sizes k.cabin);
      same = refl;
      within = tearing-fails (arranged e.which U X Z) (arranged e.which W Y Z) o done s (In n) waits fewer (values_with k out unfound next_ begun minutes) w e.slot e.which (tear_of e.slot e.at) (torn_out e.which e.at.second (with_sizes_of e.which sizes k.cabin)) torn
          (record { standing = for_card e.which Out w.standing; powerless = taken_; broke = unit-broke o done s n waits fewer e k out unfound next_ begun minutes U X Z w m failed k' noted noted' out' W Y way g sound is; no_keeping = λ keeping. not-keeping n keeping });
    }

    pub torn-first : values_with k' out' unfound next_ begun minutes ≡ torn_values (tear_of e.slot e.at) (torn_out e.which e.at.second (with_sizes_of e.which sizes k.cabin)) (values_with k out unfound next_ begun minutes)
        → IsCarriedOn failed o.found (with_standing e.which Out (before o done s n waits fewer e k out unfound next_ begun minutes U X Z w m)) (with_session e.which None (with_sizes e.which sizes k.cabin.cards)) (arranged e.which W Y Z)
        → GoesOnOrIsCut failed o done s n waits fewer (values_with k out unfound next_ begun minutes) (values_with k' out' unfound next_ begun minutes) (arranged e.which U X Z) (arranged e.which W Y Z) w
    torn-first same taken_ = subst (λ (v : Values). GoesOnOrIsCut failed o done s n waits fewer (values_with k out unfound next_ begun minutes) v (arranged e.which U X Z) (arranged e.which W Y Z) w) (sym same) (torn-goes failed refl taken_)

  -- ---- THE UNIT FAILED as it was asked what it owes

  pub unasked : falls_of (ending_of way) ≡ 0 → (sizes : Result Application ℕ) → AreFoundCards o.found (with_sizes e.which sizes k.cabin.cards) → (MayHaveWritten (ending_of way) → ⊥) → failed ≡ true → values_with k' out' unfound next_ begun minutes ≡ record (values_with k out unfound next_ begun minutes) { cabin = with_sizes_of e.which sizes k.cabin }
      → IsCarriedOn true o.found (with_standing e.which Out (before o done s n waits fewer e k out unfound next_ begun minutes U X Z w m)) (with_sizes e.which sizes k.cabin.cards) (arranged e.which W Y Z) → GoesOnOrIsCut failed o done s n waits fewer (values_with k out unfound next_ begun minutes) (values_with k' out' unfound next_ begun minutes) (arranged e.which U X Z) (arranged e.which W Y Z) w
  unasked calm sizes found never fails same taken_ =
      subst (λ (b : Bool). GoesOnOrIsCut b o done s n waits fewer (values_with k out unfound next_ begun minutes) (values_with k' out' unfound next_ begun minutes) (arranged e.which U X Z) (arranged e.which W Y Z) w) (sym fails)
      (subst (λ (v : Values). IsCut o done s n v (arranged e.which W Y Z)) (sym same) (record {
        left = waits;
        cabin = with_sizes_of e.which sizes k.cabin;
        same = refl;
        within = cut-cabin o done s (In n) waits None (values_with k out unfound next_ begun minutes) (arranged e.which W Y Z) (with_sizes e.which sizes k.cabin.cards) found (failure-recorded (arranged e.which U X Z) (arranged e.which W Y Z) o done s (In n) waits None [] (values_with k out unfound next_ begun minutes) w (record {
          goes = record {
            left = left o done s n waits fewer e k out unfound next_ begun minutes U X Z w m failed k' noted noted' out' W Y way g sound;
            there = there o done s n waits fewer e k out unfound next_ begun minutes U X Z w m failed k' noted noted' out' W Y way g sound;
            untouched = λ x was_. ⊎_elim (λ still. inl still) (λ wrote. absurd (never wrote.2)) (untouched o done s n waits fewer e k out unfound next_ begun minutes U X Z w m failed k' noted noted' out' W Y way g sound x was_);
          };
          breakdowns = breakdowns o done s n waits fewer e k out unfound next_ begun minutes U X Z w m failed k' noted noted' out' W Y way g sound calm;
          broke = unit-broke o done s n waits fewer e k out unfound next_ begun minutes U X Z w m failed k' noted noted' out' W Y way g sound fails;
          unfed = λ apart. refl;
          feeds = λ keeping. absurd (not-keeping n keeping);
          lost = None;
          others = [];
          parts = refl;
          due = w.due;
          due_later = omega arith;
          due_late = let late = w.late in let here = m.next_.is_now in omega (arith, late, here);
          low = let here = m.next_.is_now in omega (arith, here);
          standing = for_card e.which Out w.standing;
          powerless = taken_;
          travels = travels o done s n waits fewer e k out unfound next_ begun minutes U X Z w m failed k' noted noted' out' W Y way g sound;
        }));
      }))
