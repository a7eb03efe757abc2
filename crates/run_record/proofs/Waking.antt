-- The cards that wait at a power-on, one after the other.
use Rattle.std.proofs.Common.{◌≡◌, inl, inr, ⊎_elim, ℕ, Bool, true, false, cond, not, ◌&&◌, nat_eq, Some, None, List, [], ◌∷◌, ◌++◌, refl, ap, sym, ◌∙◌, arith, append-nil}
use Rattle.std.specs.List.{AllByRecursion}
use Rattle.std.proofs.lemmas.List.Elements.{Contains-push_cases, Contains-append_cases}
use Rattle.minute_rules.specs.activity_codec.declared.values.Slot.{Slot}
use Rattle.minute_rules.specs.activity_codec.declared.values.Slot.TheVariants.{Driver, CoDriver}
use Rattle.minute_rules.specs.activity_codec.Activity.{same_slot}
use Rattle.run_devices.specs.trace_model.declared.Card.{Card}
use Rattle.run_devices.specs.trace_model.Trace.{TraceSecond}
use Rattle.run_devices.specs.log_model.declared.lines.Find.{Find}
use Rattle.run_devices.specs.log_model.Log.{RunLog, Phase, In, same_phase, found_in}
use Rattle.run_devices.specs.log_model.Course.{Visit, went}
use Rattle.run_devices.specs.safety_model.Safe.{Devices}
use Rattle.run_devices.specs.card_slots.Calls.{seat_in}
use Rattle.run_devices.specs.run_course.Moments.{and_find}
use Rattle.run_devices.proofs.run_course.Lookups.{find-more}
use Rattle.run_devices.specs.run_course.Telling.{WaitBut}
use Rattle.run_devices.proofs.run_course.Lines.{times-append}
use Rattle.run_devices.specs.run_promise.Origin.{Origin, start_at}
use Rattle.run_record.specs.Recorded.{Values}
use Rattle.run_record.specs.Within.{Beginning, told_before, course_in}
use Rattle.run_record.specs.Judging.{IsNext}
use Rattle.run_record.proofs.Known.{waits-there}
use Rattle.run_record.specs.Waking.{IsWaking}

-- the first of the cards that wait waits no more
pub but-first : (at : Phase) (slot : Slot) (card : Card) (rest : List Visit) → WaitBut at slot card (record { phase = at; slot = slot; card = card } ∷ rest) rest
but-first at slot card rest = record {
  others = λ x there. ⊎_elim
      (λ here. ⊎_elim (λ none. absurd (omega (arith, none.1))) (λ (same : v ≡ x). inr (ap (λ (y : Visit). y.slot) (sym same))) (Contains-push_cases [] v x here))
      (λ behind. inl behind)
      (Contains-append_cases (v ∷ []) rest x there);
  fewer_by = λ other. let both = times-append other (v ∷ []) rest in omega (arith, both);
}
  where
    v : Visit
    v = record { phase = at; slot = slot; card = card }

module _ (o : Origin) (done : List TraceSecond) (s : TraceSecond) (a : Beginning) (v : Values) (d : Devices) (waits : List Visit) (untold : List Slot) (k : IsWaking o done s a v d waits untold) where
  -- a card that sits in a slot and is not accepted may be judged now
  pub next-waking : (slot : Slot) (card : Card) (fewer : List Visit) → seat_in v.cabin.slots.seats slot ≡ Some (record { card = card; newest = None }) → WaitBut (In 0) slot card waits fewer → AllByRecursion (λ (x : Visit). x.phase ≡ In 0) fewer →
      IsNext o done s (In 0) waits fewer v d k.within slot card
  next-waking slot card fewer seat but behind = record {
    sits_ = waits-there (start_at o) (told_before k.within.b done) (k.within.b.run.book.sure ++ k.within.new) (course_in k.within.b done s (In 0) v.log).left s.number k.within.from (course_in k.within.b done s (In 0) v.log).slots v.cabin.slots k.within.tells slot card seat;
    enters = ap not (ap (λ (x : Beginning). (went x.run.log done).before.running) k.began ∙ k.starts);
    stays_in = refl;
    but = but;
    behind = behind;
    is_now = k.is_now;
  }

-- behind a find of the driver's card the co-driver's is still to be told of
and-not : (x : Bool) → (x && false) ≡ false
and-not true = refl
and-not false = refl

pub find-other : (log : RunLog) (f : Find) (u : ℕ) (at : Phase) → f.slot ≡ Driver → found_in (and_find log f) u at CoDriver ≡ found_in log u at CoDriver
find-other log f u at driver =
    (find-more log f u).found at CoDriver
    ∙ ap (λ (b : Bool). found_in log u at CoDriver ++ cond b (f.verdict ∷ []) [])
    (ap (λ (sl : Slot). nat_eq f.second u && same_phase (In f.begun) at && same_slot sl CoDriver) driver ∙ and-not (nat_eq f.second u && same_phase (In f.begun) at))
    ∙ append-nil (found_in log u at CoDriver)
