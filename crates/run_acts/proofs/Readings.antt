-- What minutes that are kept tell of the odometer, and what an insertion does, are readings of the power spans of now.
use Rattle.std.proofs.Common.{◌≡◌, ◌∙◌, ◌⊎◌, inl, inr, ⊎_elim, ℕ, ◌+◌, ◌*◌, Option, None, List, [], ◌∷◌, ◌++◌, map, Contains, refl, sym, ap, subst, arith, append_assoc, append-nil}
use Rattle.std.proofs.lemmas.List.{map-append, same_from_push}
use Rattle.std.proofs.lemmas.List.Elements.{Contains-append_left, Contains-append_right, Contains-append_cases, Contains-push, Contains-push_cases}
use Rattle.trace_model.specs.declared.Action.{Action}
use Rattle.trace_model.specs.Trace.{TraceSecond}
use Rattle.unit_model.specs.minute_model.declared.Minute.{Minute}
use Rattle.unit_model.specs.minute_model.Span.{travelled_of}
use Rattle.log_model.specs.Log.{RunLog, Phase}
use Rattle.log_model.specs.Course.{ToldSecond, Visit, went}
use Rattle.log_model.specs.Spans.{spans_with, seconds_in}
use Rattle.unit_notes.specs.note_model.Odometer.{SpanFrom}
use Rattle.device_calls.specs.safety_model.Safe.{Devices}
use Rattle.device_calls.specs.unit_rule.Odometer.{odometer_by}
use Rattle.run_events.specs.run_rings.Spans.{with_second}
use Rattle.run_events.proofs.run_rings.Spans.{are-spans}
use Rattle.run_events.proofs.run_course.Told.{lit-starts, spans-lit}
use Rattle.run_minutes.specs.run_promise.Origin.{Origin}
use Rattle.run_minutes.specs.run_devices.Measured.{Reading, reading_at}
use Rattle.run_note_record.specs.OnCards.{EndBefore, BeginWith, IsReading, IsReadingAtEnd}
use Rattle.run_record.specs.Recorded.{Values}
use Rattle.run_record.specs.Within.{RecordInSecond}
use Rattle.run_minutes.specs.declared.keeper.Keeper.{Keeper}
use Rattle.run_minutes.specs.Decided.{reading_of, readings_of}
use Rattle.run_acts.specs.declared.run.Run.{Run}
use Rattle.run_acts.specs.RunRinged.{RingsWithin, AreSpansNow}
use Rattle.run_acts.specs.Truths.{driven_in}
use Rattle.run_acts.proofs.MinuteEnds.{followed-lit, minute-ends}
use Rattle.run_acts.proofs.RingedSecond.{travelled-is}

-- the spans of rings that are carried
pub spans-here : (o : Origin) (done : List TraceSecond) (s : TraceSecond) (began : RunLog) (front : List Action) (run : Run) (log : RunLog) (spans : List SpanFrom) (t : ToldSecond) (d : Devices) → RingsWithin o done s began front run log spans t d → AreSpansNow done s began spans run.keeper.odometer t
spans-here o done s began front run log spans t d rings = record { last = rings.base; are = rings.ringed.spans_are; second = rings.ringed.second }

-- the values of some minutes, where that of each is so
pub each-value : (Is : Reading → Type 0) (k : Keeper) (ms : List Minute) → ((m : Minute) → Contains ms m → Is (reading_at m.minute (odometer_by k.odometer m.travelled))) → (r : Reading) → Contains (readings_of k ms) r → Is r
each-value Is k [] each r at = absurd (let few = at.1 in omega (arith, few))
each-value Is k (m ∷ ms) each r at = ⊎_elim
    (λ first. ⊎_elim
    (λ (none : Contains [] r). absurd (let few = none.1 in omega (arith, few)))
    (λ same. subst Is same (each m (Contains-append_left (m ∷ []) ms m (Contains-push [] m))))
    (Contains-push_cases [] (reading_of k m) r first))
    (λ later. each-value Is k ms (λ x there. each x (Contains-append_right (m ∷ []) ms x there)) r later)
    (Contains-append_cases (reading_of k m ∷ []) (readings_of k ms) r at)

module _ (o : Origin) (done : List TraceSecond) (s : TraceSecond) (at : Phase) (waits : List Visit) (speed : Option ℕ) (rest : List Minute) (v : Values) (d : Devices) (w : RecordInSecond o done s at waits speed rest v d)
    (spans : List SpanFrom) (base : ℕ) (t : ToldSecond) (now : AreSpansNow done s w.b.run.log spans base t) where
  -- the last of them goes on with this second
  last-span : now.last.1.span ≡ w.b.span ++ t ∷ []
  last-span =
      let f = followed-lit o done s at waits speed rest v d w in
      (same_from_push (map (λ (x : SpanFrom). x.span) now.last.0) f.ended now.last.1.span (w.b.span ++ t ∷ [])
      (sym (map-append (λ (x : SpanFrom). x.span) now.last.0 (now.last.1 ∷ []))
      ∙ ap (λ (l : List SpanFrom). map (λ (x : SpanFrom). x.span) l) (sym now.last.2)
      ∙ are-spans spans base t
      ∙ ap (λ (ss : List (List ToldSecond)). spans_with ss t) (now.are ∙ f.spans)
      ∙ spans-lit f.ended w.b.span t now.second.lit (now.second.starts ∙ lit-starts w.b.span (went w.b.run.log done).before w.b.run.next f.power))).1

  -- what stands behind some of its seconds, before the next one
  reading-at : (front behind : List ToldSecond) → w.b.span ≡ front ++ behind → (u : ℕ) → EndBefore u (seconds_in front) ⊎ BeginWith u (seconds_in (behind ++ t ∷ [])) → IsReading (with_second spans base t) u (odometer_by base (driven_in front))
  reading-at front behind split u when_it = record {
    earlier = now.last.0;
    s = now.last.1;
    later = [];
    are = now.last.2;
    front = front;
    behind = behind ++ t ∷ [];
    parts = last-span ∙ ap (λ (l : List ToldSecond). l ++ t ∷ []) split ∙ append_assoc front behind (t ∷ []);
    is = ap (λ (b : ℕ). odometer_by b (driven_in front)) (sym now.last.3);
    when = when_it;
  }

  -- A MINUTE that it decides
  minute-reads : (m : Minute) → Contains (w.ds ++ rest) m → IsReading (with_second spans base t) (60 * (m.minute + 1)) (odometer_by base m.travelled)
  minute-reads m among =
      let e = minute-ends o done s at waits speed rest v d w m among in
      let number = e.4 in
      subst (λ (n : ℕ). IsReading (with_second spans base t) (60 * (m.minute + 1)) (odometer_by base n)) (sym e.5)
      (reading-at (e.0 ++ e.1 ∷ []) e.2 (e.3 ∙ sym (append_assoc e.0 (e.1 ∷ []) e.2)) (60 * (m.minute + 1))
      (inl (seconds_in e.0, e.1.second, map-append (λ (x : ToldSecond). x.second) e.0 (e.1 ∷ []), omega (arith, number))))

  -- so do all that it keeps, as they ended
  pub values-read : (k : Keeper) → k.odometer ≡ base → (r : Reading) → Contains (readings_of k rest) r → IsReadingAtEnd (with_second spans base t) r
  values-read k same =
      each-value (IsReadingAtEnd (with_second spans base t)) k rest
      (λ m among. subst (λ (b : ℕ). IsReading (with_second spans base t) (60 * (m.minute + 1)) (odometer_by b m.travelled)) (sym same) (minute-reads m (Contains-append_right w.ds rest m among)))

-- AN INSERTION tells the odometer of its second, before that is fed
pub insertion-reads : (o : Origin) (done : List TraceSecond) (s : TraceSecond) (at : Phase) (waits : List Visit) (rest : List Minute) (v : Values) (d : Devices) (w : RecordInSecond o done s at waits None rest v d) (spans : List SpanFrom) (base : ℕ) (t : ToldSecond) → AreSpansNow done s w.b.run.log spans base t → (n : ℕ) →
    n ≡ odometer_by base (travelled_of w.sp) → IsReading (with_second spans base t) s.number n
insertion-reads o done s at waits rest v d w spans base t now n is =
    subst (λ (m : ℕ). IsReading (with_second spans base t) s.number m) (sym (is ∙ ap (λ (k : ℕ). odometer_by base k) (travelled-is o done s at waits rest v d w)))
    (reading-at o done s at waits None rest v d w spans base t now w.b.span [] (sym (append-nil w.b.span)) s.number (inr (t.second, [], refl, now.second.number)))
