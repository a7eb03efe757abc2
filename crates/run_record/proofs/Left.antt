-- What was found stays found as more was left; minutes that follow one another, and one more in the book.
use Rattle.std.proofs.Common.{◌≡◌, inl, inr, ⊎_elim, ℕ, suc, ◌+◌, List, [], ◌∷◌, ◌++◌, Contains, length, map, ap, ◌∙◌, arith}
use Rattle.run_devices.specs.trace_model.declared.Card.{Card}
use Rattle.run_devices.specs.trace_model.Trace.{TraceSecond}
use Rattle.minute_rules.specs.minute_model.declared.Minute.{Minute}
use Rattle.minute_rules.specs.minute_model.Span.{count_from}
use Rattle.run_devices.specs.log_model.declared.lines.Mark.{Mark}
use Rattle.run_devices.specs.log_model.declared.lines.Verdict.{Verdict}
use Rattle.run_devices.specs.log_model.declared.lines.Verdict.TheVariants.{Accepted, NotValid, TimeOverlap}
use Rattle.run_devices.specs.log_model.Log.{RunLog}
use Rattle.run_devices.specs.safety_model.Recording.{brought}
use Rattle.run_devices.specs.safety_model.Safe.{IsVerdict}
use Rattle.run_devices.specs.run_promise.Origin.{Origin}
use Rattle.run_devices.specs.run_promise.Ends.{recording_by, BringsAll}
use Rattle.run_devices.proofs.run_promise.Beside.{marked-on}
use Rattle.run_record.specs.Within.{Beginning, SeenBy, BringsBy, VerdictBy}

-- what was found may be found as more was left
seen-by : (o : Origin) (n : ℕ) (unit card more_unit more_card : List ℕ → Type 0) → ((x : List ℕ) → unit x → more_unit x) → ((x : List ℕ) → card x → more_card x) → (c : Card) (u : ℕ) (v : Verdict) →
    SeenBy o n unit card c u v → SeenBy o n more_unit more_card c u v
seen-by o n unit card more_unit more_card on_unit on_card c u (Accepted replayed) h =
    (h.0, h.1, (h.2.0, h.2.1, on_unit h.2.0 h.2.2, on_card h.2.1 h.2.3, h.2.4, h.2.5))
seen-by o n unit card more_unit more_card on_unit on_card c u (NotValid fid place) h = h
seen-by o n unit card more_unit more_card on_unit on_card c u (TimeOverlap stored now) h =
    (h.0, h.1, (h.2.0, ⊎_elim (λ first. inl first) (λ again. inr (again.0, again.1, again.2, (again.3.0, on_card again.3.0 again.3.1, again.3.2))) h.2.1))

brings-stay : (o : Origin) (b : Beginning) (done : List TraceSecond) (n : ℕ) (marks acknowledged : List Mark) → ((mark : Mark) → Contains marks mark → Contains acknowledged mark) → (c : Card) (u : ℕ) (v : Verdict) → BringsBy o b done n marks c u v → BringsBy o b done n acknowledged c u v
brings-stay o b done n marks acknowledged stay c u (Accepted replayed) h = ⊎_elim (λ all. inl (all.0, marked-on marks acknowledged stay c (brought o.recording c).owed all.1)) (λ before. inr before) h
brings-stay o b done n marks acknowledged stay c u (NotValid fid place) h = h
brings-stay o b done n marks acknowledged stay c u (TimeOverlap stored now) h = h

pub verdict-left : (o : Origin) (b : Beginning) (done : List TraceSecond) (n : ℕ) (marks acknowledged : List Mark) (unit card more_unit more_card : List ℕ → Type 0) → ((mark : Mark) → Contains marks mark → Contains acknowledged mark) → ((x : List ℕ) → unit x → more_unit x) → ((x : List ℕ) → card x → more_card x) →
    (c : Card) (u : ℕ) (v : Verdict) → VerdictBy o b done n marks unit card c u v → VerdictBy o b done n acknowledged more_unit more_card c u v
verdict-left o b done n marks acknowledged unit card more_unit more_card stay on_unit on_card c u v h = (seen-by o n unit card more_unit more_card on_unit on_card c u v h.0, brings-stay o b done n marks acknowledged stay c u v h.1)

verdict-so : (o : Origin) (done : List TraceSecond) (log : RunLog) (unit card more_unit more_card : List ℕ → Type 0) → ((x : List ℕ) → unit x → more_unit x) → ((x : List ℕ) → card x → more_card x) → (c : Card) (u : ℕ) (v : Verdict) →
    IsVerdict (recording_by o done log) unit card c u v → IsVerdict (recording_by o done log) more_unit more_card c u v
verdict-so o done log unit card more_unit more_card on_unit on_card c u (Accepted replayed) h =
    (h.0, h.1, (h.2.0, h.2.1, on_unit h.2.0 h.2.2, on_card h.2.1 h.2.3, h.2.4, h.2.5))
verdict-so o done log unit card more_unit more_card on_unit on_card c u (NotValid fid place) h = h
verdict-so o done log unit card more_unit more_card on_unit on_card c u (TimeOverlap stored now) h =
    (h.0, h.1, (h.2.0, ⊎_elim (λ first. inl first) (λ again. inr (again.0, again.1, again.2, (again.3.0, on_card again.3.0 again.3.1, again.3.2))) h.2.1))

pub seen-left : (o : Origin) (done : List TraceSecond) (log : RunLog) (marks : List Mark) (unit card more_unit more_card : List ℕ → Type 0) → ((x : List ℕ) → unit x → more_unit x) → ((x : List ℕ) → card x → more_card x) → (c : Card) (u : ℕ) (v : Verdict) →
    IsVerdict (recording_by o done log) unit card c u v × BringsAll (recording_by o done log) marks c u v → IsVerdict (recording_by o done log) more_unit more_card c u v × BringsAll (recording_by o done log) marks c u v
seen-left o done log marks unit card more_unit more_card on_unit on_card c u v h = (verdict-so o done log unit card more_unit more_card on_unit on_card c u v h.0, h.1)

-- minutes that follow one another, behind some of them
pub counted-part : (xs ys : List Minute) (a : ℕ) → map (λ (m : Minute). m.minute) (xs ++ ys) ≡ count_from a (length (xs ++ ys)) → map (λ (m : Minute). m.minute) ys ≡ count_from (a + length xs) (length ys)
counted-part [] ys a is = is ∙ ap (λ (n : ℕ). count_from n (length ys)) (omega arith)
counted-part (x ∷ xs) ys a is =
    let rest : map (λ (m : Minute). m.minute) (xs ++ ys) ≡ count_from (a + 1) (length (xs ++ ys)) = cc in
    let e : a + 1 + length xs ≡ a + suc (length xs) = omega arith in
    counted-part xs ys (a + 1) rest ∙ ap (λ (n : ℕ). count_from n (length ys)) e
