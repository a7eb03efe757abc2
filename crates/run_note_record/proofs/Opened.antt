-- The sessions that were found open, as more seconds are told.
use Rattle.std.proofs.Common.{◌≡◌, inl, inr, ⊎_elim, ◌∙◌, ℕ, true, List, [], ◌∷◌, ◌++◌, Contains, refl, ap, sym, subst, arith}
use Rattle.std.specs.List.{list_any}
use Rattle.std.proofs.lemmas.List.Elements.{Contains-append_left, Contains-push, Contains-push_cases}
use Rattle.run_devices.specs.trace_model.declared.Card.{Card}
use Rattle.run_devices.specs.trace_model.Trace.{TraceSecond}
use Rattle.run_devices.specs.log_model.Log.{RunLog}
use Rattle.run_devices.specs.log_model.Slots.{same_card}
use Rattle.run_devices.specs.log_model.Course.{ToldSecond, Visit, Went, second_told, went}
use Rattle.run_devices.proofs.log_model.Growth.{went-more}
use Rattle.run_devices.specs.safety_model.Safe.{Devices}
use Rattle.run_events.proofs.Later.{told-number}
use Rattle.run_devices.specs.run_promise.Origin.{Origin}
use Rattle.run_devices.specs.run_promise.Beside.{HaveLeftMore}
use Rattle.run_note_record.specs.Opened.{came_in, HasComeBefore, IsFirst, IsOpenSo, AreOpenSo}

-- WHO HAS COME BEFORE has come before behind more seconds that are told, and of a longer trace
pub come-told : (told more : List ToldSecond) (trace : List TraceSecond) (c : Card) (u : ℕ) → HasComeBefore told trace c u → HasComeBefore (told ++ more) trace c u
come-told told more trace c u h = ⊎_elim (λ t. inl (t.0, Contains-append_left told more t.0 t.1, t.2, t.3)) (λ s. inr s) h

pub come-trace : (told : List ToldSecond) (trace later : List TraceSecond) (c : Card) (u : ℕ) → HasComeBefore told trace c u → HasComeBefore told (trace ++ later) c u
come-trace told trace later c u h = ⊎_elim (λ t. inl t) (λ s. inr (s.0, Contains-append_left trace later s.0 s.1, s.2, s.3)) h

-- WHO HAS COME BEFORE by seconds the last of which was told otherwise, but for who entered in it, has come before
pub come-as : (log later : RunLog) (front : List TraceSecond) (r : TraceSecond) → went later front ≡ went log front → (second_told later (went later front).before r).course.entered ≡ (second_told log (went log front).before r).course.entered →
    (trace : List TraceSecond) (c : Card) (u : ℕ) → HasComeBefore (went log (front ++ r ∷ [])).told trace c u → HasComeBefore (went later (front ++ r ∷ [])).told trace c u
come-as log later front r same entered trace c u h = ⊎_elim
    (λ past.
    let w = by past.0 past.1 past.3 in
    let lt = past.2 in
    let is = w.2 in
    inl (w.0, w.1, omega (arith, lt, is), w.3))
    (λ twice. inr twice)
    h
  where
    told-as : (l : RunLog) → (went l (front ++ r ∷ [])).told ≡ (went l front).told ++ second_told l (went l front).before r ∷ []
    told-as l = ap (λ (w : Went). w.told) (went-more l front r)

    by : (z : ToldSecond) → Contains (went log (front ++ r ∷ [])).told z → came_in c z ≡ true → (w : ToldSecond) × Contains (went later (front ++ r ∷ [])).told w × (w.second.number ≡ z.second.number) × (came_in c w ≡ true)
    by z among came = ⊎_elim
        (λ old. (
          z,
          subst (λ (ts : List ToldSecond). Contains ts z) (sym (told-as later))
              (Contains-append_left (went later front).told (second_told later (went later front).before r ∷ []) z (subst (λ (w : Went). Contains w.told z) (sym same) old)),
          refl,
          came,
        ))
        (λ (one : second_told log (went log front).before r ≡ z). (
          second_told later (went later front).before r,
          subst (λ (ts : List ToldSecond). Contains ts (second_told later (went later front).before r)) (sym (told-as later)) (Contains-push (went later front).told (second_told later (went later front).before r)),
          told-number later (went later front).before r ∙ sym (told-number log (went log front).before r) ∙ ap (λ (w : ToldSecond). w.second.number) one,
          ap (list_any (λ (q : Visit). same_card c q.card)) entered ∙ ap (came_in c) one ∙ came,
        ))
        (Contains-push_cases (went log front).told (second_told log (went log front).before r) z (subst (λ (ts : List ToldSecond). Contains ts z) (told-as log) among))

pub first-told : (start : Card → List ℕ) (told more : List ToldSecond) (trace : List TraceSecond) (c : Card) (u session : ℕ) → IsFirst start told trace c u session → IsFirst start (told ++ more) trace c u session
first-told start told more trace c u session h = ⊎_elim (λ is. inl is) (λ come. inr (come-told told more trace c u come)) h

pub first-more : (start : Card → List ℕ) (told more : List ToldSecond) (trace later : List TraceSecond) (c : Card) (u session : ℕ) → IsFirst start told trace c u session → IsFirst start (told ++ more) (trace ++ later) c u session
first-more start told more trace later c u session h = ⊎_elim (λ is. inl is) (λ come. inr (come-trace (told ++ more) trace later c u (come-told told more trace c u come))) h

-- an image that might have been left might have been left since
pub open-left : (o : Origin) (told : List ToldSecond) (trace : List TraceSecond) (d e : Devices) (c : Card) (u session : ℕ) → HaveLeftMore o d e → IsOpenSo o told trace d c u session → IsOpenSo o told trace e c u session
open-left o told trace d e c u session left h = (h.0, left.card c h.0 h.1, h.2, h.3)

pub all-left : (o : Origin) (told : List ToldSecond) (trace : List TraceSecond) (d e : Devices) (sessions : ℕ → Visit → ℕ) → HaveLeftMore o d e → AreOpenSo o told trace d sessions → AreOpenSo o told trace e sessions
all-left o told trace d e sessions left h t f among found accepts = open-left o told trace d e f.0.card t.second.number (sessions t.second.number f.0) left (h t f among found accepts)
