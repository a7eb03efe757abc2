-- The events of a run over seconds that are taken at once, without power.
use Rattle.std.proofs.Common.{◌≡◌, ℕ, zero, suc, ◌+◌, ◌-◌, ◌%◌, ◌<◌, ◌≤◌, true, false, List, [], ◌∷◌, ◌++◌, length, refl, ap, sym, subst, ◌∙◌, arith, append_assoc, append-nil, length-append}
use Rattle.run_devices.specs.trace_model.declared.Action.{Action}
use Rattle.run_devices.specs.trace_model.Trace.{TraceSecond, driven, dark}
use Rattle.run_devices.specs.log_model.declared.lines.Refused.{Refused}
use Rattle.run_devices.specs.log_model.Log.{RunLog}
use Rattle.run_devices.specs.log_model.Spans.{AreInOrder}
use Rattle.run_devices.specs.log_model.Course.{Went, Before, second_told, went}
use Rattle.run_devices.specs.run_unit_course.Lines.{cut_at}
use Rattle.run_devices.specs.run_unit_course.Followed.{UnitPower, Due, Lost, IsDark}
use Rattle.run_devices.proofs.run_unit_course.Parts.{order-behind, driven-order, driven-length, dark-order, dark-length}
use Rattle.run_devices.specs.safety_model.Safe.{Devices}
use Rattle.run_devices.specs.run_course.Moments.{and_break}
use Rattle.run_devices.specs.run_course.Followed.{Progress, BookFollowsRun, IsLost}
use Rattle.run_devices.proofs.run_course.Dark.{lost-are-told}
use Rattle.run_devices.proofs.run_course.Logs.{went-refused}
use Rattle.run_devices.proofs.run_course.Steps.{with-supply}
use Rattle.run_devices.proofs.run_course.Told.{lost-dark, told-lit}
use Rattle.run_devices.specs.run_promise.Origin.{Origin, rule_of, start_at, first_of}
use Rattle.run_note_record.specs.Evented.{Evented, EventedBy}
use Rattle.run_note_record.specs.Going.{DarkSecondsBringNothing, AnOffLineBringsNothing, AnOffLineCutsAndBringsNothing}
use Rattle.run_note_record.proofs.Dark.{dark-brings}
use Rattle.run_note_record.proofs.Ends.{off-cut_brings}

-- ---- seconds one by one

pub plain-last : (n number speed : ℕ) → driven (suc n) number speed [] ≡ driven n number speed [] ++ record { number = number + n; has_power = true; speed = speed; actions = [] } ∷ []
plain-last zero number speed = ap (λ (k : ℕ). record { number = k; has_power = true; speed = speed; actions = [] } ∷ []) (let e : number ≡ number + 0 = omega arith in e)
plain-last (suc n) number speed =
    ap (λ (ss : List TraceSecond). record { number = number; has_power = true; speed = speed; actions = [] } ∷ ss)
    (plain-last n (number + 1) speed ∙ ap (λ (k : ℕ). driven n (number + 1) speed [] ++ record { number = k; has_power = true; speed = speed; actions = [] } ∷ []) (let e : number + 1 + n ≡ number + suc n = omega arith in e))

pub acted-last : (n number speed : ℕ) (actions : List Action) → driven (suc (suc n)) number speed actions ≡ driven (suc n) number speed actions ++ record { number = number + suc n; has_power = true; speed = speed; actions = [] } ∷ []
acted-last n number speed actions =
    ap (λ (ss : List TraceSecond). record { number = number; has_power = true; speed = speed; actions = actions } ∷ ss)
    (plain-last n (number + 1) speed ∙ ap (λ (k : ℕ). driven n (number + 1) speed [] ++ record { number = k; has_power = true; speed = speed; actions = [] } ∷ []) (let e : number + 1 + n ≡ number + suc n = omega arith in e))

pub off-last : (n number : ℕ) → dark (suc n) number ≡ dark n number ++ record { number = number + n; has_power = false; speed = 0; actions = [] } ∷ []
off-last zero number = ap (λ (k : ℕ). record { number = k; has_power = false; speed = 0; actions = [] } ∷ []) (let e : number ≡ number + 0 = omega arith in e)
off-last (suc n) number =
    ap (λ (ss : List TraceSecond). record { number = number; has_power = false; speed = 0; actions = [] } ∷ ss)
    (off-last n (number + 1) ∙ ap (λ (k : ℕ). dark n (number + 1) ++ record { number = k; has_power = false; speed = 0; actions = [] } ∷ []) (let e : number + 1 + n ≡ number + suc n = omega arith in e))

-- one more behind some
pub behind-more : (done front rest : List TraceSecond) (s : TraceSecond) → rest ≡ front ++ s ∷ [] → (done ++ front) ++ s ∷ [] ≡ done ++ rest
behind-more done front rest s is = append_assoc done front (s ∷ []) ∙ ap (λ (ss : List TraceSecond). done ++ ss) (sym is)

-- ---- after a failed call

module _ (o : Origin) (done : List TraceSecond) (p : Progress) (f : BookFollowsRun (rule_of o) (start_at o) o.from (first_of o) done p) (d : Devices) (v : EventedBy o done p d) (is : p.supply ≡ Lost) (speed : ℕ) (actions : List Action) (refused : List Refused) (low : 0 < p.next % 60) where
  abbrev later : RunLog
  later = record p.log { refused = refused }

  lost : IsLost (went p.log done).before
  lost = (with-supply (rule_of o) (start_at o) o.from (first_of o) done p Lost is f).power

  before-is : (n : ℕ) → p.next % 60 + n ≤ 60 → (went later (done ++ driven n p.next speed actions)).before ≡ (went p.log done).before
  before-is n within =
      ap (λ (w : Went). w.before) (went-refused p.log later refl refl (done ++ driven n p.next speed actions))
      ∙ ap (λ (w : Went). w.before) (lost-are-told (rule_of o) (start_at o) o.from (first_of o) done p f is n speed actions low within)

  unlit : (n : ℕ) (s : TraceSecond) → p.next % 60 + n ≤ 60 → 0 < s.number % 60 → (second_told later (went later (done ++ driven n p.next speed actions)).before s).lit ≡ false
  unlit n s within some =
      told-lit later (went later (done ++ driven n p.next speed actions)).before s
      ∙ lost-dark (went later (done ++ driven n p.next speed actions)).before s (subst (λ (b : Before). IsLost b) (sym (before-is n within)) lost) some

  unlit-first : (s : TraceSecond) → 0 < s.number % 60 → (second_told later (went later done).before s).lit ≡ false
  unlit-first s some = subst (λ (ss : List TraceSecond). (second_told later (went later ss).before s).lit ≡ false) (append-nil done) (unlit 0 s (omega arith) some)

  dark-supply : IsDark p.supply
  dark-supply = subst IsDark (sym is) tt

  lost-each : (n : ℕ) → p.next % 60 + suc n ≤ 60 → Evented o (done ++ driven (suc n) p.next speed actions) later p.unfound (p.next + suc n) Lost d
  lost-each zero within =
      let s : TraceSecond = record { number = p.next; has_power = true; speed = speed; actions = actions } in
      subst (λ (k : ℕ). Evented o (done ++ s ∷ []) later p.unfound k Lost d) (let e : suc p.next ≡ p.next + 1 = omega arith in e)
      (dark-brings d o done p.log later p.unfound p.next p.supply Lost f.order f.next v dark-supply s refl refl refl (unlit-first s low) tt)
  lost-each (suc n) within =
      let s : TraceSecond = record { number = p.next + suc n; has_power = true; speed = speed; actions = [] } in
      let front : List TraceSecond = driven (suc n) p.next speed actions in
      let long = driven-length (suc n) p.next speed actions in
      let all = length-append done front in
      let next = f.next in
      subst (λ (k : ℕ). Evented o (done ++ driven (suc (suc n)) p.next speed actions) later p.unfound k Lost d) (let e : suc (p.next + suc n) ≡ p.next + suc (suc n) = omega arith in e)
      (subst (λ (ss : List TraceSecond). Evented o ss later p.unfound (suc (p.next + suc n)) Lost d) (behind-more done front (driven (suc (suc n)) p.next speed actions) s (acted-last n p.next speed actions))
      (dark-brings d o (done ++ front) later later p.unfound (p.next + suc n) Lost Lost
      (order-behind o.from done front f.order (subst (λ (k : ℕ). AreInOrder k front) f.next (driven-order (suc n) p.next speed actions)))
      (omega (arith, long, all, next)) (lost-each n (omega (arith, within))) tt s refl refl refl (unlit (suc n) s (omega (arith, within)) (omega (arith, within))) tt))

pub dark-seconds : (d : Devices) → DarkSecondsBringNothing d
dark-seconds d o done p f v is n speed actions refused low within = lost-each o done p f d v is speed actions refused low n within

-- ---- an `off` line

module _ (o : Origin) (d : Devices) (log : RunLog) (unfound : ℕ) where
  off-first : (done : List TraceSecond) (next : ℕ) (supply : UnitPower) → AreInOrder o.from done → next ≡ o.from + length done → Evented o done log unfound next supply d → IsDark supply →
      Evented o (done ++ record { number = next; has_power = false; speed = 0; actions = [] } ∷ []) log unfound (suc next) Due d
  off-first done next supply order count v dark_ =
      let s : TraceSecond = record { number = next; has_power = false; speed = 0; actions = [] } in
      dark-brings d o done log log unfound next supply Due order count v dark_ s refl refl refl (told-lit log (went log done).before s) tt

  off-each : (n : ℕ) (done : List TraceSecond) (next : ℕ) (supply : UnitPower) → AreInOrder o.from done → next ≡ o.from + length done → Evented o done log unfound next supply d → IsDark supply →
      Evented o (done ++ dark (suc n) next) log unfound (next + suc n) Due d
  off-each zero done next supply order count v dark_ =
      subst (λ (k : ℕ). Evented o (done ++ dark 1 next) log unfound k Due d) (let e : suc next ≡ next + 1 = omega arith in e) (off-first done next supply order count v dark_)
  off-each (suc n) done next supply order count v dark_ =
      let s : TraceSecond = record { number = next + suc n; has_power = false; speed = 0; actions = [] } in
      let front : List TraceSecond = dark (suc n) next in
      let long = dark-length (suc n) next in
      let all = length-append done front in
      subst (λ (k : ℕ). Evented o (done ++ dark (suc (suc n)) next) log unfound k Due d) (let e : suc (next + suc n) ≡ next + suc (suc n) = omega arith in e)
      (subst (λ (ss : List TraceSecond). Evented o ss log unfound (suc (next + suc n)) Due d) (behind-more done front (dark (suc (suc n)) next) s (off-last (suc n) next))
      (off-first (done ++ front) (next + suc n) Due (order-behind o.from done front order (subst (λ (k : ℕ). AreInOrder k front) count (dark-order (suc n) next))) (omega (arith, long, all, count))
      (off-each n done next supply order count v dark_) tt))

pub off-line : (d : Devices) → AnOffLineBringsNothing d
off-line d o done p f v dark_ n = off-each o d p.log p.unfound n done p.next p.supply f.order f.next v dark_

pub off-line_cuts : (d : Devices) → AnOffLineCutsAndBringsNothing d
off-line_cuts d o done p f v t span is n = off-each o d (and_break p.log (cut_at (p.next - 1) false p.begun)) p.unfound n done p.next Lost f.order f.next (off-cut_brings d o done p f v t span is) tt
