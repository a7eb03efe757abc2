-- Seconds that bring no event: a power-on that fails, a second without power, a cut behind all of a second; and the start and the end of a run.
use Rattle.std.proofs.Common.{◌≡◌, ⊎_elim, ℕ, suc, Bool, true, false, ◌&&◌, ◌||◌, nat_eq, Option, Some, None, List, [], ◌∷◌, ◌++◌, All, Contains, take, map, refl, ap, sym, subst, ◌∙◌, arith, append-nil}
use Rattle.std.specs.List.{list_any}
use Rattle.std.proofs.lemmas.Bool.Decides.{nat_tests}
use Rattle.std.proofs.lemmas.List.Elements.{Contains-push_cases}
use Rattle.std.proofs.lemmas.List.Folds.{list_any-append}
use Rattle.run_events.specs.activity_codec.declared.values.Slot.{Slot}
use Rattle.run_events.specs.activity_codec.declared.values.Slot.TheVariants.{Driver, CoDriver}
use Rattle.run_events.specs.activity_codec.Activity.{same_slot}
use Rattle.run_devices.specs.trace_model.declared.Card.{Card}
use Rattle.run_devices.specs.trace_model.Trace.{TraceSecond}
use Rattle.run_devices.specs.log_model.declared.lines.Verdict.{Verdict}
use Rattle.run_devices.specs.log_model.declared.lines.Break.{Break}
use Rattle.run_devices.specs.log_model.Log.{RunLog, In, same_phase, kept_after}
use Rattle.run_devices.specs.log_model.Same.{SameAt}
use Rattle.run_devices.specs.log_model.Slots.{Slots, Sitting}
use Rattle.run_devices.specs.log_model.Course.{ToldSecond, Visit, Went, Before, visits, card_in, fresh, has_power, second_told, went}
use Rattle.run_devices.specs.event_model.Events.{Seen, number_of, torn_at, entered_at}
use Rattle.run_devices.specs.note_model.Done.{has_failed_in}
use Rattle.run_events.specs.unit_events.Noted.{StayFailed}
use Rattle.run_events.proofs.unit_events.Failing.{failed-here}
use Rattle.run_devices.specs.run_unit_course.Lines.{log_of, cut_at}
use Rattle.run_devices.specs.run_unit_course.Followed.{UnitPower, Lit, Due, Lost, MayPower, MayFail, IsDark, cuts_from}
use Rattle.run_devices.specs.safety_model.Safe.{Devices}
use Rattle.run_devices.specs.run_course.Moments.{and_break}
use Rattle.run_devices.specs.run_course.Seconds.{GoesOnBy, next_told}
use Rattle.run_devices.proofs.run_course.Logs.{all-before, refused-at, went-refused}
use Rattle.run_devices.proofs.run_course.Told.{told-lit}
use Rattle.run_devices.proofs.log_model.Growth.{went-more}
use Rattle.run_devices.proofs.run_course.Failing.{power-on_cut}
use Rattle.run_events.specs.Shown.{none, none_sure, SaysNothing}
use Rattle.run_events.specs.Seconds.{seen_next}
use Rattle.run_events.specs.Gaps.{TellsMore}
use Rattle.run_events.specs.Choice.{IsTornIn, plain}
use Rattle.run_events.specs.Running.{HasEvents}
use Rattle.run_events.proofs.Gaps.{fails, stays-dark}
use Rattle.run_events.proofs.Growing.{seen-more}
use Rattle.run_events.proofs.Quiet.{dark-shown}
use Rattle.run_events.proofs.Running.{lines-shown}
use Rattle.run_events.proofs.Later.{told-number}
use Rattle.run_events.proofs.Shows.{nothing-more}
use Rattle.run_devices.specs.run_promise.Origin.{rule_of, start_at, first_of}
use Rattle.run_devices.specs.safety_model.Recording.{card_image}
use Rattle.run_note_record.proofs.Opened.{first-more}
use Rattle.run_note_record.specs.Opened.{IsFirst}
use Rattle.run_note_record.specs.Evented.{number_in, limit_in, brought_now, IsChosen, APowerOnIsBroken, ADarkSecondBringsNothing}
use Rattle.run_note_record.proofs.Lines.{untold-now, same-before, front-same, number-next, low-cuts}
use Rattle.run_note_record.proofs.Exact.{no-cut, exact-dark}
use Rattle.run_note_record.proofs.Seconds.{broken-on}

-- ---- a second without power

dark-seen : (log : RunLog) (before : Before) (s : TraceSecond) → (second_told log before s).lit ≡ false → ((second_told log before s).course.found ≡ []) × ((second_told log before s).course.torn ≡ []) × ((second_told log before s).course.entered ≡ [])
dark-seen log before s lit = let none : has_power before s ≡ false = sym (told-lit log before s) ∙ lit in rw none (refl, refl, refl)

failed-same : (log later : RunLog) → later.breaks ≡ log.breaks → StayFailed log later
failed-same log later breaks u failed = ap (λ (bs : List Break). has_failed_in (log_of bs) u) breaks ∙ failed

kept-same : (log later : RunLog) → later.breaks ≡ log.breaks → (u : ℕ) → kept_after later u ≡ kept_after log u
unfolding kept_after
kept-same log later breaks u = ap (λ (bs : List Break). kept_after (log_of bs) u) breaks

pub says-same : (x : List ℕ) → SaysNothing x x
says-same x = record { tables = λ kind there. refl; first_over = refl; over_count = refl }

pub nothing-in : {X : Type 0} {T : Type 0} (x : X) → Contains [] x → T
nothing-in x there = absurd (omega (arith, there.1))

pub dark-brings : (d : Devices) → ADarkSecondBringsNothing d
dark-brings d o done log later unfound next supply now order count v dark s number breaks finds lit still =
    let same : All (λ (r : TraceSecond). SameAt log later r.number) done = all-before (λ (u : ℕ). SameAt log later u) o.from done order (λ u lt. refused-at log later breaks finds u) in
    let tells : TellsMore log (take unfound log.breaks) later done = record { same = same; stay = failed-same log later breaks; known = λ u is. kept-same log later breaks u } in
    let shown : HasEvents (number_in o) o.recording.unit (limit_in o) later done d.unit v.tearing v.sessions =
    lines-shown (number_in o) o.recording.unit (limit_in o) log later unfound supply done v.tearing v.sessions {U = d.unit} {V = d.unit} v.events v.gaps tells (λ c left. (c, left, says-same c)) in
    let x : Seen = seen_next later done s in
    let is : number_of x ≡ s.number = told-number later (went later done).before s in
    let dull = dark-seen later (went later done).before s lit in
    record {
      tearing = v.tearing;
      sessions = v.sessions;
      plain = λ u le slot. v.plain u (omega (arith, le)) slot;
      events = dark-shown (number_in o) o.recording.unit (limit_in o) later done (s ∷ []) (x ∷ []) (seen-more later done s) next v.tearing v.sessions v.plain (omega (arith, is, number), tt) {U = d.unit} shown {V = d.unit}
          (record { idle = record { found = dull.0; torn = dull.1; entered = dull.2 }; lit = lit }, tt) (λ c left. (c, left, says-same c));
      gaps = stays-dark log later unfound done s same [] (breaks ∙ sym (append-nil log.breaks)) (ap (take unfound) breaks) supply now dark still v.gaps lit;
      found_open = λ t f among there accepts. ⊎_elim
          (λ old.
          let was = v.found_open t f old there accepts in (
            was.0,
            was.1,
            was.2,
            subst (λ (w : Went). IsFirst (card_image o.recording) w.told (done ++ s ∷ []) f.0.card t.second.number (v.sessions t.second.number f.0)) (sym (went-more later done s))
                (subst (λ (w : Went). IsFirst (card_image o.recording) (w.told ++ next_told later done s ∷ []) (done ++ s ∷ []) f.0.card t.second.number (v.sessions t.second.number f.0)) (sym (went-refused log later breaks finds done))
                (first-more (card_image o.recording) (went log done).told (next_told later done s ∷ []) done (s ∷ []) f.0.card t.second.number (v.sessions t.second.number f.0) was.3)),
          ))
          (λ (one : next_told later done s ≡ t).
          nothing-in f (subst (λ (fs : List (Visit × Verdict)). Contains fs f) dull.0 (subst (λ (y : ToldSecond). Contains y.course.found f) (sym one) there)))
          (Contains-push_cases (went log done).told (next_told later done s) t
          (subst (λ (w : Went). Contains (w.told ++ next_told later done s ∷ []) t) (went-refused log later breaks finds done) (subst (λ (w : Went). Contains w.told t) (went-more later done s) among)));
      exact = exact-dark o log later done s v.sessions breaks finds same lit dull.0 v.exact;
    }

-- ---- a power-on that fails

ahead : (n : ℕ) → nat_eq 0 (suc n) ≡ false
ahead n = grind (arith, nat_tests)

none-of : (n : ℕ) (slot at : Slot) (o : Option Sitting) → list_any (λ (v : Visit). same_phase v.phase (In (suc n)) && same_slot v.slot slot) (map (λ (c : Card). record { phase = In 0; slot = at; card = c }) (card_in o)) ≡ false
none-of n slot at None = refl
none-of n slot at (Some x) = ap (λ (b : Bool). (b && same_slot at slot) || false) (ahead n)

none-enters : (n : ℕ) (slot : Slot) (slots : Slots) → list_any (λ (v : Visit). same_phase v.phase (In (suc n)) && same_slot v.slot slot) (fresh true slots).entered ≡ false
none-enters n slot slots =
    list_any-append (λ (v : Visit). same_phase v.phase (In (suc n)) && same_slot v.slot slot) (visits (In 0) Driver slots) (visits (In 0) CoDriver slots)
    ∙ ap (λ (b : Bool). b || list_any (λ (v : Visit). same_phase v.phase (In (suc n)) && same_slot v.slot slot) (visits (In 0) CoDriver slots)) (none-of n slot Driver slots.driver)
    ∙ none-of n slot CoDriver slots.codriver

pub true-not : {T : Type 0} (b : Bool) → b ≡ true → b ≡ false → T
true-not {T} b x y = let clash : true ≡ false = sym x ∙ y in absurd (cc)

plain-fits : (x : Seen) (slots : Slots) → x.told.course.torn ≡ [] → x.told.course.entered ≡ (fresh true slots).entered → IsTornIn plain x
plain-fits x slots torn entered_ = record {
  still = λ slot rest out stood. true-not (torn_at x (In 0) slot) out (ap (list_any (λ (v : Visit). same_phase v.phase (In 0) && same_slot v.slot slot)) torn);
  before = λ slot empty. refl;
  put_in = λ n slot in_. true-not (entered_at x (In (suc n)) slot) in_ (ap (list_any (λ (v : Visit). same_phase v.phase (In (suc n)) && same_slot v.slot slot)) entered_ ∙ none-enters n slot slots);
}

dark-by : (supply : UnitPower) (next : ℕ) → MayPower supply next → IsDark supply
dark-by (Lit span) next may = absurd may
dark-by Due next may = tt
dark-by Lost next may = tt

fail-by : (supply : UnitPower) (next : ℕ) → MayPower supply next → MayFail supply next
fail-by (Lit span) next may = absurd may
fail-by Due next may = tt
fail-by Lost next may = may

pub power-on_broken : (d e : Devices) → APowerOnIsBroken d e
power-on_broken d e o done p f v may s number given mid later more broke says left =
    let cut : RunLog = and_break p.log (cut_at s.number true 0) in
    let g : GoesOnBy p cut s = record { number = number; given = given; breaks = (cut_at s.number true 0 ∷ [], refl, (number, tt)); finds = ([], sym (append-nil p.log.finds), tt) } in
    let x : Seen = seen_next cut done s in
    let told = (power-on_cut (rule_of o) (start_at o) o.from (first_of o) done p f (fail-by p.supply p.next may) s number given mid later more broke).0 in
    let found : x.told.course.found ≡ [] = ap (λ (t : ToldSecond). t.course.found) told in
    let own : ℕ → Visit → ℕ = λ u visit. 0 in
    let choice : IsChosen o cut done s plain own e = record {
      fits = plain-fits x (went p.log done).before.slots (ap (λ (t : ToldSecond). t.course.torn) told) (ap (λ (t : ToldSecond). t.course.entered) told);
      found_open = λ y there accepts. nothing-in y (subst (λ (fs : List (Visit × Verdict)). Contains fs y) found there);
      exact = λ c none_failed valid. no-cut p.log s.number 0 none_failed.0;
    } in
    let failed : has_failed_in cut s.number ≡ true = failed-here p.log.breaks s.number 0 in
    broken-on o done p f d e v s cut g plain own choice left failed
    (fails p.log cut p.unfound done s (same-before o done p f s cut g) g.breaks.0 g.breaks.1 (front-same o done p f s cut g) p.supply (dark-by p.supply p.next may) v.gaps (ap (λ (t : ToldSecond). t.lit) told) (ap (λ (t : ToldSecond). t.starts) told)
    (ap (has_failed_in cut) (number-next o done p f s cut g) ∙ failed)
    (untold-now p.log (cuts_from p.supply p.next) p.next p.unfound f.lines [] tt s.number (low-cuts o done p f s cut g) true 0 cut x refl (number-next o done p f s cut g)))
    none (λ kind there. (brought_now o cut done s plain own kind, refl))
    (λ c there. let at = says c there in (at.0, at.1, nothing-more (number_in o) none_sure at.0 c at.2))
