-- The last second turns out to be a cut's; and the start and the end of a run.
use Rattle.std.proofs.Common.{◌≡◌, ◌⊎◌, ⊎_elim, ℕ, ◌+◌, ◌-◌, ◌<◌, ◌≤◌, Bool, true, false, cond, not, ◌&&◌, ◌||◌, nat_eq, nat_lt, Option, Some, None, is_some, List, [], ◌∷◌, ◌++◌, All, Contains, length, take, refl, ap, sym, subst, ◌∙◌, arith, append-nil, inl, inr}
use Rattle.std.specs.Prelude.{◌==◌, filter}
use Rattle.std.specs.List.{AllByRecursion}
use Rattle.std.proofs.lemmas.Bool.Decides.{nat_tests}
use Rattle.std.proofs.lemmas.List.Elements.{Contains-push_cases, Contains-append_left, Contains-push}
use Rattle.tach_media.specs.Medium.{last_count}
use Rattle.run_devices.specs.trace_model.declared.Card.{Card}
use Rattle.run_devices.specs.trace_model.Trace.{TraceSecond}
use Rattle.run_devices.specs.card_image.Own.{own_number, IsOwnValid}
use Rattle.run_devices.specs.log_model.declared.lines.Break.{Break}
use Rattle.run_devices.specs.log_model.declared.lines.Break.TheVariants.{Cut, Tear}
use Rattle.run_devices.specs.log_model.declared.lines.Verdict.{Verdict}
use Rattle.run_devices.specs.log_model.Log.{RunLog, In, cut_in, is_torn_in, kept_after}
use Rattle.run_devices.specs.log_model.Causes.{second_of, cuts, tears, cards_torn, device_of}
use Rattle.run_devices.specs.log_model.Same.{SameAt}
use Rattle.run_devices.specs.log_model.Slots.{same_card}
use Rattle.run_devices.specs.log_model.Spans.{AreInOrder}
use Rattle.run_devices.specs.log_model.Course.{ToldSecond, Visit, Went, begins, has_power, second_told, went}
use Rattle.run_devices.proofs.log_model.Growth.{went-more}
use Rattle.run_devices.specs.event_model.declared.kinds.TheConstants.{DRIVING_WITHOUT_CARD, OVER_SPEEDING, POWER_INTERRUPTION, CARD_FAULT}
use Rattle.run_devices.specs.event_model.Events.{Event, Seen, Tearing, AreTorn, number_of, seen_of, events_of}
use Rattle.run_devices.specs.run_unit_course.Lines.{log_of, cut_at, tells_cut}
use Rattle.run_devices.specs.run_unit_course.Followed.{UnitPower, Lit, Lost}
use Rattle.run_devices.specs.unit_model.declared.layout.TheConstants.{SPEED_LIMIT}
use Rattle.run_devices.specs.unit_model.Image as image
use Rattle.run_events.specs.unit_events.Noted.{StayFailed}
use Rattle.run_devices.specs.note_model.Done.{done_of}
use Rattle.run_devices.specs.note_model.Noted.{Note, notes_of}
use Rattle.run_devices.specs.safety_model.Recording.{card_image, told_of}
use Rattle.run_devices.specs.safety_model.Safe.{Devices, card_of, breakdowns_of}
use Rattle.run_devices.specs.run_course.Moments.{and_break}
use Rattle.run_devices.specs.run_course.Followed.{Progress, BookFollowsRun, IsBreakBefore, HadActions}
use Rattle.run_devices.specs.run_course.Seconds.{next_told}
use Rattle.run_devices.proofs.run_course.Lookups.{cut-by, cut-first, cut-nothing, break-more}
use Rattle.run_devices.proofs.run_course.Logs.{other-number, all-before, same-at, kept-later, front-later, went-later}
use Rattle.run_devices.proofs.run_course.Told.{told-lit}
use Rattle.run_events.specs.Shown.{none, is_sure_by}
use Rattle.run_events.proofs.Unsure.{unsure-same}
use Rattle.run_events.specs.Seconds.{seen_next}
use Rattle.run_events.specs.Running.{HasEvents, IsCutOff}
use Rattle.run_events.specs.Choice.{plain}
use Rattle.run_events.specs.Gaps.{IsUntold}
use Rattle.run_events.proofs.Gaps.{gaps-begin, stay-later}
use Rattle.run_events.proofs.Later.{told-number}
use Rattle.run_events.proofs.Offs.{seen-off, off-shown, off-gaps}
use Rattle.run_events.proofs.Shows.{noted-begins, noted-then, nothing-more}
use Rattle.run_events.specs.run_rings.Notes.{notes_to, TellSameTo}
use Rattle.run_events.proofs.run_rings.Notes.{later-lines, second-noted}
use Rattle.run_devices.specs.run_promise.Origin.{Origin, rule_of, start_at, first_of}
use Rattle.run_devices.specs.run_promise.Whole.{IsUntorn}
use Rattle.run_note_record.specs.Opened.{IsFirst}
use Rattle.run_note_record.specs.Uses.{uses_from, vehicle_of, use_in, insertions_on, times_of, opened_on, notes_in, noted_next, uses_in, NoneFailedOn}
use Rattle.run_note_record.proofs.Opened.{come-as}
use Rattle.run_note_record.specs.Evented.{number_in, limit_in, Evented, NothingIsNoted, AnOffCutBringsNothing, EventsAreShown}
use Rattle.run_note_record.proofs.Lines.{untold-now}
use Rattle.run_note_record.proofs.Noted.{second-notes}
use Rattle.run_note_record.proofs.Exact.{stay-alike, torn-next, failed-fewer, next-notes, opened-append, opened-same}
use Rattle.run_note_record.proofs.Dark.{says-same, nothing-in}

-- ---- a cut behind all of the last second

no-cut : (cuts next u : ℕ) (bs : List Break) → AllByRecursion (IsBreakBefore cuts next) bs → cuts ≤ u → cut_in (log_of bs) u ≡ None
no-cut cuts next u [] h le = cut-nothing u
no-cut cuts next u (Cut second kept failed begun ∷ bs) h le =
    let lt : second < cuts = h.0 in
    let other : nat_eq second u ≡ false = grind (arith, nat_tests) in
    cut-first (Cut second kept failed begun) bs u
    ∙ ap (λ (t : Bool). cond (is_some (cond t (Some begun) None)) (cond t (Some begun) None) (cut_in (log_of bs) u)) other
    ∙ no-cut cuts next u bs h.1 le
no-cut cuts next u (Tear second slot failed begun late ∷ bs) h le = cut-first (Tear second slot failed begun late) bs u ∙ no-cut cuts next u bs h.1 le

order-front : (from : ℕ) (front : List TraceSecond) (r : TraceSecond) → AreInOrder from (front ++ r ∷ []) → AreInOrder from front × (r.number ≡ from + length front)
order-front from [] r h = (tt, (let is : r.number ≡ from = h.0 in omega (arith, is)))
order-front from (s ∷ front) r h = let rest = order-front (from + 1) front r h.1 in ((h.0, rest.0), (let is = rest.1 in omega (arith, is)))

or-false : (b : Bool) → (b || false) ≡ b
or-false true = refl
or-false false = refl

and-first : (a b : Bool) → (a && b) ≡ true → a ≡ true
and-first true b is = refl
and-first false b is = absurd (cc)

same-here : (u : ℕ) → nat_eq u u ≡ true
same-here u = grind (arith, nat_tests)

below : (k n : ℕ) → k < n → nat_lt k n ≡ true
below k n lt = grind (arith, nat_tests)

module _ (o : Origin) (front : List TraceSecond) (r : TraceSecond) (p : Progress) (t : ToldSecond) (span : List ToldSecond) (f : BookFollowsRun (rule_of o) (start_at o) o.from (first_of o) (front ++ r ∷ []) (record p { supply = Lit (t ∷ span) })) (count : length r.actions ≡ p.begun) (d : Devices)
    (v : Evented o (front ++ r ∷ []) p.log p.unfound p.next (Lit (t ∷ span)) d) where
  abbrev later : RunLog
  later = and_break p.log (cut_at (p.next - 1) false p.begun)

  order : AreInOrder o.from front × (r.number ≡ o.from + length front)
  order = order-front o.from front r f.order

  number : r.number ≡ p.next - 1
  number = let n = order.1 in let next = f.next in let many = length-push in omega (arith, n, next, many)
    where
      length-push : length (front ++ r ∷ []) ≡ length front + 1
      length-push = by front
        where
          by : (xs : List TraceSecond) → length (xs ++ r ∷ []) ≡ length xs + 1
          by [] = refl
          by (x ∷ xs) = let e = by xs in omega (arith, e)

  second-is : second_of (cut_at (p.next - 1) false p.begun) ≡ r.number
  second-is = sym number

  same : All (λ (s : TraceSecond). SameAt p.log later s.number) front
  same = all-before (λ (u : ℕ). SameAt p.log later u) o.from front order.0
      (λ u lt. same-at p.log later r.number (cut_at (p.next - 1) false p.begun ∷ []) refl (second-is, tt) [] (sym (append-nil p.log.finds)) tt u (other-number r.number u (let n = order.1 in omega (arith, lt, n))))

  uncut : cut_in p.log r.number ≡ None
  uncut = cut-by p.log r.number ∙ no-cut (p.next - 1) p.next r.number p.log.breaks f.lines.breaks (let n = number in omega (arith, n))

  off : IsCutOff p.log later r
  off = record {
    uncut = uncut;
    cut = (break-more p.log (cut_at (p.next - 1) false p.begun) r.number).cut
        ∙ ap (λ (q : Option ℕ). cond (is_some q) q (cond (nat_eq (p.next - 1) r.number) (Some p.begun) None)) uncut
        ∙ ap (λ (n : ℕ). cond (nat_eq n r.number) (Some p.begun) None) (sym number) ∙ ap (λ (b : Bool). cond b (Some p.begun) None) (same-here r.number) ∙ ap (λ (n : ℕ). Some n) (sym count);
    torn = λ q slot. (break-more p.log (cut_at (p.next - 1) false p.begun) r.number).torn q slot ∙ or-false (is_torn_in p.log r.number q slot);
    found = λ q slot. (break-more p.log (cut_at (p.next - 1) false p.begun) r.number).found q slot;
  }

  lit : (seen_next p.log front r).told.lit ≡ true
  lit = and-first (seen_next p.log front r).told.lit (not (seen_next p.log front r).told.cut) (sym (ap (λ (w : Went). w.before.running) (went-more p.log front r)) ∙ f.power.running)

  power : has_power (went p.log front).before r ≡ true
  power = sym (told-lit p.log (went p.log front).before r) ∙ lit

  number-is : number_of (seen_next p.log front r) ≡ r.number
  number-is = told-number p.log (went p.log front).before r

  untold : IsUntold later (take p.unfound p.log.breaks) (seen_next p.log front r ∷ [])
  untold = untold-now p.log (p.next - 1) p.next p.unfound f.lines [] tt (p.next - 1) (omega arith) false p.begun later (seen_next p.log front r) refl (number-is ∙ number)

  stay : StayFailed p.log later
  stay = stay-later p.log later (take p.unfound p.log.breaks) (cut_at (p.next - 1) false p.begun ∷ []) refl

  known : (u : ℕ) → tells_cut u (take p.unfound p.log.breaks) ≡ true → kept_after later u ≡ kept_after p.log u
  known u is = sym (kept-later p.log later r.number (cut_at (p.next - 1) false p.begun ∷ []) refl (second-is, tt) [] (sym (append-nil p.log.finds)) tt p.unfound u is)

  found-same : (next_told later front r).course.found ≡ (next_told p.log front r).course.found
  found-same =
      ap (λ (w : Went). (second_told later w.before r).course.found) (went-later p.log later r.number (cut_at (p.next - 1) false p.begun ∷ []) refl (second-is, tt) [] (sym (append-nil p.log.finds)) tt o.from front order.0 (let n = order.1 in omega (arith, n)))
      ∙ ap (λ (x : Seen). x.told.course.found) (seen-off p.log later r off (went p.log front).before power)

  torn-same : (next_told later front r).course.torn ≡ (next_told p.log front r).course.torn
  torn-same =
      ap (λ (w : Went). (second_told later w.before r).course.torn) (went-later p.log later r.number (cut_at (p.next - 1) false p.begun ∷ []) refl (second-is, tt) [] (sym (append-nil p.log.finds)) tt o.from front order.0 (let n = order.1 in omega (arith, n)))
      ∙ ap (λ (x : Seen). x.told.course.torn) (seen-off p.log later r off (went p.log front).before power)

  entered-same : (next_told later front r).course.entered ≡ (next_told p.log front r).course.entered
  entered-same =
      ap (λ (w : Went). (second_told later w.before r).course.entered) (went-later p.log later r.number (cut_at (p.next - 1) false p.begun ∷ []) refl (second-is, tt) [] (sym (append-nil p.log.finds)) tt o.from front order.0 (let n = order.1 in omega (arith, n)))
      ∙ ap (λ (x : Seen). x.told.course.entered) (seen-off p.log later r off (went p.log front).before power)

  told-as : (l : RunLog) → (went l (front ++ r ∷ [])).told ≡ (went l front).told ++ next_told l front r ∷ []
  told-as l = ap (λ (w : Went). w.told) (went-more l front r)

  front-same : went later front ≡ went p.log front
  front-same = went-later p.log later r.number (cut_at (p.next - 1) false p.begun ∷ []) refl (second-is, tt) [] (sym (append-nil p.log.finds)) tt o.from front order.0 (let n = order.1 in omega (arith, n))

  -- who was not torn out is not by the later log
  untorn-same : (c : Card) → filter (same_card c) (cards_torn (went later (front ++ r ∷ [])).told) ≡ [] → filter (same_card c) (cards_torn (went p.log (front ++ r ∷ [])).told) ≡ []
  untorn-same c none =
      ap (λ (ts : List ToldSecond). filter (same_card c) (cards_torn ts)) (told-as p.log)
      ∙ torn-next c (went p.log front).told (next_told p.log front r) (next_told later front r) (stay-alike (next_told p.log front r).course.torn (next_told later front r).course.torn torn-same)
      (ap (λ (ts : List ToldSecond). filter (same_card c) (cards_torn ts)) (sym (told-as later ∙ ap (λ (w : Went). w.told ++ next_told later front r ∷ []) front-same)) ∙ none)

  -- it notes the same
  tells : TellSameTo p.log later r.number (length r.actions)
  tells = record {
    begun = λ k lt. ap (λ (c : Option ℕ). begins c k) uncut;
    begun_later = λ k lt. ap (λ (c : Option ℕ). begins c k) off.cut ∙ below k (length r.actions) lt;
    torn = λ k slot le. off.torn (In k) slot;
    found = λ k slot le. off.found (In k) slot;
  }

  next-same : noted_next later front r ≡ noted_next p.log front r
  next-same =
      second-noted later (went later front).before r (ap (λ (w : Went). has_power w.before r) front-same ∙ power)
      ∙ ap (λ (w : Went). notes_to later w.before r r.actions) front-same
      ∙ later-lines p.log later (went p.log front).before r r.actions tells
      ∙ sym (second-noted p.log (went p.log front).before r power)

  notes-same : notes_in later (front ++ r ∷ []) ≡ notes_in p.log (front ++ r ∷ [])
  notes-same = second-notes p.log later front r same ∙ ap (λ (l : List Note). notes_in p.log front ++ l) next-same ∙ sym (next-notes p.log front r)

  opened-same_ : (c : Card) → opened_on c v.sessions (went later (front ++ r ∷ [])).told ≡ opened_on c v.sessions (went p.log (front ++ r ∷ [])).told
  opened-same_ c =
      ap (opened_on c v.sessions) (told-as later) ∙ opened-append c v.sessions (went later front).told (next_told later front r ∷ [])
      ∙ (λ i. opened_on c v.sessions (front-same i).told
      ++ (opened-same c v.sessions (next_told later front r) (next_told p.log front r) (told-number later (went later front).before r ∙ sym (told-number p.log (went p.log front).before r)) found-same i ++ []))
      ∙ sym (opened-append c v.sessions (went p.log front).told (next_told p.log front r ∷ [])) ∙ sym (ap (opened_on c v.sessions) (told-as p.log))

  pub off-evented : Evented o (front ++ r ∷ []) later p.unfound p.next Lost d
  off-evented = record {
    tearing = v.tearing;
    sessions = v.sessions;
    plain = v.plain;
    events = off-shown p.log later front r same off power p.unfound (Lit (t ∷ span)) v.gaps stay known (number_in o) o.recording.unit (limit_in o) v.tearing v.sessions {U = d.unit} v.events;
    gaps = off-gaps p.log later front r same off power p.unfound (Lit (t ∷ span)) (cut_at (p.next - 1) false p.begun ∷ []) refl
        (front-later p.log later r.number (cut_at (p.next - 1) false p.begun ∷ []) refl (second-is, tt) [] (sym (append-nil p.log.finds)) tt p.unfound f.unfound) v.gaps lit untold;
    found_open = λ y x among there accepts. ⊎_elim
        (λ old.
        let was = v.found_open y x (subst (λ (ts : List ToldSecond). Contains ts y) (sym (told-as p.log)) (Contains-append_left (went p.log front).told (next_told p.log front r ∷ []) y (subst (λ (w : Went). Contains w.told y) front-same old))) there accepts in
        (was.0, was.1, was.2, first-off x.0.card y.second.number (v.sessions y.second.number x.0) was.3))
        (λ (one : next_told later front r ≡ y).
        let here : Contains (next_told p.log front r).course.found x = subst (λ (fs : List (Visit × Verdict)). Contains fs x) found-same (subst (λ (z : ToldSecond). Contains z.course.found x) (sym one) there) in
        let was = v.found_open (next_told p.log front r) x (subst (λ (ts : List ToldSecond). Contains ts (next_told p.log front r)) (sym (told-as p.log)) (Contains-push (went p.log front).told (next_told p.log front r))) here accepts in
        let number_y : (next_told p.log front r).second.number ≡ y.second.number = number-is ∙ sym (told-number later (went later front).before r) ∙ ap (λ (z : ToldSecond). z.second.number) one in (
          was.0,
          was.1,
          was.2 ∙ ap (λ (n : ℕ). v.sessions n x.0) number_y,
          subst (λ (n : ℕ). IsFirst (card_image o.recording) (went later (front ++ r ∷ [])).told (front ++ r ∷ []) x.0.card n (v.sessions n x.0)) number_y
              (first-off x.0.card (next_told p.log front r).second.number (v.sessions (next_told p.log front r).second.number x.0) was.3),
        ))
        (Contains-push_cases (went later front).told (next_told later front r) y (subst (λ (ts : List ToldSecond). Contains ts y) (told-as later) among));
    exact = λ c none_failed valid.
        opened-same_ c
        ∙ v.exact c (failed-fewer o c p.log later (cut_at (p.next - 1) false p.begun ∷ []) (went p.log (front ++ r ∷ [])).told (went later (front ++ r ∷ [])).told refl (untorn-same c) none_failed) valid ∙ ap (λ (l : List Note). times_of (uses_in o c l)) (sym notes-same);
  }
    where
      first-off : (c : Card) (u session : ℕ) → IsFirst (card_image o.recording) (went p.log (front ++ r ∷ [])).told (front ++ r ∷ []) c u session → IsFirst (card_image o.recording) (went later (front ++ r ∷ [])).told (front ++ r ∷ []) c u session
      first-off c u session h = ⊎_elim (λ is. inl is) (λ come. inr (come-as p.log later front r front-same entered-same (front ++ r ∷ []) c u come)) h

pub off-cut_brings : (d : Devices) → AnOffCutBringsNothing d
off-cut_brings d o done p f v t span is =
    let g = subst (λ (s : UnitPower). BookFollowsRun (rule_of o) (start_at o) o.from (first_of o) done (record p { supply = s })) is f in
    let w = subst (λ (s : UnitPower). Evented o done p.log p.unfound p.next s d) is v in
    let had : HadActions done p.begun = g.last in
    subst (λ (ss : List TraceSecond). Evented o ss (and_break p.log (cut_at (p.next - 1) false p.begun)) p.unfound p.next Lost d) (sym had.are)
    (off-evented o had.before (record { number = had.number; has_power = true; speed = had.speed; actions = had.actions }) p t span
    (subst (λ (ss : List TraceSecond). BookFollowsRun (rule_of o) (start_at o) o.from (first_of o) ss (record p { supply = Lit (t ∷ span) })) had.are g) had.count d
    (subst (λ (ss : List TraceSecond). Evented o ss p.log p.unfound p.next (Lit (t ∷ span)) d) had.are w))

-- ---- the start

events-none : (limit : ℕ) (sessions : ℕ → Visit → ℕ) (t : Tearing) (log : RunLog) (kind : ℕ) → events_of kind limit sessions t log [] ≡ []
unfolding seen_of
events-none limit sessions t log kind = by (kind == DRIVING_WITHOUT_CARD) (kind == OVER_SPEEDING) (kind == POWER_INTERRUPTION) (kind == CARD_FAULT)
  where
    by : (a b c e : Bool) → cond {A = List Event} a [] (cond b [] (cond c [] (cond e [] []))) ≡ []
    by true b c e = refl
    by false true c e = refl
    by false false true e = refl
    by false false false true = refl
    by false false false false = refl

torn-none : (log : RunLog) → AreTorn plain (seen_of log [])
unfolding seen_of
torn-none log = record { still = tt; before = tt; put_in = tt }

told-none : (log : RunLog) → (went log []).told ≡ []
unfolding went
told-none log = refl

notes-none : (log : RunLog) → notes_in log [] ≡ []
unfolding notes_of done_of
notes-none log = refl

pub nothing-noted : (d : Devices) → NothingIsNoted d
nothing-noted d o only few =
    let log : RunLog = record { breaks = []; refused = []; finds = [] } in
    let own : ℕ → Visit → ℕ = λ u visit. 0 in
    record {
      tearing = plain;
      sessions = own;
      plain = λ u le slot. refl;
      events = record {
        torn = torn-none log;
        noted = noted-then (number_in o) o.recording.unit log log none none (λ kind. events_of kind (limit_in o) own plain log []) {U = d.unit} {V = d.unit}
            (noted-begins (number_in o) o.recording.unit log {U = d.unit} only few) (λ u is. is)
            (λ kind there. unsure-same (is_sure_by log) [] (events_of kind (limit_in o) own plain log []) (events-none (limit_in o) own plain log kind))
            (λ c left. (c, left, nothing-more (number_in o) (is_sure_by log) c c (says-same c)));
      };
      gaps = gaps-begin;
      found_open = λ t f among there accepts. nothing-in t (subst (λ (ts : List ToldSecond). Contains ts t) (told-none log) among);
      exact = λ c none_failed valid. ap (opened_on c own) (told-none log) ∙ ap (λ (l : List Note). times_of (uses_in o c l)) (sym (notes-none log));
    }

-- ---- the end

ext : {X Y : Type 0} (f g : X → Y) → ((x : X) → f x ≡ g x) → f ≡ g
ext f g same = λ i x. same x i

pub events-shown : (began now : Devices) → EventsAreShown began now
events-shown began now o done log unfound next supply v r unit cards trace log_is clocks counts x there =
    let numbers : (λ (c : Card). own_number (card_image r c)) ≡ number_in o = ext (λ (c : Card). own_number (card_image r c)) (number_in o) (λ c. ap own_number (cards c)) in
    let a : HasEvents (number_in o) r.unit (image.number_of r.unit SPEED_LIMIT) log done now.unit v.tearing v.sessions = subst (λ (u : List ℕ). HasEvents (number_in o) u (image.number_of u SPEED_LIMIT) log done now.unit v.tearing v.sessions) (sym unit) v.events in
    let b : HasEvents (λ (c : Card). own_number (card_image r c)) r.unit (image.number_of r.unit SPEED_LIMIT) log done now.unit v.tearing v.sessions =
    subst (λ (n : Card → List ℕ). HasEvents n r.unit (image.number_of r.unit SPEED_LIMIT) log done now.unit v.tearing v.sessions) (sym numbers) a in
    let c : HasEvents (λ (c : Card). own_number (card_image r c)) r.unit (image.number_of r.unit SPEED_LIMIT) r.log r.trace now.unit v.tearing v.sessions =
    subst (λ (l : RunLog). HasEvents (λ (c : Card). own_number (card_image r c)) r.unit (image.number_of r.unit SPEED_LIMIT) l r.trace now.unit v.tearing v.sessions) (sym log_is)
    (subst (λ (ss : List TraceSecond). HasEvents (λ (c : Card). own_number (card_image r c)) r.unit (image.number_of r.unit SPEED_LIMIT) log ss now.unit v.tearing v.sessions) (sym trace) b) in
    let shows = c.noted.shows x there in
    record {
      sessions = v.sessions;
      are_sessions = λ t f among found accepts.
          let was = v.found_open t f (subst (λ (l : RunLog). Contains (went l done).told t) log_is (subst (λ (ss : List TraceSecond). Contains (went r.log ss).told t) trace among)) found accepts in
          (was.0, subst (λ (n : ℕ). (card_of now f.0.card).left_since n was.0) (clocks f.0.card) was.1, was.2);
      are_first = λ t f among found accepts. (
          let was = v.found_open t f (subst (λ (l : RunLog). Contains (went l done).told t) log_is (subst (λ (ss : List TraceSecond). Contains (went r.log ss).told t) trace among)) found accepts in
          subst (λ (start : Card → List ℕ). IsFirst start (told_of r) r.trace f.0.card t.second.number (v.sessions t.second.number f.0)) (sym (ext (card_image r) (card_image o.recording) cards))
          (subst (λ (l : RunLog). IsFirst (card_image o.recording) (went l r.trace).told r.trace f.0.card t.second.number (v.sessions t.second.number f.0)) (sym log_is)
          (subst (λ (ss : List TraceSecond). IsFirst (card_image o.recording) (went log ss).told ss f.0.card t.second.number (v.sessions t.second.number f.0)) (sym trace) was.3)));
      exact = λ e on valid.
          ap (λ (l : RunLog). opened_on e v.sessions (went l r.trace).told) log_is
          ∙ ap (λ (ss : List TraceSecond). opened_on e v.sessions (went log ss).told) trace
          ∙ v.exact e (counted e on.untorn on.low (subst (λ (l : RunLog). cuts true l ≡ []) log_is on.uncut)) (subst IsOwnValid (cards e) valid)
          ∙ sym (λ i. times_of (uses_from (vehicle_of (unit i)) (use_in (cards e i)) (insertions_on e (notes_of (log_is i) (done_of (log_is i) (trace i))))));
      tearing = v.tearing;
      are_torn = c.torn;
      events = shows;
    }
  where
    untorn : (e : Card) → filter (same_card e) (cards_torn (told_of r)) ≡ [] → filter (same_card e) (cards_torn (went log done).told) ≡ []
    untorn e own = subst (λ (l : RunLog). filter (same_card e) (cards_torn (went l done).told) ≡ []) log_is (subst (λ (ss : List TraceSecond). filter (same_card e) (cards_torn (went r.log ss).told) ≡ []) trace own)

    all : tears true r.log ≡ [] → tears true log ≡ []
    all none = subst (λ (l : RunLog). tears true l ≡ []) log_is none

    -- none failed on the card by what is carried
    counted : (e : Card) → IsUntorn r e → (tears true r.log ≡ []) ⊎ (breakdowns_of began (device_of e) < last_count) → cuts true log ≡ [] → NoneFailedOn o log (went log done).told e
    counted e (inl none) low uncut = (uncut, inl (all none))
    counted e (inr own) (inl none) uncut = (uncut, inl (all none))
    counted e (inr own) (inr low) uncut = (uncut, inr (untorn e own, subst (λ (n : ℕ). n < last_count) (sym (counts e)) low))
