-- The moment that a second has reached, over the actions of the second.
use Rattle.std.proofs.Common.{◌≡◌, ◌⊎◌, inl, inr, ⊎_elim, ℕ, suc, ◌+◌, ◌<◌, ◌≤◌, Bool, true, false, cond, not, ◌&&◌, ◌||◌, Option, Some, None, List, [], ◌∷◌, ◌++◌, Contains, length, map, filter, is_some, refl, ap, sym, subst, ◌∙◌, arith, append-nil, append_assoc}
use Rattle.std.specs.Prelude.{flat_map}
use Rattle.std.specs.List.{AllByRecursion}
use Rattle.std.proofs.lemmas.Bool.Decides.{nat_tests}
use Rattle.std.proofs.lemmas.Grind.{flat_map-append}
use Rattle.std.proofs.lemmas.List.{map-append}
use Rattle.std.proofs.lemmas.List.Elements.{filter-append, Contains-push, Contains-push_cases}
use Rattle.activity_codec.specs.declared.values.Slot.{Slot}
use Rattle.activity_codec.specs.declared.values.Slot.TheVariants.{Driver, CoDriver}
use Rattle.activity_codec.specs.Activity.{same_slot}
use Rattle.trace_model.specs.declared.Card.{Card}
use Rattle.trace_model.specs.declared.Action.{Action}
use Rattle.trace_model.specs.declared.Action.TheVariants.{Select, Insert, Withdraw, Tear as Pull, Place, Manual}
use Rattle.trace_model.specs.Trace.{TraceSecond}
use Rattle.run_model.specs.declared.Device.{Device}
use Rattle.run_model.specs.declared.Device.TheVariants.{Unit as Recorder}
use Rattle.log_model.specs.declared.lines.Break.{Break}
use Rattle.log_model.specs.declared.lines.Break.TheVariants.{Tear}
use Rattle.log_model.specs.declared.lines.Find.{Find}
use Rattle.log_model.specs.declared.lines.Refused.{Refused}
use Rattle.log_model.specs.declared.lines.SlotFault.{SlotFault}
use Rattle.log_model.specs.declared.lines.SlotFault.TheVariants.{Empty}
use Rattle.log_model.specs.declared.lines.Verdict.{Verdict}
use Rattle.log_model.specs.Log.{RunLog, Phase, In, Keeping, same_phase, tears_here, is_torn_in, found_in}
use Rattle.log_model.specs.Slots.{Slots, Sitting, in_slot, other_slot, refusal}
use Rattle.log_model.specs.Causes.{device_of, is_cut, second_of, tears, places, visit_places, in_the_slot, has_failed, refusal_at, refusals_at, refusal_told, RoseBy, IsBegun, IsAtPowerOn}
use Rattle.log_model.specs.Course.{Course, Visit, Before, Moved, visits, card_in, slot_told, both_told, moved_by, unmoved, answered, carried_out, fresh, went}
use Rattle.run_unit_course.specs.Lines.{log_of}
use Rattle.run_unit_course.specs.Turn.{begins_with}
use Rattle.run_course.specs.Moments.{and_break, and_refused}
use Rattle.run_course.specs.Followed.{Progress}
use Rattle.run_course.specs.Caused.{StandsBy}
use Rattle.run_course.proofs.Lookups.{break-more}
use Rattle.run_course.proofs.Moments.{slot-still, both-still}
use Rattle.run_course.specs.Reached.{IsBehind, begun_at, moved_at, course_at, Reaches, IsTearAt}
use Rattle.run_course.specs.Lines.{times_of}
use Rattle.run_course.specs.Moment.{finds_by, find_as, found_at, IsJudgedBy, IsWaiting, Moment, goes_on, AMomentBegins, AnActionIsRefused, AnActionIsDone, ACardIsPulled, entering_by, pulls}
use Rattle.run_course.proofs.Reached.{push-each, second-reached, action-reached, lines-reached}
use Rattle.run_course.proofs.Lines.{times-append, tear-begun, tear-other, refusal-seen}

-- what is reached
pub reaches-of : (p : Progress) (before : Before) (s : TraceSecond) (at : Phase) (log : RunLog) (waits : List Visit) (mid now : Device → ℕ) → Moment p before s at log waits mid now → Reaches p s at log
reaches-of p before s at log waits mid now m = record { goes = goes_on m; up_to = m.up_to; is = m.is }

-- THE COURSE OF A MOMENT by its parts, in a second with which power comes or not: it is this one
pub record HasCourse (starts : Bool) (p : Progress) (s : TraceSecond) (at : Phase) (log : RunLog) (waits : List Visit) (mid now : Device → ℕ) (c : Course) : Type 0 where
  pub number : s.number ≡ p.next
  pub given : s.has_power ≡ true
  pub breaks : List Break
  pub breaks_are : log.breaks ≡ p.log.breaks ++ breaks
  pub breaks_here : AllByRecursion (λ (b : Break). second_of b ≡ p.next) breaks
  pub finds : List Find
  pub finds_are : log.finds ≡ p.log.finds ++ finds
  pub finds_here : AllByRecursion (λ (f : Find). f.second ≡ p.next) finds
  pub refused : List Refused
  pub refused_are : log.refused ≡ p.log.refused ++ refused
  pub refusals : map refusal_told refused ≡ refusals_at s.number c.refused
  pub uncut : AllByRecursion (λ (b : Break). is_cut b ≡ false) breaks
  pub unit : mid Recorder ≤ now Recorder
  pub tear_lines : flat_map places (tears false (log_of breaks)) ≡ visit_places s.number c.pulled
  pub failed_tears : (slot : Slot) → in_the_slot slot (flat_map places (tears true (log_of breaks))) ≡ in_the_slot slot (visit_places s.number c.torn)
  pub torn_cards : (card : Card) → RoseBy (times_of card c.torn) (mid (device_of card)) (now (device_of card))
  pub calm_cards : (card : Card) → StandsBy (times_of card c.torn) (mid (device_of card)) (now (device_of card))
  pub begun : AllByRecursion (IsBegun (s ∷ [])) breaks
  pub moments : AllByRecursion (IsAtPowerOn starts) breaks
  pub told_finds : map find_as finds ≡ map (found_at s.number) c.found
  pub judged : (e : Visit) → Contains c.entered e → IsWaiting waits c e ⊎ IsJudgedBy log s.number c e
  pub counted : (card : Card) → times_of card waits + finds_by card c.found ≤ times_of card c.entered
  pub found_now : AllByRecursion (λ (f : Visit × Verdict). IsBehind at f.0.phase → ⊥) c.found

abbrev pub parts-of : (p : Progress) (before : Before) (s : TraceSecond) (at : Phase) (log : RunLog) (waits : List Visit) (mid now : Device → ℕ) → Moment p before s at log waits mid now →
    HasCourse (not before.running) p s at log waits mid now (course_at log before s at)
parts-of p before s at log waits mid now m = record {
  number = m.number;
  given = m.given;
  breaks = m.breaks;
  breaks_are = m.breaks_are;
  breaks_here = m.breaks_here;
  finds = m.finds;
  finds_are = m.finds_are;
  finds_here = m.finds_here;
  refused = m.refused;
  refused_are = m.refused_are;
  refusals = m.refusals;
  uncut = m.uncut;
  unit = m.unit;
  tear_lines = m.tear_lines;
  failed_tears = m.failed_tears;
  torn_cards = m.torn_cards;
  calm_cards = m.calm_cards;
  begun = m.begun;
  moments = m.moments;
  told_finds = m.told_finds;
  judged = m.judged;
  counted = m.counted;
  found_now = m.found_now;
}

moment-itself : (p : Progress) (before : Before) (s : TraceSecond) (at : Phase) (log : RunLog) (waits : List Visit) (mid now : Device → ℕ) → Reaches p s at log → AllByRecursion (λ (e : Visit). e.phase ≡ at) waits →
    HasCourse (not before.running) p s at log waits mid now (course_at log before s at) → Moment p before s at log waits mid now
moment-itself p before s at log waits mid now r here h = record {
  number = h.number;
  given = h.given;
  breaks = h.breaks;
  breaks_are = h.breaks_are;
  breaks_here = h.breaks_here;
  finds = h.finds;
  finds_are = h.finds_are;
  finds_here = h.finds_here;
  refused = h.refused;
  refused_are = h.refused_are;
  up_to = r.up_to;
  is = r.is;
  refusals = h.refusals;
  uncut = h.uncut;
  unit = h.unit;
  tear_lines = h.tear_lines;
  failed_tears = h.failed_tears;
  torn_cards = h.torn_cards;
  calm_cards = h.calm_cards;
  begun = h.begun;
  moments = h.moments;
  told_finds = h.told_finds;
  judged = h.judged;
  counted = h.counted;
  found_now = h.found_now;
  waits_here = here;
}

pub moment-by : (p : Progress) (before : Before) (s : TraceSecond) (at : Phase) (log : RunLog) (waits : List Visit) (mid now : Device → ℕ) (c : Course) → course_at log before s at ≡ c → Reaches p s at log →
    AllByRecursion (λ (e : Visit). e.phase ≡ at) waits → HasCourse (not before.running) p s at log waits mid now c → Moment p before s at log waits mid now
moment-by p before s at log waits mid now c is r here h = moment-itself p before s at log waits mid now r here (subst (HasCourse (not before.running) p s at log waits mid now) (sym is) h)

-- THE SECOND BEGINS
pub entered-here : (starts : Bool) (slots : Slots) → AllByRecursion (λ (e : Visit). e.phase ≡ In 0) (fresh starts slots).entered
entered-here false slots = tt
entered-here true slots = both (visits (In 0) Driver slots) (visits (In 0) CoDriver slots) (one Driver) (one CoDriver)
  where
    both : (xs ys : List Visit) → AllByRecursion (λ (e : Visit). e.phase ≡ In 0) xs → AllByRecursion (λ (e : Visit). e.phase ≡ In 0) ys → AllByRecursion (λ (e : Visit). e.phase ≡ In 0) (xs ++ ys)
    both [] ys hx hy = hy
    both (x ∷ xs) ys hx hy = (hx.0, both xs ys hx.1 hy)

    sits : (slot : Slot) (o : Option Sitting) → AllByRecursion (λ (e : Visit). e.phase ≡ In 0) (map (λ (card : Card). record { phase = In 0; slot = slot; card = card }) (card_in o))
    sits slot None = tt
    sits slot (Some x) = (refl, tt)

    one : (slot : Slot) → AllByRecursion (λ (e : Visit). e.phase ≡ In 0) (visits (In 0) slot slots)
    one slot = sits slot (in_slot slots slot)

pub moment-begins : AMomentBegins
moment-begins rule start from first done p f span is s number power mid =
    let c : Course = fresh (begins_with span) (went p.log done).before.slots in
    let r = second-reached rule start from first done p f span is s number power in (
      moment-by p (went p.log done).before s (In 0) p.log c.entered mid mid c r.1 r.0 (entered-here (begins_with span) (went p.log done).before.slots)
          (record {
            number = number;
            given = power;
            breaks = [];
            breaks_are = sym (append-nil p.log.breaks);
            breaks_here = tt;
            finds = [];
            finds_are = sym (append-nil p.log.finds);
            finds_here = tt;
            refused = [];
            refused_are = sym (append-nil p.log.refused);
            refusals = refl;
            uncut = tt;
            unit = omega arith;
            tear_lines = refl;
            failed_tears = λ slot. refl;
            torn_cards = λ card. inl (omega arith);
            calm_cards = λ card none. refl;
            begun = tt;
            moments = tt;
            told_finds = refl;
            judged = λ e at. inl (record { among = at; none = refl });
            counted = λ card. omega arith;
            found_now = tt;
          }),
      r.1,
    )

-- AN ACTION: what it changes of the course
nobody : (log : RunLog) (u : ℕ) (c : Course) (e : Visit) → IsWaiting [] c e ⊎ IsJudgedBy log u c e → IsJudgedBy log u c e
nobody log u c e h = ⊎_elim (λ w. absurd (let at = w.among in omega (arith, at.1))) (λ j. j) h

behind-more : (n : ℕ) (p : Phase) → IsBehind (In (suc n)) p → IsBehind (In n) p
behind-more n (In m) lt = omega (arith, lt)
behind-more n Keeping h = tt

found-later : (n : ℕ) (fs : List (Visit × Verdict)) → AllByRecursion (λ (f : Visit × Verdict). IsBehind (In n) f.0.phase → ⊥) fs → AllByRecursion (λ (f : Visit × Verdict). IsBehind (In (suc n)) f.0.phase → ⊥) fs
found-later n [] h = tt
found-later n (f ∷ fs) h = ((λ behind. h.0 (behind-more n f.0.phase behind)), found-later n fs h.1)

-- it adds a refusal
refused-more : {starts : Bool} (p : Progress) (s : TraceSecond) (n : ℕ) (log : RunLog) (mid now : Device → ℕ) (c : Course) (fault : SlotFault) → HasCourse starts p s (In n) log [] mid now c →
    HasCourse starts p s (In (suc n)) (and_refused log (record { second = s.number; fault = fault; begun = suc n })) [] mid now (record c { refused = c.refused ++ (suc n, fault) ∷ [] })
unfolding is_torn_in
refused-more p s n log mid now c fault h =
    let r : Refused = record { second = s.number; fault = fault; begun = suc n } in
    record {
      number = h.number;
      given = h.given;
      breaks = h.breaks;
      breaks_are = h.breaks_are;
      breaks_here = h.breaks_here;
      finds = h.finds;
      finds_are = h.finds_are;
      finds_here = h.finds_here;
      refused = h.refused ++ r ∷ [];
      refused_are = ap (λ (rs : List Refused). rs ++ r ∷ []) h.refused_are ∙ append_assoc p.log.refused h.refused (r ∷ []);
      refusals = map-append refusal_told h.refused (r ∷ []) ∙ ap (λ (xs : List (ℕ × ℕ × SlotFault)). xs ++ (s.number, suc n, fault) ∷ []) h.refusals
          ∙ sym (map-append (refusal_at s.number) c.refused ((suc n, fault) ∷ []));
      uncut = h.uncut;
      unit = h.unit;
      tear_lines = h.tear_lines;
      failed_tears = h.failed_tears;
      torn_cards = h.torn_cards;
      calm_cards = h.calm_cards;
      begun = h.begun;
      moments = h.moments;
      told_finds = h.told_finds;
      judged = λ e at. inr (let j = nobody log s.number c e (h.judged e at) in record { once = j.once; missing = j.missing });
      counted = h.counted;
      found_now = found-later n c.found h.found_now;
    }

pub action-refused : AnActionIsRefused
action-refused p before s log mid now front a rest are m fault is =
    let n : ℕ = length front in
    let c : Course = course_at log before s (In n) in
    let r : Refused = record { second = s.number; fault = fault; begun = suc n } in
    let next = action-reached p before s log front a rest are (reaches-of p before s (In n) log [] mid now m) in
    let later : RunLog = and_refused log r in
    let more : n + 1 ≡ suc n = omega arith in
    let same : course_at later before s (In (suc n)) ≡ record c { refused = c.refused ++ (suc n, fault) ∷ [] } =
    refusal-seen log before s (In (suc n)) r ∙ next.1 ∙ ap (λ (o : Option SlotFault). answered n o a c) is ∙ ap (λ (k : ℕ). record c { refused = c.refused ++ (k, fault) ∷ [] }) more in (
      moment-by p before s (In (suc n)) later [] mid now (record c { refused = c.refused ++ (suc n, fault) ∷ [] }) same ((lines-reached p s (In (suc n)) log next.0).2 r) tt
          (refused-more p s n log mid now c fault (parts-of p before s (In n) log [] mid now m)),
      same,
    )

-- of a card that enters now nothing was found before
not-now : (n : ℕ) (p : Phase) → (IsBehind (In n) p → ⊥) → same_phase p (In (suc n)) ≡ false
not-now n (In m) never = let le : m ≤ n = not-less n m never in grind (arith, nat_tests)
  where
    not-less : (n m : ℕ) → (n < m → ⊥) → m ≤ n
    not-less n m never = omega (arith, never)
not-now n Keeping never = absurd (never tt)

none-found : (n : ℕ) (slot : Slot) (fs : List (Visit × Verdict)) → AllByRecursion (λ (f : Visit × Verdict). IsBehind (In n) f.0.phase → ⊥) fs →
    map (λ (f : Visit × Verdict). f.1) (filter (λ (f : Visit × Verdict). same_phase f.0.phase (In (suc n)) && same_slot f.0.slot slot) fs) ≡ []
none-found n slot [] h = refl
none-found n slot (f ∷ fs) h =
    let rest : List (Visit × Verdict) = filter (λ (f : Visit × Verdict). same_phase f.0.phase (In (suc n)) && same_slot f.0.slot slot) fs in
    ap (λ (t : Bool). map (λ (f : Visit × Verdict). f.1) (cond (t && same_slot f.0.slot slot) (f ∷ rest) rest)) (not-now n f.0.phase h.0) ∙ none-found n slot fs h.1

-- it is done: what is torn, pulled, found and refused stays
record SameTold (c d : Course) : Type 0 where
  refused : d.refused ≡ c.refused
  pulled : d.pulled ≡ c.pulled
  torn : d.torn ≡ c.torn
  found : d.found ≡ c.found

done-more : {starts : Bool} (p : Progress) (s : TraceSecond) (n : ℕ) (log : RunLog) (waits : List Visit) (mid now : Device → ℕ) (c d : Course) → HasCourse starts p s (In n) log [] mid now c → SameTold c d →
    ((card : Card) → times_of card waits + times_of card c.entered ≤ times_of card d.entered) → ((e : Visit) → Contains d.entered e → Contains c.entered e ⊎ (Contains waits e × (e.phase ≡ In (suc n)))) → HasCourse starts p s (In (suc n)) log waits mid now d
done-more p s n log waits mid now c d h same more enters = record {
  number = h.number;
  given = h.given;
  breaks = h.breaks;
  breaks_are = h.breaks_are;
  breaks_here = h.breaks_here;
  finds = h.finds;
  finds_are = h.finds_are;
  finds_here = h.finds_here;
  refused = h.refused;
  refused_are = h.refused_are;
  refusals = h.refusals ∙ ap (refusals_at s.number) (sym same.refused);
  uncut = h.uncut;
  unit = h.unit;
  tear_lines = h.tear_lines ∙ ap (visit_places s.number) (sym same.pulled);
  failed_tears = λ slot. h.failed_tears slot ∙ ap (λ (vs : List Visit). in_the_slot slot (visit_places s.number vs)) (sym same.torn);
  torn_cards = λ card. subst (λ (vs : List Visit). RoseBy (times_of card vs) (mid (device_of card)) (now (device_of card))) (sym same.torn) (h.torn_cards card);
  calm_cards = λ card. subst (λ (vs : List Visit). StandsBy (times_of card vs) (mid (device_of card)) (now (device_of card))) (sym same.torn) (h.calm_cards card);
  begun = h.begun;
  moments = h.moments;
  told_finds = h.told_finds ∙ ap (λ (fs : List (Visit × Verdict)). map (found_at s.number) fs) (sym same.found);
  judged = λ e at. ⊎_elim
      (λ old. inr (let j = nobody log s.number c e (h.judged e old) in record {
        once = subst (λ (fs : List (Visit × Verdict)). length (map (λ (f : Visit × Verdict). f.1) (filter (λ (f : Visit × Verdict). same_phase f.0.phase e.phase && same_slot f.0.slot e.slot) fs)) ≤ 1) (sym same.found) j.once;
        missing = λ none. j.missing (ap (λ (fs : List (Visit × Verdict)). map (λ (f : Visit × Verdict). f.1) (filter (λ (f : Visit × Verdict). same_phase f.0.phase e.phase && same_slot f.0.slot e.slot) fs)) (sym same.found) ∙ none);
      }))
      (λ now_. inl (record {
        among = now_.0;
        none = ap (λ (fs : List (Visit × Verdict)). map (λ (f : Visit × Verdict). f.1) (filter (λ (f : Visit × Verdict). same_phase f.0.phase e.phase && same_slot f.0.slot e.slot) fs)) same.found
            ∙ ap (λ (q : Phase). map (λ (f : Visit × Verdict). f.1) (filter (λ (f : Visit × Verdict). same_phase f.0.phase q && same_slot f.0.slot e.slot) c.found)) now_.1
            ∙ none-found n e.slot c.found h.found_now;
      }))
      (enters e at);
  counted = λ card. subst (λ (fs : List (Visit × Verdict)). times_of card waits + finds_by card fs ≤ times_of card d.entered) (sym same.found) (let le = h.counted card in let on = more card in omega (arith, le, on));
  found_now = subst (AllByRecursion (λ (f : Visit × Verdict). IsBehind (In (suc n)) f.0.phase → ⊥)) (sym same.found) (found-later n c.found h.found_now);
}

plain-told : (c d : Course) → d.refused ≡ c.refused → d.pulled ≡ c.pulled → d.torn ≡ c.torn → d.found ≡ c.found → SameTold c d
plain-told c d a b e f = record { refused = a; pulled = b; torn = e; found = f }

done-by : {starts : Bool} (p : Progress) (s : TraceSecond) (log : RunLog) (mid now : Device → ℕ) (n : ℕ) (a : Action) (c : Course) → pulls a ≡ None → HasCourse starts p s (In n) log [] mid now c →
    HasCourse starts p s (In (suc n)) log (entering_by n a) mid now (answered n None a c)
done-by p s log mid now n (Select slot pick) c none h = done-more p s n log [] mid now c (carried_out n (Select slot pick) c) h (plain-told c (carried_out n (Select slot pick) c) refl refl refl refl) (λ card. omega arith) (λ e at. inl at)
done-by p s log mid now n (Insert slot card) c none h =
    let more : n + 1 ≡ suc n = omega arith in
    done-more p s n log (record { phase = In (suc n); slot = slot; card = card } ∷ []) mid now c (carried_out n (Insert slot card) c) h (plain-told c (carried_out n (Insert slot card) c) refl refl refl refl)
    (λ other. (let e = times-append other c.entered (record { phase = In (n + 1); slot = slot; card = card } ∷ []) in let same : times_of other (record { phase = In (n + 1); slot = slot; card = card } ∷ []) ≡ times_of other (record { phase = In (suc n); slot = slot; card = card } ∷ []) = refl in omega (arith, e, same)))
    (λ e at. ⊎_elim (λ old. inl old)
    (λ (here : record { phase = In (n + 1); slot = slot; card = card } ≡ e).
    let is : record { phase = In (suc n); slot = slot; card = card } ≡ e = ap (λ (k : ℕ). record { phase = In k; slot = slot; card = card }) (sym more) ∙ here in
    inr (subst (λ (v : Visit). Contains (record { phase = In (suc n); slot = slot; card = card } ∷ []) v) is (Contains-push [] (record { phase = In (suc n); slot = slot; card = card })), ap (λ (v : Visit). v.phase) (sym is)))
    (Contains-push_cases c.entered (record { phase = In (n + 1); slot = slot; card = card }) e at))
done-by p s log mid now n (Withdraw slot) c none h = done-more p s n log [] mid now c (carried_out n (Withdraw slot) c) h (plain-told c (carried_out n (Withdraw slot) c) refl refl refl refl) (λ card. omega arith) (λ e at. inl at)
done-by p s log mid now n (Pull slot) c none h = absurd (cc)
done-by p s log mid now n (Place slot ending country region) c none h = done-more p s n log [] mid now c c h (plain-told c c refl refl refl refl) (λ card. omega arith) (λ e at. inl at)
done-by p s log mid now n (Manual slot pick minute) c none h = done-more p s n log [] mid now c c h (plain-told c c refl refl refl refl) (λ card. omega arith) (λ e at. inl at)

waits-by : (n : ℕ) (a : Action) → AllByRecursion (λ (e : Visit). e.phase ≡ In (suc n)) (entering_by n a)
waits-by n (Select slot pick) = tt
waits-by n (Insert slot card) = (refl, tt)
waits-by n (Withdraw slot) = tt
waits-by n (Pull slot) = tt
waits-by n (Place slot ending country region) = tt
waits-by n (Manual slot pick minute) = tt

pub action-done : AnActionIsDone
action-done p before s log mid now front a rest are m none is =
    let n : ℕ = length front in
    let c : Course = course_at log before s (In n) in
    let next = action-reached p before s log front a rest are (reaches-of p before s (In n) log [] mid now m) in
    let same : course_at log before s (In (suc n)) ≡ answered n None a c = next.1 ∙ ap (λ (o : Option SlotFault). answered n o a c) is in (
      moment-by p before s (In (suc n)) log (entering_by n a) mid now (answered n None a c) same next.0 (waits-by n a) (done-by p s log mid now n a c none (parts-of p before s (In n) log [] mid now m)),
      same,
    )

-- A CARD IS PULLED OUT: what is told of it changes no course
tears-more : (failed : Bool) (bs : List Break) (b : Break) → tears failed (log_of (bs ++ b ∷ [])) ≡ tears failed (log_of bs) ++ tears failed (log_of (b ∷ []))
tears-more failed bs b = filter-append (λ (b : Break). not (is_cut b) && cond failed (has_failed b) (not (has_failed b))) bs (b ∷ [])

pub places-more : (failed : Bool) (bs : List Break) (b : Break) → flat_map places (tears failed (log_of (bs ++ b ∷ []))) ≡ flat_map places (tears failed (log_of bs)) ++ flat_map places (tears failed (log_of (b ∷ [])))
places-more failed bs b = ap (flat_map places) (tears-more failed bs b) ∙ flat_map-append places (tears failed (log_of bs)) (tears failed (log_of (b ∷ [])))

torn-more : (log : RunLog) (b : Break) (u : ℕ) (p : Phase) (slot : Slot) → is_torn_in log u p slot ≡ true → is_torn_in (and_break log b) u p slot ≡ true
torn-more log b u p slot is = (break-more log b u).torn p slot ∙ ap (λ (t : Bool). t || tears_here u p slot b) is

pulled-parts : {starts : Bool} (p : Progress) (s : TraceSecond) (n : ℕ) (log : RunLog) (mid now : Device → ℕ) (c : Course) (slot : Slot) (x : Sitting) → in_slot c.slots slot ≡ Some x → suc n ≤ length s.actions → HasCourse starts p s (In n) log [] mid now c →
    HasCourse starts p s (In (suc n)) (and_break log (Tear s.number slot false (suc n) false)) [] mid now (carried_out n (Pull slot) c)
pulled-parts {starts = starts} p s n log mid now c slot x sits few h =
    let b : Break = Tear s.number slot false (suc n) false in
    let more : n + 1 ≡ suc n = omega arith in
    record {
      number = h.number;
      given = h.given;
      breaks = h.breaks ++ b ∷ [];
      breaks_are = ap (λ (bs : List Break). bs ++ b ∷ []) h.breaks_are ∙ append_assoc p.log.breaks h.breaks (b ∷ []);
      breaks_here = push-each (λ (b : Break). second_of b ≡ p.next) h.breaks b h.breaks_here h.number;
      finds = h.finds;
      finds_are = h.finds_are;
      finds_here = h.finds_here;
      refused = h.refused;
      refused_are = h.refused_are;
      refusals = h.refusals;
      uncut = push-each (λ (b : Break). is_cut b ≡ false) h.breaks b h.uncut refl;
      unit = h.unit;
      tear_lines = places-more false h.breaks b ∙ ap (λ (ps : List (ℕ × Phase × Slot)). ps ++ (s.number, In (suc n), slot) ∷ []) h.tear_lines
          ∙ sym (map-append (λ (v : Visit). (s.number, v.phase, v.slot)) c.pulled (visits (In (n + 1)) slot c.slots)
          ∙ ap (λ (o : Option Sitting). visit_places s.number c.pulled ++ visit_places s.number (map (λ (card : Card). record { phase = In (n + 1); slot = slot; card = card }) (card_in o))) sits
          ∙ ap (λ (k : ℕ). visit_places s.number c.pulled ++ (s.number, In k, slot) ∷ []) more);
      failed_tears = λ at. ap (in_the_slot at) (places-more true h.breaks b ∙ append-nil (flat_map places (tears true (log_of h.breaks)))) ∙ h.failed_tears at;
      torn_cards = h.torn_cards;
      calm_cards = h.calm_cards;
      begun = push-each (IsBegun (s ∷ [])) h.breaks b h.begun (λ y at same. (only s y at (suc n) few, λ late. absurd (cc)));
      moments = push-each (IsAtPowerOn starts) h.breaks b h.moments (λ none early. absurd (omega (arith, none)));
      told_finds = h.told_finds;
      judged = λ e at. inr (let j = nobody log s.number c e (h.judged e at) in record { once = j.once; missing = λ none. torn-more log b s.number e.phase e.slot (j.missing none) });
      counted = h.counted;
      found_now = found-later n c.found h.found_now;
    }
  where
    only : (s y : TraceSecond) → Contains (s ∷ []) y → (k : ℕ) → k ≤ length s.actions → k ≤ length y.actions
    only s y at k le = ⊎_elim (λ none. absurd (omega (arith, none.1))) (λ (same : s ≡ y). subst (λ (z : TraceSecond). k ≤ length z.actions) same le) (Contains-push_cases [] s y at)

-- a slot that is empty has nothing to tear out
still-empty : (t : Bool) (d : Course) → cond t (record d { left = d.left ++ []; found = d.found ++ []; torn = d.torn ++ [] }) (record d { found = d.found ++ [] }) ≡ d
still-empty true d =
    ap (λ (left : List Card). record d { left = left; found = d.found ++ []; torn = d.torn ++ [] }) (append-nil d.left)
    ∙ ap (λ (found : List (Visit × Verdict)). record d { found = found; torn = d.torn ++ [] }) (append-nil d.found)
    ∙ ap (λ (torn : List Visit). record d { torn = torn }) (append-nil d.torn)
still-empty false d = ap (λ (found : List (Visit × Verdict)). record d { found = found }) (append-nil d.found)

empty-told : (log : RunLog) (u : ℕ) (p : Phase) (n : ℕ) (c : Course) (slot : Slot) → slot_told log u p (unmoved false) slot (carried_out n (Pull slot) c) ≡ carried_out n (Pull slot) c
empty-told log u p n c Driver = still-empty (is_torn_in log u p Driver) (carried_out n (Pull Driver) c)
empty-told log u p n c CoDriver = still-empty (is_torn_in log u p CoDriver) (carried_out n (Pull CoDriver) c)

pulled-told : (log : RunLog) (u : ℕ) (p : Phase) (n : ℕ) (c : Course) (slot : Slot) → is_torn_in log u p (other_slot slot) ≡ false → found_in log u p (other_slot slot) ≡ [] →
    both_told log u p (unmoved false) (carried_out n (Pull slot) c) ≡ carried_out n (Pull slot) c
pulled-told log u p n c Driver torn found = ap (slot_told log u p (unmoved false) CoDriver) (empty-told log u p n c Driver) ∙ slot-still log u p (unmoved false) CoDriver (carried_out n (Pull Driver) c) torn found
pulled-told log u p n c CoDriver torn found = ap (slot_told log u p (unmoved false) CoDriver) (slot-still log u p (unmoved false) Driver (carried_out n (Pull CoDriver) c) torn found) ∙ empty-told log u p n c CoDriver

pub card-pulled : ACardIsPulled
card-pulled p before s log mid now front slot rest are m x sits =
    let n : ℕ = length front in
    let a : Action = Pull slot in
    let c : Course = course_at log before s (In n) in
    let b : Break = Tear s.number slot false (suc n) false in
    let later : RunLog = and_break log b in
    let next = action-reached p before s log front a rest are (reaches-of p before s (In n) log [] mid now m) in
    let is : refusal c.slots s.speed a ≡ None = ap (λ (o : Option Sitting). cond (is_some o) None (Some (Empty slot))) sits in
    let few : suc n ≤ length s.actions = next.0.is in
    let tears : IsTearAt s (In (suc n)) slot false b = (suc n, false, refl, refl, few, λ late. absurd (cc)) in
    let begun = tear-begun later log before s (In (suc n)) slot false b tears next.0.up_to refl in
    let begun_is : begun_at log before s (In (suc n)) ≡ carried_out n a c =
    sym (both-still log s.number (In (suc n)) (moved_at log before s (In (suc n))) (begun_at log before s (In (suc n))) (λ at. m.up_to.torn (In (suc n)) at (omega arith)) (λ at. m.up_to.found (In (suc n)) at (omega arith)))
    ∙ next.1 ∙ ap (λ (o : Option SlotFault). answered n o a c) is in
    let moved_is : moved_at log before s (In (suc n)) ≡ unmoved false = next.2 ∙ ap (λ (o : Option SlotFault). moved_by n o a c.slots) is in
    let same : course_at later before s (In (suc n)) ≡ carried_out n a c =
    ap (λ (v : Moved). both_told later s.number (In (suc n)) v (begun_at later before s (In (suc n)))) (begun.1 ∙ moved_is)
    ∙ ap (both_told later s.number (In (suc n)) (unmoved false)) (begun.0 ∙ begun_is)
    ∙ pulled-told later s.number (In (suc n)) n c slot
    (tear-other log s (In (suc n)) slot false b tears ∙ m.up_to.torn (In (suc n)) (other_slot slot) (omega arith))
    ((break-more log b s.number).found (In (suc n)) (other_slot slot) ∙ m.up_to.found (In (suc n)) (other_slot slot) (omega arith)) in (
      moment-by p before s (In (suc n)) later [] mid now (carried_out n a c) same ((lines-reached p s (In (suc n)) log next.0).0 slot false b tears) tt
          (pulled-parts p s n log mid now c slot x sits few (parts-of p before s (In n) log [] mid now m)),
      same,
    )
