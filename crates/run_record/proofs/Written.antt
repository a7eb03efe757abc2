-- Which cards may be written, and are spared, goes on with each step of a second.
use Rattle.std.proofs.Common.{◌≡◌, ◌⊎◌, inl, inr, ⊎_elim, ℕ, ◌+◌, ◌/◌, ◌≤◌, ◌<◌, Bool, true, false, cond, ◌&&◌, is_some, Some, List, [], ◌∷◌, ◌++◌, length, filter, refl, ap, sym, subst, ◌∙◌, arith, length-append}
use Rattle.std.proofs.lemmas.List.Elements.{filter-append}
use Rattle.minute_rules.specs.activity_codec.declared.values.Slot.{Slot}
use Rattle.run_devices.specs.trace_model.declared.Card.{Card}
use Rattle.run_devices.specs.trace_model.declared.Card.TheVariants.{A, B}
use Rattle.run_devices.specs.trace_model.Trace.{TraceSecond}
use Rattle.run_devices.specs.log_model.declared.lines.Mark.{Mark}
use Rattle.run_devices.specs.log_model.declared.lines.Verdict.{Verdict}
use Rattle.run_devices.specs.log_model.declared.lines.Verdict.TheVariants.{Accepted, NotValid, TimeOverlap}
use Rattle.run_devices.specs.log_model.Log.{Phase, is_accepting}
use Rattle.run_devices.specs.log_model.Slots.{same_card}
use Rattle.run_devices.specs.log_model.Course.{Course, Visit}
use Rattle.run_devices.specs.card_image.Own.{own_view, IsOwnValid}
use Rattle.run_devices.specs.safety_model.Recording.{card_image}
use Rattle.run_devices.specs.safety_model.Cards.{entered, overlaps, is_overlap}
use Rattle.run_devices.specs.safety_model.Safe.{Devices, card_of, entered_by}
use Rattle.run_devices.specs.run_crew.declared.cards.Cards.{Cards}
use Rattle.run_devices.specs.run_crew.Cards.{session_of}
use Rattle.run_devices.specs.run_promise.Found.{found_of}
use Rattle.run_devices.specs.run_promise.Cards.{IsUntouched}
use Rattle.run_devices.specs.run_course.Lines.{times_of}
use Rattle.run_devices.specs.run_course.Moment.{finds_by}
use Rattle.run_devices.specs.run_course.Telling.{WaitBut}
use Rattle.run_devices.specs.run_promise.Origin.{Origin}
use Rattle.run_devices.specs.run_promise.Ends.{recording_by}
use Rattle.run_devices.specs.run_promise.Beside.{AreFewFound}
use Rattle.run_devices.proofs.run_promise.Beside.{fewer-found}
use Rattle.run_devices.specs.card_slots.Kept.{Kept, left_of}
use Rattle.run_record.specs.Recorded.{SitsAccepted, LeftSince, IsWrittenSince, GoesOnIn}
use Rattle.run_record.specs.Within.{Beginning, VerdictBy, overlaps_by, MayBeWrittenSo, IsSparedSo}
use Rattle.run_record.proofs.Stays.{since-on}

-- OVER A STEP that tells nothing of cards
pub written-on : (o : Origin) (b : Beginning) (done : List TraceSecond) (c e : Course) (waits : List Visit) (u : ℕ) (kept after : Kept) (card : Card) → e.found ≡ c.found → e.entered ≡ c.entered → GoesOnIn u kept after card →
    MayBeWrittenSo o b done c waits u kept card → MayBeWrittenSo o b done e waits u after card
written-on o b done c e waits u kept after card found entered_ goes h = record {
  valid = h.valid;
  fewer = let lt = h.fewer in let f = ap (λ (fs : List (Visit × Verdict)). length (overlaps_by o card fs)) found in let n = ap (times_of card) entered_ in omega (arith, lt, f, n);
  time = h.time;
  since = since-on o u kept after card h.time goes h.since;
  entered_then = ⊎_elim (λ before. inl before) (λ now. inr (now.0, (let lt = now.1 in let n = ap (times_of card) entered_ in omega (arith, lt, n)))) h.entered_then;
}

pub spared-on : (o : Origin) (b : Beginning) (done : List TraceSecond) (c e : Course) (waits : List Visit) (u : ℕ) (kept after : Kept) (d : Devices) (card : Card) → e.found ≡ c.found → e.entered ≡ c.entered → GoesOnIn u kept after card →
    IsSparedSo o b done c waits u kept d card → IsSparedSo o b done e waits u after d card
spared-on o b done c e waits u kept after d card found entered_ goes h = ⊎_elim (λ whole. inl whole) (λ may. inr (written-on o b done c e waits u kept after card found entered_ goes may)) h

-- BEHIND A CALL that wrote on no card but on those with a session
pub spared-called : (o : Origin) (b : Beginning) (done : List TraceSecond) (c : Course) (waits : List Visit) (u : ℕ) (kept : Kept) (cards : Cards) (d e : Devices) →
    ((x : Card) → is_some (session_of cards x) ≡ true → MayBeWrittenSo o b done c waits u kept x) →
    ((x : Card) → IsUntouched (found_of o.found x) (card_of d x) → IsUntouched (found_of o.found x) (card_of e x) ⊎ (is_some (session_of cards x) ≡ true)) →
    (card : Card) → IsSparedSo o b done c waits u kept d card → IsSparedSo o b done c waits u kept e card
spared-called o b done c waits u kept cards d e written untouched card h = ⊎_elim
    (λ whole. ⊎_elim (λ still. inl still) (λ some. inr (written card some)) (untouched card whole))
    (λ may. inr may)
    h

-- AS A SECOND BEGINS
pub written-begins : (o : Origin) (b : Beginning) (done : List TraceSecond) (c : Course) (waits : List Visit) (u : ℕ) (kept : Kept) (card : Card) → c.found ≡ [] → c.entered ≡ waits → IsOwnValid (card_image o.recording card) →
    overlaps (recording_by o done b.run.log) card < entered (recording_by o done b.run.log) card → (t : ℕ) → IsWrittenSince o kept u card t → 0 < entered_by (recording_by o done b.run.log) card t → MayBeWrittenSo o b done c waits u kept card
written-begins o b done c waits u kept card found entered_ valid lt t since then = record {
  valid = valid;
  fewer = let f = ap (λ (fs : List (Visit × Verdict)). length (overlaps_by o card fs)) found in let n = ap (times_of card) entered_ in omega (arith, lt, f, n);
  time = t;
  since = since;
  entered_then = inl then;
}

-- NO MORE is told of a later time than a card entered, those aside that wait
pub few-so_far : (o : Origin) (b : Beginning) (done : List TraceSecond) (c : Course) (waits : List Visit) (card : Card) → AreFewFound (recording_by o done b.run.log) → times_of card waits + finds_by card c.found ≤ times_of card c.entered →
    overlaps (recording_by o done b.run.log) card + length (overlaps_by o card c.found) + times_of card waits ≤ entered (recording_by o done b.run.log) card + times_of card c.entered
few-so_far o b done c waits card few counted = let low = few card in let found = fewer-found o.recording card c.found in omega (arith, low, counted, found)

-- one find more
overlaps-more : (o : Origin) (x : Card) (fs : List (Visit × Verdict)) (f : Visit × Verdict) → length (overlaps_by o x (fs ++ f ∷ [])) ≡ length (overlaps_by o x fs) + length (overlaps_by o x (f ∷ []))
overlaps-more o x fs f =
    ap length (filter-append (λ (y : Visit × Verdict). same_card x y.0.card && is_overlap o.recording x y.1) fs (f ∷ []))
    ∙ length-append (filter (λ (y : Visit × Verdict). same_card x y.0.card && is_overlap o.recording x y.1) fs) (filter (λ (y : Visit × Verdict). same_card x y.0.card && is_overlap o.recording x y.1) (f ∷ []))

-- of a visit no more is told than it is one
one-overlap : (o : Origin) (x : Card) (v : Visit) (verdict : Verdict) → length (overlaps_by o x ((v, verdict) ∷ [])) ≤ times_of x (v ∷ [])
one-overlap o x v verdict = by (same_card x v.card) (is_overlap o.recording x verdict)
  where
    by : (a b : Bool) → length {A = Visit × Verdict} (cond (a && b) ((v, verdict) ∷ []) []) ≤ length {A = Card} (cond a (v.card ∷ []) [])
    by true true = omega arith
    by true false = omega arith
    by false b = omega arith

-- of an acceptance nothing is
no-overlap : (o : Origin) (x : Card) (v : Visit) (verdict : Verdict) → is_accepting verdict ≡ true → length (overlaps_by o x ((v, verdict) ∷ [])) ≡ 0
no-overlap o x v (Accepted n) is = by (same_card x v.card)
  where
    by : (a : Bool) → length {A = Visit × Verdict} (cond (a && false) ((v, Accepted n) ∷ []) []) ≡ 0
    by true = refl
    by false = refl
no-overlap o x v (NotValid fid place) is = absurd (cc)
no-overlap o x v (TimeOverlap stored now) is = absurd (cc)

own-visit : (v : Visit) → times_of v.card (v ∷ []) ≡ 1
own-visit v = by v.card
  where
    by : (c : Card) → length {A = Card} (cond (same_card c c) (c ∷ []) []) ≡ 1
    by A = refl
    by B = refl

-- A CARD THAT WAITED is judged: each that might be written may be written still,
pub written-judged : (o : Origin) (b : Beginning) (done : List TraceSecond) (c e : Course) (at : Phase) (slot : Slot) (card : Card) (waits fewer : List Visit) (verdict : Verdict) (u : ℕ) (kept after : Kept) → WaitBut at slot card waits fewer →
    e.found ≡ c.found ++ (record { phase = at; slot = slot; card = card }, verdict) ∷ [] → e.entered ≡ c.entered → (x : Card) → GoesOnIn u kept after x → MayBeWrittenSo o b done c waits u kept x → MayBeWrittenSo o b done e fewer u after x
written-judged o b done c e at slot card waits fewer verdict u kept after but found entered_ x goes h =
    let v : Visit = record { phase = at; slot = slot; card = card } in
    let f = ap (λ (fs : List (Visit × Verdict)). length (overlaps_by o x fs)) found ∙ overlaps-more o x c.found (v, verdict) in
    let n = ap (times_of x) entered_ in
    let one = one-overlap o x v verdict in
    let less = but.fewer_by x in
    record {
      valid = h.valid;
      fewer = let lt = h.fewer in omega (arith, lt, f, n, one, less);
      time = h.time;
      since = since-on o u kept after x h.time goes h.since;
      entered_then = ⊎_elim (λ before. inl before) (λ now. inr (now.0, (let lt = now.1 in omega (arith, lt, n, less)))) h.entered_then;
    }

-- and it may be written itself where it was accepted,
pub accepted-written : (o : Origin) (b : Beginning) (done : List TraceSecond) (c e : Course) (at : Phase) (slot : Slot) (card : Card) (waits fewer : List Visit) (verdict : Verdict) (u : ℕ) (after : Kept) → WaitBut at slot card waits fewer →
    e.found ≡ c.found ++ (record { phase = at; slot = slot; card = card }, verdict) ∷ [] → e.entered ≡ c.entered → AreFewFound (recording_by o done b.run.log) → times_of card waits + finds_by card c.found ≤ times_of card c.entered →
    IsOwnValid (card_image o.recording card) → (own_view (card_image o.recording card)).stored ≤ u → SitsAccepted after card → is_accepting verdict ≡ true → MayBeWrittenSo o b done e fewer u after card
accepted-written o b done c e at slot card waits fewer verdict u after but found entered_ few counted valid stored sits accepts =
    let v : Visit = record { phase = at; slot = slot; card = card } in
    let le = few-so_far o b done c waits card few counted in
    let f = ap (λ (fs : List (Visit × Verdict)). length (overlaps_by o card fs)) found ∙ overlaps-more o card c.found (v, verdict) in
    let n = ap (times_of card) entered_ in
    let none = no-overlap o card v verdict accepts in
    let one = own-visit v in
    let less = but.fewer_by card in
    record {
      valid = valid;
      fewer = omega (arith, le, f, n, none, one, less);
      time = u;
      since = record { stored = stored; past = omega arith; stays = inl sits };
      entered_then = inr (refl, omega (arith, counted, n, one, less));
    }

-- or torn out before it was judged.
pub torn-written : (o : Origin) (b : Beginning) (done : List TraceSecond) (c e : Course) (at : Phase) (slot : Slot) (card : Card) (waits fewer : List Visit) (u : ℕ) (after : Kept) → WaitBut at slot card waits fewer →
    e.found ≡ c.found → e.entered ≡ c.entered → AreFewFound (recording_by o done b.run.log) → times_of card waits + finds_by card c.found ≤ times_of card c.entered →
    IsOwnValid (card_image o.recording card) → (own_view (card_image o.recording card)).stored ≤ u → left_of after.left card ≡ Some (u / 60) → MayBeWrittenSo o b done e fewer u after card
torn-written o b done c e at slot card waits fewer u after but found entered_ few counted valid stored left =
    let v : Visit = record { phase = at; slot = slot; card = card } in
    let le = few-so_far o b done c waits card few counted in
    let f = ap (λ (fs : List (Visit × Verdict)). length (overlaps_by o card fs)) found in
    let n = ap (times_of card) entered_ in
    let one = own-visit v in
    let less = but.fewer_by card in
    record {
      valid = valid;
      fewer = omega (arith, le, f, n, one, less);
      time = u;
      since = record { stored = stored; past = omega arith; stays = inr (subst (LeftSince (u / 60)) (sym left) (let e : u / 60 ≤ u / 60 = omega arith in e)) };
      entered_then = inr (refl, omega (arith, counted, n, one, less));
    }

-- each other one that might be written may be written still
pub written-fewer : (o : Origin) (b : Beginning) (done : List TraceSecond) (c e : Course) (at : Phase) (slot : Slot) (card : Card) (waits fewer : List Visit) (u : ℕ) (kept after : Kept) → WaitBut at slot card waits fewer →
    e.found ≡ c.found → e.entered ≡ c.entered → (x : Card) → GoesOnIn u kept after x → MayBeWrittenSo o b done c waits u kept x → MayBeWrittenSo o b done e fewer u after x
written-fewer o b done c e at slot card waits fewer u kept after but found entered_ x goes h =
    let f = ap (λ (fs : List (Visit × Verdict)). length (overlaps_by o x fs)) found in
    let n = ap (times_of x) entered_ in
    let less = but.fewer_by x in
    record {
      valid = h.valid;
      fewer = let lt = h.fewer in omega (arith, lt, f, n, less);
      time = h.time;
      since = since-on o u kept after x h.time goes h.since;
      entered_then = ⊎_elim (λ before. inl before) (λ now. inr (now.0, (let lt = now.1 in omega (arith, lt, n, less)))) h.entered_then;
    }

-- who is accepted was valid, and told of no later time
pub accepted-valid : (o : Origin) (b : Beginning) (done : List TraceSecond) (n : ℕ) (marks : List Mark) (unit card : List ℕ → Type 0) (c : Card) (u : ℕ) (verdict : Verdict) → is_accepting verdict ≡ true → VerdictBy o b done n marks unit card c u verdict →
    IsOwnValid (card_image o.recording c) × ((own_view (card_image o.recording c)).stored ≤ u)
accepted-valid o b done n marks unit card c u (Accepted replayed) is h = (h.0.0, h.0.1)
accepted-valid o b done n marks unit card c u (NotValid fid place) is h = absurd (cc)
accepted-valid o b done n marks unit card c u (TimeOverlap stored now) is h = absurd (cc)
