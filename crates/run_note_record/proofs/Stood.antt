-- Who stands accepted at a power-on: by the events' words, and by the slots.
use Rattle.std.proofs.Common.{◌≡◌, ◌⊎◌, inl, inr, ⊎_elim, ℕ, ◌≤◌, Bool, true, false, cond, not, ◌&&◌, ◌||◌, Option, Some, None, List, [], ◌∷◌, ◌++◌, map, filter, length, is_some, refl, ap, sym, ◌∙◌, arith}
use Rattle.std.specs.Prelude.{option_map, flat_map}
use Rattle.std.specs.List.{list_any}
use Rattle.std.proofs.lemmas.List.Elements.{filter-append}
use Rattle.run_events.specs.activity_codec.declared.values.Slot.{Slot}
use Rattle.run_events.specs.activity_codec.declared.values.Slot.TheVariants.{Driver, CoDriver}
use Rattle.run_events.specs.activity_codec.Activity.{same_slot}
use Rattle.run_devices.specs.trace_model.declared.Card.{Card}
use Rattle.run_devices.specs.trace_model.Trace.{TraceSecond}
use Rattle.run_devices.specs.log_model.declared.lines.Verdict.{Verdict}
use Rattle.run_devices.specs.log_model.Log.{RunLog, Phase, In, same_phase, is_torn_in, found_in, is_accepting}
use Rattle.run_devices.specs.log_model.Slots.{Slots, Sitting, in_slot, other_slot, is_accepted}
use Rattle.run_devices.specs.log_model.Course.{Visit, Course, Before, Moved, card_in, visits, has_power}
use Rattle.run_devices.specs.event_model.Events.{Seen, Tearing, accepted_card, seen_by, torn_at, first_card, accepted_at, standing}
use Rattle.run_devices.specs.run_course.Reached.{IsUpTo, begun_at, moved_at, course_at}
use Rattle.run_events.proofs.Later.{told-number}
use Rattle.run_note_record.specs.EventsSoFar.{AreBare}
use Rattle.run_note_record.proofs.Parts.{outs, found_now, finds}
use Rattle.run_note_record.proofs.Brought.{SameBefore, torn-now, found-now}
use Rattle.run_note_record.proofs.Bringing.{few-at, torn-there}
use Rattle.run_note_record.proofs.Tearing.{and-none, phase-self, slot-self, slot-beside, told_slot, both-slot, IsBeside, only-other, few-alone, few-torn, not-torn}

abbrev pub accepted_here : Phase → Slot → Visit × Verdict → Bool
accepted_here p slot f = same_phase f.0.phase p && (same_slot f.0.slot slot && is_accepting f.1)

-- the card of a slot is accepted by one of these verdicts
abbrev pub acceptance : Bool → Option Sitting → Option Card
acceptance accepts None = None
acceptance accepts (Some x) = cond accepts (Some x.card) None

one-accepted : (p : Phase) (slot : Slot) (card : Card) (vs : List Verdict) →
    first_card (filter (accepted_here p slot) (map (λ (v : Verdict). (record { phase = p; slot = slot; card = card }, v)) vs ++ [])) ≡ cond (list_any is_accepting vs) (Some card) None
one-accepted p slot card [] = refl
one-accepted p slot card (v ∷ vs) =
    let e : Visit × Verdict = (record { phase = p; slot = slot; card = card }, v) in
    let rest : List (Visit × Verdict) = filter (accepted_here p slot) (map (λ (v : Verdict). (record { phase = p; slot = slot; card = card }, v)) vs ++ []) in
    ap (λ (b : Bool). first_card (cond b (e ∷ rest) rest)) ((λ i. phase-self p i && (slot-self slot i && is_accepting v)))
    ∙ by (is_accepting v) (list_any is_accepting vs) rest e refl (one-accepted p slot card vs)
  where
    by : (b any : Bool) (rest : List (Visit × Verdict)) (e : Visit × Verdict) → e.0.card ≡ card → first_card rest ≡ cond any (Some card) None → first_card (cond b (e ∷ rest) rest) ≡ cond (b || any) (Some card) None
    by true any rest e is h = ap Some is
    by false any rest e is h = h

own-accepted : (p : Phase) (slot : Slot) (vs : List Verdict) (o : Option Sitting) →
    first_card (filter (accepted_here p slot) (flat_map (λ (visit : Visit). map (λ (v : Verdict). (visit, v)) vs) (map (λ (card : Card). record { phase = p; slot = slot; card = card }) (card_in o)))) ≡ acceptance (list_any is_accepting vs) o
own-accepted p slot vs None = refl
own-accepted p slot vs (Some x) = one-accepted p slot x.card vs

pairs-beside : (p q : Phase) (slot : Slot) (card : Card) (vs : List Verdict) → filter (accepted_here q slot) (map (λ (v : Verdict). (record { phase = p; slot = other_slot slot; card = card }, v)) vs ++ []) ≡ []
pairs-beside p q slot card [] = refl
pairs-beside p q slot card (v ∷ vs) =
    let e : Visit × Verdict = (record { phase = p; slot = other_slot slot; card = card }, v) in
    let rest : List (Visit × Verdict) = filter (accepted_here q slot) (map (λ (v : Verdict). (record { phase = p; slot = other_slot slot; card = card }, v)) vs ++ []) in
    ap (λ (b : Bool). cond (same_phase p q && (b && is_accepting v)) (e ∷ rest) rest) (slot-beside slot) ∙ ap (λ (b : Bool). cond b (e ∷ rest) rest) (and-none (same_phase p q)) ∙ pairs-beside p q slot card vs

pub beside-accepted : (p q : Phase) (slot : Slot) (vs : List Verdict) (o : Option Sitting) →
    filter (accepted_here q slot) (flat_map (λ (visit : Visit). map (λ (v : Verdict). (visit, v)) vs) (map (λ (card : Card). record { phase = p; slot = other_slot slot; card = card }) (card_in o))) ≡ []
beside-accepted p q slot vs None = refl
beside-accepted p q slot vs (Some x) = pairs-beside p q slot x.card vs

nil-append : (xs : List (Visit × Verdict)) → xs ++ [] ≡ xs
nil-append [] = refl
nil-append (x ∷ xs) = ap (λ (ys : List (Visit × Verdict)). x ∷ ys) (nil-append xs)

-- of both slots only its own counts
of-both : (p : Phase) (slot : Slot) (out : Slot → List (Visit × Verdict)) → filter (accepted_here p slot) (out (other_slot slot)) ≡ [] → filter (accepted_here p slot) (out Driver ++ out CoDriver) ≡ filter (accepted_here p slot) (out slot)
of-both p Driver out none = filter-append (accepted_here p Driver) (out Driver) (out CoDriver) ∙ ap (λ (xs : List (Visit × Verdict)). filter (accepted_here p Driver) (out Driver) ++ xs) none ∙ nil-append (filter (accepted_here p Driver) (out Driver))
of-both p CoDriver out none = filter-append (accepted_here p CoDriver) (out Driver) (out CoDriver) ∙ ap (λ (xs : List (Visit × Verdict)). xs ++ filter (accepted_here p CoDriver) (out CoDriver)) none

pub bare-card : (o : Option Sitting) → is_accepted o ≡ false → accepted_card o ≡ None
bare-card None is = refl
bare-card (Some x) is = by x.accepted is
  where
    by : (o : Option ℕ) → is_some o ≡ false → option_map {T = ℕ} {U = Card} (λ u. x.card) o ≡ None
    by None is = refl
    by (Some n) is = absurd (let wrong : true ≡ false = is in cc)

stands-plain : (here torn : Bool) (vs : List Verdict) (u : ℕ) (o : Option Sitting) (found : Option Card) → is_accepted o ≡ false → (torn ≡ false → here ≡ false) → (torn ≡ true → (here ≡ true) ⊎ (o ≡ None)) → found ≡ acceptance (list_any is_accepting vs) o →
    cond (here && true) None found ≡ accepted_card (told_slot torn vs u o)
stands-plain here false vs u o found bare off on is = ap (λ (b : Bool). cond (b && true) None found) (off refl) ∙ is ∙ by (list_any is_accepting vs) o bare
  where
    by : (any : Bool) (o : Option Sitting) → is_accepted o ≡ false → acceptance any o ≡ accepted_card (cond any (option_map {T = Sitting} {U = Sitting} (λ x. record x { accepted = Some u }) o) o)
    by true None bare = refl
    by false None bare = refl
    by true (Some x) bare = refl
    by false (Some x) bare = sym (bare-card (Some x) bare)
stands-plain here true vs u o found bare off on is = ⊎_elim (λ (t : here ≡ true). ap (λ (b : Bool). cond (b && true) None found) t)
    (λ (gone : o ≡ None). ap (λ (c : Option Card). cond (here && true) None c) (is ∙ ap (acceptance (list_any is_accepting vs)) gone) ∙ same-none (here && true)) (on refl)
  where
    same-none : (b : Bool) → cond {A = Option Card} b None None ≡ None
    same-none true = refl
    same-none false = refl

pub bare-in : (slots : Slots) (slot : Slot) → AreBare slots → is_accepted (in_slot slots slot) ≡ false
bare-in slots Driver bare = bare.driver
bare-in slots CoDriver bare = bare.codriver

-- AT A POWER-ON, where none fell by the interruption
module _ (log : RunLog) (before : Before) (s : TraceSecond) (power : has_power before s ≡ true) (up : IsUpTo log s.number (In 0)) (starts : before.running ≡ false) (bare : AreBare before.slots) where
  abbrev x : Seen
  x = seen_by log before s

  abbrev start : Course
  start = begun_at log before s (In 0)

  abbrev moves : Moved
  moves = moved_at log before s (In 0)

  itself : SameBefore log log s.number (In 0)
  itself = record { up = up; up_later = up; torn = λ m slot behind. refl; found = λ m slot behind. refl }

  zero-low : 0 ≤ length s.actions
  zero-low = omega arith

  torn-are : x.told.course.torn ≡ outs log s.number (In 0) moves Driver start ++ outs log s.number (In 0) moves CoDriver start
  torn-are = torn-now log log before s (In 0) power zero-low itself

  found-are : x.told.course.found ≡ finds log s.number (In 0) moves Driver start ++ finds log s.number (In 0) moves CoDriver start
  found-are = found-now log log before s (In 0) power zero-low itself

  few-at-all : (slot : Slot) → (outs log s.number (In 0) moves slot start ≡ []) ⊎ (IsBeside (In 0) slot (outs log s.number (In 0) moves slot start) × (is_torn_in log s.number (In 0) slot ≡ true))
  few-at-all slot = few-torn log s.number (In 0) moves slot start (few-at log before s (In 0) slot)

  pub untorn-slot : (slot : Slot) → is_torn_in log s.number (In 0) slot ≡ false → torn_at x (In 0) slot ≡ false
  untorn-slot slot off =
      let none : outs log s.number (In 0) moves slot start ≡ [] = ap (λ (t : Bool). cond t (moves.leaving slot ++ visits (In 0) slot start.slots) []) off in
      let only = only-other slot (λ (sl : Slot). outs log s.number (In 0) moves sl start) none in
      not-torn (In 0) slot x [] (outs log s.number (In 0) moves (other_slot slot) start) (torn-are ∙ only) tt
      (few-alone (In 0) (other_slot slot) (outs log s.number (In 0) moves (other_slot slot) start) (is_torn_in log s.number (In 0) (other_slot slot) ≡ true) (few-at-all (other_slot slot)))

  torn-slot : (slot : Slot) → is_torn_in log s.number (In 0) slot ≡ true → (torn_at x (In 0) slot ≡ true) ⊎ (in_slot start.slots slot ≡ None)
  torn-slot slot on = ⊎_elim
      (λ (gone : outs log s.number (In 0) moves slot start ≡ []). inr (nobody (in_slot start.slots slot) (sym (ap (λ (t : Bool). cond t (visits (In 0) slot start.slots) []) on) ∙ gone)))
      (λ one. inl (torn-there (In 0) slot x [] (λ (sl : Slot). outs log s.number (In 0) moves sl start) one.0.w torn-are one.0.are one.0.phase_is one.0.slot_is))
      (few-at-all slot)
    where
      nobody : (o : Option Sitting) → map {B = Visit} (λ (card : Card). record { phase = In 0; slot = slot; card = card }) (card_in o) ≡ [] → o ≡ None
      nobody None gone = refl
      nobody (Some c) gone = absurd (cc)

  pub accepted-are : (slot : Slot) → accepted_at x (In 0) slot ≡ acceptance (list_any is_accepting (found_now log s.number (In 0) moves slot)) (in_slot start.slots slot)
  accepted-are slot =
      ap (λ (fs : List (Visit × Verdict)). first_card (filter (accepted_here (In 0) slot) fs)) found-are
      ∙ ap first_card (of-both (In 0) slot (λ (sl : Slot). finds log s.number (In 0) moves sl start) (beside-accepted (In 0) (In 0) slot (found_now log s.number (In 0) moves (other_slot slot)) (in_slot start.slots (other_slot slot))))
      ∙ own-accepted (In 0) slot (found_now log s.number (In 0) moves slot) (in_slot start.slots slot)

  pub stands-as : (t : Tearing) (slot : Slot) → t.by_gap s.number slot ≡ false → standing t x slot ≡ accepted_card (in_slot (course_at log before s (In 0)).slots slot)
  stands-as t slot plain =
      ap (λ (u : ℕ). cond (torn_at x (In 0) slot && not (t.by_gap u slot)) None (accepted_at x (In 0) slot)) (told-number log before s)
      ∙ ap (λ (b : Bool). cond (torn_at x (In 0) slot && not b) None (accepted_at x (In 0) slot)) plain
      ∙ stands-plain (torn_at x (In 0) slot) (is_torn_in log s.number (In 0) slot) (found_now log s.number (In 0) moves slot) s.number (in_slot start.slots slot) (accepted_at x (In 0) slot)
      (bare-in before.slots slot bare) (untorn-slot slot) (torn-slot slot) (accepted-are slot)
      ∙ sym (ap accepted_card (both-slot log s.number (In 0) moves slot start))

  -- who was not torn out stands as it was accepted
  pub accepted-as : (slot : Slot) → is_torn_in log s.number (In 0) slot ≡ false → accepted_at x (In 0) slot ≡ accepted_card (in_slot (course_at log before s (In 0)).slots slot)
  accepted-as slot off =
      sym (ap (λ (b : Bool). cond (b && true) None (accepted_at x (In 0) slot)) (untorn-slot slot off))
      ∙ stands-plain (torn_at x (In 0) slot) (is_torn_in log s.number (In 0) slot) (found_now log s.number (In 0) moves slot) s.number (in_slot start.slots slot) (accepted_at x (In 0) slot)
      (bare-in before.slots slot bare) (untorn-slot slot) (torn-slot slot) (accepted-are slot)
      ∙ sym (ap accepted_card (both-slot log s.number (In 0) moves slot start))

  -- and a card of which nothing is told yet does not
  pub bare-as : (slot : Slot) → is_torn_in log s.number (In 0) slot ≡ false → found_in log s.number (In 0) slot ≡ [] → accepted_card (in_slot (course_at log before s (In 0)).slots slot) ≡ None
  bare-as slot off unfound =
      let none : found_now log s.number (In 0) moves slot ≡ [] = ap (λ (vs : List Verdict). cond (moves.enters slot) vs []) unfound ∙ cond-nil (moves.enters slot) in
      ap accepted_card (both-slot log s.number (In 0) moves slot start ∙ (λ i. told_slot (off i) (none i) s.number (in_slot start.slots slot))) ∙ bare-card (in_slot before.slots slot) (bare-in before.slots slot bare)
    where
      cond-nil : (b : Bool) → cond {A = List Verdict} b [] [] ≡ []
      cond-nil true = refl
      cond-nil false = refl
