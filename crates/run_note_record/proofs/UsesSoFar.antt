-- The uses that a second has found so far, by its log: what is noted behind its finds finds none more, nor does a tear.
use Rattle.std.proofs.Common.{◌≡◌, ◌∙◌, ◌⊎◌, ⊎_elim, inl, inr, ℕ, zero, suc, ◌+◌, ◌<◌, ◌≤◌, Bool, true, false, cond, ◌||◌, Option, Some, None, List, [], ◌∷◌, ◌++◌, map, length, take, drop, refl, sym, ap, subst, arith, append_assoc, append-nil, length-append}
use Rattle.std.specs.Prelude.{filter, flat_map}
use Rattle.std.specs.List.{AllByRecursion}
use Rattle.std.proofs.lemmas.List.{map-append, take-append-drop, length-take-le}
use Rattle.std.proofs.lemmas.List.Elements.{filter-append}
use Rattle.run_events.specs.activity_codec.declared.values.Slot.{Slot}
use Rattle.run_events.specs.activity_codec.declared.values.Slot.TheVariants.{Driver, CoDriver}
use Rattle.run_devices.specs.trace_model.declared.Card.{Card}
use Rattle.run_devices.specs.trace_model.declared.Card.TheVariants.{A}
use Rattle.run_devices.specs.trace_model.declared.Action.{Action}
use Rattle.run_devices.specs.trace_model.declared.Action.TheVariants.{Select, Insert, Withdraw, Tear as Pull, Place, Manual}
use Rattle.run_devices.specs.trace_model.Trace.{TraceSecond}
use Rattle.run_devices.specs.log_model.declared.lines.Break.{Break}
use Rattle.run_devices.specs.log_model.declared.lines.SlotFault.{SlotFault}
use Rattle.run_devices.specs.log_model.declared.lines.Verdict.{Verdict}
use Rattle.run_devices.specs.log_model.Log.{RunLog, Phase, In, Keeping, cut_in, is_torn_in, found_in}
use Rattle.run_devices.specs.log_model.Slots.{Slots, same_card, other_slot, refusal}
use Rattle.run_devices.specs.log_model.Course.{Course, Visit, Before, Moved, visits, answered, moved_by, slot_told, both_told, begins, is_settling, acted, has_power, second_told, went}
use Rattle.run_devices.specs.note_model.Done.{CarriedOut}
use Rattle.run_devices.specs.note_model.Noted.{Note, noted_by}
use Rattle.run_devices.specs.safety_model.Recording.{card_image}
use Rattle.run_devices.specs.run_course.Moments.{and_break}
use Rattle.run_devices.proofs.run_course.Lookups.{break-more}
use Rattle.run_devices.specs.run_course.Reached.{IsMoment, IsUpTo, begun_at, moved_at, IsTearAt}
use Rattle.run_events.specs.run_rings.Notes.{accepted_in, noted_if, action_notes, notes_from, notes_to, TellSameTo, NotesMore, course_behind, accepts_by, sits_accepted}
use Rattle.run_events.proofs.run_rings.Notes.{verdicts_at, slot-found, answered-found, action-notes, later-lines, second-noted}
use Rattle.run_events.proofs.run_rings.Actions.{none-ahead, power-notes, insertions}
use Rattle.run_devices.specs.run_promise.Origin.{Origin}
use Rattle.run_note_record.specs.Uses.{notes_in, notes_now, vehicle_in, use_in, uses_in}
use Rattle.run_note_record.proofs.Uses.{NotAccepted, uses-quiet}
use Rattle.run_note_record.proofs.Exact.{all-quiet, by-quiet, front-none, back-none, TornStay}
use Rattle.run_note_record.proofs.Parts.{outs}
use Rattle.run_note_record.proofs.Brought.{SameBefore, course-until, torn-now, torn-later}
use Rattle.run_note_record.proofs.Bringing.{paired, no-pairs, same, outs-none, outs-other}

-- ---- an action that accepts no card

cond-none : (b : Bool) → cond {A = List Verdict} b [] [] ≡ []
cond-none true = refl
cond-none false = refl

-- where a log tells of no find at a moment, nothing is found of a card that enters at it
pub unfound-at : (log : RunLog) (u : ℕ) (p : Phase) (moved : Moved) (slot : Slot) → found_in log u p slot ≡ [] → verdicts_at log u p moved slot ≡ []
unfound-at log u p moved slot none = ap (λ (vs : List Verdict). cond (moved.enters slot) vs []) none ∙ cond-none (moved.enters slot)

slot-unfound : (log : RunLog) (u : ℕ) (p : Phase) (moved : Moved) (slot : Slot) (c : Course) → verdicts_at log u p moved slot ≡ [] → (slot_told log u p moved slot c).found ≡ c.found
slot-unfound log u p moved slot c none =
    slot-found log u p moved slot c
    ∙ ap (λ (vs : List Verdict). c.found ++ flat_map (λ (visit : Visit). paired visit vs) (visits p slot c.slots)) none
    ∙ ap (λ (fs : List (Visit × Verdict)). c.found ++ fs) (no-pairs (visits p slot c.slots)) ∙ append-nil c.found

-- nor of any action by which none is
acted-unfound : (log : RunLog) (s : TraceSecond) (n : ℕ) (a : Action) (c : Course) → ((slot : Slot) → verdicts_at log s.number (In (n + 1)) (moved_by n (refusal c.slots s.speed a) a c.slots) slot ≡ []) → (acted log s n a c).found ≡ c.found
acted-unfound log s n a c none = by (begins (cut_in log s.number) n)
  where
    by : (b : Bool) → (cond b (both_told log s.number (In (n + 1)) (moved_by n (refusal c.slots s.speed a) a c.slots) (answered n (refusal c.slots s.speed a) a c)) (record c { settled = c.settled || is_settling a })).found ≡ c.found
    by true =
        slot-unfound log s.number (In (n + 1)) (moved_by n (refusal c.slots s.speed a) a c.slots) CoDriver
        (slot_told log s.number (In (n + 1)) (moved_by n (refusal c.slots s.speed a) a c.slots) Driver (answered n (refusal c.slots s.speed a) a c)) (none CoDriver)
        ∙ slot-unfound log s.number (In (n + 1)) (moved_by n (refusal c.slots s.speed a) a c.slots) Driver (answered n (refusal c.slots s.speed a) a c) (none Driver)
        ∙ answered-found n (refusal c.slots s.speed a) a c
    by false = refl

-- what is found as one action more is carried out
abbrev verdicts_then : RunLog → Before → TraceSecond → (front : List Action) → Action → Slot → List Verdict
verdicts_then log was s front a slot =
    verdicts_at log s.number (In (length front + 1)) (moved_by (length front) (refusal (course_behind log was s front).slots s.speed a) a (course_behind log was s front).slots) slot

module _ (log : RunLog) (was : Before) (s : TraceSecond) (front : List Action) (a : Action) (none : (slot : Slot) → verdicts_then log was s front a slot ≡ []) where
  unfound : accepted_in s.number (In (length front + 1)) (acted log s (length front) a (course_behind log was s front)).found ≡ []
  unfound = ap (accepted_in s.number (In (length front + 1))) (acted-unfound log s (length front) a (course_behind log was s front) none) ∙ none-ahead log was s front

  quiet-more : (c : Card) → AllByRecursion (NotAccepted c) (notes_from log s (length front) (a ∷ []) (course_behind log was s front))
  quiet-more c =
      all-quiet c (cond (begins (cut_in log s.number) (length front)) (action_notes log s (length front) a (course_behind log was s front)) []) [] (begun (begins (cut_in log s.number) (length front))) tt
    where
      one : (r : Option SlotFault) →
          AllByRecursion (NotAccepted c) (noted_if r log s.number (record { before = length front; action = a; slots = (course_behind log was s front).slots; after = (acted log s (length front) a (course_behind log was s front)).slots })
          (acted log s (length front) a (course_behind log was s front)).found)
      one (Some fault) = tt
      one None =
          let x : CarriedOut = record { before = length front; action = a; slots = (course_behind log was s front).slots; after = (acted log s (length front) a (course_behind log was s front)).slots } in
          all-quiet c (noted_by log s.number x a) (accepted_in s.number (In (length front + 1)) (acted log s (length front) a (course_behind log was s front)).found)
          (by-quiet c log s.number x a) (subst (AllByRecursion (NotAccepted c)) (sym unfound) tt)

      begun : (b : Bool) → AllByRecursion (NotAccepted c) (cond b (action_notes log s (length front) a (course_behind log was s front)) [])
      begun true = one (refusal (course_behind log was s front).slots s.speed a)
      begun false = tt

-- ---- A SECOND, by its log so far

-- a log tells of no find behind this moment
abbrev pub FoundTo : RunLog → (second : ℕ) → (n : ℕ) → Type 0
FoundTo log u n = (k : ℕ) (slot : Slot) → n < k → found_in log u (In k) slot ≡ []

module _ (o : Origin) (began : RunLog) (done : List TraceSecond) (s : TraceSecond) (power : has_power (went began done).before s ≡ true) where
  abbrev early : List Note
  early = notes_in began done

  -- one action more, which accepts no card
  one-quiet : (c : Card) (log : RunLog) (front : List Action) (a : Action) → ((slot : Slot) → verdicts_then log (went began done).before s front a slot ≡ []) →
      uses_in o c (early ++ notes_to log (went began done).before s (front ++ a ∷ [])) ≡ uses_in o c (early ++ notes_to log (went began done).before s front)
  one-quiet c log front a none =
      let next : List Note = notes_from log s (length front) (a ∷ []) (course_behind log (went began done).before s front) in
      ap (λ (l : List Note). uses_in o c (early ++ l)) (action-notes log (went began done).before s front a)
      ∙ ap (uses_in o c) (sym (append_assoc early (notes_to log (went began done).before s front) next))
      ∙ uses-quiet (vehicle_in o) c (use_in (card_image o.recording c)) (early ++ notes_to log (went began done).before s front) next (quiet-more log (went began done).before s front a none c)

  tail-quiet : (c : Card) (log : RunLog) (front rest : List Action) → FoundTo log s.number (length front) → uses_in o c (early ++ notes_to log (went began done).before s (front ++ rest)) ≡ uses_in o c (early ++ notes_to log (went began done).before s front)
  tail-quiet c log front [] to = ap (λ (as_ : List Action). uses_in o c (early ++ notes_to log (went began done).before s as_)) (append-nil front)
  tail-quiet c log front (a ∷ rest) to =
      let longer : length (front ++ a ∷ []) ≡ length front + 1 = length-append front (a ∷ []) in
      let k : Course = course_behind log (went began done).before s front in
      let none : (slot : Slot) → verdicts_then log (went began done).before s front a slot ≡ [] = λ slot. unfound-at log s.number (In (length front + 1)) (moved_by (length front) (refusal k.slots s.speed a) a k.slots) slot (to (length front + 1) slot (omega arith)) in
      ap (λ (as_ : List Action). uses_in o c (early ++ notes_to log (went began done).before s as_)) (sym (append_assoc front (a ∷ []) rest))
      ∙ tail-quiet c log (front ++ a ∷ []) rest (λ k slot lt. to k slot (omega (arith, lt, longer)))
      ∙ one-quiet c log front a none

  -- what the second notes behind its finds so far finds no use
  pub uses-to : (c : Card) (log : RunLog) (front rest : List Action) → s.actions ≡ front ++ rest → FoundTo log s.number (length front) → uses_in o c (notes_now began done log s) ≡ uses_in o c (notes_in began done ++ notes_to log (went began done).before s front)
  uses-to c log front rest are to =
      ap (λ (l : List Note). uses_in o c (early ++ l)) (second-noted log (went began done).before s power ∙ ap (notes_to log (went began done).before s) are)
      ∙ tail-quiet c log front rest to

-- ---- A TEAR IS TOLD

-- an action puts a card into a slot, or lets none enter
entering : (r : Option SlotFault) (a : Action) → ((slot : Slot) × (card : Card) × (r ≡ None) × (a ≡ Insert slot card)) ⊎ ((n : ℕ) (slots : Slots) (slot : Slot) → (moved_by n r a slots).enters slot ≡ false)
entering (Some fault) a = inr (λ n slots slot. refl)
entering None (Select at pick) = inr (λ n slots slot. refl)
entering None (Insert at card) = inl (at, card, refl, refl)
entering None (Withdraw at) = inr (λ n slots slot. refl)
entering None (Pull at) = inr (λ n slots slot. refl)
entering None (Place at ending country region) = inr (λ n slots slot. refl)
entering None (Manual at pick minute) = inr (λ n slots slot. refl)

-- the action that has so many before it
next-action : (m : ℕ) (as_ : List Action) → suc m ≤ length as_ → (a : Action) × (rest : List Action) × (drop m as_ ≡ a ∷ rest)
next-action m [] le = absurd (omega (arith, le))
next-action zero (a ∷ as_) le = (a, as_, refl)
next-action (suc m) (a ∷ as_) le = next-action m as_ (omega (arith, le))

module _ (o : Origin) (began : RunLog) (done : List TraceSecond) (s : TraceSecond) (power : has_power (went began done).before s ≡ true) (log : RunLog) (b : Break) where
  abbrev later : RunLog
  later = and_break log b

  abbrev SameUses : Card → Type 0
  SameUses c = uses_in o c (notes_now began done (and_break log b) s) ≡ uses_in o c (notes_now began done log s)

  found-as : (p : Phase) (slot : Slot) → found_in later s.number p slot ≡ found_in log s.number p slot
  found-as p slot = (break-more log b s.number).found p slot

  -- up to an action that both logs tell of, and behind which they tell of no find
  module _ (front : List Action) (a : Action) (rest : List Action) (are : s.actions ≡ front ++ a ∷ rest) (tells : TellSameTo log later s.number (length front)) (to : FoundTo log s.number (length front + 1))
      (course : course_behind later (went began done).before s front ≡ course_behind log (went began done).before s front) (uncut : cut_in log s.number ≡ None) (uncut_later : cut_in later s.number ≡ None) where
    parts : s.actions ≡ (front ++ a ∷ []) ++ rest
    parts = are ∙ sym (append_assoc front (a ∷ []) rest)

    front-same : notes_to later (went began done).before s front ≡ notes_to log (went began done).before s front
    front-same = later-lines log later (went began done).before s front tells

    longer : length (front ++ a ∷ []) ≡ length front + 1
    longer = length-append front (a ∷ [])

    to-it : FoundTo log s.number (length (front ++ a ∷ []))
    to-it k slot lt = to k slot (let is = longer in omega (arith, lt, is))

    to-it_later : FoundTo later s.number (length (front ++ a ∷ []))
    to-it_later k slot lt = found-as (In k) slot ∙ to-it k slot lt

    by-notes : (c : Card) → uses_in o c (notes_in began done ++ notes_to later (went began done).before s (front ++ a ∷ [])) ≡ uses_in o c (notes_in began done ++ notes_to log (went began done).before s (front ++ a ∷ [])) → SameUses c
    by-notes c is = uses-to o began done s power c later (front ++ a ∷ []) rest parts to-it_later ∙ is ∙ sym (uses-to o began done s power c log (front ++ a ∷ []) rest parts to-it)

    -- a card that it puts in is accepted as its finds tell
    put-notes : (l : RunLog) → cut_in l s.number ≡ None → (slot : Slot) (card : Card) → a ≡ Insert slot card → refusal (course_behind l (went began done).before s front).slots s.speed a ≡ None →
        NotesMore l (went began done).before s front a (accepts_by s.number slot card (found_in l s.number (In (length front + 1)) slot))
    put-notes l whole slot card is fine =
        subst (λ (x : Action). NotesMore l (went began done).before s front x (accepts_by s.number slot card (found_in l s.number (In (length front + 1)) slot))) (sym is)
        (insertions l (went began done).before s front (ap (λ (q : Option ℕ). begins q (length front)) whole) slot card (ap (λ (x : Action). refusal (course_behind l (went began done).before s front).slots s.speed x) (sym is) ∙ fine))

    put-same : (slot : Slot) (card : Card) → refusal (course_behind log (went began done).before s front).slots s.speed a ≡ None → a ≡ Insert slot card → (c : Card) → SameUses c
    put-same slot card fine is c =
        let fine_later : refusal (course_behind later (went began done).before s front).slots s.speed a ≡ None = ap (λ (k : Course). refusal k.slots s.speed a) course ∙ fine in
        by-notes c (ap (λ (l : List Note). uses_in o c (notes_in began done ++ l))
        (put-notes later uncut_later slot card is fine_later
        ∙ (λ i. front-same i ++ accepts_by s.number slot card (found-as (In (length front + 1)) slot i))
        ∙ sym (put-notes log uncut slot card is fine)))

    -- and one that lets none enter accepts none
    quiet-same : ((n : ℕ) (slots : Slots) (slot : Slot) → (moved_by n (refusal (course_behind log (went began done).before s front).slots s.speed a) a slots).enters slot ≡ false) → (c : Card) → SameUses c
    quiet-same quiet c =
        by-notes c (one-quiet o began done s power c later front a (none later (ap (λ (k : Course). refusal k.slots s.speed a) course))
        ∙ ap (λ (l : List Note). uses_in o c (notes_in began done ++ l)) front-same
        ∙ sym (one-quiet o began done s power c log front a (none log refl)))
      where
        none : (l : RunLog) → refusal (course_behind l (went began done).before s front).slots s.speed a ≡ refusal (course_behind log (went began done).before s front).slots s.speed a →
            (slot : Slot) → verdicts_then l (went began done).before s front a slot ≡ []
        none l is slot =
            ap (λ (r : Option SlotFault). cond ((moved_by (length front) r a (course_behind l (went began done).before s front).slots).enters slot) (found_in l s.number (In (length front + 1)) slot) []) is
            ∙ ap (λ (e : Bool). cond e (found_in l s.number (In (length front + 1)) slot) []) (quiet (length front) (course_behind l (went began done).before s front).slots slot)

    action-same : (c : Card) → SameUses c
    action-same c = ⊎_elim (λ put. put-same put.0 put.1 put.2 put.3 c) (λ quiet. quiet-same quiet c) (entering (refusal (course_behind log (went began done).before s front).slots s.speed a) a)

-- THE SAME USES WERE FOUND behind a tear that is told last
pub tear-uses : (o : Origin) (began : RunLog) (done : List TraceSecond) (s : TraceSecond) → has_power (went began done).before s ≡ true → (log : RunLog) (at : Phase) → IsMoment s at → IsUpTo log s.number at → (slot : Slot) (failed : Bool) (b : Break) → IsTearAt s at slot failed b →
    IsUpTo (and_break log b) s.number at → is_torn_in log s.number at slot ≡ false → (c : Card) → uses_in o c (notes_now began done (and_break log b) s) ≡ uses_in o c (notes_now began done log s)
tear-uses o began done s power log (In zero) is up slot failed b tear up_later untorn c =
    uses-to o began done s power c (and_break log b) [] s.actions refl (λ k sl lt. up_later.found (In k) sl lt)
    ∙ ap (λ (l : List Note). uses_in o c (notes_in began done ++ l)) (by (went began done).before.running refl)
    ∙ sym (uses-to o began done s power c log [] s.actions refl (λ k sl lt. up.found (In k) sl lt))
  where
    same_found : (sl : Slot) → found_in (and_break log b) s.number (In 0) sl ≡ found_in log s.number (In 0) sl
    same_found sl = found-as o began done s power log b (In 0) sl

    by : (running : Bool) → (went began done).before.running ≡ running → notes_to (and_break log b) (went began done).before s [] ≡ notes_to log (went began done).before s []
    by true on = (power-notes (and_break log b) (went began done).before s).1 on ∙ sym ((power-notes log (went began done).before s).1 on)
    by false off =
        (power-notes (and_break log b) (went began done).before s).0 off
        ∙ (λ i. sits_accepted s.number Driver (went began done).before.slots.driver (same_found Driver i) ++ sits_accepted s.number CoDriver (went began done).before.slots.codriver (same_found CoDriver i))
        ∙ sym ((power-notes log (went began done).before s).0 off)
tear-uses o began done s power log (In (suc m)) is up slot failed b tear up_later untorn c =
    let next = next-action m s.actions is in
    let long : length (take m s.actions) ≡ m = length-take-le m s.actions (omega (arith, is)) in
    let alike : SameBefore log (and_break log b) s.number (In (suc m)) = same log (went began done).before s (In (suc m)) power is up slot A failed b tear up_later untorn in
    let tells : TellSameTo log (and_break log b) s.number (length (take m s.actions)) = record {
      begun = λ k lt. ap (λ (q : Option ℕ). begins q k) up.uncut;
      begun_later = λ k lt. ap (λ (q : Option ℕ). begins q k) up_later.uncut;
      torn = λ k sl le. alike.torn k sl (omega (arith, le, long));
      found = λ k sl le. found-as o began done s power log b (In k) sl;
    } in
    action-same o began done s power log b (take m s.actions) next.0 next.1 (sym (take-append-drop m s.actions) ∙ ap (λ (l : List Action). take m s.actions ++ l) next.2) tells
    (λ k sl lt. up.found (In k) sl (omega (arith, lt, long)))
    (course-until log (and_break log b) (went began done).before s (In (suc m)) power is alike m (omega arith)) up.uncut up_later.uncut c
tear-uses o began done s power log Keeping is up slot failed b tear up_later untorn c =
    let alike : SameBefore log (and_break log b) s.number Keeping = same log (went began done).before s Keeping power is up slot A failed b tear up_later untorn in
    let tells : TellSameTo log (and_break log b) s.number (length s.actions) = record {
      begun = λ k lt. ap (λ (q : Option ℕ). begins q k) up.uncut;
      begun_later = λ k lt. ap (λ (q : Option ℕ). begins q k) up_later.uncut;
      torn = λ k sl le. alike.torn k sl tt;
      found = λ k sl le. found-as o began done s power log b (In k) sl;
    } in
    ap (λ (l : List Note). uses_in o c (notes_in began done ++ l))
    (second-noted (and_break log b) (went began done).before s power ∙ later-lines log (and_break log b) (went began done).before s s.actions tells ∙ sym (second-noted log (went began done).before s power))

-- ---- WHO WAS TORN OUT before it was so behind it

abbrev mine : Card → List Visit → List Card
mine c vs = filter (same_card c) (map (λ (v : Visit). v.card) vs)

mine-append : (c : Card) (xs ys : List Visit) → mine c (xs ++ ys) ≡ mine c xs ++ mine c ys
mine-append c xs ys = ap (filter (same_card c)) (map-append (λ (v : Visit). v.card) xs ys) ∙ filter-append (same_card c) (map (λ (v : Visit). v.card) xs) (map (λ (v : Visit). v.card) ys)

mine-front : (c : Card) (xs ys : List Visit) → mine c (xs ++ ys) ≡ [] → mine c xs ≡ []
mine-front c xs ys none = front-none (same_card c) (map (λ (v : Visit). v.card) xs) (map (λ (v : Visit). v.card) ys) (ap (filter (same_card c)) (sym (map-append (λ (v : Visit). v.card) xs ys)) ∙ none)

mine-back : (c : Card) (xs ys : List Visit) → mine c (xs ++ ys) ≡ [] → mine c ys ≡ []
mine-back c xs ys none = back-none (same_card c) (map (λ (v : Visit). v.card) xs) (map (λ (v : Visit). v.card) ys) (ap (filter (same_card c)) (sym (map-append (λ (v : Visit). v.card) xs ys)) ∙ none)

mine-both : (c : Card) (xs ys : List Visit) → mine c xs ≡ [] → mine c ys ≡ [] → mine c (xs ++ ys) ≡ []
mine-both c xs ys one two = mine-append c xs ys ∙ (λ i. one i ++ two i)

-- of the slot of the tear none was out before it, and of the other one the same
slots-stay : (slot : Slot) (c : Card) (front : List Visit) (out now : Slot → List Visit) → out slot ≡ [] → now (other_slot slot) ≡ out (other_slot slot) →
    mine c (front ++ (now Driver ++ now CoDriver)) ≡ [] → mine c (front ++ (out Driver ++ out CoDriver)) ≡ []
slots-stay Driver c front out now gone beside none =
    mine-both c front (out Driver ++ out CoDriver) (mine-front c front (now Driver ++ now CoDriver) none)
    (mine-both c (out Driver) (out CoDriver) (ap (mine c) gone) (ap (mine c) (sym beside) ∙ mine-back c (now Driver) (now CoDriver) (mine-back c front (now Driver ++ now CoDriver) none)))
slots-stay CoDriver c front out now gone beside none =
    mine-both c front (out Driver ++ out CoDriver) (mine-front c front (now Driver ++ now CoDriver) none)
    (mine-both c (out Driver) (out CoDriver) (ap (mine c) (sym beside) ∙ mine-front c (now Driver) (now CoDriver) (mine-back c front (now Driver ++ now CoDriver) none)) (ap (mine c) gone))

pub tear-stays : (log : RunLog) (before : Before) (s : TraceSecond) (at : Phase) → has_power before s ≡ true → IsMoment s at → IsUpTo log s.number at → (slot : Slot) (failed : Bool) (b : Break) → IsTearAt s at slot failed b → IsUpTo (and_break log b) s.number at →
    is_torn_in log s.number at slot ≡ false → TornStay (second_told log before s).course.torn (second_told (and_break log b) before s).course.torn
tear-stays log before s at power is up slot failed b tear up_later untorn c none =
    let alike : SameBefore log (and_break log b) s.number at = same log before s at power is up slot A failed b tear up_later untorn in
    ap (mine c) (torn-now log (and_break log b) before s at power is alike)
    ∙ slots-stay slot c (begun_at log before s at).torn (λ (sl : Slot). outs log s.number at (moved_at log before s at) sl (begun_at log before s at)) (λ (sl : Slot). outs (and_break log b) s.number at (moved_at log before s at) sl (begun_at log before s at))
    (outs-none log before s at power is up slot A failed b tear up_later untorn) (outs-other log before s at power is up slot A failed b tear up_later untorn)
    (ap (mine c) (sym (torn-later log (and_break log b) before s at power is alike)) ∙ none)
