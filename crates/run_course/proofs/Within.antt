-- The moments of a second: where each stands, and what a tear, a find or a cut that is told now makes of it.
use Rattle.std.proofs.Common.{◌≡◌, ◌⊎◌, inl, inr, ℕ, ◌+◌, ◌/◌, ◌≤◌, Bool, true, false, cond, not, ◌||◌, nat_lt, Option, Some, None, List, [], ◌∷◌, ◌++◌, length, map, take, is_some, refl, ap, sym, subst, ◌∙◌, arith, append-nil}
use Rattle.std.specs.Prelude.{option_map, flat_map}
use Rattle.std.specs.List.{list_any}
use Rattle.std.proofs.lemmas.Bool.Decides.{nat_tests}
use Rattle.std.proofs.lemmas.List.Folds.{list_any-append}
use Rattle.activity_codec.specs.declared.values.Slot.{Slot}
use Rattle.activity_codec.specs.declared.values.Slot.TheVariants.{Driver, CoDriver}
use Rattle.trace_model.specs.declared.Card.{Card}
use Rattle.trace_model.specs.declared.Action.{Action}
use Rattle.trace_model.specs.Trace.{TraceSecond}
use Rattle.log_model.specs.declared.lines.Verdict.{Verdict}
use Rattle.log_model.specs.Log.{RunLog, Phase, In, Keeping, cut_in, is_torn_in, found_in, is_accepting}
use Rattle.log_model.specs.Slots.{Slots, Sitting, same_card, in_slot, refusal}
use Rattle.log_model.specs.Course.{ToldSecond, Course, Visit, Before, Moved, begins, visits, card_in, leaves, with_slot, slot_told, both_told, acted, all_acted, moved_by, unmoved, answered, fresh, is_settling, cut_told, lit_course, has_power, second_told}
use Rattle.event_model.specs.Events.{course_by}
use Rattle.history_model.specs.Minutes.{HistoryMinute}
use Rattle.history_model.specs.Presence.{Start}
use Rattle.card_slots.specs.Kept.{Kept, put_in, taken}
use Rattle.run_course.specs.Presence.{has_left, SlotsTell}
use Rattle.run_course.specs.Within.{ASecondBegins, AnActionIsAMoment, ASecondEnds, not_begun, ACutEndsTheSecond, IsTornFrom, ATearIsTold, IsFoundOf, AFindIsTold, SlotsTellATear, SlotsTellAnAcceptance}
use Rattle.run_course.proofs.Moments.{all-acted_parts, action-more, course-same}
use Rattle.run_course.proofs.Presence.{put-in, taken-out}

-- WHERE A MOMENT STANDS
pub second-begins : ASecondBegins
second-begins log before s true is = ap (λ (b : Bool). both_told log s.number (In 0) (unmoved (not b)) (fresh (not b) before.slots)) is
second-begins log before s false is = ap (λ (b : Bool). both_told log s.number (In 0) (unmoved (not b)) (fresh (not b) before.slots)) is

pub action-moment : AnActionIsAMoment
action-moment log before s front a rest are none =
    action-more log before s front a rest are ∙ begun (course_by log before s (length front))
  where
    begun : (c : Course) → acted log s (length front) a c ≡ both_told log s.number (In (length front + 1)) (moved_by (length front) (refusal c.slots s.speed a) a c.slots) (answered (length front) (refusal c.slots s.speed a) a c)
    begun c = rw (ap (λ (o : Option ℕ). begins o (length front)) none) refl

take-whole : (acts : List Action) → take (length acts) acts ≡ acts
take-whole [] = refl
take-whole (a ∷ acts) = ap (λ (as_ : List Action). a ∷ as_) (take-whole acts)

take-front : (front rest : List Action) → take (length front) (front ++ rest) ≡ front
take-front [] rest = refl
take-front (a ∷ front) rest = ap (λ (as_ : List Action). a ∷ as_) (take-front front rest)

lit-course : (log : RunLog) (before : Before) (s : TraceSecond) → has_power before s ≡ true → (second_told log before s).course ≡ lit_course log s (not before.running) before.slots
lit-course log before s power = rw power refl

pub second-ends : ASecondEnds
second-ends log before s power none =
    let begun : Course = both_told log s.number (In 0) (unmoved (not before.running)) (fresh (not before.running) before.slots) in
    lit-course log before s power
    ∙ ap (λ (o : Option ℕ). cut_told (is_some o) (both_told log s.number Keeping (unmoved false) (all_acted log s 0 s.actions begun))) none
    ∙ ap (λ (as_ : List Action). both_told log s.number Keeping (unmoved false) (all_acted log s 0 as_ begun)) (sym (take-whole s.actions))

-- actions behind a cut
behind-cut : (later : RunLog) (s : TraceSecond) (n k : ℕ) (rest : List Action) (c : Course) → cut_in later s.number ≡ Some n → n ≤ k → all_acted later s k rest c ≡ not_begun rest c
behind-cut later s n k [] c cut le = ap (λ (b : Bool). record c { settled = b }) (or-nothing c.settled)
  where
    or-nothing : (b : Bool) → b ≡ (b || false)
    or-nothing true = refl
    or-nothing false = refl
behind-cut later s n k (a ∷ rest) c cut le =
    ap (all_acted later s (k + 1) rest) (one c)
    ∙ behind-cut later s n (k + 1) rest (record c { settled = c.settled || is_settling a }) cut (omega (arith, le))
    ∙ ap (λ (b : Bool). record c { settled = b }) (grouped c.settled (is_settling a) (list_any is_settling rest))
  where
    over : (n k : ℕ) → n ≤ k → nat_lt k n ≡ false
    over n k le = grind (arith, nat_tests)

    one : (c : Course) → acted later s k a c ≡ record c { settled = c.settled || is_settling a }
    one c = rw (ap (λ (o : Option ℕ). begins o k) cut ∙ over n k le) refl

    grouped : (x y z : Bool) → ((x || y) || z) ≡ (x || (y || z))
    grouped true y z = refl
    grouped false y z = refl

pub cut-ends : ACutEndsTheSecond
cut-ends log later before s front rest are power same cut =
    let begun : Course = both_told later s.number (In 0) (unmoved (not before.running)) (fresh (not before.running) before.slots) in
    let so_far : course_by later before s (length front) ≡ course_by log before s (length front) = course-same log later s (length front) same before in
    lit-course later before s power
    ∙ ap (λ (o : Option ℕ). cut_told (is_some o) (both_told later s.number Keeping (unmoved false) (all_acted later s 0 s.actions begun))) cut
    ∙ ap (λ (c : Course). cut_told true (both_told later s.number Keeping (unmoved false) c))
    (ap (λ (as_ : List Action). all_acted later s 0 as_ begun) are
    ∙ all-acted_parts later s 0 front rest begun
    ∙ behind-cut later s (length front) (0 + length front) rest (all_acted later s 0 front begun) cut (omega arith)
    ∙ ap (not_begun rest) (ap (λ (as_ : List Action). all_acted later s 0 as_ begun) (sym (ap (take (length front)) are ∙ take-front front rest)) ∙ so_far))

-- ONE SLOT of a moment, by what the log tells of it
abbrev seen_as : List Verdict → Visit → List (Visit × Verdict)
seen_as verdicts visit = map (λ (v : Verdict). (visit, v)) verdicts

abbrev judged : Phase → Slot → Course → List Verdict → Course
judged p slot c verdicts = record c { found = c.found ++ flat_map (seen_as verdicts) (visits p slot c.slots) }

abbrev accepting : ℕ → Slots → Slot → Slots
accepting u slots slot = with_slot slots slot (option_map {T = Sitting} (λ x. record x { accepted = Some u }) (in_slot slots slot))

abbrev told_with : ℕ → Phase → Moved → Slot → Course → (torn : Bool) → List Verdict → (accepts : Bool) → Course
told_with u p moved slot c torn verdicts accepts =
    cond torn (record (leaves slot (judged p slot c verdicts)) { torn = c.torn ++ (moved.leaving slot ++ visits p slot c.slots) })
    (cond accepts (record (judged p slot c verdicts) { slots = accepting u c.slots slot }) (judged p slot c verdicts))

abbrev entering : RunLog → ℕ → Phase → Moved → Slot → List Verdict
entering log u p moved slot = cond (moved.enters slot) (found_in log u p slot) []

slot-as : (log : RunLog) (u : ℕ) (p : Phase) (moved : Moved) (slot : Slot) (c : Course) →
    slot_told log u p moved slot c ≡ told_with u p moved slot c (is_torn_in log u p slot) (entering log u p moved slot) (list_any is_accepting (entering log u p moved slot))
slot-as log u p moved slot c = refl

card-accepted : (u : ℕ) (o : Option Sitting) → card_in (option_map {T = Sitting} (λ x. record x { accepted = Some u }) o) ≡ card_in o
card-accepted u None = refl
card-accepted u (Some sitting) = refl

-- members of three lists in another order
swapped : (card : Card) (a b c : List Card) → list_any (same_card card) ((a ++ b) ++ c) ≡ list_any (same_card card) ((a ++ c) ++ b)
swapped card a b c =
    list_any-append (same_card card) (a ++ b) c ∙ ap (λ (t : Bool). t || list_any (same_card card) c) (list_any-append (same_card card) a b)
    ∙ turned (list_any (same_card card) a) (list_any (same_card card) b) (list_any (same_card card) c)
    ∙ ap (λ (t : Bool). t || list_any (same_card card) b) (sym (list_any-append (same_card card) a c)) ∙ sym (list_any-append (same_card card) (a ++ c) b)
  where
    turned : (x y z : Bool) → ((x || y) || z) ≡ ((x || z) || y)
    turned true y z = refl
    turned false true true = refl
    turned false true false = refl
    turned false false true = refl
    turned false false false = refl

-- A TEAR
torn-driver : (u : ℕ) (p : Phase) (moved : Moved) (c : Course) (vs ws : List Verdict) (accepts torn beside : Bool) →
    IsTornFrom Driver (told_with u p moved CoDriver (told_with u p moved Driver c false vs accepts) torn ws beside) (told_with u p moved CoDriver (told_with u p moved Driver c true vs accepts) torn ws beside)
torn-driver u p moved c vs ws true true beside = record {
  slots = refl;
  left = λ card. swapped card c.left (card_in c.slots.driver) (card_in c.slots.codriver) ∙ ap (λ (cs : List Card). list_any (same_card card) ((c.left ++ card_in c.slots.codriver) ++ cs)) (sym (card-accepted u c.slots.driver));
  picks = refl;
  pulled = refl;
  entered = refl;
  found = refl;
  refused = refl;
  settled = refl;
}
torn-driver u p moved c vs ws false true beside = record {
  slots = refl;
  left = λ card. swapped card c.left (card_in c.slots.driver) (card_in c.slots.codriver);
  picks = refl;
  pulled = refl;
  entered = refl;
  found = refl;
  refused = refl;
  settled = refl;
}
torn-driver u p moved c vs ws true false true = record {
  slots = refl;
  left = λ card. ap (λ (cs : List Card). list_any (same_card card) (c.left ++ cs)) (sym (card-accepted u c.slots.driver));
  picks = refl;
  pulled = refl;
  entered = refl;
  found = refl;
  refused = refl;
  settled = refl;
}
torn-driver u p moved c vs ws true false false = record {
  slots = refl;
  left = λ card. ap (λ (cs : List Card). list_any (same_card card) (c.left ++ cs)) (sym (card-accepted u c.slots.driver));
  picks = refl;
  pulled = refl;
  entered = refl;
  found = refl;
  refused = refl;
  settled = refl;
}
torn-driver u p moved c vs ws false false true =
    record { slots = refl; left = λ card. refl; picks = refl; pulled = refl; entered = refl; found = refl; refused = refl; settled = refl }
torn-driver u p moved c vs ws false false false =
    record { slots = refl; left = λ card. refl; picks = refl; pulled = refl; entered = refl; found = refl; refused = refl; settled = refl }

torn-codriver : (u : ℕ) (p : Phase) (moved : Moved) (d : Course) (ws : List Verdict) (accepts : Bool) → IsTornFrom CoDriver (told_with u p moved CoDriver d false ws accepts) (told_with u p moved CoDriver d true ws accepts)
torn-codriver u p moved d ws true = record {
  slots = refl;
  left = λ card. ap (λ (cs : List Card). list_any (same_card card) (d.left ++ cs)) (sym (card-accepted u d.slots.codriver));
  picks = refl;
  pulled = refl;
  entered = refl;
  found = refl;
  refused = refl;
  settled = refl;
}
torn-codriver u p moved d ws false =
    record { slots = refl; left = λ card. refl; picks = refl; pulled = refl; entered = refl; found = refl; refused = refl; settled = refl }

-- a slot of which two logs tell the same
slot-with : (log later : RunLog) (u : ℕ) (p : Phase) (moved : Moved) (slot : Slot) (c : Course) (torn : Bool) (vs : List Verdict) → is_torn_in later u p slot ≡ torn → entering later u p moved slot ≡ vs →
    slot_told later u p moved slot c ≡ told_with u p moved slot c torn vs (list_any is_accepting vs)
slot-with log later u p moved slot c torn vs is so =
    slot-as later u p moved slot c
    ∙ ap (λ (t : Bool). told_with u p moved slot c t (entering later u p moved slot) (list_any is_accepting (entering later u p moved slot))) is
    ∙ ap (λ (ws : List Verdict). told_with u p moved slot c torn ws (list_any is_accepting ws)) so

pub tear-told : ATearIsTold
tear-told log later u p Driver moved c h =
    let vs : List Verdict = entering log u p moved Driver in
    let ws : List Verdict = entering log u p moved CoDriver in
    let torn : Bool = is_torn_in log u p CoDriver in
    let old = slot-with log log u p moved CoDriver (slot_told log u p moved Driver c) torn ws refl refl
    ∙ ap (λ (d : Course). told_with u p moved CoDriver d torn ws (list_any is_accepting ws)) (slot-with log log u p moved Driver c false vs h.old refl) in
    let new = slot-with log later u p moved CoDriver (slot_told later u p moved Driver c) torn ws h.other (ap (λ (x : List Verdict). cond (moved.enters CoDriver) x []) (h.found CoDriver))
    ∙ ap (λ (d : Course). told_with u p moved CoDriver d torn ws (list_any is_accepting ws)) (slot-with log later u p moved Driver c true vs h.new (ap (λ (x : List Verdict). cond (moved.enters Driver) x []) (h.found Driver))) in
    subst (λ (d : Course). IsTornFrom Driver d (both_told later u p moved c)) (sym old)
    (subst (λ (d : Course). IsTornFrom Driver (told_with u p moved CoDriver (told_with u p moved Driver c false vs (list_any is_accepting vs)) torn ws (list_any is_accepting ws)) d) (sym new)
    (torn-driver u p moved c vs ws (list_any is_accepting vs) torn (list_any is_accepting ws)))
tear-told log later u p CoDriver moved c h =
    let vs : List Verdict = entering log u p moved Driver in
    let ws : List Verdict = entering log u p moved CoDriver in
    let d : Course = told_with u p moved Driver c (is_torn_in log u p Driver) vs (list_any is_accepting vs) in
    let old = slot-with log log u p moved CoDriver (slot_told log u p moved Driver c) false ws h.old refl in
    let new = slot-with log later u p moved CoDriver (slot_told later u p moved Driver c) true ws h.new (ap (λ (x : List Verdict). cond (moved.enters CoDriver) x []) (h.found CoDriver))
    ∙ ap (λ (d : Course). told_with u p moved CoDriver d true ws (list_any is_accepting ws))
    (slot-with log later u p moved Driver c (is_torn_in log u p Driver) vs h.other (ap (λ (x : List Verdict). cond (moved.enters Driver) x []) (h.found Driver))) in
    subst (λ (d : Course). IsTornFrom CoDriver d (both_told later u p moved c)) (sym old)
    (subst (λ (e : Course). IsTornFrom CoDriver (told_with u p moved CoDriver d false ws (list_any is_accepting ws)) e) (sym new)
    (torn-codriver u p moved d ws (list_any is_accepting ws)))

-- A FIND
seen-one : (v : Verdict) (vs : List Visit) → flat_map (seen_as (v ∷ [])) vs ≡ map (λ (visit : Visit). (visit, v)) vs
seen-one v [] = refl
seen-one v (visit ∷ vs) = ap (λ (xs : List (Visit × Verdict)). (visit, v) ∷ xs) (seen-one v vs)

seen-none : (vs : List Visit) → flat_map (seen_as []) vs ≡ []
seen-none [] = refl
seen-none (visit ∷ vs) = seen-none vs

-- of what is found at once: what it adds
found-one : (p : Phase) (slot : Slot) (c : Course) (v : Verdict) → c.found ++ flat_map (seen_as (v ∷ [])) (visits p slot c.slots) ≡ c.found ++ map (λ (visit : Visit). (visit, v)) (visits p slot c.slots)
found-one p slot c v = ap (λ (xs : List (Visit × Verdict)). c.found ++ xs) (seen-one v (visits p slot c.slots))

found-none : (found : List (Visit × Verdict)) (vs : List Visit) → found ++ flat_map (seen_as []) vs ≡ found
found-none found vs = ap (λ (xs : List (Visit × Verdict)). found ++ xs) (seen-none vs) ∙ append-nil found

found-codriver : (u : ℕ) (p : Phase) (moved : Moved) (d : Course) (v : Verdict) (accepts : Bool) → is_accepting v ≡ accepts → IsFoundOf u p CoDriver v (told_with u p moved CoDriver d false [] false) (told_with u p moved CoDriver d false (v ∷ []) accepts)
found-codriver u p moved d v true is = record {
  slots = sym (ap (λ (b : Bool). cond b (accepting u d.slots CoDriver) d.slots) is);
  found = found-one p CoDriver d v ∙ ap (λ (xs : List (Visit × Verdict)). xs ++ map (λ (visit : Visit). (visit, v)) (visits p CoDriver d.slots)) (sym (found-none d.found (visits p CoDriver d.slots)));
  left = refl;
  picks = refl;
  pulled = refl;
  torn = refl;
  entered = refl;
  refused = refl;
  settled = refl;
}
found-codriver u p moved d v false is = record {
  slots = sym (ap (λ (b : Bool). cond b (accepting u d.slots CoDriver) d.slots) is);
  found = found-one p CoDriver d v ∙ ap (λ (xs : List (Visit × Verdict)). xs ++ map (λ (visit : Visit). (visit, v)) (visits p CoDriver d.slots)) (sym (found-none d.found (visits p CoDriver d.slots)));
  left = refl;
  picks = refl;
  pulled = refl;
  torn = refl;
  entered = refl;
  refused = refl;
  settled = refl;
}

-- the driver's, while nothing was found of the co-driver's, which may have been torn out
found-driver : (u : ℕ) (p : Phase) (moved : Moved) (c : Course) (v : Verdict) (accepts torn : Bool) → is_accepting v ≡ accepts →
    IsFoundOf u p Driver v (told_with u p moved CoDriver (told_with u p moved Driver c false [] false) torn [] false) (told_with u p moved CoDriver (told_with u p moved Driver c false (v ∷ []) accepts) torn [] false)
found-driver u p moved c v true torn is = by torn
  where
    more : (c.found ++ flat_map (seen_as (v ∷ [])) (visits p Driver c.slots)) ++ flat_map (seen_as []) (visits p CoDriver c.slots)
        ≡ ((c.found ++ flat_map (seen_as []) (visits p Driver c.slots)) ++ flat_map (seen_as []) (visits p CoDriver c.slots)) ++ map (λ (visit : Visit). (visit, v)) (visits p Driver c.slots)
    more = found-none (c.found ++ flat_map (seen_as (v ∷ [])) (visits p Driver c.slots)) (visits p CoDriver c.slots) ∙ found-one p Driver c v
        ∙ ap (λ (xs : List (Visit × Verdict)). xs ++ map (λ (visit : Visit). (visit, v)) (visits p Driver c.slots))
        (sym (found-none (c.found ++ flat_map (seen_as []) (visits p Driver c.slots)) (visits p CoDriver c.slots) ∙ found-none c.found (visits p Driver c.slots)))

    by : (torn : Bool) → IsFoundOf u p Driver v (told_with u p moved CoDriver (told_with u p moved Driver c false [] false) torn [] false) (told_with u p moved CoDriver (told_with u p moved Driver c false (v ∷ []) true) torn [] false)
    by true = record {
      slots = sym (ap (λ (b : Bool). cond b (accepting u (with_slot c.slots CoDriver None) Driver) (with_slot c.slots CoDriver None)) is);
      found = more;
      left = refl;
      picks = refl;
      pulled = refl;
      torn = refl;
      entered = refl;
      refused = refl;
      settled = refl;
    }
    by false = record {
      slots = sym (ap (λ (b : Bool). cond b (accepting u c.slots Driver) c.slots) is);
      found = more;
      left = refl;
      picks = refl;
      pulled = refl;
      torn = refl;
      entered = refl;
      refused = refl;
      settled = refl;
    }
found-driver u p moved c v false torn is = by torn
  where
    more : (c.found ++ flat_map (seen_as (v ∷ [])) (visits p Driver c.slots)) ++ flat_map (seen_as []) (visits p CoDriver c.slots)
        ≡ ((c.found ++ flat_map (seen_as []) (visits p Driver c.slots)) ++ flat_map (seen_as []) (visits p CoDriver c.slots)) ++ map (λ (visit : Visit). (visit, v)) (visits p Driver c.slots)
    more = found-none (c.found ++ flat_map (seen_as (v ∷ [])) (visits p Driver c.slots)) (visits p CoDriver c.slots) ∙ found-one p Driver c v
        ∙ ap (λ (xs : List (Visit × Verdict)). xs ++ map (λ (visit : Visit). (visit, v)) (visits p Driver c.slots))
        (sym (found-none (c.found ++ flat_map (seen_as []) (visits p Driver c.slots)) (visits p CoDriver c.slots) ∙ found-none c.found (visits p Driver c.slots)))

    by : (torn : Bool) → IsFoundOf u p Driver v (told_with u p moved CoDriver (told_with u p moved Driver c false [] false) torn [] false) (told_with u p moved CoDriver (told_with u p moved Driver c false (v ∷ []) false) torn [] false)
    by true = record {
      slots = sym (ap (λ (b : Bool). cond b (accepting u (with_slot c.slots CoDriver None) Driver) (with_slot c.slots CoDriver None)) is);
      found = more;
      left = refl;
      picks = refl;
      pulled = refl;
      torn = refl;
      entered = refl;
      refused = refl;
      settled = refl;
    }
    by false = record {
      slots = sym (ap (λ (b : Bool). cond b (accepting u c.slots Driver) c.slots) is);
      found = more;
      left = refl;
      picks = refl;
      pulled = refl;
      torn = refl;
      entered = refl;
      refused = refl;
      settled = refl;
    }

nothing-found : (b : Bool) (vs : List Verdict) → vs ≡ [] → cond b vs [] ≡ []
nothing-found true vs is = is
nothing-found false vs is = refl

nothing-entered : (b : Bool) (vs : List Verdict) → (b ≡ false) ⊎ (vs ≡ []) → cond b vs [] ≡ []
nothing-entered b vs (inl out) = ap (λ (t : Bool). cond t vs []) out
nothing-entered b vs (inr none) = nothing-found b vs none

one-found : (b : Bool) (vs : List Verdict) (v : Verdict) → b ≡ true → vs ≡ v ∷ [] → cond b vs [] ≡ v ∷ []
one-found b vs v is so = ap (λ (t : Bool). cond t vs []) is ∙ so

accepts-one : (v : Verdict) → is_accepting v ≡ (is_accepting v || false)
accepts-one v = go (is_accepting v)
  where
    go : (b : Bool) → b ≡ (b || false)
    go true = refl
    go false = refl

pub find-told : AFindIsTold
find-told log later u p Driver v moved c h enters order =
    let torn : Bool = is_torn_in log u p CoDriver in
    let none = nothing-entered (moved.enters CoDriver) (found_in log u p CoDriver) (order refl) in
    let old = slot-with log log u p moved CoDriver (slot_told log u p moved Driver c) torn [] refl none
    ∙ ap (λ (d : Course). told_with u p moved CoDriver d torn [] false) (slot-with log log u p moved Driver c false [] h.here (nothing-found (moved.enters Driver) (found_in log u p Driver) h.old)) in
    let new = slot-with log later u p moved CoDriver (slot_told later u p moved Driver c) torn [] h.other (ap (λ (x : List Verdict). cond (moved.enters CoDriver) x []) h.beside ∙ none)
    ∙ ap (λ (d : Course). told_with u p moved CoDriver d torn [] false) (slot-with log later u p moved Driver c false (v ∷ []) h.now (one-found (moved.enters Driver) (found_in later u p Driver) v enters h.new)) in
    subst (λ (d : Course). IsFoundOf u p Driver v d (both_told later u p moved c)) (sym old)
    (subst (λ (d : Course). IsFoundOf u p Driver v (told_with u p moved CoDriver (told_with u p moved Driver c false [] false) torn [] false) d) (sym new)
    (found-driver u p moved c v (is_accepting v || false) torn (accepts-one v)))
find-told log later u p CoDriver v moved c h enters order =
    let vs : List Verdict = entering log u p moved Driver in
    let d : Course = told_with u p moved Driver c (is_torn_in log u p Driver) vs (list_any is_accepting vs) in
    let old = slot-with log log u p moved CoDriver (slot_told log u p moved Driver c) false [] h.here (nothing-found (moved.enters CoDriver) (found_in log u p CoDriver) h.old) in
    let new = slot-with log later u p moved CoDriver (slot_told later u p moved Driver c) false (v ∷ []) h.now (one-found (moved.enters CoDriver) (found_in later u p CoDriver) v enters h.new)
    ∙ ap (λ (d : Course). told_with u p moved CoDriver d false (v ∷ []) (is_accepting v || false))
    (slot-with log later u p moved Driver c (is_torn_in log u p Driver) vs h.other (ap (λ (x : List Verdict). cond (moved.enters Driver) x []) h.beside)) in
    subst (λ (d : Course). IsFoundOf u p CoDriver v d (both_told later u p moved c)) (sym old)
    (subst (λ (e : Course). IsFoundOf u p CoDriver v (told_with u p moved CoDriver d false [] false) e) (sym new)
    (found-codriver u p moved d v (is_accepting v || false) (accepts-one v)))

-- WHAT THE SLOTS TELL
same-members : (start : Start) (told : List ToldSecond) (past : List HistoryMinute) (left now : List Card) (number from : ℕ) (slots : Slots) (k : Kept) → ((card : Card) → list_any (same_card card) now ≡ list_any (same_card card) left) →
    SlotsTell start told past left number from slots k → SlotsTell start told past now number from slots k
same-members start told past left now number from slots k same h = record {
  driver = h.driver;
  codriver = h.codriver;
  apart = h.apart;
  gone = λ card. h.gone card ∙ ap (λ (b : Bool). b || has_left [] told card (number / 60)) (sym (same card));
  latest = h.latest;
  ended = h.ended;
  so_far = h.so_far;
  falls = h.falls;
  newest = h.newest;
  minute = h.minute;
}

pub tear-tells : SlotsTellATear
tear-tells start told past number from slot old new k h torn =
    subst (λ (s : Slots). SlotsTell start told past new.left number from s (taken slot number k)) (sym torn.slots)
    (same-members start told past (old.left ++ card_in (in_slot old.slots slot)) new.left number from (with_slot old.slots slot None) (taken slot number k) torn.left
    (taken-out start told past old.left number from old.slots k h slot))

pub acceptance-tells : SlotsTellAnAcceptance
acceptance-tells start told past number from p slot v card newest old new k h found accepts sits free is =
    let slots : new.slots ≡ with_slot old.slots slot (Some (record { card = card; accepted = Some number })) =
    found.slots ∙ ap (λ (b : Bool). cond b (accepting number old.slots slot) old.slots) accepts
    ∙ ap (λ (o : Option Sitting). with_slot old.slots slot (option_map {T = Sitting} (λ x. record x { accepted = Some number }) o)) sits in
    subst (λ (s : Slots). SlotsTell start told past new.left number from s (put_in slot card (Some newest) k)) (sym slots)
    (subst (λ (left : List Card). SlotsTell start told past left number from (with_slot old.slots slot (Some (record { card = card; accepted = Some number }))) (put_in slot card (Some newest) k)) (sym found.left)
    (put-in start told past old.left number from old.slots k h slot card (Some newest) (Some number) free is))
