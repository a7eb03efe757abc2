-- What a card shows of its events as power is back: it is judged anew, and the interruption is noted.
use Rattle.std.proofs.Common.{◌≡◌, ◌∙◌, ◌⊎◌, inl, inr, ⊎_elim, ℕ, ◌+◌, ◌≤◌, Bool, true, false, cond, ◌||◌, Option, Some, None, List, [], ◌∷◌, ◌++◌, map, length, refl, sym, ap, subst, arith, append-nil, length-append}
use Rattle.std.specs.Prelude.{◌&&◌, filter, flat_map}
use Rattle.std.specs.List.{list_any}
use Rattle.std.proofs.lemmas.List.Elements.{filter-append}
use Rattle.activity_codec.specs.declared.values.Slot.{Slot}
use Rattle.activity_codec.specs.declared.values.Slot.TheVariants.{Driver, CoDriver}
use Rattle.trace_model.specs.declared.Card.{Card}
use Rattle.trace_model.specs.Trace.{TraceSecond}
use Rattle.hand_model.specs.card_image.Own.{IsOwnValid}
use Rattle.card_files.specs.declared.current_use.CurrentUse.{CurrentUse}
use Rattle.log_model.specs.declared.lines.Verdict.{Verdict}
use Rattle.log_model.specs.Log.{RunLog, In, is_torn_in, found_in, is_accepting}
use Rattle.log_model.specs.Slots.{Sitting, in_slot, same_card}
use Rattle.log_model.specs.Course.{Course, Visit, Before, went}
use Rattle.unit_notes.specs.event_model.Events.{Seen}
use Rattle.unit_notes.specs.note_model.Done.{course_powered}
use Rattle.device_calls.specs.safety_model.Recording.{card_image}
use Rattle.device_calls.specs.safety_model.Safe.{Devices, card_of}
use Rattle.run_minutes.specs.run_promise.Origin.{Origin}
use Rattle.run_minutes.specs.run_promise.Beside.{HaveLeftMore}
use Rattle.run_note_record.specs.Evented.{images_in}
use Rattle.run_note_record.specs.Uses.{notes_now, uses_in}
use Rattle.run_note_record.specs.Waking.{IsFoundAnew}
use Rattle.run_acts.specs.OnCards.{accepts, accepted_in, moved_in, gaps_on, enters, is_sure_in, torn_times, met_seconds, judging, ComesTo, StillShows, AreUses}
use Rattle.run_acts.specs.RunCards.{vehicle_in, sizes_in, CardShown, so_far, seen_behind, gap_behind, met_so, CardsIn, CardsWaking, StillShow}
use Rattle.run_acts.proofs.CardCourse.{Finding, findings, sitting_at, IsPowered, powered-as}
use Rattle.run_acts.proofs.CardShown.{FindsUses, FindsStill, still-finds, KeepsFailed, Follows, interrupting, GoesOn, card-goes, goes-on, moved-same}
use Rattle.run_acts.proofs.CardSecond.{any-more, flat-append, accepted-mine, accepted-other, judged-on}
use Rattle.run_acts.proofs.CardEnds.{no-findings}

-- the cards of both slots that were torn out then
abbrev torn_then : Bool → List Visit → Bool → List Visit → List Visit
torn_then d driver c codriver = cond d driver [] ++ cond c codriver []

any-then : (p : Visit → Bool) (a b : List Visit) (d d' c c' : Bool) → (d ≡ true → d' ≡ true) → (c ≡ true → c' ≡ true) → list_any p (torn_then d a c b) ≡ true → list_any p (torn_then d' a c' b) ≡ true
any-then p a b d d' c c' hd hc is = from d d' c c' hd hc (split d c is)
  where
    second : (e : Bool) → list_any p b ≡ true → list_any p (cond e a [] ++ b) ≡ true
    second true h = right a
      where
        right : (xs : List Visit) → list_any p (xs ++ b) ≡ true
        right [] = h
        right (x ∷ xs) = or (p x) (right xs)
          where
            or : (t : Bool) → list_any p (xs ++ b) ≡ true → (t || list_any p (xs ++ b)) ≡ true
            or true k = refl
            or false k = k
    second false h = h

    split : (d c : Bool) → list_any p (torn_then d a c b) ≡ true → ((d ≡ true) × (list_any p a ≡ true)) ⊎ ((c ≡ true) × (list_any p b ≡ true))
    split true true h = ⊎_elim (λ l. inl (refl, l)) (λ r. inr (refl, r)) (parts a h)
      where
        parts : (xs : List Visit) → list_any p (xs ++ b) ≡ true → (list_any p xs ≡ true) ⊎ (list_any p b ≡ true)
        parts [] h = inr h
        parts (x ∷ xs) h = or (p x) h (parts xs)
          where
            or : (t : Bool) → (t || list_any p (xs ++ b)) ≡ true → (list_any p (xs ++ b) ≡ true → (list_any p xs ≡ true) ⊎ (list_any p b ≡ true)) → ((t || list_any p xs) ≡ true) ⊎ (list_any p b ≡ true)
            or true k rest = inl refl
            or false k rest = rest k
    split true false h = inl (refl, sym (ap (list_any p) (append-nil a)) ∙ h)
    split false true h = inr (refl, h)
    split false false h = absurd (let wrong : false ≡ true = h in cc)

    from : (d d' c c' : Bool) → (d ≡ true → d' ≡ true) → (c ≡ true → c' ≡ true) → ((d ≡ true) × (list_any p a ≡ true)) ⊎ ((c ≡ true) × (list_any p b ≡ true)) → list_any p (torn_then d' a c' b) ≡ true
    from d d' c c' hd hc (inl h) = ap (λ (t : Bool). list_any p (torn_then t a c' b)) (hd h.0) ∙ any-more p a (cond c' b []) h.1
    from d d' c c' hd hc (inr h) = ap (λ (t : Bool). list_any p (torn_then d' a t b)) (hc h.0) ∙ second d' h.1

-- and how many they are
count-both : (q : Visit → Bool) (xs ys : List Visit) → length (filter q (xs ++ ys)) ≡ length (filter q xs) + length (filter q ys)
count-both q xs ys = ap length (filter-append q xs ys) ∙ length-append (filter q xs) (filter q ys)

pub count-part : (q : Visit → Bool) (xs : List Visit) (e e' : Bool) → (e ≡ true → e' ≡ true) → length (filter q (cond e xs [])) ≤ length (filter q (cond e' xs []))
count-part q xs true true on = omega arith
count-part q xs true false on = absurd (let wrong : false ≡ true = on refl in cc)
count-part q xs false e' on = omega arith

-- in both slots, of which one has this more
pub count-then : (q : Visit → Bool) (a a' b b' : List Visit) (n : ℕ) → length (filter q a) + length (filter q b) + n ≤ length (filter q a') + length (filter q b') → length (filter q (a ++ b)) + n ≤ length (filter q (a' ++ b'))
count-then q a a' b b' n le =
    let old : length (filter q (a ++ b)) ≡ length (filter q a) + length (filter q b) = count-both q a b in
    let new : length (filter q (a' ++ b')) ≡ length (filter q a') + length (filter q b') = count-both q a' b' in
    omega (arith, old, new, le)

module _ (log later : RunLog) (was : Before) (s : TraceSecond) (off : was.running ≡ false) (torn : (slot : Slot) → is_torn_in log s.number (In 0) slot ≡ true → is_torn_in later s.number (In 0) slot ≡ true) where
  abbrev k : Course
  k = course_powered log was s

  abbrev l : Course
  l = course_powered later was s

  -- a card was torn out so often more
  abbrev pub part_torn : Card → RunLog → Slot → ℕ
  part_torn c told slot = length (filter (λ (v : Visit). same_card v.card c) (cond (is_torn_in told s.number (In 0) slot) (sitting_at slot (in_slot was.slots slot)) []))

  pub torn-often : (c : Card) (n : ℕ) → part_torn c log Driver + part_torn c log CoDriver + n ≤ part_torn c later Driver + part_torn c later CoDriver
      → torn_times c (so_far was s (course_powered log was s)) + n ≤ torn_times c (so_far was s (course_powered later was s))
  torn-often c n le =
      let q : Visit → Bool = λ (v : Visit). same_card v.card c in
      let a : IsPowered log was s (course_powered log was s) = powered-as log was s off in
      let b : IsPowered later was s (course_powered later was s) = powered-as later was s off in
      let old : List Visit = cond (is_torn_in log s.number (In 0) Driver) (sitting_at Driver was.slots.driver) [] ++ cond (is_torn_in log s.number (In 0) CoDriver) (sitting_at CoDriver was.slots.codriver) [] in
      subst (λ (vs : List Visit). length (filter q vs) + n ≤ length (filter q (course_powered later was s).torn)) (sym a.torn)
      (subst (λ (vs : List Visit). length (filter q old) + n ≤ length (filter q vs)) (sym b.torn)
      (count-then q (cond (is_torn_in log s.number (In 0) Driver) (sitting_at Driver was.slots.driver) []) (cond (is_torn_in later s.number (In 0) Driver) (sitting_at Driver was.slots.driver) [])
      (cond (is_torn_in log s.number (In 0) CoDriver) (sitting_at CoDriver was.slots.codriver) []) (cond (is_torn_in later s.number (In 0) CoDriver) (sitting_at CoDriver was.slots.codriver) []) n le))

  pub part-torn : (c : Card) (slot : Slot) → part_torn c log slot ≤ part_torn c later slot
  part-torn c slot = count-part (λ (v : Visit). same_card v.card c) (sitting_at slot (in_slot was.slots slot)) (is_torn_in log s.number (In 0) slot) (is_torn_in later s.number (In 0) slot) (torn slot)

  no-fewer : (c : Card) → torn_times c (so_far was s (course_powered log was s)) ≤ torn_times c (so_far was s (course_powered later was s))
  no-fewer c =
      let driver : part_torn c log Driver ≤ part_torn c later Driver = part-torn c Driver in
      let codriver : part_torn c log CoDriver ≤ part_torn c later CoDriver = part-torn c CoDriver in
      let le : torn_times c (so_far was s (course_powered log was s)) + 0 ≤ torn_times c (so_far was s (course_powered later was s)) = torn-often c 0 (omega (arith, driver, codriver)) in
      omega (arith, le)

  pub follows-powered : (c : Card) → Follows c (so_far was s (course_powered log was s)) (so_far was s (course_powered later was s))
  follows-powered c =
      let a : IsPowered log was s (course_powered log was s) = powered-as log was s off in
      let b : IsPowered later was s (course_powered later was s) = powered-as later was s off in
      record {
        number = refl;
        speed = refl;
        starts = refl;
        entered = λ is. ap (list_any (λ (v : Visit). same_card v.card c)) (b.entered ∙ sym a.entered) ∙ is;
        torn = λ is. ap (list_any (λ (v : Visit). same_card v.card c)) b.torn
            ∙ any-then (λ (v : Visit). same_card v.card c) (sitting_at Driver was.slots.driver) (sitting_at CoDriver was.slots.codriver) (is_torn_in log s.number (In 0) Driver) (is_torn_in later s.number (In 0) Driver)
            (is_torn_in log s.number (In 0) CoDriver) (is_torn_in later s.number (In 0) CoDriver) (torn Driver) (torn CoDriver) (sym (ap (list_any (λ (v : Visit). same_card v.card c)) a.torn) ∙ is);
        often = no-fewer c;
      }

  pub found-anew : (slot : Slot) (verdicts : List Verdict) → IsFoundAnew log later s.number slot verdicts → (course_powered later was s).found ≡ (course_powered log was s).found ++ findings verdicts (sitting_at slot (in_slot was.slots slot))
  found-anew Driver verdicts is =
      (powered-as later was s off).found
      ∙ (λ i. findings (is.1 i) (sitting_at Driver was.slots.driver) ++ findings (is.2 i) (sitting_at CoDriver was.slots.codriver))
      ∙ ap (λ (fs : List Finding). findings verdicts (sitting_at Driver was.slots.driver) ++ fs) (no-findings (sitting_at CoDriver was.slots.codriver))
      ∙ append-nil (findings verdicts (sitting_at Driver was.slots.driver))
      ∙ ap (λ (fs : List Finding). fs ++ findings verdicts (sitting_at Driver was.slots.driver)) (sym nothing)
    where
      nothing : (course_powered log was s).found ≡ []
      nothing =
          (powered-as log was s off).found
          ∙ (λ i. findings (is.0 Driver i) (sitting_at Driver was.slots.driver) ++ findings (is.0 CoDriver i) (sitting_at CoDriver was.slots.codriver))
          ∙ (λ i. no-findings (sitting_at Driver was.slots.driver) i ++ no-findings (sitting_at CoDriver was.slots.codriver) i)
  found-anew CoDriver verdicts is =
      (powered-as later was s off).found
      ∙ (λ i. findings (is.0 i) (sitting_at Driver was.slots.driver) ++ findings (is.2 i) (sitting_at CoDriver was.slots.codriver))
      ∙ ap (λ (fs : List Finding). fs ++ findings verdicts (sitting_at CoDriver was.slots.codriver)) (sym before)
    where
      before : (course_powered log was s).found ≡ findings (found_in log s.number (In 0) Driver) (sitting_at Driver was.slots.driver)
      before =
          (powered-as log was s off).found
          ∙ (λ i. findings (found_in log s.number (In 0) Driver) (sitting_at Driver was.slots.driver) ++ findings (is.1 i) (sitting_at CoDriver was.slots.codriver))
          ∙ ap (λ (fs : List Finding). findings (found_in log s.number (In 0) Driver) (sitting_at Driver was.slots.driver) ++ fs) (no-findings (sitting_at CoDriver was.slots.codriver))
          ∙ append-nil (findings (found_in log s.number (In 0) Driver) (sitting_at Driver was.slots.driver))

  pub found-same : ((slot : Slot) → found_in later s.number (In 0) slot ≡ found_in log s.number (In 0) slot) → (course_powered later was s).found ≡ (course_powered log was s).found
  found-same same =
      (powered-as later was s off).found
      ∙ (λ i. findings (same Driver i) (sitting_at Driver was.slots.driver) ++ findings (same CoDriver i) (sitting_at CoDriver was.slots.codriver))
      ∙ sym (powered-as log was s off).found

  -- who sits in a slot enters
  pub sits-enters : (c : Card) (slot : Slot) (x : Sitting) → in_slot was.slots slot ≡ Some x → same_card x.card c ≡ true → enters c (so_far was s (course_powered later was s)) ≡ true
  sits-enters c slot x sits mine = ap (list_any (λ (v : Visit). same_card v.card c)) (powered-as later was s off).entered ∙ at slot sits
    where
      one : (sl : Slot) (rest : List Visit) (o : Option Sitting) → o ≡ Some x → list_any (λ (v : Visit). same_card v.card c) (sitting_at sl o ++ rest) ≡ true
      one sl rest o is = ap (λ (q : Option Sitting). list_any (λ (v : Visit). same_card v.card c) (sitting_at sl q ++ rest)) is ∙ ap (λ (b : Bool). b || list_any (λ (v : Visit). same_card v.card c) rest) mine

      or-true : (b : Bool) → (b || true) ≡ true
      or-true true = refl
      or-true false = refl

      behind : (front : Option Sitting) (o : Option Sitting) → o ≡ Some x → list_any (λ (v : Visit). same_card v.card c) (sitting_at Driver front ++ sitting_at CoDriver o) ≡ true
      behind None o is = ap (λ (q : Option Sitting). list_any (λ (v : Visit). same_card v.card c) (sitting_at CoDriver q)) is ∙ ap (λ (b : Bool). b || false) mine
      behind (Some y) o is =
          ap (λ (q : Option Sitting). same_card y.card c || list_any (λ (v : Visit). same_card v.card c) (sitting_at CoDriver q)) is ∙ ap (λ (b : Bool). same_card y.card c || (b || false)) mine ∙ or-true (same_card y.card c)

      at : (sl : Slot) → in_slot was.slots sl ≡ Some x → list_any (λ (v : Visit). same_card v.card c) (sitting_at Driver was.slots.driver ++ sitting_at CoDriver was.slots.codriver) ≡ true
      at Driver is = one Driver (sitting_at CoDriver was.slots.codriver) was.slots.driver is
      at CoDriver is = behind was.slots.driver was.slots.codriver is

-- ---- steps

module _ (o : Origin) (done : List TraceSecond) (s : TraceSecond) (began log later : RunLog) (d e : Devices) (off : (went began done).before.running ≡ false)
    (torn : (slot : Slot) → is_torn_in log s.number (In 0) slot ≡ true → is_torn_in later s.number (In 0) slot ≡ true) (keeps : KeepsFailed log later) (left : HaveLeftMore o d e) where
  abbrev was : Before
  was = (went began done).before

  abbrev x : Seen
  x = seen_behind began done s [] log

  abbrev y : Seen
  y = seen_behind began done s [] later

  -- the uses that were found, and then
  abbrev pub before_them : Card → List CurrentUse
  before_them c = uses_in o c (notes_now began done log s)

  abbrev pub behind_them : Card → List CurrentUse
  behind_them c = uses_in o c (notes_now began done later s)

  accepted-of : (c : Card) (fs : List Finding) → (course_powered later (went began done).before s).found ≡ (course_powered log (went began done).before s).found ++ fs
      → accepted_in c (seen_behind began done s [] later) ≡ accepted_in c (seen_behind began done s [] log) ++ flat_map (λ (f : Finding). cond (same_card f.0.card c && is_accepting f.1) (s.number ∷ []) []) fs
  accepted-of c fs found =
      ap (flat_map (λ (f : Finding). cond (same_card f.0.card c && is_accepting f.1) (s.number ∷ []) [])) found
      ∙ flat-append (λ (f : Finding). cond (same_card f.0.card c && is_accepting f.1) (s.number ∷ []) []) (course_powered log (went began done).before s).found fs

  -- NOTHING IS FOUND MORE
  pub waking-passed : CardsWaking o done s began log d → (course_powered later (went began done).before s).found ≡ (course_powered log (went began done).before s).found → ((c : Card) → FindsStill o c log later d e (uses_in o c (notes_now began done log s)) (uses_in o c (notes_now began done later s))) → StillShow o d e → CardsWaking o done s began later e
  waking-passed h found finds still c valid =
      goes-on o c log later (met_seconds began done) (met_so began done s [] log []) (met_so began done s [] later []) (before_them c) (behind_them c) d e (h c valid) (finds c) keeps (follows-powered log later (went began done).before s off torn c)
      (accepted-of c [] (found ∙ sym (append-nil (course_powered log (went began done).before s).found)) ∙ append-nil (accepted_in c (seen_behind began done s [] log))) refl (left.card c) (still c valid)

  -- THE CARD OF A SLOT IS JUDGED ANEW
  pub waking-judged : CardsWaking o done s began log d → (slot : Slot) (q : Sitting) → in_slot (went began done).before.slots slot ≡ Some q → (verdicts : List Verdict) → IsFoundAnew log later s.number slot verdicts
      → ((c : Card) → IsOwnValid (card_image o.recording c) → same_card q.card c ≡ false → StillShows (sizes_in o c) (card_of d c) (card_of e c))
      → ((c : Card) → same_card q.card c ≡ false → FindsStill o c log later d e (uses_in o c (notes_now began done log s)) (uses_in o c (notes_now began done later s)))
      → ((c : Card) → IsOwnValid (card_image o.recording c) → same_card q.card c ≡ true → enters c (seen_behind began done s [] later) ≡ true →
      (more : List CurrentUse) × FindsUses o c log later d e (uses_in o c (notes_now began done log s)) more (uses_in o c (notes_now began done later s))
      × AreUses (images_in o e c) more (accepts s.number verdicts)
      × (times : ℕ) × (torn_times c (seen_behind began done s [] log) + times ≤ torn_times c (seen_behind began done s [] later))
      × ComesTo (images_in o e c) (sizes_in o c) (λ kind. is_sure_in c kind later (seen_behind began done s [] later)) (judging c (vehicle_in o) s.number s.speed times (accepts s.number verdicts) more) (card_of d c) (card_of e c))
      → CardsWaking o done s began later e
  waking-judged h slot q sits verdicts found others uses_then mine c valid = by (same_card q.card c) refl
    where
      v : Visit
      v = record { phase = In 0; slot = slot; card = q.card }

      finds : (course_powered later (went began done).before s).found ≡ (course_powered log (went began done).before s).found ++ map (λ (w : Verdict). (record { phase = In 0; slot = slot; card = q.card }, w)) verdicts
      finds =
          found-anew log later (went began done).before s off torn slot verdicts found
          ∙ ap (λ (p : Option Sitting). (course_powered log (went began done).before s).found ++ findings verdicts (sitting_at slot p)) sits
          ∙ ap (λ (fs : List Finding). (course_powered log (went began done).before s).found ++ fs) (append-nil (map (λ (w : Verdict). (record { phase = In 0; slot = slot; card = q.card }, w)) verdicts))

      accepted : accepted_in c (seen_behind began done s [] later) ≡ accepted_in c (seen_behind began done s [] log)
          ++ flat_map (λ (f : Finding). cond (same_card f.0.card c && is_accepting f.1) (s.number ∷ []) []) (map (λ (w : Verdict). (record { phase = In 0; slot = slot; card = q.card }, w)) verdicts)
      accepted = accepted-of c (map (λ (w : Verdict). (record { phase = In 0; slot = slot; card = q.card }, w)) verdicts) finds

      by : (b : Bool) → same_card q.card c ≡ b → CardShown o c later (met_seconds began done ++ met_so began done s [] later [] ∷ []) (uses_in o c (notes_now began done later s)) e
      by false other =
          goes-on o c log later (met_seconds began done) (met_so began done s [] log []) (met_so began done s [] later []) (before_them c) (behind_them c) d e (h c valid) (uses_then c other) keeps (follows-powered log later (went began done).before s off torn c)
          (accepted ∙ ap (λ (us : List ℕ). accepted_in c (seen_behind began done s [] log) ++ us) (accepted-other c s.number (record { phase = In 0; slot = slot; card = q.card }) verdicts other) ∙ append-nil (accepted_in c (seen_behind began done s [] log)))
          refl (left.card c) (others c valid other)
      by true own =
          let got = mine c valid own (sits-enters log later (went began done).before s off torn c slot q sits own) in
          judged-on o c log later (met_seconds began done) (met_so began done s [] log []) (met_so began done s [] later []) (before_them c) (behind_them c) d e (h c valid) keeps (follows-powered log later (went began done).before s off torn c)
          (accepts s.number verdicts) got.3 (accepted ∙ ap (λ (us : List ℕ). accepted_in c (seen_behind began done s [] log) ++ us) (accepted-mine c s.number (record { phase = In 0; slot = slot; card = q.card }) verdicts own)) got.4 refl (left.card c) got.0 got.1 got.2 got.5

  -- THE INTERRUPTION IS NOTED
  pub gap-noted : CardsWaking o done s began log d → ((slot : Slot) → found_in later s.number (In 0) slot ≡ found_in log s.number (In 0) slot)
      → ((c : Card) → FindsStill o c log later d e (uses_in o c (notes_now began done log s)) (uses_in o c (notes_now began done later s)))
      → ((c : Card) → IsOwnValid (card_image o.recording c) →
      ComesTo (images_in o e c) (sizes_in o c) (λ kind. is_sure_in c kind later (seen_behind began done s [] later)) (interrupting s.number (gaps_on c (vehicle_in o) (gap_behind began done s [] later))) (card_of d c) (card_of e c))
      → CardsIn o done s began [] later e
  gap-noted h same finds notes c valid =
      card-goes o c log later (met_seconds began done) (met_so began done s [] log []) (met_so began done s [] later (gap_behind began done s [] later)) (before_them c) (behind_them c) d e [] []
      (interrupting s.number (gaps_on c (vehicle_in o) (gap_behind began done s [] later))) (h c valid) (still-finds o c log later d e (before_them c) (behind_them c) (finds c)) keeps goes refl (left.card c) tt (notes c valid)
    where
      accepted : accepted_in c (seen_behind began done s [] later) ≡ accepted_in c (seen_behind began done s [] log)
      accepted =
          accepted-of c [] (found-same log later (went began done).before s off torn same ∙ sym (append-nil (course_powered log (went began done).before s).found)) ∙ append-nil (accepted_in c (seen_behind began done s [] log))

      goes : GoesOn c (vehicle_in o) (met_so began done s [] log []) (met_so began done s [] later (gap_behind began done s [] later)) [] (interrupting s.number (gaps_on c (vehicle_in o) (gap_behind began done s [] later)))
      goes =
          let follows : Follows c (seen_behind began done s [] log) (seen_behind began done s [] later) = follows-powered log later (went began done).before s off torn c in
          record {
            follows = follows;
            accepted = accepted ∙ sym (append-nil (accepted_in c (seen_behind began done s [] log)));
            second = refl;
            attempts = let many : length (accepted_in c (seen_behind began done s [] later)) ≡ length (accepted_in c (seen_behind began done s [] log)) = ap length accepted in
                let often : torn_times c (seen_behind began done s [] log) ≤ torn_times c (seen_behind began done s [] later) = follows.often in omega (arith, many, often);
            gaps = refl;
            moved = moved-same c (vehicle_in o) (seen_behind began done s [] log) (seen_behind began done s [] later) refl accepted ∙ sym (append-nil (moved_in c (vehicle_in o) (seen_behind began done s [] log)));
          }
