-- What a card shows of its events within a second, action by action, and as it ends.
use Rattle.std.proofs.Common.{◌≡◌, ◌∙◌, ◌⊎◌, ℕ, ◌+◌, ◌≤◌, Bool, true, false, cond, not, ◌||◌, Some, None, nat_eq, List, [], ◌∷◌, ◌++◌, map, length, refl, sym, ap, subst, arith, append_assoc, append-nil, length-append}
use Rattle.std.specs.Prelude.{◌&&◌, filter, flat_map, nat_lt}
use Rattle.std.specs.List.{list_any, AllByRecursion}
use Rattle.std.proofs.lemmas.Bool.Decides.{nat_tests}
use Rattle.std.proofs.lemmas.List.Elements.{filter-append}
use Rattle.activity_codec.specs.declared.values.Slot.{Slot}
use Rattle.activity_codec.specs.Activity.{same_slot}
use Rattle.trace_model.specs.declared.Card.{Card}
use Rattle.trace_model.specs.declared.Action.{Action}
use Rattle.trace_model.specs.declared.Action.TheVariants.{Insert}
use Rattle.trace_model.specs.Trace.{TraceSecond}
use Rattle.tacho_types.specs.declared.texts.Registration.{Registration}
use Rattle.card_files.specs.declared.card_event.CardEvent.{CardEvent}
use Rattle.card_files.specs.declared.current_use.CurrentUse.{CurrentUse}
use Rattle.hand_model.specs.card_image.Own.{IsOwnValid}
use Rattle.log_model.specs.declared.lines.SlotFault.{SlotFault}
use Rattle.log_model.specs.declared.lines.Verdict.{Verdict}
use Rattle.log_model.specs.Log.{RunLog, Phase, In, same_phase, cut_in, found_in, kept_after, is_accepting}
use Rattle.log_model.specs.Slots.{refusal, same_card}
use Rattle.log_model.specs.Course.{Course, Visit, Before, begins, went}
use Rattle.unit_notes.specs.event_model.Events.{Seen, number_of, seen_of, seen_spans, torn_at, accepted_at, first_card, standing}
use Rattle.device_calls.specs.safety_model.Recording.{card_image}
use Rattle.device_calls.specs.safety_model.Safe.{Devices, card_of}
use Rattle.run_events.specs.Seconds.{gap_by}
use Rattle.run_note_record.specs.Evented.{images_in}
use Rattle.run_note_record.specs.Uses.{notes_now, uses_in}
use Rattle.run_note_record.proofs.Bringing.{before-as}
use Rattle.run_events.specs.run_rings.Notes.{TellSameTo, course_behind}
use Rattle.run_minutes.specs.run_promise.Origin.{Origin}
use Rattle.run_minutes.specs.run_promise.Beside.{HaveLeftMore}
use Rattle.run_acts.specs.OnCards.{MetSecond, as_accepted, accepted_in, accepts, moving_at, movings, moved_in, gaps_on, enters, is_sure_in, torn_times, met_seconds, judging, ComesTo, StillShows, AreUses}
use Rattle.run_acts.specs.RunCards.{vehicle_in, sizes_in, CardShown, so_far, seen_behind, gap_behind, met_so, CardsIn, StillShow}
use Rattle.run_acts.proofs.CardCourse.{Finding, IsQuiet, IsPutIn, acted-quiet, acted-puts, behind-more, behind-same, PutsNone}
use Rattle.run_acts.proofs.CardShown.{FindsUses, FindsStill, KeepsFailed, Follows, GoesOn, card-goes, goes-on}

-- ---- lists

pub any-more : {X : Type 0} (p : X → Bool) (xs ys : List X) → list_any p xs ≡ true → list_any p (xs ++ ys) ≡ true
any-more p [] ys is = absurd (let wrong : false ≡ true = is in cc)
any-more p (x ∷ xs) ys is = by (p x) is (any-more p xs ys)
  where
    by : (b : Bool) → (b || list_any p xs) ≡ true → (list_any p xs ≡ true → list_any p (xs ++ ys) ≡ true) → (b || list_any p (xs ++ ys)) ≡ true
    by true has rest = refl
    by false has rest = rest has

pub any-last : {X : Type 0} (p : X → Bool) (xs : List X) (x : X) → p x ≡ true → list_any p (xs ++ x ∷ []) ≡ true
any-last p [] x is = ap (λ (b : Bool). b || false) is
any-last p (y ∷ xs) x is = ap (λ (b : Bool). p y || b) (any-last p xs x is) ∙ by (p y)
  where
    by : (b : Bool) → (b || true) ≡ true
    by true = refl
    by false = refl

pub count-more : (q : Visit → Bool) (xs ys : List Visit) → length (filter q xs) ≤ length (filter q (xs ++ ys))
count-more q xs ys =
    let both : length (filter q (xs ++ ys)) ≡ length (filter q xs) + length (filter q ys) = ap length (filter-append q xs ys) ∙ length-append (filter q xs) (filter q ys) in
    omega (arith, both)

-- ---- the interruption of a second

pub standing-is : (x : Seen) (slot : Slot) → standing as_accepted x slot ≡ accepted_at x (In 0) slot
standing-is x slot = by (torn_at x (In 0) slot)
  where
    by : (b : Bool) → cond (b && not true) None (accepted_at x (In 0) slot) ≡ accepted_at x (In 0) slot
    by true = refl
    by false = refl

pub gap-alike : (log later : RunLog) (spans : List (List Seen)) (x y : Seen) → ((u : ℕ) → kept_after later u ≡ kept_after log u) → y.told.lit ≡ x.told.lit → y.told.starts ≡ x.told.starts → number_of y ≡ number_of x
    → ((slot : Slot) → accepted_at y (In 0) slot ≡ accepted_at x (In 0) slot) → gap_by as_accepted later spans y ≡ gap_by as_accepted log spans x
gap-alike log later spans x y kept lit starts number accepted = λ i.
    cond (lit i) (cond (starts i) (before-as as_accepted as_accepted log later x y kept number (λ slot. standing-is y slot ∙ accepted slot ∙ sym (standing-is x slot)) spans i) []) []

-- what was found at another moment
abbrev pub is_now : Slot → Finding → Bool
is_now slot f = same_phase f.0.phase (In 0) && (same_slot f.0.slot slot && is_accepting f.1)

others-out : (slot : Slot) (fs : List Finding) → AllByRecursion (λ (f : Finding). same_phase f.0.phase (In 0) ≡ false) fs → filter (is_now slot) fs ≡ []
others-out slot [] h = refl
others-out slot (f ∷ fs) h = ap (λ (b : Bool). cond (b && (same_slot f.0.slot slot && is_accepting f.1)) (f ∷ filter (is_now slot) fs) (filter (is_now slot) fs)) h.0 ∙ others-out slot fs h.1

pub accepted-others : (slot : Slot) (found more : List Finding) → AllByRecursion (λ (f : Finding). same_phase f.0.phase (In 0) ≡ false) more → first_card (filter (is_now slot) (found ++ more)) ≡ first_card (filter (is_now slot) found)
accepted-others slot found more h = ap first_card (filter-append (is_now slot) found more ∙ ap (λ (fs : List Finding). filter (is_now slot) found ++ fs) (others-out slot more h) ∙ append-nil (filter (is_now slot) found))

pub later-findings : (v : Visit) (n : ℕ) (verdicts : List Verdict) → v.phase ≡ In (n + 1) → AllByRecursion (λ (f : Finding). same_phase f.0.phase (In 0) ≡ false) (map (λ (w : Verdict). (v, w)) verdicts)
later-findings v n [] is = tt
later-findings v n (w ∷ verdicts) is = (ap (λ (p : Phase). same_phase p (In 0)) is ∙ (let off : nat_eq (n + 1) 0 ≡ false = grind (arith, nat_tests) in off), later-findings v n verdicts is)

-- ---- what a second so far shows of a card

module _ (was : Before) (s : TraceSecond) where
  pub follows-quiet : (c : Card) (k l : Course) → IsQuiet k l → Follows c (so_far was s k) (so_far was s l)
  follows-quiet c k l q = record {
    number = refl;
    speed = refl;
    starts = refl;
    entered = λ is. ap (list_any (λ (v : Visit). same_card v.card c)) q.entered ∙ is;
    torn = λ is. ap (list_any (λ (v : Visit). same_card v.card c)) q.torn ∙ any-more (λ (v : Visit). same_card v.card c) k.torn q.more is;
    often = subst (λ (vs : List Visit). length (filter (λ (v : Visit). same_card v.card c) k.torn) ≤ length (filter (λ (v : Visit). same_card v.card c) vs)) (sym q.torn) (count-more (λ (v : Visit). same_card v.card c) k.torn q.more);
  }

  pub accepted-quiet : (c : Card) (k l : Course) → IsQuiet k l → accepted_in c (so_far was s l) ≡ accepted_in c (so_far was s k)
  accepted-quiet c k l q = ap (flat_map (λ (f : Finding). cond (same_card f.0.card c && is_accepting f.1) (s.number ∷ []) [])) q.found

  pub gap-quiet : (log : RunLog) (spans : List (List Seen)) (k l : Course) → IsQuiet k l → gap_by as_accepted log spans (so_far was s l) ≡ gap_by as_accepted log spans (so_far was s k)
  gap-quiet log spans k l q = gap-alike log log spans (so_far was s k) (so_far was s l) (λ u. refl) refl refl refl (λ slot. ap (λ (fs : List Finding). first_card (filter (is_now slot) fs)) q.found)

  -- a card is put in, and judged
  pub follows-put : (c : Card) (v : Visit) (verdicts : List Verdict) (k l : Course) → IsPutIn v verdicts k l → Follows c (so_far was s k) (so_far was s l)
  follows-put c v verdicts k l q = record {
    number = refl;
    speed = refl;
    starts = refl;
    entered = λ is. ap (list_any (λ (v : Visit). same_card v.card c)) q.entered ∙ any-more (λ (v : Visit). same_card v.card c) k.entered (v ∷ []) is;
    torn = λ is. ap (list_any (λ (v : Visit). same_card v.card c)) q.torn ∙ any-more (λ (v : Visit). same_card v.card c) k.torn q.more is;
    often = subst (λ (vs : List Visit). length (filter (λ (v : Visit). same_card v.card c) k.torn) ≤ length (filter (λ (v : Visit). same_card v.card c) vs)) (sym q.torn) (count-more (λ (v : Visit). same_card v.card c) k.torn q.more);
  }

  pub enters-put : (c : Card) (v : Visit) (verdicts : List Verdict) (k l : Course) → IsPutIn v verdicts k l → same_card v.card c ≡ true → enters c (so_far was s l) ≡ true
  enters-put c v verdicts k l q mine = ap (list_any (λ (v : Visit). same_card v.card c)) q.entered ∙ any-last (λ (v : Visit). same_card v.card c) k.entered v mine

  pub gap-put : (log : RunLog) (spans : List (List Seen)) (v : Visit) (n : ℕ) (verdicts : List Verdict) (k l : Course) → v.phase ≡ In (n + 1) → IsPutIn v verdicts k l → gap_by as_accepted log spans (so_far was s l) ≡ gap_by as_accepted log spans (so_far was s k)
  gap-put log spans v n verdicts k l is q =
      gap-alike log log spans (so_far was s k) (so_far was s l) (λ u. refl) refl refl refl
      (λ slot. ap (λ (fs : List Finding). first_card (filter (is_now slot) fs)) q.found ∙ accepted-others slot k.found (map (λ (w : Verdict). (v, w)) verdicts) (later-findings v n verdicts is))

-- the seconds of these acceptances, and none of another card
pub accepted-mine : (c : Card) (u : ℕ) (v : Visit) (verdicts : List Verdict) → same_card v.card c ≡ true → flat_map (λ (f : Finding). cond (same_card f.0.card c && is_accepting f.1) (u ∷ []) []) (map (λ (w : Verdict). (v, w)) verdicts) ≡ accepts u verdicts
accepted-mine c u v [] mine = refl
accepted-mine c u v (w ∷ verdicts) mine = (λ i. cond (mine i && is_accepting w) (u ∷ []) [] ++ accepted-mine c u v verdicts mine i)

pub accepted-other : (c : Card) (u : ℕ) (v : Visit) (verdicts : List Verdict) → same_card v.card c ≡ false → flat_map (λ (f : Finding). cond (same_card f.0.card c && is_accepting f.1) (u ∷ []) []) (map (λ (w : Verdict). (v, w)) verdicts) ≡ []
accepted-other c u v [] other = refl
accepted-other c u v (w ∷ verdicts) other = (λ i. cond (other i && is_accepting w) (u ∷ []) [] ++ accepted-other c u v verdicts other i)

pub flat-append : {X Y : Type 0} (h : X → List Y) (xs ys : List X) → flat_map h (xs ++ ys) ≡ flat_map h xs ++ flat_map h ys
flat-append h [] ys = refl
flat-append h (x ∷ xs) ys = (λ i. h x ++ flat-append h xs ys i) ∙ sym (append_assoc (h x) (flat_map h xs) (flat_map h ys))

-- those of a moving vehicle
movings-append : (c : Card) (own : Registration) (speed : ℕ) (us vs : List ℕ) → movings c own speed (us ++ vs) ≡ movings c own speed us ++ movings c own speed vs
movings-append c own speed us vs = by (nat_lt 0 speed) us
  where
    both : (xs : List ℕ) → map (moving_at c own) (xs ++ vs) ≡ map (moving_at c own) xs ++ map (moving_at c own) vs
    both [] = refl
    both (x ∷ xs) = ap (λ (l : List CardEvent). moving_at c own x ∷ l) (both xs)

    by : (b : Bool) (xs : List ℕ) → cond b (map (moving_at c own) (xs ++ vs)) [] ≡ cond b (map (moving_at c own) xs) [] ++ cond b (map (moving_at c own) vs) []
    by true xs = both xs
    by false xs = refl

-- THE SECOND GOES ON, and this is found of the card
pub judged-on : (o : Origin) (c : Card) (log later : RunLog) (front : List MetSecond) (m n : MetSecond) (was found : List CurrentUse) (d e : Devices) → CardShown o c log (front ++ m ∷ []) was d → KeepsFailed log later → Follows c m.seen n.seen
    → (us : List ℕ) (times : ℕ) → accepted_in c n.seen ≡ accepted_in c m.seen ++ us → torn_times c m.seen + times ≤ torn_times c n.seen → gaps_on c (vehicle_in o) n.gap ≡ gaps_on c (vehicle_in o) m.gap → ((z : List ℕ) → images_in o d c z → images_in o e c z)
    → (more : List CurrentUse) → FindsUses o c log later d e was more found → AreUses (images_in o e c) more us
    → ComesTo (images_in o e c) (sizes_in o c) (λ kind. is_sure_in c kind later n.seen) (judging c (vehicle_in o) (number_of n.seen) n.seen.told.second.speed times us more) (card_of d c) (card_of e c)
    → CardShown o c later (front ++ n ∷ []) found e
judged-on o c log later front m n was found d e h keeps f us times accepted often gap left more finds are comes =
    card-goes o c log later front m n was found d e us more (judging c (vehicle_in o) (number_of n.seen) n.seen.told.second.speed times us more) h finds keeps goes refl left are comes
  where
    moved : moved_in c (vehicle_in o) n.seen ≡ moved_in c (vehicle_in o) m.seen ++ movings c (vehicle_in o) n.seen.told.second.speed us
    moved =
        ap (λ (ns : List ℕ). movings c (vehicle_in o) n.seen.told.second.speed ns) accepted ∙ movings-append c (vehicle_in o) n.seen.told.second.speed (accepted_in c m.seen) us
        ∙ ap (λ (v : ℕ). movings c (vehicle_in o) v (accepted_in c m.seen) ++ movings c (vehicle_in o) n.seen.told.second.speed us) f.speed

    goes : GoesOn c (vehicle_in o) m n us (judging c (vehicle_in o) (number_of n.seen) n.seen.told.second.speed times us more)
    goes = record {
      follows = f;
      accepted = accepted;
      second = refl;
      attempts = let long : length (accepted_in c n.seen) ≡ length (accepted_in c m.seen) + length us = ap length accepted ∙ length-append (accepted_in c m.seen) us in omega (arith, long, often);
      gaps = gap ∙ sym (append-nil (gaps_on c (vehicle_in o) m.gap));
      moved = moved;
    }

-- ---- action by action

module _ (o : Origin) (done : List TraceSecond) (s : TraceSecond) (began : RunLog) where
  abbrev was : Before
  was = (went began done).before

  abbrev spans : List (List Seen)
  spans = seen_spans (seen_of began done)

  -- AN ACTION of which nothing is found, or lines alone
  pub quiet-shown : (front back : List Action) (log later : RunLog) (d e : Devices) → CardsIn o done s began front log d → ((c : Card) → FindsStill o c log later d e (uses_in o c (notes_now began done log s)) (uses_in o c (notes_now began done later s))) → KeepsFailed log later → IsQuiet (course_behind log (went began done).before s front) (course_behind later (went began done).before s back)
      → HaveLeftMore o d e → StillShow o d e → CardsIn o done s began back later e
  quiet-shown front back log later d e h finds keeps q left still c valid =
      goes-on o c log later (met_seconds began done) (met_so began done s front log (gap_behind began done s front log)) (met_so began done s back later (gap_behind began done s back later))
      (uses_in o c (notes_now began done log s)) (uses_in o c (notes_now began done later s)) d e
      (h c valid) (finds c) keeps (follows-quiet was s c (course_behind log was s front) (course_behind later was s back) q) (accepted-quiet was s c (course_behind log was s front) (course_behind later was s back) q)
      (ap (gaps_on c (vehicle_in o)) (gap-quiet was s began spans (course_behind log was s front) (course_behind later was s back) q))
      (left.card c) (still c valid)

  -- one action more, by the course behind those before it
  pub quiet-action : (front : List Action) (a : Action) (log later : RunLog) → TellSameTo log later s.number (length front)
      → (begins (cut_in later s.number) (length front) ≡ false) ⊎ (((f : SlotFault) × (refusal (course_behind later (went began done).before s front).slots s.speed a ≡ Some f)) ⊎ PutsNone a)
      → IsQuiet (course_behind log (went began done).before s front) (course_behind later (went began done).before s (front ++ a ∷ []))
  quiet-action front a log later same none =
      subst (λ (k : Course). IsQuiet k (course_behind later was s (front ++ a ∷ []))) (behind-same log later s was front same)
      (subst (λ (k : Course). IsQuiet (course_behind later was s front) k) (sym (behind-more later was s front a)) (acted-quiet later s (length front) a (course_behind later was s front) none))

  -- A CARD IS PUT IN: what is found of it
  pub put-shown : (front : List Action) (slot : Slot) (card : Card) (log later : RunLog) (d e : Devices) → CardsIn o done s began front log d → KeepsFailed log later → TellSameTo log later s.number (length front) → begins (cut_in later s.number) (length front) ≡ true
      → refusal (course_behind later (went began done).before s front).slots s.speed (Insert slot card) ≡ None → HaveLeftMore o d e
      → ((c : Card) → IsOwnValid (card_image o.recording c) → same_card card c ≡ false → StillShows (sizes_in o c) (card_of d c) (card_of e c))
      → ((c : Card) → same_card card c ≡ false → FindsStill o c log later d e (uses_in o c (notes_now began done log s)) (uses_in o c (notes_now began done later s)))
      → ((c : Card) → IsOwnValid (card_image o.recording c) → same_card card c ≡ true → enters c (seen_behind began done s (front ++ Insert slot card ∷ []) later) ≡ true
      → torn_times c (seen_behind began done s front log) ≤ torn_times c (seen_behind began done s (front ++ Insert slot card ∷ []) later) →
      (more : List CurrentUse) × FindsUses o c log later d e (uses_in o c (notes_now began done log s)) more (uses_in o c (notes_now began done later s))
      × AreUses (images_in o e c) more (accepts s.number (found_in later s.number (In (length front + 1)) slot))
      × (times : ℕ) × (torn_times c (seen_behind began done s front log) + times ≤ torn_times c (seen_behind began done s (front ++ Insert slot card ∷ []) later))
      × ComesTo (images_in o e c) (sizes_in o c) (λ kind. is_sure_in c kind later (seen_behind began done s (front ++ Insert slot card ∷ []) later))
      (judging c (vehicle_in o) s.number s.speed times (accepts s.number (found_in later s.number (In (length front + 1)) slot)) more) (card_of d c) (card_of e c))
      → CardsIn o done s began (front ++ Insert slot card ∷ []) later e
  put-shown front slot card log later d e h keeps same begun allowed left others finds mine c valid = by (same_card card c) refl
    where
      v : Visit
      v = record { phase = In (length front + 1); slot = slot; card = card }

      verdicts : List Verdict
      verdicts = found_in later s.number (In (length front + 1)) slot

      k : Course
      k = course_behind log was s front

      l : Course
      l = course_behind later was s (front ++ Insert slot card ∷ [])

      put : IsPutIn (record { phase = In (length front + 1); slot = slot; card = card }) (found_in later s.number (In (length front + 1)) slot) (course_behind log was s front) (course_behind later was s (front ++ Insert slot card ∷ []))
      put =
          subst (λ (q : Course). IsPutIn (record { phase = In (length front + 1); slot = slot; card = card }) (found_in later s.number (In (length front + 1)) slot) q (course_behind later was s (front ++ Insert slot card ∷ []))) (behind-same log later s was front same)
          (subst (λ (q : Course). IsPutIn (record { phase = In (length front + 1); slot = slot; card = card }) (found_in later s.number (In (length front + 1)) slot) (course_behind later was s front) q) (sym (behind-more later was s front (Insert slot card)))
          (acted-puts later s (length front) slot card (course_behind later was s front) begun allowed))

      follows : Follows c (seen_behind began done s front log) (seen_behind began done s (front ++ Insert slot card ∷ []) later)
      follows = follows-put was s c (record { phase = In (length front + 1); slot = slot; card = card }) (found_in later s.number (In (length front + 1)) slot) (course_behind log was s front) (course_behind later was s (front ++ Insert slot card ∷ [])) put

      gap : gaps_on c (vehicle_in o) (gap_behind began done s (front ++ Insert slot card ∷ []) later) ≡ gaps_on c (vehicle_in o) (gap_behind began done s front log)
      gap = ap (gaps_on c (vehicle_in o))
          (gap-put was s began spans (record { phase = In (length front + 1); slot = slot; card = card }) (length front) (found_in later s.number (In (length front + 1)) slot) (course_behind log was s front) (course_behind later was s (front ++ Insert slot card ∷ [])) refl put)

      found : accepted_in c (seen_behind began done s (front ++ Insert slot card ∷ []) later)
          ≡ accepted_in c (seen_behind began done s front log) ++ flat_map (λ (f : Finding). cond (same_card f.0.card c && is_accepting f.1) (s.number ∷ []) []) (map (λ (w : Verdict). (record { phase = In (length front + 1); slot = slot; card = card }, w)) (found_in later s.number (In (length front + 1)) slot))
      found =
          ap (flat_map (λ (f : Finding). cond (same_card f.0.card c && is_accepting f.1) (s.number ∷ []) [])) put.found
          ∙ flat-append (λ (f : Finding). cond (same_card f.0.card c && is_accepting f.1) (s.number ∷ []) []) (course_behind log was s front).found (map (λ (w : Verdict). (record { phase = In (length front + 1); slot = slot; card = card }, w)) (found_in later s.number (In (length front + 1)) slot))

      by : (b : Bool) → same_card card c ≡ b →
          CardShown o c later (met_seconds began done ++ met_so began done s (front ++ Insert slot card ∷ []) later (gap_behind began done s (front ++ Insert slot card ∷ []) later) ∷ []) (uses_in o c (notes_now began done later s)) e
      by false other =
          goes-on o c log later (met_seconds began done) (met_so began done s front log (gap_behind began done s front log))
          (met_so began done s (front ++ Insert slot card ∷ []) later (gap_behind began done s (front ++ Insert slot card ∷ []) later)) (uses_in o c (notes_now began done log s)) (uses_in o c (notes_now began done later s)) d e (h c valid) (finds c other) keeps follows
          (found ∙ ap (λ (us : List ℕ). accepted_in c (seen_behind began done s front log) ++ us) (accepted-other c s.number (record { phase = In (length front + 1); slot = slot; card = card }) (found_in later s.number (In (length front + 1)) slot) other)
          ∙ append-nil (accepted_in c (seen_behind began done s front log)))
          gap (left.card c) (others c valid other)
      by true own =
          let enters_ = enters-put was s c (record { phase = In (length front + 1); slot = slot; card = card }) (found_in later s.number (In (length front + 1)) slot) (course_behind log was s front) (course_behind later was s (front ++ Insert slot card ∷ [])) put own in
          let got = mine c valid own enters_ follows.often in
          judged-on o c log later (met_seconds began done) (met_so began done s front log (gap_behind began done s front log))
          (met_so began done s (front ++ Insert slot card ∷ []) later (gap_behind began done s (front ++ Insert slot card ∷ []) later)) (uses_in o c (notes_now began done log s)) (uses_in o c (notes_now began done later s)) d e (h c valid) keeps follows
          (accepts s.number (found_in later s.number (In (length front + 1)) slot)) got.3
          (found ∙ ap (λ (us : List ℕ). accepted_in c (seen_behind began done s front log) ++ us) (accepted-mine c s.number (record { phase = In (length front + 1); slot = slot; card = card }) (found_in later s.number (In (length front + 1)) slot) own))
          got.4 gap (left.card c) got.0 got.1 got.2 got.5
