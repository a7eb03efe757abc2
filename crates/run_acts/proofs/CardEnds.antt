-- What a card shows of its events as a second begins and ends.
use Rattle.std.proofs.Common.{◌≡◌, ◌∙◌, ◌⊎◌, inl, inr, ℕ, ◌+◌, ◌<◌, ◌≤◌, Bool, true, false, cond, not, Option, Some, is_some, List, [], ◌∷◌, ◌++◌, length, refl, sym, ap, subst, arith, append-nil}
use Rattle.std.specs.Prelude.{◌&&◌, filter, flat_map, nat_lt}
use Rattle.std.specs.List.{list_any, AllByRecursion}
use Rattle.std.proofs.lemmas.Bool.Decides.{nat_tests}
use Rattle.activity_codec.specs.declared.values.Slot.{Slot}
use Rattle.activity_codec.specs.declared.values.Slot.TheVariants.{Driver, CoDriver}
use Rattle.trace_model.specs.declared.Card.{Card}
use Rattle.trace_model.specs.declared.Action.{Action}
use Rattle.trace_model.specs.Trace.{TraceSecond}
use Rattle.log_model.specs.declared.lines.Break.{Break}
use Rattle.log_model.specs.Causes.{second_of}
use Rattle.log_model.specs.Log.{RunLog, In, Keeping, cut_in, found_in, kept_after, is_accepting}
use Rattle.log_model.specs.Slots.{same_card}
use Rattle.log_model.specs.Course.{Course, Visit, Before, ToldSecond, Went, begins, both_told, unmoved, fresh, all_acted, cut_told, lit_course, second_told, has_power, went}
use Rattle.unit_notes.specs.event_model.Events.{Event, Seen, number_of, seen_of, seen_spans, last_number, first_card}
use Rattle.unit_notes.specs.note_model.Done.{course_powered, done_by}
use Rattle.unit_notes.specs.note_model.Noted.{Note, noted_in}
use Rattle.device_calls.specs.safety_model.Safe.{Devices}
use Rattle.run_events.proofs.run_course.Told.{lit-told, dark-told}
use Rattle.run_events.specs.Seconds.{gap_by, gap_before, seen_next}
use Rattle.run_events.specs.Choice.{AreEarlier}
use Rattle.run_events.proofs.Later.{told-number, seen-same}
use Rattle.run_note_record.proofs.Brought.{lit-course, told-speed}
use Rattle.run_events.specs.run_rings.Notes.{notes_to, TellSameTo, course_behind, sits_accepted}
use Rattle.run_events.proofs.run_rings.Actions.{power-notes}
use Rattle.run_minutes.specs.run_promise.Origin.{Origin}
use Rattle.run_minutes.specs.run_promise.Beside.{HaveLeftMore}
use Rattle.run_note_record.specs.Uses.{notes_in, noted_next, notes_now, uses_in}
use Rattle.run_note_record.proofs.Noted.{second-notes}
use Rattle.run_note_record.proofs.Exact.{next-notes, idle-notes, dark-notes}
use Rattle.run_note_record.specs.RingsSoFar.{GoesBehind}
use Rattle.run_note_record.proofs.SoFar.{failed-more}
use Rattle.run_acts.specs.OnCards.{MetSecond, as_accepted, accepted_in, gaps_on, met_behind, met_seconds, met_next}
use Rattle.run_acts.specs.RunCards.{vehicle_in, CardShown, CardsBehind, seen_behind, gap_behind, met_so, CardsIn, CardsWaking, StillShow}
use Rattle.run_acts.proofs.CardSeconds.{met-more}
use Rattle.run_acts.proofs.CardCourse.{Finding, findings, IsQuiet, quiet-same, quiet-then, both-quiet, behind-same, cut-quiet, acted-append, powered-quiet, powered-as, sitting_at}
use Rattle.run_acts.proofs.AllStay.{stood-self, known-fewer}
use Rattle.run_acts.proofs.CardShown.{FindsStill, KeepsFailed, Follows, goes-on, card-next}
use Rattle.run_note_record.proofs.UsesSoFar.{FoundTo, uses-to}
use Rattle.run_acts.proofs.CardUses.{none-sits}
use Rattle.run_acts.proofs.CardSecond.{is_now, any-more, count-more, standing-is}
use Rattle.run_acts.proofs.CardGaps.{kept-before, before-same, low-spans, met-same}

-- ---- nothing is found

pub no-findings : (vs : List Visit) → findings [] vs ≡ []
no-findings [] = refl
no-findings (v ∷ vs) = no-findings vs

plain-found : (c : Card) (x : Seen) → x.told.course.found ≡ [] → accepted_in c x ≡ []
plain-found c x none = ap (flat_map (λ (f : Finding). cond (same_card f.0.card c && is_accepting f.1) (number_of x ∷ []) [])) none

gap-off : (log : RunLog) (spans : List (List Seen)) (x : Seen) → (x.told.lit ≡ false) ⊎ (x.told.starts ≡ false) → gap_by as_accepted log spans x ≡ []
gap-off log spans x (inl off) = ap (λ (b : Bool). cond b (cond x.told.starts (gap_before as_accepted log spans x) []) []) off
gap-off log spans x (inr goes) = ap (λ (b : Bool). cond x.told.lit (cond b (gap_before as_accepted log spans x) []) []) goes ∙ same x.told.lit
  where
    same : (b : Bool) → cond {A = List Event} b [] [] ≡ []
    same true = refl
    same false = refl

-- ---- A SECOND BEGINS

module _ (o : Origin) (done : List TraceSecond) (s : TraceSecond) (log : RunLog) (d : Devices) where
  abbrev was : Before
  was = (went log done).before

  -- no log tells of a find in it yet, so it finds no use
  begins-still : has_power (went log done).before s ≡ true → FoundTo log s.number 0 → notes_to log (went log done).before s [] ≡ [] → (c : Card) → FindsStill o c log log d d (uses_in o c (notes_in log done)) (uses_in o c (notes_now log done log s))
  begins-still power told none c whose in_ known = (
    known,
    uses-to o log done s power c log [] s.actions refl told ∙ ap (λ (l : List Note). uses_in o c (notes_in log done ++ l)) none ∙ ap (uses_in o c) (append-nil (notes_in log done)),
  )

  -- in a span that goes on
  pub second-begins : CardsBehind o done log d → (went log done).before.running ≡ true → has_power (went log done).before s ≡ true → FoundTo log s.number 0 → CardsIn o done s log [] log d
  second-begins h on power told c valid =
      card-next o c log log (met_seconds log done) (met_so log done s [] log (gap_behind log done s [] log))
      (uses_in o c (notes_in log done)) (uses_in o c (notes_now log done log s)) d (h c valid) (begins-still power told ((power-notes log was s).1 on) c) (λ u is. is)
      (plain-found c (seen_behind log done s [] log) (powered-quiet log was s on).found)
      (ap (gaps_on c (vehicle_in o)) (gap-off log (seen_spans (seen_of log done)) (seen_behind log done s [] log) (inr (ap not on))))

  -- power begins with it, and no card was looked at yet
  pub waking-begins : CardsBehind o done log d → (went log done).before.running ≡ false → ((slot : Slot) → found_in log s.number (In 0) slot ≡ []) → has_power (went log done).before s ≡ true → FoundTo log s.number 0 → CardsWaking o done s log log d
  waking-begins h off none power told c valid =
      card-next o c log log (met_seconds log done) (met_so log done s [] log [])
      (uses_in o c (notes_in log done)) (uses_in o c (notes_now log done log s)) d (h c valid) (begins-still power told nothing c) (λ u is. is)
      (plain-found c (seen_behind log done s [] log) found) refl
    where
      nothing : notes_to log (went log done).before s [] ≡ []
      nothing =
          (power-notes log (went log done).before s).0 off
          ∙ (λ i. sits_accepted s.number Driver (went log done).before.slots.driver (none Driver i) ++ sits_accepted s.number CoDriver (went log done).before.slots.codriver (none CoDriver i))
          ∙ (λ i. none-sits s.number Driver (went log done).before.slots.driver i ++ none-sits s.number CoDriver (went log done).before.slots.codriver i)

      found : (course_powered log was s).found ≡ []
      found =
          (powered-as log was s off).found
          ∙ (λ i. findings (none Driver i) (sitting_at Driver was.slots.driver) ++ findings (none CoDriver i) (sitting_at CoDriver was.slots.codriver))
          ∙ (λ i. no-findings (sitting_at Driver was.slots.driver) i ++ no-findings (sitting_at CoDriver was.slots.codriver) i)

-- ---- A SECOND ENDS

cut-none_ : (b : Bool) (k : Course) → IsQuiet k (cut_told b k)
cut-none_ false k = quiet-same k k refl refl refl
cut-none_ true k = quiet-same k (cut_told true k) refl refl refl

-- its lines came since it began, and those of before are of earlier seconds
pub record IsLater (began later : RunLog) (done : List TraceSecond) (n : ℕ) : Type 0 where
  pub behind : GoesBehind began later done
  pub more : List Break
  pub breaks : later.breaks ≡ began.breaks ++ more
  pub here : AllByRecursion (λ (b : Break). second_of b ≡ n) more
  pub early : AreEarlier n (seen_of began done)
  pub some : 0 < n

module _ (o : Origin) (done : List TraceSecond) (s : TraceSecond) (began later : RunLog) (l : IsLater began later done s.number) (power : has_power (went began done).before s ≡ true) where
  abbrev x : Seen
  x = seen_next later done s

  told-is : second_told later (went later done).before s ≡ second_told later (went began done).before s
  told-is = ap (λ (w : Went). second_told later w.before s) l.behind.went_is

  course-is : (seen_next later done s).told.course ≡ lit_course later s (not (went began done).before.running) (went began done).before.slots
  course-is = ap (λ (t : ToldSecond). t.course) told-is ∙ lit-course later (went began done).before s power

  number-is : number_of (seen_next later done s) ≡ s.number
  number-is = told-number later (went later done).before s

  speed-is : (seen_next later done s).told.second.speed ≡ s.speed
  speed-is = ap (λ (t : ToldSecond). t.second.speed) told-is ∙ told-speed later (went began done).before s power

  starts-is : (seen_next later done s).told.starts ≡ not (went began done).before.running
  starts-is = ap (λ (t : ToldSecond). t.starts) told-is ∙ (lit-told later (went began done).before s power).starts

  lit-is : (seen_next later done s).told.lit ≡ true
  lit-is = ap (λ (t : ToldSecond). t.lit) told-is ∙ (lit-told later (went began done).before s power).lit

  seen-is : seen_of later done ≡ seen_of began done
  seen-is = seen-same began later done l.behind.same

  kept : (u : ℕ) → u < s.number → kept_after later u ≡ kept_after began u
  kept = kept-before began later l.more s.number l.breaks l.here

  low : AllByRecursion (λ (span : List Seen). last_number span < s.number) (seen_spans (seen_of began done))
  low = low-spans s.number l.some (seen_of began done) l.early

  -- the seconds before it are met as they were, and so are all
  met-is : met_seconds later (done ++ s ∷ []) ≡ met_seconds began done ++ met_next later done s ∷ []
  met-is =
      met-more later done s
      ∙ ap (λ (ms : List MetSecond). ms ++ met_next later done s ∷ []) (ap (λ (xs : List Seen). met_behind later [] xs) seen-is ∙ met-same began later s.number l.some kept [] (seen_of began done) l.early)

  -- its notes are those of before, with its own
  ended-notes : notes_in later (done ++ s ∷ []) ≡ notes_now began done later s
  ended-notes = second-notes began later done s l.behind.same ∙ ap (λ (w : Went). notes_in began done ++ noted_in later (done_by later w.before s)) l.behind.went_is

  -- behind these actions, which are all that were carried out
  pub ends-shown : (front : List Action) (log : RunLog) (d e : Devices) → CardsIn o done s began front log d → ((c : Card) → FindsStill o c log later d e (uses_in o c (notes_now began done log s)) (uses_in o c (notes_now began done later s))) → KeepsFailed log later
      → IsQuiet (course_behind log (went began done).before s front) (lit_course later s (not (went began done).before.running) (went began done).before.slots) → HaveLeftMore o d e → StillShow o d e → CardsBehind o (done ++ s ∷ []) later e
  ends-shown front log d e h finds keeps q left still c valid =
      subst (λ (ms : List MetSecond). CardShown o c later ms (uses_in o c (notes_in later (done ++ s ∷ []))) e) (sym met-is)
      (goes-on o c log later (met_seconds began done) (met_so began done s front log (gap_behind began done s front log)) (met_next later done s)
      (uses_in o c (notes_now began done log s)) (uses_in o c (notes_in later (done ++ s ∷ []))) d e
      (h c valid) (λ whose in_ known. let told = finds c whose in_ known in (told.0, ap (uses_in o c) ended-notes ∙ told.1)) keeps follows accepted (ap (gaps_on c (vehicle_in o)) gap) (left.card c) (still c valid))
    where
      k : Course
      k = course_behind log (went began done).before s front

      g : IsQuiet (course_behind log (went began done).before s front) (seen_next later done s).told.course
      g = subst (IsQuiet (course_behind log (went began done).before s front)) (sym course-is) q

      follows : Follows c (seen_behind began done s front log) (seen_next later done s)
      follows = record {
        number = number-is;
        speed = speed-is;
        starts = starts-is;
        entered = λ is. ap (list_any (λ (v : Visit). same_card v.card c)) g.entered ∙ is;
        torn = λ is. ap (list_any (λ (v : Visit). same_card v.card c)) g.torn ∙ any-more (λ (v : Visit). same_card v.card c) (course_behind log (went began done).before s front).torn g.more is;
        often = subst (λ (vs : List Visit). length (filter (λ (v : Visit). same_card v.card c) (course_behind log (went began done).before s front).torn) ≤ length (filter (λ (v : Visit). same_card v.card c) vs)) (sym g.torn)
            (count-more (λ (v : Visit). same_card v.card c) (course_behind log (went began done).before s front).torn g.more);
      }

      accepted : accepted_in c (seen_next later done s) ≡ accepted_in c (seen_behind began done s front log)
      accepted = λ i. flat_map (λ (f : Finding). cond (same_card f.0.card c && is_accepting f.1) (number-is i ∷ []) []) (g.found i)

      gap : gap_by as_accepted later (seen_spans (seen_of later done)) (seen_next later done s) ≡ gap_behind began done s front log
      gap =
          ap (λ (xs : List Seen). gap_by as_accepted later (seen_spans xs) (seen_next later done s)) seen-is
          ∙ (λ i. cond (lit-is i) (cond (starts-is i)
          (before-same as_accepted began later s.number kept (seen_spans (seen_of began done)) (seen_behind began done s front log) (seen_next later done s) number-is
          (λ slot. standing-is (seen_next later done s) slot ∙ ap (λ (fs : List Finding). first_card (filter (is_now slot) fs)) g.found ∙ sym (standing-is (seen_behind began done s front log) slot)) low i) []) [])

  -- it went on behind all of its actions
  pub whole-quiet : (log : RunLog) → TellSameTo log later s.number (length s.actions) → IsQuiet (course_behind log (went began done).before s s.actions) (lit_course later s (not (went began done).before.running) (went began done).before.slots)
  whole-quiet log same =
      let acts : Course = course_behind later (went began done).before s s.actions in
      let kept_ : Course = both_told later s.number Keeping (unmoved false) acts in
      subst (λ (k : Course). IsQuiet k (lit_course later s (not (went began done).before.running) (went began done).before.slots)) (behind-same log later s (went began done).before s.actions same)
      (quiet-then acts kept_ (cut_told (is_some (cut_in later s.number)) kept_) (both-quiet later s.number Keeping (unmoved false) acts refl refl) (cut-none_ (is_some (cut_in later s.number)) kept_))

  -- or was cut behind these
  pub cut-short : (front rest : List Action) → s.actions ≡ front ++ rest → cut_in later s.number ≡ Some (length front) → IsQuiet (course_behind later (went began done).before s front) (lit_course later s (not (went began done).before.running) (went began done).before.slots)
  cut-short front rest are cut =
      let some : Course = course_behind later (went began done).before s front in
      let acts : Course = all_acted later s (length front) rest (course_behind later (went began done).before s front) in
      let kept_ : Course = both_told later s.number Keeping (unmoved false) acts in
      subst (λ (k : Course). IsQuiet (course_behind later (went began done).before s front) (cut_told (is_some (cut_in later s.number)) (both_told later s.number Keeping (unmoved false) k))) (sym split)
      (quiet-then some acts (cut_told (is_some (cut_in later s.number)) kept_)
      (cut-quiet later s (length front) rest (course_behind later (went began done).before s front) (λ k le. ap (λ (q : Option ℕ). begins q k) cut ∙ (let off : nat_lt k (length front) ≡ false = grind (arith, nat_tests) in off)))
      (quiet-then acts kept_ (cut_told (is_some (cut_in later s.number)) kept_) (both-quiet later s.number Keeping (unmoved false) acts refl refl) (cut-none_ (is_some (cut_in later s.number)) kept_)))
    where
      split : all_acted later s 0 s.actions (course_powered later (went began done).before s) ≡ all_acted later s (length front) rest (course_behind later (went began done).before s front)
      split =
          ap (λ (xs : List Action). all_acted later s 0 xs (course_powered later (went began done).before s)) are ∙ acted-append later s 0 front rest (course_powered later (went began done).before s)
          ∙ ap (λ (n : ℕ). all_acted later s n rest (course_behind later (went began done).before s front)) (let same : 0 + length front ≡ length front = omega arith in same)

-- ---- SECONDS OF WHICH NOTHING IS FOUND

-- one without power, or without actions in a span that goes on
abbrev pub IsPlainNext : (log : RunLog) → List TraceSecond → TraceSecond → Type 0
IsPlainNext log done s = (has_power (went log done).before s ≡ false) ⊎ ((has_power (went log done).before s ≡ true) × ((went log done).before.running ≡ true) × (s.actions ≡ []))

-- in one that goes on
goes-quiet : (log : RunLog) (was : Before) (s : TraceSecond) → was.running ≡ true → s.actions ≡ [] → IsQuiet (fresh false was.slots) (lit_course log s (not was.running) was.slots)
goes-quiet log was s on none =
    subst (λ (xs : List Action). IsQuiet (fresh false was.slots) (cut_told (is_some (cut_in log s.number)) (both_told log s.number Keeping (unmoved false) (all_acted log s 0 xs (course_powered log was s))))) (sym none)
    (quiet-then (fresh false was.slots) (course_powered log was s) (cut_told (is_some (cut_in log s.number)) (both_told log s.number Keeping (unmoved false) (course_powered log was s))) (powered-quiet log was s on)
    (quiet-then (course_powered log was s) (both_told log s.number Keeping (unmoved false) (course_powered log was s)) (cut_told (is_some (cut_in log s.number)) (both_told log s.number Keeping (unmoved false) (course_powered log was s)))
    (both-quiet log s.number Keeping (unmoved false) (course_powered log was s) refl refl) (cut-none_ (is_some (cut_in log s.number)) (both_told log s.number Keeping (unmoved false) (course_powered log was s)))))

plain-next : (log : RunLog) (done : List TraceSecond) (s : TraceSecond) → IsPlainNext log done s → ((seen_next log done s).told.course.found ≡ []) × (((seen_next log done s).told.lit ≡ false) ⊎ ((seen_next log done s).told.starts ≡ false))
plain-next log done s (inl off) = (dark (went log done).before off, inl (dark-told log (went log done).before s off).lit)
  where
    dark : (was : Before) → has_power was s ≡ false → (second_told log was s).course.found ≡ []
    dark was off = rw off refl
plain-next log done s (inr goes) = (
  ap (λ (k : Course). k.found) (lit-course log (went log done).before s goes.0) ∙ (goes-quiet log (went log done).before s goes.1 goes.2).found,
  inr ((lit-told log (went log done).before s goes.0).starts ∙ ap not goes.1),
)

-- it notes nothing
plain-notes : (log : RunLog) (done : List TraceSecond) (s : TraceSecond) → IsPlainNext log done s → noted_next log done s ≡ []
plain-notes log done s (inl off) = dark-notes log (went log done).before s off
plain-notes log done s (inr goes) = idle-notes log (went log done).before s goes.2 (plain-next log done s (inr goes)).0

pub plain-second : (o : Origin) (done : List TraceSecond) (s : TraceSecond) (log later : RunLog) (d : Devices) → IsLater log later done s.number → IsPlainNext later done s → CardsBehind o done log d → CardsBehind o (done ++ s ∷ []) later d
plain-second o done s log later d l plain h c valid =
    subst (λ (ms : List MetSecond). CardShown o c later ms (uses_in o c (notes_in later (done ++ s ∷ []))) d) (sym met)
    (card-next o c log later (met_seconds log done) (met_next later done s) (uses_in o c (notes_in log done)) (uses_in o c (notes_in later (done ++ s ∷ []))) d (h c valid)
    (λ whose in_ known. (
      known-fewer whose o log later l.more d d l.breaks (stood-self o d) known,
      ap (uses_in o c) (second-notes log later done s l.behind.same ∙ ap (λ (ns : List Note). notes_in log done ++ ns) (plain-notes later done s plain) ∙ append-nil (notes_in log done)),
    ))
    (failed-more log later (l.more, l.breaks))
    (plain-found c (seen_next later done s) is.0) (ap (gaps_on c (vehicle_in o)) (gap-off later (seen_spans (seen_of later done)) (seen_next later done s) is.1)))
  where
    is : ((seen_next later done s).told.course.found ≡ []) × (((seen_next later done s).told.lit ≡ false) ⊎ ((seen_next later done s).told.starts ≡ false))
    is = plain-next later done s plain

    met : met_seconds later (done ++ s ∷ []) ≡ met_seconds log done ++ met_next later done s ∷ []
    met =
        met-more later done s
        ∙ ap (λ (ms : List MetSecond). ms ++ met_next later done s ∷ [])
        (ap (λ (xs : List Seen). met_behind later [] xs) (seen-same log later done l.behind.same)
        ∙ met-same log later s.number l.some (kept-before log later l.more s.number l.breaks l.here) [] (seen_of log done) l.early)

-- by the same log
pub plain-same : (o : Origin) (done : List TraceSecond) (s : TraceSecond) (log : RunLog) (d : Devices) → IsPlainNext log done s → CardsBehind o done log d → CardsBehind o (done ++ s ∷ []) log d
plain-same o done s log d plain h c valid =
    let is = plain-next log done s plain in
    subst (λ (ms : List MetSecond). CardShown o c log ms (uses_in o c (notes_in log (done ++ s ∷ []))) d) (sym (met-more log done s))
    (card-next o c log log (met_seconds log done) (met_next log done s) (uses_in o c (notes_in log done)) (uses_in o c (notes_in log (done ++ s ∷ []))) d (h c valid)
    (λ whose in_ known. (known, ap (uses_in o c) (next-notes log done s ∙ ap (λ (ns : List Note). notes_in log done ++ ns) (plain-notes log done s plain) ∙ append-nil (notes_in log done))))
    (λ u is. is)
    (plain-found c (seen_next log done s) is.0) (ap (gaps_on c (vehicle_in o)) (gap-off log (seen_spans (seen_of log done)) (seen_next log done s) is.1)))
