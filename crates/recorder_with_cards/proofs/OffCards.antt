-- The last second turns out to be a cut's, as an `off` line says: what the cards show of their events stays.
use Rattle.std.proofs.Common.{◌≡◌, ◌∙◌, ℕ, ◌-◌, ◌<◌, Bool, true, false, cond, not, ◌&&◌, ◌||◌, is_some, List, [], ◌∷◌, ◌++◌, length, refl, ap, sym, subst, arith}
use Rattle.std.specs.Prelude.{filter, flat_map, nat_eq}
use Rattle.std.specs.List.{AllByRecursion, list_any}
use Rattle.activity_codec.specs.declared.values.Slot.{Slot}
use Rattle.activity_codec.specs.declared.values.Slot.TheVariants.{Driver, CoDriver}
use Rattle.trace_model.specs.declared.Card.{Card}
use Rattle.trace_model.specs.Trace.{TraceSecond}
use Rattle.minute_rules.specs.minute_model.declared.Rule.{Rule}
use Rattle.device_calls.specs.history_model.Presence.{Start}
use Rattle.device_calls.specs.event_model.Events.{Seen, number_of, seen_of, seen_spans, last_number, first_card}
use Rattle.log_model.specs.Log.{RunLog, Keeping, cut_in, is_torn_in, kept_after, is_accepting}
use Rattle.log_model.specs.Slots.{same_card}
use Rattle.log_model.proofs.Growth.{went-more}
use Rattle.log_model.specs.Course.{ToldSecond, Course, Visit, Went, has_power, second_told, went, leaves, visits, slot_told, both_told, unmoved, all_acted, cut_told, lit_course}
use Rattle.device_calls.specs.note_model.Done.{course_powered}
use Rattle.device_calls.specs.run_unit_course.Lines.{cut_at}
use Rattle.device_calls.specs.run_unit_course.Followed.{Lit}
use Rattle.device_calls.specs.safety_model.Safe.{Devices, card_of}
use Rattle.run_acts.specs.run_course.Moments.{and_break}
use Rattle.run_acts.specs.run_course.Followed.{Progress, BookFollowsRun, HadActions}
use Rattle.run_acts.proofs.run_course.Lookups.{break-more}
use Rattle.run_acts.proofs.run_course.Told.{lit-told}
use Rattle.run_minutes.specs.run_promise.Origin.{Origin}
use Rattle.run_acts.specs.run_events.Seconds.{gap_by, seen_next}
use Rattle.run_acts.specs.run_events.Choice.{AreEarlier}
use Rattle.run_acts.proofs.run_events.Later.{told-number, seen-same}
use Rattle.run_acts.proofs.run_note_record.Brought.{lit-course, told-speed}
use Rattle.run_acts.specs.run_note_record.Uses.{notes_in, uses_in}
use Rattle.run_acts.proofs.run_note_record.Lines.{early}
use Rattle.run_acts.proofs.AllStay.{stood-self, known-fewer}
use Rattle.run_acts.proofs.run_note_record.SoFar.{failed-more}
use Rattle.run_acts.specs.OnCards.{MetSecond, as_accepted, accepted_in, gaps_on, torn_times, met_behind, met_seconds, met_next}
use Rattle.run_acts.specs.RunCards.{vehicle_in, sizes_in, CardShown, CardsBehind}
use Rattle.run_acts.specs.Stood.{is_torn_out_in}
use Rattle.run_acts.proofs.OnCards.{still-same}
use Rattle.run_acts.proofs.CardSeconds.{met-more}
use Rattle.run_acts.proofs.CardCourse.{Finding, findings, behind-same}
use Rattle.run_acts.proofs.CardShown.{Follows, goes-on}
use Rattle.run_acts.proofs.CardSecond.{is_now, standing-is}
use Rattle.run_acts.proofs.CardGaps.{kept-before, before-same, low-spans, met-same}
use Rattle.recorder_with_cards.proofs.OffRings.{order, number, same, front-same, power, tells, notes-same}

-- a cut leaves what was found, entered and torn out
record SameMoves (x y : Course) : Type 0 where
  found : y.found ≡ x.found
  entered : y.entered ≡ x.entered
  torn : y.torn ≡ x.torn

cut-moves : (b c : Bool) (k l : Course) → l ≡ k → SameMoves (cut_told b k) (cut_told c l)
cut-moves true true k l is = record { found = ap (λ (x : Course). x.found) is; entered = ap (λ (x : Course). x.entered) is; torn = ap (λ (x : Course). x.torn) is }
cut-moves true false k l is = record { found = ap (λ (x : Course). x.found) is; entered = ap (λ (x : Course). x.entered) is; torn = ap (λ (x : Course). x.torn) is }
cut-moves false true k l is = record { found = ap (λ (x : Course). x.found) is; entered = ap (λ (x : Course). x.entered) is; torn = ap (λ (x : Course). x.torn) is }
cut-moves false false k l is = record { found = ap (λ (x : Course). x.found) is; entered = ap (λ (x : Course). x.entered) is; torn = ap (λ (x : Course). x.torn) is }

-- as minutes are kept, by the same tears
keeping-one : (log later : RunLog) (u : ℕ) (slot : Slot) (x : Course) → is_torn_in later u Keeping slot ≡ is_torn_in log u Keeping slot → slot_told later u Keeping (unmoved false) slot x ≡ slot_told log u Keeping (unmoved false) slot x
keeping-one log later u slot x torn = λ i.
    cond (torn i) (record (leaves slot (record x { found = x.found ++ findings [] (visits Keeping slot x.slots) })) { torn = x.torn ++ ([] ++ visits Keeping slot x.slots) })
    (record x { found = x.found ++ findings [] (visits Keeping slot x.slots) })

keeping-both : (log later : RunLog) (u : ℕ) (x y : Course) → ((slot : Slot) → is_torn_in later u Keeping slot ≡ is_torn_in log u Keeping slot) → y ≡ x → both_told later u Keeping (unmoved false) y ≡ both_told log u Keeping (unmoved false) x
keeping-both log later u x y torn is =
    ap (both_told later u Keeping (unmoved false)) is ∙ ap (slot_told later u Keeping (unmoved false) CoDriver) (keeping-one log later u Driver x (torn Driver))
    ∙ keeping-one log later u CoDriver (slot_told log u Keeping (unmoved false) Driver x) (torn CoDriver)

-- the last of these seconds, where the other has its number and tore out the same
last-alike : (c : Card) (u : ℕ) (xs : List ToldSecond) (x y : ToldSecond) → y.second.number ≡ x.second.number → y.course.torn ≡ x.course.torn → is_torn_out_in (xs ++ y ∷ []) c u ≡ is_torn_out_in (xs ++ x ∷ []) c u
last-alike c u [] x y number torn = λ i. (nat_eq (number i) u && list_any (λ (v : Visit). same_card c v.card) (torn i)) || false
last-alike c u (z ∷ xs) x y number torn = ap (λ (b : Bool). (nat_eq z.second.number u && list_any (λ (v : Visit). same_card c v.card) z.course.torn) || b) (last-alike c u xs x y number torn)

or-nothing : (b : Bool) → (b || false) ≡ b
or-nothing true = refl
or-nothing false = refl

module _ (rule : Rule) (start : Start) (from first : ℕ) (p : Progress) (t : ToldSecond) (span : List ToldSecond) (front : List TraceSecond) (r : TraceSecond) (f : BookFollowsRun rule start from first (front ++ r ∷ []) (record p { supply = Lit (t ∷ span); waiting = [] })) (count : length r.actions ≡ p.begun) (some : 0 < r.number) where
  abbrev later : RunLog
  later = and_break p.log (cut_at (p.next - 1) false p.begun)

  abbrev x : Seen
  x = seen_next p.log front r

  abbrev y : Seen
  y = seen_next (and_break p.log (cut_at (p.next - 1) false p.begun)) front r

  on : has_power (went p.log front).before r ≡ true
  on = power rule start from first p t span front r f count

  here : r.number ≡ p.next - 1
  here = number rule start from first p t span front r f count

  told-is : second_told (and_break p.log (cut_at (p.next - 1) false p.begun)) (went (and_break p.log (cut_at (p.next - 1) false p.begun)) front).before r ≡ second_told (and_break p.log (cut_at (p.next - 1) false p.begun)) (went p.log front).before r
  told-is = ap (λ (w : Went). second_told (and_break p.log (cut_at (p.next - 1) false p.begun)) w.before r) (front-same rule start from first p t span front r f count)

  acts-same : all_acted (and_break p.log (cut_at (p.next - 1) false p.begun)) r 0 r.actions (course_powered (and_break p.log (cut_at (p.next - 1) false p.begun)) (went p.log front).before r) ≡ all_acted p.log r 0 r.actions (course_powered p.log (went p.log front).before r)
  acts-same = behind-same p.log (and_break p.log (cut_at (p.next - 1) false p.begun)) r (went p.log front).before r.actions (tells rule start from first p t span front r f count)

  keeping-same : both_told (and_break p.log (cut_at (p.next - 1) false p.begun)) r.number Keeping (unmoved false) (all_acted (and_break p.log (cut_at (p.next - 1) false p.begun)) r 0 r.actions (course_powered (and_break p.log (cut_at (p.next - 1) false p.begun)) (went p.log front).before r))
      ≡ both_told p.log r.number Keeping (unmoved false) (all_acted p.log r 0 r.actions (course_powered p.log (went p.log front).before r))
  keeping-same = keeping-both p.log (and_break p.log (cut_at (p.next - 1) false p.begun)) r.number
      (all_acted p.log r 0 r.actions (course_powered p.log (went p.log front).before r)) (all_acted (and_break p.log (cut_at (p.next - 1) false p.begun)) r 0 r.actions (course_powered (and_break p.log (cut_at (p.next - 1) false p.begun)) (went p.log front).before r))
      (λ slot. (break-more p.log (cut_at (p.next - 1) false p.begun) r.number).torn Keeping slot ∙ or-nothing (is_torn_in p.log r.number Keeping slot)) acts-same

  moves : SameMoves (lit_course p.log r (not (went p.log front).before.running) (went p.log front).before.slots) (lit_course (and_break p.log (cut_at (p.next - 1) false p.begun)) r (not (went p.log front).before.running) (went p.log front).before.slots)
  moves = cut-moves (is_some (cut_in p.log r.number)) (is_some (cut_in (and_break p.log (cut_at (p.next - 1) false p.begun)) r.number))
      (both_told p.log r.number Keeping (unmoved false) (all_acted p.log r 0 r.actions (course_powered p.log (went p.log front).before r)))
      (both_told (and_break p.log (cut_at (p.next - 1) false p.begun)) r.number Keeping (unmoved false) (all_acted (and_break p.log (cut_at (p.next - 1) false p.begun)) r 0 r.actions (course_powered (and_break p.log (cut_at (p.next - 1) false p.begun)) (went p.log front).before r)))
      keeping-same

  now-course : (seen_next (and_break p.log (cut_at (p.next - 1) false p.begun)) front r).told.course ≡ lit_course (and_break p.log (cut_at (p.next - 1) false p.begun)) r (not (went p.log front).before.running) (went p.log front).before.slots
  now-course = ap (λ (k : ToldSecond). k.course) told-is ∙ lit-course (and_break p.log (cut_at (p.next - 1) false p.begun)) (went p.log front).before r on

  was-course : (seen_next p.log front r).told.course ≡ lit_course p.log r (not (went p.log front).before.running) (went p.log front).before.slots
  was-course = lit-course p.log (went p.log front).before r on

  found-is : (seen_next (and_break p.log (cut_at (p.next - 1) false p.begun)) front r).told.course.found ≡ (seen_next p.log front r).told.course.found
  found-is = ap (λ (k : Course). k.found) now-course ∙ moves.found ∙ sym (ap (λ (k : Course). k.found) was-course)

  number-is : number_of (seen_next (and_break p.log (cut_at (p.next - 1) false p.begun)) front r) ≡ number_of (seen_next p.log front r)
  number-is = told-number (and_break p.log (cut_at (p.next - 1) false p.begun)) (went (and_break p.log (cut_at (p.next - 1) false p.begun)) front).before r ∙ sym (told-number p.log (went p.log front).before r)

  starts-is : (seen_next (and_break p.log (cut_at (p.next - 1) false p.begun)) front r).told.starts ≡ (seen_next p.log front r).told.starts
  starts-is = ap (λ (k : ToldSecond). k.starts) told-is ∙ (lit-told (and_break p.log (cut_at (p.next - 1) false p.begun)) (went p.log front).before r on).starts ∙ sym (lit-told p.log (went p.log front).before r on).starts

  lit-is : (seen_next (and_break p.log (cut_at (p.next - 1) false p.begun)) front r).told.lit ≡ (seen_next p.log front r).told.lit
  lit-is = ap (λ (k : ToldSecond). k.lit) told-is ∙ (lit-told (and_break p.log (cut_at (p.next - 1) false p.begun)) (went p.log front).before r on).lit ∙ sym (lit-told p.log (went p.log front).before r on).lit

  follows : (c : Card) → Follows c (seen_next p.log front r) (seen_next (and_break p.log (cut_at (p.next - 1) false p.begun)) front r)
  follows c = record {
    number = number-is;
    speed = ap (λ (k : ToldSecond). k.second.speed) told-is ∙ told-speed (and_break p.log (cut_at (p.next - 1) false p.begun)) (went p.log front).before r on ∙ sym (told-speed p.log (went p.log front).before r on);
    starts = starts-is;
    entered = λ is. ap (λ (k : Course). list_any (λ (v : Visit). same_card v.card c) k.entered) now-course ∙ ap (list_any (λ (v : Visit). same_card v.card c)) moves.entered ∙ sym (ap (λ (k : Course). list_any (λ (v : Visit). same_card v.card c) k.entered) was-course) ∙ is;
    torn = λ is. ap (λ (k : Course). list_any (λ (v : Visit). same_card v.card c) k.torn) now-course ∙ ap (list_any (λ (v : Visit). same_card v.card c)) moves.torn ∙ sym (ap (λ (k : Course). list_any (λ (v : Visit). same_card v.card c) k.torn) was-course) ∙ is;
    often = let same : torn_times c (seen_next (and_break p.log (cut_at (p.next - 1) false p.begun)) front r) ≡ torn_times c (seen_next p.log front r) =
        ap (λ (k : Course). length (filter (λ (v : Visit). same_card v.card c) k.torn)) now-course ∙ ap (λ (vs : List Visit). length (filter (λ (v : Visit). same_card v.card c) vs)) moves.torn
        ∙ sym (ap (λ (k : Course). length (filter (λ (v : Visit). same_card v.card c) k.torn)) was-course) in omega (arith, same);
  }

  torn-is : (seen_next (and_break p.log (cut_at (p.next - 1) false p.begun)) front r).told.course.torn ≡ (seen_next p.log front r).told.course.torn
  torn-is = ap (λ (k : Course). k.torn) now-course ∙ moves.torn ∙ sym (ap (λ (k : Course). k.torn) was-course)

  -- what was torn out was
  torn-same : (c : Card) (u : ℕ) → is_torn_out_in (went (and_break p.log (cut_at (p.next - 1) false p.begun)) (front ++ r ∷ [])).told c u ≡ is_torn_out_in (went p.log (front ++ r ∷ [])).told c u
  torn-same c u =
      ap (λ (w : Went). is_torn_out_in w.told c u) (went-more (and_break p.log (cut_at (p.next - 1) false p.begun)) front r)
      ∙ ap (λ (w : Went). is_torn_out_in (w.told ++ (seen_next (and_break p.log (cut_at (p.next - 1) false p.begun)) front r).told ∷ []) c u) (front-same rule start from first p t span front r f count)
      ∙ last-alike c u (went p.log front).told (seen_next p.log front r).told (seen_next (and_break p.log (cut_at (p.next - 1) false p.begun)) front r).told number-is torn-is
      ∙ sym (ap (λ (w : Went). is_torn_out_in w.told c u) (went-more p.log front r))

  accepted-is : (c : Card) → accepted_in c (seen_next (and_break p.log (cut_at (p.next - 1) false p.begun)) front r) ≡ accepted_in c (seen_next p.log front r)
  accepted-is c = λ i. flat_map (λ (f : Finding). cond (same_card f.0.card c && is_accepting f.1) (number-is i ∷ []) []) (found-is i)

  seen-is : seen_of (and_break p.log (cut_at (p.next - 1) false p.begun)) front ≡ seen_of p.log front
  seen-is = seen-same p.log (and_break p.log (cut_at (p.next - 1) false p.begun)) front (same rule start from first p t span front r f count)

  kept : (u : ℕ) → u < r.number → kept_after (and_break p.log (cut_at (p.next - 1) false p.begun)) u ≡ kept_after p.log u
  kept = kept-before p.log (and_break p.log (cut_at (p.next - 1) false p.begun)) (cut_at (p.next - 1) false p.begun ∷ []) r.number refl (sym here, tt)

  earlier : AreEarlier r.number (seen_of p.log front)
  earlier = let o = order rule start from first p t span front r f count in early p.log r.number from front o.0 (let n = o.1 in omega (arith, n))

  low : AllByRecursion (λ (span_ : List Seen). last_number span_ < r.number) (seen_spans (seen_of p.log front))
  low = low-spans r.number some (seen_of p.log front) earlier

  gap : gap_by as_accepted (and_break p.log (cut_at (p.next - 1) false p.begun)) (seen_spans (seen_of (and_break p.log (cut_at (p.next - 1) false p.begun)) front)) (seen_next (and_break p.log (cut_at (p.next - 1) false p.begun)) front r)
      ≡ gap_by as_accepted p.log (seen_spans (seen_of p.log front)) (seen_next p.log front r)
  gap =
      ap (λ (xs : List Seen). gap_by as_accepted (and_break p.log (cut_at (p.next - 1) false p.begun)) (seen_spans xs) (seen_next (and_break p.log (cut_at (p.next - 1) false p.begun)) front r)) seen-is
      ∙ (λ i. cond (lit-is i) (cond (starts-is i)
      (before-same as_accepted p.log (and_break p.log (cut_at (p.next - 1) false p.begun)) r.number kept (seen_spans (seen_of p.log front)) (seen_next p.log front r) (seen_next (and_break p.log (cut_at (p.next - 1) false p.begun)) front r) number-is
      (λ slot. standing-is (seen_next (and_break p.log (cut_at (p.next - 1) false p.begun)) front r) slot ∙ ap (λ (fs : List Finding). first_card (filter (is_now slot) fs)) found-is ∙ sym (standing-is (seen_next p.log front r) slot)) low i) []) [])

  met-is : met_seconds (and_break p.log (cut_at (p.next - 1) false p.begun)) (front ++ r ∷ []) ≡ met_seconds p.log front ++ met_next (and_break p.log (cut_at (p.next - 1) false p.begun)) front r ∷ []
  met-is =
      met-more (and_break p.log (cut_at (p.next - 1) false p.begun)) front r
      ∙ ap (λ (ms : List MetSecond). ms ++ met_next (and_break p.log (cut_at (p.next - 1) false p.begun)) front r ∷ [])
      (ap (λ (xs : List Seen). met_behind (and_break p.log (cut_at (p.next - 1) false p.begun)) [] xs) seen-is ∙ met-same p.log (and_break p.log (cut_at (p.next - 1) false p.begun)) r.number some kept [] (seen_of p.log front) earlier)

  cut-behind : (o : Origin) (d : Devices) → CardsBehind o (front ++ r ∷ []) p.log d → CardsBehind o (front ++ r ∷ []) (and_break p.log (cut_at (p.next - 1) false p.begun)) d
  cut-behind o d h c valid =
      subst (λ (ms : List MetSecond). CardShown o c (and_break p.log (cut_at (p.next - 1) false p.begun)) ms (uses_in o c (notes_in (and_break p.log (cut_at (p.next - 1) false p.begun)) (front ++ r ∷ []))) d) (sym met-is)
      (goes-on o c p.log (and_break p.log (cut_at (p.next - 1) false p.begun)) (met_seconds p.log front) (met_next p.log front r) (met_next (and_break p.log (cut_at (p.next - 1) false p.begun)) front r)
      (uses_in o c (notes_in p.log (front ++ r ∷ []))) (uses_in o c (notes_in (and_break p.log (cut_at (p.next - 1) false p.begun)) (front ++ r ∷ []))) d d
      (subst (λ (ms : List MetSecond). CardShown o c p.log ms (uses_in o c (notes_in p.log (front ++ r ∷ []))) d) (met-more p.log front r) (h c valid))
      (λ whose in_ known. (known-fewer whose o p.log (and_break p.log (cut_at (p.next - 1) false p.begun)) (cut_at (p.next - 1) false p.begun ∷ []) d d refl (stood-self o d) known, ap (uses_in o c) (notes-same rule start from first p t span front r f count)))
      (failed-more p.log (and_break p.log (cut_at (p.next - 1) false p.begun)) (cut_at (p.next - 1) false p.begun ∷ [], refl)) (follows c) (accepted-is c) (ap (gaps_on c (vehicle_in o)) gap) (λ z there. there) (still-same (sizes_in o c) (card_of d c)))

-- THE LAST SECOND OF A SPAN TURNS OUT TO BE A CUT'S
pub off-cut-cards : (rule : Rule) (start : Start) (from first : ℕ) (done : List TraceSecond) (p : Progress) (t : ToldSecond) (span : List ToldSecond) → BookFollowsRun rule start from first done (record p { supply = Lit (t ∷ span); waiting = [] }) → 1 < p.next →
    (o : Origin) (d : Devices) → CardsBehind o done p.log d → CardsBehind o done (and_break p.log (cut_at (p.next - 1) false p.begun)) d
off-cut-cards rule start from first done p t span f some o d h =
    let had : HadActions done p.begun = f.last in
    let r : TraceSecond = record { number = had.number; has_power = true; speed = had.speed; actions = had.actions } in
    let g = subst (λ (ss : List TraceSecond). BookFollowsRun rule start from first ss (record p { supply = Lit (t ∷ span); waiting = [] })) had.are f in
    let here = number rule start from first p t span had.before r g had.count in
    subst (λ (ss : List TraceSecond). CardsBehind o ss (and_break p.log (cut_at (p.next - 1) false p.begun)) d) (sym had.are)
    (cut-behind rule start from first p t span had.before r g had.count (omega (arith, here, some)) o d (subst (λ (ss : List TraceSecond). CardsBehind o ss p.log d) had.are h))

-- what was torn out in these seconds was
pub off-cut-torn : (rule : Rule) (start : Start) (from first : ℕ) (done : List TraceSecond) (p : Progress) (t : ToldSecond) (span : List ToldSecond) → BookFollowsRun rule start from first done (record p { supply = Lit (t ∷ span); waiting = [] }) → 1 < p.next →
    (c : Card) (u : ℕ) → is_torn_out_in (went p.log done).told c u ≡ true → is_torn_out_in (went (and_break p.log (cut_at (p.next - 1) false p.begun)) done).told c u ≡ true
off-cut-torn rule start from first done p t span f some c u has =
    let had : HadActions done p.begun = f.last in
    let r : TraceSecond = record { number = had.number; has_power = true; speed = had.speed; actions = had.actions } in
    let g = subst (λ (ss : List TraceSecond). BookFollowsRun rule start from first ss (record p { supply = Lit (t ∷ span); waiting = [] })) had.are f in
    let here = number rule start from first p t span had.before r g had.count in
    ap (λ (ss : List TraceSecond). is_torn_out_in (went (and_break p.log (cut_at (p.next - 1) false p.begun)) ss).told c u) had.are
    ∙ torn-same rule start from first p t span had.before r g had.count (omega (arith, here, some)) c u
    ∙ sym (ap (λ (ss : List TraceSecond). is_torn_out_in (went p.log ss).told c u) had.are) ∙ has
