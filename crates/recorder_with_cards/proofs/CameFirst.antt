-- A card that is judged is as it was at the start, or has come before: in an earlier second, or this one puts it in more than once.
use Rattle.std.proofs.Common.{◌≡◌, ◌⊎◌, inl, inr, ⊎_elim, ◌∙◌, ℕ, ◌+◌, ◌<◌, ◌≤◌, ◌/◌, Bool, true, false, cond, not, ◌||◌, ◌&&◌, nat_le, nat_eq, Option, Some, None, List, [], ◌∷◌, ◌++◌, All, Contains, map, filter, take, drop, length, refl, ap, sym, subst, arith, length-append}
use Rattle.std.specs.Prelude.{fold, flat_map}
use Rattle.std.specs.List.{list_any}
use Rattle.std.proofs.lemmas.Bool.{cases_lt}
use Rattle.std.proofs.lemmas.List.{take-append-drop, map-append}
use Rattle.std.proofs.lemmas.List.Elements.{All-contains, Contains-append_left, Contains-append_right, Contains-push, filter-append}
use Rattle.activity_codec.specs.declared.values.Slot.{Slot}
use Rattle.activity_codec.specs.declared.values.Slot.TheVariants.{Driver, CoDriver}
use Rattle.trace_model.specs.declared.Card.{Card}
use Rattle.trace_model.specs.declared.Card.TheVariants.{A, B}
use Rattle.trace_model.specs.declared.Action.{Action}
use Rattle.trace_model.specs.declared.Action.TheVariants.{Select, Insert, Withdraw, Tear, Place, Manual}
use Rattle.trace_model.specs.Trace.{TraceSecond}
use Rattle.tach_media.specs.Medium.{State, IsCoherent}
use Rattle.minute_rules.specs.Kept.{Kept}
use Rattle.log_model.specs.declared.lines.SlotFault.{SlotFault}
use Rattle.log_model.specs.Log.{RunLog, Phase, In, cut_in}
use Rattle.log_model.specs.Slots.{Slots, Sitting, same_card, holds, refusal}
use Rattle.log_model.specs.Course.{ToldSecond, Visit, Before, Course, Moved, Went, card_in, visits, slot_told, both_told, unmoved, moved_by, answered, begins, is_settling, acted, all_acted, fresh, second_told, went_on, not_begun, went}
use Rattle.device_calls.specs.event_model.Events.{course_by}
use Rattle.device_calls.specs.safety_model.Recording.{card_image}
use Rattle.device_calls.specs.safety_model.Cards.{entered as often_entered}
use Rattle.run_acts.specs.run_course.Lines.{times_of}
use Rattle.run_acts.specs.run_course.Reached.{course_at}
use Rattle.run_acts.proofs.run_course.Reached.{at-by}
use Rattle.run_minutes.specs.run_devices.Told.{arranged}
use Rattle.run_outcome.specs.declared.outcome.Outcome.{Outcome}
use Rattle.run_minutes.specs.run_promise.Origin.{Origin}
use Rattle.run_minutes.specs.run_promise.Ends.{recording_by}
use Rattle.run_minutes.proofs.run_promise.Beside.{before-next}
use Rattle.run_minutes.proofs.run_promise.Unentered.{IsOut, StaysOut, stays-out, others-told, entered-then}
use Rattle.run_acts.specs.run_record.Within.{course_in, MayBeWrittenSo, RecordInSecond}
use Rattle.run_acts.specs.run_note_record.Opened.{came_in, puts_in, times_put, HasComeBefore}
use Rattle.run_minutes.specs.declared.keeper.Keeper.{Keeper}
use Rattle.run_insertion.specs.declared.lines.Entering.{Entering}
use Rattle.run_acts.specs.Entered.{values_with, MayJudge}
use Rattle.run_acts.proofs.CardCourse.{slot-entered}
use Rattle.run_acts.proofs.EnteredNewest.{written-or}

-- ---- lists

swapped : (c d : Card) → same_card c d ≡ same_card d c
swapped A A = refl
swapped A B = refl
swapped B A = refl
swapped B B = refl

not-less : (m k : ℕ) → m ≤ m + k
not-less m k = omega arith

times-append : (c : Card) (xs ys : List Visit) → times_of c (xs ++ ys) ≡ times_of c xs + times_of c ys
times-append c xs ys =
    ap (λ (l : List Card). length (filter (same_card c) l)) (map-append (λ (v : Visit). v.card) xs ys)
    ∙ ap (λ (l : List Card). length l) (filter-append (same_card c) (map (λ (v : Visit). v.card) xs) (map (λ (v : Visit). v.card) ys))
    ∙ length-append (filter (same_card c) (map (λ (v : Visit). v.card) xs)) (filter (same_card c) (map (λ (v : Visit). v.card) ys))

puts-append : (c : Card) (xs ys : List Action) → length (filter (puts_in c) (xs ++ ys)) ≡ length (filter (puts_in c) xs) + length (filter (puts_in c) ys)
puts-append c xs ys = ap (λ (l : List Action). length l) (filter-append (puts_in c) xs ys) ∙ length-append (filter (puts_in c) xs) (filter (puts_in c) ys)

-- ---- a second in which it entered

came-any : (c : Card) (vs : List Visit) → 0 < length (filter (λ (e : Visit). same_card c e.card) vs) → list_any (λ (v : Visit). same_card c v.card) vs ≡ true
came-any c [] some = absurd (omega (arith, some))
came-any c (v ∷ vs) some = by (same_card c v.card) (λ more. came-any c vs more) some
  where
    by : (b : Bool) → (0 < length (filter (λ (e : Visit). same_card c e.card) vs) → list_any (λ (v : Visit). same_card c v.card) vs ≡ true) →
        0 < length (cond b (v ∷ filter (λ (e : Visit). same_card c e.card) vs) (filter (λ (e : Visit). same_card c e.card) vs)) → (b || list_any (λ (v : Visit). same_card c v.card) vs) ≡ true
    by true later some = refl
    by false later some = later some

some-came : (c : Card) (test : ToldSecond → Bool) (told : List ToldSecond) → 0 < length (flat_map (λ (t : ToldSecond). cond (test t) (filter (λ (e : Visit). same_card c e.card) t.course.entered) []) told) →
    (t : ToldSecond) × Contains told t × (came_in c t ≡ true)
some-came c test [] some = absurd (omega (arith, some))
some-came c test (t ∷ told) some =
    let here : List Visit = cond (test t) (filter (λ (e : Visit). same_card c e.card) t.course.entered) [] in
    let rest : List Visit = flat_map (λ (t : ToldSecond). cond (test t) (filter (λ (e : Visit). same_card c e.card) t.course.entered) []) told in
    let sum = length-append here rest in
    ⊎_elim
    (λ (yes_here : 0 < length here). (t, Contains-append_left (t ∷ []) told t (Contains-push [] t), by (test t) yes_here))
    (λ none. let later = some-came c test told (omega (arith, sum, none, some)) in (later.0, Contains-append_right (t ∷ []) told later.0 later.1, later.2))
    (cases_lt 0 (length here))
  where
    by : (b : Bool) → 0 < length (cond b (filter (λ (e : Visit). same_card c e.card) t.course.entered) []) → came_in c t ≡ true
    by true some = came-any c t.course.entered some
    by false some = absurd (omega (arith, some))

-- ---- who enters in a second is put in, or sat in a slot as it began

both-entered : (log : RunLog) (u : ℕ) (p : Phase) (moved : Moved) (x : Course) → (both_told log u p moved x).entered ≡ x.entered
both-entered log u p moved x = slot-entered log u p moved CoDriver (slot_told log u p moved Driver x) ∙ slot-entered log u p moved Driver x

put-once : (c : Card) (n : ℕ) (r : Option SlotFault) (a : Action) (x : Course) → times_of c (answered n r a x).entered ≤ times_of c x.entered + length (filter (puts_in c) (a ∷ []))
put-once c n (Some fault) a x = not-less (times_of c x.entered) (length (filter (puts_in c) (a ∷ [])))
put-once c n None (Select slot pick) x = not-less (times_of c x.entered) 0
put-once c n None (Insert slot card) x =
    let v : Visit = record { phase = In (n + 1); slot = slot; card = card } in
    let sum : times_of c (x.entered ++ v ∷ []) ≡ times_of c x.entered + times_of c (v ∷ []) = times-append c x.entered (v ∷ []) in
    let one : times_of c (v ∷ []) ≡ length (filter (puts_in c) (Insert slot card ∷ [])) = by (same_card c card) in
    let le : times_of c (x.entered ++ v ∷ []) ≤ times_of c x.entered + length (filter (puts_in c) (Insert slot card ∷ [])) = omega (arith, sum, one) in
    le
  where
    by : (b : Bool) → length (cond b (card ∷ []) []) ≡ length (cond b (Insert slot card ∷ []) [])
    by true = refl
    by false = refl
put-once c n None (Withdraw slot) x = not-less (times_of c x.entered) 0
put-once c n None (Tear slot) x = not-less (times_of c x.entered) 0
put-once c n None (Place slot ending country region) x = not-less (times_of c x.entered) 0
put-once c n None (Manual slot pick minute) x = not-less (times_of c x.entered) 0

put-acted : (c : Card) (log : RunLog) (s : TraceSecond) (n : ℕ) (a : Action) (x : Course) → times_of c (acted log s n a x).entered ≤ times_of c x.entered + length (filter (puts_in c) (a ∷ []))
put-acted c log s n a x = by (begins (cut_in log s.number) n)
  where
    by : (b : Bool) → times_of c (cond b (both_told log s.number (In (n + 1)) (moved_by n (refusal x.slots s.speed a) a x.slots) (answered n (refusal x.slots s.speed a) a x)) (record x { settled = x.settled || is_settling a })).entered
        ≤ times_of c x.entered + length (filter (puts_in c) (a ∷ []))
    by true = subst (λ (vs : List Visit). times_of c vs ≤ times_of c x.entered + length (filter (puts_in c) (a ∷ [])))
        (sym (both-entered log s.number (In (n + 1)) (moved_by n (refusal x.slots s.speed a) a x.slots) (answered n (refusal x.slots s.speed a) a x)))
        (put-once c n (refusal x.slots s.speed a) a x)
    by false = not-less (times_of c x.entered) (length (filter (puts_in c) (a ∷ [])))

put-all : (c : Card) (log : RunLog) (s : TraceSecond) (n : ℕ) (actions : List Action) (x : Course) → times_of c (all_acted log s n actions x).entered ≤ times_of c x.entered + length (filter (puts_in c) actions)
put-all c log s n [] x = not-less (times_of c x.entered) 0
put-all c log s n (a ∷ actions) x =
    more (times_of c (all_acted log s (n + 1) actions (acted log s n a x)).entered) (times_of c (acted log s n a x).entered) (times_of c x.entered) (length (filter (puts_in c) (a ∷ []))) (length (filter (puts_in c) actions))
    (length (filter (puts_in c) (a ∷ actions))) (put-all c log s (n + 1) actions (acted log s n a x)) (put-acted c log s n a x) (puts-append c (a ∷ []) actions)
  where
    more : (all mid front one rest both : ℕ) → all ≤ mid + rest → mid ≤ front + one → both ≡ one + rest → all ≤ front + both
    more all mid front one rest both later here sum = omega (arith, later, here, sum)

put-at : (c : Card) (log : RunLog) (before : Before) (s : TraceSecond) → cut_in log s.number ≡ None → (n : ℕ) → n ≤ length s.actions →
    times_of c (course_at log before s (In n)).entered ≤ times_of c (fresh (not before.running) before.slots).entered + times_put c s
put-at c log before s uncut n le =
    let first : Course = both_told log s.number (In 0) (unmoved (not before.running)) (fresh (not before.running) before.slots) in
    let at : times_of c (course_by log before s n).entered ≡ times_of c (course_at log before s (In n)).entered = ap (λ (x : Course). times_of c x.entered) (at-by log before s uncut n le) in
    let start : times_of c first.entered ≡ times_of c (fresh (not before.running) before.slots).entered =
    ap (λ (vs : List Visit). times_of c vs) (both-entered log s.number (In 0) (unmoved (not before.running)) (fresh (not before.running) before.slots)) in
    let acts : times_of c (course_by log before s n).entered ≤ times_of c first.entered + length (filter (puts_in c) (take n s.actions)) = put-all c log s 0 (take n s.actions) first in
    let whole : times_put c s ≡ length (filter (puts_in c) (take n s.actions)) + length (filter (puts_in c) (drop n s.actions)) =
    ap (λ (as_ : List Action). length (filter (puts_in c) as_)) (sym (take-append-drop n s.actions)) ∙ puts-append c (take n s.actions) (drop n s.actions) in
    omega (arith, at, start, acts, whole)

-- ---- who has never entered sits in no slot

sits-none : (c : Card) (p : Phase) (slot : Slot) (q : Option Sitting) → holds q c ≡ false → times_of c (map (λ (card : Card). record { phase = p; slot = slot; card = card }) (card_in q)) ≡ 0
sits-none c p slot None is = refl
sits-none c p slot (Some x) is = ap (λ (b : Bool). length (cond b (x.card ∷ []) [])) (swapped c x.card ∙ is)

fresh-none : (c : Card) (starts : Bool) (slots : Slots) → IsOut c slots → times_of c (fresh starts slots).entered ≡ 0
fresh-none c false slots out = refl
fresh-none c true slots out =
    let driver : times_of c (visits (In 0) Driver slots) ≡ 0 = sits-none c (In 0) Driver slots.driver out.driver in
    let codriver : times_of c (visits (In 0) CoDriver slots) ≡ 0 = sits-none c (In 0) CoDriver slots.codriver out.codriver in
    let sum : times_of c (visits (In 0) Driver slots ++ visits (In 0) CoDriver slots) ≡ times_of c (visits (In 0) Driver slots) + times_of c (visits (In 0) CoDriver slots) =
    times-append c (visits (In 0) Driver slots) (visits (In 0) CoDriver slots) in
    let none : times_of c (visits (In 0) Driver slots ++ visits (In 0) CoDriver slots) ≡ 0 = omega (arith, driver, codriver, sum) in
    none

-- the slots are as the last second left them
abbrev AreLeft : Went → Type 0
AreLeft w = (w.before.slots ≡ not_begun.before.slots) ⊎ ((t : ToldSecond) × Contains w.told t × (w.before.slots ≡ t.course.slots))

left-so : (log : RunLog) (ss : List TraceSecond) (w : Went) → AreLeft w → AreLeft (fold (went_on log) w ss)
left-so log [] w h = h
left-so log (s ∷ ss) w h = left-so log ss (went_on log w s) (inr (second_told log w.before s, Contains-push w.told (second_told log w.before s), refl))

are-left : (log : RunLog) (ss : List TraceSecond) → AreLeft (went log ss)
unfolding went
are-left log ss = left-so log ss not_begun (inl refl)

out-before : (c : Card) (log : RunLog) (ss : List TraceSecond) → All (StaysOut c) (went log ss).told → IsOut c (went log ss).before.slots
out-before c log ss out = ⊎_elim
    (λ none. subst (IsOut c) (sym none) (record { driver = refl; codriver = refl }))
    (λ last. subst (IsOut c) (sym last.2) (All-contains (StaysOut c) (went log ss).told last.0 out last.1))
    (are-left log ss)

-- ---- IT IS JUDGED
module _ (o : Origin) (done : List TraceSecond) (s : TraceSecond) (n : ℕ) (waits fewer : List Visit) (e : Entering) (k : Keeper) (out : Outcome) (unfound next_ begun : ℕ) (minutes : Kept) (U X Z : State) (w : RecordInSecond o done s (In n) waits None [] (values_with k out unfound next_ begun minutes) (arranged e.which U X Z)) (m : MayJudge o done s n waits fewer e k out unfound next_ begun minutes U X Z w) (coherent : IsCoherent X) where
  abbrev log : RunLog
  log = (values_with k out unfound next_ begun minutes).log

  abbrev told_so_far : List ToldSecond
  told_so_far = (went w.b.run.log done).told

  abbrev before_it : Before
  before_it = (went w.b.run.log done).before

  waits-one : 1 ≤ times_of e.which waits
  waits-one = let less = m.next_.but.fewer_by e.which in let own : times_of e.which (record { phase = In n; slot = e.slot; card = e.which } ∷ []) ≡ 1 = own-visit e.which in omega (arith, less, own)
    where
      own-visit : (c : Card) → times_of c (record { phase = In n; slot = e.slot; card = c } ∷ []) ≡ 1
      own-visit A = refl
      own-visit B = refl

  earlier : (t : ToldSecond) → Contains told_so_far t → came_in e.which t ≡ true → HasComeBefore told_so_far (done ++ s ∷ []) e.which s.number
  earlier t there came = let low = before-next o done w.b.run w.began.followed t there in let is = w.moment.number in inl (t, there, omega (arith, low, is), came)

  twice : 1 < times_of e.which (course_in w.b done s (In n) log).entered → HasComeBefore told_so_far (done ++ s ∷ []) e.which s.number
  twice more = ⊎_elim
      (λ some. let x = entered-then e.which told_so_far some in earlier x.0 x.1 (came-any e.which x.0.course.entered x.2))
      (λ few.
      let none : often_entered (recording_by o done w.b.run.log) e.which ≡ 0 = omega (arith, few) in
      let out_before : IsOut e.which before_it.slots = out-before e.which w.b.run.log done (stays-out e.which w.b.run.log done (others-told e.which told_so_far none)) in
      let sat = fresh-none e.which (not before_it.running) before_it.slots out_before in
      let put = put-at e.which log before_it s w.moment.up_to.uncut n w.moment.is in
      inr (s, Contains-push done s, refl, omega (arith, more, sat, put)))
      (cases_lt 0 (often_entered (recording_by o done w.b.run.log) e.which))

  came-before : MayBeWrittenSo o w.b done (course_in w.b done s (In n) log) waits s.number k.cabin.slots e.which → HasComeBefore told_so_far (done ++ s ∷ []) e.which s.number
  came-before may = ⊎_elim
      (λ past.
      let x = some-came e.which (λ (t : ToldSecond). nat_le t.second.number may.time && nat_eq (t.second.number / 60) (may.time / 60)) told_so_far past in
      earlier x.0 x.1 x.2)
      (λ now. let less = now.1 in let one_ = waits-one in twice (omega (arith, less, one_)))
      may.entered_then

  -- each image that it may leave is that of the start, or it has come before
  pub came-first : ((x : List ℕ) → X.may_leave x → x ≡ card_image o.recording e.which) ⊎ HasComeBefore told_so_far (done ++ s ∷ []) e.which s.number
  came-first = ⊎_elim (λ whole. inl whole) (λ may. inr (came-before may)) (written-or o done s n waits fewer e k out unfound next_ begun minutes U X Z w m coherent)
