-- Which cards a run puts in and takes out, action by action and second by second; later lines of a log change nothing of it.
use Rattle.std.proofs.Common.{◌≡◌, ◌∙◌, ⊎_elim, ℕ, suc, ◌+◌, ◌≤◌, ◌<◌, Bool, true, false, cond, not, ◌||◌, Option, Some, None, is_some, List, [], ◌∷◌, ◌++◌, All, Contains, length, map, fold, refl, ap, sym, subst, arith, append-nil, append_assoc}
use Rattle.std.specs.Prelude.{nat_lt}
use Rattle.std.proofs.lemmas.List.Elements.{All-head, All-tail, Contains-append_left, Contains-append_right, Contains-append_cases, Contains-push}
use Rattle.run_events.specs.activity_codec.declared.values.Slot.{Slot}
use Rattle.run_events.specs.activity_codec.declared.values.Slot.TheVariants.{Driver, CoDriver}
use Rattle.run_devices.specs.trace_model.declared.Action.{Action}
use Rattle.run_devices.specs.trace_model.declared.Action.TheVariants.{Insert, Withdraw}
use Rattle.run_devices.specs.trace_model.declared.Card.{Card}
use Rattle.run_devices.specs.trace_model.Trace.{TraceSecond}
use Rattle.run_devices.specs.log_model.declared.lines.SlotFault.{SlotFault}
use Rattle.run_devices.specs.log_model.Log.{RunLog, Phase, In, cut_in, is_torn_in, found_in}
use Rattle.run_devices.specs.log_model.Slots.{Slots, Sitting, in_slot, refusal}
use Rattle.run_devices.specs.log_model.Same.{SameAt}
use Rattle.run_devices.specs.log_model.Course.{Course, ToldSecond, Before, Moved, Went, card_in, slot_told, both_told, moved_by, unmoved, answered, fresh, begins, is_settling, acted, all_acted, has_power, second_told, before_next, not_begun, went, went_on}
use Rattle.run_devices.specs.note_model.Done.{course_powered}
use Rattle.run_devices.specs.note_model.Noted.{accepted_card}
use Rattle.run_events.specs.run_rings.Notes.{TellSameTo, course_behind}
use Rattle.run_note_record.specs.Moved.{Move, goes_in, goes_out, moves_of, moves_from, woken, moves_to, moves_by, moves_behind, moves_in, moves_so_far}
use Rattle.run_note_record.proofs.Noted.{acted-same, powered-same, second-same}

-- ---- one after another

from-append : (log : RunLog) (s : TraceSecond) (n : ℕ) (xs ys : List Action) (c : Course) → moves_from log s n (xs ++ ys) c ≡ moves_from log s n xs c ++ moves_from log s (n + length xs) ys (all_acted log s n xs c)
from-append log s n [] ys c = let same : n ≡ n + 0 = omega arith in ap (λ (k : ℕ). moves_from log s k ys c) same
from-append log s n (x ∷ xs) ys c =
    let first : List Move = cond (begins (cut_in log s.number) n) (moves_of s.number (refusal c.slots s.speed x) x c.slots) [] in
    let next : Course = acted log s n x c in
    let same : n + 1 + length xs ≡ n + suc (length xs) = omega arith in
    ap (λ (l : List Move). first ++ l) (from-append log s (n + 1) xs ys next ∙ ap (λ (k : ℕ). moves_from log s (n + 1) xs next ++ moves_from log s k ys (all_acted log s (n + 1) xs next)) same)
    ∙ sym (append_assoc first (moves_from log s (n + 1) xs next) (moves_from log s (n + suc (length xs)) ys (all_acted log s (n + 1) xs next)))

to-append : (log : RunLog) (before : Before) (s : TraceSecond) (front rest : List Action) → moves_to log before s (front ++ rest) ≡ moves_to log before s front ++ moves_from log s (length front) rest (course_behind log before s front)
to-append log before s front rest =
    let c : Course = course_powered log before s in
    let first : List Move = woken (not before.running) s.number before.slots in
    let zero_more : 0 + length front ≡ length front = omega arith in
    ap (λ (l : List Move). first ++ l) (from-append log s 0 front rest c ∙ ap (λ (k : ℕ). moves_from log s 0 front c ++ moves_from log s k rest (all_acted log s 0 front c)) zero_more)
    ∙ sym (append_assoc first (moves_from log s 0 front c) (moves_from log s (length front) rest (all_acted log s 0 front c)))

-- what these moved, these and more have moved
pub moves-front : (log : RunLog) (before : Before) (s : TraceSecond) (front rest : List Action) (m : Move) → Contains (moves_to log before s front) m → Contains (moves_to log before s (front ++ rest)) m
moves-front log before s front rest m at =
    subst (λ (l : List Move). Contains l m) (sym (to-append log before s front rest))
    (Contains-append_left (moves_to log before s front) (moves_from log s (length front) rest (course_behind log before s front)) m at)

-- ---- ONE ACTION MORE, which has begun
module _ (log : RunLog) (before : Before) (s : TraceSecond) (front : List Action) (begun : begins (cut_in log s.number) (length front) ≡ true) where
  abbrev there : Slots
  there = (course_behind log before s front).slots

  action-moves : (a : Action) (m : Move) → Contains (moves_of s.number (refusal there s.speed a) a there) m → Contains (moves_to log before s (front ++ a ∷ [])) m
  action-moves a m at =
      let one : List Move = moves_of s.number (refusal there s.speed a) a there in
      let is : moves_from log s (length front) (a ∷ []) (course_behind log before s front) ≡ one = append-nil (cond (begins (cut_in log s.number) (length front)) one []) ∙ ap (λ (b : Bool). cond b one []) begun in
      subst (λ (l : List Move). Contains l m) (sym (to-append log before s front (a ∷ [])))
      (Contains-append_right (moves_to log before s front) (moves_from log s (length front) (a ∷ []) (course_behind log before s front)) m (subst (λ (l : List Move). Contains l m) (sym is) at))

  -- a card is put in,
  pub put-moves : (slot : Slot) (card : Card) → refusal there s.speed (Insert slot card) ≡ None → Contains (moves_to log before s (front ++ Insert slot card ∷ [])) (goes_in s.number card)
  put-moves slot card fine =
      action-moves (Insert slot card) (goes_in s.number card)
      (subst (λ (r : Option SlotFault). Contains (moves_of s.number r (Insert slot card) there) (goes_in s.number card)) (sym fine) (Contains-push [] (goes_in s.number card)))

  -- or an accepted one is withdrawn
  pub taken-moves : (slot : Slot) (x : Sitting) → in_slot there slot ≡ Some x → nat_lt 0 s.speed ≡ false → is_some x.accepted ≡ true → Contains (moves_to log before s (front ++ Withdraw slot ∷ [])) (goes_out s.number x.card)
  taken-moves slot x sits still accepted =
      let sat : is_some (in_slot there slot) ≡ true = ap (λ (o : Option Sitting). is_some o) sits in
      let fine : refusal there s.speed (Withdraw slot) ≡ None = rw sat (rw still refl) in
      let one : accepted_card (in_slot there slot) ≡ x.card ∷ [] = ap accepted_card sits ∙ ap (λ (b : Bool). cond b (x.card ∷ []) []) accepted in
      action-moves (Withdraw slot) (goes_out s.number x.card)
      (subst (λ (r : Option SlotFault). Contains (moves_of s.number r (Withdraw slot) there) (goes_out s.number x.card)) (sym fine)
      (subst (λ (cards : List Card). Contains (map (λ (card : Card). goes_out s.number card) cards) (goes_out s.number x.card)) (sym one) (Contains-push [] (goes_out s.number x.card))))

-- ---- POWER BEGINS with a card in a slot

-- the card of a slot is put in
abbrev put_anew : (second : ℕ) → Option Sitting → List Move
put_anew u o = map (λ (card : Card). goes_in u card) (card_in o)

one-anew : (u : ℕ) (o : Option Sitting) (x : Sitting) → o ≡ Some x → Contains (put_anew u o) (goes_in u x.card)
one-anew u o x is = subst (λ (q : Option Sitting). Contains (put_anew u q) (goes_in u x.card)) (sym is) (Contains-push [] (goes_in u x.card))

slot-anew : (u : ℕ) (slots : Slots) (slot : Slot) (x : Sitting) → in_slot slots slot ≡ Some x → Contains (woken true u slots) (goes_in u x.card)
slot-anew u slots Driver x is = Contains-append_left (put_anew u slots.driver) (put_anew u slots.codriver) (goes_in u x.card) (one-anew u slots.driver x is)
slot-anew u slots CoDriver x is = Contains-append_right (put_anew u slots.driver) (put_anew u slots.codriver) (goes_in u x.card) (one-anew u slots.codriver x is)

pub woken-moves : (log : RunLog) (before : Before) (s : TraceSecond) → before.running ≡ false → (slot : Slot) (x : Sitting) → in_slot before.slots slot ≡ Some x → Contains (moves_to log before s []) (goes_in s.number x.card)
woken-moves log before s off slot x sits =
    subst (λ (b : Bool). Contains (woken (not b) s.number before.slots ++ []) (goes_in s.number x.card)) (sym off)
    (Contains-append_left (woken true s.number before.slots) [] (goes_in s.number x.card) (slot-anew s.number before.slots slot x sits))

-- ---- LATER LINES of a log that tells the same up to a moment

module _ (log later : RunLog) (s : TraceSecond) where
  pub both-to : (p : Phase) (moved : Moved) (c : Course) → ((slot : Slot) → is_torn_in later s.number p slot ≡ is_torn_in log s.number p slot) → ((slot : Slot) → found_in later s.number p slot ≡ found_in log s.number p slot) → both_told later s.number p moved c ≡ both_told log s.number p moved c
  both-to p moved c torn found = one CoDriver (slot_told later s.number p moved Driver c) ∙ ap (λ (x : Course). slot_told log s.number p moved CoDriver x) (one Driver c)
    where
      one : (slot : Slot) (x : Course) → slot_told later s.number p moved slot x ≡ slot_told log s.number p moved slot x
      one slot x = rw (torn slot) (rw (found slot) refl)

  pub acted-to : (n m : ℕ) (a : Action) (c : Course) → TellSameTo log later s.number m → n < m → acted later s n a c ≡ acted log s n a c
  acted-to n m a c t lt =
      let moved : Moved = moved_by n (refusal c.slots s.speed a) a c.slots in
      let next : Course = answered n (refusal c.slots s.speed a) a c in
      ap (λ (b : Bool). cond b (both_told later s.number (In (n + 1)) moved next) (record c { settled = c.settled || is_settling a })) (t.begun_later n lt)
      ∙ both-to (In (n + 1)) moved next (λ slot. t.torn (n + 1) slot (omega (arith, lt))) (λ slot. t.found (n + 1) slot (omega (arith, lt)))
      ∙ sym (ap (λ (b : Bool). cond b (both_told log s.number (In (n + 1)) moved next) (record c { settled = c.settled || is_settling a })) (t.begun n lt))

  from-to : (m n : ℕ) (acts : List Action) (c : Course) → TellSameTo log later s.number m → n + length acts ≤ m → moves_from later s n acts c ≡ moves_from log s n acts c
  from-to m n [] c t le = refl
  from-to m n (a ∷ acts) c t le =
      let lt : n < m = omega (arith, le) in
      let one : List Move = moves_of s.number (refusal c.slots s.speed a) a c.slots in
      let first : cond (begins (cut_in later s.number) n) one [] ≡ cond (begins (cut_in log s.number) n) one [] = ap (λ (b : Bool). cond b one []) (t.begun_later n lt ∙ sym (t.begun n lt)) in
      let rest : moves_from later s (n + 1) acts (acted later s n a c) ≡ moves_from log s (n + 1) acts (acted log s n a c) =
      ap (λ (d : Course). moves_from later s (n + 1) acts d) (acted-to n m a c t lt) ∙ from-to m (n + 1) acts (acted log s n a c) t (omega (arith, le)) in
      λ i. first i ++ rest i

  pub moves-later : (before : Before) (front : List Action) → TellSameTo log later s.number (length front) → moves_to later before s front ≡ moves_to log before s front
  moves-later before front t =
      let powered : course_powered later before s ≡ course_powered log before s =
      both-to (In 0) (unmoved (not before.running)) (fresh (not before.running) before.slots) (λ slot. t.torn 0 slot (omega arith)) (λ slot. t.found 0 slot (omega arith)) in
      ap (λ (l : List Move). woken (not before.running) s.number before.slots ++ l)
      (ap (λ (c : Course). moves_from later s 0 front c) powered ∙ from-to (length front) 0 front (course_powered log before s) t (omega arith))

-- ---- SECONDS THAT BOTH TELL ALIKE move the same

module _ (log later : RunLog) where
  from-alike : (s : TraceSecond) → SameAt log later s.number → (n : ℕ) (acts : List Action) (c : Course) → moves_from later s n acts c ≡ moves_from log s n acts c
  from-alike s same n [] c = refl
  from-alike s same n (a ∷ acts) c =
      let one : List Move = moves_of s.number (refusal c.slots s.speed a) a c.slots in
      let first : cond (begins (cut_in later s.number) n) one [] ≡ cond (begins (cut_in log s.number) n) one [] = ap (λ (o : Option ℕ). cond (begins o n) one []) same.cut in
      let rest : moves_from later s (n + 1) acts (acted later s n a c) ≡ moves_from log s (n + 1) acts (acted log s n a c) =
      ap (λ (d : Course). moves_from later s (n + 1) acts d) (acted-same log later s same n a c) ∙ from-alike s same (n + 1) acts (acted log s n a c) in
      λ i. first i ++ rest i

  by-alike : (before : Before) (s : TraceSecond) → SameAt log later s.number → moves_by later before s ≡ moves_by log before s
  by-alike before s same =
      ap (λ (l : List Move). cond (has_power before s) (woken (not before.running) s.number before.slots ++ l) [])
      (ap (λ (c : Course). moves_from later s 0 s.actions c) (powered-same log later before s same) ∙ from-alike s same 0 s.actions (course_powered log before s))

  behind-alike : (before : Before) (ss : List TraceSecond) → All (λ (s : TraceSecond). SameAt log later s.number) ss → moves_behind later before ss ≡ moves_behind log before ss
  behind-alike before [] all = refl
  behind-alike before (s ∷ ss) all =
      let same : SameAt log later s.number = All-head (λ (s : TraceSecond). SameAt log later s.number) s ss all in
      let here : moves_by later before s ≡ moves_by log before s = by-alike before s same in
      let rest : moves_behind later (before_next before (second_told later before s)) ss ≡ moves_behind log (before_next before (second_told log before s)) ss =
      behind-alike (before_next before (second_told later before s)) ss (All-tail (λ (s : TraceSecond). SameAt log later s.number) s ss all)
      ∙ ap (λ (t : ToldSecond). moves_behind log (before_next before t) ss) (second-same log later before s same) in
      λ i. here i ++ rest i

  pub moves-alike : (ss : List TraceSecond) → All (λ (s : TraceSecond). SameAt log later s.number) ss → moves_in later ss ≡ moves_in log ss
  unfolding moves_in
  moves-alike ss all = behind-alike not_begun.before ss all

-- ---- A SECOND MORE

behind-on : (log : RunLog) (ss : List TraceSecond) (s : TraceSecond) (before : Before) (v : Went) → v.before ≡ before → moves_behind log before (ss ++ s ∷ []) ≡ moves_behind log before ss ++ moves_by log (fold (went_on log) v ss).before s
behind-on log [] s before v is = append-nil (moves_by log before s) ∙ ap (λ (b : Before). moves_by log b s) (sym is)
behind-on log (x ∷ ss) s before v is =
    let next : Before = before_next before (second_told log before x) in
    ap (λ (l : List Move). moves_by log before x ++ l) (behind-on log ss s next (went_on log v x) (ap (λ (b : Before). before_next b (second_told log b x)) is))
    ∙ sym (append_assoc (moves_by log before x) (moves_behind log next ss) (moves_by log (fold (went_on log) (went_on log v x) ss).before s))

pub moves-on : (log : RunLog) (ss : List TraceSecond) (s : TraceSecond) → moves_in log (ss ++ s ∷ []) ≡ moves_in log ss ++ moves_by log (went log ss).before s
unfolding moves_in went
moves-on log ss s = behind-on log ss s not_begun.before not_begun refl

-- what was moved before it stays moved
pub moves-before : (log later : RunLog) (ss : List TraceSecond) (s : TraceSecond) → All (λ (x : TraceSecond). SameAt log later x.number) ss → (m : Move) → Contains (moves_in log ss) m → Contains (moves_in later (ss ++ s ∷ [])) m
moves-before log later ss s all m at =
    subst (λ (l : List Move). Contains l m) (sym (moves-on later ss s))
    (Contains-append_left (moves_in later ss) (moves_by later (went later ss).before s) m (subst (λ (l : List Move). Contains l m) (sym (moves-alike log later ss all)) at))

-- with power
pub by-power : (log : RunLog) (before : Before) (s : TraceSecond) → has_power before s ≡ true → moves_by log before s ≡ moves_to log before s s.actions
by-power log before s power = rw power refl

-- and so does what it has moved so far, once it has ended
pub moves-ended : (began later : RunLog) (done : List TraceSecond) (s : TraceSecond) (front rest : List Action) → All (λ (x : TraceSecond). SameAt began later x.number) done → (went later done).before ≡ (went began done).before → has_power (went began done).before s ≡ true
    → s.actions ≡ front ++ rest → (m : Move) → Contains (moves_so_far began done later s front) m → Contains (moves_in later (done ++ s ∷ [])) m
moves-ended began later done s front rest all before_is power are m at = ⊎_elim
    (λ old. moves-before began later done s all m old)
    (λ now.
    let was : Before = (went began done).before in
    let whole : moves_by later (went later done).before s ≡ moves_to later was s (front ++ rest) = ap (λ (b : Before). moves_by later b s) before_is ∙ by-power later was s power ∙ ap (λ (l : List Action). moves_to later was s l) are in
    subst (λ (l : List Move). Contains l m) (sym (moves-on later done s))
    (Contains-append_right (moves_in later done) (moves_by later (went later done).before s) m
    (subst (λ (l : List Move). Contains l m) (sym whole) (moves-front later was s front rest m now))))
    (Contains-append_cases (moves_in began done) (moves_to later (went began done).before s front) m at)

-- by a later log, and with actions more
pub moves-more : (began log later : RunLog) (done : List TraceSecond) (s : TraceSecond) (front back : List Action) → ((m : Move) → Contains (moves_to log (went began done).before s front) m → Contains (moves_to later (went began done).before s back) m) →
    (m : Move) → Contains (moves_so_far began done log s front) m → Contains (moves_so_far began done later s back) m
moves-more began log later done s front back more m at = ⊎_elim
    (λ old. Contains-append_left (moves_in began done) (moves_to later (went began done).before s back) m old)
    (λ now. Contains-append_right (moves_in began done) (moves_to later (went began done).before s back) m (more m now))
    (Contains-append_cases (moves_in began done) (moves_to log (went began done).before s front) m at)
