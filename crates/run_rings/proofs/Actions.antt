-- What each action of a second notes in the rings.
use Rattle.std.proofs.Common.{◌≡◌, ℕ, suc, ◌+◌, ◌<◌, Bool, true, false, cond, not, ◌&&◌, ◌||◌, Option, Some, None, List, [], ◌∷◌, ◌++◌, map, filter, length, nat_eq, is_some, refl, ap, ◌∙◌, arith, append-nil}
use Rattle.std.specs.Prelude.{flat_map, nat_lt, option_map}
use Rattle.std.specs.List.{list_any}
use Rattle.std.proofs.lemmas.Bool.Decides.{nat_tests}
use Rattle.activity_codec.specs.declared.values.Pick.{Pick}
use Rattle.activity_codec.specs.declared.values.Slot.{Slot}
use Rattle.activity_codec.specs.declared.values.Slot.TheVariants.{Driver, CoDriver}
use Rattle.trace_model.specs.declared.Card.{Card}
use Rattle.trace_model.specs.declared.Action.{Action}
use Rattle.trace_model.specs.declared.Action.TheVariants.{Select, Insert, Withdraw, Tear, Place, Manual}
use Rattle.trace_model.specs.Trace.{TraceSecond}
use Rattle.log_model.specs.declared.lines.SlotFault.{SlotFault}
use Rattle.log_model.specs.declared.lines.Verdict.{Verdict}
use Rattle.log_model.specs.Log.{RunLog, Phase, In, same_phase, cut_in, is_torn_in, found_in, is_accepting}
use Rattle.log_model.specs.Slots.{Sitting, in_slot, is_accepted, refusal}
use Rattle.log_model.specs.Course.{Course, Visit, Before, Moved, card_in, visits, leaves, with_slot, answered, unmoved, moved_by, fresh, slot_told, both_told, begins, is_settling, acted, all_acted}
use Rattle.note_model.specs.Done.{CarriedOut, course_powered}
use Rattle.note_model.specs.Noted.{Note, Accepts, Withdraws, Enters, accepted_card}
use Rattle.run_rings.specs.Notes.{accepted_in, noted_if, notes_to, course_behind, accepts_by, sits_accepted, NotesMore, SelectionsNoteNothing, PullsNoteNothing, EntriesByHandNoteNothing, RefusalsNoteNothing, PlacesAreNoted, WithdrawalsAreNoted, InsertionsAreNoted, PowerOnsAreNoted}
use Rattle.run_rings.proofs.Notes.{Finding, is_at, seen_of, verdicts_at, seen_at, judged_at, accepted-append, slot-found, seen-other, answered-found, action-notes}

-- ---- nothing was found yet of a later moment

same-itself : (n : ℕ) → nat_eq n n ≡ true
same-itself n = grind (arith, nat_tests)

slot-other : (log : RunLog) (u : ℕ) (p q : Phase) (moved : Moved) (slot : Slot) (c : Course) → same_phase p q ≡ false → accepted_in u q (slot_told log u p moved slot c).found ≡ accepted_in u q c.found
slot-other log u p q moved slot c ne =
    ap (λ (l : List Finding). accepted_in u q l) (slot-found log u p moved slot c) ∙ accepted-append u q c.found (seen_at log u p moved slot c)
    ∙ ap (λ (l : List Note). accepted_in u q c.found ++ l) (seen-other log u p q moved slot c ne) ∙ append-nil (accepted_in u q c.found)

both-other : (log : RunLog) (u : ℕ) (p q : Phase) (moved : Moved) (c : Course) → same_phase p q ≡ false → accepted_in u q (both_told log u p moved c).found ≡ accepted_in u q c.found
both-other log u p q moved c ne = slot-other log u p q moved CoDriver (slot_told log u p moved Driver c) ne ∙ slot-other log u p q moved Driver c ne

acted-other : (log : RunLog) (s : TraceSecond) (n m : ℕ) (a : Action) (c : Course) → nat_eq (n + 1) m ≡ false → accepted_in s.number (In m) (acted log s n a c).found ≡ accepted_in s.number (In m) c.found
acted-other log s n m a c other = by (begins (cut_in log s.number) n)
  where
    by : (b : Bool) → accepted_in s.number (In m) (cond b (both_told log s.number (In (n + 1)) (moved_by n (refusal c.slots s.speed a) a c.slots) (answered n (refusal c.slots s.speed a) a c)) (record c { settled = c.settled || is_settling a })).found
        ≡ accepted_in s.number (In m) c.found
    by true = both-other log s.number (In (n + 1)) (In m) (moved_by n (refusal c.slots s.speed a) a c.slots) (answered n (refusal c.slots s.speed a) a c) other ∙ ap (λ (l : List Finding). accepted_in s.number (In m) l) (answered-found n (refusal c.slots s.speed a) a c)
    by false = refl

all-other : (log : RunLog) (s : TraceSecond) (n m : ℕ) (as_ : List Action) (c : Course) → n + length as_ < m → accepted_in s.number (In m) (all_acted log s n as_ c).found ≡ accepted_in s.number (In m) c.found
all-other log s n m [] c lt = refl
all-other log s n m (a ∷ as_) c lt =
    let ne : nat_eq (n + 1) m ≡ false = apart n m (length as_) lt in
    all-other log s (n + 1) m as_ (acted log s n a c) (omega (arith, lt)) ∙ acted-other log s n m a c ne
  where
    apart : (n m k : ℕ) → n + suc k < m → nat_eq (n + 1) m ≡ false
    apart n m k lt = grind (arith, nat_tests)

-- behind these actions nothing was found at the next one
pub none-ahead : (log : RunLog) (before : Before) (s : TraceSecond) (front : List Action) → accepted_in s.number (In (length front + 1)) (course_behind log before s front).found ≡ []
none-ahead log before s front =
    let zero_apart : nat_eq 0 (length front + 1) ≡ false = apart (length front) in
    all-other log s 0 (length front + 1) front (course_powered log before s) (omega arith)
    ∙ both-other log s.number (In 0) (In (length front + 1)) (unmoved (not before.running)) (fresh (not before.running) before.slots) zero_apart
  where
    apart : (n : ℕ) → nat_eq 0 (n + 1) ≡ false
    apart n = grind (arith, nat_tests)

-- ---- no card enters

-- where no card enters a slot, nothing is found there
flat-none : (vs : List Visit) → flat_map {A = Finding} (λ (visit : Visit). map (λ (v : Verdict). (visit, v)) []) vs ≡ []
flat-none [] = refl
flat-none (v ∷ vs) = flat-none vs

slot-none : (log : RunLog) (u : ℕ) (p : Phase) (moved : Moved) (slot : Slot) (c : Course) → moved.enters slot ≡ false → (slot_told log u p moved slot c).found ≡ c.found
slot-none log u p moved slot c none =
    slot-found log u p moved slot c
    ∙ ap (λ (b : Bool). c.found ++ flat_map (λ (visit : Visit). map (λ (v : Verdict). (visit, v)) (cond b (found_in log u p slot) [])) (visits p slot c.slots)) none
    ∙ ap (λ (l : List Finding). c.found ++ l) (flat-none (visits p slot c.slots))
    ∙ append-nil c.found

both-none : (log : RunLog) (u : ℕ) (p : Phase) (moved : Moved) (c : Course) → moved.enters Driver ≡ false → moved.enters CoDriver ≡ false → (both_told log u p moved c).found ≡ c.found
both-none log u p moved c driver codriver = slot-none log u p moved CoDriver (slot_told log u p moved Driver c) codriver ∙ slot-none log u p moved Driver c driver

-- ---- an action more

module _ (log : RunLog) (before : Before) (s : TraceSecond) (front : List Action) where
  abbrev u : ℕ
  u = s.number

  abbrev n : ℕ
  n = length front

  abbrev c : Course
  c = course_behind log before s front

  -- what it notes by itself, once it has begun
  abbrev one_notes : Option SlotFault → Action → List Note
  one_notes r a = noted_if r log u (record { before = n; action = a; slots = c.slots; after = (acted log s n a c).slots }) (acted log s n a c).found

  by-begun : (b : Bool) (a : Action) (more : List Note) → begins (cut_in log u) n ≡ b → (b ≡ true → one_notes (refusal c.slots s.speed a) a ≡ more) → (b ≡ false → [] ≡ more) → NotesMore log before s front a more
  by-begun b a more is yes_ no_ =
      action-notes log before s front a
      ∙ ap (λ (l : List Note). notes_to log before s front ++ l) (append-nil (cond (begins (cut_in log u) n) (one_notes (refusal c.slots s.speed a) a) []) ∙ ap (λ (d : Bool). cond d (one_notes (refusal c.slots s.speed a) a) []) is ∙ pick b yes_ no_)
    where
      pick : (b : Bool) → (b ≡ true → one_notes (refusal c.slots s.speed a) a ≡ more) → (b ≡ false → [] ≡ more) → cond b (one_notes (refusal c.slots s.speed a) a) [] ≡ more
      pick true y n = y refl
      pick false y n = n refl

  more-notes : (a : Action) (more : List Note) → begins (cut_in log u) n ≡ true → one_notes (refusal c.slots s.speed a) a ≡ more → NotesMore log before s front a more
  more-notes a more is notes = by-begun true a more is (λ _. notes) (λ bad. absurd (cc))

  nothing-notes : (a : Action) → one_notes (refusal c.slots s.speed a) a ≡ [] → NotesMore log before s front a []
  nothing-notes a notes = by-begun (begins (cut_in log u) n) a [] refl (λ _. notes) (λ _. refl)

  -- an action that lets no card enter finds none at its moment
  quiet-found : (a : Action) → begins (cut_in log u) n ≡ true → (moved_by n (refusal c.slots s.speed a) a c.slots).enters Driver ≡ false → (moved_by n (refusal c.slots s.speed a) a c.slots).enters CoDriver ≡ false →
      accepted_in u (In (n + 1)) (acted log s n a c).found ≡ []
  quiet-found a is driver codriver =
      let moved : Moved = moved_by n (refusal c.slots s.speed a) a c.slots in
      let next : Course = answered n (refusal c.slots s.speed a) a c in
      ap (λ (b : Bool). accepted_in u (In (n + 1)) (cond b (both_told log u (In (n + 1)) moved next) (record c { settled = c.settled || is_settling a })).found) is
      ∙ ap (λ (l : List Finding). accepted_in u (In (n + 1)) l) (both-none log u (In (n + 1)) moved next driver codriver ∙ answered-found n (refusal c.slots s.speed a) a c)
      ∙ none-ahead log before s front

  -- or has not begun
  quiet-any : (a : Action) → (moved_by n (refusal c.slots s.speed a) a c.slots).enters Driver ≡ false → (moved_by n (refusal c.slots s.speed a) a c.slots).enters CoDriver ≡ false → accepted_in u (In (n + 1)) (acted log s n a c).found ≡ []
  quiet-any a driver codriver = by (begins (cut_in log u) n) refl
    where
      by : (b : Bool) → begins (cut_in log u) n ≡ b → accepted_in u (In (n + 1)) (acted log s n a c).found ≡ []
      by true is = quiet-found a is driver codriver
      by false is =
          ap (λ (b : Bool). accepted_in u (In (n + 1)) (cond b (both_told log u (In (n + 1)) (moved_by n (refusal c.slots s.speed a) a c.slots) (answered n (refusal c.slots s.speed a) a c)) (record c { settled = c.settled || is_settling a })).found) is
          ∙ none-ahead log before s front

  refused-notes : (a : Action) (r : Option SlotFault) (fault : SlotFault) → refusal c.slots s.speed a ≡ r → r ≡ Some fault → NotesMore log before s front a []
  refused-notes a r fault is some = nothing-notes a (ap (λ (q : Option SlotFault). one_notes q a) (is ∙ some))

  select-notes : (slot : Slot) (pick : Pick) → NotesMore log before s front (Select slot pick) []
  select-notes slot pick = nothing-notes (Select slot pick) (quiet-any (Select slot pick) refl refl)

  -- by whether it is refused
  enters-none : (r : Option SlotFault) (slot at : Slot) → (moved_by n r (Tear slot) c.slots).enters at ≡ false
  enters-none None slot at = refl
  enters-none (Some fault) slot at = refl

  pull-notes : (slot : Slot) → NotesMore log before s front (Tear slot) []
  pull-notes slot = nothing-notes (Tear slot) (by (refusal c.slots s.speed (Tear slot)) (quiet-any (Tear slot) (enters-none (refusal c.slots s.speed (Tear slot)) slot Driver) (enters-none (refusal c.slots s.speed (Tear slot)) slot CoDriver)))
    where
      by : (r : Option SlotFault) → accepted_in u (In (n + 1)) (acted log s n (Tear slot) c).found ≡ [] → one_notes r (Tear slot) ≡ []
      by None none = none
      by (Some fault) none = refl

  -- an entry by hand lets no card enter either, refused or not
  hand-enters : (r : Option SlotFault) (slot : Slot) (pick : Pick) (minute : ℕ) (at : Slot) → (moved_by n r (Manual slot pick minute) c.slots).enters at ≡ false
  hand-enters None slot pick minute at = refl
  hand-enters (Some fault) slot pick minute at = refl

  hand-notes : (slot : Slot) (pick : Pick) (minute : ℕ) → NotesMore log before s front (Manual slot pick minute) []
  hand-notes slot pick minute =
      let a : Action = Manual slot pick minute in
      let r : Option SlotFault = refusal c.slots s.speed a in
      nothing-notes a (by r (quiet-any a (hand-enters r slot pick minute Driver) (hand-enters r slot pick minute CoDriver)))
    where
      by : (r : Option SlotFault) → accepted_in u (In (n + 1)) (acted log s n (Manual slot pick minute) c).found ≡ [] → one_notes r (Manual slot pick minute) ≡ []
      by None none = none
      by (Some fault) none = refl

  -- ---- a place

  place-notes : begins (cut_in log u) n ≡ true → (slot : Slot) (ending : Bool) (country region : ℕ) (x : Sitting) → in_slot c.slots slot ≡ Some x → is_some x.accepted ≡ true →
      NotesMore log before s front (Place slot ending country region) (Enters (record { second = u; card = x.card; ending = ending; country = country; region = region }) ∷ [])
  place-notes begun slot ending country region x sits accepted =
      let a : Action = Place slot ending country region in
      let there : is_accepted (in_slot c.slots slot) ≡ true = ap is_accepted sits ∙ accepted in
      let fine : refusal c.slots s.speed a ≡ None = rw there refl in
      let driver : (moved_by n (refusal c.slots s.speed a) a c.slots).enters Driver ≡ false = ap (λ (r : Option SlotFault). (moved_by n r a c.slots).enters Driver) fine in
      let codriver : (moved_by n (refusal c.slots s.speed a) a c.slots).enters CoDriver ≡ false = ap (λ (r : Option SlotFault). (moved_by n r a c.slots).enters CoDriver) fine in
      let none = quiet-found a begun driver codriver in
      let one : accepted_card (in_slot c.slots slot) ≡ x.card ∷ [] = ap accepted_card sits ∙ ap (λ (b : Bool). cond b (x.card ∷ []) []) accepted in
      more-notes a (Enters (record { second = u; card = x.card; ending = ending; country = country; region = region }) ∷ []) begun
      (ap (λ (r : Option SlotFault). one_notes r a) fine
      ∙ (λ i. map (λ (card : Card). Enters (record { second = u; card = card; ending = ending; country = country; region = region })) (one i) ++ none i))

  -- ---- a withdrawal

  withdraw-fine : (slot : Slot) (x : Sitting) → in_slot c.slots slot ≡ Some x → nat_lt 0 s.speed ≡ false → refusal c.slots s.speed (Withdraw slot) ≡ None
  withdraw-fine slot x sits still =
      let there : is_some (in_slot c.slots slot) ≡ true = ap (λ (o : Option Sitting). is_some o) sits in
      rw there (rw still refl)

  withdraw-quiet : (slot : Slot) → refusal c.slots s.speed (Withdraw slot) ≡ None → accepted_in u (In (n + 1)) (acted log s n (Withdraw slot) c).found ≡ []
  withdraw-quiet slot fine =
      quiet-any (Withdraw slot) (ap (λ (r : Option SlotFault). (moved_by n r (Withdraw slot) c.slots).enters Driver) fine) (ap (λ (r : Option SlotFault). (moved_by n r (Withdraw slot) c.slots).enters CoDriver) fine)

  abbrev withdraws : Bool → List Card → List Note
  withdraws torn cards = cond torn [] (map (λ (card : Card). Withdraws (record { second = u; card = card })) cards)

  withdraw-notes : (slot : Slot) (x : Sitting) → in_slot c.slots slot ≡ Some x → nat_lt 0 s.speed ≡ false → (torn : Bool) (cards : List Card) (more : List Note) → is_torn_in log u (In (n + 1)) slot ≡ torn → accepted_card (in_slot c.slots slot) ≡ cards → withdraws torn cards ≡ more →
      one_notes (refusal c.slots s.speed (Withdraw slot)) (Withdraw slot) ≡ more
  withdraw-notes slot x sits still torn cards more is there notes =
      let fine = withdraw-fine slot x sits still in
      let none = withdraw-quiet slot fine in
      ap (λ (r : Option SlotFault). one_notes r (Withdraw slot)) fine ∙ (λ i. withdraws (is i) (there i) ++ none i) ∙ append-nil (withdraws torn cards) ∙ notes

  withdrawal-torn : (slot : Slot) (x : Sitting) → in_slot c.slots slot ≡ Some x → nat_lt 0 s.speed ≡ false → is_torn_in log u (In (n + 1)) slot ≡ true → NotesMore log before s front (Withdraw slot) []
  withdrawal-torn slot x sits still torn = nothing-notes (Withdraw slot) (withdraw-notes slot x sits still true (accepted_card (in_slot c.slots slot)) [] torn refl refl)

  withdrawal-bare : (slot : Slot) (x : Sitting) → in_slot c.slots slot ≡ Some x → nat_lt 0 s.speed ≡ false → x.accepted ≡ None → NotesMore log before s front (Withdraw slot) []
  withdrawal-bare slot x sits still bare =
      let none : accepted_card (in_slot c.slots slot) ≡ [] = ap accepted_card sits ∙ ap (λ (o : Option ℕ). cond (is_some o) (x.card ∷ []) []) bare in
      nothing-notes (Withdraw slot) (withdraw-notes slot x sits still (is_torn_in log u (In (n + 1)) slot) [] [] refl none (either (is_torn_in log u (In (n + 1)) slot)))
    where
      either : (b : Bool) → withdraws b [] ≡ []
      either true = refl
      either false = refl

  withdrawal-noted : begins (cut_in log u) n ≡ true → (slot : Slot) (x : Sitting) → in_slot c.slots slot ≡ Some x → nat_lt 0 s.speed ≡ false → is_torn_in log u (In (n + 1)) slot ≡ false → is_some x.accepted ≡ true →
      NotesMore log before s front (Withdraw slot) (Withdraws (record { second = u; card = x.card }) ∷ [])
  withdrawal-noted begun slot x sits still torn accepted =
      let one : accepted_card (in_slot c.slots slot) ≡ x.card ∷ [] = ap accepted_card sits ∙ ap (λ (b : Bool). cond b (x.card ∷ []) []) accepted in
      more-notes (Withdraw slot) (Withdraws (record { second = u; card = x.card }) ∷ []) begun (withdraw-notes slot x sits still false (x.card ∷ []) (Withdraws (record { second = u; card = x.card }) ∷ []) torn one refl)

-- ---- a card that enters

-- what was found of a visit at its moment
visit-accepts : (w m : ℕ) (slot : Slot) (card : Card) (verdicts : List Verdict) → accepted_in w (In m) (seen_of (record { phase = In m; slot = slot; card = card }) verdicts) ≡ accepts_by w slot card verdicts
visit-accepts w m slot card [] = refl
visit-accepts w m slot card (v ∷ verdicts) =
    let visit : Visit = record { phase = In m; slot = slot; card = card } in
    let test : is_at (In m) (visit, v) ≡ is_accepting v = ap (λ (b : Bool). b && is_accepting v) (same-itself m) in
    ap (λ (b : Bool). map (λ (f : Finding). Accepts (record { second = w; slot = f.0.slot; card = f.0.card })) (cond b ((visit, v) ∷ filter (is_at (In m)) (seen_of visit verdicts)) (filter (is_at (In m)) (seen_of visit verdicts)))) test
    ∙ by (is_accepting v) (visit-accepts w m slot card verdicts)
  where
    by : (b : Bool) → accepted_in w (In m) (seen_of (record { phase = In m; slot = slot; card = card }) verdicts) ≡ accepts_by w slot card verdicts →
        map (λ (f : Finding). Accepts (record { second = w; slot = f.0.slot; card = f.0.card }))
        (cond b ((record { phase = In m; slot = slot; card = card }, v) ∷ filter (is_at (In m)) (seen_of (record { phase = In m; slot = slot; card = card }) verdicts)) (filter (is_at (In m)) (seen_of (record { phase = In m; slot = slot; card = card }) verdicts)))
        ≡ map (λ (w_ : Verdict). Accepts (record { second = w; slot = slot; card = card })) (cond b (v ∷ filter is_accepting verdicts) (filter is_accepting verdicts))
    by true rest = ap (λ (l : List Note). Accepts (record { second = w; slot = slot; card = card }) ∷ l) rest
    by false rest = rest

-- of the card of a slot, where one enters
slot-accepts : (log : RunLog) (w m : ℕ) (moved : Moved) (slot : Slot) (d : Course) (o : Option Sitting) → in_slot d.slots slot ≡ o → moved.enters slot ≡ true → accepted_in w (In m) (slot_told log w (In m) moved slot d).found ≡ accepted_in w (In m) d.found ++ sits_accepted w slot o (found_in log w (In m) slot)
slot-accepts log w m moved slot d o sits enters =
    ap (λ (l : List Finding). accepted_in w (In m) l) (slot-found log w (In m) moved slot d) ∙ accepted-append w (In m) d.found (seen_at log w (In m) moved slot d)
    ∙ ap (λ (l : List Note). accepted_in w (In m) d.found ++ l)
    (ap (λ (b : Bool). accepted_in w (In m) (flat_map (λ (visit : Visit). map (λ (v : Verdict). (visit, v)) (cond b (found_in log w (In m) slot) [])) (visits (In m) slot d.slots))) enters
    ∙ ap (λ (q : Option Sitting). accepted_in w (In m) (flat_map (λ (visit : Visit). map (λ (v : Verdict). (visit, v)) (found_in log w (In m) slot)) (map (λ (card : Card). record { phase = In m; slot = slot; card = card }) (card_in q)))) sits
    ∙ by o)
  where
    by : (o : Option Sitting) → accepted_in w (In m) (flat_map (λ (visit : Visit). map (λ (v : Verdict). (visit, v)) (found_in log w (In m) slot)) (map (λ (card : Card). record { phase = In m; slot = slot; card = card }) (card_in o))) ≡ sits_accepted w slot o (found_in log w (In m) slot)
    by None = refl
    by (Some x) =
        ap (λ (l : List Finding). accepted_in w (In m) l) (append-nil (seen_of (record { phase = In m; slot = slot; card = x.card }) (found_in log w (In m) slot))) ∙ visit-accepts w m slot x.card (found_in log w (In m) slot)

-- what is told of the driver slot leaves the other one
codriver-stays : (log : RunLog) (w : ℕ) (p : Phase) (moved : Moved) (d : Course) → (slot_told log w p moved Driver d).slots.codriver ≡ d.slots.codriver
codriver-stays log w p moved d = by (is_torn_in log w p Driver) (list_any is_accepting (verdicts_at log w p moved Driver))
  where
    by : (b e : Bool) → (cond b (record (leaves Driver (judged_at log w p moved Driver d)) { torn = d.torn ++ (moved.leaving Driver ++ visits p Driver d.slots) })
        (cond e (record (judged_at log w p moved Driver d) { slots = with_slot d.slots Driver (option_map {T = Sitting} (λ x. record x { accepted = Some w }) (in_slot d.slots Driver)) }) (judged_at log w p moved Driver d))).slots.codriver ≡ d.slots.codriver
    by true e = refl
    by false true = refl
    by false false = refl

module _ (log : RunLog) (before : Before) (s : TraceSecond) (front : List Action) (begun : begins (cut_in log s.number) (length front) ≡ true) where
  -- a card that is put in
  put-found : (slot : Slot) (card : Card) → refusal (course_behind log before s front).slots s.speed (Insert slot card) ≡ None →
      accepted_in s.number (In (length front + 1)) (acted log s (length front) (Insert slot card) (course_behind log before s front)).found ≡ accepts_by s.number slot card (found_in log s.number (In (length front + 1)) slot)
  put-found slot card fine =
      let c : Course = course_behind log before s front in
      let m : ℕ = length front + 1 in
      let r : Option SlotFault = refusal c.slots s.speed (Insert slot card) in
      ap (λ (b : Bool). accepted_in s.number (In m) (cond b (both_told log s.number (In m) (moved_by (length front) r (Insert slot card) c.slots) (answered (length front) r (Insert slot card) c)) (record c { settled = c.settled || true })).found) begun
      ∙ ap (λ (q : Option SlotFault). accepted_in s.number (In m) (both_told log s.number (In m) (moved_by (length front) q (Insert slot card) c.slots) (answered (length front) q (Insert slot card) c)).found) fine
      ∙ by slot
    where
      by : (slot : Slot) → accepted_in s.number (In (length front + 1)) (both_told log s.number (In (length front + 1)) (moved_by (length front) None (Insert slot card) (course_behind log before s front).slots) (answered (length front) None (Insert slot card) (course_behind log before s front))).found
          ≡ accepts_by s.number slot card (found_in log s.number (In (length front + 1)) slot)
      by Driver =
          let moved : Moved = moved_by (length front) None (Insert Driver card) (course_behind log before s front).slots in
          let d : Course = answered (length front) None (Insert Driver card) (course_behind log before s front) in
          ap (λ (l : List Finding). accepted_in s.number (In (length front + 1)) l) (slot-none log s.number (In (length front + 1)) moved CoDriver (slot_told log s.number (In (length front + 1)) moved Driver d) refl)
          ∙ slot-accepts log s.number (length front + 1) moved Driver d (Some (record { card = card; accepted = None })) refl refl
          ∙ ap (λ (l : List Note). l ++ accepts_by s.number Driver card (found_in log s.number (In (length front + 1)) Driver)) (none-ahead log before s front)
      by CoDriver =
          let moved : Moved = moved_by (length front) None (Insert CoDriver card) (course_behind log before s front).slots in
          let d : Course = answered (length front) None (Insert CoDriver card) (course_behind log before s front) in
          slot-accepts log s.number (length front + 1) moved CoDriver (slot_told log s.number (In (length front + 1)) moved Driver d) (Some (record { card = card; accepted = None })) (codriver-stays log s.number (In (length front + 1)) moved d) refl
          ∙ ap (λ (l : List Finding). accepted_in s.number (In (length front + 1)) l ++ accepts_by s.number CoDriver card (found_in log s.number (In (length front + 1)) CoDriver)) (slot-none log s.number (In (length front + 1)) moved Driver d refl)
          ∙ ap (λ (l : List Note). l ++ accepts_by s.number CoDriver card (found_in log s.number (In (length front + 1)) CoDriver)) (none-ahead log before s front)

  insert-notes : (slot : Slot) (card : Card) → refusal (course_behind log before s front).slots s.speed (Insert slot card) ≡ None → NotesMore log before s front (Insert slot card) (accepts_by s.number slot card (found_in log s.number (In (length front + 1)) slot))
  insert-notes slot card fine =
      let c : Course = course_behind log before s front in
      let a : CarriedOut = record { before = length front; action = Insert slot card; slots = c.slots; after = (acted log s (length front) (Insert slot card) c).slots } in
      more-notes log before s front (Insert slot card) (accepts_by s.number slot card (found_in log s.number (In (length front + 1)) slot)) begun
      (ap (λ (q : Option SlotFault). noted_if q log s.number a (acted log s (length front) (Insert slot card) c).found) fine ∙ put-found slot card fine)

-- ---- a power-on

pub power-notes : PowerOnsAreNoted
power-notes log before s = (
  (λ off.
      let moved : Moved = unmoved true in
      let d : Course = fresh true before.slots in
      ap (λ (b : Bool). accepted_in s.number (In 0) (both_told log s.number (In 0) (unmoved (not b)) (fresh (not b) before.slots)).found ++ []) off
      ∙ append-nil (accepted_in s.number (In 0) (both_told log s.number (In 0) moved d).found)
      ∙ slot-accepts log s.number 0 moved CoDriver (slot_told log s.number (In 0) moved Driver d) before.slots.codriver (codriver-stays log s.number (In 0) moved d) refl
      ∙ ap (λ (l : List Note). l ++ sits_accepted s.number CoDriver before.slots.codriver (found_in log s.number (In 0) CoDriver)) (slot-accepts log s.number 0 moved Driver d before.slots.driver refl refl)),
  (λ on.
      ap (λ (b : Bool). accepted_in s.number (In 0) (both_told log s.number (In 0) (unmoved (not b)) (fresh (not b) before.slots)).found ++ []) on
      ∙ append-nil (accepted_in s.number (In 0) (both_told log s.number (In 0) (unmoved false) (fresh false before.slots)).found)
      ∙ ap (λ (l : List Finding). accepted_in s.number (In 0) l) (both-none log s.number (In 0) (unmoved false) (fresh false before.slots) refl refl)),
)

-- ---- as laws

pub selections : SelectionsNoteNothing
selections = select-notes

pub pulls : PullsNoteNothing
pulls = pull-notes

pub entries : EntriesByHandNoteNothing
entries = hand-notes

pub refusals : RefusalsNoteNothing
refusals log before s front a fault is = refused-notes log before s front a (Some fault) fault is refl

pub places : PlacesAreNoted
places = place-notes

pub withdrawals : WithdrawalsAreNoted
withdrawals log before s front begun slot x sits still = (withdrawal-torn log before s front slot x sits still, withdrawal-bare log before s front slot x sits still, withdrawal-noted log before s front begun slot x sits still)

pub insertions : InsertionsAreNoted
insertions = insert-notes
