-- What a moment more of a second leaves of the events of the moments before it.
use Rattle.std.proofs.Common.{◌≡◌, ℕ, zero, suc, Bool, true, false, cond, not, ◌&&◌, ◌||◌, Option, Some, None, List, [], ◌∷◌, ◌++◌, refl, ap, sym, ◌∙◌, arith}
use Rattle.std.specs.Prelude.{◌==◌, nat_lt, map, filter, flat_map}
use Rattle.std.specs.List.{AllByRecursion, list_any}
use Rattle.std.proofs.lemmas.Bool.Decides.{nat_tests}
use Rattle.std.proofs.lemmas.List.Folds.{list_any-append}
use Rattle.std.proofs.lemmas.List.Elements.{filter-append}
use Rattle.run_events.specs.activity_codec.declared.values.Slot.{Slot}
use Rattle.run_events.specs.activity_codec.declared.values.Slot.TheVariants.{Driver, CoDriver}
use Rattle.run_events.specs.activity_codec.Activity.{same_slot}
use Rattle.run_devices.specs.trace_model.declared.Card.{Card}
use Rattle.run_devices.specs.log_model.declared.lines.Verdict.{Verdict}
use Rattle.run_devices.specs.log_model.declared.lines.Verdict.TheVariants.{Accepted, NotValid, TimeOverlap}
use Rattle.run_devices.specs.log_model.Log.{RunLog, Phase, In, Keeping, same_phase, is_accepting}
use Rattle.run_devices.specs.log_model.Slots.{Slots, in_slot, other_slot}
use Rattle.run_devices.specs.log_model.Course.{Visit}
use Rattle.run_devices.specs.event_model.declared.kinds.TheConstants.{CARD_NOT_VALID, TIME_OVERLAP, INSERTION_WHILE_DRIVING, SESSION_NOT_CLOSED, CARD_FAULT}
use Rattle.run_devices.specs.event_model.Events.{Event, Seen, Tearing, number_of, noted_with, with_card, accepted_card, torn_at, first_card, accepted_at, standing, beside_judged, crew_judged, found_events, is_first, beside_torn, fault_of, is_codriver_first, torn_in_turn}
use Rattle.run_devices.specs.run_course.Reached.{IsBehind}

-- a visit came at a moment before this one
pub record IsFormer (at : Phase) (v : Visit) : Type 0 where
  pub m : ℕ
  pub phase : v.phase ≡ In m
  pub before : IsBehind (In m) at

pub former-other : (at : Phase) (v : Visit) → IsFormer at v → same_phase v.phase at ≡ false
former-other at v f = ap (λ (p : Phase). same_phase p at) f.phase ∙ behind-other f.m at f.before
  where
    behind-other : (m : ℕ) (p : Phase) → IsBehind (In m) p → same_phase (In m) p ≡ false
    behind-other m (In n) lt = grind (arith, nat_tests)
    behind-other m Keeping h = refl

-- ---- tears in their turn, behind those of the moments before
pub turn-front : (t : Tearing) (x : Seen) (at : Phase) (front vs : List Visit) → AllByRecursion (IsFormer at) front → AllByRecursion (λ (v : Visit). v.phase ≡ at) vs →
    torn_in_turn t x (front ++ vs) ≡ torn_in_turn t x front ++ torn_in_turn t x vs
turn-front t x at [] vs old now = refl
turn-front t x at (v ∷ []) [] old now = refl
turn-front t x at (v ∷ []) (w ∷ vs) old now =
    let other : same_phase v.phase w.phase ≡ false = ap (same_phase v.phase) now.0 ∙ former-other at v old.0 in
    ap (λ (b : Bool). cond (b && is_codriver_first t x v.phase) (w ∷ v ∷ torn_in_turn t x vs) (v ∷ torn_in_turn t x (w ∷ vs))) other
turn-front t x at (v ∷ w ∷ front) vs old now =
    pick (same_phase v.phase w.phase && is_codriver_first t x v.phase) (torn_in_turn t x front) (torn_in_turn t x (w ∷ front)) (torn_in_turn t x (front ++ vs)) (torn_in_turn t x (w ∷ front ++ vs)) (torn_in_turn t x vs)
    (turn-front t x at front vs old.1.1 now) (turn-front t x at (w ∷ front) vs old.1 now)
  where
    pick : (b : Bool) (a c a' c' r : List Visit) → a' ≡ a ++ r → c' ≡ c ++ r → cond b (w ∷ v ∷ a') (v ∷ c') ≡ cond b (w ∷ v ∷ a) (v ∷ c) ++ r
    pick true a c a' c' r ea ec = ap (λ (xs : List Visit). w ∷ v ∷ xs) ea
    pick false a c a' c' r ea ec = ap (λ (xs : List Visit). v ∷ xs) ec

-- ---- what is told of a moment, by lists that differ at another one
any-other : (p : Phase) (slot : Slot) (at : Phase) (vs : List Visit) → AllByRecursion (λ (v : Visit). v.phase ≡ at) vs → same_phase at p ≡ false → list_any (λ (v : Visit). same_phase v.phase p && same_slot v.slot slot) vs ≡ false
any-other p slot at [] all other = refl
any-other p slot at (v ∷ vs) all other =
    ap (λ (b : Bool). (b && same_slot v.slot slot) || list_any (λ (v : Visit). same_phase v.phase p && same_slot v.slot slot) vs) (ap (λ (q : Phase). same_phase q p) all.0 ∙ other)
    ∙ any-other p slot at vs all.1 other

or-none : (b : Bool) → (b || false) ≡ b
or-none true = refl
or-none false = refl

pub torn-front : (p : Phase) (slot : Slot) (at : Phase) (front vs : List Visit) → AllByRecursion (λ (v : Visit). v.phase ≡ at) vs → same_phase at p ≡ false →
    list_any (λ (v : Visit). same_phase v.phase p && same_slot v.slot slot) (front ++ vs) ≡ list_any (λ (v : Visit). same_phase v.phase p && same_slot v.slot slot) front
torn-front p slot at front vs all other =
    list_any-append (λ (v : Visit). same_phase v.phase p && same_slot v.slot slot) front vs
    ∙ ap (λ (b : Bool). list_any (λ (v : Visit). same_phase v.phase p && same_slot v.slot slot) front || b) (any-other p slot at vs all other)
    ∙ or-none (list_any (λ (v : Visit). same_phase v.phase p && same_slot v.slot slot) front)

abbrev accepted_here : Phase → Slot → Visit × Verdict → Bool
accepted_here p slot f = same_phase f.0.phase p && (same_slot f.0.slot slot && is_accepting f.1)

filter-other : (p : Phase) (slot : Slot) (at : Phase) (fs : List (Visit × Verdict)) → AllByRecursion (λ (f : Visit × Verdict). f.0.phase ≡ at) fs → same_phase at p ≡ false → filter (accepted_here p slot) fs ≡ []
filter-other p slot at [] all other = refl
filter-other p slot at (f ∷ fs) all other =
    ap (λ (b : Bool). cond (b && (same_slot f.0.slot slot && is_accepting f.1)) (f ∷ filter (accepted_here p slot) fs) (filter (accepted_here p slot) fs)) (ap (λ (q : Phase). same_phase q p) all.0 ∙ other)
    ∙ filter-other p slot at fs all.1 other

append-none : (xs : List (Visit × Verdict)) → xs ++ [] ≡ xs
append-none [] = refl
append-none (x ∷ xs) = ap (λ (ys : List (Visit × Verdict)). x ∷ ys) (append-none xs)

pub accepted-front : (p : Phase) (slot : Slot) (at : Phase) (front fs : List (Visit × Verdict)) → AllByRecursion (λ (f : Visit × Verdict). f.0.phase ≡ at) fs → same_phase at p ≡ false →
    filter (accepted_here p slot) (front ++ fs) ≡ filter (accepted_here p slot) front
accepted-front p slot at front fs all other =
    filter-append (accepted_here p slot) front fs ∙ ap (λ (xs : List (Visit × Verdict)). filter (accepted_here p slot) front ++ xs) (filter-other p slot at fs all other) ∙ append-none (filter (accepted_here p slot) front)

-- ---- THE SAME SECOND, by two logs that differ at a moment alone
pub record DifferAt (at : Phase) (front : List Visit) (found : List (Visit × Verdict)) (xs ys : List Visit) (fs gs : List (Visit × Verdict)) (t t' : Tearing) (x y : Seen) : Type 0 where
  pub number : number_of y ≡ number_of x
  pub speed : y.told.second.speed ≡ x.told.second.speed
  pub torn_x : x.told.course.torn ≡ front ++ xs
  pub torn_y : y.told.course.torn ≡ front ++ ys
  pub found_x : x.told.course.found ≡ found ++ fs
  pub found_y : y.told.course.found ≡ found ++ gs
  pub xs_here : AllByRecursion (λ (v : Visit). v.phase ≡ at) xs
  pub ys_here : AllByRecursion (λ (v : Visit). v.phase ≡ at) ys
  pub fs_here : AllByRecursion (λ (f : Visit × Verdict). f.0.phase ≡ at) fs
  pub gs_here : AllByRecursion (λ (f : Visit × Verdict). f.0.phase ≡ at) gs
  pub torn_before : AllByRecursion (IsFormer at) front
  pub found_before : AllByRecursion (λ (f : Visit × Verdict). IsFormer at f.0) found
  pub after : (m : ℕ) → IsBehind (In m) at → y.after m ≡ x.after m
  pub within : (m : ℕ) → IsBehind (In m) at → y.within m ≡ x.within m
  pub by_gap : same_phase at (In 0) ≡ false → (slot : Slot) → t'.by_gap (number_of y) slot ≡ t.by_gap (number_of x) slot
  pub driver_first : (m : ℕ) → same_phase at (In (suc m)) ≡ false → t'.driver_first (number_of y) (suc m) ≡ t.driver_first (number_of x) (suc m)

module _ (at : Phase) (front : List Visit) (found : List (Visit × Verdict)) (xs ys : List Visit) (fs gs : List (Visit × Verdict)) (t t' : Tearing) (x y : Seen) (d : DifferAt at front found xs ys fs gs t t' x y) where
  other-way : (m : ℕ) → IsBehind (In m) at → same_phase at (In m) ≡ false
  other-way m behind = go at m behind
    where
      go : (p : Phase) (m : ℕ) → IsBehind (In m) p → same_phase p (In m) ≡ false
      go (In n) m lt = grind (arith, nat_tests)
      go Keeping m h = refl

  pub torn-same : (p : Phase) (slot : Slot) → same_phase at p ≡ false → torn_at y p slot ≡ torn_at x p slot
  torn-same p slot other =
      ap (list_any (λ (v : Visit). same_phase v.phase p && same_slot v.slot slot)) d.torn_y ∙ torn-front p slot at front ys d.ys_here other
      ∙ sym (ap (list_any (λ (v : Visit). same_phase v.phase p && same_slot v.slot slot)) d.torn_x ∙ torn-front p slot at front xs d.xs_here other)

  pub accepted-same : (p : Phase) (slot : Slot) → same_phase at p ≡ false → accepted_at y p slot ≡ accepted_at x p slot
  accepted-same p slot other =
      ap (λ (fs : List (Visit × Verdict)). first_card (filter (accepted_here p slot) fs)) d.found_y ∙ ap first_card (accepted-front p slot at found gs d.gs_here other)
      ∙ sym (ap (λ (fs : List (Visit × Verdict)). first_card (filter (accepted_here p slot) fs)) d.found_x ∙ ap first_card (accepted-front p slot at found fs d.fs_here other))

  pub stands-same : (slot : Slot) → same_phase at (In 0) ≡ false → standing t' y slot ≡ standing t x slot
  stands-same slot other = λ i. cond (torn-same (In 0) slot other i && not (d.by_gap other slot i)) None (accepted-same (In 0) slot other i)

  first-same : (m : ℕ) (slot : Slot) → same_phase at (In (suc m)) ≡ false → is_first t' (number_of y) (suc m) slot ≡ is_first t (number_of x) (suc m) slot
  first-same m Driver other = d.driver_first m other
  first-same m CoDriver other = ap not (d.driver_first m other)

  codriver-same : (p : Phase) (m : ℕ) → p ≡ In m → IsBehind (In m) at → is_codriver_first t' y p ≡ is_codriver_first t x p
  codriver-same p zero is behind =
      let other = other-way zero behind in
      ap (is_codriver_first t' y) is ∙ (λ i. d.by_gap other Driver i && not (d.by_gap other CoDriver i)) ∙ sym (ap (is_codriver_first t x) is)
  codriver-same p (suc m) is behind =
      ap (is_codriver_first t' y) is ∙ ap not (d.driver_first m (other-way (suc m) behind)) ∙ sym (ap (is_codriver_first t x) is)

  turn-same : (vs : List Visit) → AllByRecursion (IsFormer at) vs → torn_in_turn t' y vs ≡ torn_in_turn t x vs
  turn-same [] all = refl
  turn-same (v ∷ []) all = refl
  turn-same (v ∷ w ∷ vs) all =
      λ i. cond (same_phase v.phase w.phase && codriver-same v.phase all.0.m all.0.phase all.0.before i) (w ∷ v ∷ turn-same vs all.1.1 i) (v ∷ turn-same (w ∷ vs) all.1 i)

  -- ---- faults
  beside-same : (log later : RunLog) (slot : Slot) (m : ℕ) → IsBehind (In m) at → beside_torn t' later y (In m) slot ≡ beside_torn t log x (In m) slot
  beside-same log later Driver zero behind =
      let other = other-way zero behind in λ i. cond (d.by_gap other Driver i) (stands-same CoDriver other i) None
  beside-same log later CoDriver zero behind =
      let other = other-way zero behind in λ i. cond (d.by_gap other CoDriver i) (accepted_card (d.after 0 behind i).driver) (stands-same Driver other i)
  beside-same log later slot (suc m) behind =
      let other = other-way (suc m) behind in
      λ i. cond (torn-same (In (suc m)) (other_slot slot) other i && not (first-same m slot other i)) None (accepted_card (in_slot (d.within (suc m) behind i) (other_slot slot)))

  abbrev fault_with : ℕ → Visit → Option Card → Event
  fault_with n v o = noted_with CARD_FAULT n n (with_card (other_slot v.slot) o (record { driver = None; codriver = None }))

  fault-same : (log later : RunLog) (v : Visit) → IsFormer at v → fault_of t' later y v ≡ fault_of t log x v
  fault-same log later v f =
      let beside : beside_torn t' later y v.phase v.slot ≡ beside_torn t log x v.phase v.slot =
      ap (λ (p : Phase). beside_torn t' later y p v.slot) f.phase ∙ beside-same log later v.slot f.m f.before ∙ sym (ap (λ (p : Phase). beside_torn t log x p v.slot) f.phase) in
      λ i. fault_with (d.number i) v (beside i)

  in-turn : (vs : List Visit) → AllByRecursion (IsFormer at) vs → AllByRecursion (IsFormer at) (torn_in_turn t x vs)
  in-turn [] all = tt
  in-turn (v ∷ []) all = all
  in-turn (v ∷ w ∷ vs) all =
      pick (same_phase v.phase w.phase && is_codriver_first t x v.phase) (w ∷ v ∷ torn_in_turn t x vs) (v ∷ torn_in_turn t x (w ∷ vs)) (all.1.0, (all.0, in-turn vs all.1.1)) (all.0, in-turn (w ∷ vs) all.1)
    where
      pick : (b : Bool) (p q : List Visit) → AllByRecursion (IsFormer at) p → AllByRecursion (IsFormer at) q → AllByRecursion (IsFormer at) (cond b p q)
      pick true p q hp hq = hp
      pick false p q hp hq = hq

  map-same : (log later : RunLog) (vs : List Visit) → AllByRecursion (IsFormer at) vs → map (fault_of t' later y) vs ≡ map (fault_of t log x) vs
  map-same log later [] all = refl
  map-same log later (v ∷ vs) all = λ i. fault-same log later v all.0 i ∷ map-same log later vs all.1 i

  pub old-faults : (log later : RunLog) → map (fault_of t' later y) (torn_in_turn t' y front) ≡ map (fault_of t log x) (torn_in_turn t x front)
  old-faults log later = ap (map (fault_of t' later y)) (turn-same front d.torn_before) ∙ map-same log later (torn_in_turn t x front) (in-turn front d.torn_before)

  -- ---- finds
  judged-same : (slot : Slot) (m : ℕ) → IsBehind (In m) at → beside_judged t' y (In m) slot ≡ beside_judged t x (In m) slot
  judged-same Driver zero behind = refl
  judged-same CoDriver zero behind = stands-same Driver (other-way zero behind)
  judged-same slot (suc m) behind = ap (λ (slots : Slots). accepted_card (in_slot slots (other_slot slot))) (d.after (suc m) behind)

  crew-same : (v : Visit) → IsFormer at v → (own : Option Card) → crew_judged t' y v own ≡ crew_judged t x v own
  crew-same v f own =
      ap (λ (o : Option Card). with_card v.slot own (with_card (other_slot v.slot) o (record { driver = None; codriver = None })))
      (ap (λ (p : Phase). beside_judged t' y p v.slot) f.phase ∙ judged-same v.slot f.m f.before ∙ sym (ap (λ (p : Phase). beside_judged t x p v.slot) f.phase))

  pub events-as : (kind session : ℕ) (v : Visit) (verdict : Verdict) → ((own : Option Card) → crew_judged t' y v own ≡ crew_judged t x v own) → found_events kind session t' y v verdict ≡ found_events kind session t x v verdict
  events-as kind session v (NotValid fid place) crew = λ i. cond (kind == CARD_NOT_VALID) (noted_with kind (d.number i) (d.number i) (crew None i) ∷ []) []
  events-as kind session v (TimeOverlap stored now) crew = λ i. cond (kind == TIME_OVERLAP) (noted_with kind (d.number i) stored (crew None i) ∷ []) []
  events-as kind session v (Accepted replayed) crew = λ i.
      cond (kind == INSERTION_WHILE_DRIVING && nat_lt 0 (d.speed i)) (noted_with kind (d.number i) (d.number i) (crew (Some v.card) i) ∷ [])
      (cond (kind == SESSION_NOT_CLOSED && nat_lt 0 session) (noted_with kind session (d.number i) (crew (Some v.card) i) ∷ []) [])

  pub old-found : (kind : ℕ) (own own' : ℕ → Visit → ℕ) → ((v : Visit) → IsFormer at v → own' (number_of y) v ≡ own (number_of x) v) → (es : List (Visit × Verdict)) → AllByRecursion (λ (f : Visit × Verdict). IsFormer at f.0) es →
      flat_map (λ (f : Visit × Verdict). found_events kind (own' (number_of y) f.0) t' y f.0 f.1) es ≡ flat_map (λ (f : Visit × Verdict). found_events kind (own (number_of x) f.0) t x f.0 f.1) es
  old-found kind own own' same [] all = refl
  old-found kind own own' same (f ∷ es) all = λ i.
      (ap (λ (n : ℕ). found_events kind n t' y f.0 f.1) (same f.0 all.0) ∙ events-as kind (own (number_of x) f.0) f.0 f.1 (crew-same f.0 all.0)) i ++ old-found kind own own' same es all.1 i
