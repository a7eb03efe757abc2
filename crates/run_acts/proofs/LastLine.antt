-- The line of a card's last stay, as an action withdraws the card: it is that of the acceptance since which the card has sat in its slot.
use Rattle.std.proofs.Common.{◌≡◌, ◌⊎◌, ◌∙◌, inl, inr, ⊎_elim, ℕ, suc, ◌+◌, ◌<◌, ◌≤◌, Bool, true, false, cond, ◌&&◌, ◌||◌, Some, None, List, [], ◌∷◌, ◌++◌, All, Contains, length, map, filter, take, drop, refl, ap, sym, subst, arith, append_assoc}
use Rattle.std.specs.Prelude.{nat_eq, slice_get}
use Rattle.std.specs.List.{list_any, AllByRecursion}
use Rattle.std.proofs.lemmas.List.{take-append-drop, length-take-le, length-append, same_from_push}
use Rattle.std.proofs.lemmas.List.Elements.{filter-append, All-contains, Contains-push, Contains-push_cases}
use Rattle.activity_codec.specs.declared.values.Slot.{Slot}
use Rattle.activity_codec.specs.Activity.{same_slot}
use Rattle.trace_model.specs.declared.Action.{Action}
use Rattle.trace_model.specs.declared.Action.TheVariants.{Insert, Withdraw}
use Rattle.trace_model.specs.declared.Card.{Card}
use Rattle.trace_model.specs.declared.Card.TheVariants.{A, B}
use Rattle.trace_model.specs.Trace.{TraceSecond}
use Rattle.log_model.specs.declared.lines.Find.{Find}
use Rattle.log_model.specs.declared.lines.Verdict.{Verdict}
use Rattle.log_model.specs.Log.{In, is_accepting}
use Rattle.log_model.specs.Course.{Visit, went}
use Rattle.log_model.specs.Spans.{AreInOrder}
use Rattle.device_calls.specs.device_rule.Views.{other}
use Rattle.device_calls.specs.safety_model.Safe.{Devices}
use Rattle.run_minutes.specs.declared.keeper.Moment.{Moment}
use Rattle.run_insertion.specs.declared.lines.Entering.{Entering}
use Rattle.run_insertion.specs.Entering.{find_of}
use Rattle.run_minutes.specs.run_promise.Origin.{Origin}
use Rattle.run_record.specs.Recorded.{Values}
use Rattle.run_record.specs.Within.{RecordInSecond}
use Rattle.run_record.specs.Judging.{IsNext}
use Rattle.run_events.proofs.run_course.Logs.{all-before}
use Rattle.run_note_record.proofs.Stored.{AtEnd, nothing, push, at-end}
use Rattle.run_acts.specs.Words.{withdraws, begun_in}
use Rattle.run_acts.specs.Truths.{PutsIn, IsLineOf}
use Rattle.run_acts.specs.Stays.{Stay, AreMerged}
use Rattle.run_acts.proofs.NotesThen.{get-at}
use Rattle.run_acts.proofs.Since.{IsToldLast, IsPutAndTold, HasSat, slot-itself, nat-itself, line-own}

-- ---- lines that are merged

pub merged-swap : {X : Type 0} (lines one other : List X) → AreMerged lines one other → AreMerged lines other one
merged-swap [] one other h = (h.1, h.0)
merged-swap (x ∷ lines) one other (inl h) = inr (h.0, h.1, merged-swap lines h.0 other h.2)
merged-swap (x ∷ lines) one other (inr h) = inl (h.0, h.1, merged-swap lines one h.0 h.2)

-- what holds of each holds of each of the one
merged-all : {X : Type 0} (P : X → Type 0) (lines one other : List X) → AllByRecursion P lines → AreMerged lines one other → AllByRecursion P one
merged-all P [] one other all h = subst (AllByRecursion P) (sym h.0) tt
merged-all P (x ∷ lines) one other all (inl h) = subst (AllByRecursion P) (sym h.1) (all.0, merged-all P lines h.0 other all.1 h.2)
merged-all P (x ∷ lines) one other all (inr h) = merged-all P lines one h.0 all.1 h.2

-- A LINE IS AMONG SOME, and this holds of those behind it
record IsAmong {X : Type 0} (P : X → Type 0) (x : X) (xs : List X) : Type 0 where
  front : List X
  rest : List X
  are : xs ≡ front ++ x ∷ rest
  behind : AllByRecursion P rest

merged-at : {X : Type 0} (P : X → Type 0) (front : List X) (x : X) (rest one other : List X) → AllByRecursion P rest → AreMerged (front ++ x ∷ rest) one other → IsAmong P x one ⊎ IsAmong P x other
merged-at P [] x rest one other all (inl h) = inl (record { front = []; rest = h.0; are = h.1; behind = merged-all P rest h.0 other all h.2 })
merged-at P [] x rest one other all (inr h) = inr (record { front = []; rest = h.0; are = h.1; behind = merged-all P rest h.0 one all (merged-swap rest one h.0 h.2) })
merged-at {X} P (y ∷ front) x rest one other all (inl h) = ⊎_elim
    (λ (i : IsAmong P x h.0). inl (record { front = y ∷ i.front; rest = i.rest; are = h.1 ∙ ap (λ (xs : List X). y ∷ xs) i.are; behind = i.behind }))
    (λ (i : IsAmong P x other). inr i)
    (merged-at P front x rest h.0 other all h.2)
merged-at {X} P (y ∷ front) x rest one other all (inr h) = ⊎_elim
    (λ (i : IsAmong P x one). inl i)
    (λ (i : IsAmong P x h.0). inr (record { front = y ∷ i.front; rest = i.rest; are = h.1 ∙ ap (λ (xs : List X). y ∷ xs) i.are; behind = i.behind }))
    (merged-at P front x rest one h.0 all h.2)

-- ---- lists

pub all-passed : {X : Type 0} (P : X → Type 0) (p : X → Bool) (xs : List X) → AllByRecursion P xs → AllByRecursion P (filter p xs)
all-passed P p [] all = tt
all-passed {X} P p (x ∷ xs) all = by (p x) (all-passed P p xs all.1)
  where
    by : (b : Bool) → AllByRecursion P (filter p xs) → AllByRecursion P (cond b (x ∷ filter p xs) (filter p xs))
    by true rest = (all.0, rest)
    by false rest = rest

last-all : {X : Type 0} (P : X → Type 0) (front : List X) (x : X) → AllByRecursion P (front ++ x ∷ []) → P x
last-all P [] x all = all.0
last-all P (y ∷ front) x all = last-all P front x all.1

-- the last of some is this one, or one behind it
last-is : {X : Type 0} (P : X → Type 0) (front : List X) (f : X) (before : List X) (x : X) (rest : List X) → front ++ f ∷ [] ≡ before ++ x ∷ rest → AllByRecursion P rest → (P f → ⊥) → f ≡ x
last-is {X} P front f before x rest same all none = by rest (at-end rest) same all
  where
    by : (rest : List X) → AtEnd rest → front ++ f ∷ [] ≡ before ++ x ∷ rest → AllByRecursion P rest → f ≡ x
    by _ nothing are held = (same_from_push front before f x are).1
    by _ (push ys y) are held =
        let last : f ≡ y = (same_from_push front (before ++ x ∷ ys) f y (are ∙ sym (append_assoc before (x ∷ ys) (y ∷ [])))).1 in
        absurd (none (subst P (sym last) (last-all P ys y held)))

none-back : {X : Type 0} (p : X → Bool) (xs ys : List X) → list_any p (xs ++ ys) ≡ false → list_any p ys ≡ false
none-back p [] ys none = none
none-back p (x ∷ xs) ys none = none-back p xs ys (by (p x) none)
  where
    by : (b : Bool) → (b || list_any p (xs ++ ys)) ≡ false → list_any p (xs ++ ys) ≡ false
    by true wrong = absurd (cc)
    by false is = is

same-place : (front before : List Action) (a b : Action) (rest behind : List Action) → front ++ a ∷ rest ≡ before ++ b ∷ behind → length front ≡ length before → a ≡ b
same-place front before a b rest behind are long =
    let one : Some a ≡ Some b =
    sym (get-at front a rest) ∙ ap (λ (as_ : List Action). slice_get as_ (length front)) are ∙ ap (λ (k : ℕ). slice_get (before ++ b ∷ behind) k) long ∙ get-at before b behind in
    cc

-- ---- the lines of stays

abbrev pub found_of_all : List Stay → List Find
found_of_all ss = map (λ (s : Stay). s.found) ss

found-more : (front : List Stay) (s : Stay) → found_of_all (front ++ s ∷ []) ≡ found_of_all front ++ s.found ∷ []
found-more [] s = refl
found-more (t ∷ front) s = ap (λ (fs : List Find). t.found ∷ fs) (found-more front s)

-- ---- SINCE ITS LINE

-- NO ACTION OF THESE has withdrawn from a slot since a card was accepted there by this line
pub record IsSince (u : ℕ) (f : Find) (actions : List Action) : Type 0 where
  pub front : List Action
  pub since : List Action
  pub are : actions ≡ front ++ since
  pub begun : length front ≡ begun_in u f
  pub first : list_any (withdraws f.slot) since ≡ false

slot-passes : (f : Find) (slot : Slot) → f.slot ≡ slot → same_slot f.slot slot ≡ false → ⊥
slot-passes f slot is out = let wrong : true ≡ false = sym (slot-itself slot) ∙ ap (λ (z : Slot). same_slot z slot) (sym is) ∙ out in absurd (cc)

-- an acceptance that is not of a slot
apart-slots : (slot : Slot) (fs : List Find) → AllByRecursion (λ (f : Find). (same_slot f.slot slot && is_accepting f.verdict) ≡ false) fs → AllByRecursion (λ (f : Find). same_slot f.slot slot ≡ false) (filter (λ (f : Find). is_accepting f.verdict) fs)
apart-slots slot [] all = tt
apart-slots slot (f ∷ fs) all = by (is_accepting f.verdict) all.0 (apart-slots slot fs all.1)
  where
    own : (b : Bool) → (b && true) ≡ false → b ≡ false
    own true wrong = absurd (cc)
    own false is = refl

    by : (b : Bool) → (same_slot f.slot slot && b) ≡ false → AllByRecursion (λ (g : Find). same_slot g.slot slot ≡ false) (filter (λ (g : Find). is_accepting g.verdict) fs) →
        AllByRecursion (λ (g : Find). same_slot g.slot slot ≡ false) (cond b (f ∷ filter (λ (g : Find). is_accepting g.verdict) fs) (filter (λ (g : Find). is_accepting g.verdict) fs))
    by true is rest = (own (same_slot f.slot slot) is, rest)
    by false is rest = rest

line-passes : (f : Find) (fs : List Find) → is_accepting f.verdict ≡ true → filter (λ (g : Find). is_accepting g.verdict) (f ∷ fs) ≡ f ∷ filter (λ (g : Find). is_accepting g.verdict) fs
line-passes f fs is = ap (λ (b : Bool). cond b (f ∷ filter (λ (g : Find). is_accepting g.verdict) fs) (filter (λ (g : Find). is_accepting g.verdict) fs)) is

others-card : (c : Card) → other c ≡ c → ⊥
others-card A is = absurd (let wrong : B ≡ A = is in cc)
others-card B is = absurd (let wrong : A ≡ B = is in cc)

module _ (seconds : List TraceSecond) (s : TraceSecond) (finds : List Find) (actions rest : List Action) (slot : Slot) (c : Card) (are : s.actions ≡ actions ++ Withdraw slot ∷ rest) (only : (x : TraceSecond) → Contains seconds x → x.number ≡ s.number → x ≡ s) (sat : HasSat slot c s.number actions finds)
    (mine others : List Find) (merged : AreMerged (filter (λ (g : Find). is_accepting g.verdict) finds) mine others) (entered : AllByRecursion (IsLineOf seconds (other c)) others) (front : List Find) (f : Find) (last : mine ≡ front ++ f ∷ []) (there : f.slot ≡ slot) where
  few : begun_in s.number f ≤ length actions
  few = last-all (λ (g : Find). begun_in s.number g ≤ length actions) front f
      (subst (AllByRecursion (λ (g : Find). begun_in s.number g ≤ length actions)) last
      (merged-all (λ (g : Find). begun_in s.number g ≤ length actions) (filter (λ (g : Find). is_accepting g.verdict) finds) mine others
      (all-passed (λ (g : Find). begun_in s.number g ≤ length actions) (λ (g : Find). is_accepting g.verdict) finds sat.low) merged))

  -- it has sat there since before the second
  stayed : list_any (withdraws slot) actions ≡ false → IsSince s.number f actions
  stayed none = record {
    front = take (begun_in s.number f) actions;
    since = drop (begun_in s.number f) actions;
    are = sym (take-append-drop (begun_in s.number f) actions);
    begun = length-take-le (begun_in s.number f) actions few;
    first = ap (λ (z : Slot). list_any (withdraws z) (drop (begun_in s.number f) actions)) there
        ∙ none-back (withdraws slot) (take (begun_in s.number f) actions) (drop (begun_in s.number f) actions) (ap (list_any (withdraws slot)) (take-append-drop (begun_in s.number f) actions) ∙ none);
  }

  -- or an action has put it in, by whose line it was accepted
  module _ (p : IsPutAndTold slot c s.number actions finds) where
    abbrev l : IsToldLast slot s.number (suc (length p.before)) finds
    l = p.told

    abbrev accepted : List Find → List Find
    accepted fs = filter (λ (g : Find). is_accepting g.verdict) fs

    lines-are : accepted finds ≡ accepted l.earlier ++ l.line ∷ accepted l.later
    lines-are =
        ap accepted l.are ∙ filter-append (λ (g : Find). is_accepting g.verdict) l.earlier (l.line ∷ l.later) ∙ ap (λ (fs : List Find). accepted l.earlier ++ fs) (line-passes l.line l.later l.accepts)

    split-here : IsAmong (λ (g : Find). same_slot g.slot slot ≡ false) l.line mine ⊎ IsAmong (λ (g : Find). same_slot g.slot slot ≡ false) l.line others
    split-here = merged-at (λ (g : Find). same_slot g.slot slot ≡ false) (accepted l.earlier) l.line (accepted l.later) mine others (apart-slots slot l.later l.apart) (subst (λ (fs : List Find). AreMerged fs mine others) lines-are merged)

    -- its own line
    own-line : IsAmong (λ (g : Find). same_slot g.slot slot ≡ false) l.line mine → IsSince s.number f actions
    own-line i =
        let same : f ≡ l.line = last-is (λ (g : Find). same_slot g.slot slot ≡ false) front f i.front l.line i.rest (sym last ∙ i.are) i.behind (slot-passes f slot there) in
        let second : nat_eq f.second s.number ≡ true = ap (λ (n : ℕ). nat_eq n s.number) (ap (λ (g : Find). g.second) same ∙ l.second) ∙ nat-itself s.number in
        let begun : begun_in s.number f ≡ suc (length p.before) = ap (λ (b : Bool). cond b f.begun 0) second ∙ ap (λ (g : Find). g.begun) same ∙ l.begun in
        let more = length-append p.before (Insert slot c ∷ []) in
        record {
          front = p.before ++ Insert slot c ∷ [];
          since = p.behind;
          are = p.are ∙ sym (append_assoc p.before (Insert slot c ∷ []) p.behind);
          begun = omega (arith, more, begun);
          first = ap (λ (z : Slot). list_any (withdraws z) p.behind) there ∙ p.first;
        }

    -- which is none of the other card's
    whole-are : s.actions ≡ p.before ++ Insert slot c ∷ (p.behind ++ Withdraw slot ∷ rest)
    whole-are = are ∙ ap (λ (as_ : List Action). as_ ++ Withdraw slot ∷ rest) p.are ∙ append_assoc p.before (Insert slot c ∷ p.behind) (Withdraw slot ∷ rest)

    elsewhere : IsLineOf seconds (other c) l.line → ⊥
    elsewhere e = ⊎_elim
        (λ (none : l.line.begun ≡ 0). let begun = l.begun in absurd (omega (arith, none, begun)))
        (λ (q : PutsIn e.s.actions l.line.begun l.line.slot (other c)).
        let same : e.s ≡ s = only e.s e.among (e.number ∙ l.second) in
        let long : length q.front ≡ length p.before = let begun = l.begun in let count = q.count in omega (arith, begun, count) in
        let one : Insert l.line.slot (other c) ≡ Insert slot c =
        same-place q.front p.before (Insert l.line.slot (other c)) (Insert slot c) q.rest (p.behind ++ Withdraw slot ∷ rest) (sym q.are ∙ ap (λ (x : TraceSecond). x.actions) same ∙ whole-are) long in
        let cards : other c ≡ c = cc in
        others-card c cards)
        e.puts

    others-line : IsAmong (λ (g : Find). same_slot g.slot slot ≡ false) l.line others → ⊥
    others-line i = elsewhere (first-of i.front (subst (AllByRecursion (IsLineOf seconds (other c))) i.are entered))
      where
        first-of : (xs : List Find) → AllByRecursion (IsLineOf seconds (other c)) (xs ++ l.line ∷ i.rest) → IsLineOf seconds (other c) l.line
        first-of [] all = all.0
        first-of (x ∷ xs) all = first-of xs all.1

    put-since : IsSince s.number f actions
    put-since = ⊎_elim (λ i. own-line i) (λ i. absurd (others-line i)) split-here

  -- NO ACTION HAS WITHDRAWN from the slot since the card was accepted by its line
  pub since-line : IsSince s.number f actions
  since-line = ⊎_elim (λ none. stayed none) (λ p. put-since p) sat.since

-- of the last of its stays
pub last-found : (front : List Stay) (x : Stay) (ss : List Stay) → ss ≡ front ++ x ∷ [] → found_of_all ss ≡ found_of_all front ++ x.found ∷ []
last-found front x ss are = ap found_of_all are ∙ found-more front x

-- ---- ONE SECOND alone has a number
pub only-second : (from : ℕ) (done : List TraceSecond) (s : TraceSecond) → AreInOrder from done → s.number ≡ from + length done → (x : TraceSecond) → Contains (done ++ s ∷ []) x → x.number ≡ s.number → x ≡ s
only-second from done s order number x at same = ⊎_elim
    (λ (before : Contains done x).
    let early : All (λ (y : TraceSecond). y.number < from + length done) done = all-before (λ (u : ℕ). u < from + length done) from done order (λ u lt. lt) in
    let lt : x.number < from + length done = All-contains (λ (y : TraceSecond). y.number < from + length done) done x early before in
    absurd (omega (arith, lt, same, number)))
    (λ (is : s ≡ x). sym is)
    (Contains-push_cases done s x at)

-- ---- A CARD THAT IS JUDGED is so by its own line
pub entered-now : (o : Origin) (done : List TraceSecond) (s : TraceSecond) (n : ℕ) (waits fewer : List Visit) (v : Values) (d : Devices) (w : RecordInSecond o done s (In n) waits None [] v d) (e : Entering) → e.at ≡ record { second = s.number; begun = n; late = false } →
    IsNext o done s (In n) waits fewer v d w e.slot e.which → (verdict : Verdict) → IsLineOf (done ++ s ∷ []) e.which (find_of e verdict)
entered-now o done s n waits fewer v d w e at next verdict =
    let begun : n ≡ e.at.begun = sym (ap (λ (m : Moment). m.begun) at) in
    record {
      s = s;
      among = Contains-push done s;
      number = sym (ap (λ (m : Moment). m.second) at);
      puts = subst (λ (k : ℕ). (k ≡ 0) ⊎ PutsIn s.actions k e.slot e.which) begun
          (line-own v.log (went w.b.run.log done).before s n w.moment.is e.slot next.enters (record { card = e.which; accepted = None }) next.sits_);
    }
