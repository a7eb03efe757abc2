-- What a second has decided so far, and which of it is kept and acknowledged.
use Rattle.std.proofs.Common.{◌≡◌, ◌⊎◌, inl, inr, ⊎_elim, ℕ, zero, suc, ◌+◌, ◌-◌, ◌*◌, ◌/◌, Bool, true, false, cond, nat_lt, nat_eq, Option, Some, None, List, [], ◌∷◌, ◌++◌, Contains, map, filter, min, refl, ap, sym, subst, ◌∙◌, arith, append-nil, append_assoc}
use Rattle.std.specs.Prelude.{find, unwrap_or}
use Rattle.std.specs.List.{list_any}
use Rattle.std.proofs.lemmas.Bool.Decides.{nat_tests}
use Rattle.std.proofs.lemmas.List.Elements.{Contains-push, Contains-push_cases}
use Rattle.activity_codec.specs.declared.values.Slot.{Slot}
use Rattle.activity_codec.specs.declared.values.Pick.{Pick}
use Rattle.trace_model.specs.declared.Card.{Card}
use Rattle.run_model.specs.declared.Device.{Device}
use Rattle.run_model.specs.declared.Device.TheVariants.{Unit as Recorder}
use Rattle.minute_model.specs.declared.Rule.{Rule}
use Rattle.minute_model.specs.declared.Minute.{Minute}
use Rattle.minute_model.specs.Second.{Second}
use Rattle.minute_model.specs.Minute.{minutes_ahead, horizon_of, known_at, class_of, is_decided, minutes_in, decided}
use Rattle.minute_model.specs.Span.{Span, end_of, fed, picked, settled, decided_in}
use Rattle.log_model.specs.declared.lines.Mark.{Mark}
use Rattle.log_model.specs.Causes.{device_of}
use Rattle.log_model.specs.Course.{ToldSecond, Course}
use Rattle.history_model.specs.Minutes.{HistoryMinute, on_card}
use Rattle.history_model.specs.History.{seated, decided_of}
use Rattle.history_model.specs.Growth.{picking, settled_where}
use Rattle.history_model.specs.Completeness.{IsMarked}
use Rattle.history_model.proofs.Closing.{minutes-parts}
use Rattle.run_unit_course.specs.Legs.{travelled}
use Rattle.run_unit_course.specs.Turn.{span_at}
use Rattle.run_course.specs.Seconds.{next_told}
use Rattle.run_course.proofs.Complete.{torn-stays}
use Rattle.run_course.proofs.Steps.{rules_see}
use Rattle.run_course.specs.Kept.{settled_times, fed_where, NothingIsDecidedYet, ASelectionIsHeard, ASettlingDecides, NothingElseDecides, AMinuteIsKept, TheSecondIsFed, TheSecondHasDecided, OneMoreIsTravelled, BrokenSince, StaysOut, NothingIsMarkedYet, MarksStay, OneMoreIsMarked, AllAreAcknowledged}

-- SETTLINGS that come twice decide what one decides
filter-same : {X : Type 0} (f g : X → Bool) → ((x : X) → f x ≡ g x) → (xs : List X) → filter f xs ≡ filter g xs
filter-same f g same [] = refl
filter-same f g same (x ∷ xs) = ap (λ (t : Bool). cond t (x ∷ filter f xs) (filter f xs)) (same x) ∙ ap (λ (ys : List _). cond (g x) (x ∷ ys) ys) (filter-same f g same xs)

map-same : {X Y : Type 0} (f g : X → Y) → ((x : X) → f x ≡ g x) → (xs : List X) → map f xs ≡ map g xs
map-same f g same [] = refl
map-same f g same (x ∷ xs) = ap (λ (y : _). y ∷ map f xs) (same x) ∙ ap (λ (ys : List _). g x ∷ ys) (map-same f g same xs)

pub decided-same : (rule : Rule) (seconds : List Second) (a b : List ℕ) → ((m : ℕ) → find (λ t. nat_lt m (t / 60)) a ≡ find (λ t. nat_lt m (t / 60)) b) → decided rule seconds a ≡ decided rule seconds b
unfolding decided
decided-same rule seconds a b same =
    map-same (λ (m : ℕ). class_of rule (known_at (horizon_of rule a m) seconds) m) (λ (m : ℕ). class_of rule (known_at (horizon_of rule b m) seconds) m)
    (λ m. ap (λ (h : ℕ). class_of rule (known_at h seconds) m) (horizon m)) (filter (is_decided rule seconds a) (minutes_in seconds))
    ∙ ap (map (λ (m : ℕ). class_of rule (known_at (horizon_of rule b m) seconds) m))
    (filter-same (is_decided rule seconds a) (is_decided rule seconds b) (λ m. ap (λ (h : ℕ). list_any (λ (s : Second). nat_eq s.number h) seconds) (horizon m)) (minutes_in seconds))
  where
    horizon : (m : ℕ) → horizon_of rule a m ≡ horizon_of rule b m
    horizon m = ap (λ (o : Option ℕ). min (60 * (m + minutes_ahead rule + 1) - 1) (unwrap_or o (60 * (m + minutes_ahead rule + 1)) - 1)) (same m)

-- the same number twice at the end
twice : (p : ℕ → Bool) (xs : List ℕ) (e : ℕ) → find p ((xs ++ e ∷ []) ++ e ∷ []) ≡ find p (xs ++ e ∷ [])
twice p [] e = by (p e)
  where
    by : (b : Bool) → cond b (Some e) (cond b (Some e) None) ≡ cond b (Some e) None
    by true = refl
    by false = refl
twice p (x ∷ xs) e = ap (λ (o : Option ℕ). cond (p x) (Some x) o) (twice p xs e)

-- a span whose settlings are doubled
pub times-end : (k : ℕ) (span : Span) → end_of (settled_times k span) ≡ end_of span
times-end zero span = refl
times-end (suc k) span = times-end k span

times-parts : (k : ℕ) (span : Span) → ((settled_times k span).rule ≡ span.rule) × ((settled_times k span).first ≡ span.first) × ((settled_times k span).seconds ≡ span.seconds)
times-parts zero span = (refl, refl, refl)
times-parts (suc k) span = times-parts k span

find-times : (p : ℕ → Bool) (k : ℕ) (span : Span) → find p (settled_times (suc k) span).settlings ≡ find p (settled span).settlings
find-times p zero span = refl
find-times p (suc k) span =
    ap (λ (e : ℕ). find p ((settled_times k span).settlings ++ end_of (settled_times k span) ∷ [] ++ e ∷ [])) (refl)
    ∙ twice p (settled_times k span).settlings (end_of (settled_times k span)) ∙ find-times p k span

-- what is decided behind a second of this speed and these selections, however often its settling is told
pub fed-times : (times : ℕ) (settles : Bool) (picks : List (Slot × Pick)) (span : Span) (speed : ℕ) → nat_lt 0 times ≡ settles →
    decided_in (fed (picking picks (settled_times times span)) speed) ≡ decided_in (fed (picking picks (settled_where settles span)) speed)
fed-times zero true picks span speed is = absurd (cc)
fed-times zero false picks span speed is = refl
fed-times (suc k) false picks span speed is = absurd (let clash : true ≡ false = sym (some k) ∙ is in cc)
  where
    some : (k : ℕ) → nat_lt 0 (suc k) ≡ true
    some k = grind (arith, nat_tests)
fed-times (suc k) true picks span speed is =
    let parts = times-parts (suc k) span in
    decided-same (settled_times (suc k) span).rule (fed (picking picks (settled_times (suc k) span)) speed).seconds (settled_times (suc k) span).settlings (settled span).settlings (λ m. find-times (λ t. nat_lt m (t / 60)) k span)
    ∙ ap (λ (r : Rule). decided r (fed (picking picks (settled_times (suc k) span)) speed).seconds (settled span).settlings) parts.0
    ∙ ap (λ (n : ℕ). decided span.rule ((settled_times (suc k) span).seconds ++ record { number = n; speed = speed; picks = picks } ∷ []) (settled span).settlings) (times-end (suc k) span)
    ∙ ap (λ (ss : List Second). decided span.rule (ss ++ record { number = end_of span; speed = speed; picks = picks } ∷ []) (settled span).settlings) parts.2

-- NOTHING YET
pub nothing-decided : NothingIsDecidedYet
nothing-decided rule start told p [] c picks settles = record {
  times = 0;
  settles = sym settles;
  span_is = ap (λ (ps : List (Slot × Pick)). picking ps (span_at rule p.next [])) (sym picks);
  decided = sym (append-nil (decided_of rule []));
  seated_ = refl;
}
nothing-decided rule start told p (t ∷ span) c picks settles = record {
  times = 0;
  settles = sym settles;
  span_is = ap (λ (ps : List (Slot × Pick)). picking ps (span_at rule p.next (t ∷ span))) (sym picks);
  decided = sym (append-nil (decided_of rule (t ∷ span)));
  seated_ = refl;
}

-- A SELECTION
pub selection-heard : ASelectionIsHeard
selection-heard rule start told p span c d sp ds rest new h slot pick picks settles = record {
  times = h.times;
  settles = h.settles ∙ sym settles;
  span_is = ap (λ (x : Span). picked x slot pick) h.span_is ∙ ap (λ (ps : List (Slot × Pick)). picking ps (settled_times h.times (span_at rule p.next span))) (sym picks);
  decided = h.decided;
  seated_ = h.seated_;
}

-- A SETTLING
pub settling-decides : ASettlingDecides
settling-decides rule start told p span c d sp ds more new h picks settles given = record {
  times = suc h.times;
  settles = some h.times ∙ sym settles;
  span_is = ap settled h.span_is ∙ ap (λ (ps : List (Slot × Pick)). picking ps (settled_times (suc h.times) (span_at rule p.next span))) (sym picks);
  decided = given ∙ ap (λ (xs : List Minute). xs ++ more) (h.decided ∙ ap (λ (xs : List Minute). decided_of rule span ++ xs) (append-nil ds)) ∙ append_assoc (decided_of rule span) ds more;
  seated_ = h.seated_;
}
  where
    some : (k : ℕ) → nat_lt 0 (suc k) ≡ true
    some k = grind (arith, nat_tests)

pub nothing-else : NothingElseDecides
nothing-else rule start told p span c d speed sp ds rest new h picks settles = record {
  times = h.times;
  settles = h.settles ∙ sym settles;
  span_is = h.span_is ∙ ap (λ (ps : List (Slot × Pick)). fed_where speed (picking ps (settled_times h.times (span_at rule p.next span)))) (sym picks);
  decided = h.decided;
  seated_ = h.seated_;
}

-- A MINUTE IS KEPT
pub minute-kept : AMinuteIsKept
minute-kept rule start told p span c speed sp ds d rest new h = record {
  times = h.times;
  settles = h.settles;
  span_is = h.span_is;
  decided = h.decided ∙ ap (λ (xs : List Minute). decided_of rule span ++ xs) (sym (append_assoc ds (d ∷ []) rest));
  seated_ = ap (λ (is : List HistoryMinute). is ++ seated start told (p.book.sure ++ is) d ∷ []) h.seated_ ∙ sym (minutes-parts rule start told p.book.sure ds (d ∷ []));
}

-- THE SECOND
pub second-fed : TheSecondIsFed
second-fed rule start told p span c sp speed ds more new h given = record {
  times = h.times;
  settles = h.settles;
  span_is = ap (λ (x : Span). fed x speed) h.span_is;
  decided = given ∙ ap (λ (xs : List Minute). xs ++ more) (h.decided ∙ ap (λ (xs : List Minute). decided_of rule span ++ xs) (append-nil ds)) ∙ append_assoc (decided_of rule span) ds more;
  seated_ = h.seated_;
}

-- the decided minutes of a span as the rules of minutes have it
pub decided-span : (rule : Rule) (next : ℕ) (span : List ToldSecond) (t : ToldSecond) → decided_in (span_at rule next (span ++ t ∷ [])) ≡ decided_of rule (span ++ t ∷ [])
decided-span rule next [] t = refl
decided-span rule next (x ∷ xs) t = refl

pub second-decided : TheSecondHasDecided
second-decided rule start from first done p f span is s log goes c sp ds rest new h picks settles speed =
    let t : ToldSecond = next_told log done s in
    let base : Span = span_at rule p.next span in
    sym (decided-span rule (suc p.next) span t) ∙ ap decided_in (rules_see rule start from first done p f span is s log goes)
    ∙ ap (λ (ps : List (Slot × Pick)). decided_in (fed (picking ps (settled_where t.course.settled base)) t.second.speed)) picks
    ∙ ap (λ (b : Bool). decided_in (fed (picking c.picks (settled_where b base)) t.second.speed)) settles
    ∙ ap (λ (n : ℕ). decided_in (fed (picking c.picks (settled_where c.settled base)) n)) speed
    ∙ sym (fed-times h.times c.settled c.picks base s.speed h.settles) ∙ ap decided_in (sym h.span_is) ∙ h.decided

pub one-travelled : OneMoreIsTravelled
one-travelled [] d g = refl
one-travelled (x ∷ ds) d g = one-travelled ds d (travelled x.minute x.travelled g)

-- MARKS
none-in : (i : HistoryMinute) → Contains {X = HistoryMinute} [] i → ⊥
none-in i at = omega (arith, at.1)

pub nothing-marked : NothingIsMarkedYet
nothing-marked marks told c number = record { unit = λ i at. absurd (none-in i at); card = λ i card e at on. absurd (none-in i at) }

marked-on : (marks more : List Mark) (device : Device) (m : ℕ) → ((mark : Mark) → Contains marks mark → Contains more mark) → IsMarked marks device m → IsMarked more device m
marked-on marks more device m stay k = (k.0, stay k.0 k.1, k.2, k.3)

broken-on : (told : List ToldSecond) (c d : Course) (card : Card) (from number : ℕ) → StaysOut c d → BrokenSince told c card from number → BrokenSince told d card from number
broken-on told c d card from number out (inl before) = inl before
broken-on told c d card from number out (inr now) = inr (now.0, (now.1.0, now.1.1, ⊎_elim (λ torn. inl (out.torn now.1.0 torn)) (λ pulled. inr (out.pulled now.1.0 pulled)) now.1.2))

pub marks-stay : MarksStay
marks-stay marks more told c d number new h stay out = record {
  unit = λ i at. marked-on marks more Recorder i.minute stay (h.unit i at);
  card = λ i card e at on. ⊎_elim
      (λ k. inl (marked-on marks more (device_of card) i.minute stay k))
      (λ broken. inr (broken-on told c d card (60 * (i.minute + 1)) number out broken))
      (h.card i card e at on);
}

pub one-marked : OneMoreIsMarked
one-marked marks told c number new i h unit each = record {
  unit = λ j at. ⊎_elim (λ old. h.unit j old) (λ (here : i ≡ j). subst (λ (k : HistoryMinute). IsMarked marks Recorder k.minute) here unit) (Contains-push_cases new i j at);
  card = λ j card e at on. ⊎_elim
      (λ old. h.card j card e old on)
      (λ (here : i ≡ j). subst (λ (k : HistoryMinute). IsMarked marks (device_of card) k.minute ⊎ BrokenSince told c card (60 * (k.minute + 1)) number) here
      (each card e (subst (λ (k : HistoryMinute). Contains (on_card card k) e) (sym here) on)))
      (Contains-push_cases new i j at);
}

pub all-acknowledged : AllAreAcknowledged
all-acknowledged marks told t number new is h = record {
  unit = λ i at. inl (h.unit i at);
  card = λ i card e at on. ⊎_elim
      (λ k. inl k)
      (λ broken. ⊎_elim
      (λ before. inr (inr (torn-stays told (t ∷ []) card (60 * (i.minute + 1)) number before)))
      (λ now. inr (inr (t, Contains-push told t, (let le = now.0 in omega (arith, le, is)), omega (arith, is), now.1)))
      broken)
      (h.card i card e at on);
}
