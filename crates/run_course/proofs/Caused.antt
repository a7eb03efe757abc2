-- The causes of a run with cards, over its steps.
use Rattle.std.proofs.Common.{◌≡◌, ◌⊎◌, inl, inr, ⊎_elim, ℕ, zero, suc, ◌+◌, ◌-◌, ◌^◌, ◌<◌, ◌≤◌, Bool, true, false, cond, not, ◌&&◌, ◌||◌, nat_eq, is_some, Option, List, [], ◌∷◌, ◌++◌, Contains, length, map, filter, refl, ap, sym, subst, ◌∙◌, arith, append_assoc, append-nil, length-append}
use Rattle.std.specs.Prelude.{flat_map}
use Rattle.std.specs.List.{AllByRecursion, list_any}
use Rattle.std.proofs.lemmas.List.{map-append}
use Rattle.std.proofs.lemmas.List.Elements.{filter-append, Contains-append_left, Contains-append_cases, Contains-push, Contains-push_cases}
use Rattle.std.proofs.lemmas.Grind.{flat_map-append}
use Rattle.activity_codec.specs.declared.values.Slot.{Slot}
use Rattle.activity_codec.specs.Activity.{same_slot}
use Rattle.trace_model.specs.declared.Card.{Card}
use Rattle.trace_model.specs.Trace.{TraceSecond, dark}
use Rattle.run_model.specs.declared.Device.{Device}
use Rattle.run_model.specs.declared.Device.TheVariants.{Unit as Recorder}
use Rattle.minute_model.specs.declared.Rule.{Rule}
use Rattle.minute_model.specs.Span.{AreNumbered}
use Rattle.minute_model.proofs.Ranges.{each-more}
use Rattle.log_model.specs.declared.lines.Break.{Break}
use Rattle.log_model.specs.declared.lines.Break.TheVariants.{Cut, Tear}
use Rattle.log_model.specs.declared.lines.Find.{Find}
use Rattle.log_model.specs.declared.lines.SlotFault.{SlotFault}
use Rattle.log_model.specs.declared.lines.Verdict.{Verdict}
use Rattle.log_model.specs.Log.{RunLog, Phase, In, cut_of, cut_in, tears_here, is_torn_in}
use Rattle.log_model.specs.Same.{SameAt}
use Rattle.log_model.specs.Slots.{same_card}
use Rattle.log_model.specs.Course.{ToldSecond, Visit, Went, Before, has_power, second_told, went}
use Rattle.log_model.specs.Causes.{device_of, is_cut, has_failed, second_of, cuts, failed_cut_in, ComesBehind, AreInTime, tears, places, visit_places, in_the_slot, refusals_at, refusals_of, refusal_told, pulled_of, torn_of, cards_torn, finds_of, off_cuts, RoseBy, IsBegun, IsAtPowerOn, HasMoment, CutBy, IsJudged}
use Rattle.log_model.specs.Spans.{seconds_in, AreInOrder}
use Rattle.log_model.proofs.Spanning.{spanned, order-parts}
use Rattle.history_model.specs.Presence.{Start}
use Rattle.run_unit_course.specs.Turn.{cut_at_end}
use Rattle.run_unit_course.specs.Lines.{log_of, cut_at, found_from}
use Rattle.run_unit_course.specs.Caused.{IsOver}
use Rattle.run_unit_course.specs.Followed.{cuts_from}
use Rattle.history_model.proofs.Told.{more-told}
use Rattle.run_unit_course.proofs.Causing.{told-found, told-added}
use Rattle.run_unit_course.proofs.Offs.{pair, off-given, off-later, off-same, over-failed, any-last, by-same, by-other, by-found}
use Rattle.run_unit_course.proofs.Spans.{cuts_of, cuts-append, cut-push}
use Rattle.run_course.specs.Moments.{and_break}
use Rattle.run_course.specs.Followed.{Progress, IsBreakBefore, BookFollowsRun, HadActions}
use Rattle.run_course.specs.Seconds.{next_told}
use Rattle.run_course.specs.Caused.{StandsBy, failures, AreCaused, WellCaused, ASecondIsCaused, FoundStaysCaused, AnOffLineIsCaused, AnOffCutIsCaused, ARunIsCaused}
use Rattle.run_course.proofs.Lookups.{cut-by, cut-first, break-more}
use Rattle.run_course.proofs.Logs.{BreaksBefore, cut-rest, same-at, other-number, breaks-later, breaks-push, found_log, went-found, same-found}
use Rattle.run_course.proofs.Steps.{now-told, lit-parts, cut-parts, cuts-bound}

-- WHAT SECONDS TELL, one after another
abbrev pulled_in : ToldSecond → List (ℕ × Phase × Slot)
pulled_in t = visit_places t.second.number t.course.pulled

abbrev torn_in : ToldSecond → List (ℕ × Phase × Slot)
torn_in t = visit_places t.second.number t.course.torn

abbrev cards_in : ToldSecond → List Card
cards_in t = map (λ (v : Visit). v.card) t.course.torn

abbrev refusals_in : ToldSecond → List (ℕ × ℕ × SlotFault)
refusals_in t = refusals_at t.second.number t.course.refused

abbrev finds_in : ToldSecond → List (ℕ × Phase × Slot × Verdict)
finds_in t = map (λ (f : Visit × Verdict). (t.second.number, f.0.phase, f.0.slot, f.1)) t.course.found

abbrev find_as : Find → ℕ × Phase × Slot × Verdict
find_as f = (f.second, In f.begun, f.slot, f.verdict)

pub refusals-more : (xs ys : List ToldSecond) → refusals_of (xs ++ ys) ≡ refusals_of xs ++ refusals_of ys
refusals-more xs ys = flat_map-append refusals_in xs ys

pub pulled-more : (xs ys : List ToldSecond) → pulled_of (xs ++ ys) ≡ pulled_of xs ++ pulled_of ys
pulled-more xs ys = flat_map-append pulled_in xs ys

pub torn-more : (xs ys : List ToldSecond) → torn_of (xs ++ ys) ≡ torn_of xs ++ torn_of ys
torn-more xs ys = flat_map-append torn_in xs ys

pub cards-more : (xs ys : List ToldSecond) → cards_torn (xs ++ ys) ≡ cards_torn xs ++ cards_torn ys
cards-more xs ys = flat_map-append cards_in xs ys

pub finds-more : (xs ys : List ToldSecond) → finds_of (xs ++ ys) ≡ finds_of xs ++ finds_of ys
finds-more xs ys = flat_map-append finds_in xs ys

-- WHAT BREAKS TELL
abbrev by_cut : Bool → Break → Bool
by_cut failed b = is_cut b && cond failed (has_failed b) (not (has_failed b))

abbrev by_tear : Bool → Break → Bool
by_tear failed b = not (is_cut b) && cond failed (has_failed b) (not (has_failed b))

-- the cuts of two lists are all failures, where none is an `off` line's
all-failures : (bs : List Break) → cuts false (log_of bs) ≡ [] → cuts true (log_of bs) ≡ filter is_cut bs
all-failures [] none = refl
all-failures (Cut s k true n ∷ bs) none = ap (λ (xs : List Break). Cut s k true n ∷ xs) (all-failures bs none)
all-failures (Cut s k false n ∷ bs) none = absurd (cc)
all-failures (Tear s slot f n late ∷ bs) none = all-failures bs none

-- HOW FAR A COUNT ROSE
rose-sum : (n m before mid now : ℕ) → RoseBy n before mid → RoseBy m mid now → RoseBy (n + m) before now
rose-sum n m before mid now (inl low) (inl high) = inl (omega (arith, low, high))
rose-sum n m before mid now (inl low) (inr top) = inr top
rose-sum n m before mid now (inr top) (inl high) = inr (full mid now m top high)
  where
    full : (mid now m : ℕ) → 2 ^ 64 - 1 ≤ mid → mid + m ≤ now → 2 ^ 64 - 1 ≤ now
    full mid now m top high = omega (arith, top, high)
rose-sum n m before mid now (inr top) (inr most) = inr most

stands-sum : (n m before mid now : ℕ) → StandsBy n before mid → StandsBy m mid now → StandsBy (n + m) before now
stands-sum n m before mid now first next = λ none. let a : n ≡ 0 = omega (arith, none) in let b : m ≡ 0 = omega (arith, none) in next b ∙ first a

-- HOW MANY ACTIONS HAD BEGUN
numbers-from : (n : ℕ) (ss : List TraceSecond) (s : TraceSecond) → AreInOrder n ss → Contains ss s → (n ≤ s.number) × (s.number < n + length ss)
numbers-from n [] s order at = absurd (omega (arith, at.1))
numbers-from n (x ∷ ss) s order at =
    ⊎_elim
    (λ first. ⊎_elim (λ none. absurd (omega (arith, none.1))) (λ same. let e : s.number ≡ n = ap (λ (z : TraceSecond). z.number) (sym same) ∙ order.0 in (omega (arith, e), omega (arith, e))) (Contains-push_cases [] x s first))
    (λ rest. let w = numbers-from (n + 1) ss s order.1 rest in let from = w.0 in let to = w.1 in (omega (arith, from), omega (arith, to)))
    (Contains-append_cases (x ∷ []) ss s at)

-- of an earlier second, and seconds behind it
pub begun-old : (next : ℕ) (done more : List TraceSecond) (bs : List Break) → ((s : TraceSecond) → Contains more s → next ≤ s.number) → BreaksBefore next next bs → AllByRecursion (IsBegun done) bs → AllByRecursion (IsBegun (done ++ more)) bs
begun-old next done more [] later before h = tt
begun-old next done more (Cut second kept failed begun ∷ bs) later before h = (
  λ s at is. ⊎_elim (λ old. h.0 s old is)
      (λ new. absurd (let ge = later s new in let lt : second < next = before.0 in omega (arith, lt, ge, is)))
      (Contains-append_cases done more s at),
  begun-old next done more bs later before.1 h.1,
)
begun-old next done more (Tear second slot failed begun late ∷ bs) later before h = (
  λ s at is. ⊎_elim (λ old. h.0 s old is)
      (λ new. absurd (let ge = later s new in let lt : second < next = before.0 in omega (arith, lt, ge, is)))
      (Contains-append_cases done more s at),
  begun-old next done more bs later before.1 h.1,
)

-- of the newest second
begun-new : (next : ℕ) (done more : List TraceSecond) (bs : List Break) → ((s : TraceSecond) → Contains done s → s.number < next) → AllByRecursion (λ (b : Break). second_of b ≡ next) bs → AllByRecursion (IsBegun more) bs → AllByRecursion (IsBegun (done ++ more)) bs
begun-new next done more [] earlier each h = tt
begun-new next done more (Cut second kept failed begun ∷ bs) earlier each h = (
  λ s at is. ⊎_elim
      (λ old. absurd (let lt = earlier s old in let e : second ≡ next = each.0 in omega (arith, lt, e, is)))
      (λ new. h.0 s new is)
      (Contains-append_cases done more s at),
  begun-new next done more bs earlier each.1 h.1,
)
begun-new next done more (Tear second slot failed begun late ∷ bs) earlier each h = (
  λ s at is. ⊎_elim
      (λ old. absurd (let lt = earlier s old in let e : second ≡ next = each.0 in omega (arith, lt, e, is)))
      (λ new. h.0 s new is)
      (Contains-append_cases done more s at),
  begun-new next done more bs earlier each.1 h.1,
)

-- what was found kept after cuts changes nothing that does not speak of that
each-found : (P : Break → Type 0) → ((second old k begun : ℕ) (failed : Bool) → P (Cut second old failed begun) → P (Cut second k failed begun)) → (i k : ℕ) (bs : List Break) → AllByRecursion P bs → AllByRecursion P (found_from i k bs)
each-found P same zero k [] h = tt
each-found P same zero k (Cut s old f n ∷ bs) h = (same s old k n f h.0, each-found P same zero k bs h.1)
each-found P same zero k (Tear s slot f n late ∷ bs) h = (h.0, each-found P same zero k bs h.1)
each-found P same (suc i) k [] h = tt
each-found P same (suc i) k (b ∷ bs) h = (h.0, each-found P same i k bs h.1)

-- IN WHICH MOMENT
second-before : (next : ℕ) (b : Break) → IsBreakBefore next next b → second_of b < next
second-before next (Cut s k f n) is = is
second-before next (Tear s slot f n late) is = is

-- of an earlier second, and seconds behind it
pub moments-old : (next : ℕ) (told more : List ToldSecond) (bs : List Break) → ((t : ToldSecond) → Contains more t → next ≤ t.second.number) → BreaksBefore next next bs → AllByRecursion (HasMoment told) bs → AllByRecursion (HasMoment (told ++ more)) bs
moments-old next told more [] later before h = tt
moments-old next told more (b ∷ bs) later before h = (
  λ t at is. ⊎_elim (λ old. h.0 t old is)
      (λ new. absurd (let ge = later t new in let lt = second-before next b before.0 in omega (arith, lt, ge, is)))
      (Contains-append_cases told more t at),
  moments-old next told more bs later before.1 h.1,
)

-- of the newest second
moments-new : (next : ℕ) (told : List ToldSecond) (t : ToldSecond) (bs : List Break) → ((x : ToldSecond) → Contains told x → x.second.number < next) → AllByRecursion (λ (b : Break). second_of b ≡ next) bs → AllByRecursion (IsAtPowerOn t.starts) bs → AllByRecursion (HasMoment (told ++ t ∷ [])) bs
moments-new next told t [] earlier each h = tt
moments-new next told t (b ∷ bs) earlier each h = (
  λ x at is. ⊎_elim
      (λ old. absurd (let lt = earlier x old in let e : second_of b ≡ next = each.0 in omega (arith, lt, e, is)))
      (λ (here : t ≡ x). subst (λ (y : ToldSecond). IsAtPowerOn y.starts b) here h.0)
      (Contains-push_cases told t x at),
  moments-new next told t bs earlier each.1 h.1,
)

-- where the last second turns out to be a cut's
moments-cut : (front : List ToldSecond) (x : ToldSecond) (bs : List Break) → AllByRecursion (HasMoment (front ++ x ∷ [])) bs → AllByRecursion (HasMoment (front ++ cut_at_end x ∷ [])) bs
moments-cut front x [] h = tt
moments-cut front x (b ∷ bs) h = (
  λ t at is. ⊎_elim
      (λ old. h.0 t (Contains-append_left front (x ∷ []) t old) is)
      (λ (here : cut_at_end x ≡ t). subst (λ (y : ToldSecond). IsAtPowerOn y.starts b) here (h.0 x (Contains-push front x) (ap (λ (y : ToldSecond). y.second.number) here ∙ is)))
      (Contains-push_cases front (cut_at_end x) t at),
  moments-cut front x bs h.1,
)

-- IN ORDER OF TIME
behind-by : (cuts_ next n : ℕ) (b c : Break) → IsBreakBefore cuts_ next b → cuts_ ≤ n → next ≤ suc n → n ≤ second_of c → ComesBehind b c
behind-by cuts_ next n (Cut s k f i) c is le few low = omega (arith, is, le, low)
behind-by cuts_ next n (Tear s slot f i late) c is le few low = omega (arith, is, few, low)

each-behind : (cuts_ next n : ℕ) (b : Break) (bs : List Break) → IsBreakBefore cuts_ next b → cuts_ ≤ n → next ≤ suc n → AllByRecursion (λ (c : Break). n ≤ second_of c) bs → AllByRecursion (ComesBehind b) bs
each-behind cuts_ next n b [] is le few low = tt
each-behind cuts_ next n b (c ∷ bs) is le few low = (behind-by cuts_ next n b c is le few low.0, each-behind cuts_ next n b bs is le few low.1)

in_time-more : (cuts_ next n : ℕ) (xs ys : List Break) → BreaksBefore cuts_ next xs → cuts_ ≤ n → next ≤ suc n → AllByRecursion (λ (c : Break). n ≤ second_of c) ys → AreInTime xs → AreInTime ys → AreInTime (xs ++ ys)
in_time-more cuts_ next n [] ys before le few low xs_are ys_are = ys_are
in_time-more cuts_ next n (x ∷ xs) ys before le few low xs_are ys_are =
    (each-more (ComesBehind x) xs ys xs_are.0 (each-behind cuts_ next n x ys before.0 le few low), in_time-more cuts_ next n xs ys before.1 le few low xs_are.1 ys_are)

at-least : (n : ℕ) (bs : List Break) → AllByRecursion (λ (b : Break). second_of b ≡ n) bs → AllByRecursion (λ (b : Break). n ≤ second_of b) bs
at-least n [] h = tt
at-least n (b ∷ bs) h = let is : second_of b ≡ n = h.0 in (omega (arith, is), at-least n bs h.1)

behind-same : (b x y : Break) → second_of x ≡ second_of y → ComesBehind b x → ComesBehind b y
behind-same (Cut s k f i) x y is h = omega (arith, is, h)
behind-same (Tear s slot f i late) x y is h = omega (arith, is, h)

in_time-found : (i k : ℕ) (bs : List Break) → AreInTime bs → AreInTime (found_from i k bs)
in_time-found zero k [] h = tt
in_time-found zero k (Cut s old f n ∷ bs) h = (each-found (ComesBehind (Cut s k f n)) (λ u j k m g is. is) zero k bs h.0, in_time-found zero k bs h.1)
in_time-found zero k (Tear s slot f n late ∷ bs) h = (each-found (ComesBehind (Tear s slot f n late)) (λ u j k m g is. is) zero k bs h.0, in_time-found zero k bs h.1)
in_time-found (suc i) k [] h = tt
in_time-found (suc i) k (b ∷ bs) h = (each-found (ComesBehind b) (λ u j k m g is. behind-same b (Cut u j g m) (Cut u k g m) refl is) i k bs h.0, in_time-found i k bs h.1)

-- WHERE A FAILED CALL TOOK THE POWER
one-filtered : (P : Break → Type 0) (b : Break) (bs : List Break) → P b → (t : Bool) → AllByRecursion P bs → AllByRecursion P (cond t (b ∷ bs) bs)
one-filtered P b bs here true rest = (here, rest)
one-filtered P b bs here false rest = rest

each-filtered : (P : Break → Type 0) (p : Break → Bool) (bs : List Break) → AllByRecursion P bs → AllByRecursion P (filter p bs)
each-filtered P p [] h = tt
each-filtered P p (b ∷ bs) h = one-filtered P b (filter p bs) h.0 (p b) (each-filtered P p bs h.1)

abbrev of_failures : List Break → RunLog
of_failures bs = log_of (cuts true (log_of bs))

failed-by : (log : RunLog) (u : ℕ) → failed_cut_in log u ≡ cut_in (of_failures log.breaks) u
failed-by log u = cut-by (record log { breaks = cuts true log }) u

-- two logs with the same failures
pub failed-same : (log later : RunLog) (u : ℕ) → cuts true later ≡ cuts true log → failed_cut_in later u ≡ failed_cut_in log u
failed-same log later u same = failed-by later u ∙ ap (λ (bs : List Break). cut_in (log_of bs) u) same ∙ sym (failed-by log u)

-- lines of another second
failed-rest : (log later : RunLog) (rest : List Break) (n u : ℕ) → later.breaks ≡ log.breaks ++ rest → nat_eq n u ≡ false → AllByRecursion (λ (b : Break). second_of b ≡ n) rest → failed_cut_in later u ≡ failed_cut_in log u
failed-rest log later rest n u more other each =
    failed-by later u
    ∙ ap (λ (bs : List Break). cut_in (log_of bs) u) (ap (filter (by_cut true)) more ∙ filter-append (by_cut true) log.breaks rest)
    ∙ cut-rest (cuts true log) (cuts true (log_of rest)) n u other (each-filtered (λ (b : Break). second_of b ≡ n) (by_cut true) rest each)
    ∙ sym (failed-by log u)

-- what was found kept after them
failed-head : (b c : Break) (xs ys : List Break) (u : ℕ) → cut_of u b ≡ cut_of u c → cut_in (log_of xs) u ≡ cut_in (log_of ys) u → cut_in (log_of (b ∷ xs)) u ≡ cut_in (log_of (c ∷ ys)) u
failed-head b c xs ys u head tail =
    cut-first b xs u ∙ ap (λ (o : Option ℕ). cond (is_some o) o (cut_in (log_of xs) u)) head ∙ ap (λ (o : Option ℕ). cond (is_some (cut_of u c)) (cut_of u c) o) tail ∙ sym (cut-first c ys u)

failures-found : (i k : ℕ) (bs : List Break) (u : ℕ) → cut_in (of_failures (found_from i k bs)) u ≡ cut_in (of_failures bs) u
failures-found zero k [] u = refl
failures-found zero k (Cut s old true n ∷ bs) u = failed-head (Cut s k true n) (Cut s old true n) (cuts true (log_of (found_from zero k bs))) (cuts true (log_of bs)) u refl (failures-found zero k bs u)
failures-found zero k (Cut s old false n ∷ bs) u = failures-found zero k bs u
failures-found zero k (Tear s slot f n late ∷ bs) u = failures-found zero k bs u
failures-found (suc i) k [] u = refl
failures-found (suc i) k (Cut s old true n ∷ bs) u = failed-head (Cut s old true n) (Cut s old true n) (cuts true (log_of (found_from i k bs))) (cuts true (log_of bs)) u refl (failures-found i k bs u)
failures-found (suc i) k (Cut s old false n ∷ bs) u = failures-found i k bs u
failures-found (suc i) k (Tear s slot f n late ∷ bs) u = failures-found i k bs u

failed-found : (log : RunLog) (i k u : ℕ) → failed_cut_in (found_log i k log) u ≡ failed_cut_in log u
failed-found log i k u = failed-by (found_log i k log) u ∙ failures-found i k log.breaks u ∙ sym (failed-by log u)

-- SECONDS THAT ARE OVER
pub over-last : (failed : List ℕ) (told : List ToldSecond) (t : ToldSecond) → (t.lit && not (list_any (nat_eq t.second.number) failed)) ≡ false → IsOver failed (told ++ t ∷ [])
over-last failed [] t is = is
over-last failed (x ∷ []) t is = is
over-last failed (x ∷ y ∷ told) t is = over-last failed (y ∷ told) t is

without : (l g m : Bool) → (l && m) ≡ false → (l && g && m) ≡ false
without true true m h = h
without true false m h = refl
without false g m h = refl

-- nothing comes of a second behind them
pub off-behind : (failed : List ℕ) (told : List ToldSecond) (t : ToldSecond) → IsOver failed told → off_cuts failed (told ++ t ∷ []) ≡ off_cuts failed told
off-behind failed [] t over = refl
off-behind failed (x ∷ []) t over =
    ap (λ (b : Bool). cond b (x.second.number ∷ []) [] ++ []) (without x.lit (not t.given) (not (list_any (nat_eq x.second.number) failed)) over)
off-behind failed (x ∷ y ∷ told) t over = ap (λ (us : List ℕ). pair failed x y ++ us) (off-behind failed (y ∷ told) t over)

-- a lit second, and one behind it that the trace gives no power
off-lit : (failed : List ℕ) (told : List ToldSecond) (x t : ToldSecond) → x.lit ≡ true → t.given ≡ false → list_any (nat_eq x.second.number) failed ≡ false →
    off_cuts failed ((told ++ x ∷ []) ++ t ∷ []) ≡ off_cuts failed (told ++ x ∷ []) ++ x.second.number ∷ []
off-lit failed [] x t lit given none = rw (lit, given, none) refl
off-lit failed (y ∷ []) x t lit given none =
    ap (λ (us : List ℕ). pair failed y x ++ us) (off-lit failed [] x t lit given none) ∙ sym (append_assoc (pair failed y x) [] (x.second.number ∷ []))
off-lit failed (y ∷ z ∷ told) x t lit given none =
    ap (λ (us : List ℕ). pair failed y z ++ us) (off-lit failed (z ∷ told) x t lit given none) ∙ sym (append_assoc (pair failed y z) (off_cuts failed ((z ∷ told) ++ x ∷ [])) (x.second.number ∷ []))

-- failures of a later second change nothing
off-failures : (failed us : List ℕ) (n next : ℕ) (told : List ToldSecond) → AreNumbered n (seconds_in told) → n + length told ≤ next + 1 → AllByRecursion (λ (u : ℕ). u ≡ next) us → off_cuts (failed ++ us) told ≡ off_cuts failed told
off-failures failed [] n next told h le each = ap (λ (us : List ℕ). off_cuts us told) (append-nil failed)
off-failures failed (u ∷ us) n next told h le each =
    ap (λ (vs : List ℕ). off_cuts vs told) (sym (append_assoc failed (u ∷ []) us))
    ∙ off-failures (failed ++ u ∷ []) us n next told h le each.1
    ∙ off-later failed u n told h (let is : u ≡ next = each.0 in omega (arith, is, le))

failures-of : (bs : List Break) (next : ℕ) → AllByRecursion (λ (b : Break). second_of b ≡ next) bs → AllByRecursion (λ (u : ℕ). u ≡ next) (map second_of (cuts true (log_of bs)))
failures-of [] next each = tt
failures-of (Cut s k true n ∷ bs) next each = (each.0, failures-of bs next each.1)
failures-of (Cut s k false n ∷ bs) next each = failures-of bs next each.1
failures-of (Tear s slot f n late ∷ bs) next each = failures-of bs next each.1

-- no failure was in a later second
failures-before : (cuts_ next v : ℕ) (bs : List Break) → BreaksBefore cuts_ next bs → cuts_ ≤ v → list_any (nat_eq v) (map second_of (cuts true (log_of bs))) ≡ false
failures-before cuts_ next v [] h le = refl
failures-before cuts_ next v (Cut s k true n ∷ bs) h le =
    let lt : s < cuts_ = h.0 in
    let other : nat_eq v s ≡ false = other-number v s (omega (arith, lt, le)) in
    rw other (failures-before cuts_ next v bs h.1 le)
failures-before cuts_ next v (Cut s k false n ∷ bs) h le = failures-before cuts_ next v bs h.1 le
failures-before cuts_ next v (Tear s slot f n late ∷ bs) h le = failures-before cuts_ next v bs h.1 le

-- JUDGEMENTS of earlier seconds
number-of : (n : ℕ) (told : List ToldSecond) (t : ToldSecond) → AreNumbered n (seconds_in told) → Contains told t → t.second.number < n + length told
number-of n [] t h at = absurd (omega (arith, at.1))
number-of n (x ∷ told) t h at =
    ⊎_elim
    (λ here. ⊎_elim (λ none. absurd (omega (arith, none.1))) (λ (is : x ≡ t). let e : t.second.number ≡ n = ap (λ (y : ToldSecond). y.second.number) (sym is) ∙ h.0 in omega (arith, e)) (Contains-push_cases [] x t here))
    (λ rest. let lt = number-of (n + 1) told t h.1 rest in omega (arith, lt))
    (Contains-append_cases (x ∷ []) told t at)

pub judged-same : (log later : RunLog) (t : ToldSecond) (e : Visit) → SameAt log later t.second.number → failed_cut_in later t.second.number ≡ failed_cut_in log t.second.number → IsJudged log t e → IsJudged later t e
judged-same log later t e same fails j = record {
  once = j.once;
  missing = λ none. ⊎_elim (λ torn. inl (same.torn e.phase e.slot ∙ torn)) (λ cut. inr (subst (λ (o : Option ℕ). CutBy o e.phase) (sym fails) cut)) (j.missing none);
}

-- breaks so far
pub breaks-next : (rule : Rule) (start : Start) (from first : ℕ) (done : List TraceSecond) (p : Progress) → BookFollowsRun rule start from first done p → BreaksBefore p.next p.next p.log.breaks
breaks-next rule start from first done p f = breaks-later (cuts_from p.supply p.next) p.next p.next p.next p.log.breaks (cuts-bound p.supply p.next) (omega arith) f.lines.breaks

-- ONE SECOND MORE
pub second-caused : ASecondIsCaused
second-caused rule start from first done p f s later g refused more_refused before mid now a w q is over =
    let c = w.caused in
    let t : ToldSecond = next_told later done s in
    let told : List ToldSecond = (went p.log done).told in
    let now_ = now-told rule start from first done p f.order f.next f.unfound s later g in
    let whole = spanned p.log from done f.order in
    let next = f.next in
    let count = whole.count in
    let given : t.given ≡ true = told-given later (went later done).before s ∙ g.given in
    let parts : (failed : Bool) → cuts failed later ≡ cuts failed p.log ++ cuts failed (log_of g.breaks.0) = λ failed. ap (filter (by_cut failed)) g.breaks.1 ∙ filter-append (by_cut failed) p.log.breaks g.breaks.0 in
    let torn_parts : (failed : Bool) → tears failed later ≡ tears failed p.log ++ tears failed (log_of g.breaks.0) = λ failed. ap (filter (by_tear failed)) g.breaks.1 ∙ filter-append (by_tear failed) p.log.breaks g.breaks.0 in
    let all_failures : failures later ≡ failures p.log ++ map second_of (cuts true (log_of g.breaks.0)) = ap (map second_of) (parts true) ∙ map-append second_of (cuts true p.log) (cuts true (log_of g.breaks.0)) in
    let done_before : (x : TraceSecond) → Contains done x → x.number < p.next = λ x at. (let w = numbers-from from done x f.order at in let to = w.1 in omega (arith, to, next)) in
    let same_at : (x : ToldSecond) → Contains told x → SameAt p.log later x.second.number = λ x at.
    same-at p.log later p.next g.breaks.0 g.breaks.1 g.breaks.2 g.finds.0 g.finds.1 g.finds.2 x.second.number (other-number p.next x.second.number (let lt = number-of from told x whole.seconds at in omega (arith, lt, count, next))) in
    let fails_at : (x : ToldSecond) → Contains told x → failed_cut_in later x.second.number ≡ failed_cut_in p.log x.second.number = λ x at.
    failed-rest p.log later g.breaks.0 p.next x.second.number g.breaks.1 (other-number p.next x.second.number (let lt = number-of from told x whole.seconds at in omega (arith, lt, count, next))) g.breaks.2 in
    let number : t.second.number ≡ p.next = told-number later (went later done).before s ∙ g.number in
    let so_far = breaks-next rule start from first done p f in
    let all_ : AreCaused before now (done ++ s ∷ []) later = record {
      refused =
          ap (map refusal_told) more_refused ∙ map-append refusal_told p.log.refused refused
          ∙ ap (λ (xs : List (ℕ × ℕ × SlotFault)). xs ++ map refusal_told refused) c.refused ∙ ap (λ (xs : List (ℕ × ℕ × SlotFault)). refusals_of told ++ xs) a.refusals
          ∙ sym (ap refusals_of now_ ∙ refusals-more told (t ∷ []));
      cut_seconds =
          ap (λ (bs : List Break). map second_of (filter is_cut bs)) g.breaks.1 ∙ ap (map second_of) (filter-append is_cut p.log.breaks g.breaks.0)
          ∙ map-append second_of (filter is_cut p.log.breaks) (filter is_cut g.breaks.0)
          ∙ ap (λ (xs : List ℕ). xs ++ map second_of (filter is_cut g.breaks.0)) c.cut_seconds ∙ ap (λ (xs : List ℕ). cuts_of told ++ xs) a.cut_seconds
          ∙ sym (ap cuts_of now_ ∙ cuts-append told (t ∷ []));
      off_lines =
          ap (map second_of) (parts false ∙ ap (λ (bs : List Break). cuts false p.log ++ bs) a.no_off ∙ append-nil (cuts false p.log)) ∙ c.off_lines
          ∙ sym (ap (λ (us : List ℕ). off_cuts us (went later (done ++ s ∷ [])).told) all_failures ∙ ap (off_cuts (failures p.log ++ map second_of (cuts true (log_of g.breaks.0)))) now_
          ∙ off-given (failures p.log ++ map second_of (cuts true (log_of g.breaks.0))) told (t ∷ []) (given, tt)
          ∙ off-failures (failures p.log) (map second_of (cuts true (log_of g.breaks.0))) from p.next told whole.seconds (omega (arith, count, next)) (failures-of g.breaks.0 p.next g.breaks.2));
      failed_cuts = subst (λ (n : ℕ). RoseBy n (before Recorder) (now Recorder)) (sym (ap (λ (bs : List Break). length bs) (parts true) ∙ length-append (cuts true p.log) (cuts true (log_of g.breaks.0))))
          (rose-sum (length (cuts true p.log)) (length (cuts true (log_of g.breaks.0))) (before Recorder) (mid Recorder) (now Recorder) c.failed_cuts a.failed_cuts);
      tear_lines =
          ap (flat_map places) (torn_parts false) ∙ flat_map-append places (tears false p.log) (tears false (log_of g.breaks.0))
          ∙ ap (λ (xs : List (ℕ × Phase × Slot)). xs ++ flat_map places (tears false (log_of g.breaks.0))) c.tear_lines ∙ ap (λ (xs : List (ℕ × Phase × Slot)). pulled_of told ++ xs) a.tear_lines
          ∙ sym (ap pulled_of now_ ∙ pulled-more told (t ∷ []));
      failed_tears = λ slot.
          ap (λ (xs : List (ℕ × Phase × Slot)). in_the_slot slot xs) (ap (flat_map places) (torn_parts true) ∙ flat_map-append places (tears true p.log) (tears true (log_of g.breaks.0)))
          ∙ slot-more slot (flat_map places (tears true p.log)) (flat_map places (tears true (log_of g.breaks.0)))
          ∙ ap (λ (xs : List (ℕ × Phase × Slot)). xs ++ in_the_slot slot (flat_map places (tears true (log_of g.breaks.0)))) (c.failed_tears slot)
          ∙ ap (λ (xs : List (ℕ × Phase × Slot)). in_the_slot slot (torn_of told) ++ xs) (a.failed_tears slot)
          ∙ sym (ap (λ (ts : List ToldSecond). in_the_slot slot (torn_of ts)) now_ ∙ ap (λ (xs : List (ℕ × Phase × Slot)). in_the_slot slot xs) (torn-more told (t ∷ [])) ∙ slot-more slot (torn_of told) (torn_of (t ∷ [])));
      torn_cards = λ card. subst (λ (n : ℕ). RoseBy n (before (device_of card)) (now (device_of card)))
          (sym (ap (λ (ts : List ToldSecond). length (filter (same_card card) (cards_torn ts))) now_
          ∙ ap (λ (cs : List Card). length (filter (same_card card) cs)) (cards-more told (t ∷ []))
          ∙ ap (λ (cs : List Card). length cs) (filter-append (same_card card) (cards_torn told) (cards_torn (t ∷ [])))
          ∙ length-append (filter (same_card card) (cards_torn told)) (filter (same_card card) (cards_torn (t ∷ [])))))
          (rose-sum (length (filter (same_card card) (cards_torn told))) (length (filter (same_card card) (cards_torn (t ∷ [])))) (before (device_of card)) (mid (device_of card)) (now (device_of card)) (c.torn_cards card) (a.torn_cards card));
      calm_cards = λ card. subst (λ (n : ℕ). StandsBy n (before (device_of card)) (now (device_of card)))
          (sym (ap (λ (ts : List ToldSecond). length (filter (same_card card) (cards_torn ts))) now_
          ∙ ap (λ (cs : List Card). length (filter (same_card card) cs)) (cards-more told (t ∷ []))
          ∙ ap (λ (cs : List Card). length cs) (filter-append (same_card card) (cards_torn told) (cards_torn (t ∷ [])))
          ∙ length-append (filter (same_card card) (cards_torn told)) (filter (same_card card) (cards_torn (t ∷ [])))))
          (stands-sum (length (filter (same_card card) (cards_torn told))) (length (filter (same_card card) (cards_torn (t ∷ [])))) (before (device_of card)) (mid (device_of card)) (now (device_of card)) (c.calm_cards card) (a.calm_cards card));
      begun = subst (AllByRecursion (IsBegun (done ++ s ∷ []))) (sym g.breaks.1)
          (each-more (IsBegun (done ++ s ∷ [])) p.log.breaks g.breaks.0
          (begun-old p.next done (s ∷ []) p.log.breaks (λ x at. one-number s x p.next g.number at) (breaks-next rule start from first done p f) c.begun)
          (begun-new p.next done (s ∷ []) g.breaks.0 done_before g.breaks.2 a.begun));
      moments = subst (λ (ts : List ToldSecond). AllByRecursion (HasMoment ts) later.breaks) (sym now_) (subst (AllByRecursion (HasMoment (told ++ t ∷ []))) (sym g.breaks.1)
          (each-more (HasMoment (told ++ t ∷ [])) p.log.breaks g.breaks.0
          (moments-old p.next told (t ∷ []) p.log.breaks (λ x at. one-told t x p.next number at) so_far c.moments)
          (moments-new p.next told t g.breaks.0 (λ x at. let lt = number-of from told x whole.seconds at in omega (arith, lt, count, next)) g.breaks.2 a.moments)));
      order = subst AreInTime (sym g.breaks.1) (in_time-more p.next p.next p.next p.log.breaks g.breaks.0 so_far (omega arith) (omega arith) (at-least p.next g.breaks.0 g.breaks.2) c.order a.order);
      finds =
          ap (map find_as) g.finds.1 ∙ map-append find_as p.log.finds g.finds.0
          ∙ ap (λ (xs : List (ℕ × Phase × Slot × Verdict)). xs ++ map find_as g.finds.0) c.finds ∙ ap (λ (xs : List (ℕ × Phase × Slot × Verdict)). finds_of told ++ xs) a.told_finds
          ∙ sym (ap finds_of now_ ∙ finds-more told (t ∷ []));
      judged = λ x e at entered. ⊎_elim
          (λ old. judged-same p.log later x e (same_at x old) (fails_at x old) (c.judged x e old entered))
          (λ (here : t ≡ x). subst (λ (y : ToldSecond). IsJudged later y e) here (a.judged e (subst (λ (y : ToldSecond). Contains y.course.entered e) (sym here) entered)))
          (Contains-push_cases told t x (subst (λ (ts : List ToldSecond). Contains ts x) now_ at));
    } in
    let over_now : ((t.lit ≡ false) ⊎ (t.cut ≡ true)) → IsOver (failures later) (told ++ t ∷ []) = λ which. ⊎_elim
    (λ dark. over-last (failures later) told t (ap (λ (b : Bool). b && not (list_any (nat_eq t.second.number) (failures later))) dark))
    (λ cut. over-failed (failures later) told t
    (ap (list_any (nat_eq t.second.number))
    (all_failures ∙ ap (λ (us : List ℕ). failures p.log ++ us) (ap (map second_of) (all-failures g.breaks.0 a.no_off) ∙ a.cut_seconds ∙ ap (λ (b : Bool). map (λ (t : ToldSecond). t.second.number) (cond b (t ∷ []) [])) cut))
    ∙ any-last (failures p.log) t.second.number)) which in
    record {
      caused = subst (λ (l : RunLog). AreCaused before now (done ++ s ∷ []) l) (sym is) all_;
      over = λ dark. subst (λ (l : RunLog). IsOver (failures l) (went l (done ++ s ∷ [])).told) (sym is) (subst (IsOver (failures later)) (sym now_) (over_now (over dark)));
    }
  where
    told-given : (log : RunLog) (before : Before) (s : TraceSecond) → (second_told log before s).given ≡ s.has_power
    told-given log before s = go (has_power before s) refl
      where
        go : (b : Bool) → has_power before s ≡ b → (second_told log before s).given ≡ s.has_power
        go true is = rw is refl
        go false is = rw is refl

    told-number : (log : RunLog) (before : Before) (s : TraceSecond) → (second_told log before s).second.number ≡ s.number
    told-number log before s = go (has_power before s) refl
      where
        go : (b : Bool) → has_power before s ≡ b → (second_told log before s).second.number ≡ s.number
        go true is = rw is refl
        go false is = rw is refl

    one-told : (t x : ToldSecond) (next : ℕ) → t.second.number ≡ next → Contains (t ∷ []) x → next ≤ x.second.number
    one-told t x next is at = ⊎_elim (λ none. absurd (omega (arith, none.1))) (λ (same : t ≡ x). let e : x.second.number ≡ next = ap (λ (y : ToldSecond). y.second.number) (sym same) ∙ is in omega (arith, e)) (Contains-push_cases [] t x at)

    slot-more : (slot : Slot) (xs ys : List (ℕ × Phase × Slot)) → in_the_slot slot (xs ++ ys) ≡ in_the_slot slot xs ++ in_the_slot slot ys
    slot-more slot xs ys = filter-append (λ (p : ℕ × Phase × Slot). same_slot p.2 slot) xs ys

    one-number : (s x : TraceSecond) (next : ℕ) → s.number ≡ next → Contains (s ∷ []) x → next ≤ x.number
    one-number s x next is at = ⊎_elim (λ none. absurd (omega (arith, none.1))) (λ (same : s ≡ x). let e : x.number ≡ next = ap (λ (y : TraceSecond). y.number) (sym same) ∙ is in omega (arith, e)) (Contains-push_cases [] s x at)

-- AT THE START
pub run-caused : ARunIsCaused
unfolding went
run-caused now p is = record {
  caused = subst (λ (l : RunLog). AreCaused now now [] l) (sym is) (record {
    refused = refl;
    cut_seconds = refl;
    off_lines = refl;
    failed_cuts = inl (omega arith);
    tear_lines = refl;
    failed_tears = λ slot. refl;
    torn_cards = λ card. inl (omega arith);
    calm_cards = λ card none. refl;
    begun = tt;
    moments = tt;
    order = tt;
    finds = refl;
    judged = λ t e at entered. absurd (omega (arith, at.1));
  });
  over = λ dark. tt;
}

-- A POWER-ON
tears-found : (failed : Bool) (i k : ℕ) (bs : List Break) → tears failed (log_of (found_from i k bs)) ≡ tears failed (log_of bs)
tears-found failed zero k [] = refl
tears-found failed zero k (Cut s old f n ∷ bs) = tears-found failed zero k bs
tears-found failed zero k (Tear s slot f n late ∷ bs) = ap (λ (xs : List Break). cond (by_tear failed (Tear s slot f n late)) (Tear s slot f n late ∷ xs) xs) (tears-found failed zero k bs)
tears-found failed (suc i) k [] = refl
tears-found failed (suc i) k (b ∷ bs) = ap (λ (xs : List Break). cond (by_tear failed b) (b ∷ xs) xs) (tears-found failed i k bs)

length-map : (bs : List Break) → length (map second_of bs) ≡ length bs
length-map [] = refl
length-map (b ∷ bs) = ap suc (length-map bs)

pub found-caused : FoundStaysCaused
found-caused rule start from first done p f k before now w q is darker =
    let c = w.caused in
    let later : RunLog = found_log p.unfound k p.log in
    let same = went-found p.log p.unfound k from done f.order in
    let told_ = ap (λ (w : Went). w.told) same in
    let fails : failures later ≡ failures p.log = by-found true p.unfound k p.log.breaks in
    let all_ : AreCaused before now done later = record {
      refused = c.refused ∙ ap refusals_of (sym told_);
      cut_seconds = told-found p.unfound k p.log.breaks ∙ c.cut_seconds ∙ ap cuts_of (sym told_);
      off_lines = by-found false p.unfound k p.log.breaks ∙ c.off_lines ∙ ap (λ (us : List ℕ). off_cuts us (went p.log done).told) (sym fails) ∙ ap (off_cuts (failures later)) (sym told_);
      failed_cuts = subst (λ (n : ℕ). RoseBy n (before Recorder) (now Recorder)) (sym (sym (length-map (cuts true later)) ∙ ap (λ (us : List ℕ). length us) fails ∙ length-map (cuts true p.log))) c.failed_cuts;
      tear_lines = ap (flat_map places) (tears-found false p.unfound k p.log.breaks) ∙ c.tear_lines ∙ ap pulled_of (sym told_);
      failed_tears = λ slot. ap (λ (bs : List Break). in_the_slot slot (flat_map places bs)) (tears-found true p.unfound k p.log.breaks) ∙ c.failed_tears slot ∙ ap (λ (ts : List ToldSecond). in_the_slot slot (torn_of ts)) (sym told_);
      torn_cards = λ card. subst (λ (ts : List ToldSecond). RoseBy (length (filter (same_card card) (cards_torn ts))) (before (device_of card)) (now (device_of card))) (sym told_) (c.torn_cards card);
      calm_cards = λ card. subst (λ (ts : List ToldSecond). StandsBy (length (filter (same_card card) (cards_torn ts))) (before (device_of card)) (now (device_of card))) (sym told_) (c.calm_cards card);
      begun = each-found (IsBegun done) (λ second old k begun failed h. h) p.unfound k p.log.breaks c.begun;
      moments = subst (λ (ts : List ToldSecond). AllByRecursion (HasMoment ts) later.breaks) (sym told_) (each-found (HasMoment (went p.log done).told) (λ second old k begun failed h. h) p.unfound k p.log.breaks c.moments);
      order = in_time-found p.unfound k p.log.breaks c.order;
      finds = c.finds ∙ ap finds_of (sym told_);
      judged = λ t e at entered. judged-same p.log later t e (same-found p.log p.unfound k t.second.number) (failed-found p.log p.unfound k t.second.number) (c.judged t e (subst (λ (ts : List ToldSecond). Contains ts t) told_ at) entered);
    } in
    record {
      caused = subst (λ (l : RunLog). AreCaused before now done l) (sym is) all_;
      over = λ dark. subst (λ (l : RunLog). IsOver (failures l) (went l done).told) (sym is)
          (subst (λ (us : List ℕ). IsOver us (went later done).told) (sym fails) (subst (IsOver (failures p.log)) (sym told_) (w.over (darker dark))));
    }

-- AN `off` LINE
abbrev off_second : ℕ → TraceSecond
off_second next = record { number = next; has_power = false; speed = 0; actions = [] }

off-one : (from : ℕ) (before now : Device → ℕ) (log : RunLog) (done : List TraceSecond) (next : ℕ) → BreaksBefore next next log.breaks → AreCaused before now done log → IsOver (failures log) (went log done).told →
    AreCaused before now (done ++ off_second next ∷ []) log × IsOver (failures log) (went log (done ++ off_second next ∷ [])).told
off-one from before now log done next lines c over =
    let told : List ToldSecond = (went log done).told in
    let t : ToldSecond = second_told log (went log done).before (off_second next) in
    let now_ : (went log (done ++ off_second next ∷ [])).told ≡ told ++ t ∷ [] = more-told log done (off_second next) in (
      record {
        refused = c.refused ∙ sym (ap refusals_of now_ ∙ refusals-more told (t ∷ []) ∙ append-nil (refusals_of told));
        cut_seconds = c.cut_seconds ∙ sym (ap cuts_of now_ ∙ cuts-append told (t ∷ []) ∙ append-nil (cuts_of told));
        off_lines = c.off_lines ∙ sym (ap (off_cuts (failures log)) now_ ∙ off-behind (failures log) told t over);
        failed_cuts = c.failed_cuts;
        tear_lines = c.tear_lines ∙ sym (ap pulled_of now_ ∙ pulled-more told (t ∷ []) ∙ append-nil (pulled_of told));
        failed_tears = λ slot. c.failed_tears slot ∙ sym (ap (λ (ts : List ToldSecond). in_the_slot slot (torn_of ts)) now_ ∙ ap (λ (xs : List (ℕ × Phase × Slot)). in_the_slot slot xs) (torn-more told (t ∷ []) ∙ append-nil (torn_of told)));
        torn_cards = λ card. subst (λ (cs : List Card). RoseBy (length (filter (same_card card) cs)) (before (device_of card)) (now (device_of card)))
            (sym (ap cards_torn now_ ∙ cards-more told (t ∷ []) ∙ append-nil (cards_torn told))) (c.torn_cards card);
        calm_cards = λ card. subst (λ (cs : List Card). StandsBy (length (filter (same_card card) cs)) (before (device_of card)) (now (device_of card)))
            (sym (ap cards_torn now_ ∙ cards-more told (t ∷ []) ∙ append-nil (cards_torn told))) (c.calm_cards card);
        begun = begun-old next done (off_second next ∷ []) log.breaks
            (λ x at. ⊎_elim (λ none. absurd (omega (arith, none.1))) (λ (same : off_second next ≡ x). let e : next ≡ x.number = ap (λ (y : TraceSecond). y.number) same in omega (arith, e)) (Contains-push_cases [] (off_second next) x at)) lines c.begun;
        moments = subst (λ (ts : List ToldSecond). AllByRecursion (HasMoment ts) log.breaks) (sym now_)
            (moments-old next told (t ∷ []) log.breaks (λ x at. ⊎_elim (λ none. absurd (omega (arith, none.1))) (λ (same : t ≡ x). let e : next ≡ x.second.number = ap (λ (y : ToldSecond). y.second.number) same in omega (arith, e)) (Contains-push_cases [] t x at)) lines c.moments);
        order = c.order;
        finds = c.finds ∙ sym (ap finds_of now_ ∙ finds-more told (t ∷ []) ∙ append-nil (finds_of told));
        judged = λ x e at entered. ⊎_elim
            (λ old. c.judged x e old entered)
            (λ (here : t ≡ x). absurd (let nobody = subst (λ (y : ToldSecond). Contains y.course.entered e) (sym here) entered in omega (arith, nobody.1)))
            (Contains-push_cases told t x (subst (λ (ts : List ToldSecond). Contains ts x) now_ at));
      },
      subst (IsOver (failures log)) (sym now_) (over-last (failures log) told t refl),
    )

off-many : (from : ℕ) (before now : Device → ℕ) (log : RunLog) (n : ℕ) (done : List TraceSecond) (next : ℕ) → BreaksBefore next next log.breaks → AreCaused before now done log → IsOver (failures log) (went log done).told →
    AreCaused before now (done ++ dark (suc n) next) log × IsOver (failures log) (went log (done ++ dark (suc n) next)).told
off-many from before now log zero done next lines c over = off-one from before now log done next lines c over
off-many from before now log (suc n) done next lines c over =
    let one = off-one from before now log done next lines c over in
    let rest = off-many from before now log n (done ++ off_second next ∷ []) (next + 1) (breaks-later next next (next + 1) (next + 1) log.breaks (omega arith) (omega arith) lines) one.0 one.1 in
    subst (λ (ss : List TraceSecond). AreCaused before now ss log × IsOver (failures log) (went log ss).told) (append_assoc done (off_second next ∷ []) (dark (suc n) (next + 1))) rest

-- an end of a run, by its log
well : (before now : Device → ℕ) (done : List TraceSecond) (log : RunLog) → AreCaused before now done log × IsOver (failures log) (went log done).told → (q : Progress) → q.log ≡ log → WellCaused before now done q
well before now done log both q is = record {
  caused = subst (λ (l : RunLog). AreCaused before now done l) (sym is) both.0;
  over = λ dark. subst (λ (l : RunLog). IsOver (failures l) (went l done).told) (sym is) both.1;
}

pub off-caused : AnOffLineIsCaused
off-caused rule start from first done p f dark_ n before now w q is =
    well before now (done ++ dark (suc n) p.next) p.log (off-many from before now p.log n done p.next (breaks-next rule start from first done p f) w.caused (w.over dark_)) q is

-- WHILE THERE IS POWER: the last second turns out to be a cut's
numbered-front : (n : ℕ) (xs : List ToldSecond) (x : ToldSecond) → AreNumbered n (seconds_in (xs ++ x ∷ [])) → AreNumbered n (seconds_in xs)
numbered-front n [] x h = tt
numbered-front n (y ∷ xs) x h = (h.0, numbered-front (n + 1) xs x h.1)

-- what the last second's judgements were stays where it turns out to be a cut's
judged-cut : (log : RunLog) (cut : Break) (x : ToldSecond) (e : Visit) → failed_cut_in (and_break log cut) x.second.number ≡ failed_cut_in log x.second.number →
    ((p : Phase) (slot : Slot) → is_torn_in (and_break log cut) x.second.number p slot ≡ (is_torn_in log x.second.number p slot || tears_here x.second.number p slot cut)) →
    IsJudged log x e → IsJudged (and_break log cut) (cut_at_end x) e
judged-cut log cut x e fails torn j = record {
  once = j.once;
  missing = λ nothing. ⊎_elim
      (λ is. inl (torn e.phase e.slot ∙ ap (λ (b : Bool). b || tears_here x.second.number e.phase e.slot cut) is))
      (λ by. inr (subst (λ (o : Option ℕ). CutBy o e.phase) (sym fails) by))
      (j.missing nothing);
}

-- a cut behind all actions of the last second
begun-last : (rule : Rule) (start : Start) (from first : ℕ) (done : List TraceSecond) (p : Progress) (h : HadActions done p.begun) → AreInOrder from done → p.next ≡ from + length done → IsBegun (done ++ off_second p.next ∷ []) (cut_at (p.next - 1) false p.begun)
begun-last rule start from first done p h order next =
    let last_ : TraceSecond = record { number = h.number; has_power = true; speed = h.speed; actions = h.actions } in
    let o = order-parts from h.before last_ (subst (AreInOrder from) h.are order) in
    let total = ap (λ (zs : List TraceSecond). length zs) h.are in
    let parts = length-append h.before (last_ ∷ []) in
    λ s at same.
    ⊎_elim
    (λ old. ⊎_elim
    (λ earlier. absurd (let w = numbers-from from h.before s o.0 earlier in let to = w.1 in omega (arith, to, same, total, parts, next)))
    (λ here. let e : p.begun ≡ length s.actions = sym h.count ∙ ap (λ (z : TraceSecond). length z.actions) here in (omega (arith, e), λ f. e))
    (Contains-push_cases h.before last_ s (subst (λ (zs : List TraceSecond). Contains zs s) h.are old)))
    (λ (new : off_second p.next ≡ s). absurd (let e : p.next ≡ s.number = ap (λ (z : TraceSecond). z.number) new in omega (arith, e, same, total, parts, next)))
    (Contains-push_cases done (off_second p.next) s at)

pub off-cut-caused : AnOffCutIsCaused
off-cut-caused rule start from first done p g t span is none n before now w q log_is =
    let f = lit-parts rule start from first done p g (t ∷ span) is none in
    let c = w.caused in
    let cut : Break = cut_at (p.next - 1) false p.begun in
    let later : RunLog = and_break p.log cut in
    let parts = cut-parts rule start from first done p t span f in
    let front : List ToldSecond = parts.0 in
    let x : ToldSecond = parts.1 in
    let y : ToldSecond = cut_at_end x in
    let t0 : ToldSecond = second_told later (went later done).before (off_second p.next) in
    let now_ : (went later (done ++ off_second p.next ∷ [])).told ≡ (front ++ y ∷ []) ++ t0 ∷ [] = more-told later done (off_second p.next) ∙ ap (λ (ts : List ToldSecond). ts ++ t0 ∷ []) parts.3 in
    let told : List ToldSecond = (went p.log done).told in
    let whole = spanned p.log from done f.order in
    let number : x.second.number ≡ p.next - 1 = parts.6 in
    let next = f.next in
    let total = ap (λ (ts : List ToldSecond). length ts) parts.2 in
    let count = whole.count in
    let size = length-append front (x ∷ []) in
    let some_next : p.next - 1 < p.next = omega (arith, total, count, size, next) in
    let lines = f.lines.breaks in
    let all_lines : BreaksBefore p.next p.next p.log.breaks = breaks-later (p.next - 1) p.next p.next p.next p.log.breaks (omega arith) (omega arith) lines in
    let numbered : AreNumbered from (seconds_in front) = numbered-front from front x (subst (λ (ts : List ToldSecond). AreNumbered from (seconds_in ts)) parts.2 whole.seconds) in
    let no_failure : list_any (nat_eq y.second.number) (failures p.log) ≡ false = ap (λ (v : ℕ). list_any (nat_eq v) (failures p.log)) number ∙ failures-before (p.next - 1) p.next (p.next - 1) p.log.breaks lines (omega arith) in
    let fails : failures later ≡ failures p.log = by-other p.log.breaks (p.next - 1) false p.begun in
    let no_more : cuts true later ≡ cuts true p.log = filter-append (by_cut true) p.log.breaks (cut ∷ []) ∙ append-nil (cuts true p.log) in
    let one : AreCaused before now (done ++ off_second p.next ∷ []) later = record {
      refused = c.refused ∙ ap refusals_of parts.2 ∙ refusals-more front (x ∷ []) ∙ sym (ap refusals_of now_ ∙ refusals-more (front ++ y ∷ []) (t0 ∷ []) ∙ append-nil (refusals_of (front ++ y ∷ [])) ∙ refusals-more front (y ∷ []));
      cut_seconds =
          told-added p.log.breaks (p.next - 1) false p.begun
          ∙ ap (λ (us : List ℕ). us ++ (p.next - 1) ∷ []) (c.cut_seconds ∙ ap cuts_of parts.2 ∙ cuts-append front (x ∷ []) ∙ ap (λ (b : Bool). cuts_of front ++ map (λ (t : ToldSecond). t.second.number) (cond b (x ∷ []) [])) parts.5 ∙ append-nil (cuts_of front))
          ∙ ap (λ (v : ℕ). cuts_of front ++ v ∷ []) (sym number)
          ∙ sym (ap cuts_of now_ ∙ cuts-append (front ++ y ∷ []) (t0 ∷ []) ∙ append-nil (cuts_of (front ++ y ∷ [])) ∙ cuts-append front (y ∷ []));
      off_lines =
          by-same p.log.breaks (p.next - 1) false p.begun
          ∙ ap (λ (us : List ℕ). us ++ (p.next - 1) ∷ []) (c.off_lines ∙ ap (off_cuts (failures p.log)) parts.2 ∙ sym (off-same (failures p.log) (front ++ x ∷ [])) ∙ ap (off_cuts (failures p.log)) (cut-push front x))
          ∙ ap (λ (v : ℕ). off_cuts (failures p.log) (front ++ y ∷ []) ++ v ∷ []) (sym number)
          ∙ sym (ap (λ (us : List ℕ). off_cuts us (went later (done ++ off_second p.next ∷ [])).told) fails ∙ ap (off_cuts (failures p.log)) now_ ∙ off-lit (failures p.log) front y t0 parts.4 refl no_failure);
      failed_cuts = subst (λ (bs : List Break). RoseBy (length bs) (before Recorder) (now Recorder)) (sym no_more) c.failed_cuts;
      tear_lines =
          ap (flat_map places) (filter-append (by_tear false) p.log.breaks (cut ∷ []) ∙ append-nil (tears false p.log)) ∙ c.tear_lines ∙ ap pulled_of parts.2 ∙ pulled-more front (x ∷ [])
          ∙ sym (ap pulled_of now_ ∙ pulled-more (front ++ y ∷ []) (t0 ∷ []) ∙ append-nil (pulled_of (front ++ y ∷ [])) ∙ pulled-more front (y ∷ []));
      failed_tears = λ slot.
          ap (λ (bs : List Break). in_the_slot slot (flat_map places bs)) (filter-append (by_tear true) p.log.breaks (cut ∷ []) ∙ append-nil (tears true p.log)) ∙ c.failed_tears slot
          ∙ ap (λ (xs : List (ℕ × Phase × Slot)). in_the_slot slot xs)
          (ap torn_of parts.2 ∙ torn-more front (x ∷ []) ∙ sym (ap torn_of now_ ∙ torn-more (front ++ y ∷ []) (t0 ∷ []) ∙ append-nil (torn_of (front ++ y ∷ [])) ∙ torn-more front (y ∷ [])));
      torn_cards = λ card. subst (λ (cs : List Card). RoseBy (length (filter (same_card card) cs)) (before (device_of card)) (now (device_of card)))
          (ap cards_torn parts.2 ∙ cards-more front (x ∷ []) ∙ sym (ap cards_torn now_ ∙ cards-more (front ++ y ∷ []) (t0 ∷ []) ∙ append-nil (cards_torn (front ++ y ∷ [])) ∙ cards-more front (y ∷ []))) (c.torn_cards card);
      calm_cards = λ card. subst (λ (cs : List Card). StandsBy (length (filter (same_card card) cs)) (before (device_of card)) (now (device_of card)))
          (ap cards_torn parts.2 ∙ cards-more front (x ∷ []) ∙ sym (ap cards_torn now_ ∙ cards-more (front ++ y ∷ []) (t0 ∷ []) ∙ append-nil (cards_torn (front ++ y ∷ [])) ∙ cards-more front (y ∷ []))) (c.calm_cards card);
      begun = each-more (IsBegun (done ++ off_second p.next ∷ [])) p.log.breaks (cut ∷ [])
          (begun-old p.next done (off_second p.next ∷ []) p.log.breaks
          (λ z at. ⊎_elim (λ none. absurd (omega (arith, none.1))) (λ (same : off_second p.next ≡ z). let e : p.next ≡ z.number = ap (λ (z : TraceSecond). z.number) same in omega (arith, e)) (Contains-push_cases [] (off_second p.next) z at))
          all_lines c.begun)
          (begun-last rule start from first done p f.last f.order f.next, tt);
      moments = subst (λ (ts : List ToldSecond). AllByRecursion (HasMoment ts) later.breaks) (sym now_)
          (each-more (HasMoment ((front ++ y ∷ []) ++ t0 ∷ [])) p.log.breaks (cut ∷ [])
          (moments-old p.next (front ++ y ∷ []) (t0 ∷ []) p.log.breaks
          (λ z at. ⊎_elim (λ none. absurd (omega (arith, none.1))) (λ (same : t0 ≡ z). let e : p.next ≡ z.second.number = ap (λ (v : ToldSecond). v.second.number) same in omega (arith, e)) (Contains-push_cases [] t0 z at))
          all_lines (moments-cut front x p.log.breaks (subst (λ (ts : List ToldSecond). AllByRecursion (HasMoment ts) p.log.breaks) parts.2 c.moments)))
          (λ z at same. tt, tt));
      order = in_time-more (p.next - 1) p.next (p.next - 1) p.log.breaks (cut ∷ []) lines (omega arith) (omega arith) (omega arith, tt) c.order (tt, tt);
      finds = c.finds ∙ ap finds_of parts.2 ∙ finds-more front (x ∷ []) ∙ sym (ap finds_of now_ ∙ finds-more (front ++ y ∷ []) (t0 ∷ []) ∙ append-nil (finds_of (front ++ y ∷ [])) ∙ finds-more front (y ∷ []));
      judged = λ z e at entered. ⊎_elim
          (λ old. ⊎_elim
          (λ earlier. judged-same p.log later z e
          (same-at p.log later (p.next - 1) (cut ∷ []) refl (refl, tt) [] (sym (append-nil p.log.finds)) tt z.second.number (other-number (p.next - 1) z.second.number (let lt = number-of from front z numbered earlier in omega (arith, lt, total, count, size, next))))
          (failed-same p.log later z.second.number no_more)
          (c.judged z e (subst (λ (ts : List ToldSecond). Contains ts z) (sym parts.2) (Contains-append_left front (x ∷ []) z earlier)) entered))
          (λ (here : y ≡ z). subst (λ (v : ToldSecond). IsJudged later v e) here
          (judged-cut p.log cut x e (failed-same p.log later x.second.number no_more) (λ phase slot. (break-more p.log cut x.second.number).torn phase slot)
          (c.judged x e (subst (λ (ts : List ToldSecond). Contains ts x) (sym parts.2) (Contains-push front x)) (subst (λ (v : ToldSecond). Contains v.course.entered e) (sym here) entered))))
          (Contains-push_cases front y z old))
          (λ (here : t0 ≡ z). absurd (let nobody = subst (λ (v : ToldSecond). Contains v.course.entered e) (sym here) entered in omega (arith, nobody.1)))
          (Contains-push_cases (front ++ y ∷ []) t0 z (subst (λ (ts : List ToldSecond). Contains ts z) now_ at));
    } in
    let over_ : IsOver (failures later) (went later (done ++ off_second p.next ∷ [])).told = subst (IsOver (failures later)) (sym now_) (over-last (failures later) (front ++ y ∷ []) t0 refl) in
    well before now (done ++ dark (suc n) p.next) later
    (rest n (one, over_) (breaks-later p.next p.next (p.next + 1) (p.next + 1) later.breaks (omega arith) (omega arith) (breaks-push (p.next - 1) p.next p.log.breaks (p.next - 1) false p.begun some_next (omega arith) lines))) q log_is
  where
    rest : (n : ℕ) → (let later : RunLog = and_break p.log (cut_at (p.next - 1) false p.begun) in AreCaused before now (done ++ off_second p.next ∷ []) later × IsOver (failures later) (went later (done ++ off_second p.next ∷ [])).told) →
        BreaksBefore (p.next + 1) (p.next + 1) (and_break p.log (cut_at (p.next - 1) false p.begun)).breaks →
        (let later : RunLog = and_break p.log (cut_at (p.next - 1) false p.begun) in AreCaused before now (done ++ dark (suc n) p.next) later × IsOver (failures later) (went later (done ++ dark (suc n) p.next)).told)
    rest zero both lines = both
    rest (suc n) both lines =
        let later : RunLog = and_break p.log (cut_at (p.next - 1) false p.begun) in
        subst (λ (ss : List TraceSecond). AreCaused before now ss later × IsOver (failures later) (went later ss).told) (append_assoc done (off_second p.next ∷ []) (dark (suc n) (p.next + 1)))
        (off-many from before now later n (done ++ off_second p.next ∷ []) (p.next + 1) lines both.0 both.1)
