-- Acceptances, cuts and minutes over further seconds and lines.
use Rattle.std.proofs.Common.{◌≡◌, ◌⊎◌, inl, inr, ℕ, zero, suc, ◌+◌, ◌/◌, ◌≤◌, Bool, true, false, cond, ◌&&◌, ◌||◌, List, [], ◌∷◌, ◌++◌, All, Contains, length, map, filter, take, drop, refl, ap, sym, subst, ◌∙◌, arith, append-nil, length-append}
use Rattle.std.specs.Prelude.{flat_map}
use Rattle.std.specs.List.{AllByRecursion, list_any}
use Rattle.std.proofs.lemmas.List.{map-append}
use Rattle.std.proofs.lemmas.List.Folds.{list_any-append, list_any_none}
use Rattle.std.proofs.lemmas.List.Concat.{flat_map-append}
use Rattle.std.proofs.lemmas.List.Elements.{All-nil, All-cons, All-from_recursion, All-weaker, All-map, All-contains, filter-append, Contains-append_cases}
use Rattle.run_course.specs.trace_model.declared.Card.{Card}
use Rattle.run_course.specs.minute_model.declared.Rule.{Rule}
use Rattle.run_course.specs.minute_model.declared.Minute.{Minute}
use Rattle.run_course.specs.minute_model.Span.{latest, count_from, ungiven_of}
use Rattle.run_course.specs.log_model.declared.lines.Break.{Break}
use Rattle.run_course.specs.log_model.declared.lines.Break.TheVariants.{Cut, Tear}
use Rattle.run_course.specs.log_model.declared.lines.Verdict.{Verdict}
use Rattle.run_course.specs.log_model.Log.{is_accepting}
use Rattle.run_course.specs.log_model.Slots.{same_card}
use Rattle.run_course.specs.log_model.Causes.{is_cut, second_of}
use Rattle.run_course.specs.log_model.Course.{ToldSecond, Visit}
use Rattle.run_course.specs.log_model.Spans.{seconds_in}
use Rattle.run_course.specs.history_model.Minutes.{HistoryMinute}
use Rattle.run_course.specs.history_model.Presence.{Start}
use Rattle.run_course.specs.history_model.History.{seated, minutes_after, settlings_of}
use Rattle.run_course.proofs.history_model.Filters.{take-drop}
use Rattle.unit_rule.specs.run_unit_course.Lines.{with_kept, found_from}
use Rattle.unit_rule.specs.run_unit_course.Turn.{span_at}
use Rattle.run_course.specs.Followed.{IsBreakBefore}
use Rattle.unit_rule.specs.safety_model.Cards.{shows_lost}
use Rattle.run_promise.specs.Going.{acceptances_in, IsCutFrom}
use Rattle.run_promise.proofs.Accounts.{none-lost, or-false}

-- ACCEPTANCES of further seconds
pub accepts-more : (c : Card) (xs ys : List ToldSecond) (u : ℕ) → Contains (flat_map (acceptances_in c) (xs ++ ys)) u → Contains (flat_map (acceptances_in c) xs) u ⊎ Contains (flat_map (acceptances_in c) ys) u
accepts-more c xs ys u at = Contains-append_cases (flat_map (acceptances_in c) xs) (flat_map (acceptances_in c) ys) u (subst (λ (zs : List ℕ). Contains zs u) (flat_map-append (acceptances_in c) xs ys) at)

pub accepts-one : (c : Card) (t : ToldSecond) (u : ℕ) → Contains (flat_map (acceptances_in c) (t ∷ [])) u → Contains (acceptances_in c t) u
accepts-one c t u at = subst (λ (zs : List ℕ). Contains zs u) (append-nil (acceptances_in c t)) at

pub accepts-number : (c : Card) (t : ToldSecond) (u : ℕ) → Contains (acceptances_in c t) u → t.second.number ≡ u
accepts-number c t u at = All-contains (λ (n : ℕ). t.second.number ≡ n) (acceptances_in c t) u
    (All-map (λ (n : ℕ). t.second.number ≡ n) (λ (f : Visit × Verdict). t.second.number) (filter (λ (f : Visit × Verdict). same_card c f.0.card && is_accepting f.1) t.course.found) (λ k d lt. refl)) at

pub accepts-none : (c : Card) (t : ToldSecond) → t.course.found ≡ [] → acceptances_in c t ≡ []
accepts-none c t none = ap (λ (fs : List (Visit × Verdict)). map (λ f. t.second.number) (filter (λ f. same_card c f.0.card && is_accepting f.1) fs)) none

-- a second that accepts nothing
pub accepts-same : (c : Card) (xs : List ToldSecond) (t : ToldSecond) → acceptances_in c t ≡ [] → flat_map (acceptances_in c) (xs ++ t ∷ []) ≡ flat_map (acceptances_in c) xs
accepts-same c xs t none =
    flat_map-append (acceptances_in c) xs (t ∷ [])
    ∙ ap (λ (zs : List ℕ). flat_map (acceptances_in c) xs ++ (zs ++ [])) none
    ∙ append-nil (flat_map (acceptances_in c) xs)

-- or what another one did
pub accepts-instead : (c : Card) (xs : List ToldSecond) (t u : ToldSecond) → acceptances_in c u ≡ acceptances_in c t → flat_map (acceptances_in c) (xs ++ u ∷ []) ≡ flat_map (acceptances_in c) (xs ++ t ∷ [])
accepts-instead c xs t u is =
    flat_map-append (acceptances_in c) xs (u ∷ [])
    ∙ ap (λ (zs : List ℕ). flat_map (acceptances_in c) xs ++ (zs ++ [])) is
    ∙ sym (flat_map-append (acceptances_in c) xs (t ∷ []))

-- CUTS that come later show nothing lost before
cut-lost : (u m : ℕ) (b : Break) → IsCutFrom u b → shows_lost u m b ≡ false
cut-lost u m (Cut second kept failed begun) le = none-lost u m (Cut second kept failed begun) (le refl)
cut-lost u m (Tear second slot failed begun late) le = refl

pub lost-tail : (u m : ℕ) (xs ys : List Break) → AllByRecursion (IsCutFrom u) ys → list_any (shows_lost u m) (xs ++ ys) ≡ list_any (shows_lost u m) xs
lost-tail u m xs ys behind =
    list_any-append (shows_lost u m) xs ys
    ∙ ap (λ (b : Bool). list_any (shows_lost u m) xs || b) (list_any_none (shows_lost u m) ys (All-weaker (IsCutFrom u) (λ b. shows_lost u m b ≡ false) (λ b le. cut-lost u m b le) ys (All-from_recursion (IsCutFrom u) ys behind)))
    ∙ or-false (list_any (shows_lost u m) xs)

kept-one : (u k : ℕ) (b : Break) → IsCutFrom u b → IsCutFrom u (with_kept k b)
kept-one u k (Cut second kept failed begun) le = le
kept-one u k (Tear second slot failed begun late) le = le

kept-from : (u k : ℕ) (bs : List Break) → AllByRecursion (IsCutFrom u) bs → AllByRecursion (IsCutFrom u) (map (with_kept k) bs)
kept-from u k [] h = tt
kept-from u k (b ∷ bs) h = (kept-one u k b h.0, kept-from u k bs h.1)

pub found-lost : (u m unfound k : ℕ) (breaks : List Break) → AllByRecursion (IsCutFrom u) (drop unfound breaks) → list_any (shows_lost u m) (found_from unfound k breaks) ≡ list_any (shows_lost u m) breaks
found-lost u m unfound k breaks behind =
    lost-tail u m (take unfound breaks) (map (with_kept k) (drop unfound breaks)) (kept-from u k (drop unfound breaks) behind)
    ∙ sym (lost-tail u m (take unfound breaks) (drop unfound breaks) behind)
    ∙ ap (list_any (shows_lost u m)) (take-drop unfound breaks)

pub both-parts : (P : Break → Type 0) (xs ys : List Break) → AllByRecursion P xs → AllByRecursion P ys → AllByRecursion P (xs ++ ys)
both-parts P [] ys h k = k
both-parts P (x ∷ xs) ys h k = (h.0, both-parts P xs ys h.1 k)

pub back-part : (P : Break → Type 0) (xs ys : List Break) → AllByRecursion P (xs ++ ys) → AllByRecursion P ys
back-part P [] ys h = h
back-part P (x ∷ xs) ys h = back-part P xs ys h.1

pub here-from : (u n : ℕ) (bs : List Break) → u ≤ n → AllByRecursion (λ (b : Break). second_of b ≡ n) bs → AllByRecursion (IsCutFrom u) bs
here-from u n [] le h = tt
here-from u n (b ∷ bs) le h = ((λ cut. let is : second_of b ≡ n = h.0 in omega (arith, le, is)), here-from u n bs le h.1)

-- no cut
pub uncut-from : (u : ℕ) (bs : List Break) → AllByRecursion (λ (b : Break). is_cut b ≡ false) bs → AllByRecursion (IsCutFrom u) bs
uncut-from u [] h = tt
uncut-from u (b ∷ bs) h = ((λ cut. let e : true ≡ false = sym cut ∙ h.0 in absurd (cc)), uncut-from u bs h.1)

uncut-one : (n : ℕ) (b : Break) → second_of b ≡ n → IsBreakBefore n (suc n) b → is_cut b ≡ false
uncut-one n (Cut second kept failed begun) is before = absurd (omega (arith, is, before))
uncut-one n (Tear second slot failed begun late) is before = refl

pub uncut-here : (n : ℕ) (bs : List Break) → AllByRecursion (λ (b : Break). second_of b ≡ n) bs → AllByRecursion (IsBreakBefore n (suc n)) bs → AllByRecursion (λ (b : Break). is_cut b ≡ false) bs
uncut-here n [] h k = tt
uncut-here n (b ∷ bs) h k = (uncut-one n b h.0 k.0, uncut-here n bs h.1 k.1)

pub drop-whole : (bs : List Break) → drop (length bs) bs ≡ []
drop-whole [] = refl
drop-whole (b ∷ bs) = drop-whole bs

-- THE FIRST MINUTE THAT IS NOT DECIDED YET does not go back
settlings-two : (span : List ToldSecond) (t : ToldSecond) → settlings_of (span ++ t ∷ []) ≡ settlings_of span ++ settlings_of (t ∷ [])
settlings-two span t =
    ap (map (λ (t : ToldSecond). t.second.number)) (filter-append (λ (t : ToldSecond). t.course.settled) span (t ∷ []))
    ∙ map-append (λ (t : ToldSecond). t.second.number) (filter (λ (t : ToldSecond). t.course.settled) span) (filter (λ (t : ToldSecond). t.course.settled) (t ∷ []))

latest-front : (xs ys : List ℕ) → latest xs ≤ latest (xs ++ ys)
latest-front [] ys = omega arith
latest-front (x ∷ xs) ys = let rest = latest-front xs ys in omega (arith, rest)

latest-back : (xs ys : List ℕ) → latest ys ≤ latest (xs ++ ys)
latest-back [] ys = omega arith
latest-back (x ∷ xs) ys = let rest = latest-back xs ys in omega (arith, rest)

latest-one : (t : ToldSecond) → t.course.settled ≡ true → t.second.number ≤ latest (settlings_of (t ∷ []))
latest-one t is = go t.course.settled is
  where
    go : (b : Bool) → b ≡ true → t.second.number ≤ latest (map (λ (t : ToldSecond). t.second.number) (cond b (t ∷ []) []))
    go true is = omega arith
    go false is = absurd (cc)

count-more : (span : List ToldSecond) (t : ToldSecond) → length (seconds_in (span ++ t ∷ [])) ≡ length (seconds_in span) + 1
count-more span t = ap length (map-append (λ (t : ToldSecond). t.second) span (t ∷ [])) ∙ length-append (seconds_in span) (t.second ∷ [])

pub ungiven-grows : (rule : Rule) (next : ℕ) (span : List ToldSecond) (t : ToldSecond) → t.second.number ≡ next → ungiven_of (span_at rule next span) ≤ ungiven_of (span_at rule (suc next) (span ++ t ∷ []))
ungiven-grows rule next [] t is = omega (arith, is)
ungiven-grows rule next (x ∷ xs) t is =
    let same = ap latest (settlings-two (x ∷ xs) t) in
    let front = latest-front (settlings_of (x ∷ xs)) (settlings_of (t ∷ [])) in
    let n = count-more (x ∷ xs) t in
    omega (arith, same, front, n)

pub ungiven-now : (rule : Rule) (next : ℕ) (span : List ToldSecond) (t : ToldSecond) → t.second.number ≡ next → (t.course.settled ≡ true) ⊎ (span ≡ []) → next / 60 ≤ ungiven_of (span_at rule (suc next) (span ++ t ∷ []))
ungiven-now rule next [] t is either = omega (arith, is)
ungiven-now rule next (x ∷ xs) t is (inr none) = absurd (cc)
ungiven-now rule next (x ∷ xs) t is (inl settled) =
    let same = ap latest (settlings-two (x ∷ xs) t) in
    let back = latest-back (settlings_of (x ∷ xs)) (settlings_of (t ∷ [])) in
    let one = latest-one t settled in
    omega (arith, same, back, one, is)

-- MINUTES from a number on
pub counted-from : (low a n : ℕ) (ds : List Minute) → low ≤ a → map (λ (d : Minute). d.minute) ds ≡ count_from a n → AllByRecursion (λ (d : Minute). low ≤ d.minute) ds
counted-from low a n [] le is = tt
counted-from low a zero (d ∷ ds) le is = absurd (cc)
counted-from low a (suc n) (d ∷ ds) le is =
    let first : d.minute ≡ a = cc in
    let rest : map (λ (d : Minute). d.minute) ds ≡ count_from (a + 1) n = cc in
    (omega (arith, first, le), counted-from low (a + 1) n ds (omega (arith, le)) rest)

pub seated-from : (start : Start) (told : List ToldSecond) (low : ℕ) (past : List HistoryMinute) (ds : List Minute) → AllByRecursion (λ (d : Minute). low ≤ d.minute) ds → All (λ (i : HistoryMinute). low ≤ i.minute) (minutes_after start told past ds)
seated-from start told low past [] h = All-nil (λ (i : HistoryMinute). low ≤ i.minute)
seated-from start told low past (d ∷ ds) h = All-cons (λ (i : HistoryMinute). low ≤ i.minute) (seated start told past d) (minutes_after start told (past ++ seated start told past d ∷ []) ds) h.0 (seated-from start told low (past ++ seated start told past d ∷ []) ds h.1)
