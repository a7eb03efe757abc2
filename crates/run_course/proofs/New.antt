-- The minutes that a second decides: one after another from the first that was not decided before, and over as it begins.
use Rattle.std.proofs.Common.{◌≡◌, ℕ, zero, suc, ◌+◌, ◌-◌, ◌/◌, ◌<◌, ◌≤◌, List, [], ◌∷◌, ◌++◌, All, length, map, refl, ap, sym, subst, ◌∙◌, arith}
use Rattle.std.specs.List.{AllByRecursion}
use Rattle.std.proofs.lemmas.List.Elements.{All-nil, All-cons}
use Rattle.minute_model.specs.declared.Rule.{Rule}
use Rattle.minute_model.specs.declared.Minute.{Minute}
use Rattle.minute_model.specs.Span.{Span, count_from, ungiven_of, AreNumbered}
use Rattle.minute_model.proofs.Counted.{decided-minutes}
use Rattle.minute_model.proofs.Numbered.{numbered-parts}
use Rattle.std.proofs.lemmas.List.{map-append}
use Rattle.log_model.specs.Course.{ToldSecond, went}
use Rattle.log_model.specs.Spans.{seconds_in, first_in, end_in, AreApart}
use Rattle.log_model.proofs.Spanning.{spanned, end-on}
use Rattle.history_model.specs.History.{decided_of}
use Rattle.history_model.specs.Growth.{as_span}
use Rattle.history_model.proofs.Deciding.{counted, span-settled, short-none}
use Rattle.history_model.proofs.Growing.{apart-last}
use Rattle.history_model.proofs.Stilled.{minutes-still}
use Rattle.run_unit_course.specs.Turn.{span_at}
use Rattle.run_unit_course.specs.Followed.{Lit, as_spans}
use Rattle.run_course.specs.Seconds.{next_told, DecidedMinutesAreNew}
use Rattle.run_course.proofs.Alike.{span-before}
use Rattle.run_course.proofs.Steps.{core-of, lit-parts, lit, spans-now, order-now}

-- minutes behind those of a count
counted-behind : (xs ys : List Minute) (a k : ℕ) → map (λ (d : Minute). d.minute) (xs ++ ys) ≡ count_from a k → map (λ (d : Minute). d.minute) ys ≡ count_from (a + length xs) (length ys)
counted-behind [] ys a k is = whole ys a k is ∙ ap (λ (n : ℕ). count_from n (length ys)) (omega arith)
  where
    whole : (ys : List Minute) (a k : ℕ) → map (λ (d : Minute). d.minute) ys ≡ count_from a k → map (λ (d : Minute). d.minute) ys ≡ count_from a (length ys)
    whole [] a k is = refl
    whole (y ∷ ys) a zero is = absurd (cc)
    whole (y ∷ ys) a (suc k) is =
        let first : y.minute ≡ a = cc in
        let rest : map (λ (d : Minute). d.minute) ys ≡ count_from (a + 1) k = cc in
        ap (λ (n : ℕ). n ∷ map (λ (d : Minute). d.minute) ys) first ∙ ap (λ (ns : List ℕ). a ∷ ns) (whole ys (a + 1) k rest)
counted-behind (x ∷ xs) ys a zero is = absurd (cc)
counted-behind (x ∷ xs) ys a (suc k) is =
    let rest : map (λ (d : Minute). d.minute) (xs ++ ys) ≡ count_from (a + 1) k = cc in
    let e : a + 1 + length xs ≡ a + suc (length xs) = omega arith in
    counted-behind xs ys (a + 1) k rest ∙ ap (λ (n : ℕ). count_from n (length ys)) e

count-length : (a k : ℕ) → length (count_from a k) ≡ k
count-length a zero = refl
count-length a (suc k) = ap suc (count-length (a + 1) k)

map-length : (ds : List Minute) → length (map (λ (d : Minute). d.minute) ds) ≡ length ds
map-length [] = refl
map-length (d ∷ ds) = ap suc (map-length ds)

all-second : (n : ℕ) (xs ys : List Minute) → AllByRecursion (λ (d : Minute). d.minute < n) (xs ++ ys) → AllByRecursion (λ (d : Minute). d.minute < n) ys
all-second n [] ys h = h
all-second n (x ∷ xs) ys h = all-second n xs ys h.1

as-all : (n : ℕ) (ds : List Minute) → AllByRecursion (λ (d : Minute). d.minute < n) ds → All (λ (d : Minute). d.minute < n) ds
as-all n [] h = All-nil (λ (d : Minute). d.minute < n)
as-all n (d ∷ ds) h = All-cons (λ (d : Minute). d.minute < n) d ds h.0 (as-all n ds h.1)

-- a span that is numbered and ends with the next second: what one second more decides
grown : (rule : Rule) (x : ToldSecond) (xs : List ToldSecond) (t : ToldSecond) (ds : List Minute) → AreNumbered (first_in (x ∷ xs)) (seconds_in (x ∷ xs)) → AreNumbered (first_in ((x ∷ xs) ++ t ∷ [])) (seconds_in ((x ∷ xs) ++ t ∷ [])) →
    decided_of rule ((x ∷ xs) ++ t ∷ []) ≡ decided_of rule (x ∷ xs) ++ ds → map (λ (d : Minute). d.minute) ds ≡ count_from (ungiven_of (as_span rule (x ∷ xs))) (length ds)
grown rule x xs t ds numbered longer decides =
    let old = as_span rule (x ∷ xs) in
    let new = as_span rule ((x ∷ xs) ++ t ∷ []) in
    let minutes = decided-minutes new longer (span-settled rule ((x ∷ xs) ++ t ∷ []) longer) in
    let before = decided-minutes old numbered (span-settled rule (x ∷ xs) numbered) in
    let count : length (decided_of rule (x ∷ xs)) ≡ ungiven_of old - old.first / 60 =
    sym (map-length (decided_of rule (x ∷ xs))) ∙ ap (λ (ns : List ℕ). length ns) before ∙ count-length (old.first / 60) (ungiven_of old - old.first / 60) in
    let low = first-least old in
    counted-behind (decided_of rule (x ∷ xs)) ds (new.first / 60) (ungiven_of new - new.first / 60) (ap (map (λ (d : Minute). d.minute)) (sym decides) ∙ minutes)
    ∙ ap (λ (n : ℕ). count_from n (length ds)) (omega (arith, count, low))
  where
    first-least : (span : Span) → span.first / 60 ≤ ungiven_of span
    first-least span = omega arith

nothing-more : (xs ys : List Minute) → xs ++ ys ≡ [] → ys ≡ []
nothing-more [] ys h = h
nothing-more (x ∷ xs) ys h = absurd (cc)

due-push : (rule : Rule) (span : List ToldSecond) (t : ToldSecond) (next : ℕ) (ds : List Minute) → ((x : ToldSecond) (xs : List ToldSecond) → span ≡ x ∷ xs → AreNumbered (first_in (x ∷ xs)) (seconds_in (x ∷ xs))) →
    AreNumbered (first_in (span ++ t ∷ [])) (seconds_in (span ++ t ∷ [])) → decided_of rule (span ++ t ∷ []) ≡ decided_of rule span ++ ds →
    map (λ (d : Minute). d.minute) ds ≡ count_from (ungiven_of (span_at rule next span)) (length ds)
due-push rule [] t next ds old now decides =
    subst (λ (ds : List Minute). map (λ (d : Minute). d.minute) ds ≡ count_from (ungiven_of (span_at rule next [])) (length ds))
    (sym (nothing-more (decided_of rule []) ds (sym decides ∙ short-none rule t))) refl
due-push rule (x ∷ xs) t next ds old now decides = grown rule x xs t ds (old x xs refl) now decides

over-push : (rule : Rule) (span : List ToldSecond) (t : ToldSecond) (n : ℕ) → t.second.number ≡ n → AreNumbered (first_in (span ++ t ∷ [])) (seconds_in (span ++ t ∷ [])) →
    AllByRecursion (λ (d : Minute). d.minute < n / 60) (decided_of rule (span ++ t ∷ []))
over-push rule [] t n is numbered = subst (AllByRecursion (λ (d : Minute). d.minute < n / 60)) (sym (short-none rule t)) tt
over-push rule (x ∷ xs) t n is numbered =
    let parts = numbered-parts (first_in (x ∷ xs)) (seconds_in (x ∷ xs)) (seconds_in (t ∷ [])) (subst (AreNumbered (first_in (x ∷ xs))) (map-append (λ (t : ToldSecond). t.second) (x ∷ xs) (t ∷ [])) numbered) in
    let here : t.second.number ≡ first_in (x ∷ xs) + length (seconds_in (x ∷ xs)) = parts.1.0 in
    let c = counted (x ∷ xs) in
    let end = end-on (x ∷ xs) t (omega arith) in
    let same : end_in ((x ∷ xs) ++ t ∷ []) - 1 ≡ n = omega (arith, here, c, end, is) in
    subst (λ (m : ℕ). AllByRecursion (λ (d : Minute). d.minute < m / 60) (decided_of rule ((x ∷ xs) ++ t ∷ []))) same (span-before rule x (xs ++ t ∷ []) numbered)

pub are-new : DecidedMinutesAreNew
are-new rule start from first done p g span is none s later by ds decides =
    let f = lit-parts rule start from first done p g span is none in
    let c = core-of rule start from first done (record p { supply = Lit span; waiting = [] }) f in
    let lit_ = lit rule start from first done p f.order f.next f.unfound s later by span c f.power in
    let t : ToldSecond = next_told later done s in
    let now = spans-now rule start from first done p f.order f.next f.unfound s later by span c f.power in
    let order = order-now rule start from first done p f.order f.next f.unfound s later by in
    let apart = subst (λ (ss : List (List ToldSecond)). AreApart from ss (from + length (done ++ s ∷ []))) now (spanned later from (done ++ s ∷ []) order).apart in
    let numbered = apart-last from (from + length (done ++ s ∷ [])) c.ended (span ++ t ∷ []) apart in
    let here : t.second.number ≡ p.next = lit_.number ∙ by.number in
    let over = all-second (p.next / 60) (decided_of rule span) ds (subst (AllByRecursion (λ (d : Minute). d.minute < p.next / 60)) decides (over-push rule span t p.next here numbered.1)) in
    let old = λ (x : ToldSecond) (xs : List ToldSecond) (e : span ≡ x ∷ xs).
    (apart-last from (from + length done) f.ended (x ∷ xs) (subst (λ (ss : List (List ToldSecond)). AreApart from ss (from + length done)) (f.spans ∙ ap (λ (sp : List ToldSecond). f.ended ++ as_spans sp) e) (spanned p.log from done f.order).apart)).1 in
    record {
      due = due-push rule span t p.next ds old numbered.1 decides;
      over = as-all (p.next / 60) ds over;
      told_before = λ past. minutes-still start (went later done).told t past ds (subst (λ (n : ℕ). AllByRecursion (λ (d : Minute). d.minute < n / 60) ds) (sym here) over);
    }
