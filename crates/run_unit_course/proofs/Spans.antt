-- The power spans of a run, as a turn is added to them, and as their last second turns out to be a cut's.
use Rattle.std.proofs.Common.{◌≡◌, ℕ, zero, suc, ◌+◌, ◌-◌, Bool, true, false, cond, Some, List, [], ◌∷◌, ◌++◌, length, map, filter, fold, refl, ap, sym, subst, ◌∙◌, arith, append_assoc, append-nil, length-append}
use Rattle.std.proofs.lemmas.List.Sums.{fold-append}
use Rattle.std.proofs.lemmas.List.{map-append}
use Rattle.std.proofs.lemmas.List.Elements.{filter-append}
use Rattle.activity_codec.specs.declared.values.Slot.{Slot}
use Rattle.activity_codec.specs.declared.values.Pick.{Pick}
use Rattle.trace_model.specs.declared.Action.{Action}
use Rattle.minute_model.specs.declared.Rule.{Rule}
use Rattle.minute_model.specs.Second.{Second}
use Rattle.minute_model.specs.Minute.{decided}
use Rattle.minute_model.specs.Activity.{last}
use Rattle.minute_model.specs.Span.{Span, fed, fed_many, begin, decided_in, AreNumbered}
use Rattle.minute_model.proofs.Spans.{fed_many-first}
use Rattle.minute_model.proofs.Numbered.{numbered-parts}
use Rattle.minute_model.proofs.Ranges.{last-push}
use Rattle.log_model.specs.Course.{ToldSecond}
use Rattle.log_model.specs.Spans.{go_on, spans_with, spans_of, seconds_in, first_in, end_in}
use Rattle.log_model.proofs.Spanning.{EndsAt, end-on}
use Rattle.history_model.specs.History.{settlings_of, decided_of, cut_second}
use Rattle.history_model.specs.Growth.{as_span, picking}
use Rattle.history_model.proofs.Deciding.{span-more, counted}
use Rattle.history_model.proofs.Growing.{go_on-last}
use Rattle.run_unit_course.specs.Turn.{lit_second, lit_seconds, dark_seconds, cut_at_end, cut_last, span_at, begins_with}
use Rattle.run_unit_course.specs.Followed.{as_spans}

-- SECONDS ARE ADDED
pub spans-parts : (told more : List ToldSecond) → spans_of (told ++ more) ≡ fold spans_with (spans_of told) more
unfolding spans_of
spans-parts told more = fold-append spans_with [] told more

on-many : (ended : List (List ToldSecond)) (t : ToldSecond) (span : List ToldSecond) (n number speed : ℕ) (picks : List (Slot × Pick)) →
    fold spans_with (ended ++ (t ∷ span) ∷ []) (lit_seconds n number speed picks false) ≡ ended ++ ((t ∷ span) ++ lit_seconds n number speed picks false) ∷ []
on-many ended t span zero number speed picks = ap (λ (s : List ToldSecond). ended ++ s ∷ []) (sym (append-nil (t ∷ span)))
on-many ended t span (suc n) number speed picks =
    let x : ToldSecond = lit_second number speed picks false false in
    ap (λ (ss : List (List ToldSecond)). fold spans_with ss (lit_seconds n (number + 1) speed [] false)) (go_on-last ended (t ∷ span) x)
    ∙ on-many ended t (span ++ x ∷ []) n (number + 1) speed []
    ∙ ap (λ (s : List ToldSecond). ended ++ s ∷ []) (append_assoc (t ∷ span) (x ∷ []) (lit_seconds n (number + 1) speed [] false))

-- a turn with power
pub spans-lit : (ended : List (List ToldSecond)) (span : List ToldSecond) (n number speed : ℕ) (picks : List (Slot × Pick)) →
    fold spans_with (ended ++ as_spans span) (lit_seconds n number speed picks (begins_with span)) ≡ ended ++ as_spans (span ++ lit_seconds n number speed picks (begins_with span))
spans-lit ended [] zero number speed picks = refl
spans-lit ended [] (suc n) number speed picks =
    let x : ToldSecond = lit_second number speed picks true false in
    ap (λ (ss : List (List ToldSecond)). fold spans_with (ss ++ (x ∷ []) ∷ []) (lit_seconds n (number + 1) speed [] false)) (append-nil ended)
    ∙ on-many ended x [] n (number + 1) speed []
spans-lit ended (t ∷ span) n number speed picks = on-many ended t span n number speed picks

-- seconds without power
pub spans-dark : (spans : List (List ToldSecond)) (n number speed : ℕ) (given : Bool) (actions : List Action) → fold spans_with spans (dark_seconds n number speed given actions) ≡ spans
spans-dark spans zero number speed given actions = refl
spans-dark spans (suc n) number speed given actions = spans-dark spans n (number + 1) speed given []

-- THE LAST SECOND TURNS OUT TO BE A CUT'S
abbrev pub cut_spans : List (List ToldSecond) → List (List ToldSecond)
cut_spans [] = []
cut_spans (span ∷ []) = cut_last span ∷ []
cut_spans (span ∷ next ∷ spans) = span ∷ cut_spans (next ∷ spans)

pub cut-push : (ts : List ToldSecond) (t : ToldSecond) → cut_last (ts ++ t ∷ []) ≡ ts ++ cut_at_end t ∷ []
cut-push [] t = refl
cut-push (x ∷ []) t = refl
cut-push (x ∷ y ∷ ts) t = ap (λ (zs : List ToldSecond). x ∷ zs) (cut-push (y ∷ ts) t)

pub cut-spans-last : (spans : List (List ToldSecond)) (span : List ToldSecond) → cut_spans (spans ++ span ∷ []) ≡ spans ++ cut_last span ∷ []
cut-spans-last [] span = refl
cut-spans-last (x ∷ []) span = refl
cut-spans-last (x ∷ y ∷ spans) span = ap (λ (ss : List (List ToldSecond)). x ∷ ss) (cut-spans-last (y ∷ spans) span)

cut-on : (spans : List (List ToldSecond)) (t : ToldSecond) → go_on spans (cut_at_end t) ≡ cut_spans (go_on spans t)
cut-on [] t = refl
cut-on (x ∷ []) t = ap (λ (s : List ToldSecond). s ∷ []) (sym (cut-push x t))
cut-on (x ∷ y ∷ []) t = ap (λ (ss : List (List ToldSecond)). x ∷ ss) (cut-on (y ∷ []) t)
cut-on (x ∷ y ∷ z ∷ spans) t = ap (λ (ss : List (List ToldSecond)). x ∷ ss) (cut-on (y ∷ z ∷ spans) t)

pub cut-with : (spans : List (List ToldSecond)) (number speed : ℕ) (picks : List (Slot × Pick)) (starts : Bool) →
    spans_with spans (lit_second number speed picks starts true) ≡ cut_spans (spans_with spans (lit_second number speed picks starts false))
cut-with spans number speed picks true = sym (cut-spans-last spans (lit_second number speed picks true false ∷ []))
cut-with spans number speed picks false = cut-on spans (lit_second number speed picks false false)

-- for the rules of minutes it is the same
seconds-cut : (ts : List ToldSecond) → seconds_in (cut_last ts) ≡ seconds_in ts
seconds-cut [] = refl
seconds-cut (t ∷ []) = refl
seconds-cut (t ∷ u ∷ ts) = ap (λ (ss : List Second). t.second ∷ ss) (seconds-cut (u ∷ ts))

pub settlings-cut : (ts : List ToldSecond) → settlings_of (cut_last ts) ≡ settlings_of ts
settlings-cut [] = refl
settlings-cut (t ∷ []) = go t.course.settled
  where
    go : (b : Bool) → map (λ (t : ToldSecond). t.second.number) (cond b (cut_at_end t ∷ []) []) ≡ map (λ (t : ToldSecond). t.second.number) (cond b (t ∷ []) [])
    go true = refl
    go false = refl
settlings-cut (t ∷ u ∷ ts) = go t.course.settled (settlings-cut (u ∷ ts))
  where
    go : (b : Bool) → settlings_of (cut_last (u ∷ ts)) ≡ settlings_of (u ∷ ts) →
        map (λ (t : ToldSecond). t.second.number) (cond b (t ∷ filter (λ (t : ToldSecond). t.course.settled) (cut_last (u ∷ ts))) (filter (λ (t : ToldSecond). t.course.settled) (cut_last (u ∷ ts))))
        ≡ map (λ (t : ToldSecond). t.second.number) (cond b (t ∷ filter (λ (t : ToldSecond). t.course.settled) (u ∷ ts)) (filter (λ (t : ToldSecond). t.course.settled) (u ∷ ts)))
    go true same = ap (λ (us : List ℕ). t.second.number ∷ us) same
    go false same = same

pub decided-cut : (rule : Rule) (ts : List ToldSecond) → decided_of rule (cut_last ts) ≡ decided_of rule ts
decided-cut rule ts = ap (λ (ss : List Second). decided rule ss (settlings_of (cut_last ts))) (seconds-cut ts) ∙ ap (decided rule (seconds_in ts)) (settlings-cut ts)

pub length-cut : (ts : List ToldSecond) → length (cut_last ts) ≡ length ts
length-cut [] = refl
length-cut (t ∷ []) = refl
length-cut (t ∷ u ∷ ts) = ap suc (length-cut (u ∷ ts))

-- the last of some seconds
pub record Snoc (ts : List ToldSecond) : Type 0 where
  pub front : List ToldSecond
  pub t : ToldSecond
  pub are : ts ≡ front ++ t ∷ []

pub snoc : (t : ToldSecond) (ts : List ToldSecond) → Snoc (t ∷ ts)
snoc t [] = record { front = []; t = t; are = refl }
snoc t (u ∷ ts) = let rest = snoc u ts in record { front = t ∷ rest.front; t = rest.t; are = ap (λ (zs : List ToldSecond). t ∷ zs) rest.are }

-- the second of the cut
pub cut-number : (t : ToldSecond) (ts : List ToldSecond) → AreNumbered (first_in (t ∷ ts)) (seconds_in (t ∷ ts)) → cut_second (last (cut_last (t ∷ ts))) ≡ Some (end_in (t ∷ ts) - 1)
cut-number t ts numbered =
    let s = snoc t ts in
    let n = length-append s.front (s.t ∷ []) in
    let same = ap (λ (zs : List ToldSecond). length zs) s.are in
    let all = subst (λ (zs : List ToldSecond). AreNumbered (first_in (t ∷ ts)) (seconds_in zs)) s.are numbered in
    let parts = numbered-parts (first_in (t ∷ ts)) (seconds_in s.front) (seconds_in (s.t ∷ [])) (subst (AreNumbered (first_in (t ∷ ts))) (map-append (λ (t : ToldSecond). t.second) s.front (s.t ∷ [])) all) in
    let c = counted s.front in
    let here : s.t.second.number ≡ first_in (t ∷ ts) + length (seconds_in s.front) = parts.1.0 in
    ap (λ (zs : List ToldSecond). cut_second (last (cut_last zs))) s.are
    ∙ ap (λ (zs : List ToldSecond). cut_second (last zs)) (cut-push s.front s.t)
    ∙ ap cut_second (last-push s.front (cut_at_end s.t))
    ∙ ap (λ (k : ℕ). Some k) (omega (arith, here, c, n, same))

-- where the last span ends
pub ends-last : (ended : List (List ToldSecond)) (span : List ToldSecond) (u : ℕ) → EndsAt (ended ++ span ∷ []) u → end_in span ≡ u
ends-last [] span u ends = ends
ends-last (x ∷ []) span u ends = ends
ends-last (x ∷ y ∷ ended) span u ends = ends-last (y ∷ ended) span u ends

-- THE RULES OF MINUTES SEE THE TURN
on-seen : (rule : Rule) (t : ToldSecond) (span : List ToldSecond) (n number speed : ℕ) → end_in (t ∷ span) ≡ number →
    as_span rule ((t ∷ span) ++ lit_seconds n number speed [] false) ≡ fed_many (as_span rule (t ∷ span)) speed n
on-seen rule t span zero number speed end = ap (as_span rule) (append-nil (t ∷ span))
on-seen rule t span (suc n) number speed end =
    let x : ToldSecond = lit_second number speed [] false false in
    let later = end-on (t ∷ span) x (omega arith) in
    ap (as_span rule) (sym (append_assoc (t ∷ span) (x ∷ []) (lit_seconds n (number + 1) speed [] false)))
    ∙ on-seen rule t (span ++ x ∷ []) n (number + 1) speed (later ∙ ap (λ (k : ℕ). k + 1) end)
    ∙ ap (λ (s : Span). fed_many s speed n) (span-more rule (t ∷ span) x (omega arith) (sym end))
    ∙ sym (fed_many-first (as_span rule (t ∷ span)) speed n)

begun-seen : (rule : Rule) (number speed : ℕ) (picks : List (Slot × Pick)) → as_span rule (lit_second number speed picks true false ∷ []) ≡ fed (picking picks (begin rule number)) speed
begun-seen rule number speed picks =
    let is : number ≡ number + 0 = omega arith in
    ap (λ (k : ℕ). record { rule = rule; first = number; seconds = record { number = k; speed = speed; picks = picks } ∷ []; pending = []; settlings = [] }) is

-- so many seconds at least one: the span with them is the span that is fed
pub turn-seen : (rule : Rule) (next : ℕ) (span : List ToldSecond) (n speed : ℕ) (picks : List (Slot × Pick)) → begins_with span ≡ false → end_in span ≡ next →
    as_span rule (span ++ lit_seconds (suc n) next speed picks false) ≡ fed_many (picking picks (span_at rule next span)) speed (suc n)
turn-seen rule next [] n speed picks goes end = absurd (cc)
turn-seen rule next (t ∷ span) n speed picks goes end =
    let x : ToldSecond = lit_second next speed picks false false in
    let later = end-on (t ∷ span) x (omega arith) in
    ap (as_span rule) (sym (append_assoc (t ∷ span) (x ∷ []) (lit_seconds n (next + 1) speed [] false)))
    ∙ on-seen rule t (span ++ x ∷ []) n (next + 1) speed (later ∙ ap (λ (k : ℕ). k + 1) end)
    ∙ ap (λ (s : Span). fed_many s speed n) (span-more rule (t ∷ span) x (omega arith) (sym end))
    ∙ sym (fed_many-first (picking picks (as_span rule (t ∷ span))) speed n)

-- the same where power begins
pub begun-turn-seen : (rule : Rule) (next : ℕ) (n speed : ℕ) (picks : List (Slot × Pick)) →
    as_span rule (lit_seconds (suc n) next speed picks true) ≡ fed_many (picking picks (begin rule next)) speed (suc n)
begun-turn-seen rule next n speed picks =
    let x : ToldSecond = lit_second next speed picks true false in
    on-seen rule x [] n (next + 1) speed (omega arith)
    ∙ ap (λ (s : Span). fed_many s speed n) (begun-seen rule next speed picks)
    ∙ sym (fed_many-first (picking picks (begin rule next)) speed n)

pub decided-at : (rule : Rule) (next : ℕ) (span : List ToldSecond) → decided_in (span_at rule next span) ≡ decided_of rule span
decided-at rule next [] = refl
decided-at rule next (t ∷ span) = refl

-- THE SECONDS OF CUTS
abbrev pub cuts_of : List ToldSecond → List ℕ
cuts_of told = map (λ (t : ToldSecond). t.second.number) (filter (λ (t : ToldSecond). t.cut) told)

pub cuts-append : (xs ys : List ToldSecond) → cuts_of (xs ++ ys) ≡ cuts_of xs ++ cuts_of ys
cuts-append xs ys = ap (map (λ (t : ToldSecond). t.second.number)) (filter-append (λ (t : ToldSecond). t.cut) xs ys) ∙ map-append (λ (t : ToldSecond). t.second.number) (filter (λ (t : ToldSecond). t.cut) xs) (filter (λ (t : ToldSecond). t.cut) ys)
