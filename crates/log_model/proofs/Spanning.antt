-- The spans of a run whose seconds are numbered: each is numbered, and begins no earlier than the one before it ends.
use Rattle.std.proofs.Common.{◌≡◌, ℕ, zero, suc, ◌+◌, ◌<◌, ◌≤◌, Bool, true, false, cond, List, [], ◌∷◌, ◌++◌, length, refl, ap, sym, subst, ◌∙◌, arith, not, ◌&&◌, fold}
use Rattle.std.proofs.lemmas.List.Sums.{fold-append}
use Rattle.std.proofs.lemmas.List.{length-append, map-append}
use Rattle.trace_model.specs.declared.Action.{Action}
use Rattle.trace_model.specs.declared.Item.{Item}
use Rattle.trace_model.specs.declared.Item.TheVariants.{Run, Off, Act}
use Rattle.trace_model.specs.Trace.{TraceSecond, driven, dark, seconds_from, seconds_of}
use Rattle.run_model.specs.minute_model.Span.{AreNumbered}
use Rattle.run_model.proofs.minute_model.Numbered.{numbered-more}
use Rattle.log_model.specs.Log.{RunLog}
use Rattle.log_model.specs.Course.{ToldSecond, Went, Before, has_power, second_told, before_next, went_on, went, not_begun}
use Rattle.log_model.specs.Spans.{go_on, spans_with, spans_of, seconds_in, first_in, end_in, AreInOrder, AreApart}

-- one second more in the spans
pub spans-more : (told : List ToldSecond) (t : ToldSecond) → spans_of (told ++ t ∷ []) ≡ spans_with (spans_of told) t
unfolding spans_of
spans-more told t = fold-append spans_with [] told (t ∷ [])

-- power begins with it: a new span
pub spans-new : (spans : List (List ToldSecond)) (t : ToldSecond) → t.lit ≡ true → t.starts ≡ true → spans_with spans t ≡ spans ++ (t ∷ []) ∷ []
spans-new spans t lit starts =
    ap (λ (b : Bool). cond b (cond t.starts (spans ++ (t ∷ []) ∷ []) (go_on spans t)) spans) lit ∙ ap (λ (b : Bool). cond b (spans ++ (t ∷ []) ∷ []) (go_on spans t)) starts

-- power is kept: the last span goes on
pub spans-on : (spans : List (List ToldSecond)) (t : ToldSecond) → t.lit ≡ true → t.starts ≡ false → spans_with spans t ≡ go_on spans t
spans-on spans t lit starts =
    ap (λ (b : Bool). cond b (cond t.starts (spans ++ (t ∷ []) ∷ []) (go_on spans t)) spans) lit ∙ ap (λ (b : Bool). cond b (spans ++ (t ∷ []) ∷ []) (go_on spans t)) starts

-- no power: the same spans
pub spans-dark : (spans : List (List ToldSecond)) (t : ToldSecond) → t.lit ≡ false → spans_with spans t ≡ spans
spans-dark spans t dark = ap (λ (b : Bool). cond b (cond t.starts (spans ++ (t ∷ []) ∷ []) (go_on spans t)) spans) dark

-- the last span ends with this number
abbrev pub EndsAt : List (List ToldSecond) → ℕ → Type 0
EndsAt [] u = ⊥
EndsAt (span ∷ []) u = end_in span ≡ u
EndsAt (span ∷ next ∷ spans) u = EndsAt (next ∷ spans) u

-- a span with one second more
pub first-on : (span : List ToldSecond) (t : ToldSecond) → 0 < length span → first_in (span ++ t ∷ []) ≡ first_in span
first-on [] t some = absurd (omega (arith, some))
first-on (x ∷ span) t some = refl

pub end-on : (span : List ToldSecond) (t : ToldSecond) → 0 < length span → end_in (span ++ t ∷ []) ≡ end_in span + 1
end-on span t some = let n = length-append span (t ∷ []) in let e = first-on span t some in omega (arith, n, e)

pub numbered-on : (span : List ToldSecond) (t : ToldSecond) → 0 < length span → t.second.number ≡ end_in span → AreNumbered (first_in span) (seconds_in span) → AreNumbered (first_in (span ++ t ∷ [])) (seconds_in (span ++ t ∷ []))
numbered-on span t some is h =
    rw (first-on span t some)
    (rw (map-append (λ (t : ToldSecond). t.second) span (t ∷ []))
    (numbered-more (first_in span) (seconds_in span) t.second h (is ∙ ap (λ (n : ℕ). first_in span + n) (sym (counted span)))))
  where
    counted : (ts : List ToldSecond) → length (seconds_in ts) ≡ length ts
    counted [] = refl
    counted (t ∷ ts) = ap suc (counted ts)

apart-later : (from until later : ℕ) (spans : List (List ToldSecond)) → until ≤ later → AreApart from spans until → AreApart from spans later
apart-later from until later [] le h = omega (arith, h, le)
apart-later from until later (span ∷ spans) le h = (h.0, h.1, h.2, apart-later (end_in span) until later spans le h.3)

apart-new : (from until : ℕ) (spans : List (List ToldSecond)) (t : ToldSecond) → t.second.number ≡ until → AreApart from spans until → AreApart from (spans ++ (t ∷ []) ∷ []) (until + 1)
apart-new from until [] t is h = (omega arith, omega (arith, is, h), (refl, tt), omega (arith, is))
apart-new from until (span ∷ spans) t is h = (h.0, h.1, h.2, apart-new (end_in span) until spans t is h.3)

ends-new : (spans : List (List ToldSecond)) (t : ToldSecond) (u : ℕ) → t.second.number ≡ u → EndsAt (spans ++ (t ∷ []) ∷ []) (u + 1)
ends-new [] t u is = omega (arith, is)
ends-new (span ∷ []) t u is = omega (arith, is)
ends-new (span ∷ next ∷ spans) t u is = ends-new (next ∷ spans) t u is

apart-on : (from until : ℕ) (spans : List (List ToldSecond)) (t : ToldSecond) → t.second.number ≡ until → EndsAt spans until → AreApart from spans until → AreApart from (go_on spans t) (until + 1)
apart-on from until [] t is ends h = absurd ends
apart-on from until (span ∷ []) t is ends h =
    let first = first-on span t h.0 in
    let end = end-on span t h.0 in
    let n = length-append span (t ∷ []) in
    (omega (arith, n), omega (arith, first, h.1), numbered-on span t h.0 (is ∙ sym ends) h.2, omega (arith, end, ends))
apart-on from until (span ∷ next ∷ spans) t is ends h = (h.0, h.1, h.2, apart-on (end_in span) until (next ∷ spans) t is ends h.3)

ends-on : (from until : ℕ) (spans : List (List ToldSecond)) (t : ToldSecond) → EndsAt spans until → AreApart from spans until → EndsAt (go_on spans t) (until + 1)
ends-on from until [] t ends h = absurd ends
ends-on from until (span ∷ []) t ends h = end-on span t h.0 ∙ ap (λ (n : ℕ). n + 1) ends
ends-on from until (span ∷ next ∷ []) t ends h = ends-on (end_in span) until (next ∷ []) t ends h.3
ends-on from until (span ∷ next ∷ other ∷ spans) t ends h = ends-on (end_in span) until (next ∷ other ∷ spans) t ends h.3

-- what holds after the seconds before a number: spans apart, and the last goes on where power is kept
pub record IsSpanned (from until : ℕ) (w : Went) : Type 0 where
  pub apart : AreApart from (spans_of w.told) until
  pub running : w.before.running ≡ true → EndsAt (spans_of w.told) until
  pub seconds : AreNumbered from (seconds_in w.told)
  pub count : from + length w.told ≡ until

-- the next second is told by its number; power begins with it where it was not kept
pub record IsNext (before : Before) (u : ℕ) (t : ToldSecond) : Type 0 where
  pub number : t.second.number ≡ u
  pub starts : t.lit ≡ true → t.starts ≡ not before.running

pub next-told : (log : RunLog) (before : Before) (s : TraceSecond) → IsNext before s.number (second_told log before s)
next-told log before s = go (has_power before s) refl
  where
    go : (b : Bool) → has_power before s ≡ b → IsNext before s.number (second_told log before s)
    go true is = rw is (record { number = refl; starts = λ lit. refl })
    go false is = rw is (record { number = refl; starts = λ lit. absurd (cc) })

spanned-next : (from until : ℕ) (w : Went) (t : ToldSecond) → IsSpanned from until w → IsNext w.before until t → IsSpanned from (until + 1) (record { told = w.told ++ t ∷ []; before = before_next w.before t })
spanned-next from until w t h next = record {
  apart = subst (λ (spans : List (List ToldSecond)). AreApart from spans (until + 1)) (sym (spans-more w.told t)) (apart t.lit refl);
  running = λ running. subst (λ (spans : List (List ToldSecond)). EndsAt spans (until + 1)) (sym (spans-more w.told t)) (runs running);
  seconds = rw (map-append (λ (t : ToldSecond). t.second) w.told (t ∷ [])) (numbered-more from (seconds_in w.told) t.second h.seconds (next.number ∙ sym h.count ∙ ap (λ (n : ℕ). from + n) (sym (counted w.told))));
  count = let n = length-append w.told (t ∷ []) in let c = h.count in omega (arith, n, c);
}
  where
    counted : (ts : List ToldSecond) → length (seconds_in ts) ≡ length ts
    counted [] = refl
    counted (t ∷ ts) = ap suc (counted ts)

    With : List (List ToldSecond) → Type 0
    With spans = AreApart from spans (until + 1) × EndsAt spans (until + 1)

    both : (running : Bool) → w.before.running ≡ running → t.lit ≡ true → With (spans_with (spans_of w.told) t)
    both false is lit =
        let starts : t.starts ≡ true = next.starts lit ∙ ap not is in
        subst With (sym (spans-new (spans_of w.told) t lit starts)) (apart-new from until (spans_of w.told) t next.number h.apart, ends-new (spans_of w.told) t until next.number)
    both true is lit =
        let starts : t.starts ≡ false = next.starts lit ∙ ap not is in
        subst With (sym (spans-on (spans_of w.told) t lit starts)) (apart-on from until (spans_of w.told) t next.number (h.running is) h.apart, ends-on from until (spans_of w.told) t (h.running is) h.apart)

    apart : (lit : Bool) → t.lit ≡ lit → AreApart from (spans_with (spans_of w.told) t) (until + 1)
    apart true lit = (both w.before.running refl lit).0
    apart false lit =
        subst (λ (spans : List (List ToldSecond)). AreApart from spans (until + 1)) (sym (spans-dark (spans_of w.told) t lit)) (apart-later from until (until + 1) (spans_of w.told) (omega arith) h.apart)

    lit-first : (a b : Bool) → (a && b) ≡ true → a ≡ true
    lit-first true b is = refl
    lit-first false b is = is

    runs : (t.lit && not t.cut) ≡ true → EndsAt (spans_with (spans_of w.told) t) (until + 1)
    runs is = (both w.before.running refl (lit-first t.lit (not t.cut) is)).1

-- the same after all seconds of a trace
pub spanned : (log : RunLog) (n : ℕ) (ss : List TraceSecond) → AreInOrder n ss → IsSpanned n (n + length ss) (went log ss)
unfolding went spans_of
spanned log n ss order = subst (λ (u : ℕ). IsSpanned n u (went log ss)) (omega arith) (going 0 not_begun ss (record { apart = omega arith; running = λ is. absurd (cc); seconds = tt; count = omega arith }) (subst (λ (k : ℕ). AreInOrder k ss) (omega arith) order))
  where
    going : (k : ℕ) (w : Went) (ss : List TraceSecond) → IsSpanned n (n + k) w → AreInOrder (n + k) ss → IsSpanned n (n + k + length ss) (fold (went_on log) w ss)
    going k w [] h order = subst (λ (u : ℕ). IsSpanned n u w) (omega arith) h
    going k w (s ∷ ss) h order =
        let next : IsNext w.before (n + k) (second_told log w.before s) = subst (λ (u : ℕ). IsNext w.before u (second_told log w.before s)) order.0 (next-told log w.before s) in
        let more = spanned-next n (n + k) w (second_told log w.before s) h next in
        subst (λ (u : ℕ). IsSpanned n u (fold (went_on log) (went_on log w s) ss)) (omega arith)
        (going (k + 1) (went_on log w s) ss (subst (λ (u : ℕ). IsSpanned n u (went_on log w s)) (omega arith) more) (subst (λ (u : ℕ). AreInOrder u ss) (omega arith) order.1))

-- the number of one more second
pub order-parts : (n : ℕ) (ss : List TraceSecond) (s : TraceSecond) → AreInOrder n (ss ++ s ∷ []) → AreInOrder n ss × (s.number ≡ n + length ss)
order-parts n [] s h = (tt, let is : s.number ≡ n = h.0 in omega (arith, is))
order-parts n (x ∷ ss) s h =
    let rest = order-parts (n + 1) ss s h.1 in
    ((h.0, rest.0), let is : s.number ≡ n + 1 + length ss = rest.1 in omega (arith, is))

order-append : (n : ℕ) (xs ys : List TraceSecond) → AreInOrder n xs → AreInOrder (n + length xs) ys → AreInOrder n (xs ++ ys)
order-append n [] ys h k = subst (λ (m : ℕ). AreInOrder m ys) (omega arith) k
order-append n (x ∷ xs) ys h k = (h.0, order-append (n + 1) xs ys h.1 (subst (λ (m : ℕ). AreInOrder m ys) (omega arith) k))

-- the seconds of a trace are numbered from its first on
driven-order : (n number speed : ℕ) (actions : List Action) → AreInOrder number (driven n number speed actions) × (length (driven n number speed actions) ≡ n)
driven-order zero number speed actions = (tt, refl)
driven-order (suc n) number speed actions = let rest = driven-order n (number + 1) speed [] in ((refl, rest.0), ap suc rest.1)

dark-order : (n number : ℕ) → AreInOrder number (dark n number) × (length (dark n number) ≡ n)
dark-order zero number = (tt, refl)
dark-order (suc n) number = let rest = dark-order n (number + 1) in ((refl, rest.0), ap suc rest.1)

from-order : (number : ℕ) (waiting : List Action) (items : List Item) → AreInOrder number (seconds_from number waiting items)
from-order number waiting [] = tt
from-order number waiting (Run n speed ∷ items) =
    let here = driven-order n number speed waiting in
    order-append number (driven n number speed waiting) (seconds_from (number + n) [] items) here.0 (subst (λ (m : ℕ). AreInOrder m (seconds_from (number + n) [] items)) (ap (λ (k : ℕ). number + k) (sym here.1)) (from-order (number + n) [] items))
from-order number waiting (Off n ∷ items) =
    let here = dark-order n number in
    order-append number (dark n number) (seconds_from (number + n) waiting items) here.0 (subst (λ (m : ℕ). AreInOrder m (seconds_from (number + n) waiting items)) (ap (λ (k : ℕ). number + k) (sym here.1)) (from-order (number + n) waiting items))
from-order number waiting (Act action ∷ items) = from-order number (waiting ++ action ∷ []) items

pub seconds-order : (start : ℕ) (items : List Item) → AreInOrder start (seconds_of start items)
unfolding seconds_of
seconds-order start items = from-order start [] items
