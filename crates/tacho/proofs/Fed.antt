-- A span that is fed with the items of a trace has the trace's seconds.
use Rattle.std.proofs.Common.{◌≡◌, ◌∙◌, ℕ, suc, zero, ◌+◌, true, false, List, [], ◌∷◌, ◌++◌, take, drop, refl, ap, sym, subst, arith, append_assoc, append-nil}
use Rattle.std.specs.Prelude.{slice_get, Some}
use Rattle.std.specs.List.{AllByRecursion}
use Rattle.std.proofs.lemmas.List.Sums.{sum_by-cons}
use Rattle.activity_codec.specs.declared.values.Slot.{Slot}
use Rattle.activity_codec.specs.declared.values.Pick.{Pick}
use Rattle.minute_model.specs.declared.Rule.{Rule}
use Rattle.minute_model.specs.Second.{Second}
use Rattle.minute_model.specs.Minute.{decided}
use Rattle.minute_model.specs.Span.{Span, begin, end_of, fed, fed_many, picked, decided_in}
use Rattle.minute_model.proofs.Spans.{end-fed, fed_many-first, fed_many-end, fed_many-rule, fed_many-settlings}
use Rattle.trace_model.specs.declared.Action.{Action}
use Rattle.trace_model.specs.declared.Action.TheVariants.{Select, Insert, Withdraw, Tear, Place, Manual}
use Rattle.trace_model.specs.Trace.{TraceSecond, driven, seconds_from, seconds_of, item_seconds, total_seconds}
use Rattle.run_model.specs.Span.{picks_of, span_of, trace_span}
use Rattle.run_model.proofs.LeftToRight.{picks_of-more, span_of-append}
use Rattle.trace_model.specs.declared.Item.{Item}
use Rattle.trace_model.specs.declared.Item.TheVariants.{Run, Off, Act}
use Rattle.trace_text.specs.declared.lines_trace.Form.TheVariants.{Minutes}
use Rattle.trace_text.specs.Line.{IsKnown}
use Rattle.tacho.specs.Feeding.{fed_item, fed_items}

-- one item more
fed_items-more : (span : Span) (items : List Item) (item : Item) → fed_items span (items ++ item ∷ []) ≡ fed_item (fed_items span items) item
fed_items-more span [] item = refl
fed_items-more span (first ∷ items) item = fed_items-more (fed_item span first) items item

-- one second at the end of a span
one-more : (xs : List Second) (x : Second) (ys : List Second) → (xs ++ x ∷ []) ++ ys ≡ xs ++ x ∷ ys
one-more xs x ys = append_assoc xs (x ∷ []) ys

-- what seconds at one speed add to a span
fed_many-seconds : (span : Span) (waiting : List Action) (speed n : ℕ) → span.pending ≡ picks_of waiting → (fed_many span speed n).seconds ≡ span.seconds ++ span_of (driven n (end_of span) speed waiting)
fed_many-seconds span waiting speed zero is = sym (append-nil span.seconds)
fed_many-seconds span waiting speed (suc n) is =
    let first : Second = record { number = end_of span; speed = speed; picks = picks_of waiting } in
    let same : (fed span speed).seconds ≡ span.seconds ++ first ∷ [] = ap (λ (ps : List (Slot × Pick)). span.seconds ++ record { number = end_of span; speed = speed; picks = ps } ∷ []) is in
    ap (λ (k : Span). k.seconds) (fed_many-first span speed n)
    ∙ fed_many-seconds (fed span speed) [] speed n refl
    ∙ ap (λ (m : ℕ). (fed span speed).seconds ++ span_of (driven n m speed [])) (end-fed span speed)
    ∙ ap (λ (xs : List Second). xs ++ span_of (driven n (end_of span + 1) speed [])) same
    ∙ one-more span.seconds first (span_of (driven n (end_of span + 1) speed []))

pub untrue : false ≡ true → ⊥
untrue e = cc

-- what the items of a trace add to a span
fed_items-seconds : (span : Span) (waiting : List Action) (items : List Item) → AllByRecursion (IsKnown Minutes) items → span.pending ≡ picks_of waiting → (fed_items span items).seconds ≡ span.seconds ++ span_of (seconds_from (end_of span) waiting items)
fed_items-seconds span waiting [] all is = sym (append-nil span.seconds)
fed_items-seconds span waiting (Act (Select slot pick) ∷ items) all is =
    fed_items-seconds (picked span slot pick) (waiting ++ Select slot pick ∷ []) items all.1 (ap (λ (ps : List (Slot × Pick)). ps ++ (slot, pick) ∷ []) is ∙ sym (picks_of-more waiting slot pick))
fed_items-seconds span waiting (Run zero speed ∷ items) all is = absurd (omega (arith, all.0.1.0))
fed_items-seconds span waiting (Run (suc n) speed ∷ items) all is =
    let now = driven (suc n) (end_of span) speed waiting in
    let later : ℕ → List TraceSecond = λ m. seconds_from m [] items in
    fed_items-seconds (fed_many span speed (suc n)) [] items all.1 refl
    ∙ ap (λ (m : ℕ). (fed_many span speed (suc n)).seconds ++ span_of (later m)) (fed_many-end span speed (suc n))
    ∙ ap (λ (xs : List Second). xs ++ span_of (later (end_of span + suc n))) (fed_many-seconds span waiting speed (suc n) is)
    ∙ append_assoc span.seconds (span_of now) (span_of (later (end_of span + suc n)))
    ∙ ap (λ (xs : List Second). span.seconds ++ xs) (sym (span_of-append now (later (end_of span + suc n))))
fed_items-seconds span waiting (Off n ∷ items) all is = absurd (untrue all.0.0)
fed_items-seconds span waiting (Act (Insert slot card) ∷ items) all is = absurd (untrue all.0.0)
fed_items-seconds span waiting (Act (Withdraw slot) ∷ items) all is = absurd (untrue all.0.0)
fed_items-seconds span waiting (Act (Tear slot) ∷ items) all is = absurd (untrue all.0.0)
fed_items-seconds span waiting (Act (Place slot ending country region) ∷ items) all is = absurd (untrue all.0.0)
fed_items-seconds span waiting (Act (Manual slot pick minute) ∷ items) all is = absurd (untrue all.0.0)

-- what feeding leaves as it was
pub fed_items-rule : (span : Span) (items : List Item) → (fed_items span items).rule ≡ span.rule
fed_items-rule span [] = refl
fed_items-rule span (Act (Select slot pick) ∷ items) = fed_items-rule (picked span slot pick) items
fed_items-rule span (Run n speed ∷ items) = fed_items-rule (fed_many span speed n) items ∙ fed_many-rule span speed n
fed_items-rule span (Off n ∷ items) = fed_items-rule span items
fed_items-rule span (Act (Insert slot card) ∷ items) = fed_items-rule span items
fed_items-rule span (Act (Withdraw slot) ∷ items) = fed_items-rule span items
fed_items-rule span (Act (Tear slot) ∷ items) = fed_items-rule span items
fed_items-rule span (Act (Place slot ending country region) ∷ items) = fed_items-rule span items
fed_items-rule span (Act (Manual slot pick minute) ∷ items) = fed_items-rule span items

pub fed_items-settlings : (span : Span) (items : List Item) → (fed_items span items).settlings ≡ span.settlings
fed_items-settlings span [] = refl
fed_items-settlings span (Act (Select slot pick) ∷ items) = fed_items-settlings (picked span slot pick) items
fed_items-settlings span (Run n speed ∷ items) = fed_items-settlings (fed_many span speed n) items ∙ fed_many-settlings span speed n
fed_items-settlings span (Off n ∷ items) = fed_items-settlings span items
fed_items-settlings span (Act (Insert slot card) ∷ items) = fed_items-settlings span items
fed_items-settlings span (Act (Withdraw slot) ∷ items) = fed_items-settlings span items
fed_items-settlings span (Act (Tear slot) ∷ items) = fed_items-settlings span items
fed_items-settlings span (Act (Place slot ending country region) ∷ items) = fed_items-settlings span items
fed_items-settlings span (Act (Manual slot pick minute) ∷ items) = fed_items-settlings span items

-- the seconds of a fed span are those of the trace
pub fed-span : (rule : Rule) (start : ℕ) (items : List Item) → AllByRecursion (IsKnown Minutes) items → (fed_items (begin rule start) items).seconds ≡ trace_span start items
unfolding seconds_of
fed-span rule start items all =
    let e : end_of (begin rule start) ≡ start = omega arith in
    fed_items-seconds (begin rule start) [] items all refl ∙ ap (λ (m : ℕ). span_of (seconds_from m [] items)) e

-- so its decided minutes are those of the trace
pub decided-items : (rule : Rule) (start : ℕ) (items : List Item) → AllByRecursion (IsKnown Minutes) items → decided_in (fed_items (begin rule start) items) ≡ decided rule (trace_span start items) []
decided-items rule start items all =
    let span = fed_items (begin rule start) items in
    ap (λ (r : Rule). decided r span.seconds span.settlings) (fed_items-rule (begin rule start) items)
    ∙ ap (λ (xs : List Second). decided rule xs span.settlings) (fed-span rule start items all)
    ∙ ap (λ (ts : List ℕ). decided rule (trace_span start items) ts) (fed_items-settlings (begin rule start) items)

-- the item at an index, and what is before and behind it
take-at : {T : Type 0} → (xs : List T) (i : ℕ) (x : T) → slice_get xs i ≡ Some x → take (suc i) xs ≡ take i xs ++ x ∷ []
take-at [] i x h = cc
take-at (y ∷ xs) zero x h = let e : y ≡ x = cc in rw e refl
take-at (y ∷ xs) (suc i) x h = ap (λ (ys : List _). y ∷ ys) (take-at xs i x h)

drop-at : {T : Type 0} → (xs : List T) (i : ℕ) (x : T) → slice_get xs i ≡ Some x → drop i xs ≡ x ∷ drop (suc i) xs
drop-at [] i x h = cc
drop-at (y ∷ xs) zero x h = let e : y ≡ x = cc in rw e refl
drop-at (y ∷ xs) (suc i) x h = drop-at xs i x h

pub total-at : (items : List Item) (i : ℕ) (item : Item) → slice_get items i ≡ Some item → total_seconds (drop i items) ≡ item_seconds item + total_seconds (drop (suc i) items)
total-at items i item h = ap total_seconds (drop-at items i item h) ∙ sum_by-cons item_seconds item (drop (suc i) items)

-- it is a run or a selection, as each of them is
pub known-at : (items : List Item) (i : ℕ) (item : Item) → slice_get items i ≡ Some item → AllByRecursion (IsKnown Minutes) items → IsKnown Minutes item
known-at [] i item h all = cc
known-at (first ∷ items) zero item h all = let e : first ≡ item = cc in let P : Item → Type 0 = λ x. IsKnown Minutes x in subst P e all.0
known-at (first ∷ items) (suc i) item h all = known-at items i item h all.1

pub fed_items-at : (span : Span) (items : List Item) (i : ℕ) (item : Item) → slice_get items i ≡ Some item → fed_items span (take (suc i) items) ≡ fed_item (fed_items span (take i items)) item
fed_items-at span items i item h = ap (fed_items span) (take-at items i item h) ∙ fed_items-more span (take i items) item

-- a fed span ends behind its seconds, which are numbered one after another
pub fed_items-end : (span : Span) (items : List Item) → AllByRecursion (IsKnown Minutes) items → end_of (fed_items span items) ≡ end_of span + total_seconds items
fed_items-end span [] all = omega arith
fed_items-end span (Act (Select slot pick) ∷ items) all =
    fed_items-end (picked span slot pick) items all.1 ∙ omega (arith, sum_by-cons item_seconds (Act (Select slot pick)) items)
fed_items-end span (Run n speed ∷ items) all =
    fed_items-end (fed_many span speed n) items all.1 ∙ omega (arith, sum_by-cons item_seconds (Run n speed) items, fed_many-end span speed n)
fed_items-end span (Off n ∷ items) all = absurd (untrue all.0.0)
fed_items-end span (Act (Insert slot card) ∷ items) all = absurd (untrue all.0.0)
fed_items-end span (Act (Withdraw slot) ∷ items) all = absurd (untrue all.0.0)
fed_items-end span (Act (Tear slot) ∷ items) all = absurd (untrue all.0.0)
fed_items-end span (Act (Place slot ending country region) ∷ items) all = absurd (untrue all.0.0)
fed_items-end span (Act (Manual slot pick minute) ∷ items) all = absurd (untrue all.0.0)

-- with no second no minute is decided
pub decided-begin : (rule : Rule) (start : ℕ) → decided_in (begin rule start) ≡ []
unfolding decided
decided-begin rule start = refl
