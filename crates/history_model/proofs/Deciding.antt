-- The decided minutes of a power span, as its seconds come.
use Rattle.std.proofs.Common.{◌≡◌, ℕ, suc, ◌+◌, ◌-◌, ◌*◌, ◌/◌, ◌<◌, ◌≤◌, Bool, true, false, cond, List, [], ◌∷◌, ◌++◌, length, map, filter, refl, ap, sym, subst, ◌∙◌, arith, append_assoc, append-nil}
use Rattle.std.specs.List.{AllByRecursion}
use Rattle.std.proofs.lemmas.List.{map-append}
use Rattle.std.proofs.lemmas.List.Elements.{filter-append}
use Rattle.log_model.specs.minute_model.declared.Rule.{Rule}
use Rattle.log_model.specs.minute_model.declared.Rule.TheVariants.{Original, Amended}
use Rattle.log_model.specs.minute_model.declared.Minute.{Minute}
use Rattle.log_model.specs.minute_model.Second.{Second}
use Rattle.log_model.specs.minute_model.Minute.{minutes_ahead, class_of}
use Rattle.log_model.specs.minute_model.Span.{Span, end_of, fed, decided_in, ungiven_of, latest, AreSettled, AreNumbered, count_from}
use Rattle.log_model.proofs.minute_model.Counted.{judged, decided-counted, decided-ended, decided-settled, settled-more}
use Rattle.log_model.proofs.minute_model.Spans.{decided-fed_many}
use Rattle.log_model.specs.Course.{ToldSecond}
use Rattle.log_model.specs.Spans.{seconds_in, first_in, end_in, AreApart}
use Rattle.log_model.proofs.Spanning.{first-on}
use Rattle.history_model.specs.History.{settlings_of, decided_of}
use Rattle.history_model.specs.Growth.{as_span, settled_where, picking}

pub counted : (span : List ToldSecond) → length (seconds_in span) ≡ length span
counted [] = refl
counted (t ∷ span) = ap suc (counted span)

-- settlings are seconds of the span
settled-within : (n end : ℕ) (span : List ToldSecond) → AreNumbered n (seconds_in span) → n + length span ≤ end → AllByRecursion (λ (u : ℕ). u ≤ end) (settlings_of span)
settled-within n end [] h le = tt
settled-within n end (t ∷ span) h le = go t.course.settled (settled-within (n + 1) end span h.1 (omega (arith, le)))
  where
    here : t.second.number ≤ end
    here = let is : t.second.number ≡ n = h.0 in omega (arith, is, le)

    go : (b : Bool) → AllByRecursion (λ (u : ℕ). u ≤ end) (settlings_of span) →
        AllByRecursion (λ (u : ℕ). u ≤ end) (map (λ (t : ToldSecond). t.second.number) (cond b (t ∷ filter (λ (t : ToldSecond). t.course.settled) span) (filter (λ (t : ToldSecond). t.course.settled) span)))
    go true rest = (here, rest)
    go false rest = rest

pub span-settled : (rule : Rule) (span : List ToldSecond) → AreNumbered (first_in span) (seconds_in span) → AreSettled (as_span rule span)
span-settled rule span h = settled-within (first_in span) (end_of (as_span rule span)) span h (let n = counted span in omega (arith, n))

-- each decided minute has ended
pub span-ended : (rule : Rule) (span : List ToldSecond) → AreNumbered (first_in span) (seconds_in span) → AllByRecursion (λ (d : Minute). 60 * d.minute + 60 ≤ end_in span) (decided_of rule span)
span-ended rule span h = subst (λ (n : ℕ). AllByRecursion (λ (d : Minute). 60 * d.minute + 60 ≤ n) (decided_of rule span)) (ap (λ (n : ℕ). first_in span + n) (counted span)) (decided-ended (as_span rule span) h (span-settled rule span h))

ended-by : (end until : ℕ) (ds : List Minute) → end ≤ until → AllByRecursion (λ (d : Minute). 60 * d.minute + 60 ≤ end) ds → AllByRecursion (λ (d : Minute). d.minute < until / 60) ds
ended-by end until [] le h = tt
ended-by end until (d ∷ ds) le h = let here : 60 * d.minute + 60 ≤ end = h.0 in (omega (arith, here, le), ended-by end until ds le h.1)

pub apart-until : (from until : ℕ) (spans : List (List ToldSecond)) → AreApart from spans until → from ≤ until
apart-until from until [] h = h
apart-until from until (span ∷ spans) h = let rest = apart-until (end_in span) until spans h.3 in let begins : from ≤ first_in span = h.1 in omega (arith, rest, begins)

-- the minutes that are decided in these spans are earlier than that of the second behind them
pub apart-ended : (rule : Rule) (from until : ℕ) (spans : List (List ToldSecond)) → AreApart from spans until → AllByRecursion (λ (span : List ToldSecond). AllByRecursion (λ (d : Minute). d.minute < until / 60) (decided_of rule span)) spans
apart-ended rule from until [] h = tt
apart-ended rule from until (span ∷ spans) h =
    (ended-by (end_in span) until (decided_of rule span) (apart-until (end_in span) until spans h.3) (span-ended rule span h.2), apart-ended rule (end_in span) until spans h.3)

-- a span of one second decides nothing
ahead-some : (rule : Rule) → 1 ≤ minutes_ahead rule
ahead-some Original = omega arith
ahead-some Amended = omega arith

latest-one : (t : ToldSecond) (b : Bool) → latest (map (λ (t : ToldSecond). t.second.number) (cond b (t ∷ []) [])) ≤ t.second.number
latest-one t true = omega arith
latest-one t false = omega arith

pub short-none : (rule : Rule) (t : ToldSecond) → decided_of rule (t ∷ []) ≡ []
short-none rule t =
    let span = as_span rule (t ∷ []) in
    let some = ahead-some rule in
    let late = latest-one t t.course.settled in
    let zero_ : ungiven_of span - span.first / 60 ≡ 0 = omega (arith, some, late) in
    decided-counted span (refl, tt) (span-settled rule (t ∷ []) (refl, tt)) ∙ ap (λ (k : ℕ). map (judged span.rule span.settlings span.seconds) (count_from (span.first / 60) k)) zero_

-- one second more is one second more for the rules of minutes: its settling, its selections, its speed
pub span-more : (rule : Rule) (span : List ToldSecond) (t : ToldSecond) → 0 < length span → t.second.number ≡ end_in span →
    as_span rule (span ++ t ∷ []) ≡ fed (picking t.second.picks (settled_where t.course.settled (as_span rule span))) t.second.speed
span-more rule span t some is =
    ap (λ (n : ℕ). record { rule = rule; first = n; seconds = seconds_in (span ++ t ∷ []); pending = []; settlings = settlings_of (span ++ t ∷ []) }) (first-on span t some)
    ∙ ap (λ (ss : List Second). record { rule = rule; first = first_in span; seconds = ss; pending = []; settlings = settlings_of (span ++ t ∷ []) }) (map-append (λ (t : ToldSecond). t.second) span (t ∷ []) ∙ ap (λ (n : ℕ). seconds_in span ++ record { number = n; speed = t.second.speed; picks = t.second.picks } ∷ []) number)
    ∙ ap (λ (us : List ℕ). record { rule = rule; first = first_in span; seconds = seconds_in span ++ record { number = end_of (as_span rule span); speed = t.second.speed; picks = t.second.picks } ∷ []; pending = []; settlings = us }) (settles ∙ by t.course.settled)
    ∙ same t.course.settled
  where
    number : t.second.number ≡ end_of (as_span rule span)
    number = let n = counted span in omega (arith, n, is)

    settles : settlings_of (span ++ t ∷ []) ≡ settlings_of span ++ map (λ (t : ToldSecond). t.second.number) (cond t.course.settled (t ∷ []) [])
    settles = ap (map (λ (t : ToldSecond). t.second.number)) (filter-append (λ (t : ToldSecond). t.course.settled) span (t ∷ [])) ∙ map-append (λ (t : ToldSecond). t.second.number) (filter (λ (t : ToldSecond). t.course.settled) span) (cond t.course.settled (t ∷ []) [])

    by : (b : Bool) → settlings_of span ++ map (λ (t : ToldSecond). t.second.number) (cond b (t ∷ []) []) ≡ (settled_where b (as_span rule span)).settlings
    by true = ap (λ (n : ℕ). settlings_of span ++ n ∷ []) number
    by false = append-nil (settlings_of span)

    same : (b : Bool) → record { rule = rule; first = first_in span; seconds = seconds_in span ++ record { number = end_of (as_span rule span); speed = t.second.speed; picks = t.second.picks } ∷ []; pending = []; settlings = (settled_where b (as_span rule span)).settlings } ≡ fed (picking t.second.picks (settled_where b (as_span rule span))) t.second.speed
    same true = refl
    same false = refl

-- what was decided stays, and minutes are added
fed-decided : (span : Span) (speed : ℕ) → AreNumbered span.first span.seconds → AreSettled span → (new : List Minute) × (decided_in (fed span speed) ≡ decided_in span ++ new)
fed-decided span speed numbered all =
    (map (class_of span.rule (fed span speed).seconds) (count_from (ungiven_of span) (ungiven_of (fed span speed) - ungiven_of span)), decided-fed_many span speed 1 numbered all (omega arith))

settled-decided : (span : Span) (b : Bool) → AreNumbered span.first span.seconds → AreSettled span → (new : List Minute) × (decided_in (settled_where b span) ≡ decided_in span ++ new)
settled-decided span true numbered all = (map (class_of span.rule span.seconds) (count_from (ungiven_of span) (end_of span / 60 - ungiven_of span)), decided-settled span numbered all)
settled-decided span false numbered all = ([], sym (append-nil (decided_in span)))

settled-stays : (span : Span) (b : Bool) → AreNumbered span.first span.seconds → AreSettled span → AreNumbered (settled_where b span).first (settled_where b span).seconds × AreSettled (settled_where b span)
settled-stays span true numbered all = (numbered, settled-more span all)
settled-stays span false numbered all = (numbered, all)

pub decided-grows : (rule : Rule) (span : List ToldSecond) (t : ToldSecond) → 0 < length span → t.second.number ≡ end_in span → AreNumbered (first_in span) (seconds_in span) → (new : List Minute) × (decided_of rule (span ++ t ∷ []) ≡ decided_of rule span ++ new)
decided-grows rule span t some is numbered =
    let whole = as_span rule span in
    let all = span-settled rule span numbered in
    let settles = settled-decided whole t.course.settled numbered all in
    let stays = settled-stays whole t.course.settled numbered all in
    let more = fed-decided (picking t.second.picks (settled_where t.course.settled whole)) t.second.speed stays.0 stays.1 in
    (settles.0 ++ more.0, ap decided_in (span-more rule span t some is) ∙ more.1 ∙ ap (λ (ds : List Minute). ds ++ more.0) settles.1 ∙ append_assoc (decided_in whole) settles.0 more.0)
