-- Events that were noted but some of those that are not sure: at a moment of a note, one after another, and as a log goes on.
use Rattle.std.proofs.Common.{◌≡◌, inl, inr, ⊎_elim, ℕ, suc, ◌+◌, ◌≤◌, Bool, true, false, cond, not, Option, Some, None, List, [], ◌∷◌, ◌++◌, length, map, filter, refl, ap, sym, subst, ◌∙◌, arith, length-append}
use Rattle.std.specs.Prelude.{◌==◌}
use Rattle.std.specs.List.{AllByRecursion}
use Rattle.std.proofs.lemmas.Bool.Decides.{nat_tests}
use Rattle.std.proofs.lemmas.List.Elements.{filter-append}
use Rattle.card_layout.specs.Fields.{total_width}
use Rattle.card_layout.specs.Images.{number_at}
use Rattle.card_layout.proofs.Spelled.{number_within}
use Rattle.trace_model.specs.declared.Card.{Card}
use Rattle.gated_ring.specs.Ring.{place_of, gate_of, is_there, entry_at}
use Rattle.gated_ring.specs.Change.{IsAbsent}
use Rattle.log_model.specs.Log.{RunLog}
use Rattle.event_model.specs.declared.entries.Held.{Held}
use Rattle.event_model.specs.Places.{place_of as place_for}
use Rattle.event_model.specs.Events.{Event}
use Rattle.note_model.specs.Done.{has_failed_in}
use Rattle.note_model.specs.Events.{noting_second}
use Rattle.note_model.specs.Tables.{widths_of, table_of, table_in, held_in, held_of, IsNoted, AreNoted}
use Rattle.note_model.specs.Unsure.{IsEmptiedAt, IsEmptiedFor, IsNotedOrNot, IsNotedSo, AreNotedBut, IsFirstSo, IsFirstBut, IsCountedBut}
use Rattle.unit_notes.specs.Tables.{held_table, place_taken, place_of_day}
use Rattle.unit_notes.specs.Noting.{IsNotedAt, IsNotingAt, IsNotingEvent}
use Rattle.unit_notes.specs.Fields.{IsFrontOf}
use Rattle.unit_notes.proofs.Types.{held_is, width_is}
use Rattle.unit_notes.proofs.Placing.{table_set, taken_below, is_noted}
use Rattle.unit_events.specs.Noted.{StayFailed}
use Rattle.unit_events.specs.Shown.{first_on, count_on, HaveBegins}
use Rattle.unit_events.proofs.Shows.{first-none, first-parts}
use Rattle.run_events.specs.Shown.{is_sure_by, none_sure, all_sure, HasUnsureMore}

-- ---- a moment of the noting of an event

-- a shut gate is a begin of 0
shut-number : (n : ℕ) → not (n == 0) ≡ false → n ≡ 0
shut-number n shut = grind (arith, nat_tests)

no-begin : (kind : ℕ) (c : List ℕ) (i : ℕ) → is_there (table_of kind) c i ≡ false → (held_in kind (entry_at (table_of kind) c i)).begin ≡ 0
no-begin kind c i shut =
    let e : List ℕ = entry_at (table_of kind) c i in
    let wide : 31 ≤ total_width (widths_of kind) = (width_is kind).0 in
    ap (λ (h : Held). h.begin) (held_is e kind) ∙ number_within c (place_of (table_of kind) i) (total_width (widths_of kind)) 2 4 (omega (arith, wide)) ∙ shut-number (number_at c (gate_of (table_of kind) i) 4) shut

module _ (number : Card → List ℕ) (e : Event) (front x c : List ℕ) (long : length x ≡ 2485808) (is : IsFrontOf number e front) (noting : IsNotingEvent e.kind front x c) where
  whole : IsNotedAt e.kind front x (place_taken e.kind front x) (place_of_day e.kind front x) c → IsNoted number (table_in e.kind x) e (table_in e.kind c)
  whole at = is_noted number e front x c long is (record { outside = noting.outside; entry = at })

  held-same : held_in e.kind front ≡ held_of e
  held-same = λ t. record { begin = is.begin t; end = is.end t; weight = is.weight t }

  -- the place that is taken, as the table tells it
  place-same : place_taken e.kind front x ≡ place_for e.kind (map (held_in e.kind) (table_in e.kind x)) (held_of e)
  unfolding held_table
  place-same = ap (λ (h : Held). place_for e.kind (map (held_in e.kind) (table_in e.kind x)) h) held-same

  emptied : (i : ℕ) → place_taken e.kind front x ≡ Some i → IsAbsent (table_of e.kind) i x c → IsEmptiedFor (table_in e.kind x) e (table_in e.kind c)
  emptied i taken absent =
      subst (λ (o : Option ℕ). IsEmptiedAt e.kind (table_in e.kind x) o (table_in e.kind c)) (sym taken ∙ place-same)
      (entry_at (table_of e.kind) c i, table_set e.kind x long c i (entry_at (table_of e.kind) c i) (taken_below e.kind front x i taken) refl absent.others, no-begin e.kind c i absent.shut)

  moment-by : (place day : Option ℕ) → place_taken e.kind front x ≡ place → place_of_day e.kind front x ≡ day → IsNotingAt e.kind front x place day c → IsNotedOrNot number (table_in e.kind x) e (table_in e.kind c)
  moment-by (Some i) day taken of_day at =
      ⊎_elim (λ same. inr (inl (ap (table_in e.kind) same)))
      (λ later. ⊎_elim (λ absent. inr (inr (emptied i taken absent)))
      (λ replaced. inl (whole (subst (λ (o : Option ℕ). IsNotedAt e.kind front x o (place_of_day e.kind front x) c) (sym taken) (subst (λ (o : Option ℕ). IsNotedAt e.kind front x (Some i) o c) (sym of_day) replaced)))) later) at
  moment-by None (Some i) taken of_day at =
      ⊎_elim (λ same. inr (inl (ap (table_in e.kind) same)))
      (λ set. inl (whole (subst (λ (o : Option ℕ). IsNotedAt e.kind front x o (place_of_day e.kind front x) c) (sym taken) (subst (λ (o : Option ℕ). IsNotedAt e.kind front x None o c) (sym of_day) set)))) at
  moment-by None None taken of_day at = inr (inl (ap (table_in e.kind) at))

  pub event-moment : IsNotedOrNot number (table_in e.kind x) e (table_in e.kind c)
  event-moment = moment-by (place_taken e.kind front x) (place_of_day e.kind front x) refl refl noting.entry

-- ---- the places of a type, event by event

module _ (number : Card → List ℕ) where
  one-but : (b : Bool) (old : List (List ℕ)) (e : Event) (new : List (List ℕ)) → IsNoted number old e new → IsNotedSo number b old e new
  one-but true old e new noted = noted
  one-but false old e new noted = inl noted

  -- where all are sure each was noted
  pub all-noted : (sure : Event → Bool) (events : List Event) (old new : List (List ℕ)) → AllByRecursion (λ (e : Event). sure e ≡ true) events → AreNotedBut number sure old events new → AreNoted number old events new
  all-noted sure [] old new are noted = noted
  all-noted sure (e ∷ events) old new are noted = (noted.0, subst (λ (b : Bool). IsNotedSo number b old e noted.0) are.0 noted.1, all-noted sure events noted.0 new are.1 noted.2)

  one-fewer : (a b : Bool) (old : List (List ℕ)) (e : Event) (new : List (List ℕ)) → (b ≡ true → a ≡ true) → IsNotedSo number a old e new → IsNotedSo number b old e new
  one-fewer true b old e new less noted = one-but b old e new noted
  one-fewer false true old e new less noted = absurd (let wrong : false ≡ true = less refl in cc)
  one-fewer false false old e new less noted = noted

  pub fewer-but : (sure later : Event → Bool) (events : List Event) (old new : List (List ℕ)) → AllByRecursion (λ (e : Event). later e ≡ true → sure e ≡ true) events → AreNotedBut number sure old events new →
      AreNotedBut number later old events new
  fewer-but sure later [] old new less noted = noted
  fewer-but sure later (e ∷ events) old new less noted = (noted.0, one-fewer (sure e) (later e) old e noted.0 less.0 noted.1, fewer-but sure later events noted.0 new less.1 noted.2)

  pub more-but : (sure : Event → Bool) (events more : List Event) (old mid new : List (List ℕ)) → AreNotedBut number sure old events mid → AreNotedBut number sure mid more new → AreNotedBut number sure old (events ++ more) new
  more-but sure [] more old mid new first next = subst (λ (t : List (List ℕ)). AreNotedBut number sure t more new) first next
  more-but sure (e ∷ events) more old mid new first next = (first.0, first.1, more-but sure events more first.0 mid new first.2 next)

  one-nothing : (b : Bool) (old : List (List ℕ)) (e : Event) → b ≡ false → IsNotedSo number b old e old
  one-nothing true old e is = absurd (let wrong : true ≡ false = is in cc)
  one-nothing false old e is = inr (inl refl)

  -- of events of which none is sure nothing need have come
  pub nothing-but-came : (sure : Event → Bool) (events : List Event) (old new : List (List ℕ)) → AllByRecursion (λ (e : Event). sure e ≡ false) events → new ≡ old → AreNotedBut number sure old events new
  nothing-but-came sure [] old new unsure same = same
  nothing-but-came sure (e ∷ events) old new unsure same = (old, one-nothing (sure e) old e unsure.0, nothing-but-came sure events old new unsure.1 same)

  -- nor of more between those that came, of which none is sure
  pub between-but : (sure : Event → Bool) (now l : List Event) (old new : List (List ℕ)) → HasUnsureMore sure l now → AreNotedBut number sure old l new → AreNotedBut number sure old now new
  between-but sure [] l old new has noted = subst (λ (es : List Event). AreNotedBut number sure old es new) has noted
  between-but sure (e ∷ now) l old new (inl (rest, is, has)) noted =
      let h : AreNotedBut number sure old (e ∷ rest) new = subst (λ (es : List Event). AreNotedBut number sure old es new) is noted in
      (h.0, h.1, between-but sure now rest h.0 new has h.2)
  between-but sure (e ∷ now) l old new (inr (unsure, has)) noted = (old, one-nothing (sure e) old e unsure, between-but sure now l old new has noted)

-- ---- the first over speeding

-- where all are sure it is the first of them
pub all-first : (sure : Event → Bool) (held : ℕ) (overs : List Event) (now : ℕ) → HaveBegins overs → AllByRecursion (λ (e : Event). sure e ≡ true) overs → IsFirstBut sure held overs now → now ≡ first_on held overs
all-first sure held [] now begins are is = is ∙ sym (first-none held)
all-first sure held (e ∷ overs) now begins are is =
    all-first sure is.0 overs now begins.1 are.1 is.2
    ∙ ap (λ (n : ℕ). first_on n overs) (subst (λ (b : Bool). IsFirstSo b held e is.0) are.0 is.1)
    ∙ sym (first-parts held (e ∷ []) overs (begins.0, tt))

first-one : (a b : Bool) (held : ℕ) (e : Event) (now : ℕ) → (b ≡ true → a ≡ true) → IsFirstSo a held e now → IsFirstSo b held e now
first-one true true held e now less is = is
first-one true false held e now less is = inr is
first-one false true held e now less is = absurd (let wrong : false ≡ true = less refl in cc)
first-one false false held e now less is = is

pub first-fewer : (sure later : Event → Bool) (overs : List Event) (held now : ℕ) → AllByRecursion (λ (e : Event). later e ≡ true → sure e ≡ true) overs → IsFirstBut sure held overs now → IsFirstBut later held overs now
first-fewer sure later [] held now less is = is
first-fewer sure later (e ∷ overs) held now less is = (is.0, first-one (sure e) (later e) held e is.0 less.0 is.1, first-fewer sure later overs is.0 now less.1 is.2)

pub first-then : (sure : Event → Bool) (overs more : List Event) (held mid now : ℕ) → IsFirstBut sure held overs mid → IsFirstBut sure mid more now → IsFirstBut sure held (overs ++ more) now
first-then sure [] more held mid now first next = subst (λ (n : ℕ). IsFirstBut sure n more now) first next
first-then sure (e ∷ overs) more held mid now first next = (first.0, first.1, first-then sure overs more first.0 mid now first.2 next)

first-stays : (b : Bool) (held : ℕ) (e : Event) → b ≡ false → IsFirstSo b held e held
first-stays true held e is = absurd (let wrong : true ≡ false = is in cc)
first-stays false held e is = inl refl

pub first-nothing : (sure : Event → Bool) (overs : List Event) (held now : ℕ) → AllByRecursion (λ (e : Event). sure e ≡ false) overs → now ≡ held → IsFirstBut sure held overs now
first-nothing sure [] held now unsure same = same
first-nothing sure (e ∷ overs) held now unsure same = (held, first-stays (sure e) held e unsure.0, first-nothing sure overs held now unsure.1 same)

pub between-first : (sure : Event → Bool) (more overs : List Event) (held now : ℕ) → HasUnsureMore sure overs more → IsFirstBut sure held overs now → IsFirstBut sure held more now
between-first sure [] overs held now has is = subst (λ (es : List Event). IsFirstBut sure held es now) has is
between-first sure (e ∷ more) overs held now (inl (rest, are, has)) is =
    let h : IsFirstBut sure held (e ∷ rest) now = subst (λ (es : List Event). IsFirstBut sure held es now) are is in
    (h.0, h.1, between-first sure more rest h.0 now has h.2)
between-first sure (e ∷ more) overs held now (inr (unsure, has)) is = (held, first-stays (sure e) held e unsure, between-first sure more overs held now has is)

-- ---- their number

filter-few : (p : Event → Bool) (xs : List Event) → length (filter p xs) ≤ length xs
filter-few p [] = omega arith
filter-few p (x ∷ xs) = by (p x) (filter-few p xs)
  where
    by : (b : Bool) → length (filter p xs) ≤ length xs → length (cond b (x ∷ filter p xs) (filter p xs)) ≤ length (x ∷ xs)
    by true few = omega (arith, few)
    by false few = omega (arith, few)

filter-fewer : (p q : Event → Bool) (xs : List Event) → AllByRecursion (λ (e : Event). q e ≡ true → p e ≡ true) xs → length (filter q xs) ≤ length (filter p xs)
filter-fewer p q [] less = omega arith
filter-fewer p q (x ∷ xs) less = by (p x) (q x) less.0 (filter-fewer p q xs less.1)
  where
    by : (a b : Bool) → (b ≡ true → a ≡ true) → length (filter q xs) ≤ length (filter p xs) → length (cond b (x ∷ filter q xs) (filter q xs)) ≤ length (cond a (x ∷ filter p xs) (filter p xs))
    by true true less few = omega (arith, few)
    by true false less few = omega (arith, few)
    by false true less few = absurd (let wrong : false ≡ true = less refl in cc)
    by false false less few = few

filter-none : (p : Event → Bool) (xs : List Event) → AllByRecursion (λ (e : Event). p e ≡ false) xs → length (filter p xs) ≡ 0
filter-none p [] none_of = refl
filter-none p (x ∷ xs) none_of = ap (λ (b : Bool). length (cond b (x ∷ filter p xs) (filter p xs))) none_of.0 ∙ filter-none p xs none_of.1

filter-all : (p : Event → Bool) (xs : List Event) → AllByRecursion (λ (e : Event). p e ≡ true) xs → filter p xs ≡ xs
filter-all p [] all = refl
filter-all p (x ∷ xs) all = ap (λ (b : Bool). cond b (x ∷ filter p xs) (filter p xs)) all.0 ∙ ap (λ (ys : List Event). x ∷ ys) (filter-all p xs all.1)

pub count-all : (sure : Event → Bool) (held : ℕ) (overs : List Event) (now : ℕ) → now ≡ count_on held overs → IsCountedBut sure held overs now
count-all sure held overs now is = let few = filter-few sure overs in record { least = omega (arith, is, few); most = omega (arith, is) }

-- where all are sure it is that of all
pub all-count : (sure : Event → Bool) (held : ℕ) (overs : List Event) (now : ℕ) → AllByRecursion (λ (e : Event). sure e ≡ true) overs → IsCountedBut sure held overs now → now ≡ count_on held overs
all-count sure held overs now are is =
    let same : length (filter sure overs) ≡ length overs = ap (λ (es : List Event). length es) (filter-all sure overs are) in
    let low = is.least in
    let high = is.most in
    omega (arith, same, low, high)

pub count-fewer : (sure later : Event → Bool) (overs : List Event) (held now : ℕ) → AllByRecursion (λ (e : Event). later e ≡ true → sure e ≡ true) overs → IsCountedBut sure held overs now → IsCountedBut later held overs now
count-fewer sure later overs held now less is = let few = filter-fewer sure later overs less in let least = is.least in record { least = omega (arith, few, least); most = is.most }

pub count-then : (sure : Event → Bool) (overs more : List Event) (held mid now : ℕ) → IsCountedBut sure held overs mid → IsCountedBut sure mid more now → IsCountedBut sure held (overs ++ more) now
count-then sure overs more held mid now first next =
    let kept : length (filter sure (overs ++ more)) ≡ length (filter sure overs) + length (filter sure more) = ap (λ (es : List Event). length es) (filter-append sure overs more) ∙ length-append (filter sure overs) (filter sure more) in
    let all : length (overs ++ more) ≡ length overs + length more = length-append overs more in
    let low = first.least in
    let high = first.most in
    let lower = next.least in
    let higher = next.most in
    record { least = omega (arith, kept, low, lower); most = omega (arith, all, high, higher) }

pub count-nothing : (sure : Event → Bool) (overs : List Event) (held now : ℕ) → AllByRecursion (λ (e : Event). sure e ≡ false) overs → held ≤ 255 → now ≡ held → IsCountedBut sure held overs now
count-nothing sure overs held now unsure few same = let nobody = filter-none sure overs unsure in record { least = omega (arith, nobody, same); most = omega (arith, few, same) }

between-filter : (sure : Event → Bool) (more overs : List Event) → HasUnsureMore sure overs more → filter sure more ≡ filter sure overs
between-filter sure [] overs has = ap (filter sure) (sym has)
between-filter sure (e ∷ more) overs (inl (rest, are, has)) =
    ap (λ (es : List Event). cond (sure e) (e ∷ es) es) (between-filter sure more rest has) ∙ ap (filter sure) (sym are)
between-filter sure (e ∷ more) overs (inr (unsure, has)) = ap (λ (b : Bool). cond b (e ∷ filter sure more) (filter sure more)) unsure ∙ between-filter sure more overs has

between-long : (sure : Event → Bool) (more overs : List Event) → HasUnsureMore sure overs more → length overs ≤ length more
between-long sure [] overs has = let same : length overs ≡ 0 = ap (λ (es : List Event). length es) has in omega (arith, same)
between-long sure (e ∷ more) overs (inl (rest, are, has)) =
    let same : length overs ≡ suc (length rest) = ap (λ (es : List Event). length es) are in
    let few = between-long sure more rest has in
    omega (arith, same, few)
between-long sure (e ∷ more) overs (inr (unsure, has)) = let few = between-long sure more overs has in omega (arith, few)

pub between-count : (sure : Event → Bool) (more overs : List Event) (held now : ℕ) → HasUnsureMore sure overs more → IsCountedBut sure held overs now → IsCountedBut sure held more now
between-count sure more overs held now has is =
    let same : length (filter sure more) ≡ length (filter sure overs) = ap (λ (es : List Event). length es) (between-filter sure more overs has) in
    let few = between-long sure more overs has in
    let low = is.least in
    let high = is.most in
    record { least = omega (arith, same, low); most = omega (arith, few, high) }

-- ---- lists with more between them

pub unsure-same : (sure : Event → Bool) (l now : List Event) → now ≡ l → HasUnsureMore sure l now
unsure-same sure l [] is = sym is
unsure-same sure l (e ∷ now) is = inl (now, sym is, unsure-same sure now now refl)

pub unsure-front : (sure : Event → Bool) (now l more : List Event) → HasUnsureMore sure l now → HasUnsureMore sure (l ++ more) (now ++ more)
unsure-front sure [] l more has = unsure-same sure (l ++ more) more (ap (λ (es : List Event). es ++ more) (sym has))
unsure-front sure (e ∷ now) l more (inl (rest, is, has)) = inl (rest ++ more, ap (λ (es : List Event). es ++ more) is, unsure-front sure now rest more has)
unsure-front sure (e ∷ now) l more (inr (unsure, has)) = inr (unsure, unsure-front sure now l more has)

-- events before them
pub unsure-behind : (sure : Event → Bool) (first l now : List Event) → HasUnsureMore sure l now → HasUnsureMore sure (first ++ l) (first ++ now)
unsure-behind sure [] l now has = has
unsure-behind sure (e ∷ first) l now has = inl (first ++ l, refl, unsure-behind sure first l now has)

-- some of which none is sure before them
pub unsure-first : (sure : Event → Bool) (some l now : List Event) → AllByRecursion (λ (e : Event). sure e ≡ false) some → HasUnsureMore sure l now → HasUnsureMore sure l (some ++ now)
unsure-first sure [] l now none_of has = has
unsure-first sure (e ∷ some) l now none_of has = inr (none_of.0, unsure-first sure some l now none_of.1 has)

-- ---- which are sure

pub unsure-all : (later : RunLog) (u : ℕ) (es : List Event) → has_failed_in later u ≡ true → AllByRecursion (λ (e : Event). noting_second e ≡ u) es → AllByRecursion (λ (e : Event). is_sure_by later e ≡ false) es
unsure-all later u [] failed all = tt
unsure-all later u (e ∷ es) failed all = (ap (λ (n : ℕ). not (has_failed_in later n)) all.0 ∙ ap not failed, unsure-all later u es failed all.1)

pub none-are_sure : (es : List Event) → AllByRecursion (λ (e : Event). none_sure e ≡ false) es
none-are_sure [] = tt
none-are_sure (e ∷ es) = (refl, none-are_sure es)

-- fewer are sure than all, and more than none
pub fewer-all : (sure : Event → Bool) (es : List Event) → AllByRecursion (λ (e : Event). sure e ≡ true → all_sure e ≡ true) es
fewer-all sure [] = tt
fewer-all sure (e ∷ es) = ((λ is. refl), fewer-all sure es)

pub fewer-none : (sure : Event → Bool) (es : List Event) → AllByRecursion (λ (e : Event). sure e ≡ false) es → AllByRecursion (λ (e : Event). sure e ≡ true → none_sure e ≡ true) es
fewer-none sure [] unsure = tt
fewer-none sure (e ∷ es) unsure = ((λ is. absurd (let clash : true ≡ false = sym is ∙ unsure.0 in cc)), fewer-none sure es unsure.1)

-- a later log knows of each failed call
pub fewer-later : (log later : RunLog) → StayFailed log later → (es : List Event) → AllByRecursion (λ (e : Event). is_sure_by later e ≡ true → is_sure_by log e ≡ true) es
fewer-later log later stay [] = tt
fewer-later log later stay (e ∷ es) = (by (has_failed_in log (noting_second e)) (has_failed_in later (noting_second e)) (stay (noting_second e)), fewer-later log later stay es)
  where
    by : (f g : Bool) → (f ≡ true → g ≡ true) → not g ≡ true → not f ≡ true
    by false g then is = refl
    by true true then is = is
    by true false then is = absurd (let wrong : false ≡ true = then refl in cc)
