-- Which sort an entry is, by what was seen of its minute, and how it differs.
use Rattle.std.proofs.Common.{◌≡◌, ◌∙◌, ℕ, ◌&&◌, Bool, true, false, not, Option, Some, None, List, [], ◌∷◌, ◌++◌, map, refl, ap, sym, append-nil}
use Rattle.std.specs.Prelude.{filter, if◌then◌else◌}
use Rattle.std.proofs.lemmas.List.{map-append}
use Rattle.std.proofs.lemmas.List.Elements.{filter-append}
use Rattle.activity_codec.specs.Activity.{same_activity}
use Rattle.activity_codec.specs.declared.entries.Entry.{Entry}
use Rattle.activity_codec.specs.declared.values.Slot.{Slot}
use Rattle.activity_codec.specs.declared.values.Slot.TheVariants.{Driver, CoDriver}
use Rattle.view_model.specs.declared.State.{State}
use Rattle.view_model.specs.declared.UnitShown.{UnitShown}
use Rattle.view_model.specs.declared.Viewed.{Viewed}
use Rattle.view_model.specs.Lines.{same_bool, day_of_minute}
use Rattle.unit_model.specs.Days.{UnitMinute}
use Rattle.file_view.specs.Histories.{minute_shown}
use Rattle.card_match.specs.Matching.{Against, is_own, is_early, is_tested, minute_at, state_in, is_as, is_as_some, stands}
use Rattle.card_match.specs.Differences.{instead_in, instead_of, differs, difference_of, differences}
use Rattle.card_match.specs.Cases.{minute_of, shown_of, case_of, begins_by, is_missed, IsSort, instead_seen, difference_in, differing}
use Rattle.card_match.specs.declared.cases.Case.{Case}
use Rattle.card_match.specs.declared.difference.Instead.{Instead}
use Rattle.card_match.specs.declared.difference.Difference.{Difference}
use Rattle.card_match.specs.declared.verdict.Sort.{Sort}
use Rattle.card_match.specs.declared.verdict.Sort.TheVariants.{Other, Before, Standing, Missed}
use Rattle.card_match.proofs.Counting.{differs_as}

-- a minute that shows the same, of any number, has the same in a slot
same_slot_of : (slot : Slot) (m : UnitMinute) (k : ℕ) → state_in slot (minute_of (minute_shown m).shown k) ≡ state_in slot m
same_slot_of Driver m k = refl
same_slot_of CoDriver m k = refl

as_shown : (e : Entry) (m : UnitMinute) (k : ℕ) → is_as e (minute_of (minute_shown m).shown k) ≡ is_as e m
as_shown e m k = ap (λ (s : State). s.present && same_activity s.act e.act && same_bool m.crew e.crew) (same_slot_of e.slot m k)

-- what was seen says whether an entry stands
stands_by : (e : Entry) (o : Option UnitMinute) (shown : UnitShown) → shown_of o ≡ Some shown → is_as_some e o ≡ is_as e (minute_of shown e.minute)
stands_by e None shown is = cc
stands_by e (Some m) shown is =
    let same : (minute_shown m).shown ≡ shown = cc in
    sym (as_shown e m e.minute) ∙ ap (λ (s : UnitShown). is_as e (minute_of s e.minute)) same

nowhere_by : (e : Entry) (o : Option UnitMinute) → shown_of o ≡ None → is_as_some e o ≡ false
nowhere_by e None is = refl
nowhere_by e (Some m) is = cc

-- own, and on a day of the file: tested
tested_by : (own early : Bool) → own ≡ true → early ≡ false → (own && not early) ≡ true
tested_by own early is late = rw (is, late) refl

before_by : (own early : Bool) → own ≡ true → early ≡ true → (own && early) ≡ true
before_by own early is first = rw (is, first) refl

-- the case of an entry, own and on no early day or on one
module _ (a : Against) (e : Entry) (c : Case) (is : c ≡ case_of a e) (own : c.own ≡ true) where
  own_is : is_own a e ≡ true
  own_is = sym (ap (λ (x : Case). x.own) is) ∙ own

  day_is : begins_by a.minutes (day_of_minute c.entry.minute) ≡ begins_by a.minutes (day_of_minute e.minute)
  day_is = ap (λ (x : Case). begins_by a.minutes (day_of_minute x.entry.minute)) is

  pub sorted_before : begins_by a.minutes (day_of_minute c.entry.minute) ≡ false → IsSort a e Before
  sorted_before early = before_by (is_own a e) (is_early a e) own_is (ap not (sym day_is ∙ early))

  module _ (late : begins_by a.minutes (day_of_minute c.entry.minute) ≡ true) where
    tested : is_tested a e ≡ true
    tested = tested_by (is_own a e) (is_early a e) own_is (ap not (sym day_is ∙ late))

    pub sorted_nowhere : c.seen ≡ None → IsSort a e Missed
    sorted_nowhere none = (tested, nowhere_by e (minute_at a.minutes e.minute) (sym (ap (λ (x : Case). x.seen) is) ∙ none))

    seen_is : (shown : UnitShown) → c.seen ≡ Some shown → stands a e ≡ is_as c.entry (minute_of shown c.entry.minute)
    seen_is shown seen =
        stands_by e (minute_at a.minutes e.minute) shown (sym (ap (λ (x : Case). x.seen) is) ∙ seen)
        ∙ sym (ap (λ (x : Case). is_as x.entry (minute_of shown x.entry.minute)) is)

    pub sorted_standing : (shown : UnitShown) → c.seen ≡ Some shown → is_as c.entry (minute_of shown c.entry.minute) ≡ true → IsSort a e Standing
    sorted_standing shown seen alike = (tested, seen_is shown seen ∙ alike)

    pub sorted_missed : (shown : UnitShown) → c.seen ≡ Some shown → is_as c.entry (minute_of shown c.entry.minute) ≡ false → IsSort a e Missed
    sorted_missed shown seen unlike = (tested, seen_is shown seen ∙ unlike)

pub sorted_other : (a : Against) (e : Entry) (c : Case) → c ≡ case_of a e → c.own ≡ false → IsSort a e Other
sorted_other a e c is other = sym (ap (λ (x : Case). x.own) is) ∙ other

-- ---- how it differs

instead_is : (e : Entry) (o : Option UnitMinute) → instead_seen e (shown_of o) ≡ instead_of e o
instead_is e None = refl
instead_is e (Some m) = ap (λ (s : State). instead_in e.act s m.crew) (same_slot_of e.slot m e.minute)

difference_is : (a : Against) (e : Entry) → difference_in (case_of a e) ≡ difference_of a e
difference_is a e =
    let by : Instead → Viewed Difference = λ i. record { minute = e.minute; shown = record { slot = e.slot; act = e.act; instead = i } } in
    ap by (instead_is e (minute_at a.minutes e.minute))

one_listed : (a : Against) (e : Entry) (b : Bool) → differs a e ≡ b → map (difference_of a) (filter (differs a) (e ∷ [])) ≡ (if b then difference_of a e ∷ [] else [])
one_listed a e true is = rw is refl
one_listed a e false is = rw is refl

-- the differences of entries, and of one more
pub one_differs : (a : Against) (es : List Entry) (e : Entry) (c : Case) (s : Sort) → c ≡ case_of a e → IsSort a e s → differences a es ++ differing c s ≡ differences a (es ++ e ∷ [])
one_differs a es e c s is sort =
    ap (λ (x : Case). differences a es ++ differing x s) is
    ∙ ap (λ (v : Viewed Difference). differences a es ++ (if is_missed s then v ∷ [] else [])) (difference_is a e)
    ∙ ap (λ (l : List (Viewed Difference)). differences a es ++ l) (sym (one_listed a e (is_missed s) (differs_as a e s sort)))
    ∙ sym (map-append (difference_of a) (filter (differs a) es) (filter (differs a) (e ∷ [])))
    ∙ ap (λ (l : List Entry). map (difference_of a) l) (sym (filter-append (differs a) es (e ∷ [])))

-- no difference, or one
pub none_differs : (c : Case) (s : Sort) (before : List (Viewed Difference)) → is_missed s ≡ false → before ++ differing c s ≡ before
none_differs c s before met = rw met (append-nil before)

pub some_differs : (c : Case) (s : Sort) (before : List (Viewed Difference)) → is_missed s ≡ true → before ++ differing c s ≡ before ++ difference_in c ∷ []
some_differs c s before missed = rw missed refl
