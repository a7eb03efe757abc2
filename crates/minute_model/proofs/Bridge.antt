-- The activity of a second in the words of the regulation is its activity by the seconds before and after it.
use Rattle.std.proofs.Common.{◌≡◌, ◌∙◌, ℕ, suc, ◌+◌, ◌-◌, ◌<◌, ◌≤◌, Bool, true, false, ◌&&◌, List, [], ◌∷◌, ◌++◌, length, take, refl, ap, sym, arith, append_assoc, append-nil, length-append}
use Rattle.std.specs.Prelude.{nat_lt, nat_le, map, filter, find, not, Option, Some, None, option_map, unwrap_or}
use Rattle.std.specs.List.{list_any, AllByRecursion}
use Rattle.std.proofs.lemmas.Bool.{lt-ltb, le-ltb, le-leb, lt-leb, leb-true, leb-false, ltb-true, ltb-false, and_left, and_right, and_from, or_left, or_right}
use Rattle.std.proofs.lemmas.List.Folds.{list_any-append}
use Rattle.std.proofs.Math.Seq.{take-nil}
use Rattle.std.proofs.lemmas.List.Elements.{filter-append}
use Rattle.activity_codec.proofs.ByTest.{by_test}
use Rattle.activity_codec.specs.Activity.{activity_of, is_rest_or_available, same_slot}
use Rattle.activity_codec.specs.declared.values.Activity.{Activity}
use Rattle.activity_codec.specs.declared.values.Activity.TheVariants.{Rest, Available, Work}
use Rattle.activity_codec.specs.declared.values.Pick.{Pick}
use Rattle.activity_codec.specs.declared.values.Slot.{Slot}
use Rattle.activity_codec.specs.declared.values.Slot.TheVariants.{Driver, CoDriver}
use Rattle.minute_model.specs.Second.{Second, Selection, moving, selections}
use Rattle.minute_model.specs.Activity.{last, last_selected, last_motion, early_rest, driver_since_stop, driver_standing, driver_at, codriver_standing, codriver_at}
use Rattle.minute_model.specs.Span.{AreNumbered}
use Rattle.minute_model.proofs.Numbered.{numbered-parts}
use Rattle.minute_model.specs.Stops.{is_still, all_still, last_still, driver_picks, codriver_picks, last_pick}
use Rattle.minute_model.proofs.EachSecond.{first_still, first_pick, driver_after_stop, driver_between, codriver_between, each_second, drivers, codrivers}
use Rattle.minute_model.proofs.Still.{all_still-append, last_still-all, last_still-append, first_still-append}
use Rattle.minute_model.proofs.Next.{or-false}
use Rattle.minute_model.proofs.Literal.{has_early, first_early_from, decided_by, literal-same}
use Rattle.minute_model.proofs.Ranges.{each-more, each-then, filter-no, filter-yes, any-no, find-no, find-behind, last-push, still-moves_not, moves-still_not, moving-parts, moving-here, moving-none, moving-still, Within, moving-within, selections-parts, selections-here, selections-none, selections-within, picks_in, selections-picks, last-picked}

abbrev in_range : ℕ → ℕ → Selection → Bool
in_range from to s = nat_le from s.at && nat_le s.at to

abbrev last_of_these : Activity → List Selection → Activity
last_of_these other ss = unwrap_or (option_map (λ (s : Selection). activity_of s.pick) (last ss)) other

-- The last selection of a range of numbers is the last one of the seconds at speed 0 that have them.
last_selected-part : (slot : Slot) (other : Activity) (from to n : ℕ) (xs ys zs : List Second) → AreNumbered n (xs ++ (ys ++ zs)) → all_still ys ≡ true → ((v : ℕ) → n ≤ v → v < n + length xs → v < from) → from ≤ n + length xs → n + length xs + length ys ≡ to + 1 → last_selected (selections slot (xs ++ (ys ++ zs))) from to other ≡ last_pick other (picks_in slot ys)
last_selected-part slot other from to n xs ys zs numbered still apart begins ends =
    let first = numbered-parts n xs (ys ++ zs) numbered in
    let second = numbered-parts (n + length xs) ys zs first.1 in
    let before : filter (in_range from to) (selections slot xs) ≡ [] = filter-no (in_range from to) (selections slot xs) (each-then (λ (s : Selection). Within n (n + length xs) s.at) (λ (s : Selection). in_range from to s ≡ false) early (selections slot xs) (selections-within slot n xs first.0)) in
    let within : filter (in_range from to) (selections slot ys) ≡ selections slot ys = filter-yes (in_range from to) (selections slot ys) (each-then (λ (s : Selection). Within (n + length xs) (n + length xs + length ys) s.at) (λ (s : Selection). in_range from to s ≡ true) here (selections slot ys) (selections-within slot (n + length xs) ys second.0)) in
    let behind : filter (in_range from to) (selections slot zs) ≡ [] = filter-no (in_range from to) (selections slot zs) (each-then (λ (s : Selection). Within (n + length xs + length ys) (n + length xs + length ys + length zs) s.at) (λ (s : Selection). in_range from to s ≡ false) late (selections slot zs) (selections-within slot (n + length xs + length ys) zs second.1)) in
    let all : filter (in_range from to) (selections slot (xs ++ (ys ++ zs))) ≡ selections slot ys =
    ap (filter (in_range from to)) (selections-parts slot xs (ys ++ zs) ∙ ap (λ (ss : List Selection). selections slot xs ++ ss) (selections-parts slot ys zs))
    ∙ filter-append (in_range from to) (selections slot xs) (selections slot ys ++ selections slot zs)
    ∙ ap (λ (ss : List Selection). filter (in_range from to) (selections slot xs) ++ ss) (filter-append (in_range from to) (selections slot ys) (selections slot zs))
    ∙ rw (before, within, behind) (append-nil (selections slot ys)) in
    ap (last_of_these other) all ∙ last-picked other (selections slot ys) ∙ ap (last_pick other) (selections-picks slot ys still)
  where
    early : (s : Selection) → Within n (n + length xs) s.at → in_range from to s ≡ false
    early s h = and_left (nat_le from s.at) (nat_le s.at to) (lt-leb from s.at (apart s.at h.0 h.1))

    here : (s : Selection) → Within (n + length xs) (n + length xs + length ys) s.at → in_range from to s ≡ true
    here s h = and_from (nat_le from s.at) (nat_le s.at to) (le-leb from s.at (omega (arith, h.0, begins))) (le-leb s.at to (omega (arith, h.1, ends)))

    late : (s : Selection) → Within (n + length xs + length ys) (n + length xs + length ys + length zs) s.at → in_range from to s ≡ false
    late s h = and_right (nat_le from s.at) (nat_le s.at to) (lt-leb s.at to (omega (arith, h.0, ends)))

-- The last motion before a second, where all from it on are at speed 0.
last_motion-moved : (n u : ℕ) (front st after : List Second) (mv : Second) → AreNumbered n (front ++ (mv ∷ (st ++ after))) → is_still mv ≡ false → all_still st ≡ true → u ≡ n + length front + 1 + length st → filter (λ (v : ℕ). nat_lt v u) (moving after) ≡ [] → last_motion (front ++ (mv ∷ (st ++ after))) u ≡ Some mv.number
last_motion-moved n u front st after mv numbered moves still is later =
    let first = numbered-parts n front (mv ∷ (st ++ after)) numbered in
    let lt : mv.number < u = omega (arith, is, first.1.0) in
    let parts : moving (front ++ (mv ∷ (st ++ after))) ≡ moving front ++ (mv.number ∷ moving after) =
    moving-parts front (mv ∷ (st ++ after)) ∙ ap (λ (vs : List ℕ). moving front ++ vs) (moving-here mv (st ++ after) moves ∙ ap (λ (vs : List ℕ). mv.number ∷ vs) (moving-parts st after ∙ rw (moving-still st still) refl)) in
    ap (λ (vs : List ℕ). last (filter (λ (v : ℕ). nat_lt v u) vs)) parts
    ∙ ap last (filter-append (λ (v : ℕ). nat_lt v u) (moving front) (mv.number ∷ moving after))
    ∙ rw (lt-ltb mv.number u lt, later) (last-push (filter (λ (v : ℕ). nat_lt v u) (moving front)) mv.number)

-- no motion before it
last_motion-unmoved : (u : ℕ) (before after : List Second) → all_still before ≡ true → filter (λ (v : ℕ). nat_lt v u) (moving after) ≡ [] → last_motion (before ++ after) u ≡ None
last_motion-unmoved u before after still later =
    let parts : moving (before ++ after) ≡ moving after = moving-parts before after ∙ ap (λ (vs : List ℕ). vs ++ moving after) (moving-still before still) in
    ap (λ (vs : List ℕ). last (filter (λ (v : ℕ). nat_lt v u) vs)) parts ∙ ap last later

-- motion in a second at speed 0 and behind it comes later
moving-later : (n u : ℕ) (now : Second) (after : List Second) → AreNumbered n (now ∷ after) → is_still now ≡ true → u ≤ n + 1 → filter (λ (v : ℕ). nat_lt v u) (moving (now ∷ after)) ≡ []
moving-later n u now after numbered still le =
    ap (filter (λ (v : ℕ). nat_lt v u)) (moving-none now after still)
    ∙ filter-no (λ (v : ℕ). nat_lt v u) (moving after) (each-then (Within (n + 1) (n + 1 + length after)) (λ (v : ℕ). nat_lt v u ≡ false) (λ v h. le-ltb v u (omega (arith, h.0, le))) (moving after) (moving-within (n + 1) after numbered.1))

-- motion from a stop to a second
abbrev moves_within : List Second → ℕ → ℕ → Bool
moves_within known from to = list_any (λ v. nat_le from v && nat_le v to) (moving known)

-- a selection that may count as made at the stop
abbrev in_time : List Second → ℕ → Selection → Bool
in_time known stop s = is_rest_or_available s.pick && nat_le stop s.at && nat_le s.at (stop + 120) && not (moves_within known stop s.at)

-- a selection, by the seconds since the stop
abbrev since_then : ℕ → Option Selection → Option (ℕ × Activity)
since_then stop found = option_map (λ s. (s.at - stop, activity_of s.pick)) found

-- the first rest or availability of one second
found-at : (p : Selection → Bool) (n stop : ℕ) (rest : List Selection) → ((pick : Pick) → p (record { at = n; pick = pick }) ≡ is_rest_or_available pick) → (ps : List (Slot × Pick)) → list_any is_rest_or_available (map (λ (q : Slot × Pick). q.1) ps) ≡ true → since_then stop (find p (map (λ (q : Slot × Pick). record { at = n; pick = q.1 }) ps ++ rest)) ≡ Some (n - stop, first_pick Work (filter is_rest_or_available (map (λ (q : Slot × Pick). q.1) ps)))
found-at p n stop rest here [] some = cc
found-at p n stop rest here (q ∷ ps) some =
    by_test (is_rest_or_available q.1)
    (λ early. rw (here q.1, early) refl)
    (λ late. rw (here q.1, late) (found-at p n stop rest here ps (rw late at some)))

passed-at : (p : Selection → Bool) (n : ℕ) (rest : List Selection) → ((pick : Pick) → p (record { at = n; pick = pick }) ≡ is_rest_or_available pick) → (ps : List (Slot × Pick)) → list_any is_rest_or_available (map (λ (q : Slot × Pick). q.1) ps) ≡ false → find p (map (λ (q : Slot × Pick). record { at = n; pick = q.1 }) ps ++ rest) ≡ find p rest
passed-at p n rest here [] none = refl
passed-at p n rest here (q ∷ ps) none =
    let both = or-false (is_rest_or_available q.1) (list_any is_rest_or_available (map (λ (r : Slot × Pick). r.1) ps)) none in
    rw (here q.1, both.0) (passed-at p n rest here ps both.1)

-- no motion from the stop to a second at speed 0, behind seconds at speed 0
quiet : (n stop at : ℕ) (front done zs : List Second) (z : Second) → AreNumbered n (front ++ (done ++ (z ∷ zs))) → n + length front ≡ stop → at ≡ stop + length done → all_still done ≡ true → is_still z ≡ true → moves_within (front ++ (done ++ (z ∷ zs))) stop at ≡ false
quiet n stop at front done zs z numbered begins is still z_still =
    let first = numbered-parts n front (done ++ (z ∷ zs)) numbered in
    let second = numbered-parts (n + length front) done (z ∷ zs) first.1 in
    let parts : moving (front ++ (done ++ (z ∷ zs))) ≡ moving front ++ moving zs =
    moving-parts front (done ++ (z ∷ zs)) ∙ ap (λ (vs : List ℕ). moving front ++ vs) (moving-parts done (z ∷ zs) ∙ ap (λ (vs : List ℕ). vs ++ moving (z ∷ zs)) (moving-still done still) ∙ moving-none z zs z_still) in
    let before : AllByRecursion (λ (v : ℕ). (nat_le stop v && nat_le v at) ≡ false) (moving front) = each-then (Within n (n + length front)) (λ (v : ℕ). (nat_le stop v && nat_le v at) ≡ false) (λ v h. and_left (nat_le stop v) (nat_le v at) (lt-leb stop v (omega (arith, h.1, begins)))) (moving front) (moving-within n front first.0) in
    let behind : AllByRecursion (λ (v : ℕ). (nat_le stop v && nat_le v at) ≡ false) (moving zs) = each-then (Within (n + length front + length done + 1) (n + length front + length done + 1 + length zs)) (λ (v : ℕ). (nat_le stop v && nat_le v at) ≡ false) (λ v h. and_right (nat_le stop v) (nat_le v at) (lt-leb v at (omega (arith, h.0, begins, is)))) (moving zs) (moving-within (n + length front + length done + 1) zs second.1.1) in
    ap (list_any (λ (v : ℕ). nat_le stop v && nat_le v at)) parts ∙ any-no (λ (v : ℕ). nat_le stop v && nat_le v at) (moving front ++ moving zs) (each-more (λ (v : ℕ). (nat_le stop v && nat_le v at) ≡ false) (moving front) (moving zs) before behind)

-- motion from the stop to a second behind a moving one
moved-by : (stop at : ℕ) (xs zs : List Second) (z : Second) → is_still z ≡ false → stop ≤ z.number → z.number ≤ at → moves_within (xs ++ (z ∷ zs)) stop at ≡ true
moved-by stop at xs zs z moves from to =
    let parts : moving (xs ++ (z ∷ zs)) ≡ moving xs ++ (z.number ∷ moving zs) = moving-parts xs (z ∷ zs) ∙ ap (λ (vs : List ℕ). moving xs ++ vs) (moving-here z zs moves) in
    ap (list_any (λ (v : ℕ). nat_le stop v && nat_le v at)) parts
    ∙ list_any-append (λ (v : ℕ). nat_le stop v && nat_le v at) (moving xs) (z.number ∷ moving zs)
    ∙ or_right (list_any (λ (v : ℕ). nat_le stop v && nat_le v at) (moving xs)) (list_any (λ (v : ℕ). nat_le stop v && nat_le v at) (z.number ∷ moving zs)) (or_left (nat_le stop z.number && nat_le z.number at) (list_any (λ (v : ℕ). nat_le stop v && nat_le v at) (moving zs)) (and_from (nat_le stop z.number) (nat_le z.number at) (le-leb stop z.number from) (le-leb z.number at to)))

-- no rest or availability
in_time-motion : (known : List Second) (stop : ℕ) (s : Selection) → moves_within known stop s.at ≡ true → in_time known stop s ≡ false
in_time-motion known stop s moved = rw moved (and_right (is_rest_or_available s.pick && nat_le stop s.at && nat_le s.at (stop + 120)) false refl)

in_time-late : (known : List Second) (stop : ℕ) (s : Selection) → nat_le s.at (stop + 120) ≡ false → in_time known stop s ≡ false
in_time-late known stop s late = grind (arith, late, and_left, and_right)

in_time-before : (known : List Second) (stop : ℕ) (s : Selection) → nat_le stop s.at ≡ false → in_time known stop s ≡ false
in_time-before known stop s before = grind (arith, before, and_left, and_right)

-- a selection at a second that counts from the stop on
in_time-here : (known : List Second) (stop at : ℕ) → stop ≤ at → at ≤ stop + 120 → moves_within known stop at ≡ false → (pick : Pick) → in_time known stop (record { at = at; pick = pick }) ≡ is_rest_or_available pick
in_time-here known stop at from to quiet pick =
    by_test (is_rest_or_available pick)
    (λ early. rw (early, le-leb stop at from, le-leb at (stop + 120) to, quiet) refl)
    (λ late. rw late refl)

-- The first selection that counts from the stop on, among the seconds behind some at speed 0.
search-behind : (n stop k : ℕ) (known front done ahead : List Second) → AreNumbered n known → known ≡ front ++ (done ++ ahead) → n + length front ≡ stop → length done ≡ k → all_still done ≡ true → since_then stop (find (in_time known stop) (selections Driver ahead)) ≡ first_early_from k (take (121 - k) (first_still ahead))
search-behind n stop k known front done [] numbered is begins long still = rw (take-nil {A = Second} (121 - k)) refl
search-behind n stop k known front done (z ∷ zs) numbered is begins long still =
    by_test (nat_le k 120)
    (λ near. by_test (is_still z)
    (λ z_still. here (λ more length_more. search-behind n stop (k + 1) known front (done ++ z ∷ []) zs numbered grown begins length_more more) (leb-true k 120 near) z_still)
    (λ moves. moved moves))
    (λ far. over (leb-false k 120 far))
  where
    spelled : AreNumbered n (front ++ (done ++ (z ∷ zs)))
    spelled = rw is at numbered

    ahead : AreNumbered (stop + k) (z ∷ zs)
    ahead =
        let first = numbered-parts n front (done ++ (z ∷ zs)) spelled in
        let second = numbered-parts (n + length front) done (z ∷ zs) first.1 in
        let e : n + length front + length done ≡ stop + k = omega (arith, begins, long) in
        rw e at second.1

    z-number : z.number ≡ stop + k
    z-number = ahead.0

    grown : known ≡ front ++ ((done ++ z ∷ []) ++ zs)
    grown = is ∙ ap (λ (ys : List Second). front ++ ys) (sym (append_assoc done (z ∷ []) zs))

    here : (all_still (done ++ z ∷ []) ≡ true → length (done ++ z ∷ []) ≡ k + 1 → since_then stop (find (in_time known stop) (selections Driver zs)) ≡ first_early_from (k + 1) (take (121 - (k + 1)) (first_still zs))) → k ≤ 120 → is_still z ≡ true → since_then stop (find (in_time known stop) (selections Driver (z ∷ zs))) ≡ first_early_from k (take (121 - k) (first_still (z ∷ zs)))
    here next near z_still =
        let no_motion : moves_within known stop z.number ≡ false = ap (λ (ys : List Second). moves_within ys stop z.number) is ∙ quiet n stop z.number front done zs z spelled begins (omega (arith, z-number, long)) still z_still in
        let at : (pick : Pick) → in_time known stop (record { at = z.number; pick = pick }) ≡ is_rest_or_available pick = in_time-here known stop z.number (omega (arith, z-number)) (omega (arith, z-number, near)) no_motion in
        let one_more : 121 - k ≡ suc (121 - (k + 1)) = omega (arith, near) in
        let count : z.number - stop ≡ k = omega (arith, z-number) in
        let ps : List (Slot × Pick) = filter (λ (q : Slot × Pick). same_slot Driver q.0) z.picks in
        by_test (has_early z)
        (λ early. ap (λ (ss : List Selection). since_then stop (find (in_time known stop) ss)) (selections-here Driver z zs z_still) ∙ found-at (in_time known stop) z.number stop (selections Driver zs) at ps early ∙ rw (z_still, one_more, early, count) refl)
        (λ late.
        let more : all_still (done ++ z ∷ []) ≡ true = all_still-append done (z ∷ []) ∙ rw (still, z_still) refl in
        let length_more : length (done ++ z ∷ []) ≡ k + 1 = length-append done (z ∷ []) ∙ ap (λ (j : ℕ). j + 1) long in
        ap (λ (ss : List Selection). since_then stop (find (in_time known stop) ss)) (selections-here Driver z zs z_still)
        ∙ ap (since_then stop) (passed-at (in_time known stop) z.number (selections Driver zs) at ps late)
        ∙ next more length_more
        ∙ rw (z_still, one_more, late) refl)

    moved : is_still z ≡ false → since_then stop (find (in_time known stop) (selections Driver (z ∷ zs))) ≡ first_early_from k (take (121 - k) (first_still (z ∷ zs)))
    moved moves =
        let behind : AreNumbered (stop + k + 1) zs = ahead.1 in
        let nothing : find (in_time known stop) (selections Driver zs) ≡ None = find-no (in_time known stop) (selections Driver zs) (each-then (λ (s : Selection). Within (stop + k + 1) (stop + k + 1 + length zs) s.at) (λ (s : Selection). in_time known stop s ≡ false) (λ s h. in_time-motion known stop s (ap (λ (ys : List Second). moves_within ys stop s.at) (is ∙ sym (append_assoc front done (z ∷ zs))) ∙ moved-by stop s.at (front ++ done) zs z moves (omega (arith, z-number)) (omega (arith, z-number, h.0)))) (selections Driver zs) (selections-within Driver (stop + k + 1) zs behind)) in
        ap (λ (ss : List Selection). since_then stop (find (in_time known stop) ss)) (selections-none Driver z zs moves) ∙ ap (since_then stop) nothing ∙ rw (moves, take-nil {A = Second} (121 - k)) refl

    over : 120 < k → since_then stop (find (in_time known stop) (selections Driver (z ∷ zs))) ≡ first_early_from k (take (121 - k) (first_still (z ∷ zs)))
    over far =
        let none_left : 121 - k ≡ 0 = omega (arith, far) in
        let nothing : find (in_time known stop) (selections Driver (z ∷ zs)) ≡ None = find-no (in_time known stop) (selections Driver (z ∷ zs)) (each-then (λ (s : Selection). Within (stop + k) (stop + k + length (z ∷ zs)) s.at) (λ (s : Selection). in_time known stop s ≡ false) (λ s h. in_time-late known stop s (lt-leb s.at (stop + 120) (omega (arith, h.0, far)))) (selections Driver (z ∷ zs)) (selections-within Driver (stop + k) (z ∷ zs) ahead)) in
        ap (since_then stop) nothing ∙ rw none_left refl

-- what the first such selection means for the last of these seconds since the stop
since-literal : (known since : List Second) (stop u : ℕ) → u + 1 ≡ stop + length since → 0 < length since → last_selected (selections Driver known) stop u Work ≡ last_pick Work (driver_picks since) → (found : Option Selection) → driver_since_stop known stop u found ≡ decided_by since (since_then stop found)
since-literal known since stop u ends some same None = same
since-literal known since stop u ends some same (Some early) =
    by_test (nat_lt u early.at)
    (λ later.
    let lt : u < early.at = ltb-true u early.at later in
    rw (later, le-leb (length since) (early.at - stop) (omega (arith, lt, ends))) refl)
    (λ done.
    let le : early.at ≤ u = ltb-false u early.at done in
    rw (done, lt-leb (length since) (early.at - stop) (omega (arith, le, ends, some))) same)

-- the last motion of seconds that have some, and the seconds at speed 0 behind it
pub split-moved : (xs : List Second) → all_still xs ≡ false → (front : List Second) × (mv : Second) × (is_still mv ≡ false) × (xs ≡ front ++ (mv ∷ last_still xs))
split-moved [] h = cc
split-moved (x ∷ xs) h =
    by_test (all_still xs)
    (λ still.
    let moves : is_still x ≡ false = front_moves (is_still x) (all_still xs) h still in
    let end : last_still (x ∷ xs) ≡ xs = rw h (last_still-all xs still) in
    ([], x, moves, ap (λ (ys : List Second). x ∷ ys) (sym end)))
    (λ moved.
    let rest = split-moved xs moved in
    let end : last_still (x ∷ xs) ≡ last_still xs = rw h refl in
    (x ∷ rest.0, rest.1, rest.2, ap (λ (ys : List Second). x ∷ ys) rest.3 ∙ ap (λ (ys : List Second). x ∷ (rest.0 ++ (rest.1 ∷ ys))) (sym end)))
  where
    front_moves : (a b : Bool) → (a && b) ≡ false → b ≡ true → a ≡ false
    front_moves false b h e = refl
    front_moves true b h e = cc

pub last_still-still : (xs : List Second) → all_still (last_still xs) ≡ true
last_still-still [] = refl
last_still-still (x ∷ xs) =
    by_test (all_still (x ∷ xs))
    (λ still. rw still still)
    (λ moved. rw moved (last_still-still xs))

-- seconds with motion, then some at speed 0, one more at speed 0, and what comes behind it
abbrev stopped : List Second → Second → List Second → Second → List Second → List Second
stopped front mv st now after = front ++ (mv ∷ (st ++ (now ∷ after)))

-- Where their stop is, and what was selected last since then.
record Stopped (n : ℕ) (front : List Second) (mv : Second) (st : List Second) (now : Second) (after : List Second) : Type 0 where
  motion : last_motion (stopped front mv st now after) now.number ≡ Some mv.number
  begins : n + length (front ++ mv ∷ []) ≡ mv.number + 1
  ends : now.number + 1 ≡ mv.number + 1 + length (st ++ now ∷ [])
  selected : (slot : Slot) (other : Activity) → last_selected (selections slot (stopped front mv st now after)) (mv.number + 1) now.number other ≡ last_pick other (picks_in slot (st ++ now ∷ []))

stops : (n : ℕ) (front : List Second) (mv : Second) (st : List Second) (now : Second) (after : List Second) → AreNumbered n (stopped front mv st now after) → is_still mv ≡ false → all_still st ≡ true → is_still now ≡ true → Stopped n front mv st now after
stops n front mv st now after numbered moves still now_still =
    let since : List Second = st ++ now ∷ [] in
    let first = numbered-parts n front (mv ∷ (st ++ (now ∷ after))) numbered in
    let second = numbered-parts (n + length front + 1) st (now ∷ after) first.1.1 in
    let mv_number : mv.number ≡ n + length front = first.1.0 in
    let now_number : now.number ≡ n + length front + 1 + length st = second.1.0 in
    let since_still : all_still since ≡ true = all_still-append st (now ∷ []) ∙ rw (still, now_still) refl in
    let begins : n + length (front ++ mv ∷ []) ≡ mv.number + 1 = omega (arith, length-append front (mv ∷ []), mv_number) in
    let ends : now.number + 1 ≡ mv.number + 1 + length since = omega (arith, length-append st (now ∷ []), mv_number, now_number) in
    let three : stopped front mv st now after ≡ (front ++ mv ∷ []) ++ (since ++ after) = sym (append_assoc front (mv ∷ []) (st ++ (now ∷ after))) ∙ ap (λ (ys : List Second). (front ++ mv ∷ []) ++ ys) (sym (append_assoc st (now ∷ []) after)) in
    record {
      motion = last_motion-moved n now.number front st (now ∷ after) mv numbered moves still now_number (moving-later (n + length front + 1 + length st) now.number now after second.1 now_still (omega (arith, now_number)));
      begins = begins;
      ends = ends;
      selected = λ slot other. ap (λ (ys : List Second). last_selected (selections slot ys) (mv.number + 1) now.number other) three ∙ last_selected-part slot other (mv.number + 1) now.number n (front ++ mv ∷ []) since after (rw three at numbered) since_still (λ v from to. omega (arith, to, begins)) (omega (arith, begins)) (omega (arith, begins, ends));
    }

-- the driver in a second at speed 0, behind motion and seconds at speed 0
driver-moved : (n : ℕ) (front : List Second) (mv : Second) (st : List Second) (now : Second) (after : List Second) → AreNumbered n (stopped front mv st now after) → is_still mv ≡ false → all_still st ≡ true → is_still now ≡ true → driver_standing (stopped front mv st now after) now.number (last_motion (stopped front mv st now after) now.number) ≡ driver_after_stop (st ++ now ∷ []) after
driver-moved n front mv st now after numbered moves still now_still =
    let known : List Second = stopped front mv st now after in
    let since : List Second = st ++ now ∷ [] in
    let stop : ℕ = mv.number + 1 in
    let s = stops n front mv st now after numbered moves still now_still in
    let parts : known ≡ (front ++ mv ∷ []) ++ (st ++ (now ∷ after)) = sym (append_assoc front (mv ∷ []) (st ++ (now ∷ after))) in
    let halves = numbered-parts n (front ++ mv ∷ []) (st ++ (now ∷ after)) (rw parts at numbered) in
    let before : AllByRecursion (λ (p : Selection). in_time known stop p ≡ false) (selections Driver (front ++ mv ∷ [])) = each-then (λ (p : Selection). Within n (n + length (front ++ mv ∷ [])) p.at) (λ (p : Selection). in_time known stop p ≡ false) (λ p h. in_time-before known stop p (lt-leb stop p.at (omega (arith, h.1, s.begins)))) (selections Driver (front ++ mv ∷ [])) (selections-within Driver n (front ++ mv ∷ []) halves.0) in
    let behind : find (in_time known stop) (selections Driver known) ≡ find (in_time known stop) (selections Driver (st ++ (now ∷ after))) = ap (find (in_time known stop)) (ap (selections Driver) parts ∙ selections-parts Driver (front ++ mv ∷ []) (st ++ (now ∷ after))) ∙ find-behind (in_time known stop) (selections Driver (front ++ mv ∷ [])) (selections Driver (st ++ (now ∷ after))) before in
    let ahead : first_still (st ++ (now ∷ after)) ≡ since ++ first_still after = first_still-append st (now ∷ after) still ∙ rw now_still (sym (append_assoc st (now ∷ []) (first_still after))) in
    let early : since_then stop (early_rest known stop) ≡ first_early_from 0 (take 121 (since ++ first_still after)) =
    ap (since_then stop) behind
    ∙ search-behind n stop 0 known (front ++ mv ∷ []) [] (st ++ (now ∷ after)) numbered parts s.begins refl refl
    ∙ ap (λ (ys : List Second). first_early_from 0 (take 121 ys)) ahead in
    ap (driver_standing known now.number) s.motion
    ∙ since-literal known since stop now.number s.ends (omega (arith, length-append st (now ∷ []))) (s.selected Driver Work) (early_rest known stop)
    ∙ ap (decided_by since) early
    ∙ sym (literal-same since after)

-- the co-driver there
codriver-moved : (n : ℕ) (front : List Second) (mv : Second) (st : List Second) (now : Second) (after : List Second) → AreNumbered n (stopped front mv st now after) → is_still mv ≡ false → all_still st ≡ true → is_still now ≡ true → codriver_standing (stopped front mv st now after) now.number (last_motion (stopped front mv st now after) now.number) ≡ last_pick Available (codriver_picks (st ++ now ∷ []))
codriver-moved n front mv st now after numbered moves still now_still =
    let s = stops n front mv st now after numbered moves still now_still in
    ap (codriver_standing (stopped front mv st now after) now.number) s.motion ∙ s.selected CoDriver Available

-- a second at speed 0 before any motion: the last selection so far
unmoved-picks : (slot : Slot) (n : ℕ) (before after : List Second) (now : Second) → AreNumbered n (before ++ (now ∷ after)) → all_still before ≡ true → is_still now ≡ true → last_selected (selections slot (before ++ (now ∷ after))) 0 now.number Rest ≡ last_pick Rest (picks_in slot (before ++ now ∷ []))
unmoved-picks slot n before after now numbered still now_still =
    let parts : before ++ (now ∷ after) ≡ (before ++ now ∷ []) ++ after = sym (append_assoc before (now ∷ []) after) in
    let second = numbered-parts n before (now ∷ after) numbered in
    let all : all_still (before ++ now ∷ []) ≡ true = all_still-append before (now ∷ []) ∙ rw (still, now_still) refl in
    let long : length (before ++ now ∷ []) ≡ length before + 1 = length-append before (now ∷ []) in
    ap (λ (ys : List Second). last_selected (selections slot ys) 0 now.number Rest) parts
    ∙ last_selected-part slot Rest 0 now.number n [] (before ++ now ∷ []) after (rw parts at numbered) all (λ v from to. omega (arith, from, to)) (omega arith) (omega (arith, long, second.1.0))

unmoved-motion : (n : ℕ) (before after : List Second) (now : Second) → AreNumbered n (before ++ (now ∷ after)) → all_still before ≡ true → is_still now ≡ true → last_motion (before ++ (now ∷ after)) now.number ≡ None
unmoved-motion n before after now numbered still now_still =
    let second = numbered-parts n before (now ∷ after) numbered in
    last_motion-unmoved now.number before (now ∷ after) still (moving-later (n + length before) now.number now after second.1 now_still (omega (arith, second.1.0)))

-- the seconds behind the last motion, as they stand in the whole
whole-moved : (before after front st : List Second) (mv now : Second) → before ≡ front ++ (mv ∷ st) → before ++ (now ∷ after) ≡ front ++ (mv ∷ (st ++ (now ∷ after)))
whole-moved before after front st mv now is = ap (λ (ys : List Second). ys ++ (now ∷ after)) is ∙ append_assoc front (mv ∷ st) (now ∷ after)

-- The driver's activity in a second.
pub driver-literal : (n : ℕ) (before after : List Second) (now : Second) → AreNumbered n (before ++ (now ∷ after)) → driver_between before now after ≡ driver_at (before ++ (now ∷ after)) now
driver-literal n before after now numbered =
    by_test (is_still now)
    (λ still. by_test (all_still before)
    (λ unmoved. rw (still, unmoved, still-moves_not now still) (sym (ap (driver_standing (before ++ (now ∷ after)) now.number) (unmoved-motion n before after now numbered unmoved still) ∙ unmoved-picks Driver n before after now numbered unmoved still)))
    (λ moved.
    let s = split-moved before moved in
    let whole : before ++ (now ∷ after) ≡ s.0 ++ (s.1 ∷ (last_still before ++ (now ∷ after))) = whole-moved before after s.0 (last_still before) s.1 now s.3 in
    let end : last_still (before ++ now ∷ []) ≡ last_still before ++ now ∷ [] = last_still-append before (now ∷ []) (rw still refl) in
    let standing : driver_standing (before ++ (now ∷ after)) now.number (last_motion (before ++ (now ∷ after)) now.number) ≡ driver_after_stop (last_still before ++ now ∷ []) after =
    ap (λ (ys : List Second). driver_standing ys now.number (last_motion ys now.number)) whole ∙ driver-moved n s.0 s.1 (last_still before) now after (rw whole at numbered) s.2 (last_still-still before) still in
    rw (still, moved, still-moves_not now still, end) (sym standing)))
    (λ moves. rw (moves, moves-still_not now moves) refl)

-- The co-driver's.
pub codriver-literal : (n : ℕ) (before after : List Second) (now : Second) → AreNumbered n (before ++ (now ∷ after)) → codriver_between before now after ≡ codriver_at (before ++ (now ∷ after)) now
codriver-literal n before after now numbered =
    by_test (is_still now)
    (λ still.
    let end : last_still (before ++ now ∷ []) ≡ last_still before ++ now ∷ [] = last_still-append before (now ∷ []) (rw still refl) in
    by_test (all_still before)
    (λ unmoved.
    let whole_end : last_still (before ++ now ∷ []) ≡ before ++ now ∷ [] = end ∙ ap (λ (ys : List Second). ys ++ now ∷ []) (last_still-all before unmoved) in
    rw (still, unmoved, still-moves_not now still, whole_end) (sym (ap (codriver_standing (before ++ (now ∷ after)) now.number) (unmoved-motion n before after now numbered unmoved still) ∙ unmoved-picks CoDriver n before after now numbered unmoved still)))
    (λ moved.
    let s = split-moved before moved in
    let whole : before ++ (now ∷ after) ≡ s.0 ++ (s.1 ∷ (last_still before ++ (now ∷ after))) = whole-moved before after s.0 (last_still before) s.1 now s.3 in
    let standing : codriver_standing (before ++ (now ∷ after)) now.number (last_motion (before ++ (now ∷ after)) now.number) ≡ last_pick Available (codriver_picks (last_still before ++ now ∷ [])) =
    ap (λ (ys : List Second). codriver_standing ys now.number (last_motion ys now.number)) whole ∙ codriver-moved n s.0 s.1 (last_still before) now after (rw whole at numbered) s.2 (last_still-still before) still in
    rw (still, moved, still-moves_not now still, end) (sym standing)))
    (λ moves. rw (moves, moves-still_not now moves) refl)

-- the activities of a whole span
pub each-literal : (at : List Second → Second → List Second → Activity) (word : List Second → Second → Activity) (n : ℕ) (xs : List Second) → ((before after : List Second) (now : Second) → AreNumbered n (before ++ (now ∷ after)) → at before now after ≡ word (before ++ (now ∷ after)) now) → AreNumbered n xs → (before after : List Second) → before ++ after ≡ xs → each_second at before after ≡ map (word xs) after
each-literal at word n xs same numbered before [] is = refl
each-literal at word n xs same numbered before (now ∷ after) is =
    let head : at before now after ≡ word xs now = same before after now (rw (← is) at numbered) ∙ ap (λ (ys : List Second). word ys now) is in
    let tail : each_second at (before ++ now ∷ []) after ≡ map (word xs) after = each-literal at word n xs same numbered (before ++ now ∷ []) after (append_assoc before (now ∷ []) after ∙ is) in
    rw (head, tail) refl

pub drivers-literal : (n : ℕ) (xs : List Second) → AreNumbered n xs → drivers xs ≡ map (driver_at xs) xs
drivers-literal n xs numbered = each-literal driver_between driver_at n xs (driver-literal n) numbered [] xs refl

pub codrivers-literal : (n : ℕ) (xs : List Second) → AreNumbered n xs → codrivers xs ≡ map (codriver_at xs) xs
codrivers-literal n xs numbered = each-literal codriver_between codriver_at n xs (codriver-literal n) numbered [] xs refl
