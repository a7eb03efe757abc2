-- A case after one use more, and after one line of the unit file more.
use Rattle.std.proofs.Common.{◌≡◌, ◌∙◌, ◌⊎◌, ℕ, zero, suc, ◌+◌, ◌-◌, ◌<◌, ◌&&◌, ◌||◌, Bool, true, false, Option, Some, None, List, [], ◌∷◌, ◌++◌, map, refl, ap, sym, arith}
use Rattle.std.specs.Prelude.{nat_le, nat_lt, ◌==◌, if◌then◌else◌}
use Rattle.std.specs.List.{list_any, range_with_len}
use Rattle.std.proofs.lemmas.Bool.Decides.{nat_tests}
use Rattle.std.proofs.lemmas.List.Folds.{list_any-append}
use Rattle.activity_codec.proofs.ByTest.{by_test}
use Rattle.activity_codec.specs.declared.entries.Entry.{Entry}
use Rattle.view_model.specs.declared.UnitShown.{UnitShown}
use Rattle.view_model.specs.declared.Viewed.{Viewed}
use Rattle.view_model.specs.declared.Line.{Line}
use Rattle.card_match.specs.declared.cases.Use.{Use}
use Rattle.card_match.specs.declared.cases.Case.{Case}
use Rattle.unit_model.specs.Days.{UnitMinute}
use Rattle.file_view.specs.Histories.{minute_told, line_minutes}
use Rattle.card_match.specs.Matching.{Against, is_within, is_own, minute_at}
use Rattle.card_match.specs.Cases.{minute_of, shown_of, case_of, with_use, with_line, line_use, first_seen}

-- a minute outside a use
not_within : (m first last : ℕ) → (m < first) ⊎ (last < m) → (nat_le first m && nat_le m last) ≡ false
not_within m first last out = grind (arith, nat_tests)

pub use_outside : (u : Use) (c : Case) → (c.entry.minute < u.first) ⊎ (u.last < c.entry.minute) → with_use u c ≡ c
use_outside u c out = let no : is_within c.entry.minute u ≡ false = not_within c.entry.minute u.first u.last out in rw no refl

pub line_outside : (line : Line UnitShown) (c : Case) → (c.entry.minute < line.first) ⊎ (line.last < c.entry.minute) → with_line line c ≡ c
line_outside line c out = let no : is_within c.entry.minute (line_use line) ≡ false = not_within c.entry.minute line.first line.last out in rw no refl

-- the minute stays
pub use_keeps : (u : Use) (c : Case) → (with_use u c).entry.minute ≡ c.entry.minute
use_keeps u c = by_test (is_within c.entry.minute u) (λ yes. rw yes refl) (λ no. rw no refl)

pub line_keeps : (line : Line UnitShown) (c : Case) → (with_line line c).entry.minute ≡ c.entry.minute
line_keeps line c = by_test (is_within c.entry.minute (line_use line)) (λ yes. rw yes refl) (λ no. rw no refl)

-- one more at the end
any_last : {X : Type 0} (p : X → Bool) (xs : List X) (x : X) → list_any p (xs ++ x ∷ []) ≡ (list_any p xs || p x)
any_last p xs x = list_any-append p xs (x ∷ []) ∙ ap (λ (b : Bool). list_any p xs || b) (by_test (p x) (λ yes. rw yes refl) (λ no. rw no refl))

own_more : (b within : Bool) (e : Entry) (s : Option UnitShown) → (let c : Case = record { entry = e; own = b; seen = s } in if within then (let d : Case = record { entry = e; own = true; seen = s } in d) else c) ≡ record { entry = e; own = b || within; seen = s }
own_more true true e s = refl
own_more true false e s = refl
own_more false true e s = refl
own_more false false e s = refl

pub one_use : (a : Against) (u : Use) (e : Entry) → with_use u (case_of a e) ≡ case_of (record { uses = a.uses ++ u ∷ []; minutes = a.minutes }) e
one_use a u e =
    own_more (is_own a e) (is_within e.minute u) e (shown_of (minute_at a.minutes e.minute))
    ∙ ap (λ (b : Bool). let c : Case = record { entry = e; own = b; seen = shown_of (minute_at a.minutes e.minute) } in c) (sym (any_last (is_within e.minute) a.uses u))

-- the first of some minutes, and then of others
abbrev or_else : Option UnitMinute → Option UnitMinute → Option UnitMinute
or_else None o = o
or_else (Some m) o = Some m

at_append : (xs ys : List UnitMinute) (n : ℕ) → minute_at (xs ++ ys) n ≡ or_else (minute_at xs n) (minute_at ys n)
at_append [] ys n = refl
at_append (x ∷ xs) ys n = by_test (x.minute == n) (λ yes. rw yes refl) (λ no. rw no (at_append xs ys n))

-- the minutes of a line
abbrev told : UnitShown → ℕ → Viewed UnitShown
told shown k = record { minute = k; shown = shown }

here : (a n : ℕ) → (a == n) ≡ true → a ≡ n
here a n is = grind (arith, nat_tests)

none_left : (a m : ℕ) → (nat_le a m && nat_lt m (a + 0)) ≡ false
none_left a m = grind (arith, nat_tests)

inside_here : (a n : ℕ) → (nat_le a a && nat_lt a (a + suc n)) ≡ true
inside_here a n = grind (arith, nat_tests)

inside_more : (a m n : ℕ) → (a == m) ≡ false → (nat_le a m && nat_lt m (a + suc n)) ≡ (nat_le (a + 1) m && nat_lt m (a + 1 + n))
inside_more a m n apart = grind (arith, nat_tests)

at_range : (shown : UnitShown) (m n a : ℕ) → minute_at (map minute_told (map (told shown) (range_with_len a n))) m ≡ (if nat_le a m && nat_lt m (a + n) then Some (minute_of shown m) else None)
at_range shown m zero a = let no : (nat_le a m && nat_lt m (a + 0)) ≡ false = none_left a m in rw no refl
at_range shown m (suc n) a =
    by_test (a == m)
    (λ yes.
    let is : m ≡ a = sym (here a m yes) in
    let inside : (nat_le a m && nat_lt m (a + suc n)) ≡ true = rw is (inside_here a n) in
    rw (yes, inside) (ap (λ (k : ℕ). Some (minute_of shown k)) (sym is)))
    (λ no. rw (no, inside_more a m n no) (at_range shown m n (a + 1)))

same_within : (first last m : ℕ) → (nat_le first m && nat_lt m (first + (last + 1 - first))) ≡ (nat_le first m && nat_le m last)
same_within first last m = grind (arith, nat_tests)

at_line : (line : Line UnitShown) (m : ℕ) → minute_at (map minute_told (line_minutes line)) m ≡ (if is_within m (line_use line) then Some (minute_of line.shown m) else None)
at_line line m =
    at_range line.shown m (line.last + 1 - line.first) line.first
    ∙ ap (λ (b : Bool). let o : Option UnitMinute = if b then Some (minute_of line.shown m) else None in o) (same_within line.first line.last m)

seen_more : (within : Bool) (o : Option UnitMinute) (shown : UnitShown) (m : ℕ) → shown_of (or_else o (if within then Some (minute_of shown m) else None)) ≡ (if within then first_seen (shown_of o) (Some shown) else shown_of o)
seen_more true None shown m = refl
seen_more true (Some x) shown m = refl
seen_more false None shown m = refl
seen_more false (Some x) shown m = refl

line_more : (within b : Bool) (e : Entry) (s t : Option UnitShown) → (let c : Case = record { entry = e; own = b; seen = s } in if within then (let d : Case = record { entry = e; own = b; seen = t } in d) else c) ≡ record { entry = e; own = b; seen = if within then t else s }
line_more true b e s t = refl
line_more false b e s t = refl

pub one_line : (a : Against) (line : Line UnitShown) (e : Entry) → with_line line (case_of a e) ≡ case_of (record { uses = a.uses; minutes = a.minutes ++ map minute_told (line_minutes line) }) e
one_line a line e =
    let o : Option UnitMinute = minute_at a.minutes e.minute in
    let at : Option UnitShown → Case = λ s. record { entry = e; own = is_own a e; seen = s } in
    line_more (is_within e.minute (line_use line)) (is_own a e) e (shown_of o) (first_seen (shown_of o) (Some line.shown))
    ∙ ap at (sym (seen_more (is_within e.minute (line_use line)) o line.shown e.minute))
    ∙ ap (λ (x : Option UnitMinute). at (shown_of (or_else o x))) (sym (at_line line e.minute))
    ∙ ap (λ (x : Option UnitMinute). at (shown_of x)) (sym (at_append a.minutes (map minute_told (line_minutes line)) e.minute))

pub later_by_test : (a b : ℕ) → nat_le a b ≡ false → b < a
later_by_test a b late = grind (arith, nat_tests)
