-- What is owed, as rows, end marks, sessions and the last-kept minute change.
use Rattle.std.proofs.Common.{◌≡◌, ◌⊎◌, inl, inr, ⊎_elim, ℕ, zero, suc, ◌+◌, ◌/◌, ◌%◌, ◌<◌, ◌≤◌, Bool, true, false, cond, not, List, [], ◌∷◌, ◌++◌, All, refl, ap, subst, ◌∙◌, sym, arith, take, drop, filter, nat_eq, nat_lt, nat_le}
use Rattle.std.proofs.lemmas.Bool.Decides.{nat_tests}
use Rattle.std.proofs.lemmas.List.Elements.{filter-append, All-weaker}
use Rattle.std.proofs.lemmas.List.{append-nil}
use Rattle.activity_codec.specs.declared.entries.Entry.{Entry}
use Rattle.trace_model.specs.declared.Card.{Card}
use Rattle.trace_model.specs.declared.Card.TheVariants.{A, B}
use Rattle.card_image.specs.View.{CardView, Held}
use Rattle.device_rule.specs.Views.{UnitView, owed_in, counts, is_session, row, with_row, other, owed}
use Rattle.device_rule.specs.Steps.{cleared, owing, settled_cells, SameRows, IsPutting, IsMending, IsInserting, IsClosing, replayed}
use Rattle.history_model.proofs.Filters.{filter-within, filter-weaker, filter-alike, filter-none, filter-cut, filter-whole, filter-and, all-one}
use Rattle.unit_owed.specs.Owed.{Row}

-- a cell that counts
counts-to : (from mark last m : ℕ) → counts from mark last m ≡ true → (1440 ≤ m) × (from ≤ m) × (mark < m) × (m ≤ last)
counts-to from mark last m is = (grind (arith, nat_tests), grind (arith, nat_tests), grind (arith, nat_tests), grind (arith, nat_tests))

other_place : (m n last : ℕ) → m ≤ last → last < n → n < m + 4 → not (nat_eq (m % 4) (n % 4)) ≡ true
other_place m n last h k near = let differs : (m % 4 ≡ n % 4) → ⊥ = λ e. omega (arith, e) in grind (arith, nat_tests, differs)

-- the cell of a minute that is to come is emptied: it was no cell of an entry that is owed
pub owed-cleared : (e : Entry) (r : Row) (last s mark : ℕ) → last < e.minute → All (λ d. e.minute < d.minute + 4) (owed_in r last s mark) → owed_in (cleared e r) last s mark ≡ owed_in r last s mark
owed-cleared e r last s mark late near = go (is_session r.session s) near
  where
    go : (b : Bool) → All (λ d. e.minute < d.minute + 4) (cond b (filter (λ d. counts (s / 60) mark last d.minute) r.cells) []) →
        cond b (filter (λ d. counts (s / 60) mark last d.minute) (filter (λ d. not (nat_eq (d.minute % 4) (e.minute % 4))) r.cells)) [] ≡ cond b (filter (λ d. counts (s / 60) mark last d.minute) r.cells) []
    go true near = filter-within (λ d. counts (s / 60) mark last d.minute) (λ d. not (nat_eq (d.minute % 4) (e.minute % 4))) (λ d. e.minute < d.minute + 4)
        (λ d is n. other_place d.minute e.minute last ((counts-to (s / 60) mark last d.minute is).3) late n) r.cells near
    go false near = refl

-- a cell later than the last-kept minute does not count
counts-late : (from mark last m : ℕ) → last < m → counts from mark last m ≡ false
counts-late from mark last m late = grind (arith, nat_tests)

-- and an entry for a minute that is to come is not owed yet
pub owed-owing : (e : Entry) (r : Row) (last s mark : ℕ) → last < e.minute → All (λ d. e.minute < d.minute + 4) (owed_in r last s mark) → owed_in (owing e r) last s mark ≡ owed_in r last s mark
owed-owing e r last s mark late near = go (is_session r.session s) ∙ owed-cleared e r last s mark late near
  where
    cells : List Entry
    cells = (cleared e r).cells

    count : Entry → Bool
    count d = counts (s / 60) mark last d.minute

    go : (b : Bool) → cond b (filter count (cells ++ (e ∷ []))) [] ≡ cond b (filter count cells) []
    go true = filter-append count cells (e ∷ [])
        ∙ ap (λ (zs : List Entry). filter count cells ++ zs) (filter-none count (e ∷ []) (all-one (λ d. count d ≡ false) e (counts-late (s / 60) mark last e.minute late)))
        ∙ append-nil (filter count cells)
    go false = refl

counts-more : (from mark last m d : ℕ) → d ≤ last → last < m → counts from mark m d ≡ counts from mark last d
counts-more from mark last m d h k = grind (arith, nat_tests)

counts-now : (from mark m d : ℕ) → d ≡ m → 1440 ≤ m → from ≤ m → mark < m → counts from mark m d ≡ true
counts-now from mark m d is day h k = grind (arith, nat_tests)

-- the entry of a minute is owed from its keeping on
pub owed-kept : (r : Row) (last m s mark : ℕ) (olds mine : List Entry) → r.cells ≡ olds ++ mine → All (λ e. e.minute ≤ last) olds → last < m → All (λ e. e.minute ≡ m) mine →
    (mine ≡ []) ⊎ ((is_session r.session s ≡ true) × (1440 ≤ m) × (s / 60 ≤ m) × (mark < m)) → owed_in r m s mark ≡ owed_in r last s mark ++ mine
owed-kept r last m s mark olds mine cells old late new fits = ap (λ (zs : List Entry). cond (is_session r.session s) (filter (count m) zs) []) cells
    ∙ go (is_session r.session s) fits
    ∙ ap (λ (zs : List Entry). cond (is_session r.session s) (filter (count last) zs) [] ++ mine) (sym cells)
  where
    from : ℕ
    from = s / 60

    count : ℕ → Entry → Bool
    count k d = counts (s / 60) mark k d.minute

    alike : filter (count m) olds ≡ filter (count last) olds
    alike = filter-alike (count m) (count last) olds (All-weaker (λ e. e.minute ≤ last) (λ e. count m e ≡ count last e) (λ e h. counts-more from mark last m e.minute h late) olds old)

    before : filter (count last) (olds ++ mine) ≡ filter (count last) olds
    before = filter-append (count last) olds mine
        ∙ ap (λ (zs : List Entry). filter (count last) olds ++ zs) (filter-none (count last) mine (All-weaker (λ e. e.minute ≡ m) (λ e. count last e ≡ false) (λ e is. counts-late from mark last e.minute (omega (arith, is, late))) mine new))
        ∙ append-nil (filter (count last) olds)

    counted : (mine ≡ []) ⊎ ((1440 ≤ m) × (from ≤ m) × (mark < m)) → filter (count m) mine ≡ mine
    counted (inl none) = ap (filter (count m)) none ∙ sym none
    counted (inr fit) = filter-whole (count m) mine (All-weaker (λ e. e.minute ≡ m) (λ e. count m e ≡ true) (λ e is. counts-now from mark m e.minute is fit.0 fit.1 fit.2) mine new)

    both : filter (count m) mine ≡ mine → filter (count m) (olds ++ mine) ≡ filter (count last) (olds ++ mine) ++ mine
    both whole = filter-append (count m) olds mine ∙ ap (λ (zs : List Entry). zs ++ filter (count m) mine) alike
        ∙ ap (λ (zs : List Entry). filter (count last) olds ++ zs) whole ∙ ap (λ (zs : List Entry). zs ++ mine) (sym before)

    go : (b : Bool) → (mine ≡ []) ⊎ ((b ≡ true) × (1440 ≤ m) × (from ≤ m) × (mark < m)) → cond b (filter (count m) (olds ++ mine)) [] ≡ cond b (filter (count last) (olds ++ mine)) [] ++ mine
    go true (inl none) = both (counted (inl none))
    go true (inr fit) = both (counted (inr (fit.1, fit.2, fit.3)))
    go false (inl none) = sym none
    go false (inr fit) = absurd (let no = fit.0 in grind (arith, no))

-- a later end mark takes away what is not later than it
counts-both : (from mark k last d : ℕ) → mark ≤ k → counts from k last d ≡ cond (nat_lt k d) (counts from mark last d) false
counts-both from mark k last d h = grind (arith, nat_tests)

pub owed-marked : (r : Row) (last s mark k : ℕ) → mark ≤ k → owed_in r last s k ≡ filter (λ e. nat_lt k e.minute) (owed_in r last s mark)
owed-marked r last s mark k h = go (is_session r.session s)
  where
    go : (b : Bool) → cond b (filter (λ d. counts (s / 60) k last d.minute) r.cells) [] ≡ filter (λ e. nat_lt k e.minute) (cond b (filter (λ d. counts (s / 60) mark last d.minute) r.cells) [])
    go true = filter-and (λ e. nat_lt k e.minute) (λ d. counts (s / 60) mark last d.minute) (λ d. counts (s / 60) k last d.minute) (λ e. counts-both (s / 60) mark k last e.minute h) r.cells
    go false = refl

not-later : (k d : ℕ) → d ≤ k → nat_lt k d ≡ false
not-later k d h = grind (arith, nat_tests)

is-later : (k d : ℕ) → k < d → nat_lt k d ≡ true
is-later k d h = grind (arith, nat_tests)

-- after some of what is owed is on the card, the rest is owed
pub owed-moved : (r : Row) (last s mark k n : ℕ) → mark ≤ k → All (λ e. e.minute ≤ k) (take n (owed_in r last s mark)) → All (λ e. k < e.minute) (drop n (owed_in r last s mark)) →
    owed_in r last s k ≡ drop n (owed_in r last s mark)
owed-moved r last s mark k n h held lacked =
    owed-marked r last s mark k h
    ∙ filter-cut (λ e. nat_lt k e.minute) n (owed_in r last s mark)
    (All-weaker (λ e. e.minute ≤ k) (λ e. nat_lt k e.minute ≡ false) (λ e le. not-later k e.minute le) (take n (owed_in r last s mark)) held)
    (All-weaker (λ e. k < e.minute) (λ e. nat_lt k e.minute ≡ true) (λ e lt. is-later k e.minute lt) (drop n (owed_in r last s mark)) lacked)

-- where nothing is owed, a later end mark changes nothing
pub owed-still : (r : Row) (last s mark k : ℕ) → mark ≤ k → owed_in r last s mark ≡ [] → owed_in r last s k ≡ []
owed-still r last s mark k h none = owed-marked r last s mark k h ∙ ap (filter (λ e. nat_lt k e.minute)) none

counts-settled : (from mark last d : ℕ) → counts from mark last d ≡ true → nat_le d last ≡ true
counts-settled from mark last d is = grind (arith, nat_tests)

-- what mending leaves is owed as before
pub owed-mended : (r t : Row) (last s mark : ℕ) → t.session ≡ r.session → settled_cells last t ≡ settled_cells last r → owed_in t last s mark ≡ owed_in r last s mark
owed-mended r t last s mark session cells =
    ap (λ (n : ℕ). cond (is_session n s) (filter (λ d. counts (s / 60) mark last d.minute) t.cells) []) session
    ∙ ap (λ (zs : List Entry). cond (is_session r.session s) zs []) (sym (settled t) ∙ ap (filter (λ (d : Entry). counts (s / 60) mark last d.minute)) cells ∙ settled r)
  where
    settled : (r : Row) → filter (λ d. counts (s / 60) mark last d.minute) (settled_cells last r) ≡ filter (λ d. counts (s / 60) mark last d.minute) r.cells
    settled r = filter-weaker (λ d. counts (s / 60) mark last d.minute) (λ e. nat_le e.minute last) (λ e is. counts-settled (s / 60) mark last e.minute is) r.cells

-- nothing is owed to a session that began after the last-kept minute
counts-before : (from mark last d : ℕ) → last < from → counts from mark last d ≡ false
counts-before from mark last d h = grind (arith, nat_tests)

pub owed-new : (r : Row) (last now mark : ℕ) → last < now / 60 → owed_in r last now mark ≡ []
owed-new r last now mark late = go (is_session r.session now)
  where
    go : (b : Bool) → cond b (filter (λ d. counts (now / 60) mark last d.minute) r.cells) [] ≡ []
    go true = filter-none (λ d. counts (now / 60) mark last d.minute) r.cells (λ k d lt. counts-before (now / 60) mark last _ late)
    go false = refl

-- or where no session is open
no_session : (s : ℕ) → is_session s 0 ≡ false
no_session s = grind (arith, nat_tests)

pub owed-closed : (r : Row) (last mark : ℕ) → owed_in r last 0 mark ≡ []
owed-closed r last mark = ap (λ b. cond b (filter (λ (d : Entry). counts (0 / 60) mark last d.minute) r.cells) []) (no_session r.session)

-- what is owed is later than the end mark
pub owed-later : (r : Row) (last s mark : ℕ) → filter (λ e. nat_lt mark e.minute) (owed_in r last s mark) ≡ owed_in r last s mark
owed-later r last s mark = sym (owed-marked r last s mark mark (omega arith))

-- ROWS
pub row-with : (c : Card) (r : Row) (u : UnitView) → row c (with_row c r u) ≡ r
row-with A r u = refl
row-with B r u = refl

pub row-other : (c : Card) (r : Row) (u : UnitView) → row (other c) (with_row c r u) ≡ row (other c) u
row-other A r u = refl
row-other B r u = refl

pub last-with : (c : Card) (r : Row) (u : UnitView) → (with_row c r u).last ≡ u.last
last-with A r u = refl
last-with B r u = refl

pub days-with : (c : Card) (r : Row) (u : UnitView) → (with_row c r u).days ≡ u.days
days-with A r u = refl
days-with B r u = refl

pub row-same : (c : Card) (u v : UnitView) → SameRows u v → row c v ≡ row c u
row-same A u v same = same.row_a
row-same B u v same = same.row_b

-- where the row and the last-kept minute stay
pub owed-beside : (c : Card) (u v : UnitView) (x : CardView) → v.last ≡ u.last → row c v ≡ row c u → owed c v x ≡ owed c u x
owed-beside c u v x last same = ap (λ (k : ℕ). owed_in (row c v) k x.session x.mark) last ∙ ap (λ (r : Row). owed_in r u.last x.session x.mark) same

pub owed-put : (c : Card) (e : Entry) (u v : UnitView) (x : CardView) → IsPutting c e u v → u.last < e.minute → All (λ d. e.minute < d.minute + 4) (owed c u x) → owed c v x ≡ owed c u x
owed-put c e u v x (inl is) late near = ap (λ (w : UnitView). owed c w x) is
owed-put c e u v x (inr (inl is)) late near =
    ap (λ (w : UnitView). owed c w x) is
    ∙ ap (λ (r : Row). owed_in r (with_row c (cleared e (row c u)) u).last x.session x.mark) (row-with c (cleared e (row c u)) u)
    ∙ ap (λ (k : ℕ). owed_in (cleared e (row c u)) k x.session x.mark) (last-with c (cleared e (row c u)) u)
    ∙ owed-cleared e (row c u) u.last x.session x.mark late near
owed-put c e u v x (inr (inr is)) late near =
    ap (λ (w : UnitView). owed c w x) is
    ∙ ap (λ (r : Row). owed_in r (with_row c (owing e (row c u)) u).last x.session x.mark) (row-with c (owing e (row c u)) u)
    ∙ ap (λ (k : ℕ). owed_in (owing e (row c u)) k x.session x.mark) (last-with c (owing e (row c u)) u)
    ∙ owed-owing e (row c u) u.last x.session x.mark late near

pub owed-mend : (c : Card) (u v : UnitView) (x : CardView) → IsMending u v → owed c v x ≡ owed c u x
owed-mend c u v x m = ap (λ (k : ℕ). owed_in (row c v) k x.session x.mark) m.last ∙ owed-mended (row c u) (row c v) u.last x.session x.mark (m.session c) (m.cells c)

positive : (s : ℕ) → nat_lt 0 (suc s) ≡ true
positive s = let h : 0 < suc s = omega arith in grind (arith, nat_tests, h)

-- what is owed is replayed whole
pub replayed-owed : (c : Card) (u : UnitView) (x : CardView) → replayed (owed c u x) x ≡ owed c u x
replayed-owed c u x = go x.session
  where
    go : (s : ℕ) → cond (nat_lt 0 s) (filter (λ e. nat_lt x.mark e.minute) (owed_in (row c u) u.last s x.mark)) [] ≡ owed_in (row c u) u.last s x.mark
    go zero = sym (owed-closed (row c u) u.last x.mark)
    go (suc s) = ap (λ b. cond b (filter (λ e. nat_lt x.mark e.minute) (owed_in (row c u) u.last (suc s) x.mark)) []) (positive s) ∙ owed-later (row c u) u.last (suc s) x.mark

module _ (Adds : ℕ → Held → List Entry → Held → Type 0) where
  pub owed-insert : (c : Card) (now : ℕ) (u : UnitView) (x y : CardView) (i : IsInserting Adds (owed c u x) now x y) → u.last < now / 60 → owed c u y ≡ drop i.count (owed c u x)
  owed-insert c now u x y i late = ⊎_elim same other i.session
    where
      all_of : replayed (owed c u x) x ≡ owed c u x
      all_of = replayed-owed c u x

      same : y.session ≡ x.session → owed c u y ≡ drop i.count (owed c u x)
      same is = ap (λ (s : ℕ). owed_in (row c u) u.last s y.mark) is
          ∙ owed-moved (row c u) u.last x.session x.mark y.mark i.count i.mark
          (subst (λ (zs : List Entry). All (λ e. e.minute ≤ y.mark) (take i.count zs)) all_of i.reached)
          (subst (λ (zs : List Entry). All (λ e. y.mark < e.minute) (drop i.count zs)) all_of i.lacked)

      other : (drop i.count (replayed (owed c u x) x) ≡ []) × ((y.session ≡ 0) ⊎ (y.session ≡ now)) → owed c u y ≡ drop i.count (owed c u x)
      other two = ⊎_elim
          (λ is. ap (λ (s : ℕ). owed_in (row c u) u.last s y.mark) is ∙ owed-closed (row c u) u.last y.mark)
          (λ is. ap (λ (s : ℕ). owed_in (row c u) u.last s y.mark) is ∙ owed-new (row c u) u.last now y.mark late) two.1
          ∙ sym (sym (ap (drop i.count) all_of) ∙ two.0)

  pub owed-close : (c : Card) (u : UnitView) (x y : CardView) → IsClosing Adds x y → owed c u x ≡ [] → owed c u y ≡ []
  owed-close c u x y closing none = ⊎_elim
      (λ is. ap (λ (s : ℕ). owed_in (row c u) u.last s y.mark) is ∙ owed-still (row c u) u.last x.session x.mark y.mark closing.mark none)
      (λ is. ap (λ (s : ℕ). owed_in (row c u) u.last s y.mark) is ∙ owed-closed (row c u) u.last y.mark) closing.session
