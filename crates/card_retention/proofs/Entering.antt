-- An entry that is kept: the days that are shown after it are those expected with it.
use Rattle.std.proofs.Common.{◌≡◌, inl, inr, ⊎_elim, ℕ, suc, ◌+◌, ◌-◌, ◌*◌, ◌/◌, ◌%◌, ◌<◌, ◌≤◌, Bool, true, false, cond, not, ◌&&◌, Option, Some, None, List, [], ◌∷◌, ◌++◌, length, refl, sym, ◌∙◌, ap, subst, arith}
use Rattle.std.specs.Prelude.{nat_eq, nat_lt, nat_le}
use Rattle.std.proofs.lemmas.Bool.{eqb-true, lt-ltb, le-ltb}
use Rattle.std.proofs.lemmas.Bool.Decides.{nat_tests}
use Rattle.activity_codec.specs.declared.entries.Entry.{Entry}
use Rattle.activity_codec.specs.declared.values.Slot.{Slot}
use Rattle.activity_codec.specs.declared.values.Slot.TheVariants.{Driver, CoDriver}
use Rattle.activity_codec.specs.declared.values.Activity.{Activity}
use Rattle.activity_codec.specs.declared.values.Activity.TheVariants as activity
use Rattle.activity_codec.specs.Activity.{same_slot, same_activity}
use Rattle.activity_codec.specs.Words.{slot_number, activity_number, bit, word_absent}
use Rattle.card_model.specs.Days.{Day, total, AreDays, last_word}
use Rattle.card_model.specs.Changes.{fitting, with_newest, with_word, new_day, OnNewest, date_of}
use Rattle.card_retention.specs.Expected.{WordDay, more, is_newest, same_bool, goes_on, is_closed, closes, first_words, adds, Counted, with_entry, expected_days}
use Rattle.card_retention.specs.Shown.{Covers, Bound, InDays, AllIn, AllUpTo, Shows, Left, Rising, Fits, AllBefore, Filled, sizes, size_day, entry_state, is_open, owing, TellsIn, Tells, Rests, with_closing, Entered, Entered.Same, Entered.Word, Entered.Begun}
use Rattle.card_model.proofs.Retention.{remain_fitting}
use Rattle.card_retention.proofs.Growing.{shows_more, shows_word, shows_day, shows_again, shows_left, left_more, left_newest, left_of, sizes_word, sizes_append}

pub both : (a b : Bool) → a && b ≡ true → (a ≡ true) × (b ≡ true)
both true true e = (refl, refl)
both true false e = absurd (cc)
both false b e = absurd (cc)

-- THE STATE of two entries that are alike
slots : (a b : Slot) → same_slot a b ≡ true → slot_number a ≡ slot_number b
slots Driver Driver e = refl
slots CoDriver CoDriver e = refl
slots Driver CoDriver e = absurd (cc)
slots CoDriver Driver e = absurd (cc)

acts : (a b : Activity) → same_activity a b ≡ true → activity_number a ≡ activity_number b
acts activity.Rest activity.Rest e = refl
acts activity.Available activity.Available e = refl
acts activity.Work activity.Work e = refl
acts activity.Driving activity.Driving e = refl
acts activity.Rest activity.Available e = absurd (cc)
acts activity.Rest activity.Work e = absurd (cc)
acts activity.Rest activity.Driving e = absurd (cc)
acts activity.Available activity.Rest e = absurd (cc)
acts activity.Available activity.Work e = absurd (cc)
acts activity.Available activity.Driving e = absurd (cc)
acts activity.Work activity.Rest e = absurd (cc)
acts activity.Work activity.Available e = absurd (cc)
acts activity.Work activity.Driving e = absurd (cc)
acts activity.Driving activity.Rest e = absurd (cc)
acts activity.Driving activity.Available e = absurd (cc)
acts activity.Driving activity.Work e = absurd (cc)

crews : (a b : Bool) → same_bool a b ≡ true → bit a ≡ bit b
crews true true e = refl
crews false false e = refl
crews true false e = absurd (cc)
crews false true e = absurd (cc)

pub record Follows (before : Option Entry) (e : Entry) : Type 0 where
  pub p : Entry
  pub is : before ≡ Some p
  pub minute : suc p.minute ≡ e.minute
  pub state : entry_state p ≡ entry_state e

pub follows : (before : Option Entry) (e : Entry) → goes_on before e ≡ true → Follows before e
follows None e on = absurd (cc)
follows (Some p) e on =
    let one = both (nat_eq (suc p.minute) e.minute) (same_slot p.slot e.slot && (same_activity p.act e.act && same_bool p.crew e.crew)) on in
    let two = both (same_slot p.slot e.slot) (same_activity p.act e.act && same_bool p.crew e.crew) one.1 in
    let three = both (same_activity p.act e.act) (same_bool p.crew e.crew) two.1 in
    let a = slots p.slot e.slot two.0 in
    let b = acts p.act e.act three.0 in
    let d = crews p.crew e.crew three.1 in
    record { p = p; is = refl; minute = eqb-true (suc p.minute) e.minute one.0; state = omega (arith, a, b, d) }

-- LISTS OF DAYS in order
pub before_more : (k : ℕ) (ws : List WordDay) → AllBefore k ws → AllBefore k (more ws)
before_more k [] b = tt
before_more k (w ∷ []) b = (b.0, tt)
before_more k (w ∷ x ∷ ws) b = (b.0, before_more k (x ∷ ws) b.1)

pub before_later : (k l : ℕ) (ws : List WordDay) → k ≤ l → AllBefore k ws → AllBefore l ws
before_later k l [] le b = tt
before_later k l (w ∷ ws) le b = (omega (arith, le, b.0), before_later k l ws le b.1)

pub rising_more : (ws : List WordDay) → Rising ws → Rising (more ws)
rising_more [] r = tt
rising_more (w ∷ []) r = tt
rising_more (w ∷ x ∷ []) r = (r.0, tt)
rising_more (w ∷ x ∷ y ∷ ws) r = (r.0, rising_more (x ∷ y ∷ ws) r.1)

filled_more : (ws : List WordDay) → Filled ws → Filled (more ws)
filled_more [] f = tt
filled_more (w ∷ []) f = (omega (arith, f.0), tt)
filled_more (w ∷ x ∷ ws) f = (f.0, filled_more (x ∷ ws) f.1)

pub newest_more : (k : ℕ) (ws : List WordDay) → is_newest k (more ws) ≡ is_newest k ws
newest_more k [] = refl
newest_more k (w ∷ []) = refl
newest_more k (w ∷ x ∷ []) = refl
newest_more k (w ∷ x ∷ y ∷ ws) = newest_more k (x ∷ y ∷ ws)

-- where the newest is not this day, each is before it
pub before_newest : (k : ℕ) (ws : List WordDay) → Rising ws → AllBefore (suc k) ws → is_newest k ws ≡ false → AllBefore k ws
before_newest k [] r b is = tt
before_newest k (w ∷ []) r b is = (not_it w.day k b.0 is, tt)
  where
    not_it : (m k : ℕ) → m < suc k → nat_eq m k ≡ false → m < k
    not_it m k lt is = grind (arith, nat_tests)
before_newest k (w ∷ x ∷ ws) r b is = let rest = before_newest k (x ∷ ws) r.1 b.1 is in (omega (arith, r.0, rest.0), rest)

pub before_not : (k : ℕ) (ws : List WordDay) → AllBefore k ws → is_newest k ws ≡ true → ⊥
before_not k [] b is = cc
before_not k (w ∷ []) b is = omega (arith, b.0, eqb-true w.day k is)
before_not k (w ∷ x ∷ ws) b is = before_not k (x ∷ ws) b.1 is

-- what is covered lies before what all expected days lie before
covers_before : (k : ℕ) (ws ds : List WordDay) → AllBefore k ws → Covers ws ds → AllBefore k ds
covers_before k ws [] b c = tt
covers_before k [] (d ∷ ds) b c = absurd c
covers_before k (w ∷ ws) (d ∷ ds) b c = ⊎_elim
    (λ m. (omega (arith, b.0, m.0.day), covers_before k ws ds b.1 m.1))
    (λ m. covers_before k ws (d ∷ ds) b.1 m) c

pub before_back : (k : ℕ) (gone there : List WordDay) → AllBefore k (gone ++ there) → AllBefore k there
before_back k [] there b = b
before_back k (g ∷ gone) there b = before_back k gone there b.1

pub shows_before : (length : ℕ) (slack : Bound) (k : ℕ) (expected days : List WordDay) → AllBefore k expected → Shows length slack expected days → AllBefore k days
shows_before length slack k expected days b s = covers_before k s.there days (before_back k s.gone s.there (subst (λ (l : List WordDay). AllBefore k l) s.split b)) s.covers

-- the newest day that is shown is the newest expected one, where none is later
pub newest_shown : (length : ℕ) (slack : Bound) (k : ℕ) (expected days : List WordDay) → Rising expected → AllBefore (suc k) expected → is_newest k days ≡ true → Shows length slack expected days → is_newest k expected ≡ true
newest_shown length slack k expected days r b is s = by (is_newest k expected) refl
  where
    by : (a : Bool) → is_newest k expected ≡ a → is_newest k expected ≡ true
    by true e = e
    by false e = absurd (before_not k days (shows_before length slack k expected days (before_newest k expected r b e) s) is)

rising_append : (ws : List WordDay) (v : WordDay) → Rising ws → AllBefore v.day ws → Rising (ws ++ v ∷ [])
rising_append [] v r b = tt
rising_append (w ∷ []) v r b = (b.0, tt)
rising_append (w ∷ x ∷ ws) v r b = (r.0, rising_append (x ∷ ws) v r.1 b.1)

pub before_append : (k : ℕ) (ws : List WordDay) (v : WordDay) → AllBefore k ws → v.day < k → AllBefore k (ws ++ v ∷ [])
before_append k [] v b lt = (lt, tt)
before_append k (w ∷ ws) v b lt = (b.0, before_append k ws v b.1 lt)

filled_append : (ws : List WordDay) (v : WordDay) → Filled ws → 0 < v.words → Filled (ws ++ v ∷ [])
filled_append [] v f lt = (lt, tt)
filled_append (w ∷ ws) v f lt = (f.0, filled_append ws v f.1 lt)

newest_append : (k : ℕ) (ws : List WordDay) (v : WordDay) → v.day ≡ k → is_newest k (ws ++ v ∷ []) ≡ true
newest_append k [] v is = by v.day k is
  where
    by : (m k : ℕ) → m ≡ k → nat_eq m k ≡ true
    by m k is = grind (arith, nat_tests)
newest_append k (w ∷ []) v is = newest_append k [] v is
newest_append k (w ∷ x ∷ ws) v is = newest_append k (x ∷ ws) v is

pub before_left : (k room : ℕ) (ds kept : List WordDay) → Left room ds kept → AllBefore k ds → AllBefore k kept
before_left k room [] kept left b = subst (λ (l : List WordDay). AllBefore k l) (sym left) tt
before_left k room (d ∷ ds) kept left b = ⊎_elim (λ is. subst (λ (l : List WordDay). AllBefore k l) (sym is) b) (λ gone. before_left k room ds kept gone.1 b.1) left

-- THE STRING'S DAYS
pub rising_sizes : (date : ℕ) (days : List Day) → AreDays date days → Rising (sizes days)
rising_sizes date [] are = tt
rising_sizes date (d ∷ []) are = tt
rising_sizes date (d ∷ e ∷ ds) are = (omega (arith, are.2.0, are.1.midnight, are.2.1.midnight), rising_sizes d.date (e ∷ ds) are.2)

pub fits_sizes : (date room : ℕ) (days : List Day) → 2894 ≤ room → AreDays date days → (Fits room (sizes days)) × (Fits room (more (sizes days)))
fits_sizes date room [] le are = (tt, tt)
fits_sizes date room (d ∷ []) le are = (omega (arith, le, are.1.most), omega (arith, le, are.1.most))
fits_sizes date room (d ∷ e ∷ []) le are = fits_sizes d.date room (e ∷ []) le are.2
fits_sizes date room (d ∷ e ∷ f ∷ ds) le are = fits_sizes d.date room (e ∷ f ∷ ds) le are.2

tells_newest : (p : Entry) (days : List Day) → Tells p days → is_newest (p.minute / 1440) (sizes days) ≡ true
tells_newest p [] t = absurd t
tells_newest p (d ∷ []) t = by (d.date / 86400) (p.minute / 1440) (omega (arith, t.date))
  where
    by : (m k : ℕ) → m ≡ k → nat_eq m k ≡ true
    by m k is = grind (arith, nat_tests)
tells_newest p (d ∷ e ∷ ds) t = tells_newest p (e ∷ ds) t

tells_like : (p e : Entry) (days : List Day) → p.minute / 1440 ≡ e.minute / 1440 → entry_state p ≡ entry_state e → Tells p days → Tells e days
tells_like p e [] day state t = absurd t
tells_like p e (d ∷ []) day state t = record { date = t.date ∙ ap (λ (n : ℕ). n * 86400) day; state = t.state ∙ state }
tells_like p e (d ∷ f ∷ ds) day state t = tells_like p e (f ∷ ds) day state t

newest_one : (k l : ℕ) (ws : List WordDay) → is_newest k ws ≡ true → is_newest l ws ≡ true → k ≡ l
newest_one k l [] a b = absurd (cc)
newest_one k l (w ∷ []) a b = sym (eqb-true w.day k a) ∙ eqb-true w.day l b
newest_one k l (w ∷ x ∷ ws) a b = newest_one k l (x ∷ ws) a b

newest_low : (k l : ℕ) (ws : List WordDay) → AllBefore (suc l) ws → is_newest k ws ≡ true → k ≤ l
newest_low k l [] b a = absurd (cc)
newest_low k l (w ∷ []) b a = omega (arith, b.0, eqb-true w.day k a)
newest_low k l (w ∷ x ∷ ws) b a = newest_low k l (x ∷ ws) b.1 a

-- THE NEWEST DAY of the string
pub on_fitting : (P : Day → Type 0) (room : ℕ) (days : List Day) → Fits room (sizes days) → OnNewest P days → OnNewest P (fitting room days)
on_fitting P room [] fits on = absurd on
on_fitting P room (d ∷ []) fits on = ap_one (nat_le (total (d ∷ [])) room) (fits_all (total (d ∷ [])) room (omega (arith, fits)))
  where
    fits_all : (m n : ℕ) → m ≤ n → nat_le m n ≡ true
    fits_all m n le = grind (arith, nat_tests)

    ap_one : (b : Bool) → b ≡ true → OnNewest P (cond b (d ∷ []) [])
    ap_one true is = on
    ap_one false is = absurd (cc)
on_fitting P room (d ∷ e ∷ ds) fits on = by (nat_le (total (d ∷ e ∷ ds)) room) (on_fitting P room (e ∷ ds) fits on)
  where
    by : (b : Bool) → OnNewest P (fitting room (e ∷ ds)) → OnNewest P (cond b (d ∷ e ∷ ds) (fitting room (e ∷ ds)))
    by true rest = on
    by false rest = rest

pub on_word : (P Q : Day → Type 0) (w : ℕ) (days : List Day) → ((d : Day) → P d → Q (with_word w d)) → OnNewest P days → OnNewest Q (with_newest (with_word w) days)
on_word P Q w [] f on = absurd on
on_word P Q w (d ∷ []) f on = f d on
on_word P Q w (d ∷ e ∷ []) f on = f e on
on_word P Q w (d ∷ e ∷ g ∷ ds) f on = on_word P Q w (e ∷ g ∷ ds) f on

pub on_append : (P : Day → Type 0) (ds : List Day) (d : Day) → P d → OnNewest P (ds ++ d ∷ [])
on_append P [] d p = p
on_append P (e ∷ []) d p = p
on_append P (e ∷ f ∷ ds) d p = on_append P (f ∷ ds) d p

pub date_newest : (k date : ℕ) (days : List Day) → AreDays date days → is_newest k (sizes days) ≡ true → OnNewest (λ d. d.date ≡ k * 86400) days
date_newest k date [] are is = cc
date_newest k date (d ∷ []) are is = omega (arith, are.1.midnight, eqb-true (d.date / 86400) k is)
date_newest k date (d ∷ e ∷ ds) are is = date_newest k d.date (e ∷ ds) are.2 is

pub last_append : (ws : List ℕ) (w : ℕ) → last_word (ws ++ w ∷ []) ≡ w
last_append [] w = refl
last_append (v ∷ []) w = refl
last_append (v ∷ u ∷ ws) w = last_append (u ∷ ws) w

-- where the newest day is the mark's, a closing word lies in it
open_day : (p : Entry) (days : List Day) → Tells p days → is_open p.minute days ≡ true → nat_eq (suc p.minute % 1440) 0 ≡ false
open_day p [] t is = absurd t
open_day p (d ∷ []) t is = by (suc p.minute % 1440) (omega (arith, t.date, eqb-true d.date (date_of (suc p.minute)) (both (nat_eq d.date (date_of (suc p.minute))) (not (word_absent (last_word d.words))) is).0))
  where
    by : (m : ℕ) → 0 < m → nat_eq m 0 ≡ false
    by m lt = grind (arith, nat_tests)
open_day p (d ∷ e ∷ ds) t is = open_day p (e ∷ ds) t is

-- one entry more among all
abbrev pub with_all : Bound → Entry → Bound
with_all slack e = record { bytes = slack.bytes; all = slack.all ++ e ∷ [] }

up_to : (mark : ℕ) (e : Entry) → mark ≤ e.minute → (all : List Entry) → AllUpTo mark all → AllUpTo e.minute (all ++ e ∷ [])
up_to mark e le [] u = (omega arith, tt)
up_to mark e le (x ∷ all) u = (omega (arith, le, u.0), up_to mark e le all u.1)

newest_in : (k : ℕ) (ws : List WordDay) → is_newest k ws ≡ true → InDays k ws
newest_in k [] is = absurd (cc)
newest_in k (w ∷ []) is = inl (eqb-true w.day k is)
newest_in k (w ∷ x ∷ ws) is = inr (newest_in k (x ∷ ws) is)

shows_entry : (length : ℕ) (slack : Bound) (e : Entry) (expected days : List WordDay) → InDays (e.minute / 1440) days → Shows length slack expected days → Shows length (with_all slack e) expected days
shows_entry length slack e expected days there s = record { gone = s.gone; there = s.there; split = s.split; covers = s.covers; full = s.full; some = s.some; oldest = s.oldest; low = s.low; high = s.high; none = s.none; whole = by slack.all s.whole }
  where
    by : (all : List Entry) → AllIn s.oldest all days → AllIn s.oldest (all ++ e ∷ []) days
    by [] w = (λ _. there, tt)
    by (x ∷ all) w = (w.0, by all w.1)

-- the closing word of the one before
pub closes_is : (P : List WordDay → Type 0) (covered : ℕ) (before : Option Entry) (next : ℕ) (ws : List WordDay) → P ws → P (more ws) → P (closes covered before next ws)
closes_is P covered None next ws a b = a
closes_is P covered (Some p) next ws a b = by (is_closed covered p next)
  where
    by : (c : Bool) → P (cond c (more ws) ws)
    by true = b
    by false = a

module _ (size : ℕ) (slack : Bound) (covered from mark : ℕ) (c : Counted) (days : List Day) (r : Rests size slack covered from mark c days) (e : Entry) (later : from ≤ e.minute) (long : 5544 ≤ size) (least : 16 ≤ slack.bytes) where
  abbrev x : List WordDay
  x = expected_days covered e.minute c

  x_rising : Rising x
  x_rising = closes_is Rising covered c.before e.minute c.days r.rising (rising_more c.days r.rising)

  x_filled : Filled x
  x_filled = closes_is Filled covered c.before e.minute c.days r.filled (filled_more c.days r.filled)

  x_low : AllBefore (suc (r.top / 1440)) x
  x_low = closes_is (λ l. AllBefore (suc (r.top / 1440)) l) covered c.before e.minute c.days r.low (before_more (suc (r.top / 1440)) c.days r.low)

  x_before : AllBefore (suc (e.minute / 1440)) x
  x_before = before_later (suc (r.top / 1440)) (suc (e.minute / 1440)) x (omega (arith, r.next, later)) x_low

  -- the closing word of a gap is written
  pub closing_shows : (w : ℕ) → Shows size slack x (sizes (with_closing size w mark e.minute days))
  closing_shows w = by (is_open mark days && nat_lt (suc mark) e.minute) (r.shows e.minute later)
    where
      by : (b : Bool) → Shows size slack x (cond b (more (sizes days)) (sizes days)) → Shows size slack x (sizes (cond b (with_newest (with_word w) (fitting (size - 2) days)) days))
      by true s = subst (λ (l : List WordDay). Shows size slack x l) (sym (sizes_word w (fitting (size - 2) days)))
          (shows_left size slack (size - 2) x (more (sizes days)) (more (sizes (fitting (size - 2) days))) (omega (arith, long, least)) (fits_sizes 0 (size - 2) days (omega (arith, long)) r.ordered).1
          (left_more (size - 2) (sizes days) (sizes (fitting (size - 2) days)) (left_of (size - 2) days (fitting (size - 2) days) (remain_fitting (size - 2) days))) x_rising s)
      by false s = s

  fitting_newest : (room k : ℕ) (ds : List Day) → 2894 ≤ room → AreDays 0 ds → is_newest k (sizes (fitting room ds)) ≡ is_newest k (sizes ds)
  fitting_newest room k ds le are = left_newest room k (sizes ds) (sizes (fitting room ds)) (fits_sizes 0 room ds le are).0 (left_of room ds (fitting room ds) (remain_fitting room ds))

  closing_newest : (w k : ℕ) → is_newest k (sizes (with_closing size w mark e.minute days)) ≡ is_newest k (sizes days)
  closing_newest w k = by (is_open mark days && nat_lt (suc mark) e.minute)
    where
      by : (b : Bool) → is_newest k (sizes (cond b (with_newest (with_word w) (fitting (size - 2) days)) days)) ≡ is_newest k (sizes days)
      by true = ap (λ (l : List WordDay). is_newest k l) (sizes_word w (fitting (size - 2) days)) ∙ newest_more k (sizes (fitting (size - 2) days)) ∙ fitting_newest (size - 2) k days (omega (arith, long)) r.ordered
      by false = refl

  -- where an entry goes on, the newest day tells its state
  goes : goes_on c.before e ≡ true → (p : Entry) × (Tells p days) × (suc mark ≡ e.minute) × (p.minute ≡ r.top) × (entry_state p ≡ entry_state e) × (suc p.minute ≡ e.minute)
  goes on =
      let f = follows c.before e on in
      let b = r.entry f.p f.is in
      let at_top : f.p.minute ≡ r.top = omega (arith, f.minute, b.0, r.next, later) in
      (f.p, r.tells f.p f.is at_top, omega (arith, f.minute, b.1, r.later, later), at_top, f.state, f.minute)

  no_gap : (w : ℕ) → suc mark ≡ e.minute → with_closing size w mark e.minute days ≡ days
  no_gap w is = ap (λ (b : Bool). cond b (with_newest (with_word w) (fitting (size - 2) days)) days) (none (is_open mark days) (nat_lt (suc mark) e.minute) (le-ltb (suc mark) e.minute (omega (arith, is))))
    where
      none : (a b : Bool) → b ≡ false → a && b ≡ false
      none true b is = is
      none false b is = refl

  few_first : first_words e.minute ≤ 2
  few_first = by (nat_eq (e.minute % 1440) 0)
    where
      by : (b : Bool) → cond b 1 2 ≤ 2
      by true = omega arith
      by false = omega arith

  -- the entry's day is begun behind days that are shown, none of which is its day
  pub begins : (rest : List WordDay) (d : WordDay) → d.day ≡ e.minute / 1440 → d.words ≤ first_words e.minute → AllBefore (e.minute / 1440) rest → is_newest (e.minute / 1440) (sizes days) ≡ false
      → Shows size slack x rest → Shows size slack (adds c.before e x) (rest ++ d ∷ [])
  begins rest d day words before none s = by (is_newest (e.minute / 1440) x) refl
    where
      old : is_newest (e.minute / 1440) x ≡ true → goes_on c.before e ≡ true → ⊥
      old newest_x on =
          let g = goes on in
          let low : e.minute / 1440 ≤ r.top / 1440 = newest_low (e.minute / 1440) (r.top / 1440) x x_low newest_x in
          let one : g.0.minute / 1440 ≡ e.minute / 1440 = omega (arith, low, g.3, g.5) in
          nothing (sym none ∙ subst (λ (k : ℕ). is_newest k (sizes days) ≡ true) one (tells_newest g.0 days g.1))
        where
          nothing : false ≡ true → ⊥
          nothing e = cc

      by : (a : Bool) → is_newest (e.minute / 1440) x ≡ a → Shows size slack (adds c.before e x) (rest ++ d ∷ [])
      by true is = again (goes_on c.before e) refl
        where
          again : (g : Bool) → goes_on c.before e ≡ g → Shows size slack (adds c.before e x) (rest ++ d ∷ [])
          again true on = absurd (old is on)
          again false on = rw (is, on) (shows_again size slack x rest d x_rising x_filled (subst (λ (k : ℕ). is_newest k x ≡ true) (sym day) is) (subst (λ (k : ℕ). AllBefore k rest) (sym day) before) (omega (arith, words, few_first)) s)
      by false is = rw is (shows_day size slack x rest (record { day = e.minute / 1440; words = first_words e.minute }) d (record { day = day; words = words }) (before_newest (e.minute / 1440) x x_rising x_before is) s)

  module _ (w : ℕ) (are : AreDays 0 (with_closing size w mark e.minute days)) where
    abbrev closed : List Day
    closed = with_closing size w mark e.minute days

    abbrev day : ℕ
    day = e.minute / 1440

    abbrev young : List ℕ → WordDay
    young words = record { day = e.minute / 1440; words = length words }

    -- the words of the entry
    pub entered_shows : (after : List Day) → Entered size e closed after → Shows size slack (adds c.before e x) (sizes after)
    entered_shows after (Same newest tells) = same_day (goes_on c.before e) refl
      where
        newest_x : is_newest day x ≡ true
        newest_x = newest_shown size slack day x (sizes closed) x_rising x_before newest (closing_shows w)

        same_day : (g : Bool) → goes_on c.before e ≡ g → Shows size slack (adds c.before e x) (sizes closed)
        same_day g is = rw (newest_x, is) (by g)
          where
            by : (g : Bool) → Shows size slack (cond g x (more x)) (sizes closed)
            by true = closing_shows w
            by false = shows_more size slack x (sizes closed) (closing_shows w)
    entered_shows after (Word v newest new state minute) = on_day (goes_on c.before e) refl
      where
        newest_x : is_newest day x ≡ true
        newest_x = newest_shown size slack day x (sizes closed) x_rising x_before newest (closing_shows w)

        kept_shows : Shows size slack x (sizes (fitting (size - 2) closed))
        kept_shows = shows_left size slack (size - 2) x (sizes closed) (sizes (fitting (size - 2) closed)) (omega (arith, long, least)) (fits_sizes 0 (size - 2) closed (omega (arith, long)) are).0
            (left_of (size - 2) closed (fitting (size - 2) closed) (remain_fitting (size - 2) closed)) x_rising (closing_shows w)

        kept_newest : is_newest day (sizes (fitting (size - 2) closed)) ≡ true
        kept_newest = fitting_newest (size - 2) day closed (omega (arith, long)) are ∙ newest

        old : goes_on c.before e ≡ true → ⊥
        old on =
            let g = goes on in
            let same : closed ≡ days = no_gap w g.2 in
            let one : g.0.minute / 1440 ≡ e.minute / 1440 = newest_one (g.0.minute / 1440) (e.minute / 1440) (sizes days) (tells_newest g.0 days g.1) (subst (λ (l : List Day). is_newest (e.minute / 1440) (sizes l) ≡ true) same newest) in
            new (subst (λ (l : List Day). Tells e l) (sym same) (tells_like g.0 e days one g.4 g.1))

        on_day : (g : Bool) → goes_on c.before e ≡ g → Shows size slack (adds c.before e x) (sizes (with_newest (with_word v) (fitting (size - 2) closed)))
        on_day true is = absurd (old is)
        on_day false is = rw (newest_x, is) (subst (λ (l : List WordDay). Shows size slack (more x) l) (sym (sizes_word v (fitting (size - 2) closed)))
            (shows_word size slack day x (sizes (fitting (size - 2) closed)) x_rising newest_x kept_newest kept_shows))
    entered_shows after (Begun words newest count state minute) = begun
      where
        few : (length words ≤ 2)
        few = by (nat_eq (e.minute % 1440) 0) count
          where
            by : (b : Bool) → length words ≡ cond b 1 2 → length words ≤ 2
            by true is = omega (arith, is)
            by false is = omega (arith, is)

        is_new : size_day (new_day closed (date_of e.minute) words) ≡ young words
        is_new = ap (λ (n : ℕ). record { day = n; words = length words }) (omega arith)

        all_before : AllBefore day (sizes closed)
        all_before = before_newest day (sizes closed) (rising_sizes 0 closed are) (shows_before size slack (suc day) x (sizes closed) x_before (closing_shows w)) newest

        left : Left (size - (12 + 2 * length words)) (sizes closed) (sizes (fitting (size - (12 + 2 * length words)) closed))
        left = left_of (size - (12 + 2 * length words)) closed (fitting (size - (12 + 2 * length words)) closed) (remain_fitting (size - (12 + 2 * length words)) closed)

        kept_shows : Shows size slack x (sizes (fitting (size - (12 + 2 * length words)) closed))
        kept_shows = shows_left size slack (size - (12 + 2 * length words)) x (sizes closed) (sizes (fitting (size - (12 + 2 * length words)) closed)) (omega (arith, few, least)) (fits_sizes 0 (size - (12 + 2 * length words)) closed (omega (arith, long, few)) are).0 left x_rising (closing_shows w)

        together : (ws : List WordDay) → Shows size slack ws (sizes (fitting (size - (12 + 2 * length words)) closed) ++ young words ∷ []) → Shows size slack ws (sizes (fitting (size - (12 + 2 * length words)) closed ++ new_day closed (date_of e.minute) words ∷ []))
        together ws s = subst (λ (l : List WordDay). Shows size slack ws l) (sym (sizes_append (fitting (size - (12 + 2 * length words)) closed) (new_day closed (date_of e.minute) words ∷ []) ∙ ap (λ (d : WordDay). sizes (fitting (size - (12 + 2 * length words)) closed) ++ d ∷ []) is_new)) s

        begun : Shows size slack (adds c.before e x) (sizes (fitting (size - (12 + 2 * length words)) closed ++ new_day closed (date_of e.minute) words ∷ []))
        begun = together (adds c.before e x) (begins (sizes (fitting (size - (12 + 2 * length words)) closed)) (young words) refl (omega (arith, count))
            (before_left day (size - (12 + 2 * length words)) (sizes closed) (sizes (fitting (size - (12 + 2 * length words)) closed)) left all_before) (sym (closing_newest w day) ∙ newest) kept_shows)

    -- what is expected with the entry
    abbrev later_days : List WordDay
    later_days = adds c.before e x

    adds_is : (P : List WordDay → Type 0) → P x → P (more x) → (is_newest day x ≡ false → P (x ++ record { day = e.minute / 1440; words = first_words e.minute } ∷ [])) → P later_days
    adds_is P same one new = by (is_newest day x) refl
      where
        by : (a : Bool) → is_newest day x ≡ a → P (cond a (cond (goes_on c.before e) x (more x)) (x ++ record { day = e.minute / 1440; words = first_words e.minute } ∷ []))
        by true is = go (goes_on c.before e)
          where
            go : (g : Bool) → P (cond g x (more x))
            go true = same
            go false = one
        by false is = new is

    words_some : 0 < first_words e.minute
    words_some = by (nat_eq (e.minute % 1440) 0)
      where
        by : (b : Bool) → 0 < cond b 1 2
        by true = omega arith
        by false = omega arith

    later_newest : is_newest day later_days ≡ true
    later_newest = by (is_newest day x) refl
      where
        by : (a : Bool) → is_newest day x ≡ a → is_newest day (cond a (cond (goes_on c.before e) x (more x)) (x ++ record { day = e.minute / 1440; words = first_words e.minute } ∷ [])) ≡ true
        by true is = go (goes_on c.before e)
          where
            go : (g : Bool) → is_newest day (cond g x (more x)) ≡ true
            go true = is
            go false = newest_more day x ∙ is
        by false is = newest_append day x (record { day = e.minute / 1440; words = first_words e.minute }) refl

    later_rising : Rising later_days
    later_rising = adds_is Rising x_rising (rising_more x x_rising) (λ new. rising_append x (record { day = e.minute / 1440; words = first_words e.minute }) x_rising (before_newest day x x_rising x_before new))

    later_filled : Filled later_days
    later_filled = adds_is Filled x_filled (filled_more x x_filled) (λ new. filled_append x (record { day = e.minute / 1440; words = first_words e.minute }) x_filled words_some)

    later_low : AllBefore (suc (e.minute / 1440)) later_days
    later_low = adds_is (λ l. AllBefore (suc (e.minute / 1440)) l) x_before (before_more (suc day) x x_before)
        (λ new. before_append (suc day) x (record { day = e.minute / 1440; words = first_words e.minute }) x_before (omega arith))

    entered_tells : (after : List Day) → Entered size e closed after → Tells e after
    entered_tells after (Same newest tells) = tells
    entered_tells after (Word v newest new state minute) =
        on_word (λ d. d.date ≡ e.minute / 1440 * 86400) (TellsIn e) v (fitting (size - 2) closed) (λ d is. record { date = is; state = ap (λ (n : ℕ). n / 2048) (last_append d.words v) ∙ state })
        (on_fitting (λ d. d.date ≡ e.minute / 1440 * 86400) (size - 2) closed (fits_sizes 0 (size - 2) closed (omega (arith, long)) are).0 (date_newest day 0 closed are newest))
    entered_tells after (Begun words newest count state minute) =
        on_append (TellsIn e) (fitting (size - (12 + 2 * length words)) closed) (new_day closed (date_of e.minute) words) (record { date = refl; state = state })

    -- the mark moves to the entry's minute over days that tell the entry and are shown as expected with it
    pub marked_rests : (after : List Day) → AreDays 0 after → Tells e after → Shows size slack later_days (sizes after) → Rests size (with_all slack e) covered (suc e.minute) e.minute (with_entry covered c e) after
    marked_rests after ordered tells entered = record {
      ordered = ordered;
      rising = later_rising;
      filled = later_filled;
      top = e.minute;
      words = omega (arith, r.words, r.next, later);
      entry = λ p is. let same : e ≡ p = cc in let minute : e.minute ≡ p.minute = ap (λ (i : Entry). i.minute) same in (omega (arith, minute), omega (arith, minute));
      low = later_low;
      next = omega arith;
      later = omega arith;
      by_mark = up_to mark e (omega (arith, r.later, later)) slack.all r.by_mark;
      tells = λ p is at. let same : e ≡ p = cc in subst (λ (i : Entry). Tells i after) same tells;
      shows = by;
    }
      where
        after_newest : is_newest day (sizes after) ≡ true
        after_newest = tells_newest e after tells

        base : Shows size (with_all slack e) (adds c.before e x) (sizes after)
        base = shows_entry size slack e (adds c.before e x) (sizes after) (newest_in day (sizes after) after_newest) entered

        by : (n : ℕ) → suc e.minute ≤ n → Shows size (with_all slack e) (closes covered (Some e) n later_days) (owing n e.minute after)
        by n le = cases (is_open e.minute after) refl
          where
            cases : (o : Bool) → is_open e.minute after ≡ o → Shows size (with_all slack e) (closes covered (Some e) n later_days) (cond (o && nat_lt (suc e.minute) n) (more (sizes after)) (sizes after))
            cases false is = closes_is (λ l. Shows size (with_all slack e) l (sizes after)) covered (Some e) n later_days base (shows_more size (with_all slack e) later_days (sizes after) base)
            cases true is = rw (open_day e after tells is, lt-ltb covered (suc e.minute) (omega (arith, r.words, r.next, later))) (by_next (nat_lt (suc e.minute) n))
              where
                by_next : (l : Bool) → Shows size (with_all slack e) (cond l (more later_days) later_days) (cond l (more (sizes after)) (sizes after))
                by_next true = shows_word size (with_all slack e) day later_days (sizes after) later_rising later_newest after_newest base
                by_next false = base

    -- A KEEP, whole: the string with the entry's words, and the mark at its minute.
    pub kept_rests : (after : List Day) → AreDays 0 after → Entered size e closed after → Rests size (with_all slack e) covered (suc e.minute) e.minute (with_entry covered c e) after
    kept_rests after ordered entered = marked_rests after ordered (entered_tells after entered) (entered_shows after entered)
