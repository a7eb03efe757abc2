-- New words and days, fewer words, and drops of the string's own days.
use Rattle.std.proofs.Common.{◌≡◌, inl, inr, ⊎_elim, ℕ, ◌+◌, ◌-◌, ◌/◌, ◌<◌, ◌≤◌, true, false, List, [], ◌∷◌, ◌++◌, length, refl, sym, ◌∙◌, ap, subst, arith, append_assoc, length-append}
use Rattle.std.proofs.lemmas.Bool.{eqb-true}
use Rattle.card_model.specs.Days.{Day, total}
use Rattle.card_model.specs.Changes.{Remain, with_newest, with_word}
use Rattle.card_retention.specs.Expected.{WordDay, size_of, size_all, one_more, more, is_newest}
use Rattle.card_retention.specs.Shown.{Takes, Covers, IsFull, Bound, InDays, AllFrom, AllIn, Shows, Left, Grows, Rising, Fits, AllBefore, Filled, sizes, size_day}
use Rattle.activity_codec.specs.declared.entries.Entry.{Entry}
use Rattle.card_retention.proofs.Core.{not_empty, shows_less, full_more, grows_total, covers_more, rising_back}

-- FEWER WORDS, or fewer days at the new end
pub covers_fewer : (ws less ds : List WordDay) → Grows less ds → Covers ws ds → Covers ws less
covers_fewer [] [] ds g c = tt
covers_fewer (w ∷ ws) [] ds g c = tt
covers_fewer ws (l ∷ ls) [] g c = absurd g
covers_fewer [] (l ∷ ls) (d ∷ ds) g c = absurd c
covers_fewer (w ∷ ws) (l ∷ ls) (d ∷ ds) g c = ⊎_elim
    (λ m. inl (record { day = sym g.0 ∙ m.0.day; words = omega (arith, m.0.words, g.1) }, covers_fewer ws ls ds g.2 m.1))
    (λ m. inr (covers_fewer ws (l ∷ ls) (d ∷ ds) g m)) c

pub shows_fewer : (length : ℕ) (slack : Bound) (expected less days : List WordDay) → Grows less days → ((o : ℕ) → AllIn o slack.all days → AllIn o slack.all less) → Shows length slack expected days → Shows length slack expected less
shows_fewer length slack expected less days g still s = record { gone = s.gone; there = s.there; split = s.split; covers = covers_fewer s.there less days g s.covers; full = s.full; some = s.some; oldest = s.oldest; low = s.low; high = s.high; none = s.none; whole = still s.oldest s.whole }

-- THE NEWEST DAY of a list that has one
pub newest_above : (w x : WordDay) (ws : List WordDay) (k : ℕ) → Rising (w ∷ x ∷ ws) → is_newest k (x ∷ ws) ≡ true → w.day < k
newest_above w x [] k rising is = omega (arith, rising.0, eqb-true x.day k is)
newest_above w x (y ∷ ws) k rising is = omega (arith, rising.0, newest_above x y ws k rising.1 is)

pub newest_back : (k : ℕ) (gone : List WordDay) (d : WordDay) (there : List WordDay) → is_newest k (gone ++ d ∷ there) ≡ is_newest k (d ∷ there)
newest_back k [] d there = refl
newest_back k (g ∷ []) d there = refl
newest_back k (g ∷ h ∷ gone) d there = newest_back k (h ∷ gone) d there

pub more_back : (gone : List WordDay) (d : WordDay) (there : List WordDay) → more (gone ++ d ∷ there) ≡ gone ++ more (d ∷ there)
more_back [] d there = refl
more_back (g ∷ []) d there = refl
more_back (g ∷ h ∷ gone) d there = ap (λ (l : List WordDay). g ∷ l) (more_back (h ∷ gone) d there)

pub more_total : (d : WordDay) (ds : List WordDay) → size_all (more (d ∷ ds)) ≡ size_all (d ∷ ds) + 2
more_total d [] = omega arith
more_total d (e ∷ ds) = omega (arith, more_total e ds)

pub more_grows : (ws : List WordDay) → Grows ws (more ws)
more_grows [] = tt
more_grows (w ∷ []) = (refl, omega arith, tt)
more_grows (w ∷ x ∷ ws) = (refl, omega arith, more_grows (x ∷ ws))

pub grows_longer : (ws vs : List WordDay) → Grows ws (ws ++ vs)
grows_longer [] vs = tt
grows_longer (w ∷ ws) vs = (refl, omega arith, grows_longer ws vs)

-- what is covered leaves something there
there_is : (there : List WordDay) (d : WordDay) (ds : List WordDay) → Covers there (d ∷ ds) → (t : WordDay) × (ts : List WordDay) × (there ≡ t ∷ ts)
there_is [] d ds c = absurd c
there_is (t ∷ ts) d ds c = (t, ts, refl)

pub more_some : (d : WordDay) (ds : List WordDay) → more (d ∷ ds) ≡ [] → ⊥
more_some d [] e = not_empty (one_more d) [] e
more_some d (f ∷ ds) e = not_empty d (more (f ∷ ds)) e

-- numbers of days
pub in_more : (k : ℕ) (ds : List WordDay) → InDays k ds → InDays k (more ds)
in_more k [] i = i
in_more k (d ∷ []) i = i
in_more k (d ∷ e ∷ ds) i = ⊎_elim (λ a. inl a) (λ b. inr (in_more k (e ∷ ds) b)) i

pub in_front : (k : ℕ) (ds es : List WordDay) → InDays k ds → InDays k (ds ++ es)
in_front k [] es i = absurd i
in_front k (d ∷ ds) es i = ⊎_elim (λ a. inl a) (λ b. inr (in_front k ds es b)) i

pub from_more : (k : ℕ) (ws : List WordDay) → AllFrom k ws → AllFrom k (more ws)
from_more k [] f = tt
from_more k (w ∷ []) f = f
from_more k (w ∷ x ∷ ws) f = (f.0, from_more k (x ∷ ws) f.1)

pub from_append : (k : ℕ) (ws : List WordDay) (v : WordDay) → AllFrom k ws → k ≤ v.day → AllFrom k (ws ++ v ∷ [])
from_append k [] v f le = (le, tt)
from_append k (w ∷ ws) v f le = (f.0, from_append k ws v f.1 le)

pub still_in : (ds es : List WordDay) → ((k : ℕ) → InDays k ds → InDays k es) → (o : ℕ) (all : List Entry) → AllIn o all ds → AllIn o all es
still_in ds es f o [] w = tt
still_in ds es f o (e ∷ all) w = (λ from. f (e.minute / 1440) (w.0 from), still_in ds es f o all w.1)

-- ONE WORD MORE on the newest expected day
pub shows_more : (length : ℕ) (slack : Bound) (expected days : List WordDay) → Shows length slack expected days → Shows length slack (more expected) days
shows_more length slack expected days s = by s.there refl
  where
    by : (there : List WordDay) → s.there ≡ there → Shows length slack (more expected) days
    by [] is =
        let none : expected ≡ [] = s.split ∙ ap (λ (l : List WordDay). l ++ s.there) (s.some is) ∙ is in
        subst (λ (l : List WordDay). Shows length slack (more l) days) (sym none) (subst (λ (l : List WordDay). Shows length slack l days) none s)
    by (t ∷ ts) is =
        let whole : expected ≡ s.gone ++ t ∷ ts = s.split ∙ ap (λ (l : List WordDay). s.gone ++ l) is in
        record {
          gone = s.gone;
          there = more (t ∷ ts);
          split = ap more whole ∙ more_back s.gone t ts;
          covers = covers_more (t ∷ ts) (more (t ∷ ts)) days (more_grows (t ∷ ts)) (subst (λ (l : List WordDay). Covers l days) is s.covers);
          full = full_more length slack.bytes s.gone (t ∷ ts) (more (t ∷ ts)) (omega (arith, more_total t ts)) (subst (λ (l : List WordDay). IsFull length slack.bytes s.gone l) is s.full);
          some = λ none. absurd (more_some t ts none);
          oldest = s.oldest;
          low = s.low;
          high = from_more s.oldest (t ∷ ts) (subst (λ (l : List WordDay). AllFrom s.oldest l) is s.high);
          none = λ none. absurd (more_some t ts none);
          whole = s.whole;
        }

-- ONE WORD MORE on the newest day of both
covers_word : (ws ds : List WordDay) (k : ℕ) → Rising ws → is_newest k ws ≡ true → is_newest k ds ≡ true → Covers ws ds → Covers (more ws) (more ds)
covers_word ws [] k rising a b c = absurd (cc)
covers_word [] (d ∷ ds) k rising a b c = absurd c
covers_word (w ∷ []) (d ∷ []) k rising a b c = ⊎_elim (λ m. inl (record { day = m.0.day; words = omega (arith, m.0.words) }, tt)) (λ m. absurd m) c
covers_word (w ∷ []) (d ∷ e ∷ ds) k rising a b c = ⊎_elim (λ m. absurd m.1) (λ m. absurd m) c
covers_word (w ∷ x ∷ ws) (d ∷ []) k rising a b c = ⊎_elim
    (λ m. absurd (omega (arith, m.0.day, newest_above w x ws k rising a, eqb-true d.day k b)))
    (λ m. inr (covers_word (x ∷ ws) (d ∷ []) k rising.1 a b m)) c
covers_word (w ∷ x ∷ ws) (d ∷ e ∷ ds) k rising a b c = ⊎_elim
    (λ m. inl (m.0, covers_word (x ∷ ws) (e ∷ ds) k rising.1 a b m.1))
    (λ m. inr (covers_word (x ∷ ws) (d ∷ e ∷ ds) k rising.1 a b m)) c

pub shows_word : (length : ℕ) (slack : Bound) (k : ℕ) (expected days : List WordDay) → Rising expected → is_newest k expected ≡ true → is_newest k days ≡ true → Shows length slack expected days → Shows length slack (more expected) (more days)
shows_word length slack k expected [] rising a b s = absurd (cc)
shows_word length slack k expected (d ∷ ds) rising a b s =
    let t = there_is s.there d ds s.covers in
    let whole : expected ≡ s.gone ++ t.0 ∷ t.1 = s.split ∙ ap (λ (l : List WordDay). s.gone ++ l) t.2 in
    let newest : is_newest k (t.0 ∷ t.1) ≡ true = sym (newest_back k s.gone t.0 t.1) ∙ ap (λ (l : List WordDay). is_newest k l) (sym whole) ∙ a in
    record {
      gone = s.gone;
      there = more (t.0 ∷ t.1);
      split = ap more whole ∙ more_back s.gone t.0 t.1;
      covers = covers_word (t.0 ∷ t.1) (d ∷ ds) k (rising_back s.gone (t.0 ∷ t.1) (subst Rising whole rising)) newest b (subst (λ (l : List WordDay). Covers l (d ∷ ds)) t.2 s.covers);
      full = full_more length slack.bytes s.gone (t.0 ∷ t.1) (more (t.0 ∷ t.1)) (omega (arith, more_total t.0 t.1)) (subst (λ (l : List WordDay). IsFull length slack.bytes s.gone l) t.2 s.full);
      some = λ none. absurd (more_some t.0 t.1 none);
      oldest = s.oldest;
      low = s.low;
      high = from_more s.oldest (t.0 ∷ t.1) (subst (λ (l : List WordDay). AllFrom s.oldest l) t.2 s.high);
      none = λ none. absurd (more_some t.0 t.1 none);
      whole = still_in (d ∷ ds) (more (d ∷ ds)) (λ j i. in_more j (d ∷ ds) i) s.oldest slack.all s.whole;
    }

-- A NEW DAY of both
pub covers_day : (ws ds : List WordDay) (v d : WordDay) → Takes v d → Covers ws ds → Covers (ws ++ v ∷ []) (ds ++ d ∷ [])
covers_day [] [] v d t c = inl (t, tt)
covers_day [] (e ∷ ds) v d t c = absurd c
covers_day (w ∷ ws) [] v d t c = inr (covers_day ws [] v d t (covers_none ws))
  where
    covers_none : (ws : List WordDay) → Covers ws []
    covers_none [] = tt
    covers_none (w ∷ ws) = tt
covers_day (w ∷ ws) (e ∷ ds) v d t c = ⊎_elim (λ m. inl (m.0, covers_day ws ds v d t m.1)) (λ m. inr (covers_day ws (e ∷ ds) v d t m)) c

pub append_some : (ds : List WordDay) (d : WordDay) → ds ++ d ∷ [] ≡ [] → ⊥
append_some [] d e = not_empty d [] e
append_some (f ∷ ds) d e = not_empty f (ds ++ d ∷ []) e

pub shows_day : (length : ℕ) (slack : Bound) (expected days : List WordDay) (v d : WordDay) → Takes v d → AllBefore v.day expected → Shows length slack expected days → Shows length slack (expected ++ v ∷ []) (days ++ d ∷ [])
shows_day length slack expected days v d t before s = record {
  gone = s.gone;
  there = s.there ++ v ∷ [];
  split = ap (λ (l : List WordDay). l ++ v ∷ []) s.split ∙ append_assoc s.gone s.there (v ∷ []);
  covers = covers_day s.there days v d t s.covers;
  full = full_more length slack.bytes s.gone s.there (s.there ++ v ∷ []) (grows_total s.there (s.there ++ v ∷ []) (grows_longer s.there (v ∷ []))) s.full;
  some = λ none. absurd (append_some s.there v none);
  oldest = s.oldest;
  low = s.low;
  high = from_append s.oldest s.there v s.high (by s.there s.none s.high (before_there s.gone s.there (subst (λ (l : List WordDay). AllBefore v.day l) s.split before)));
  none = λ none. absurd (append_some s.there v none);
  whole = still_in days (days ++ d ∷ []) (λ j i. in_front j days (d ∷ []) i) s.oldest slack.all s.whole;
}
  where
    before_there : (gone there : List WordDay) → AllBefore v.day (gone ++ there) → AllBefore v.day there
    before_there [] there b = b
    before_there (g ∷ gone) there b = before_there gone there b.1

    by : (there : List WordDay) → (there ≡ [] → s.oldest ≡ 0) → AllFrom s.oldest there → AllBefore v.day there → s.oldest ≤ v.day
    by [] none high before = omega (arith, none refl)
    by (t ∷ ts) none high before = omega (arith, high.0, before.0)

-- A DAY BEGUN AGAIN, which is expected already and not there
covers_again : (ws ds : List WordDay) (d : WordDay) → Rising ws → Filled ws → is_newest d.day ws ≡ true → AllBefore d.day ds → d.words ≤ 2 → Covers ws ds → Covers (more ws) (ds ++ d ∷ [])
covers_again [] [] d rising filled a before two c = absurd (cc)
covers_again [] (e ∷ ds) d rising filled a before two c = absurd c
covers_again (w ∷ []) [] d rising filled a before two c = inl (record { day = sym (eqb-true w.day d.day a); words = omega (arith, filled.0) }, tt)
covers_again (w ∷ []) (e ∷ ds) d rising filled a before two c = ⊎_elim (λ m. absurd (omega (arith, before.0, m.0.day, eqb-true w.day d.day a))) (λ m. absurd m) c
covers_again (w ∷ x ∷ ws) [] d rising filled a before two c = inr (covers_again (x ∷ ws) [] d rising.1 filled.1 a before two (tt))
covers_again (w ∷ x ∷ ws) (e ∷ ds) d rising filled a before two c = ⊎_elim
    (λ m. inl (m.0, covers_again (x ∷ ws) ds d rising.1 filled.1 a before.1 two m.1))
    (λ m. inr (covers_again (x ∷ ws) (e ∷ ds) d rising.1 filled.1 a before two m)) c

filled_back : (gone there : List WordDay) → Filled (gone ++ there) → Filled there
filled_back [] there f = f
filled_back (g ∷ gone) there f = filled_back gone there f.1

pub shows_again : (length : ℕ) (slack : Bound) (expected days : List WordDay) (d : WordDay) → Rising expected → Filled expected → is_newest d.day expected ≡ true → AllBefore d.day days → d.words ≤ 2 → Shows length slack expected days → Shows length slack (more expected) (days ++ d ∷ [])
shows_again length slack expected days d rising filled a before two s = by s.there refl
  where
    by : (there : List WordDay) → s.there ≡ there → Shows length slack (more expected) (days ++ d ∷ [])
    by [] is =
        let none : expected ≡ [] = s.split ∙ ap (λ (l : List WordDay). l ++ s.there) (s.some is) ∙ is in
        absurd (nothing (ap (λ (l : List WordDay). is_newest d.day l) (sym none) ∙ a))
      where
        nothing : false ≡ true → ⊥
        nothing e = cc
    by (t ∷ ts) is =
        let whole : expected ≡ s.gone ++ t ∷ ts = s.split ∙ ap (λ (l : List WordDay). s.gone ++ l) is in
        record {
          gone = s.gone;
          there = more (t ∷ ts);
          split = ap more whole ∙ more_back s.gone t ts;
          covers = covers_again (t ∷ ts) days d (rising_back s.gone (t ∷ ts) (subst Rising whole rising)) (filled_back s.gone (t ∷ ts) (subst Filled whole filled))
              (sym (newest_back d.day s.gone t ts) ∙ ap (λ (l : List WordDay). is_newest d.day l) (sym whole) ∙ a) before two (subst (λ (l : List WordDay). Covers l days) is s.covers);
          full = full_more length slack.bytes s.gone (t ∷ ts) (more (t ∷ ts)) (omega (arith, more_total t ts)) (subst (λ (l : List WordDay). IsFull length slack.bytes s.gone l) is s.full);
          some = λ none. absurd (more_some t ts none);
          oldest = s.oldest;
          low = s.low;
          high = from_more s.oldest (t ∷ ts) (subst (λ (l : List WordDay). AllFrom s.oldest l) is s.high);
          none = λ none. absurd (more_some t ts none);
          whole = still_in days (days ++ d ∷ []) (λ j i. in_front j days (d ∷ []) i) s.oldest slack.all s.whole;
        }

-- DROPS
pub shows_left : (length : ℕ) (slack : Bound) (room : ℕ) (expected days kept : List WordDay) → length ≤ room + slack.bytes → Fits room days → Left room days kept → Rising expected → Shows length slack expected days → Shows length slack expected kept
shows_left length slack room expected [] kept fits newest left rising s = subst (λ (l : List WordDay). Shows length slack expected l) (sym left) s
shows_left length slack room expected (d ∷ []) kept fits newest left rising s = ⊎_elim
    (λ is. subst (λ (l : List WordDay). Shows length slack expected l) (sym is) s)
    (λ gone. absurd (omega (arith, gone.0, newest))) left
shows_left length slack room expected (d ∷ e ∷ ds) kept fits newest left rising s = ⊎_elim
    (λ is. subst (λ (l : List WordDay). Shows length slack expected l) (sym is) s)
    (λ gone. shows_left length slack room expected (e ∷ ds) kept fits newest gone.1 rising (shows_less length slack room expected d e ds fits gone.0 rising s)) left

-- a day behind them that is not expected yet takes of the slack
pub left_young : (room : ℕ) (older : List WordDay) (y : WordDay) (kept : List WordDay) → size_of y ≤ room → Left room (older ++ y ∷ []) kept → (rest : List WordDay) × (kept ≡ rest ++ y ∷ []) × Left (room - size_of y) older rest
left_young room [] y kept fits left = ⊎_elim (λ is. ([], is, refl)) (λ gone. absurd (omega (arith, gone.0, fits))) left
left_young room (d ∷ ds) y kept fits left = ⊎_elim
    (λ is. (d ∷ ds, is, inl refl))
    (λ gone. let r = left_young room ds y kept fits gone.1 in (r.0, r.1, inr (omega (arith, gone.0, fits, back (d ∷ ds)), r.2))) left
  where
    back : (ds : List WordDay) → size_all (ds ++ y ∷ []) ≡ size_all ds + size_of y
    back [] = omega arith
    back (d ∷ ds) = omega (arith, back ds)

left_before : (k room : ℕ) (ds kept : List WordDay) → Left room ds kept → AllBefore k ds → AllBefore k kept
left_before k room [] kept left b = subst (λ (l : List WordDay). AllBefore k l) (sym left) tt
left_before k room (d ∷ ds) kept left b = ⊎_elim (λ is. subst (λ (l : List WordDay). AllBefore k l) (sym is) b) (λ gone. left_before k room ds kept gone.1 b.1) left

-- so a day that is not committed, and words on it, may cost days too: its bytes and the new ones are not more than the slack
pub record Young (length : ℕ) (slack : Bound) (expected older : List WordDay) (y : WordDay) (kept : List WordDay) : Type 0 where
  pub rest : List WordDay
  pub is : kept ≡ rest ++ y ∷ []
  pub shows : Shows length slack expected rest
  pub before : (k : ℕ) → AllBefore k older → AllBefore k rest

pub shows_young : (length : ℕ) (slack : Bound) (room : ℕ) (expected older : List WordDay) (y : WordDay) (kept : List WordDay) → length ≤ (room - size_of y) + slack.bytes → size_of y ≤ room → Fits (room - size_of y) older → Rising expected
    → Left room (older ++ y ∷ []) kept → Shows length slack expected older → Young length slack expected older y kept
shows_young length slack room expected older y kept fits small newest rising left s =
    let p = left_young room older y kept small left in
    record { rest = p.0; is = p.1; shows = shows_left length slack (room - size_of y) expected older p.0 fits newest p.2 rising s; before = λ k b. left_before k (room - size_of y) older p.0 p.2 b }

pub left_more : (room : ℕ) (days kept : List WordDay) → Left room days kept → Left room (more days) (more kept)
left_more room [] kept left = subst (λ (l : List WordDay). more l ≡ []) (sym left) refl
left_more room (d ∷ []) kept left = ⊎_elim
    (λ is. inl (ap more is))
    (λ gone. inr (omega (arith, gone.0), ap more gone.1)) left
left_more room (d ∷ e ∷ ds) kept left = ⊎_elim
    (λ is. inl (ap more is))
    (λ gone. inr (omega (arith, gone.0, more_total e ds), left_more room (e ∷ ds) kept gone.1)) left

pub left_newest : (room k : ℕ) (days kept : List WordDay) → Fits room days → Left room days kept → is_newest k kept ≡ is_newest k days
left_newest room k [] kept fits left = ap (λ (l : List WordDay). is_newest k l) left
left_newest room k (d ∷ []) kept fits left = ⊎_elim (λ is. ap (λ (l : List WordDay). is_newest k l) is) (λ gone. absurd (omega (arith, gone.0, fits))) left
left_newest room k (d ∷ e ∷ ds) kept fits left = ⊎_elim (λ is. ap (λ (l : List WordDay). is_newest k l) is) (λ gone. left_newest room k (e ∷ ds) kept fits gone.1) left

-- THE STRING'S OWN DAYS by their sizes
pub sizes_total : (days : List Day) → size_all (sizes days) ≡ total days
sizes_total [] = refl
sizes_total (d ∷ ds) = omega (arith, sizes_total ds)

pub left_of : (room : ℕ) (days kept : List Day) → Remain room days kept → Left room (sizes days) (sizes kept)
left_of room [] kept r = ap sizes r
left_of room (d ∷ ds) kept r = ⊎_elim (λ is. inl (ap sizes is)) (λ gone. inr (omega (arith, gone.0, sizes_total ds), left_of room ds kept gone.1)) r

pub sizes_word : (w : ℕ) (days : List Day) → sizes (with_newest (with_word w) days) ≡ more (sizes days)
sizes_word w [] = refl
sizes_word w (d ∷ []) = ap (λ (n : ℕ). record { day = d.date / 86400; words = n } ∷ []) (length-append d.words (w ∷ []))
sizes_word w (d ∷ e ∷ ds) = ap (λ (l : List WordDay). size_day d ∷ l) (sizes_word w (e ∷ ds))

pub sizes_append : (ds es : List Day) → sizes (ds ++ es) ≡ sizes ds ++ sizes es
sizes_append [] es = refl
sizes_append (d ∷ ds) es = ap (λ (l : List WordDay). size_day d ∷ l) (sizes_append ds es)
