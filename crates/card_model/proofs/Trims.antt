-- Trimming to a minute: what it makes of days that drop, grow, or were trimmed in part.
use Rattle.std.proofs.Common.{◌≡◌, ◌⊎◌, inl, inr, ℕ, ◌%◌, ◌<◌, ◌≤◌, Bool, true, false, cond, List, [], ◌∷◌, ◌++◌, length, refl, sym, ◌∙◌, ap, subst, arith}
use Rattle.std.specs.Prelude.{nat_eq, nat_le}
use Rattle.std.proofs.lemmas.Bool.{eq-eqb, le-leb, lt-leb, leb-true, leb-false}
use Rattle.activity_codec.specs.Words.{word_minute}
use Rattle.card_model.specs.Days.{Day, AreDays, IsDay, AreWords, Ascend}
use Rattle.card_model.specs.Changes.{with_newest, with_word, until, early, with_early, date_of, cut, trimmed, OnNewest, AllLater, Shorter}

newest_some : (f : Day → Day) (d : Day) (ds : List Day) → with_newest f (d ∷ ds) ≡ [] → ⊥
newest_some f d [] e = cc
newest_some f d (x ∷ ds) e = cc

-- the newest day in another form
pub with_last : (f : Day → Day) (ds : List Day) (d : Day) → with_newest f (ds ++ d ∷ []) ≡ ds ++ f d ∷ []
with_last f [] d = refl
with_last f (e ∷ []) d = refl
with_last f (e ∷ g ∷ ds) d = ap (λ (l : List Day). e ∷ l) (with_last f (g ∷ ds) d)

-- one day in front of days that are alike
cons_same : (f : Day → Day) (d : Day) (us vs : List Day) → with_newest f us ≡ with_newest f vs → with_newest f (d ∷ us) ≡ with_newest f (d ∷ vs)
cons_same f d [] [] e = refl
cons_same f d [] (v ∷ vs) e = absurd (newest_some f v vs (sym e))
cons_same f d (u ∷ us) [] e = absurd (newest_some f u us e)
cons_same f d (u ∷ us) (v ∷ vs) e = ap (λ (l : List Day). d ∷ l) e

early_word : (m : ℕ) (ws : List ℕ) (w : ℕ) → m < word_minute w → early m (ws ++ w ∷ []) ≡ early m ws
early_word m [] w lt = ap (λ (b : Bool). cond b (w ∷ []) []) (lt-leb (word_minute w) m lt)
early_word m (v ∷ ws) w lt = ap (λ (l : List ℕ). cond (nat_le (word_minute v) m) (v ∷ l) []) (early_word m ws w lt)

-- a word behind the minute is cut again
pub record Behind (m w : ℕ) (d : Day) : Type 0 where
  pub day : date_of m ≤ d.date
  pub minute : d.date ≡ date_of m → m % 1440 < word_minute w

cut_word : (m w : ℕ) (d : Day) → Behind m w d → d.date ≤ date_of m → cut m (with_word w d) ≡ cut m d
cut_word m w d b le =
    let at : d.date ≡ date_of m = omega (arith, b.day, le) in
    let is : nat_eq d.date (date_of m) ≡ true = eq-eqb d.date (date_of m) at in
    ap (λ (c : Bool). cond c (with_early (m % 1440) (with_word w d)) (with_word w d)) is
    ∙ ap (λ (ws : List ℕ). record { date = d.date; counter = d.counter; km = d.km; words = ws }) (early_word (m % 1440) d.words w (b.minute at))
    ∙ sym (ap (λ (c : Bool). cond c (with_early (m % 1440) d) d) is)

pub trimmed_word : (m w : ℕ) (ds : List Day) → OnNewest (Behind m w) ds → trimmed m (with_newest (with_word w) ds) ≡ trimmed m ds
trimmed_word m w [] on = absurd on
trimmed_word m w (d ∷ []) on = by (nat_le d.date (date_of m)) refl
  where
    by : (b : Bool) → nat_le d.date (date_of m) ≡ b → with_newest (cut m) (cond b (with_word w d ∷ []) []) ≡ with_newest (cut m) (cond b (d ∷ []) [])
    by true is = ap (λ (x : Day). x ∷ []) (cut_word m w d on (leb-true d.date (date_of m) is))
    by false is = refl
trimmed_word m w (d ∷ e ∷ ds) on = by (nat_le d.date (date_of m)) (trimmed_word m w (e ∷ ds) on)
  where
    by : (b : Bool) → trimmed m (with_newest (with_word w) (e ∷ ds)) ≡ trimmed m (e ∷ ds)
        → with_newest (cut m) (cond b (d ∷ until (date_of m) (with_newest (with_word w) (e ∷ ds))) []) ≡ with_newest (cut m) (cond b (d ∷ until (date_of m) (e ∷ ds)) [])
    by true rest = cons_same (cut m) d (until (date_of m) (with_newest (with_word w) (e ∷ ds))) (until (date_of m) (e ∷ ds)) rest
    by false rest = refl

-- a later day is cut again
pub trimmed_day : (m : ℕ) (ds : List Day) (d : Day) → date_of m < d.date → trimmed m (ds ++ d ∷ []) ≡ trimmed m ds
trimmed_day m ds d lt = ap (λ (l : List Day). with_newest (cut m) l) (by ds)
  where
    by : (ds : List Day) → until (date_of m) (ds ++ d ∷ []) ≡ until (date_of m) ds
    by [] = ap (λ (b : Bool). cond b (d ∷ []) []) (lt-leb d.date (date_of m) lt)
    by (e ∷ ds) = ap (λ (l : List Day). cond (nat_le e.date (date_of m)) (e ∷ l) []) (by ds)

pub until_none : (date : ℕ) (gone : List Day) → AllLater date gone → until date gone ≡ []
until_none date [] later = refl
until_none date (g ∷ gs) later = ap (λ (b : Bool). cond b (g ∷ until date gs) []) (lt-leb g.date date later.0)

-- A trim that begins again where only days that it drops are gone ends as the first would.
pub trim_from_moment : (m : ℕ) (days kept : List Day) → Shorter (date_of m) days kept → trimmed m kept ≡ trimmed m days
trim_from_moment m days kept s = ap (λ (l : List Day). with_newest (cut m) l) (sym (ap (λ (l : List Day). until (date_of m) l) s.is ∙ by kept))
  where
    by : (kept : List Day) → until (date_of m) (kept ++ s.gone) ≡ until (date_of m) kept
    by [] = until_none (date_of m) s.gone s.later
    by (e ∷ ds) = ap (λ (l : List Day). cond (nat_le e.date (date_of m)) (e ∷ l) []) (by ds)

early_twice : (m : ℕ) (ws : List ℕ) → early m (early m ws) ≡ early m ws
early_twice m [] = refl
early_twice m (w ∷ ws) = by (early_twice m ws) (nat_le (word_minute w) m) refl
  where
    by : early m (early m ws) ≡ early m ws → (b : Bool) → nat_le (word_minute w) m ≡ b → early m (cond b (w ∷ early m ws) []) ≡ cond b (w ∷ early m ws) []
    by twice true is = ap (λ (c : Bool). cond c (w ∷ early m (early m ws)) []) is ∙ ap (λ (l : List ℕ). w ∷ l) twice
    by twice false is = refl

pub cut_date : (m : ℕ) (d : Day) → (cut m d).date ≡ d.date
cut_date m d = by (nat_eq d.date (date_of m))
  where
    by : (b : Bool) → (cond b (with_early (m % 1440) d) d).date ≡ d.date
    by true = refl
    by false = refl

cut_twice : (m : ℕ) (d : Day) → cut m (cut m d) ≡ cut m d
cut_twice m d = by (nat_eq d.date (date_of m)) refl
  where
    by : (b : Bool) → nat_eq d.date (date_of m) ≡ b → cut m (cond b (with_early (m % 1440) d) d) ≡ cond b (with_early (m % 1440) d) d
    by true is = ap (λ (c : Bool). cond c (with_early (m % 1440) (with_early (m % 1440) d)) (with_early (m % 1440) d)) is ∙ ap (λ (ws : List ℕ). record { date = d.date; counter = d.counter; km = d.km; words = ws }) (early_twice (m % 1440) d.words)
    by false is = ap (λ (c : Bool). cond c (with_early (m % 1440) d) d) is

-- a string that was trimmed is as trimmed
pub trimmed_twice : (m : ℕ) (ds : List Day) → trimmed m (trimmed m ds) ≡ trimmed m ds
trimmed_twice m [] = refl
trimmed_twice m (d ∷ ds) = by (trimmed_twice m ds) (nat_le d.date (date_of m)) refl (until (date_of m) ds) refl
  where
    again : (t : Day) (ts us : List Day) → with_newest (cut m) us ≡ t ∷ ts → with_newest (cut m) (d ∷ us) ≡ d ∷ t ∷ ts
    again t ts [] e = absurd (cc)
    again t ts (u ∷ us) e = ap (λ (l : List Day). d ∷ l) e

    some : (u : Day) (us : List Day) → (t : Day) × (ts : List Day) × (with_newest (cut m) (u ∷ us) ≡ t ∷ ts)
    some u [] = (cut m u, [], refl)
    some u (v ∷ us) = (u, with_newest (cut m) (v ∷ us), refl)

    by : trimmed m (trimmed m ds) ≡ trimmed m ds → (b : Bool) → nat_le d.date (date_of m) ≡ b → (us : List Day) → until (date_of m) ds ≡ us → trimmed m (with_newest (cut m) (cond b (d ∷ us) [])) ≡ with_newest (cut m) (cond b (d ∷ us) [])
    by twice false is us e = refl
    by twice true is [] e = ap (λ (c : Bool). with_newest (cut m) (cond c (cut m d ∷ []) [])) (ap (λ (n : ℕ). nat_le n (date_of m)) (cut_date m d) ∙ is) ∙ ap (λ (x : Day). x ∷ []) (cut_twice m d)
    by twice true is (u ∷ us) e =
        let t = some u us in
        let rest : trimmed m (with_newest (cut m) (u ∷ us)) ≡ with_newest (cut m) (u ∷ us) = subst (λ (l : List Day). trimmed m (with_newest (cut m) l) ≡ with_newest (cut m) l) e twice in
        let named : with_newest (cut m) (until (date_of m) (t.0 ∷ t.1)) ≡ t.0 ∷ t.1 = subst (λ (l : List Day). with_newest (cut m) (until (date_of m) l) ≡ l) t.2 rest in
        ap (λ (l : List Day). trimmed m (d ∷ l)) t.2
        ∙ ap (λ (c : Bool). with_newest (cut m) (cond c (d ∷ until (date_of m) (t.0 ∷ t.1)) [])) is
        ∙ again t.0 t.1 (until (date_of m) (t.0 ∷ t.1)) named
        ∙ ap (λ (l : List Day). d ∷ l) (sym t.2)

-- of one day more than these
pub record Trimmed (m : ℕ) (d : Day) (ds : List Day) : Type 0 where
  pub first : Day
  pub rest : List Day
  pub less : trimmed m ds ≡ first ∷ rest
  pub whole : trimmed m (d ∷ ds) ≡ d ∷ first ∷ rest

abbrev pub Short : ℕ → Day → List Day → Type 0
Short m d ds = (trimmed m (d ∷ ds) ≡ []) ⊎ (trimmed m (d ∷ ds) ≡ cut m d ∷ [])

pub trimmed_cases : (m date : ℕ) (d : Day) (ds : List Day) → AreDays date (d ∷ ds) → ((trimmed m ds ≡ []) × Short m d ds) ⊎ Trimmed m d ds
trimmed_cases m date d ds are = by (nat_le d.date (date_of m)) refl (until (date_of m) ds) refl
  where
    some : (u : Day) (us : List Day) → (t : Day) × (ts : List Day) × (with_newest (cut m) (u ∷ us) ≡ t ∷ ts)
    some u [] = (cut m u, [], refl)
    some u (v ∷ us) = (u, with_newest (cut m) (v ∷ us), refl)

    none : (ds : List Day) → AreDays d.date ds → date_of m < d.date → until (date_of m) ds ≡ []
    none [] are lt = refl
    none (e ∷ es) are lt = ap (λ (b : Bool). cond b (e ∷ until (date_of m) es) []) (lt-leb e.date (date_of m) (omega (arith, lt, are.0)))

    by : (b : Bool) → nat_le d.date (date_of m) ≡ b → (us : List Day) → until (date_of m) ds ≡ us → ((trimmed m ds ≡ []) × Short m d ds) ⊎ Trimmed m d ds
    by false is us e = inl (ap (λ (l : List Day). with_newest (cut m) l) (none ds are.2 (leb-false d.date (date_of m) is)), inl (ap (λ (c : Bool). with_newest (cut m) (cond c (d ∷ until (date_of m) ds) [])) is))
    by true is [] e = inl (ap (λ (l : List Day). with_newest (cut m) l) e, inr (ap (λ (c : Bool). with_newest (cut m) (cond c (d ∷ until (date_of m) ds) [])) is ∙ ap (λ (l : List Day). with_newest (cut m) (d ∷ l)) e))
    by true is (u ∷ us) e =
        let t = some u us in
        inr (record {
          first = t.0;
          rest = t.1;
          less = ap (λ (l : List Day). with_newest (cut m) l) e ∙ t.2;
          whole = ap (λ (c : Bool). with_newest (cut m) (cond c (d ∷ until (date_of m) ds) [])) is ∙ ap (λ (l : List Day). with_newest (cut m) (d ∷ l)) e ∙ ap (λ (l : List Day). d ∷ l) t.2;
        })

-- what a trim leaves are days
early_ascend : (m low : ℕ) (ws : List ℕ) → Ascend low ws → Ascend low (early m ws)
early_ascend m low [] a = tt
early_ascend m low (w ∷ ws) a = by (early_ascend m (word_minute w) ws a.2) (nat_le (word_minute w) m)
  where
    by : Ascend (word_minute w) (early m ws) → (b : Bool) → Ascend low (cond b (w ∷ early m ws) [])
    by rest true = (a.0, a.1, rest)
    by rest false = tt

pub early_words : (m : ℕ) (ws : List ℕ) → AreWords ws → AreWords (early m ws)
early_words m [] a = absurd a
early_words m (w ∷ ws) a = by (nat_le (word_minute w) m) (le-leb (word_minute w) m (omega (arith, a.0)))
  where
    by : (b : Bool) → b ≡ true → AreWords (cond b (w ∷ early m ws) [])
    by true is = (a.0, early_ascend m 0 ws a.1)
    by false is = absurd (cc)

pub early_few : (m : ℕ) (ws : List ℕ) → length (early m ws) ≤ length ws
early_few m [] = omega arith
early_few m (w ∷ ws) = by (early_few m ws) (nat_le (word_minute w) m)
  where
    by : length (early m ws) ≤ length ws → (b : Bool) → length (cond b (w ∷ early m ws) []) ≤ length (w ∷ ws)
    by rest true = omega (arith, rest)
    by rest false = omega arith

cut_day : (m : ℕ) (d : Day) → IsDay d → IsDay (cut m d)
cut_day m d is = by (nat_eq d.date (date_of m))
  where
    by : (b : Bool) → IsDay (cond b (with_early (m % 1440) d) d)
    by true = record { midnight = is.midnight; decimal = is.decimal; most = omega (arith, early_few (m % 1440) d.words, is.most); ordered = early_words (m % 1440) d.words is.ordered }
    by false = is

pub are_trimmed : (m date : ℕ) (ds : List Day) → AreDays date ds → AreDays date (trimmed m ds)
are_trimmed m date [] are = tt
are_trimmed m date (d ∷ ds) are = by (nat_le d.date (date_of m)) (until (date_of m) ds) (are_trimmed m d.date ds are.2)
  where
    by : (b : Bool) (us : List Day) → AreDays d.date (with_newest (cut m) us) → AreDays date (with_newest (cut m) (cond b (d ∷ us) []))
    by false us rest = tt
    by true [] rest = (omega (arith, are.0, cut_date m d), cut_day m d are.1, tt)
    by true (u ∷ us) rest = (are.0, are.1, rest)

-- the words that a trim leaves of a day are the first of them
pub early_front : (m : ℕ) (ws : List ℕ) → (rest : List ℕ) × (ws ≡ early m ws ++ rest)
early_front m [] = ([], refl)
early_front m (w ∷ ws) = by (early_front m ws) (nat_le (word_minute w) m)
  where
    by : (rest : List ℕ) × (ws ≡ early m ws ++ rest) → (b : Bool) → (rest : List ℕ) × (w ∷ ws ≡ cond b (w ∷ early m ws) [] ++ rest)
    by more true = (more.0, ap (λ (l : List ℕ). w ∷ l) more.1)
    by more false = (w ∷ ws, refl)
