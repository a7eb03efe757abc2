-- What drops, new words and new days do to the days that are shown.
use Rattle.std.proofs.Common.{◌≡◌, inl, inr, ⊎_elim, ℕ, suc, ◌+◌, ◌<◌, ◌≤◌, List, [], ◌∷◌, ◌++◌, refl, sym, ◌∙◌, ap, subst, arith, append_assoc}
use Rattle.card_retention.specs.Expected.{WordDay, size_of, size_all, more}
use Rattle.activity_codec.specs.declared.entries.Entry.{Entry}
use Rattle.card_retention.specs.Shown.{Takes, Covers, IsFull, Bound, AllFrom, AllBefore, AllIn, Shows, Grows, Rising}

-- what is covered is not longer
pub covers_total : (ws ds : List WordDay) → Covers ws ds → size_all ds ≤ size_all ws
covers_total ws [] c = omega arith
covers_total [] (d ∷ ds) c = absurd c
covers_total (w ∷ ws) (d ∷ ds) c = ⊎_elim
    (λ m. omega (arith, m.0.words, covers_total ws ds m.1))
    (λ m. omega (arith, covers_total ws (d ∷ ds) m)) c

-- the place of the oldest day that is covered
pub record Found (ws : List WordDay) (d : WordDay) (ds : List WordDay) : Type 0 where
  pub passed : List WordDay
  pub here : WordDay
  pub rest : List WordDay
  pub is : ws ≡ passed ++ here ∷ rest
  pub takes : Takes here d
  pub covers : Covers rest ds

pub found : (ws : List WordDay) (d : WordDay) (ds : List WordDay) → Covers ws (d ∷ ds) → Found ws d ds
found [] d ds c = absurd c
found (w ∷ ws) d ds c = ⊎_elim
    (λ m. record { passed = []; here = w; rest = ws; is = refl; takes = m.0; covers = m.1 })
    (λ m. let f = found ws d ds m in record { passed = w ∷ f.passed; here = f.here; rest = f.rest; is = ap (λ (l : List WordDay). w ∷ l) f.is; takes = f.takes; covers = f.covers }) c

full_last : (length slack : ℕ) (gone : List WordDay) (g : WordDay) (there : List WordDay) → length < size_of g + size_all there + slack → IsFull length slack (gone ++ g ∷ []) there
full_last length slack [] g there lt = lt
full_last length slack (h ∷ []) g there lt = lt
full_last length slack (h ∷ i ∷ gone) g there lt = full_last length slack (i ∷ gone) g there lt

pub not_empty : (d : WordDay) (ds : List WordDay) → d ∷ ds ≡ [] → ⊥
not_empty d ds none = cc

-- DAYS AND THEIR NUMBERS
pub rising_back : (gone there : List WordDay) → Rising (gone ++ there) → Rising there
rising_back [] there r = r
rising_back (g ∷ []) [] r = tt
rising_back (g ∷ []) (d ∷ there) r = r.1
rising_back (g ∷ h ∷ gone) there r = rising_back (h ∷ gone) there r.1

rising_above : (h : WordDay) (rest : List WordDay) → Rising (h ∷ rest) → AllFrom (suc h.day) rest
rising_above h [] r = tt
rising_above h (x ∷ rest) r = (omega (arith, r.0), later h.day x rest r.0 (rising_above x rest r.1))
  where
    later : (k : ℕ) (x : WordDay) (rest : List WordDay) → k < x.day → AllFrom (suc x.day) rest → AllFrom (suc k) rest
    later k x [] lt f = tt
    later k x (y ∷ rest) lt f = (omega (arith, lt, f.0), later k x rest lt f.1)

rising_before : (passed : List WordDay) (h : WordDay) (rest : List WordDay) → Rising (passed ++ h ∷ rest) → AllBefore h.day passed
rising_before [] h rest r = tt
rising_before (p ∷ []) h rest r = (r.0, tt)
rising_before (p ∷ q ∷ passed) h rest r = let b = rising_before (q ∷ passed) h rest r.1 in (omega (arith, r.0, b.0), b)

before_sum : (k : ℕ) (a b : List WordDay) → AllBefore k a → AllBefore k b → AllBefore k (a ++ b)
before_sum k [] b x y = y
before_sum k (d ∷ a) b x y = (x.0, before_sum k a b x.1 y)

before_wider : (k l : ℕ) (ws : List WordDay) → k ≤ l → AllBefore k ws → AllBefore l ws
before_wider k l [] le b = tt
before_wider k l (w ∷ ws) le b = (omega (arith, le, b.0), before_wider k l ws le b.1)

from_middle : (k : ℕ) (passed : List WordDay) (h : WordDay) (rest : List WordDay) → AllFrom k (passed ++ h ∷ rest) → k ≤ h.day
from_middle k [] h rest f = f.0
from_middle k (p ∷ passed) h rest f = from_middle k passed h rest f.1

whole_less : (oldest : ℕ) (all : List Entry) (d : WordDay) (ds : List WordDay) → oldest ≤ d.day → AllIn oldest all (d ∷ ds) → AllIn (suc d.day) all ds
whole_less oldest [] d ds le w = tt
whole_less oldest (e ∷ es) d ds le w = (λ from. ⊎_elim (λ same. absurd (omega (arith, same, from))) (λ more. more) (w.0 (omega (arith, le, from))), whole_less oldest es d ds le w.1)

-- one drop
pub shows_less : (length : ℕ) (slack : Bound) (room : ℕ) (expected : List WordDay) (d e : WordDay) (ds : List WordDay) → length ≤ room + slack.bytes → room < size_all (d ∷ e ∷ ds) → Rising expected → Shows length slack expected (d ∷ e ∷ ds) → Shows length slack expected (e ∷ ds)
shows_less length slack room expected d e ds fits lt rising s =
    let f = found s.there d (e ∷ ds) s.covers in
    let there : Rising (f.passed ++ f.here ∷ f.rest) = subst Rising f.is (rising_back s.gone s.there (subst Rising s.split rising)) in
    let high : s.oldest ≤ d.day = omega (arith, from_middle s.oldest f.passed f.here f.rest (subst (λ (l : List WordDay). AllFrom s.oldest l) f.is s.high), f.takes.day) in
    record {
      gone = s.gone ++ (f.passed ++ f.here ∷ []);
      there = f.rest;
      split = s.split ∙ ap (λ (l : List WordDay). s.gone ++ l) (f.is ∙ sym (append_assoc f.passed (f.here ∷ []) f.rest)) ∙ sym (append_assoc s.gone (f.passed ++ f.here ∷ []) f.rest);
      covers = f.covers;
      full = subst (λ (l : List WordDay). IsFull length slack.bytes l f.rest) (append_assoc s.gone f.passed (f.here ∷ []))
          (full_last length slack.bytes (s.gone ++ f.passed) f.here f.rest (omega (arith, fits, lt, f.takes.words, covers_total f.rest (e ∷ ds) f.covers)));
      some = λ none. absurd (subst (λ (l : List WordDay). Covers l (e ∷ ds)) none f.covers);
      oldest = suc d.day;
      low = before_sum (suc d.day) s.gone (f.passed ++ f.here ∷ []) (before_wider s.oldest (suc d.day) s.gone (omega (arith, high)) s.low)
          (before_sum (suc d.day) f.passed (f.here ∷ []) (before_wider f.here.day (suc d.day) f.passed (omega (arith, f.takes.day)) (rising_before f.passed f.here f.rest there)) (omega (arith, f.takes.day), tt));
      high = subst (λ (k : ℕ). AllFrom (suc k) f.rest) (sym f.takes.day) (rising_above f.here f.rest (rising_back f.passed (f.here ∷ f.rest) there));
      none = λ none. absurd (subst (λ (l : List WordDay). Covers l (e ∷ ds)) none f.covers);
      whole = whole_less s.oldest slack.all d (e ∷ ds) high s.whole;
    }

-- expected days that grow
pub grows_total : (ws vs : List WordDay) → Grows ws vs → size_all ws ≤ size_all vs
grows_total [] vs g = omega arith
grows_total (w ∷ ws) [] g = absurd g
grows_total (w ∷ ws) (v ∷ vs) g = omega (arith, g.1, grows_total ws vs g.2)

pub full_more : (length slack : ℕ) (gone there more : List WordDay) → size_all there ≤ size_all more → IsFull length slack gone there → IsFull length slack gone more
full_more length slack [] there more le full = tt
full_more length slack (g ∷ []) there more le full = omega (arith, full, le)
full_more length slack (g ∷ h ∷ gs) there more le full = full_more length slack (h ∷ gs) there more le full

pub covers_more : (ws vs ds : List WordDay) → Grows ws vs → Covers ws ds → Covers vs ds
covers_more ws vs [] g c = none vs
  where
    none : (vs : List WordDay) → Covers vs []
    none [] = tt
    none (v ∷ vs) = tt
covers_more [] vs (d ∷ ds) g c = absurd c
covers_more (w ∷ ws) [] (d ∷ ds) g c = absurd g
covers_more (w ∷ ws) (v ∷ vs) (d ∷ ds) g c = ⊎_elim
    (λ m. inl (record { day = m.0.day ∙ sym g.0; words = omega (arith, m.0.words, g.1) }, covers_more ws vs ds g.2 m.1))
    (λ m. inr (covers_more ws vs (d ∷ ds) g.2 m)) c
