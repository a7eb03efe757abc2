-- Readings of the odometer stay readings, as the power spans of a run go on.
use Rattle.std.proofs.Common.{◌≡◌, ◌∙◌, inl, inr, ⊎_elim, ℕ, suc, ◌+◌, ◌*◌, ◌/◌, ◌<◌, Bool, true, false, cond, List, [], ◌∷◌, ◌++◌, refl, sym, ap, subst, arith, append_assoc, append-nil}
use Rattle.std.specs.Prelude.{sum_by}
use Rattle.std.proofs.lemmas.List.{map-append, same_from_push}
use Rattle.std.proofs.lemmas.List.Sums.{sum_by-cons}
use Rattle.run_devices.specs.minute_model.Second.{Second}
use Rattle.run_devices.specs.log_model.Course.{ToldSecond}
use Rattle.run_devices.specs.log_model.Spans.{seconds_in}
use Rattle.run_devices.specs.note_model.Odometer.{SpanFrom}
use Rattle.run_devices.specs.unit_rule.Odometer.{odometer_by}
use Rattle.run_events.specs.run_rings.Spans.{go_on_from, with_second, AreAlike}
use Rattle.run_devices.specs.Measured.{Reading}
use Rattle.run_note_record.specs.OnCards.{EndBefore, BeginWith, IsReading, IsReadingOf}
use Rattle.run_note_record.proofs.Stored.{AtEnd, nothing, push, at-end}

-- ---- the last of some spans

-- it goes on with a second
abbrev longer : SpanFrom → ToldSecond → SpanFrom
longer s t = record { base = s.base; span = s.span ++ t ∷ [] }

abbrev begun : (base : ℕ) → ToldSecond → SpanFrom
begun base t = record { base = base; span = t ∷ [] }

on-last : (earlier : List SpanFrom) (s : SpanFrom) (base : ℕ) (t : ToldSecond) → go_on_from (earlier ++ s ∷ []) base t ≡ earlier ++ longer s t ∷ []
on-last [] s base t = refl
on-last (x ∷ []) s base t = refl
on-last (x ∷ y ∷ earlier) s base t = ap (λ (l : List SpanFrom). x ∷ l) (on-last (y ∷ earlier) s base t)

on-behind : (earlier : List SpanFrom) (s next : SpanFrom) (later : List SpanFrom) (base : ℕ) (t : ToldSecond) → go_on_from (earlier ++ s ∷ next ∷ later) base t ≡ earlier ++ s ∷ go_on_from (next ∷ later) base t
on-behind [] s next later base t = refl
on-behind (x ∷ []) s next later base t = refl
on-behind (x ∷ y ∷ earlier) s next later base t = ap (λ (l : List SpanFrom). x ∷ l) (on-behind (y ∷ earlier) s next later base t)

-- ---- OF A MINUTE

-- as the spans go on, and with other seconds that may be, it is that of its minute still
pub reading-as : (spans now : List SpanFrom) (May Now : ℕ → Type 0) → ((u n : ℕ) → IsReading spans u n → IsReading now u n) → ((u : ℕ) → 0 < u → May u → Now u) → (r : Reading) → IsReadingOf spans May r → IsReadingOf now Now r
reading-as spans now May Now reads as_ r (inl at) = inl (reads (60 * (r.minute + 1)) r.odometer at)
reading-as spans now May Now reads as_ r (inr later) =
    let lt : r.minute < later.0 / 60 = later.2 in
    let some : 0 < later.0 = omega (arith, lt) in
    inr (later.0, as_ later.0 some later.1, lt, reads later.0 r.odometer later.3)

-- ---- WHICH SECOND BEGINS behind some, whatever is told of the last

nothing-begins : {T : Type 0} (x : Second) (xs : List Second) → x ∷ xs ≡ [] → T
nothing-begins x xs is = absurd (cc)

-- one more behind them
begins-longer : (behind : List ToldSecond) (t : ToldSecond) (u : ℕ) → BeginWith u (seconds_in behind) → BeginWith u (seconds_in (behind ++ t ∷ []))
begins-longer [] t u begins = nothing-begins begins.0 begins.1 (sym begins.2)
begins-longer (y ∷ behind) t u begins =
    let both : y.second ∷ seconds_in behind ≡ begins.0 ∷ begins.1 = begins.2 in
    let first : y.second ≡ begins.0 = cc in
    (y.second, seconds_in (behind ++ t ∷ []), refl, ap (λ (s : Second). s.number) first ∙ begins.3)

-- another last one, of the same number
begins-alike : (behind : List ToldSecond) (t x : ToldSecond) → x.second.number ≡ t.second.number → (u : ℕ) → BeginWith u (seconds_in (behind ++ t ∷ [])) → BeginWith u (seconds_in (behind ++ x ∷ []))
begins-alike [] t x same u begins =
    let both : t.second ∷ [] ≡ begins.0 ∷ begins.1 = begins.2 in
    let first : t.second ≡ begins.0 = cc in
    (x.second, [], refl, same ∙ ap (λ (s : Second). s.number) first ∙ begins.3)
begins-alike (y ∷ behind) t x same u begins =
    let both : y.second ∷ seconds_in (behind ++ t ∷ []) ≡ begins.0 ∷ begins.1 = begins.2 in
    let first : y.second ≡ begins.0 = cc in
    (y.second, seconds_in (behind ++ x ∷ []), refl, ap (λ (s : Second). s.number) first ∙ begins.3)

seconds-last : (span : List ToldSecond) (t : ToldSecond) → seconds_in (span ++ t ∷ []) ≡ seconds_in span ++ t.second ∷ []
seconds-last span t = map-append (λ (x : ToldSecond). x.second) span (t ∷ [])

ends-alike : (span : List ToldSecond) (t x : ToldSecond) → x.second.number ≡ t.second.number → (u : ℕ) → EndBefore u (seconds_in (span ++ t ∷ [])) → EndBefore u (seconds_in (span ++ x ∷ []))
ends-alike span t x same u ends =
    let last = same_from_push (seconds_in span) ends.0 t.second ends.1 (sym (seconds-last span t) ∙ ends.2) in
    (seconds_in span, x.second, seconds-last span x, ap suc (same ∙ ap (λ (s : Second). s.number) last.1) ∙ ends.3)

-- ---- ONE SECOND MORE

-- a span begins
reads-begun : (spans : List SpanFrom) (s : SpanFrom) (u n : ℕ) → IsReading spans u n → IsReading (spans ++ s ∷ []) u n
reads-begun spans s u n r = record {
  earlier = r.earlier;
  s = r.s;
  later = r.later ++ s ∷ [];
  are = ap (λ (l : List SpanFrom). l ++ s ∷ []) r.are ∙ append_assoc r.earlier (r.s ∷ r.later) (s ∷ []);
  front = r.front;
  behind = r.behind;
  parts = r.parts;
  is = r.is;
  when = r.when;
}

-- the last one goes on
reads-on : (spans : List SpanFrom) (base : ℕ) (t : ToldSecond) (u n : ℕ) → IsReading spans u n → IsReading (go_on_from spans base t) u n
reads-on spans base t u n r = by r.later refl
  where
    by : (later : List SpanFrom) → r.later ≡ later → IsReading (go_on_from spans base t) u n
    by [] is = record {
      earlier = r.earlier;
      s = longer r.s t;
      later = [];
      are = ap (λ (l : List SpanFrom). go_on_from l base t) (r.are ∙ ap (λ (l : List SpanFrom). r.earlier ++ r.s ∷ l) is) ∙ on-last r.earlier r.s base t;
      front = r.front;
      behind = r.behind ++ t ∷ [];
      parts = ap (λ (l : List ToldSecond). l ++ t ∷ []) r.parts ∙ append_assoc r.front r.behind (t ∷ []);
      is = r.is;
      when = ⊎_elim (λ at. inl at) (λ begins. inr (begins-longer r.behind t u begins)) r.when;
    }
    by (next ∷ later) is = record {
      earlier = r.earlier;
      s = r.s;
      later = go_on_from (next ∷ later) base t;
      are = ap (λ (l : List SpanFrom). go_on_from l base t) (r.are ∙ ap (λ (l : List SpanFrom). r.earlier ++ r.s ∷ l) is) ∙ on-behind r.earlier r.s next later base t;
      front = r.front;
      behind = r.behind;
      parts = r.parts;
      is = r.is;
      when = r.when;
    }

pub reads-with : (spans : List SpanFrom) (base : ℕ) (t : ToldSecond) (u n : ℕ) → IsReading spans u n → IsReading (with_second spans base t) u n
reads-with spans base t u n r = by t.lit t.starts
  where
    by : (lit starts : Bool) → IsReading (cond lit (cond starts (spans ++ begun base t ∷ []) (go_on_from spans base t)) spans) u n
    by false starts = r
    by true true = reads-begun spans (begun base t) u n r
    by true false = reads-on spans base t u n r

-- ---- WHATEVER IS TOLD of the last second

-- what was driven
abbrev pub driven_in : List ToldSecond → ℕ
driven_in span = sum_by (λ (x : Second). x.speed) (seconds_in span)

driven-last : (span : List ToldSecond) (t x : ToldSecond) → x.second.speed ≡ t.second.speed → driven_in (span ++ t ∷ []) ≡ driven_in (span ++ x ∷ [])
driven-last [] t x same =
    sum_by-cons (λ (s : Second). s.speed) t.second [] ∙ ap (λ (n : ℕ). n + sum_by (λ (s : Second). s.speed) []) (sym same) ∙ sym (sum_by-cons (λ (s : Second). s.speed) x.second [])
driven-last (y ∷ span) t x same =
    sum_by-cons (λ (s : Second). s.speed) y.second (seconds_in (span ++ t ∷ [])) ∙ ap (λ (n : ℕ). y.second.speed + n) (driven-last span t x same) ∙ sym (sum_by-cons (λ (s : Second). s.speed) y.second (seconds_in (span ++ x ∷ [])))

-- of the last span
abbrev ended : (base : ℕ) → List ToldSecond → ToldSecond → SpanFrom
ended base span t = record { base = base; span = span ++ t ∷ [] }

last-alike : (ss : List SpanFrom) (base : ℕ) (span : List ToldSecond) (t x : ToldSecond) → x.second.speed ≡ t.second.speed → x.second.number ≡ t.second.number → (u n : ℕ) → IsReading (ss ++ ended base span t ∷ []) u n → IsReading (ss ++ ended base span x ∷ []) u n
last-alike ss base span t x speed number u n r = by r.later (at-end r.later) refl
  where
    -- the reading is one of the last span
    in-last : (behind : List ToldSecond) → AtEnd behind → r.behind ≡ behind → r.s ≡ ended base span t → IsReading (ss ++ ended base span x ∷ []) u n
    in-last _ nothing is own =
        let front : r.front ≡ span ++ t ∷ [] = sym (append-nil r.front) ∙ ap (λ (l : List ToldSecond). r.front ++ l) (sym is) ∙ sym r.parts ∙ ap (λ (s : SpanFrom). s.span) own in
        record {
          earlier = ss;
          s = ended base span x;
          later = [];
          are = refl;
          front = span ++ x ∷ [];
          behind = [];
          parts = sym (append-nil (span ++ x ∷ []));
          is = r.is ∙ ap (λ (s : SpanFrom). odometer_by s.base (driven_in r.front)) own ∙ ap (λ (l : List ToldSecond). odometer_by base (driven_in l)) front ∙ ap (λ (m : ℕ). odometer_by base m) (driven-last span t x speed);
          when = ⊎_elim
              (λ at. inl (ends-alike span t x number u (subst (λ (l : List ToldSecond). EndBefore u (seconds_in l)) front at)))
              (λ begins. nothing-begins begins.0 begins.1 (sym begins.2 ∙ ap seconds_in is)) r.when;
        }
    in-last _ (push behind y) is own =
        let same = same_from_push (r.front ++ behind) span y t (append_assoc r.front behind (y ∷ []) ∙ ap (λ (l : List ToldSecond). r.front ++ l) (sym is) ∙ sym r.parts ∙ ap (λ (s : SpanFrom). s.span) own) in
        record {
          earlier = ss;
          s = ended base span x;
          later = [];
          are = refl;
          front = r.front;
          behind = behind ++ x ∷ [];
          parts = ap (λ (l : List ToldSecond). l ++ x ∷ []) (sym same.0) ∙ append_assoc r.front behind (x ∷ []);
          is = r.is ∙ ap (λ (s : SpanFrom). odometer_by s.base (driven_in r.front)) own;
          when = ⊎_elim
              (λ at. inl at)
              (λ begins.
              inr (begins-alike behind t x number u (subst (λ (z : ToldSecond). BeginWith u (seconds_in (behind ++ z ∷ []))) same.1 (subst (λ (l : List ToldSecond). BeginWith u (seconds_in l)) is begins)))) r.when;
        }

    by : (later : List SpanFrom) → AtEnd later → r.later ≡ later → IsReading (ss ++ ended base span x ∷ []) u n
    by _ nothing is =
        let same = same_from_push r.earlier ss r.s (ended base span t) (sym (r.are ∙ ap (λ (l : List SpanFrom). r.earlier ++ r.s ∷ l) is)) in
        in-last r.behind (at-end r.behind) refl same.1
    by _ (push later y) is =
        let same = same_from_push (r.earlier ++ r.s ∷ later) ss y (ended base span t) (append_assoc r.earlier (r.s ∷ later) (y ∷ []) ∙ sym (r.are ∙ ap (λ (l : List SpanFrom). r.earlier ++ r.s ∷ l) is)) in
        record {
          earlier = r.earlier;
          s = r.s;
          later = later ++ ended base span x ∷ [];
          are = ap (λ (l : List SpanFrom). l ++ ended base span x ∷ []) (sym same.0) ∙ append_assoc r.earlier (r.s ∷ later) (ended base span x ∷ []);
          front = r.front;
          behind = r.behind;
          parts = r.parts;
          is = r.is;
          when = r.when;
        }

on-alike : (spans : List SpanFrom) (base : ℕ) (t x : ToldSecond) → x.second.speed ≡ t.second.speed → x.second.number ≡ t.second.number → (u n : ℕ) → IsReading (go_on_from spans base t) u n → IsReading (go_on_from spans base x) u n
on-alike spans base t x speed number u n = by spans (at-end spans)
  where
    by : (ss : List SpanFrom) → AtEnd ss → IsReading (go_on_from ss base t) u n → IsReading (go_on_from ss base x) u n
    by _ nothing r = last-alike [] base [] t x speed number u n r
    by _ (push ss y) r =
        subst (λ (l : List SpanFrom). IsReading l u n) (sym (on-last ss y base x)) (last-alike ss y.base y.span t x speed number u n (subst (λ (l : List SpanFrom). IsReading l u n) (on-last ss y base t) r))

pub reads-alike : (spans : List SpanFrom) (base : ℕ) (t x : ToldSecond) → AreAlike t x → (u n : ℕ) → IsReading (with_second spans base t) u n → IsReading (with_second spans base x) u n
reads-alike spans base t x alike u n r =
    subst (λ (lit : Bool). IsReading (cond lit (cond x.starts (spans ++ begun base x ∷ []) (go_on_from spans base x)) spans) u n) (sym alike.lit)
    (subst (λ (starts : Bool). IsReading (cond t.lit (cond starts (spans ++ begun base x ∷ []) (go_on_from spans base x)) spans) u n) (sym alike.starts) (by t.lit t.starts r))
  where
    by : (lit starts : Bool) → IsReading (cond lit (cond starts (spans ++ begun base t ∷ []) (go_on_from spans base t)) spans) u n → IsReading (cond lit (cond starts (spans ++ begun base x ∷ []) (go_on_from spans base x)) spans) u n
    by false starts h = h
    by true true h = last-alike spans base [] t x alike.speed alike.number u n h
    by true false h = on-alike spans base t x alike.speed alike.number u n h
