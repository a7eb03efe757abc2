-- What is true of stays stays true: as a run goes on its power spans go on.
use Rattle.std.proofs.Common.{◌≡◌, ◌∙◌, ℕ, ◌+◌, ◌*◌, Bool, true, false, List, [], ◌∷◌, ◌++◌, Contains, sum_by, refl, ap, sym, subst, arith, append-nil, append_assoc}
use Rattle.std.proofs.lemmas.List.{map-append, same_from_push}
use Rattle.std.proofs.lemmas.List.Sums.{sum_by-cons, sum_by-append}
use Rattle.unit_model.specs.minute_model.declared.Rule.{Rule}
use Rattle.unit_model.specs.minute_model.Second.{Second}
use Rattle.log_model.specs.Course.{ToldSecond}
use Rattle.log_model.specs.Spans.{go_on, spans_with, spans_of, seconds_in}
use Rattle.log_model.proofs.Spanning.{spans-more as spans-one, spans-new, spans-on as spans-kept, spans-dark}
use Rattle.device_calls.specs.run_unit_course.Legs.{whole_legs}
use Rattle.device_calls.specs.unit_rule.Odometer.{odometer_after}
use Rattle.run_events.specs.run_rings.Spans.{AreAlike}
use Rattle.log_model.specs.declared.lines.Mark.{Mark}
use Rattle.run_minutes.proofs.run_promise.Beside.{marked-on}
use Rattle.run_note_record.proofs.Stored.{AtEnd, nothing, push, at-end}
use Rattle.run_acts.specs.Truths.{Truths, Grow, marked, Past, Rides, driven_in, IsOdometerBefore, IsOdometerBehind, truths_by, SpansGoOn, PastGoesOn}
use Rattle.activity_codec.specs.declared.entries.Entry.{Entry}
use Rattle.trace_model.specs.declared.Card.{Card}
use Rattle.log_model.specs.declared.lines.Find.{Find}

-- ---- what was driven

pub driven-push : (span : List ToldSecond) (t : ToldSecond) → driven_in (span ++ t ∷ []) ≡ driven_in span + t.second.speed
driven-push span t =
    let parts : sum_by (λ (s : Second). s.speed) (seconds_in span ++ t.second ∷ []) ≡ driven_in span + sum_by (λ (s : Second). s.speed) (t.second ∷ []) = sum_by-append (λ (s : Second). s.speed) (seconds_in span) (t.second ∷ []) in
    let one : sum_by (λ (s : Second). s.speed) (t.second ∷ []) ≡ t.second.speed + 0 = sum_by-cons (λ (s : Second). s.speed) t.second [] in
    let whole : driven_in (span ++ t ∷ []) ≡ sum_by (λ (s : Second). s.speed) (seconds_in span ++ t.second ∷ []) = ap (λ (ss : List Second). sum_by (λ (s : Second). s.speed) ss) (map-append (λ (x : ToldSecond). x.second) span (t ∷ [])) in
    omega (arith, whole, parts, one)

-- ---- spans that go on

-- where a second lies in spans it lies in these behind the same ones
abbrev GoesIn : (spans now : List (List ToldSecond)) (u : ℕ) → Rides spans u → Type 0
GoesIn spans now u r = (x : ToldSecond) × (behind : List ToldSecond) × (later : List (List ToldSecond)) × (now ≡ r.earlier ++ (r.span ++ x ∷ behind) ∷ later) × (x.second.number ≡ r.t.second.number) × (x.second.speed ≡ r.t.second.speed)

pub spans-same : (a : List (List ToldSecond)) → SpansGoOn a a
spans-same a u r = (r.t, r.behind, r.later, r.are, refl, refl)

pub spans-on : (a b c : List (List ToldSecond)) → SpansGoOn a b → SpansGoOn b c → SpansGoOn a c
spans-on a b c first next u r =
    let m = first u r in
    let mid : Rides b u = record { earlier = r.earlier; span = r.span; t = m.0; behind = m.1; later = m.2; are = m.3; number = m.4 ∙ r.number } in
    let n = next u mid in
    (n.0, n.1, n.2, n.3, n.4 ∙ m.4, n.5 ∙ m.5)

spans-as : (a now b then_ : List (List ToldSecond)) → a ≡ now → b ≡ then_ → SpansGoOn a b → SpansGoOn now then_
spans-as a now b then_ p q h = subst (λ (l : List (List ToldSecond)). SpansGoOn l then_) p (subst (λ (l : List (List ToldSecond)). SpansGoOn a l) q h)

-- a span begins
new-span : (ss : List (List ToldSecond)) (t : ToldSecond) → SpansGoOn ss (ss ++ (t ∷ []) ∷ [])
new-span ss t u r =
    (r.t, r.behind, r.later ++ (t ∷ []) ∷ [], ap (λ (l : List (List ToldSecond)). l ++ (t ∷ []) ∷ []) r.are ∙ append_assoc r.earlier ((r.span ++ r.t ∷ r.behind) ∷ r.later) ((t ∷ []) ∷ []), refl, refl)

-- the last of them goes on
on-last : (earlier : List (List ToldSecond)) (span : List ToldSecond) (t : ToldSecond) → go_on (earlier ++ span ∷ []) t ≡ earlier ++ (span ++ t ∷ []) ∷ []
on-last [] span t = refl
on-last (x ∷ []) span t = refl
on-last (x ∷ y ∷ earlier) span t = ap (λ (l : List (List ToldSecond)). x ∷ l) (on-last (y ∷ earlier) span t)

on-behind : (earlier : List (List ToldSecond)) (span next : List ToldSecond) (later : List (List ToldSecond)) (t : ToldSecond) → go_on (earlier ++ span ∷ next ∷ later) t ≡ earlier ++ span ∷ go_on (next ∷ later) t
on-behind [] span next later t = refl
on-behind (x ∷ []) span next later t = refl
on-behind (x ∷ y ∷ earlier) span next later t = ap (λ (l : List (List ToldSecond)). x ∷ l) (on-behind (y ∷ earlier) span next later t)

last-on : (ss : List (List ToldSecond)) (t : ToldSecond) → SpansGoOn ss (go_on ss t)
last-on ss t u r = by r.later refl
  where
    by : (later : List (List ToldSecond)) → r.later ≡ later → GoesIn ss (go_on ss t) u r
    by [] is = (
      r.t,
      r.behind ++ t ∷ [],
      [],
      ap (λ (l : List (List ToldSecond)). go_on l t) (r.are ∙ ap (λ (l : List (List ToldSecond)). r.earlier ++ (r.span ++ r.t ∷ r.behind) ∷ l) is)
          ∙ on-last r.earlier (r.span ++ r.t ∷ r.behind) t
          ∙ ap (λ (l : List ToldSecond). r.earlier ++ l ∷ []) (append_assoc r.span (r.t ∷ r.behind) (t ∷ [])),
      refl,
      refl,
    )
    by (next ∷ later) is = (
      r.t,
      r.behind,
      go_on (next ∷ later) t,
      ap (λ (l : List (List ToldSecond)). go_on l t) (r.are ∙ ap (λ (l : List (List ToldSecond)). r.earlier ++ (r.span ++ r.t ∷ r.behind) ∷ l) is) ∙ on-behind r.earlier (r.span ++ r.t ∷ r.behind) next later t,
      refl,
      refl,
    )

-- ONE SECOND MORE
one-more : (ss : List (List ToldSecond)) (t : ToldSecond) → SpansGoOn ss (spans_with ss t)
one-more ss t = by t.lit t.starts refl refl
  where
    by : (lit starts : Bool) → t.lit ≡ lit → t.starts ≡ starts → SpansGoOn ss (spans_with ss t)
    by true true lit starts = subst (λ (l : List (List ToldSecond)). SpansGoOn ss l) (sym (spans-new ss t lit starts)) (new-span ss t)
    by true false lit starts = subst (λ (l : List (List ToldSecond)). SpansGoOn ss l) (sym (spans-kept ss t lit starts)) (last-on ss t)
    by false starts dark is = subst (λ (l : List (List ToldSecond)). SpansGoOn ss l) (sym (spans-dark ss t dark)) (spans-same ss)

-- AND SOME MORE
pub spans-more : (told more : List ToldSecond) → SpansGoOn (spans_of told) (spans_of (told ++ more))
spans-more told [] = subst (λ (l : List ToldSecond). SpansGoOn (spans_of told) (spans_of l)) (sym (append-nil told)) (spans-same (spans_of told))
spans-more told (t ∷ more) =
    spans-on (spans_of told) (spans_of (told ++ t ∷ [])) (spans_of (told ++ t ∷ more)) (subst (λ (l : List (List ToldSecond)). SpansGoOn (spans_of told) l) (sym (spans-one told t)) (one-more (spans_of told) t))
    (subst (λ (l : List ToldSecond). SpansGoOn (spans_of (told ++ t ∷ [])) (spans_of l)) (append_assoc told (t ∷ []) more) (spans-more (told ++ t ∷ []) more))

-- WHATEVER IS TOLD of the last second of the last span
last-alike : (ss : List (List ToldSecond)) (span : List ToldSecond) (t x : ToldSecond) → x.second.number ≡ t.second.number → x.second.speed ≡ t.second.speed → SpansGoOn (ss ++ (span ++ t ∷ []) ∷ []) (ss ++ (span ++ x ∷ []) ∷ [])
last-alike ss span t x number speed u r = by r.later (at-end r.later) refl
  where
    -- the second lies in the last span
    in-last : (behind : List ToldSecond) → AtEnd behind → r.behind ≡ behind → r.earlier ≡ ss → r.span ++ r.t ∷ r.behind ≡ span ++ t ∷ [] → GoesIn (ss ++ (span ++ t ∷ []) ∷ []) (ss ++ (span ++ x ∷ []) ∷ []) u r
    in-last _ nothing is front own =
        let same = same_from_push r.span span r.t t (ap (λ (l : List ToldSecond). r.span ++ r.t ∷ l) (sym is) ∙ own) in
        let before : ss ≡ r.earlier = sym front in
        let mine : span ≡ r.span = sym same.0 in
        (x, [], [], (λ i. before i ++ (mine i ++ x ∷ []) ∷ []), number ∙ ap (λ (q : ToldSecond). q.second.number) (sym same.1), speed ∙ ap (λ (q : ToldSecond). q.second.speed) (sym same.1))
    in-last _ (push behind y) is front own =
        let same = same_from_push (r.span ++ r.t ∷ behind) span y t (append_assoc r.span (r.t ∷ behind) (y ∷ []) ∙ ap (λ (l : List ToldSecond). r.span ++ r.t ∷ l) (sym is) ∙ own) in
        let before : ss ≡ r.earlier = sym front in
        let mine : span ≡ r.span ++ r.t ∷ behind = sym same.0 in
        (r.t, behind ++ x ∷ [], [], (λ i. before i ++ (mine i ++ x ∷ []) ∷ []) ∙ ap (λ (l : List ToldSecond). r.earlier ++ l ∷ []) (append_assoc r.span (r.t ∷ behind) (x ∷ [])), refl, refl)

    by : (later : List (List ToldSecond)) → AtEnd later → r.later ≡ later → GoesIn (ss ++ (span ++ t ∷ []) ∷ []) (ss ++ (span ++ x ∷ []) ∷ []) u r
    by _ nothing is =
        let same = same_from_push r.earlier ss (r.span ++ r.t ∷ r.behind) (span ++ t ∷ []) (sym (r.are ∙ ap (λ (l : List (List ToldSecond)). r.earlier ++ (r.span ++ r.t ∷ r.behind) ∷ l) is)) in
        in-last r.behind (at-end r.behind) refl same.0 same.1
    by _ (push later y) is =
        let same = same_from_push (r.earlier ++ (r.span ++ r.t ∷ r.behind) ∷ later) ss y (span ++ t ∷ [])
        (append_assoc r.earlier ((r.span ++ r.t ∷ r.behind) ∷ later) (y ∷ []) ∙ sym (r.are ∙ ap (λ (l : List (List ToldSecond)). r.earlier ++ (r.span ++ r.t ∷ r.behind) ∷ l) is)) in (
          r.t,
          r.behind,
          later ++ (span ++ x ∷ []) ∷ [],
          ap (λ (l : List (List ToldSecond)). l ++ (span ++ x ∷ []) ∷ []) (sym same.0) ∙ append_assoc r.earlier ((r.span ++ r.t ∷ r.behind) ∷ later) ((span ++ x ∷ []) ∷ []),
          refl,
          refl,
        )

with-alike : (ss : List (List ToldSecond)) (t x : ToldSecond) → AreAlike t x → SpansGoOn (spans_with ss t) (spans_with ss x)
with-alike ss t x alike = by t.lit t.starts refl refl
  where
    on : (l : List (List ToldSecond)) → AtEnd l → SpansGoOn (go_on l t) (go_on l x)
    on _ nothing = last-alike [] [] t x alike.number alike.speed
    on _ (push l y) = spans-as (l ++ (y ++ t ∷ []) ∷ []) (go_on (l ++ y ∷ []) t) (l ++ (y ++ x ∷ []) ∷ []) (go_on (l ++ y ∷ []) x) (sym (on-last l y t)) (sym (on-last l y x)) (last-alike l y t x alike.number alike.speed)

    by : (lit starts : Bool) → t.lit ≡ lit → t.starts ≡ starts → SpansGoOn (spans_with ss t) (spans_with ss x)
    by true true lit starts =
        spans-as (ss ++ (t ∷ []) ∷ []) (spans_with ss t) (ss ++ (x ∷ []) ∷ []) (spans_with ss x) (sym (spans-new ss t lit starts)) (sym (spans-new ss x (alike.lit ∙ lit) (alike.starts ∙ starts))) (last-alike ss [] t x alike.number alike.speed)
    by true false lit starts = spans-as (go_on ss t) (spans_with ss t) (go_on ss x) (spans_with ss x) (sym (spans-kept ss t lit starts)) (sym (spans-kept ss x (alike.lit ∙ lit) (alike.starts ∙ starts))) (on ss (at-end ss))
    by false starts dark is = spans-as ss (spans_with ss t) ss (spans_with ss x) (sym (spans-dark ss t dark)) (sym (spans-dark ss x (alike.lit ∙ dark))) (spans-same ss)

-- OF THE LAST SECOND OF ALL
pub spans-alike : (told : List ToldSecond) (t x : ToldSecond) → AreAlike t x → SpansGoOn (spans_of (told ++ t ∷ [])) (spans_of (told ++ x ∷ []))
spans-alike told t x alike =
    spans-as (spans_with (spans_of told) t) (spans_of (told ++ t ∷ [])) (spans_with (spans_of told) x) (spans_of (told ++ x ∷ [])) (sym (spans-one told t)) (sym (spans-one told x)) (with-alike (spans_of told) t x alike)

-- ---- truths that stay

pub grow-self : (t : Truths) → Grow t t
grow-self t = record { accepted = λ f odometer h. h; kept = λ k h. h; closed = λ f second word h. h; owed = λ c f mark es h. h; got = λ c es h. h; entered = λ c f h. h }

pub grow-on : (t u v : Truths) → Grow t u → Grow u v → Grow t v
grow-on t u v first next = record {
  accepted = λ f odometer h. next.accepted f odometer (first.accepted f odometer h);
  kept = λ k h. next.kept k (first.kept k h);
  closed = λ f second word h. next.closed f second word (first.closed f second word h);
  owed = λ c f mark es h. next.owed c f mark es (first.owed c f mark es h);
  got = λ c es h. next.got c es (first.got c es h);
  entered = λ c f h. next.entered c f (first.entered c f h);
}

-- with more marks,
pub marked-grow : (marks now : List Mark) (t u : Truths) → ((mark : Mark) → Contains marks mark → Contains now mark) → Grow t u → Grow (marked marks t) (marked now u)
marked-grow marks now t u stay on = record {
  accepted = on.accepted;
  kept = on.kept;
  closed = on.closed;
  owed = λ c f mark es h. (on.owed c f mark es h.0, marked-on marks now stay c es h.1);
  got = λ c es h. marked-on marks now stay c es h;
  entered = on.entered;
}

-- or with the same
pub marked-still : (marks : List Mark) (t u : Truths) → Grow t u → Grow (marked marks t) (marked marks u)
marked-still marks t u on = marked-grow marks marks t u (λ mark at. at) on

-- odometers and words of seconds that lie in spans which have gone on
before-on : (rule : Rule) (start : ℕ) (a b : List (List ToldSecond)) → SpansGoOn a b → (u odometer : ℕ) → IsOdometerBefore rule start a u odometer → IsOdometerBefore rule start b u odometer
before-on rule start a b on u odometer h =
    let m = on u h.at in
    record { at = record { earlier = h.at.earlier; span = h.at.span; t = m.0; behind = m.1; later = m.2; are = m.3; number = m.4 ∙ h.at.number }; is = h.is }

behind-on : (rule : Rule) (start : ℕ) (a b : List (List ToldSecond)) → SpansGoOn a b → (u odometer : ℕ) → IsOdometerBehind rule start a u odometer → IsOdometerBehind rule start b u odometer
behind-on rule start a b on u odometer h =
    let m = on u h.at in
    let driven : driven_in (h.at.span ++ h.at.t ∷ []) ≡ driven_in (h.at.span ++ m.0 ∷ []) =
    driven-push h.at.span h.at.t ∙ ap (λ (n : ℕ). driven_in h.at.span + n) (sym m.5) ∙ sym (driven-push h.at.span m.0) in
    record {
      at = record { earlier = h.at.earlier; span = h.at.span; t = m.0; behind = m.1; later = m.2; are = m.3; number = m.4 ∙ h.at.number };
      is = h.is ∙ ap (λ (n : ℕ). odometer_after start (whole_legs rule h.at.earlier ++ n ∷ [])) driven;
    }

-- A RUN THAT GOES ON takes nothing back
pub past-grows : (rule : Rule) (start : ℕ) (p q : Past) (owed now : Card → Find → (mark : ℕ) → List Entry → Type 0) → PastGoesOn p q → ((c : Card) (f : Find) (mark : ℕ) (es : List Entry) → owed c f mark es → now c f mark es) →
    Grow (truths_by rule start p owed) (truths_by rule start q now)
past-grows rule start p q owed now on goes = record {
  accepted = λ f odometer h. before-on rule start p.spans q.spans on.spans f.second odometer h;
  kept = λ k h. behind-on rule start p.spans q.spans on.spans (60 * k.entry.minute + 59) k.odometer.0 h;
  closed = λ f second word h.
      let m = on.spans second h.at in
      record {
        at = record { earlier = h.at.earlier; span = h.at.span; t = m.0; behind = m.1; later = m.2; are = m.3; number = m.4 ∙ h.at.number };
        s = h.s;
        among = on.seconds h.s h.among;
        number = h.number;
        is = h.is;
      };
  owed = goes;
  got = λ c es h. h;
  entered = λ c f h. record { s = h.s; among = on.seconds h.s h.among; number = h.number; puts = h.puts };
}
