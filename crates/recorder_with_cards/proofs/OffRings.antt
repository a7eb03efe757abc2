-- The last second turns out to be a cut's, as an `off` line says: it has noted the same, all odometers are the same, and all readings of them.
use Rattle.std.proofs.Common.{◌≡◌, ◌∙◌, inl, inr, ⊎_elim, ℕ, ◌+◌, ◌-◌, ◌/◌, ◌<◌, min, Bool, true, false, cond, not, ◌&&◌, ◌||◌, nat_eq, Option, Some, None, is_some, List, [], ◌∷◌, ◌++◌, All, Contains, length, map, filter, sum, refl, ap, sym, subst, arith, append-nil, length-append}
use Rattle.std.specs.Prelude.{nat_lt, sum_by}
use Rattle.std.specs.List.{list_any}
use Rattle.std.proofs.lemmas.Bool.Decides.{nat_tests}
use Rattle.std.proofs.lemmas.List.Elements.{All-nil, All-cons}
use Rattle.trace_model.specs.declared.Card.{Card}
use Rattle.trace_model.specs.Trace.{TraceSecond}
use Rattle.minute_rules.specs.minute_model.Second.{Second}
use Rattle.minute_rules.specs.minute_model.declared.Rule.{Rule}
use Rattle.device_calls.specs.history_model.Presence.{Start}
use Rattle.unit_minutes.specs.unit_model.declared.layout.TheConstants.{HIGHEST_ODOMETER}
use Rattle.log_model.specs.declared.lines.Break.{Break}
use Rattle.log_model.specs.Log.{RunLog, In, cut_in, is_torn_in}
use Rattle.log_model.specs.Same.{SameAt}
use Rattle.log_model.specs.Spans.{seconds_in, AreInOrder}
use Rattle.log_model.specs.Course.{ToldSecond, Before, Went, begins, has_power, second_told, went}
use Rattle.log_model.proofs.Growth.{went-more}
use Rattle.log_model.proofs.Spanning.{order-parts}
use Rattle.device_calls.specs.note_model.Odometer.{SpanFrom, odometer_before, has_second, odometer_at}
use Rattle.device_calls.specs.note_model.Noted.{Note}
use Rattle.device_calls.specs.unit_rule.Odometer.{odometer_by}
use Rattle.device_calls.specs.run_unit_course.Lines.{cut_at}
use Rattle.device_calls.specs.run_unit_course.Followed.{Lit}
use Rattle.device_calls.specs.run_unit_course.Turn.{cut_last}
use Rattle.device_calls.proofs.run_unit_course.Spans.{cut_spans, cut-spans-last}
use Rattle.device_calls.specs.safety_model.Safe.{Devices}
use Rattle.run_acts.specs.run_course.Moments.{and_break}
use Rattle.run_acts.specs.run_course.Followed.{Progress, BookFollowsRun, HadActions}
use Rattle.run_acts.proofs.run_course.Lookups.{break-more}
use Rattle.run_acts.proofs.run_course.Logs.{other-number, all-before, same-at, went-later}
use Rattle.run_acts.proofs.run_course.Steps.{spans-cut, cut-parts}
use Rattle.run_acts.proofs.run_course.Told.{told-lit}
use Rattle.device_calls.specs.event_model.Events.{Seen}
use Rattle.run_acts.specs.run_events.Running.{IsCutOff}
use Rattle.run_acts.proofs.run_events.Offs.{seen-off}
use Rattle.run_acts.proofs.run_note_record.Opened.{come-as}
use Rattle.run_acts.specs.run_rings.Notes.{notes_to, TellSameTo}
use Rattle.run_acts.specs.run_rings.Spans.{AreBefore, AreAllBefore}
use Rattle.run_acts.proofs.run_rings.Notes.{later-lines, second-noted}
use Rattle.run_acts.proofs.run_rings.Same.{rings-left}
use Rattle.run_minutes.specs.run_promise.Origin.{Origin}
use Rattle.run_acts.specs.run_note_record.Ringed.{Seating, Ringed, notes_in, noted_next, since_behind}
use Rattle.run_acts.specs.run_note_record.OnCards.{EndBefore, BeginWith, IsReading}
use Rattle.run_acts.specs.run_note_record.RingsSoFar.{AreEarlier, RingedBehind, AreFewer}
use Rattle.run_acts.proofs.run_note_record.Noted.{second-notes}
use Rattle.run_acts.specs.run_note_record.Moved.{Move, moves_in, moves_so_far}
use Rattle.run_acts.specs.run_note_record.Sessions.{IsBrokenSince}
use Rattle.run_acts.proofs.run_note_record.Moved.{moves-later, moves-on, by-power, moves-ended}
use Rattle.run_acts.proofs.run_note_record.OnCards.{call-failed-more, stay-itself}
use Rattle.run_acts.proofs.run_note_record.Sessions.{stay-may}
use Rattle.run_acts.proofs.run_note_record.Rings.{fewer-sit, rings-stay, come-before}
use Rattle.run_acts.proofs.run_note_record.SoFar.{failed-more, goes-alike, left-itself}
use Rattle.run_acts.specs.Truths.{Grow, truths_of}
use Rattle.run_acts.proofs.TruthsThen.{truths-end}

-- ---- the spans: the last second of the last one is a cut's

abbrev pub cut_off : List SpanFrom → List SpanFrom
cut_off [] = []
cut_off (s ∷ []) = record { base = s.base; span = cut_last s.span } ∷ []
cut_off (s ∷ next ∷ spans) = s ∷ cut_off (next ∷ spans)

cut-are : (spans : List SpanFrom) → map (λ (s : SpanFrom). s.span) (cut_off spans) ≡ cut_spans (map (λ (s : SpanFrom). s.span) spans)
cut-are [] = refl
cut-are (s ∷ []) = refl
cut-are (s ∷ next ∷ spans) = ap (λ (l : List (List ToldSecond)). s.span ∷ l) (cut-are (next ∷ spans))

-- the same seconds
cut-seconds : (span : List ToldSecond) → seconds_in (cut_last span) ≡ seconds_in span
cut-seconds [] = refl
cut-seconds (t ∷ []) = refl
cut-seconds (t ∷ u ∷ span) = ap (λ (l : List Second). t.second ∷ l) (cut-seconds (u ∷ span))

cut-before : (u : ℕ) (spans : List SpanFrom) → AreAllBefore u spans → AreAllBefore u (cut_off spans)
cut-before u [] all = tt
cut-before u (s ∷ []) all = (subst (AreBefore u) (sym (cut-seconds s.span)) all.0, tt)
cut-before u (s ∷ next ∷ spans) all = (all.0, cut-before u (next ∷ spans) all.1)

-- the same odometers
cut-has : (u : ℕ) (span : List ToldSecond) → list_any (λ (t : ToldSecond). nat_eq t.second.number u) (cut_last span) ≡ list_any (λ (t : ToldSecond). nat_eq t.second.number u) span
cut-has u [] = refl
cut-has u (t ∷ []) = refl
cut-has u (t ∷ x ∷ span) = ap (λ (b : Bool). nat_eq t.second.number u || b) (cut-has u (x ∷ span))

cut-travelled : (u base : ℕ) (span : List ToldSecond) → odometer_before u (record { base = base; span = cut_last span }) ≡ odometer_before u (record { base = base; span = span })
cut-travelled u base span = ap (λ (l : List Second). min HIGHEST_ODOMETER (base + sum (map (λ (s : Second). s.speed) (filter (λ (s : Second). nat_lt s.number u) l)) / 3600)) (cut-seconds span)

pub cut-odometer : (spans : List SpanFrom) (u : ℕ) → odometer_at u (cut_off spans) ≡ odometer_at u spans
cut-odometer [] u = refl
cut-odometer (s ∷ []) u =
    ap (λ (b : Bool). cond b (odometer_before u (record { base = s.base; span = cut_last s.span })) 0) (cut-has u s.span)
    ∙ ap (λ (n : ℕ). cond (list_any (λ (t : ToldSecond). nat_eq t.second.number u) s.span) n 0) (cut-travelled u s.base s.span)
cut-odometer (s ∷ next ∷ spans) u = ap (λ (n : ℕ). cond (has_second u s) (odometer_before u s) n) (cut-odometer (next ∷ spans) u)

-- the same readings
cut-front : (front behind : List ToldSecond) → (x : List ToldSecond) × (y : List ToldSecond) × (cut_last (front ++ behind) ≡ x ++ y) × (seconds_in x ≡ seconds_in front) × (seconds_in y ≡ seconds_in behind)
cut-front [] behind = ([], cut_last behind, refl, refl, cut-seconds behind)
cut-front (t ∷ []) [] = (cut_last (t ∷ []), [], sym (append-nil (cut_last (t ∷ []))), cut-seconds (t ∷ []), refl)
cut-front (t ∷ []) (u ∷ behind) = (t ∷ [], cut_last (u ∷ behind), refl, refl, cut-seconds (u ∷ behind))
cut-front (t ∷ u ∷ front) behind =
    let rest = cut-front (u ∷ front) behind in
    (t ∷ rest.0, rest.1, ap (λ (l : List ToldSecond). t ∷ l) rest.2, ap (λ (l : List Second). t.second ∷ l) rest.3, rest.4)

abbrev cut_one : SpanFrom → SpanFrom
cut_one s = record { base = s.base; span = cut_last s.span }

off-last : (earlier : List SpanFrom) (s : SpanFrom) → cut_off (earlier ++ s ∷ []) ≡ earlier ++ cut_one s ∷ []
off-last [] s = refl
off-last (x ∷ []) s = refl
off-last (x ∷ y ∷ earlier) s = ap (λ (l : List SpanFrom). x ∷ l) (off-last (y ∷ earlier) s)

off-earlier : (earlier : List SpanFrom) (s next : SpanFrom) (later : List SpanFrom) → cut_off (earlier ++ s ∷ next ∷ later) ≡ earlier ++ s ∷ cut_off (next ∷ later)
off-earlier [] s next later = refl
off-earlier (x ∷ []) s next later = refl
off-earlier (x ∷ y ∷ earlier) s next later = ap (λ (l : List SpanFrom). x ∷ l) (off-earlier (y ∷ earlier) s next later)

reads-cut : (spans : List SpanFrom) (u n : ℕ) → IsReading spans u n → IsReading (cut_off spans) u n
reads-cut spans u n r = by r.later refl
  where
    by : (later : List SpanFrom) → r.later ≡ later → IsReading (cut_off spans) u n
    by [] is =
        let cuts = cut-front r.front r.behind in
        record {
          earlier = r.earlier;
          s = cut_one r.s;
          later = [];
          are = ap cut_off (r.are ∙ ap (λ (l : List SpanFrom). r.earlier ++ r.s ∷ l) is) ∙ off-last r.earlier r.s;
          front = cuts.0;
          behind = cuts.1;
          parts = ap cut_last r.parts ∙ cuts.2;
          is = r.is ∙ ap (λ (l : List Second). odometer_by r.s.base (sum_by (λ (x : Second). x.speed) l)) (sym cuts.3);
          when = ⊎_elim (λ at. inl (subst (EndBefore u) (sym cuts.3) at)) (λ at. inr (subst (BeginWith u) (sym cuts.4) at)) r.when;
        }
    by (next ∷ later) is = record {
      earlier = r.earlier;
      s = r.s;
      later = cut_off (next ∷ later);
      are = ap cut_off (r.are ∙ ap (λ (l : List SpanFrom). r.earlier ++ r.s ∷ l) is) ∙ off-earlier r.earlier r.s next later;
      front = r.front;
      behind = r.behind;
      parts = r.parts;
      is = r.is;
      when = r.when;
    }

-- ---- the notes

and-first : (a b : Bool) → (a && b) ≡ true → a ≡ true
and-first true b is = refl
and-first false b is = absurd (cc)

below : (k n : ℕ) → k < n → nat_lt k n ≡ true
below k n lt = grind (arith, nat_tests)

here : (u : ℕ) → nat_eq u u ≡ true
here u = grind (arith, nat_tests)

or-nothing : (b : Bool) → (b || false) ≡ b
or-nothing true = refl
or-nothing false = refl

same-all : (log : RunLog) (ss : List TraceSecond) → All (λ (x : TraceSecond). SameAt log log x.number) ss
same-all log [] = All-nil (λ (x : TraceSecond). SameAt log log x.number)
same-all log (s ∷ ss) = All-cons (λ (x : TraceSecond). SameAt log log x.number) s ss (record { cut = refl; torn = λ p slot. refl; found = λ p slot. refl }) (same-all log ss)

module _ (rule : Rule) (start : Start) (from first : ℕ) (p : Progress) (t : ToldSecond) (span : List ToldSecond) (front : List TraceSecond) (r : TraceSecond) (f : BookFollowsRun rule start from first (front ++ r ∷ []) (record p { supply = Lit (t ∷ span); waiting = [] })) (count : length r.actions ≡ p.begun) where
  abbrev cut : Break
  cut = cut_at (p.next - 1) false p.begun

  abbrev later : RunLog
  later = and_break p.log cut

  pub order : AreInOrder from front × (r.number ≡ from + length front)
  order = order-parts from front r f.order

  pub number : r.number ≡ p.next - 1
  number = let n = order.1 in let next = f.next in let many = length-append front (r ∷ []) in omega (arith, n, next, many)

  pub same : All (λ (x : TraceSecond). SameAt p.log later x.number) front
  same = all-before (λ (u : ℕ). SameAt p.log later u) from front order.0
      (λ u lt. same-at p.log later (p.next - 1) (cut ∷ []) refl (refl, tt) [] (sym (append-nil p.log.finds)) tt u (other-number (p.next - 1) u (let n = order.1 in let is = number in omega (arith, lt, n, is))))

  pub front-same : went later front ≡ went p.log front
  front-same = went-later p.log later (p.next - 1) (cut ∷ []) refl (refl, tt) [] (sym (append-nil p.log.finds)) tt from front order.0 (let n = order.1 in let is = number in omega (arith, n, is))

  before-same : (went later front).before ≡ (went p.log front).before
  before-same = ap (λ (w : Went). w.before) front-same

  abbrev x : ToldSecond
  x = second_told p.log (went p.log front).before r

  runs : (x.lit && not x.cut) ≡ true
  runs = sym (ap (λ (w : Went). w.before.running) (went-more p.log front r)) ∙ f.power.running

  pub power : has_power (went p.log front).before r ≡ true
  power = sym (told-lit p.log (went p.log front).before r) ∙ and-first x.lit (not x.cut) runs

  pub uncut : cut_in p.log r.number ≡ None
  uncut =
      let parts = cut-parts rule start from first (front ++ r ∷ []) p t span f in
      ap (cut_in p.log) (number ∙ sym parts.6) ∙ parts.7

  pub now-cut : cut_in later r.number ≡ Some (length r.actions)
  now-cut =
      (break-more p.log cut r.number).cut ∙ ap (λ (c : Option ℕ). cond (is_some c) c (cond (nat_eq (p.next - 1) r.number) (Some p.begun) None)) uncut
      ∙ ap (λ (b : Bool). cond b (Some p.begun) None) (ap (nat_eq (p.next - 1)) number ∙ here (p.next - 1)) ∙ ap (λ (n : ℕ). Some n) (sym count)

  pub tells : TellSameTo p.log later r.number (length r.actions)
  tells = record {
    begun = λ k lt. ap (λ (c : Option ℕ). begins c k) uncut;
    begun_later = λ k lt. ap (λ (c : Option ℕ). begins c k) now-cut ∙ below k (length r.actions) lt;
    torn = λ k slot le. (break-more p.log cut r.number).torn (In k) slot ∙ or-nothing (is_torn_in p.log r.number (In k) slot);
    found = λ k slot le. (break-more p.log cut r.number).found (In k) slot;
  }

  next-same : noted_next later front r ≡ noted_next p.log front r
  next-same =
      second-noted later (went later front).before r (ap (λ (b : Before). has_power b r) before-same ∙ power)
      ∙ ap (λ (b : Before). notes_to later b r r.actions) before-same
      ∙ later-lines p.log later (went p.log front).before r r.actions tells
      ∙ sym (second-noted p.log (went p.log front).before r power)

  pub notes-same : notes_in later (front ++ r ∷ []) ≡ notes_in p.log (front ++ r ∷ [])
  notes-same =
      second-notes p.log later front r same ∙ ap (λ (l : List Note). notes_in p.log front ++ l) next-same
      ∙ sym (second-notes p.log p.log front r (same-all p.log front))

  -- and moved the same cards
  moves-stay : (m : Move) → Contains (moves_in p.log (front ++ r ∷ [])) m → Contains (moves_in later (front ++ r ∷ [])) m
  moves-stay m at =
      let was : Before = (went p.log front).before in
      let whole : moves_in p.log (front ++ r ∷ []) ≡ moves_so_far p.log front p.log r r.actions = moves-on p.log front r ∙ ap (λ (l : List Move). moves_in p.log front ++ l) (by-power p.log was r power) in
      moves-ended p.log later front r r.actions [] same before-same power (sym (append-nil r.actions)) m
      (subst (λ (l : List Move). Contains l m) (whole ∙ ap (λ (l : List Move). moves_in p.log front ++ l) (sym (moves-later p.log later r was r.actions tells))) at)

  off : IsCutOff p.log later r
  off = record {
    uncut = uncut;
    cut = now-cut;
    torn = λ q slot. (break-more p.log cut r.number).torn q slot ∙ or-nothing (is_torn_in p.log r.number q slot);
    found = λ q slot. (break-more p.log cut r.number).found q slot;
  }

  -- who entered in it
  entered-same : (second_told later (went later front).before r).course.entered ≡ (second_told p.log (went p.log front).before r).course.entered
  entered-same = ap (λ (b : Before). (second_told later b r).course.entered) before-same ∙ ap (λ (z : Seen). z.told.course.entered) (seen-off p.log later r off (went p.log front).before power)

  module _ (o : Origin) (d : Devices) (spans : List SpanFrom) (seats fewer : Card → Option Seating) (v : RingedBehind o (front ++ r ∷ []) p.log p.next spans seats d) (few : AreFewer seats fewer) where
    pub off-behind : RingedBehind o (front ++ r ∷ []) later p.next (cut_off spans) fewer d
    off-behind =
        let done : List TraceSecond = front ++ r ∷ [] in
        let ringed : Ringed (since_behind o p.log done) later (cut_off spans) (notes_in p.log done) seats d =
        rings-stay d d (since_behind o p.log done) p.log later spans (cut_off spans) (notes_in p.log done) seats v.ringed (rings-left d.unit) (left-itself o d) (stay-may o (cut_off spans) (λ c t. IsBrokenSince (moves_in p.log done) later c (notes_in p.log done) t) d d (stay-itself o (cut_off spans) d))
        (goes-alike p.log later spans (cut_off spans) (notes_in p.log done) (failed-more p.log later (cut ∷ [], refl)) (call-failed-more p.log later (cut ∷ [], refl)) (cut-odometer spans) (reads-cut spans)) in
        let now : Ringed (since_behind o later done) later (cut_off spans) (notes_in p.log done) seats d =
        come-before d o (went p.log done).told (went later done).told done done (moves_in p.log done) (moves_in later done) (come-as p.log later front r front-same entered-same done) moves-stay later (cut_off spans) (notes_in p.log done) seats ringed in
        record {
          spans_are = cut-are spans ∙ ap cut_spans (v.spans_are ∙ f.spans) ∙ cut-spans-last f.ended (t ∷ span) ∙ sym (spans-cut rule start from first done p t span f);
          before = cut-before p.next spans v.before;
          early = subst (AreEarlier p.next) (sym notes-same) v.early;
          ringed = subst (λ (l : List Note). Ringed (since_behind o later done) later (cut_off spans) l fewer d) (sym notes-same) (fewer-sit d (since_behind o later done) later (cut_off spans) (notes_in p.log done) seats fewer now few);
        }

-- THE LAST SECOND OF A SPAN TURNS OUT TO BE A CUT'S: it has noted the same
pub off-cut-notes : (rule : Rule) (start : Start) (from first : ℕ) (done : List TraceSecond) (p : Progress) (t : ToldSecond) (span : List ToldSecond) → BookFollowsRun rule start from first done (record p { supply = Lit (t ∷ span); waiting = [] }) →
    notes_in (and_break p.log (cut_at (p.next - 1) false p.begun)) done ≡ notes_in p.log done
off-cut-notes rule start from first done p t span f =
    let had : HadActions done p.begun = f.last in
    let r : TraceSecond = record { number = had.number; has_power = true; speed = had.speed; actions = had.actions } in
    subst (λ (ss : List TraceSecond). notes_in (and_break p.log (cut_at (p.next - 1) false p.begun)) ss ≡ notes_in p.log ss) (sym had.are)
    (notes-same rule start from first p t span had.before r (subst (λ (ss : List TraceSecond). BookFollowsRun rule start from first ss (record p { supply = Lit (t ∷ span); waiting = [] })) had.are f) had.count)

-- what was true of stays is so
pub off-cut-true : (rule : Rule) (start : Start) (from first : ℕ) (done : List TraceSecond) (p : Progress) (t : ToldSecond) (span : List ToldSecond) → BookFollowsRun rule start from first done (record p { supply = Lit (t ∷ span); waiting = [] }) → (o : Origin) →
    Grow (truths_of o p.log done) (truths_of o (and_break p.log (cut_at (p.next - 1) false p.begun)) done)
off-cut-true rule start from first done p t span f o =
    let had : HadActions done p.begun = f.last in
    let r : TraceSecond = record { number = had.number; has_power = true; speed = had.speed; actions = had.actions } in
    subst (λ (ss : List TraceSecond). Grow (truths_of o p.log ss) (truths_of o (and_break p.log (cut_at (p.next - 1) false p.begun)) ss)) (sym had.are)
    (truths-end o p.log (and_break p.log (cut_at (p.next - 1) false p.begun)) had.before r
    (front-same rule start from first p t span had.before r (subst (λ (ss : List TraceSecond). BookFollowsRun rule start from first ss (record p { supply = Lit (t ∷ span); waiting = [] })) had.are f) had.count))

-- what is carried of the rings goes on, with fewer cards accepted.
pub off-cut-rings : (rule : Rule) (start : Start) (from first : ℕ) (done : List TraceSecond) (p : Progress) (t : ToldSecond) (span : List ToldSecond) → BookFollowsRun rule start from first done (record p { supply = Lit (t ∷ span); waiting = [] }) →
    (o : Origin) (d : Devices) (spans : List SpanFrom) (seats fewer : Card → Option Seating) → RingedBehind o done p.log p.next spans seats d → AreFewer seats fewer →
    RingedBehind o done (and_break p.log (cut_at (p.next - 1) false p.begun)) p.next (cut_off spans) fewer d
off-cut-rings rule start from first done p t span f o d spans seats fewer v few =
    let had : HadActions done p.begun = f.last in
    let r : TraceSecond = record { number = had.number; has_power = true; speed = had.speed; actions = had.actions } in
    subst (λ (ss : List TraceSecond). RingedBehind o ss (and_break p.log (cut_at (p.next - 1) false p.begun)) p.next (cut_off spans) fewer d) (sym had.are)
    (off-behind rule start from first p t span had.before r (subst (λ (ss : List TraceSecond). BookFollowsRun rule start from first ss (record p { supply = Lit (t ∷ span); waiting = [] })) had.are f) had.count o d spans seats fewer
    (subst (λ (ss : List TraceSecond). RingedBehind o ss p.log p.next spans seats d) had.are v) few)
