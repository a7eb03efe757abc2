-- What was found of cards, and which cards may be written, as the seconds of a run go on.
use Rattle.std.proofs.Common.{◌≡◌, ◌⊎◌, inl, inr, ⊎_elim, ℕ, zero, suc, ◌+◌, ◌-◌, ◌/◌, ◌<◌, ◌≤◌, Bool, true, false, cond, nat_eq, nat_le, ◌&&◌, List, [], ◌∷◌, ◌++◌, All, Contains, length, map, filter, drop, refl, ap, sym, subst, ◌∙◌, arith, append-nil, length-append}
use Rattle.std.specs.Prelude.{flat_map}
use Rattle.std.specs.List.{AllByRecursion}
use Rattle.std.proofs.lemmas.Bool.Decides.{nat_tests}
use Rattle.std.proofs.lemmas.Grind.{flat_map-append}
use Rattle.std.proofs.lemmas.List.{map-append}
use Rattle.std.proofs.lemmas.List.Elements.{All-weaker, Contains-append_left, Contains-append_right, Contains-append_cases, Contains-push, Contains-push_cases}
use Rattle.run_course.specs.activity_codec.declared.entries.Entry.{Entry}
use Rattle.run_course.specs.trace_model.declared.Card.{Card}
use Rattle.run_course.specs.trace_model.declared.Action.{Action}
use Rattle.run_course.specs.trace_model.Trace.{TraceSecond, driven, dark}
use Rattle.run_course.specs.minute_model.Span.{AreNumbered}
use Rattle.run_course.specs.log_model.declared.lines.Break.{Break}
use Rattle.run_course.specs.log_model.declared.lines.Break.TheVariants.{Cut, Tear}
use Rattle.run_course.specs.log_model.declared.lines.Mark.{Mark}
use Rattle.run_course.specs.log_model.declared.lines.Verdict.{Verdict}
use Rattle.run_course.specs.log_model.declared.lines.Verdict.TheVariants.{Accepted, NotValid, TimeOverlap}
use Rattle.run_course.specs.log_model.Log.{RunLog}
use Rattle.run_course.specs.log_model.Slots.{Slots, same_card}
use Rattle.run_course.specs.log_model.Course.{ToldSecond, Went, Visit, went}
use Rattle.run_course.specs.log_model.Causes.{device_of, is_cut}
use Rattle.run_course.specs.log_model.Spans.{seconds_in}
use Rattle.run_course.proofs.log_model.Spanning.{spanned}
use Rattle.run_course.specs.history_model.Completeness.{IsMarked}
use Rattle.unit_rule.specs.unit_model.Image.{last_kept}
use Rattle.unit_rule.specs.run_unit_course.Lines.{cut_at, with_kept, found_from}
use Rattle.unit_rule.specs.run_unit_course.Turn.{cut_at_end}
use Rattle.unit_rule.specs.safety_model.Recording.{Recording, brought}
use Rattle.unit_rule.specs.safety_model.Cards.{is_overlap, entered, overlaps}
use Rattle.unit_rule.specs.safety_model.Safe.{Devices, card_of, WasFound, IsUnfound, entered_by, IsVerdict}
use Rattle.run_promise.specs.Found.{found_of}
use Rattle.run_promise.specs.Cards.{IsUntouched}
use Rattle.run_course.specs.Moments.{and_break}
use Rattle.run_course.specs.Followed.{Progress, BookFollowsRun}
use Rattle.run_course.specs.Seconds.{next_told}
use Rattle.run_course.specs.Quiet.{quiet_seconds}
use Rattle.run_course.specs.Dark.{all_dark}
use Rattle.run_course.proofs.Dark.{lost-are-told, off-are-told}
use Rattle.run_course.proofs.Logs.{went-refused, went-found}
use Rattle.run_course.proofs.Quiet.{quiet-are-told}
use Rattle.run_course.proofs.Steps.{now-told, lit-parts, cut-parts}
use Rattle.run_course.specs.Lines.{times_of}
use Rattle.run_course.specs.Moment.{finds_by}
use Rattle.run_course.proofs.Telling.{each-of}
use Rattle.run_promise.specs.Origin.{Origin, rule_of, start_at, first_of}
use Rattle.run_promise.specs.Ends.{recording_by, BringsAll, AreFound, AreVerdicts, MayBeWritten, AreSpared}
use Rattle.run_promise.specs.Beside.{CardsTold, cards_of, TellsMore, HaveLeftMore, MayBeFound, entered_in, AreFewer, AreIdle, ASecondTellsMore, FoundTellsNoMore, QuietSecondsTellMore, DarkSecondsTellMore, AnOffLineTellsMore, AnOffCutTellsMore, FewerAreFound, FewAreFoundOn}

-- NUMBERS of the seconds so far
number-of : (n : ℕ) (told : List ToldSecond) (t : ToldSecond) → AreNumbered n (seconds_in told) → Contains told t → t.second.number < n + length told
number-of n [] t h at = absurd (omega (arith, at.1))
number-of n (x ∷ told) t h at = ⊎_elim
    (λ here. ⊎_elim (λ none. absurd (omega (arith, none.1))) (λ (is : x ≡ t). let e : t.second.number ≡ n = ap (λ (y : ToldSecond). y.second.number) (sym is) ∙ h.0 in omega (arith, e)) (Contains-push_cases [] x t here))
    (λ rest. let lt = number-of (n + 1) told t h.1 rest in omega (arith, lt))
    (Contains-append_cases (x ∷ []) told t at)

pub before-next : (o : Origin) (done : List TraceSecond) (p : Progress) → BookFollowsRun (rule_of o) (start_at o) o.from (first_of o) done p → (t : ToldSecond) → Contains (went p.log done).told t → t.second.number < p.next
before-next o done p f t at =
    let whole = spanned p.log o.from done f.order in
    let lt = number-of o.from (went p.log done).told t whole.seconds at in
    let count = whole.count in
    let next = f.next in
    omega (arith, lt, count, next)

-- WHICH SECONDS go on
pub second-tells : ASecondTellsMore
second-tells o done p f s log goes number = record {
  same = ap (map cards_of) (now-told (rule_of o) (start_at o) o.from (first_of o) done p f.order f.next f.unfound s log goes) ∙ map-append cards_of (went p.log done).told (next_told log done s ∷ []);
  before = before-next o done p f;
  behind = (omega (arith, number), tt);
}

pub found-tells : FoundTellsNoMore
found-tells o done p f k = record {
  same = ap (λ (w : Went). map cards_of w.told) (went-found p.log p.unfound k o.from done f.order) ∙ sym (append-nil (map cards_of (went p.log done).told));
  before = before-next o done p f;
  behind = tt;
}

quiet-behind : (low n number speed : ℕ) (slots : Slots) → low ≤ number → AllByRecursion (λ (t : ToldSecond). low ≤ t.second.number) (quiet_seconds n number speed slots)
quiet-behind low zero number speed slots le = tt
quiet-behind low (suc n) number speed slots le = (le, quiet-behind low n (number + 1) speed slots (omega (arith, le)))

quiet-idle : (n number speed : ℕ) (slots : Slots) → AreIdle (quiet_seconds n number speed slots)
quiet-idle zero number speed slots = tt
quiet-idle (suc n) number speed slots = ((refl, refl), quiet-idle n (number + 1) speed slots)

pub quiet-tells : QuietSecondsTellMore
quiet-tells o done p f t span is n speed =
    let slots : Slots = (went p.log done).before.slots in
    let more : List ToldSecond = quiet_seconds n p.next speed slots in (
      more,
      record {
        same = ap (λ (w : Went). map cards_of w.told) (quiet-are-told (rule_of o) (start_at o) o.from (first_of o) done p f t span is n speed) ∙ map-append cards_of (went p.log done).told more;
        before = before-next o done p f;
        behind = quiet-behind p.next n p.next speed slots (omega arith);
      },
      quiet-idle n p.next speed slots,
    )

dark-behind : (low : ℕ) (ss : List TraceSecond) (slots : Slots) → AllByRecursion (λ (s : TraceSecond). low ≤ s.number) ss → AllByRecursion (λ (t : ToldSecond). low ≤ t.second.number) (all_dark ss slots)
dark-behind low [] slots h = tt
dark-behind low (s ∷ ss) slots h = (h.0, dark-behind low ss slots h.1)

dark-idle : (ss : List TraceSecond) (slots : Slots) → AreIdle (all_dark ss slots)
dark-idle [] slots = tt
dark-idle (s ∷ ss) slots = ((refl, refl), dark-idle ss slots)

driven-from : (low n number speed : ℕ) (actions : List Action) → low ≤ number → AllByRecursion (λ (s : TraceSecond). low ≤ s.number) (driven n number speed actions)
driven-from low zero number speed actions le = tt
driven-from low (suc n) number speed actions le = (le, driven-from low n (number + 1) speed [] (omega (arith, le)))

off-from : (low n number : ℕ) → low ≤ number → AllByRecursion (λ (s : TraceSecond). low ≤ s.number) (dark n number)
off-from low zero number le = tt
off-from low (suc n) number le = (le, off-from low n (number + 1) (omega (arith, le)))

pub dark-tells : DarkSecondsTellMore
dark-tells o done p f is n speed actions refused low high =
    let slots : Slots = (went p.log done).before.slots in
    let more : List ToldSecond = all_dark (driven n p.next speed actions) slots in (
      more,
      record {
        same = ap (λ (w : Went). map cards_of w.told) (went-refused p.log (record p.log { refused = refused }) refl refl (done ++ driven n p.next speed actions))
            ∙ ap (λ (w : Went). map cards_of w.told) (lost-are-told (rule_of o) (start_at o) o.from (first_of o) done p f is n speed actions low high) ∙ map-append cards_of (went p.log done).told more;
        before = before-next o done p f;
        behind = dark-behind p.next (driven n p.next speed actions) slots (driven-from p.next n p.next speed actions (omega arith));
      },
      dark-idle (driven n p.next speed actions) slots,
    )

pub off-tells : AnOffLineTellsMore
off-tells o done p f n =
    let slots : Slots = (went p.log done).before.slots in
    let more : List ToldSecond = all_dark (dark n p.next) slots in (
      more,
      record {
        same = ap (map cards_of) (off-are-told p.log done n p.next).0 ∙ map-append cards_of (went p.log done).told more;
        before = before-next o done p f;
        behind = dark-behind p.next (dark n p.next) slots (off-from p.next n p.next (omega arith));
      },
      dark-idle (dark n p.next) slots,
    )

pub off-cut-tells : AnOffCutTellsMore
off-cut-tells o done p g t span is none n =
    let f = lit-parts (rule_of o) (start_at o) o.from (first_of o) done p g (t ∷ span) is none in
    let log : RunLog = and_break p.log (cut_at (p.next - 1) false p.begun) in
    let parts = cut-parts (rule_of o) (start_at o) o.from (first_of o) done p t span f in
    let slots : Slots = (went log done).before.slots in
    let more : List ToldSecond = all_dark (dark n p.next) slots in (
      more,
      record {
        same = ap (map cards_of) (off-are-told log done n p.next).0 ∙ map-append cards_of (went log done).told more
            ∙ ap (λ (cs : List CardsTold). cs ++ map cards_of more)
            (ap (map cards_of) parts.3 ∙ map-append cards_of parts.0 (cut_at_end parts.1 ∷ []) ∙ sym (map-append cards_of parts.0 (parts.1 ∷ [])) ∙ ap (map cards_of) (sym parts.2));
        before = before-next o done p g;
        behind = dark-behind p.next (dark n p.next) slots (off-from p.next n p.next (omega arith));
      },
      dark-idle (dark n p.next) slots,
    )

-- WHAT WAS FOUND
-- an element of a mapped list
mapped : (told : List ToldSecond) (x : CardsTold) → Contains (map cards_of told) x → (t : ToldSecond) × Contains told t × (cards_of t ≡ x)
mapped [] x at = absurd (omega (arith, at.1))
mapped (t ∷ told) x at = ⊎_elim
    (λ here. ⊎_elim (λ none. absurd (omega (arith, none.1))) (λ (is : cards_of t ≡ x). (t, Contains-append_left (t ∷ []) told t (Contains-push [] t), is)) (Contains-push_cases [] (cards_of t) x here))
    (λ rest. let m = mapped told x rest in (m.0, Contains-append_right (t ∷ []) told m.0 m.1, m.2))
    (Contains-append_cases (cards_of t ∷ []) (map cards_of told) x at)

map-contains : (told : List ToldSecond) (t : ToldSecond) → Contains told t → Contains (map cards_of told) (cards_of t)
map-contains [] t at = absurd (omega (arith, at.1))
map-contains (x ∷ told) t at = ⊎_elim
    (λ here. ⊎_elim (λ none. absurd (omega (arith, none.1)))
    (λ (is : x ≡ t). subst (λ (y : ToldSecond). Contains (cards_of x ∷ map cards_of told) (cards_of y)) is (Contains-append_left (cards_of x ∷ []) (map cards_of told) (cards_of x) (Contains-push [] (cards_of x)))) (Contains-push_cases [] x t here))
    (λ rest. Contains-append_right (cards_of x ∷ []) (map cards_of told) (cards_of t) (map-contains told t rest))
    (Contains-append_cases (x ∷ []) told t at)

-- how often a card entered in a minute up to a second, by what the seconds tell of cards
entered_up : Card → ℕ → CardsTold → List Visit
entered_up c u x = cond (nat_le x.number u && nat_eq (x.number / 60) (u / 60)) (filter (λ (e : Visit). same_card c e.card) x.entered) []

through : {Y : Type 0} (g : CardsTold → List Y) (told : List ToldSecond) → flat_map (λ (t : ToldSecond). g (cards_of t)) told ≡ flat_map g (map cards_of told)
through g [] = refl
through g (t ∷ told) = ap (λ (ys : List _). g (cards_of t) ++ ys) (through g told)

counted-up : (o : Origin) (done : List TraceSecond) (log : RunLog) (c : Card) (u : ℕ) → entered_by (recording_by o done log) c u ≡ length (flat_map (entered_up c u) (map cards_of (went log done).told))
unfolding entered_up
counted-up o done log c u = ap (λ (vs : List Visit). length vs) (through (entered_up c u) (went log done).told)

none-up : (c : Card) (u from : ℕ) (more : List ToldSecond) → u < from → AllByRecursion (λ (t : ToldSecond). from ≤ t.second.number) more → flat_map (entered_up c u) (map cards_of more) ≡ []
unfolding entered_up
none-up c u from [] lt h = refl
none-up c u from (t ∷ more) lt h =
    ap (λ (b : Bool). cond (b && nat_eq (t.second.number / 60) (u / 60)) (filter (λ (e : Visit). same_card c e.card) t.course.entered) [] ++ flat_map (entered_up c u) (map cards_of more)) (over t.second.number u (let le = h.0 in omega (arith, lt, le)))
    ∙ none-up c u from more lt h.1
  where
    over : (n u : ℕ) → u < n → nat_le n u ≡ false
    over n u lt = grind (arith, nat_tests)

pub entered-same : (o : Origin) (done now : List TraceSecond) (log later : RunLog) (more : List ToldSecond) (from : ℕ) → TellsMore (went log done).told (went later now).told more from → (c : Card) (u : ℕ) → u < from →
    entered_by (recording_by o now later) c u ≡ entered_by (recording_by o done log) c u
entered-same o done now log later more from tells c u lt =
    counted-up o now later c u
    ∙ ap (λ (xs : List CardsTold). length (flat_map (entered_up c u) xs)) tells.same
    ∙ ap length (flat_map-append (entered_up c u) (map cards_of (went log done).told) (map cards_of more))
    ∙ ap (λ (vs : List Visit). length (flat_map (entered_up c u) (map cards_of (went log done).told) ++ vs)) (none-up c u from more lt tells.behind)
    ∙ ap length (append-nil (flat_map (entered_up c u) (map cards_of (went log done).told)))
    ∙ sym (counted-up o done log c u)

-- a find that may be made may be made as more was left
verdict-on : (o : Origin) (done now : List TraceSecond) (log later : RunLog) (unit card unit_now card_now : List ℕ → Type 0) (c : Card) (u : ℕ) (v : Verdict) → ((x : List ℕ) → unit x → unit_now x) → ((x : List ℕ) → card x → card_now x) →
    entered_by (recording_by o now later) c u ≡ entered_by (recording_by o done log) c u → IsVerdict (recording_by o done log) unit card c u v → IsVerdict (recording_by o now later) unit_now card_now c u v
verdict-on o done now log later unit card unit_now card_now c u (Accepted replayed) left_unit left_card same h =
    (h.0, h.1, (h.2.0, h.2.1, left_unit h.2.0 h.2.2, left_card h.2.1 h.2.3, h.2.4, h.2.5))
verdict-on o done now log later unit card unit_now card_now c u (NotValid fid place) left_unit left_card same h = h
verdict-on o done now log later unit card unit_now card_now c u (TimeOverlap stored at) left_unit left_card same h =
    (h.0, h.1, (h.2.0, ⊎_elim (λ first. inl first) (λ again. inr (again.0, subst (λ (n : ℕ). 1 < n) (sym same) again.1, again.2, (again.3.0, left_card again.3.0 again.3.1, again.3.2))) h.2.1))

-- what is acknowledged is so still
pub marked-on : (marks acknowledged : List Mark) → ((mark : Mark) → Contains marks mark → Contains acknowledged mark) → (c : Card) (es : List Entry) → All (λ (e : Entry). IsMarked marks (device_of c) e.minute) es →
    All (λ (e : Entry). IsMarked acknowledged (device_of c) e.minute) es
marked-on marks acknowledged stay c es h = All-weaker (λ (e : Entry). IsMarked marks (device_of c) e.minute) (λ (e : Entry). IsMarked acknowledged (device_of c) e.minute) (λ e is. (is.0, stay is.0 is.1, is.2, is.3)) es h

-- and brings as many
brings-on : (o : Origin) (done now : List TraceSecond) (log later : RunLog) (marks acknowledged : List Mark) (c : Card) (u : ℕ) (v : Verdict) → ((mark : Mark) → Contains marks mark → Contains acknowledged mark) →
    ((t : ℕ) → t ≤ u → entered_by (recording_by o now later) c t ≡ entered_by (recording_by o done log) c t) → BringsAll (recording_by o done log) marks c u v → BringsAll (recording_by o now later) acknowledged c u v
brings-on o done now log later marks acknowledged c u (Accepted replayed) stay same h = ⊎_elim
    (λ all. inl (all.0, marked-on marks acknowledged stay c (brought o.recording c).owed all.1))
    (λ before. inr (⊎_elim
    (λ twice. inl (subst (λ (n : ℕ). 1 < n) (sym (same u (omega arith))) twice))
    (λ once. let early : once.0 ≤ u = omega (arith, once.1) in inr (once.0, once.1, subst (λ (n : ℕ). 0 < n) (sym (same once.0 early)) once.2))
    before))
    h
brings-on o done now log later marks acknowledged c u (NotValid fid place) stay same h = h
brings-on o done now log later marks acknowledged c u (TimeOverlap stored at) stay same h = h

-- both, in a second of this number
abbrev IsSeenOf : Origin → List TraceSecond → RunLog → List Mark → Devices → Visit → Verdict → ℕ → Type 0
IsSeenOf o done log marks d x v n = IsVerdict (recording_by o done log) (d.unit.left_since o.found.unit.began) ((card_of d x.card).left_since (found_of o.found x.card).began) x.card n v × BringsAll (recording_by o done log) marks x.card n v

pub verdicts-on : (o : Origin) (done now : List TraceSecond) (log later : RunLog) (unfound found : ℕ) (marks acknowledged : List Mark) (d e : Devices) (more : List ToldSecond) (from : ℕ) → AreVerdicts o done log unfound marks d → HaveLeftMore o d e →
    ((mark : Mark) → Contains marks mark → Contains acknowledged mark) → TellsMore (went log done).told (went later now).told more from →
    ((t : ToldSecond) (x : Visit) (v : Verdict) → Contains more t → Contains t.course.found (x, v) → MayBeFound o now later acknowledged e t x v) →
    AreFound (e.unit.left_since o.found.unit.began) found later.breaks → AreVerdicts o now later found acknowledged e
verdicts-on o done now log later unfound found marks acknowledged d e more from old left stay tells fresh kept = record {
  kept = kept;
  each = λ t x v at seen.
      let there = subst (λ (xs : List CardsTold). Contains xs (cards_of t)) tells.same (map-contains (went later now).told t at) in
      ⊎_elim
      (λ before.
      let m = mapped (went log done).told (cards_of t) before in
      let number : m.0.second.number ≡ t.second.number = ap (λ (y : CardsTold). y.number) m.2 in
      let was = old.each m.0 x v m.1 (subst (λ (fs : List (Visit × Verdict)). Contains fs (x, v)) (sym (ap (λ (y : CardsTold). y.found) m.2)) seen) in
      let lt = tells.before m.0 m.1 in
      subst (IsSeenOf o now later acknowledged e x v) number (
        verdict-on o done now log later (d.unit.left_since o.found.unit.began) ((card_of d x.card).left_since (found_of o.found x.card).began) (e.unit.left_since o.found.unit.began) ((card_of e x.card).left_since (found_of o.found x.card).began) x.card m.0.second.number v
            left.unit (left.card x.card) (entered-same o done now log later more from tells x.card m.0.second.number lt) was.0,
        brings-on o done now log later marks acknowledged x.card m.0.second.number v stay (λ n low. entered-same o done now log later more from tells x.card n (omega (arith, low, lt))) was.1,
      ))
      (λ behind.
      let m = mapped more (cards_of t) behind in
      let number : m.0.second.number ≡ t.second.number = ap (λ (y : CardsTold). y.number) m.2 in
      subst (IsSeenOf o now later acknowledged e x v) number
      (fresh m.0 x v m.1 (subst (λ (fs : List (Visit × Verdict)). Contains fs (x, v)) (sym (ap (λ (y : CardsTold). y.found) m.2)) seen)))
      (Contains-append_cases (map cards_of (went log done).told) (map cards_of more) (cards_of t) there);
}

-- WHICH CARDS may be written
entered_of : Card → CardsTold → List Visit
entered_of c x = filter (λ (e : Visit). same_card c e.card) x.entered

overlaps_of : Recording → Card → CardsTold → List (Visit × Verdict)
overlaps_of r c x = filter (λ (f : Visit × Verdict). same_card c f.0.card && is_overlap r c f.1) x.found

entered-as : (o : Origin) (done : List TraceSecond) (log : RunLog) (c : Card) → entered (recording_by o done log) c ≡ length (flat_map (entered_of c) (map cards_of (went log done).told))
unfolding entered_of
entered-as o done log c = ap (λ (vs : List Visit). length vs) (through (entered_of c) (went log done).told)

overlaps-as : (o : Origin) (done : List TraceSecond) (log : RunLog) (r : Recording) (c : Card) → overlaps (recording_by o done log) c ≡ length (flat_map (overlaps_of r c) (map cards_of (went log done).told))
unfolding overlaps_of
overlaps-as o done log r c = ap (λ (vs : List (Visit × Verdict)). length vs) (through (overlaps_of r c) (went log done).told)

both-of : {Y : Type 0} (g : CardsTold → List Y) (xs ys : List CardsTold) → length (flat_map g (xs ++ ys)) ≡ length (flat_map g xs) + length (flat_map g ys)
both-of g xs ys = ap length (flat_map-append g xs ys) ∙ length-append (flat_map g xs) (flat_map g ys)

fewer-of : (r : Recording) (c : Card) (more : List ToldSecond) → AreFewer r more → length (flat_map (overlaps_of r c) (map cards_of more)) ≤ length (flat_map (entered_of c) (map cards_of more))
unfolding entered_of overlaps_of
fewer-of r c [] h = omega arith
fewer-of r c (t ∷ more) h =
    let rest = fewer-of r c more h.1 in
    let here = h.0 c in
    let a = length-append (overlaps_of r c (cards_of t)) (flat_map (overlaps_of r c) (map cards_of more)) in
    let b = length-append (entered_of c (cards_of t)) (flat_map (entered_of c) (map cards_of more)) in
    omega (arith, rest, here, a, b)

pub written-on : (o : Origin) (done now : List TraceSecond) (log later : RunLog) (more : List ToldSecond) (from : ℕ) → TellsMore (went log done).told (went later now).told more from → AreFewer o.recording more → (c : Card) →
    MayBeWritten (recording_by o done log) c → MayBeWritten (recording_by o now later) c
written-on o done now log later more from tells few c may =
    let r : Recording = o.recording in
    let old_o = overlaps-as o done log r c in
    let old_e = entered-as o done log c in
    let new_o = overlaps-as o now later r c ∙ ap (λ (xs : List CardsTold). length (flat_map (overlaps_of r c) xs)) tells.same ∙ both-of (overlaps_of r c) (map cards_of (went log done).told) (map cards_of more) in
    let new_e = entered-as o now later c ∙ ap (λ (xs : List CardsTold). length (flat_map (entered_of c) xs)) tells.same ∙ both-of (entered_of c) (map cards_of (went log done).told) (map cards_of more) in
    let le = fewer-of r c more few in
    let lt = may.1 in
    (may.0, omega (arith, old_o, old_e, new_o, new_e, le, lt))

-- no card is found to tell of a later time more often than it entered
pub few-on : FewAreFoundOn
few-on o done now log later more from old tells few c =
    let r : Recording = o.recording in
    let old_o = overlaps-as o done log r c in
    let old_e = entered-as o done log c in
    let new_o = overlaps-as o now later r c ∙ ap (λ (xs : List CardsTold). length (flat_map (overlaps_of r c) xs)) tells.same ∙ both-of (overlaps_of r c) (map cards_of (went log done).told) (map cards_of more) in
    let new_e = entered-as o now later c ∙ ap (λ (xs : List CardsTold). length (flat_map (entered_of c) xs)) tells.same ∙ both-of (entered_of c) (map cards_of (went log done).told) (map cards_of more) in
    let le = fewer-of r c more few in
    let low = old c in
    omega (arith, old_o, old_e, new_o, new_e, le, low)

pub spared-on : (o : Origin) (done now : List TraceSecond) (log later : RunLog) (d e : Devices) (more : List ToldSecond) (from : ℕ) → AreSpared o done log d → TellsMore (went log done).told (went later now).told more from → AreFewer o.recording more →
    ((c : Card) → IsUntouched (found_of o.found c) (card_of d c) → IsUntouched (found_of o.found c) (card_of e c) ⊎ MayBeWritten (recording_by o now later) c) → AreSpared o now later e
spared-on o done now log later d e more from old tells few step c = ⊎_elim
    (λ whole. step c whole)
    (λ may. inr (written-on o done now log later more from tells few c may))
    (old c)

-- where no card enters
pub idle-few : (r : Recording) (more : List ToldSecond) → AreIdle more → AreFewer r more
idle-few r [] h = tt
idle-few r (t ∷ more) h = ((λ c. subst (λ (fs : List (Visit × Verdict)). length (filter (λ (f : Visit × Verdict). same_card c f.0.card && is_overlap r c f.1) fs) ≤ length (entered_in c t)) (sym h.0.1) (omega arith)), idle-few r more h.1)

nothing-found : (more : List ToldSecond) → AreIdle more → (t : ToldSecond) (x : Visit) (v : Verdict) → Contains more t → Contains t.course.found (x, v) → ⊥
nothing-found more idle t x v at seen =
    let none = (each-of (λ (t : ToldSecond). (t.course.entered ≡ []) × (t.course.found ≡ [])) more t idle at).1 in
    let gone : Contains {X = Visit × Verdict} [] (x, v) = subst (λ (fs : List (Visit × Verdict)). Contains fs (x, v)) none seen in
    omega (arith, gone.1)

pub idle-verdicts : (o : Origin) (done now : List TraceSecond) (log later : RunLog) (unfound found : ℕ) (marks : List Mark) (d e : Devices) (more : List ToldSecond) (from : ℕ) → AreVerdicts o done log unfound marks d → HaveLeftMore o d e → TellsMore (went log done).told (went later now).told more from → AreIdle more → AreFound (e.unit.left_since o.found.unit.began) found later.breaks → AreVerdicts o now later found marks e
idle-verdicts o done now log later unfound found marks d e more from old left tells idle kept = verdicts-on o done now log later unfound found marks marks d e more from old left (λ mark among. among) tells (λ t x v at seen. absurd (nothing-found more idle t x v at seen)) kept

pub idle-spared : (o : Origin) (done now : List TraceSecond) (log later : RunLog) (d e : Devices) (more : List ToldSecond) (from : ℕ) → AreSpared o done log d → TellsMore (went log done).told (went later now).told more from → AreIdle more →
    ((c : Card) → IsUntouched (found_of o.found c) (card_of d c) → IsUntouched (found_of o.found c) (card_of e c) ⊎ MayBeWritten (recording_by o now later) c) → AreSpared o now later e
idle-spared o done now log later d e more from old tells idle step = spared-on o done now log later d e more from old tells (idle-few o.recording more idle) step

-- no more was found than entered
pub fewer-found : (r : Recording) (c : Card) (fs : List (Visit × Verdict)) → length (filter (λ (f : Visit × Verdict). same_card c f.0.card && is_overlap r c f.1) fs) ≤ finds_by c fs
fewer-found r c [] = omega arith
fewer-found r c (f ∷ fs) = by (same_card c f.0.card) (is_overlap r c f.1) (fewer-found r c fs)
  where
    by : (a b : Bool) → length (filter (λ (f : Visit × Verdict). same_card c f.0.card && is_overlap r c f.1) fs) ≤ finds_by c fs →
        length (cond (a && b) (f ∷ filter (λ (f : Visit × Verdict). same_card c f.0.card && is_overlap r c f.1) fs) (filter (λ (f : Visit × Verdict). same_card c f.0.card && is_overlap r c f.1) fs))
        ≤ length (cond a (f ∷ filter (λ (f : Visit × Verdict). same_card c f.0.card) fs) (filter (λ (f : Visit × Verdict). same_card c f.0.card) fs))
    by true true le = omega (arith, le)
    by true false le = omega (arith, le)
    by false b le = le

visits-as : (c : Card) (vs : List Visit) → times_of c vs ≡ length (filter (λ (e : Visit). same_card c e.card) vs)
visits-as c [] = refl
visits-as c (v ∷ vs) = by (same_card c v.card) (visits-as c vs)
  where
    by : (b : Bool) → times_of c vs ≡ length (filter (λ (e : Visit). same_card c e.card) vs) →
        length (cond b (v.card ∷ filter (same_card c) (map (λ (v : Visit). v.card) vs)) (filter (same_card c) (map (λ (v : Visit). v.card) vs)))
        ≡ length (cond b (v ∷ filter (λ (e : Visit). same_card c e.card) vs) (filter (λ (e : Visit). same_card c e.card) vs))
    by true is = ap suc is
    by false is = is

pub fewer-are_found : FewerAreFound
fewer-are_found r t few = ((λ c. let le = few c in let low = fewer-found r c t.course.found in let as_ = visits-as c t.course.entered in omega (arith, le, low, as_)), tt)

-- WHAT WAS FOUND KEPT after cuts stays so as more is left;
found-left : (unit now : List ℕ → Type 0) → ((x : List ℕ) → unit x → now x) → (b : Break) → WasFound unit b → WasFound now b
found-left unit now more (Cut second kept failed begun) h = (h.0, more h.0 h.1, h.2)
found-left unit now more (Tear second slot failed begun late) h = tt

pub kept-later : (unit now : List ℕ → Type 0) → ((x : List ℕ) → unit x → now x) → (n : ℕ) (bs : List Break) → AreFound unit n bs → AreFound now n bs
kept-later unit now more n [] h = tt
kept-later unit now more zero (b ∷ bs) h = (h.0, kept-later unit now more zero bs h.1)
kept-later unit now more (suc n) (b ∷ bs) h = (found-left unit now more b h.0, kept-later unit now more n bs h.1)

-- a tear is no cut, and after a new one nothing was found yet;
kept-more : (unit : List ℕ → Type 0) (n : ℕ) (bs more : List Break) → n ≤ length bs → AreFound unit n bs → AllByRecursion IsUnfound more → AreFound unit n (bs ++ more)
kept-more unit zero [] [] le h none = tt
kept-more unit zero [] (b ∷ more) le h none = (none.0, kept-more unit zero [] more (omega arith) tt none.1)
kept-more unit (suc n) [] more le h none = absurd (omega (arith, le))
kept-more unit zero (b ∷ bs) more le h none = (h.0, kept-more unit zero bs more (omega arith) h.1 none)
kept-more unit (suc n) (b ∷ bs) more le h none = (h.0, kept-more unit n bs more (omega (arith, le)) h.1 none)

uncut-unfound : (b : Break) → is_cut b ≡ false → IsUnfound b
uncut-unfound (Cut second kept failed begun) h = absurd (cc)
uncut-unfound (Tear second slot failed begun late) h = tt

all-unfound : (bs : List Break) → AllByRecursion (λ (b : Break). is_cut b ≡ false) bs → AllByRecursion IsUnfound bs
all-unfound [] h = tt
all-unfound (b ∷ bs) h = (uncut-unfound b h.0, all-unfound bs h.1)

pub kept-on : (unit : List ℕ → Type 0) (n : ℕ) (bs more : List Break) → n ≤ length bs → AreFound unit n bs → AllByRecursion (λ (b : Break). is_cut b ≡ false) more → AreFound unit n (bs ++ more)
kept-on unit n bs more le h uncut = kept-more unit n bs more le h (all-unfound more uncut)

pub kept-cut : (unit : List ℕ → Type 0) (n : ℕ) (bs : List Break) (second : ℕ) (failed : Bool) (begun : ℕ) → n ≤ length bs → AreFound unit n bs → AreFound unit n (bs ++ cut_at second failed begun ∷ [])
kept-cut unit n bs second failed begun le h = kept-more unit n bs (cut_at second failed begun ∷ []) le h (refl, tt)

pub kept-on_cut : (unit : List ℕ → Type 0) (n : ℕ) (bs more : List Break) (second : ℕ) (failed : Bool) (begun : ℕ) → n ≤ length bs → AreFound unit n bs → AllByRecursion (λ (b : Break). is_cut b ≡ false) more →
    AreFound unit n ((bs ++ more) ++ cut_at second failed begun ∷ [])
kept-on_cut unit n bs more second failed begun le h uncut = kept-cut unit n (bs ++ more) second failed begun (let total = length-append bs more in omega (arith, le, total)) (kept-on unit n bs more le h uncut)

-- and a power-on finds what an image shows
found-so : (unit : List ℕ → Type 0) (k : ℕ) → ((x : List ℕ) × unit x × (last_kept x ≡ k)) → (b : Break) → WasFound unit (with_kept k b)
found-so unit k read (Cut second kept failed begun) = read
found-so unit k read (Tear second slot failed begun late) = tt

pub kept-found : (unit : List ℕ → Type 0) (k : ℕ) → ((x : List ℕ) × unit x × (last_kept x ≡ k)) → (n : ℕ) (bs : List Break) → AreFound unit n bs → AreFound unit (length (found_from n k bs)) (found_from n k bs)
kept-found unit k read zero [] h = tt
kept-found unit k read zero (b ∷ bs) h = (found-so unit k read b, kept-found unit k read zero bs h.1)
kept-found unit k read (suc n) [] h = tt
kept-found unit k read (suc n) (b ∷ bs) h = (h.0, kept-found unit k read n bs h.1)

-- so of each break it was found, or it is one of the others
pub found-or : (unit : List ℕ → Type 0) (n : ℕ) (bs : List Break) (b : Break) → AreFound unit n bs → Contains bs b → WasFound unit b ⊎ (IsUnfound b × Contains (drop n bs) b)
found-or unit n [] b h at = absurd (omega (arith, at.1))
found-or unit zero (x ∷ bs) b h at = ⊎_elim
    (λ here. ⊎_elim (λ none. absurd (omega (arith, none.1))) (λ (is : x ≡ b). inr (subst IsUnfound is h.0, at)) (Contains-push_cases [] x b here))
    (λ rest. ⊎_elim (λ found. inl found) (λ other. inr (other.0, at)) (found-or unit zero bs b h.1 rest))
    (Contains-append_cases (x ∷ []) bs b at)
found-or unit (suc n) (x ∷ bs) b h at = ⊎_elim
    (λ here. ⊎_elim (λ none. absurd (omega (arith, none.1))) (λ (is : x ≡ b). inl (subst (WasFound unit) is h.0)) (Contains-push_cases [] x b here))
    (λ rest. found-or unit n bs b h.1 rest)
    (Contains-append_cases (x ∷ []) bs b at)
